use Rattle.std.proofs.Common.{ℕ, List, [], ◌∷◌, Option, reverse, set, is_some, sym, ap, ◌∙◌}
use Rattle.recipe.specs.Names.{fault_unless}
use Rattle.recipe.specs.Image.{VAR}
use Rattle.recipe.specs.declared.cause.Refusal.{Refusal}
use Rattle.recipe.specs.declared.cause.Cause.TheVariants.{UnknownName}
use Rattle.std.specs.Option.{option_map_or}
use Rattle.pass.specs.declared.names.Variable.{Variable}
use Rattle.pass.specs.declared.output.Output.{Output}
use Rattle.pass.specs.Known.{ident, newest_of}
use Rattle.pass.specs.Outputs.{pushed, faulted}
use Rattle.pass.proofs.Lookups.{among_first, found_first}
use Rattle.pass.proofs.descent.Descent.load.Goals as goal

abbrev named : Variable → List ℕ
named v = v.name.now

abbrev slot : Variable → ℕ
slot v = v.slot

pub returns-in-Some : goal.returns-in-Some
returns-in-Some c =
    let scope = c.args.scope.now in
    let x = ident c.args.self.now.text.now c.args.here.now.look in
    let found = sym (c.in-Some.ensures ∙ ap (newest_of scope) c.spelling.ensures) in
    record {
      made = c.push.ensures.made ∙ ap (λ t. pushed c.args.held (faulted c.args.out (fault_unless t x.place UnknownName))) (sym (among_first named slot (reverse scope) x.name ∙ ap is_some found));
      written = c.push.ensures.written ∙ ap (set c.args.image.now c.args.out.at) (ap VAR (sym (found_first named slot (reverse scope) x.name ∙ ap (λ (v : Option Variable). option_map_or slot v 0) found)));
    }

pub returns-in-None : goal.returns-in-None
returns-in-None c =
    let scope = c.args.scope.now in
    let x = ident c.args.self.now.text.now c.args.here.now.look in
    let found = sym (c.in-None.ensures ∙ ap (newest_of scope) c.spelling.ensures) in
    let noted = c.note.ensures ∙ ap (λ (e : Refusal). faulted c.args.out (e ∷ [])) c.refused.ensures in
    record {
      made = c.push-in-None.ensures.made ∙ (ap (pushed c.args.held) noted
          ∙ ap (λ t. pushed c.args.held (faulted c.args.out (fault_unless t x.place UnknownName))) (sym (among_first named slot (reverse scope) x.name ∙ ap is_some found)));
      written = c.push-in-None.ensures.written ∙ (ap (λ (o : Output). set c.args.image.now o.at (VAR 0)) noted
          ∙ ap (set c.args.image.now c.args.out.at) (ap VAR (sym (found_first named slot (reverse scope) x.name ∙ ap (λ (v : Option Variable). option_map_or slot v 0) found))));
    }
