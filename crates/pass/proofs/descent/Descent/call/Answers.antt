use Rattle.std.proofs.Common.{ℕ, ◌==◌, not, List, [], ◌∷◌, Option, set, sym, ap, ◌∙◌}
use mathlib.Core.Option as opt
use Rattle.std.specs.Bool.{then_some}
use Rattle.std.specs.Option.{option_to_list, option_map_or}
use Rattle.pass.specs.declared.names.Function.{Function}
use Rattle.recipe.specs.Names.{call_faults}
use Rattle.recipe.specs.Image.{CALL}
use Rattle.recipe.specs.declared.cause.Refusal.{Refusal}
use Rattle.recipe.specs.declared.cause.Cause.TheVariants.{ArgumentCount}
use Rattle.pass.specs.declared.output.Output.{Output}
use Rattle.pass.specs.Known.{ident, first_of}
use Rattle.pass.specs.Outputs.{emitted, faulted}
use Rattle.pass.proofs.Lookups.{arity_at, arity_first, found_first}
use Rattle.pass.proofs.Makes.{noted_unless}
use Rattle.pass.proofs.descent.Descent.call.Goals as goal

abbrev named : Function → List ℕ
named f = f.name.now

abbrev target : Function → ℕ
target f = f.target

pub returns-in-Some : goal.returns-in-Some
returns-in-Some c =
    let functions = c.args.self.now.functions.now in
    let x = ident c.args.self.now.text.now c.args.here.now.look in
    let f = c.in-Some.f in
    let n = c.args.given in
    let found = sym (c.in-Some.ensures ∙ ap (first_of functions) c.spelling.ensures) in
    let own : Refusal = record { cause = ArgumentCount; place = x.place } in
    let noted = c.note.ensures ∙ (ap (λ (e : Option Refusal). faulted c.args.out (option_to_list e)) (c.then_some-fault.ensures ∙ ap (then_some (not (f.arity == n))) c.refused.ensures)
    ∙ ap (faulted c.args.out) (noted_unless (f.arity == n) own)) in
    record {
      made = c.emit.ensures.made ∙ (ap emitted noted ∙ ap (λ (a : opt.Option ℕ). emitted (faulted c.args.out (call_faults a n x.place))) (sym (arity_first functions x.name ∙ ap arity_at found)));
      written = c.emit.ensures.written ∙ (ap (λ (o : Output). set c.args.image.now o.at (CALL n f.target)) noted
          ∙ ap (set c.args.image.now c.args.out.at) (ap (CALL n) (sym (found_first named target functions x.name ∙ ap (λ (g : Option Function). option_map_or target g 0) found))));
    }

pub returns-in-None : goal.returns-in-None
returns-in-None c =
    let functions = c.args.self.now.functions.now in
    let x = ident c.args.self.now.text.now c.args.here.now.look in
    let n = c.args.given in
    let found = sym (c.in-None.ensures ∙ ap (first_of functions) c.spelling.ensures) in
    let noted = c.note-in-None.ensures ∙ ap (λ (e : Refusal). faulted c.args.out (e ∷ [])) c.refused-in-None.ensures in
    record {
      made = c.emit-in-None.ensures.made ∙ (ap emitted noted ∙ ap (λ (a : opt.Option ℕ). emitted (faulted c.args.out (call_faults a n x.place))) (sym (arity_first functions x.name ∙ ap arity_at found)));
      written = c.emit-in-None.ensures.written ∙ (ap (λ (o : Output). set c.args.image.now o.at (CALL n 0)) noted
          ∙ ap (set c.args.image.now c.args.out.at) (ap (CALL n) (sym (found_first named target functions x.name ∙ ap (λ (g : Option Function). option_map_or target g 0) found))));
    }
