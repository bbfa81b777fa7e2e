use Rattle.std.proofs.Common.{◌∷◌, reverse, ap, ◌∙◌, arith}
use Rattle.recipe.specs.Image.{Bound}
use Rattle.pass.specs.declared.output.Output.{Output}
use Rattle.pass.specs.Known.{ident, in_force, spelled}
use Rattle.pass.specs.Outputs.{faulted, again}
use Rattle.pass.proofs.Makes.{at_of}
use Rattle.pass.proofs.Lookups.{noted_again, among_by, in_force_more}
use Rattle.pass.proofs.descent.Descent.parameter.Goals as goal

pub returns-then-slot-lt8 : goal.returns-then-slot-lt8
returns-then-slot-lt8 c =
    let scope = c.args.scope.now.items in
    let x = ident c.args.self.now.text.now c.args.here.look in
    let known = spelled (in_force scope) in
    let a = c.in_ok-after.ensures in
    let stands = among_by (λ v. v.name.now) (λ v. v.slot) c.variable_of.ensures (ap reverse c.deref.ensures.0) c.spelling-name.ensures c.is_some-again.ensures in
    let o = noted_again _ known x c.note.ensures c.then_some-fault.ensures c.refused.ensures stands in
    record {
      few = omega (arith, c.if-slot-lt8.true, c.len-slot.ensures.value);
      far = a.0.far;
      fit = (a.0.fit.0, a.0.fit.1, omega (arith, at_of o, a.0.fit.2), a.0.fit.3);
      token = a.0.token;
      same = a.1;
      out = o ∙ ap (λ (p : Output). faulted p (again known x)) a.0.out;
      counted = c.push.ensures.len;
      known = ap in_force c.push.ensures.items ∙ (in_force_more scope _ ∙ ap (λ (b : Bound). b ∷ in_force scope) (cc (c.spelling-name.ensures, c.len-slot.ensures.value)));
    }
