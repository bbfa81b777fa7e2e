use Rattle.std.proofs.Common.{refl, inr, arith}
use Rattle.pass.specs.Known.{ident, entered, spelled}
use Rattle.pass.specs.Reads.{With}
use Rattle.pass.proofs.Spots.{exit}
use Rattle.pass.proofs.Tables.{past_name, added_on}
use Rattle.pass.proofs.Lookups.{noted_again, among_by}
use Rattle.pass.proofs.descent.Descent.declaration.Goals as goal

pub returns-in_err-inside : goal.returns-in_err-inside
returns-in_err-inside c =
    let text = c.args.self.now.text.now in
    let h = c.args.heads.now in
    let q = c.in_ok-after.ensures in
    let again = among_by (λ f. f.name.now) (λ f. f.target) c.function_of.ensures c.deref.ensures.0 c.spelling-name.ensures c.is_some-again.ensures in
    let o = noted_again _ (spelled (entered h.functions.items)) (ident text h.next.look) c.note.ensures c.then_some.ensures c.refused.ensures again in
    exit _ _ _ c.from_residual-in_err-inside.ensures.1 (inr (_, past_name text h (omega (arith, q.0, c.len.ensures.value)) q.1 q.2 o, c.in_err-inside.ensures))

pub returns : goal.returns
returns c =
    let text = c.args.self.now.text.now in
    let h = c.args.heads.now in
    let q = c.in_ok-after.ensures in
    let again = among_by (λ f. f.name.now) (λ f. f.target) c.function_of.ensures c.deref.ensures.0 c.spelling-name.ensures c.is_some-again.ensures in
    let o = noted_again _ (spelled (entered h.functions.items)) (ident text h.next.look) c.note.ensures c.then_some.ensures c.refused.ensures again in
    let e = c.in_ok-inside.ensures in
    let n = past_name text h (omega (arith, q.0, c.len.ensures.value)) q.1 q.2 o in
    let w : With text h c.in_ok-inside.inside (record { next = c.in_ok-inside.inside.next; over = c.first_over-heads.result; functions = c.push.new.self }) =
    record { next = refl; over = c.first_over-heads.ensures; function = _; listed = c.push.ensures.items; named = c.spelling-name.ensures; takes = refl; begins = refl } in
    record {
      inside = _;
      declared = c.in_ok-inside.inside;
      named = n;
      headed = e;
      more = w;
      on = added_on text c.args.self.now.functions.now h c.requires n e w;
      far = omega (arith, q.1.far, e.far);
    }
