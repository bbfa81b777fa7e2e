use Rattle.std.proofs.Common.{◌+◌, length, sym, refl, ap, ◌∙◌, arith}
use Rattle.recipe.specs.Grammar.{one_only, and_then}
use Rattle.pass.specs.Known.{ident, env}
use Rattle.pass.proofs.Steps.{names_first, names_more, head_read}
use Rattle.pass.proofs.Makes.{at_of}
use Rattle.pass.proofs.Heads.{all_size, parameters_first, parameters_more, made_head}
use Rattle.pass.proofs.descent.Descent.head.Goals as goal

pub loop-next-init : goal.loop-next-init
unfolding names_first
loop-next-init c =
    let text = c.args.self.now.text.now in
    let x = ident text c.in_ok-first.first.look in
    let o = c.in_ok-first.ensures in
    let k = c.new-scope.ensures in
    let n = c.in_ok-so_far.ensures in
    record {
      far = omega (arith, o.0.far, n.far);
      fit = n.fit;
      same = n.same ∙ o.1;
      few = omega (arith, n.counted, ap length k);
      read = record { names = one_only x; sized = omega (arith, n.counted, ap length k); goes = (names_first (length text) x o.0.token o.1 n.token n.same).goes };
      made = parameters_first _ _ _ _ _ x k o.0.out n.out n.known;
    }

pub loop-next-preserved : goal.loop-next-preserved
unfolding names_more
loop-next-preserved c =
    let text = c.args.self.now.text.now in
    let x = ident text c.in-Ok.next.look in
    let i = c.loop-next.invariant in
    let q = c.in-Ok.ensures in
    let n = c.in_ok-so_far-2.ensures in
    record {
      far = omega (arith, i.far, q.0.far, n.far);
      fit = n.fit;
      same = n.same ∙ (q.1 ∙ i.same);
      few = omega (arith, n.few, n.counted);
      read = record { names = and_then i.read.names x; sized = ap (λ y. y + 1) i.read.sized ∙ sym n.counted; goes = (names_more (length text) x i.read q.0.token q.1 n.token n.same n.few).goes };
      made = parameters_more _ _ _ _ c.loop-next.scope.items _ i.read.names x (sym i.read.sized) i.made q.0.out n.out n.known;
    }

pub returns : goal.returns
unfolding head_read
returns c =
    let text = c.args.self.now.text.now in
    let i = c.loop-next.invariant in
    let w = c.in_ok-close.ensures in
    let q = c.in_ok-equals.ensures in
    let r = c.in_ok-last.ensures.goes in
    let o = q.0.out ∙ w.0.out in
    let fn = at_of c.emit.ensures.made in
    let back = at_of c.emit-2.ensures.made in
    let n = c.len-arity.ensures.value ∙ (sym i.read.sized ∙ sym (all_size i.read.names)) in
    record {
      far = omega (arith, i.far, w.0.far, q.0.far, r.on.far);
      slow = omega (arith, i.same, w.1, q.1, at_of o, at_of i.made.out, fn, back, r.on.slow);
      fit = (r.on.fit.0, r.on.fit.1, omega (arith, c.requires.1, i.same, w.1, q.1, at_of o, at_of i.made.out, fn, back, r.on.slow), r.on.fit.3);
      read = record { names = i.read.names; tree = r.read.tree; goes = (head_read (length text) i.read w.0.token q.0.token i.fit.1 (q.1 ∙ w.1) r.read).goes };
      made = made_head (env c.args.self.now.functions.now c.loop-next.scope.items) c.args.image.now i.read.names c.loop-next.scope.items c.len-arity.result r.read.tree
          i.made o refl n c.emit.ensures.made c.emit.ensures.written refl r.made c.emit-2.ensures.made c.emit-2.ensures.written refl;
      counted = n;
    }
