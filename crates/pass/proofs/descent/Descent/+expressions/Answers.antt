use Rattle.std.proofs.Common.{◌+◌, length, ap, ◌∙◌, arith}
use Rattle.recipe.specs.declared.Word.TheVariants.{Open, Let, Ifp}
use Rattle.lexer.specs.declared.Kind.TheVariants.{Word as WordKind}
use Rattle.std.proofs.lemmas.Result.{MatchResult-weaker}
use Rattle.pass.specs.Known.{ident}
use Rattle.pass.specs.Outputs.{emitted, Made, MadeAll}
use Rattle.pass.specs.Reads.{ahead}
use Rattle.recipe.specs.Machine.{nothing}
use Rattle.pass.proofs.Lookups.{inner_env}
use Rattle.pass.proofs.Steps.{known_ahead, other, arguments_more, arguments_more_bad, arguments_done, arguments_bad, number_read, name_read, call_read}
use Rattle.pass.proofs.Steps.{bracket_read, bracket_bad, chain_more, chain_more_bad, chain_full, chain_done, not_joined, let_read, let_bad, ifp_read, ifp_bad}
use Rattle.pass.proofs.Steps.{ifp_else_bad, ifp_first_bad, no_let_ifp}
use Rattle.pass.proofs.Makes.{at_of, from, to, knowing, made_num, made_var, made_group, made_op, made_let, made_ifp, made_more, made_call}
use Rattle.pass.proofs.Spots.{further, past_kind, exit, first_argument, first_operand}
use Rattle.pass.proofs.descent.Descent.+expressions.Goals as goal

pub arguments-returns-in_err-so_far-2-clause-goes : goal.arguments-returns-in_err-so_far-2-clause-goes
arguments-returns-in_err-so_far-2-clause-goes t c =
    let text = c.args.self.now.text.now in
    let s = c.in_ok-so_far.ensures in
    let i = ((rw s.kept at c.loop-next.invariant.0).2 c.args.image.now (first_argument s.goes)).through in
    let n = c.in-Ok.ensures in
    let b = rw c.holding.ensures at c.in_err-so_far-2.ensures.goes in
    exit _ _ _ c.from_residual-in_err-so_far-2.ensures.1 (arguments_more_bad (length text) i.read n.0.token c.requires.1.0 i.on.fit.1 n.1 b)

pub arguments-loop-next-preserved : goal.arguments-loop-next-preserved
unfolding arguments_more
arguments-loop-next-preserved t c =
    let j = c.loop-next.invariant.0 in
    let n = c.in-Ok.ensures in
    let r = rw (c.holding.ensures, c.loop-next.invariant.1) at c.in_ok-so_far-2.ensures.goes in
    let on = further c.requires.0 c.in_ok-so_far-2.so_far r.on.fit (omega (arith, j.0.far, n.0.far, r.on.far)) (omega (arith, j.0.more, n.1, r.on.more)) _
    (omega (arith, j.0.slow, n.1, at_of n.0.out, r.on.slow)) in (
      (
        on,
        omega (arith, j.1, n.1, r.on.more),
        λ m g₀.
            let g = j.2 m g₀ in
            let i = g.through in
            record {
              through = record {
                on = on;
                read = arguments_more (length c.args.self.now.text.now) i.read n.0.token c.requires.1.0 i.on.fit.1 n.1 r.read;
                made = made_more i.made g.counted (from Made n.0.out r.made);
              };
              counted = ap (λ x. x + 1) g.counted;
              few = omega (arith, g.few, n.1, r.on.more);
            },
      ),
      c.in_ok-so_far-2.ensures.kept ∙ c.loop-next.invariant.1,
    )

pub arguments-returns-in_err-next-clause-goes : goal.arguments-returns-in_err-next-clause-goes
arguments-returns-in_err-next-clause-goes t c =
    let s = c.in_ok-so_far.ensures in
    let i = ((rw s.kept at c.loop-next.invariant.0).2 c.args.image.now (first_argument s.goes)).through in
    let r = c.in_err-next.ensures in
    exit _ _ _ c.from_residual-in_err-next.ensures.1 (rw (r.0.0, r.0.1) (arguments_bad (length c.args.self.now.text.now) i.read c.in_default.ensures.1 r.1))

pub arguments-returns-clause-goes : goal.arguments-returns-clause-goes
unfolding arguments_done
arguments-returns-clause-goes t c =
    let s = c.in_ok-so_far.ensures in
    let g = (rw s.kept at c.loop-next.invariant.0).2 c.args.image.now (first_argument s.goes) in
    let i = g.through in
    let r = c.in_ok-next.ensures in
    record {
      through = record {
        on = further c.requires.0 c.in_ok-next.next r.0.fit (omega (arith, i.on.far, r.0.far)) (omega (arith, i.on.more, r.1)) _ (omega (arith, i.on.slow, r.1, at_of r.0.out));
        read = arguments_done (length c.args.self.now.text.now) i.read r.0.token i.on.fit.1 r.1;
        made = to MadeAll r.0.out i.made;
      };
      counted = g.counted;
      few = omega (arith, g.few, r.1);
    }

pub atom-returns-in_ok-after-in-Number-clause-goes : goal.atom-returns-in_ok-after-in-Number-clause-goes
unfolding number_read
atom-returns-in_ok-after-in-Number-clause-goes t c =
    let a = c.in_ok-after-in-Number.ensures in
    let d = past_kind c.in-Number.is a.0 in
    record {
      on = further c.requires.0 c.in_ok-after-in-Number.after a.0.fit a.0.far (omega (arith, a.1)) _ (omega (arith, a.1, at_of c.push.ensures.made, at_of a.0.out));
      read = number_read (length c.args.self.now.text.now) _ d a.1 a.0.fit.1;
      made = from Made a.0.out (made_num _ c.push.ensures.made c.push.ensures.written);
    }

pub binding-returns-clause-goes : goal.binding-returns-clause-goes
unfolding let_read
binding-returns-clause-goes t c =
    let text = c.args.self.now.text.now in
    let functions = c.args.self.now.functions.now in
    let i = c.in_ok-deeper.ensures in
    let e = c.in_ok-named.ensures in
    let n = c.in_ok-equals.ensures in
    let q = c.in_ok-value.ensures in
    let v = rw i.1 at c.in_ok-within.ensures.goes in
    let k = c.in_ok-within.ensures.kept in
    let w = c.in_ok-body.ensures in
    let r = rw (c.holding.ensures, i.1) at c.in_ok-last.ensures.goes in
    let d = past_kind c.requires.kind e.0 in
    let o = q.0.out ∙ (n.0.out ∙ e.0.out) in
    let x = ident text c.in_ok-named.named.look in
    let known = inner_env functions _ x.name k c.push.ensures.items c.spelling.ensures in
    record {
      on = further c.requires.ready.0 c.in_ok-last.last r.on.fit (omega (arith, e.0.far, n.0.far, q.0.far, v.on.far, w.0.far, r.on.far)) (omega (arith, e.1, n.1, q.1, v.on.more, w.1, r.on.more)) _
          (omega (arith, e.1, n.1, q.1, at_of o, v.on.slow, w.1, at_of w.0.out, r.on.slow, at_of c.emit.ensures.made));
      read = let_read (length text) x d i.0 e.1 e.0.fit.1 n.0.token q.0.token (q.1 ∙ n.1) v.read w.0.token v.on.fit.1 w.1 r.read;
      made = made_let x (from Made o v.made) (from Made w.0.out (knowing known r.made)) c.emit.ensures.made c.emit.ensures.written;
    }

pub binding-returns-in_err-last-clause-goes : goal.binding-returns-in_err-last-clause-goes
binding-returns-in_err-last-clause-goes t c =
    let text = c.args.self.now.text.now in
    let i = c.in_ok-deeper.ensures in
    let e = c.in_ok-named.ensures in
    let n = c.in_ok-equals.ensures in
    let q = c.in_ok-value.ensures in
    let v = rw i.1 at c.in_ok-within.ensures.goes in
    let w = c.in_ok-body.ensures in
    let x = ident text c.in_ok-named.named.look in
    let b = rw (c.holding.ensures, i.1) at c.in_err-last.ensures.goes in
    exit _ _ _ c.from_residual-in_err-last.ensures.1
    (let_bad (length text) x (past_kind c.requires.kind e.0) i.0 e.1 e.0.fit.1 n.0.token q.0.token (q.1 ∙ n.1) v.read w.0.token v.on.fit.1 w.1 b)

pub bracketed-returns-clause-goes : goal.bracketed-returns-clause-goes
unfolding bracket_read
bracketed-returns-clause-goes t c =
    let text = c.args.self.now.text.now in
    let i = c.in_ok-deeper.ensures in
    let p = c.past-inner.ensures in
    let x = rw i.1 at c.in_ok-within.ensures.goes in
    let d = past_kind c.requires.kind p.0 in
    MatchResult-weaker c.expect.result c.expect.ensures
    (λ s r. record {
      on = further c.requires.ready.0 s r.0.fit (omega (arith, p.0.far, x.on.far, r.0.far)) (omega (arith, p.1, x.on.more, r.1)) _
          (omega (arith, p.1, at_of p.0.out, x.on.slow, r.1, at_of r.0.out));
      read = bracket_read (length text) d c.requires.ready.0.1 i.0 p.1 x.read r.0.token x.on.fit.1 r.1;
      made = made_group (to Made r.0.out (from Made p.0.out x.made));
    })
    (λ e r. rw (r.0.0, r.0.1) (bracket_bad (length text) d c.requires.ready.0.1 i.0 p.1 x.read r.1))

pub chain-loop-op-preserved : goal.chain-loop-op-preserved
unfolding chain_more
chain-loop-op-preserved t c =
    let j = c.loop-op.invariant.0 in
    let o = c.in-Some.ensures in
    let n = c.in_ok-right.ensures in
    let r = rw (c.holding.ensures, c.loop-op.invariant.1) at c.in_ok-read.ensures.goes in
    let on = further c.requires.0 c.in_ok-read.read r.on.fit (omega (arith, j.0.far, n.0.far, r.on.far)) (omega (arith, j.0.more, n.1, r.on.more)) _
    (omega (arith, j.0.slow, n.1, at_of n.0.out, r.on.slow, at_of c.emit.ensures.made)) in (
      (
        on,
        λ m i₀.
            let i = j.1 m i₀ in
            record {
              on = on;
              read = chain_more (length c.args.self.now.text.now) c.args.chain i.read (past_kind o.0 n.0) o.1 n.1 n.0.fit.1 r.read;
              made = made_op c.in-Some.op i.made (from Made n.0.out r.made) c.emit.ensures.made c.emit.ensures.written;
            },
      ),
      c.in_ok-read.ensures.kept ∙ c.loop-op.invariant.1,
    )

pub chain-returns-clause-goes : goal.chain-returns-clause-goes
unfolding chain_done
chain-returns-clause-goes t c =
    let text = c.args.self.now.text.now in
    let s = c.in_ok-so_far.ensures in
    let l = c.loop-op.so_far.look in
    let i = (rw s.kept at c.loop-op.invariant.0).1 c.args.image.now (first_operand c.args.chain s.goes) in
    record {
      on = i.on;
      read = chain_done (length text) c.args.chain i.read (not_joined (length text) c.args.chain text l.kind l.start l.end c.in_default.ensures);
      made = i.made;
    }

pub chain-returns-in_err-right-clause-goes : goal.chain-returns-in_err-right-clause-goes
chain-returns-in_err-right-clause-goes t c =
    let text = c.args.self.now.text.now in
    let s = c.in_ok-so_far.ensures in
    let l = c.loop-op.so_far.look in
    let i = (rw s.kept at c.loop-op.invariant.0).1 c.args.image.now (first_operand c.args.chain s.goes) in
    let o = c.in-Some.ensures in
    let b = c.in_err-right.ensures in
    exit _ _ _ c.from_residual-in_err-right.ensures.1 (rw (b.1, b.2) (chain_full (length text) c.args.chain i.read (known_ahead text l.start l.end o.0) o.1 b.0))

pub chain-returns-in_err-read-clause-goes : goal.chain-returns-in_err-read-clause-goes
chain-returns-in_err-read-clause-goes t c =
    let text = c.args.self.now.text.now in
    let s = c.in_ok-so_far.ensures in
    let i = (rw s.kept at c.loop-op.invariant.0).1 c.args.image.now (first_operand c.args.chain s.goes) in
    let o = c.in-Some.ensures in
    let n = c.in_ok-right.ensures in
    let b = rw c.holding.ensures at c.in_err-read.ensures.goes in
    exit _ _ _ c.from_residual-in_err-read.ensures.1 (chain_more_bad (length text) c.args.chain i.read (past_kind o.0 n.0) o.1 n.1 n.0.fit.1 b)

pub choice-returns-in_err-other-clause-goes : goal.choice-returns-in_err-other-clause-goes
choice-returns-in_err-other-clause-goes t c =
    let text = c.args.self.now.text.now in
    let i = c.in_ok-deeper.ensures in
    let e = c.in_ok-test.ensures in
    let v = rw i.1 at c.in_ok-then.ensures.goes in
    let h = c.in_ok-branch.ensures in
    let b = rw i.1 at c.in_err-other.ensures.goes in
    exit _ _ _ c.from_residual-in_err-other.ensures.1 (ifp_first_bad (length text) (past_kind c.requires.kind e.0) i.0 e.1 e.0.fit.1 v.read h.0.token v.on.fit.1 h.1 b)

pub choice-returns-in_err-jump-clause-goes : goal.choice-returns-in_err-jump-clause-goes
choice-returns-in_err-jump-clause-goes t c =
    let text = c.args.self.now.text.now in
    let i = c.in_ok-deeper.ensures in
    let e = c.in_ok-test.ensures in
    let v = rw i.1 at c.in_ok-then.ensures.goes in
    let h = c.in_ok-branch.ensures in
    let y = rw i.1 at c.in_ok-other.ensures.goes in
    let b = c.in_err-jump.ensures in
    exit _ _ _ c.from_residual-in_err-jump.ensures.1
    (rw (b.0.0, b.0.1) (ifp_else_bad (length text) (past_kind c.requires.kind e.0) i.0 e.1 e.0.fit.1 v.read h.0.token v.on.fit.1 h.1 y.read b.1))

pub choice-returns-clause-goes : goal.choice-returns-clause-goes
unfolding ifp_read
choice-returns-clause-goes t c =
    let text = c.args.self.now.text.now in
    let functions = c.args.self.now.functions.now in
    let i = c.in_ok-deeper.ensures in
    let e = c.in_ok-test.ensures in
    let v = rw i.1 at c.in_ok-then.ensures.goes in
    let h = c.in_ok-branch.ensures in
    let k₁ = c.in_ok-then.ensures.kept in
    let k₂ = c.in_ok-other.ensures.kept ∙ k₁ in
    let y = rw (k₁, i.1) at c.in_ok-other.ensures.goes in
    let w = c.in_ok-jump.ensures in
    let r = rw (k₂, i.1) at c.in_ok-last.ensures.goes in
    let o₁ = c.skip.ensures ∙ ap emitted h.0.out in
    let o₂ = c.skip-2.ensures ∙ ap emitted w.0.out in
    record {
      on = further c.requires.ready.0 c.in_ok-last.last r.on.fit (omega (arith, e.0.far, v.on.far, h.0.far, y.on.far, w.0.far, r.on.far))
          (omega (arith, e.1, v.on.more, h.1, y.on.more, w.1, r.on.more)) _
          (omega (arith, e.1, at_of e.0.out, v.on.slow, h.1, at_of o₁, y.on.slow, w.1, at_of o₂, r.on.slow));
      read = ifp_read (length text) (past_kind c.requires.kind e.0) i.0 e.1 e.0.fit.1 v.read h.0.token v.on.fit.1 h.1 y.read w.0.token y.on.fit.1 w.1 r.read;
      made = made_ifp (from Made e.0.out v.made) o₁ y.made o₂ c.put.ensures h.0.out r.made c.put-2.ensures w.0.out;
    }

pub choice-returns-in_err-last-clause-goes : goal.choice-returns-in_err-last-clause-goes
choice-returns-in_err-last-clause-goes t c =
    let text = c.args.self.now.text.now in
    let i = c.in_ok-deeper.ensures in
    let e = c.in_ok-test.ensures in
    let v = rw i.1 at c.in_ok-then.ensures.goes in
    let h = c.in_ok-branch.ensures in
    let y = rw i.1 at c.in_ok-other.ensures.goes in
    let w = c.in_ok-jump.ensures in
    let b = rw i.1 at c.in_err-last.ensures.goes in
    exit _ _ _ c.from_residual-in_err-last.ensures.1
    (ifp_bad (length text) (past_kind c.requires.kind e.0) i.0 e.1 e.0.fit.1 v.read h.0.token v.on.fit.1 h.1 y.read w.0.token y.on.fit.1 w.1 b)

pub expression-returns-in_default-clause-goes : goal.expression-returns-in_default-clause-goes
expression-returns-in_default-clause-goes t c =
    let text = c.args.self.now.text.now in
    let n = c.args.here.now.count in
    let ts = ahead text c.args.here.now in
    let l = c.args.here.now.look in
    let a = other text Let l.kind l.start l.end (grind arith) in
    let b = other text Ifp l.kind l.start l.end (grind arith) in
    MatchResult-weaker c.chain.result c.chain.ensures.goes
    (λ s r. record { on = r.on; read = record { tree = r.read.tree; goes = λ k e. no_let_ifp (length text) ts n k a b ∙ r.read.goes nothing k e }; made = r.made })
    (λ e r. record { stops = λ k e. no_let_ifp (length text) ts n k a b ∙ r.stops nothing k e })

pub named-returns-in_ok-given-clause-goes : goal.named-returns-in_ok-given-clause-goes
unfolding call_read
named-returns-in_ok-given-clause-goes t c =
    let text = c.args.self.now.text.now in
    let l = c.args.here.now.look in
    let a = c.in_ok-after.ensures in
    let i = c.in_ok-deeper.ensures in
    let p = c.past-inner.ensures in
    let g = rw i.1 at c.in_ok-given.ensures.goes in
    let r = g.through in
    let e = past_kind {k = WordKind Open} (grind arith) p.0 in
    let o = p.0.out ∙ a.0.out in
    record {
      on = further c.requires.ready.0 c.in_ok-given.given.next r.on.fit (omega (arith, a.0.far, p.0.far, r.on.far)) (omega (arith, a.1, p.1, r.on.more)) _
          (omega (arith, a.1, p.1, at_of o, r.on.slow, at_of c.call-out.ensures.made));
      read = call_read (length text) _ (past_kind c.requires.kind a.0) a.1 a.0.fit.1 e i.0 p.1 r.read;
      made = made_call (ident text l) (from MadeAll o r.made) g.counted c.call-out.ensures.made c.call-out.ensures.written;
    }

pub named-returns-else-eq-clause-goes : goal.named-returns-else-eq-clause-goes
unfolding name_read
named-returns-else-eq-clause-goes t c =
    let text = c.args.self.now.text.now in
    let a = c.in_ok-after.ensures in
    let m = c.in_ok-after.after.look in
    record {
      on = further c.requires.ready.0 c.in_ok-after.after a.0.fit a.0.far (omega (arith, a.1)) _ (omega (arith, a.1, at_of c.load-out.ensures.made, at_of a.0.out));
      read = name_read (length text) _ (past_kind c.requires.kind a.0) a.1 a.0.fit.1 (other text Open m.kind m.start m.end (grind arith));
      made = from Made a.0.out (made_var (ident text c.args.here.now.look) (rw c.deref.ensures.0 at c.load-out.ensures.made) (rw c.deref.ensures.0 at c.load-out.ensures.written));
    }
