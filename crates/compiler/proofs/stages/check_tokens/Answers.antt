use Rattle.std.proofs.Common.{length, ap, ◌∙◌, arith, rules}
use Rattle.recipe.specs.Tokens.{all_tokens}
use Rattle.compiler.proofs.Calls.{on_from, takes_bytes}
use Rattle.compiler.proofs.stages.check_tokens.Goals as goal

pub loop-look-smaller : goal.loop-look-smaller
loop-look-smaller c =
    let l = c.loop-look.look in
    let v = c.loop-look.invariant.1 in
    let far = takes_bytes l.kind l.start l.end (length c.args.text.now) (λ e. absurd (search (e, c.ne.ensures, c.loop-look-test.true, rules))) v.2 in
    omega (arith, v.1, c.next_token-look-in-loop-look.ensures.valid.0)

pub loop-look-preserved : goal.loop-look-preserved
loop-look-preserved c =
    let l = c.loop-look.look in
    let n = c.next_token-look-in-loop-look in
    let more = on_from c.args.text.now l.kind l.start l.end c.in_default.not-Bad (λ e. absurd (search (e, c.ne.ensures, c.loop-look-test.true, rules))) in
    (c.loop-look.invariant.0 ∙ (more ∙ ap all_tokens n.ensures.reads), n.ensures.valid.1)
