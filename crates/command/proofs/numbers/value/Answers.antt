use Rattle.std.proofs.Common.{◌<◌, ◌≤◌, length, sym, refl, ◌∙◌, arith}
use Rattle.std.proofs.lemmas.Bool.{eqb-false}
use Rattle.command.proofs.Values.{one_more, stops, whole, all_read}
use Rattle.command.proofs.numbers.value.Goals as goal

pub loop-byte-init : goal.loop-byte-init
loop-byte-init c = record { sum = refl; digits = refl }

pub loop-byte-preserved : goal.loop-byte-preserved
loop-byte-preserved c = one_more c.args.digits.now _ _ _ c.loop-byte-test.true c.in_ok-value.ensures c.loop-byte.invariant

pub returns-in_err-value : goal.returns-in_err-value
returns-in_err-value c =
    let l : c.args.limit ≤ 4294967295 = omega arith in
    c.from_residual.ensures ∙
    stops c.args.digits.now c.args.limit c.loop-byte.byte-index c.loop-byte.value l c.loop-byte-test.true c.in_err-value.ensures c.loop-byte.invariant

pub returns : goal.returns
returns c =
    let xs = c.args.digits.now in
    let some : 0 < length xs = omega (arith, eqb-false (length xs) 0 (sym c.if-is_empty.ensures)) in
    let w = whole xs c.loop-byte.byte-index c.loop-byte.value c.loop-byte-test.false c.loop-byte.invariant in
    c.then_some.ensures ∙ all_read xs c.args.limit c.loop-byte.value some w.0 w.1
