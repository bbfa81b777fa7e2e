use Rattle.std.proofs.Common.{◌+◌, ◌-◌, ◌*◌, arith}
use Rattle.std.proofs.lemmas.List.Sums.{fold_more}
use Rattle.lexer.proofs.Scans.{number_large}
use Rattle.lexer.proofs.number.Goals as goal

pub returns-then-value-gt-LARGEST_NUMBER : goal.returns-then-value-gt-LARGEST_NUMBER
returns-then-value-gt-LARGEST_NUMBER c =
    let digits = c.args.digits.now in let i = c.loop-digit.digit-index in
    let more = fold_more (λ n b. 10 * n + (b - 48)) 0 digits i 0 c.loop-digit-test.true in
    number_large digits (i + 1) (omega arith)
