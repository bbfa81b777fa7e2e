use Rattle.std.proofs.Common.{◌≡◌, ◌≤◌, length, drop, pos}
use Rattle.weighing.specs.Totals.{totalled}
use Rattle.weighing.proofs.totals.total.Given as goal

-- what is left, added onto the sum so far, is the whole
abbrev pub invariant-loop-channel : goal.invariant-loop-channel
invariant-loop-channel g l =
    let rules = g.V.Arithmetic.rules in
    let f = g.S.ReadingSource.answers l.source in
    (l.channel-index ≤ length l.channels) × (totalled rules f (rules.whole (pos 0)) l.channels ≡ totalled rules f l.sum (drop l.channel-index l.channels))
