use Rattle.std.proofs.Common.{◌≡◌, ℕ, ◌+◌, ◌-◌, ◌*◌, List, length}
use Rattle.pass.specs.declared.cursor.Spot.{Spot}
use Rattle.pass.specs.Reads.{knows, Carries, CarriesAll, chain_so_far}
use Rattle.pass.proofs.Spots.{rank}
use Rattle.pass.proofs.descent.Descent.+expressions.Given as goal

-- the bytes ahead of a spot
abbrev pub left_of : List ℕ → Spot → ℕ
left_of text here = length text - here.look.start

abbrev pub decreases-arguments : goal.decreases-arguments
decreases-arguments l = 8 * left_of l.self.now.text.now l.here.now + 7

abbrev pub decreases-expression : goal.decreases-expression
decreases-expression l = 8 * left_of l.self.now.text.now l.here.now + 6

abbrev pub decreases-chain : goal.decreases-chain
decreases-chain l = 8 * left_of l.self.now.text.now l.here.now + rank l.chain + 3

abbrev pub decreases-operand : goal.decreases-operand
decreases-operand l = 8 * left_of l.self.now.text.now l.here.now + rank l.chain + 2

abbrev pub decreases-atom : goal.decreases-atom
decreases-atom l = 8 * left_of l.self.now.text.now l.here.now + 1

abbrev pub decreases-binding : goal.decreases-binding
decreases-binding l = 8 * left_of l.self.now.text.now l.here.now

abbrev pub decreases-bracketed : goal.decreases-bracketed
decreases-bracketed l = 8 * left_of l.self.now.text.now l.here.now

abbrev pub decreases-choice : goal.decreases-choice
decreases-choice l = 8 * left_of l.self.now.text.now l.here.now

abbrev pub decreases-named : goal.decreases-named
decreases-named l = 8 * left_of l.self.now.text.now l.here.now

abbrev pub invariant-arguments-loop-next : goal.invariant-arguments-loop-next
invariant-arguments-loop-next l =
    CarriesAll l.self.text.now (knows l.self l.initial.scope.items) l.level l.here l.initial.so_far l.initial.image l.so_far l.image l.count
    × (l.scope ≡ l.initial.scope)

abbrev pub decreases-arguments-loop-next : goal.decreases-arguments-loop-next
decreases-arguments-loop-next l = left_of l.self.text.now l.so_far

abbrev pub invariant-chain-loop-op : goal.invariant-chain-loop-op
invariant-chain-loop-op l =
    Carries (chain_so_far l.chain) l.self.text.now (knows l.self l.initial.scope.items) l.level l.here l.initial.so_far l.initial.image l.so_far l.image
    × (l.scope ≡ l.initial.scope)

abbrev pub decreases-chain-loop-op : goal.decreases-chain-loop-op
decreases-chain-loop-op l = left_of l.self.text.now l.so_far
