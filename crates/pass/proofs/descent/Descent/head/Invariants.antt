use Rattle.std.proofs.Common.{◌-◌, length}
use Rattle.pass.specs.Reads.{ParametersSoFar}
use Rattle.pass.proofs.descent.Descent.head.Given as goal

abbrev pub invariant-loop-next : goal.invariant-loop-next
invariant-loop-next l = ParametersSoFar l.self.text.now l.here l.so_far l.scope.items

abbrev pub decreases-loop-next : goal.decreases-loop-next
decreases-loop-next l = length l.self.text.now - l.so_far.look.start
