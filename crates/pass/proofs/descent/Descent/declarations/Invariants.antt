use Rattle.std.proofs.Common.{◌-◌, length}
use Rattle.pass.specs.Reads.{CarriesDeclarations}
use Rattle.pass.proofs.descent.Descent.declarations.Given as goal

abbrev pub invariant-loop-heads : goal.invariant-loop-heads
invariant-loop-heads l = CarriesDeclarations l.self.text.now l.self.functions.now l.fn.base.index l.initial.heads l.initial.image l.heads l.image

abbrev pub decreases-loop-heads : goal.decreases-loop-heads
decreases-loop-heads l = length l.self.text.now - l.heads.next.look.start
