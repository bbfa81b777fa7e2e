use Rattle.std.proofs.Common.{rules}
use Rattle.std.proofs.lemmas.Int.{wraps}
use Rattle.old.proofs.Wrapping.{congruent}
use Rattle.old.proofs.OldArithmetic.plus.Goals as goal

pub returns-clause-congruent : goal.returns-clause-congruent
returns-clause-congruent c = congruent _ _ (search (rules, wraps))
