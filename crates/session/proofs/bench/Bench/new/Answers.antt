-- Part by part, the state is the first one.
use Rattle.std.proofs.Common.{rules}
use Rattle.session.proofs.States.{same}
use Rattle.session.proofs.bench.Bench.new.Goals as goal

pub returns : goal.returns
returns c = same _ _ (search rules) (search rules) (search rules) (search rules) (search rules) (search rules)
