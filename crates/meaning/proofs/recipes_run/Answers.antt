use Rattle.meaning.proofs.Found.{found_exactly, headed}
use Rattle.meaning.proofs.Limit.{limit_harmless}
use Rattle.meaning.proofs.Grants.{split_alike}
use Rattle.meaning.proofs.Whole.{recipes_run}
use Rattle.meaning.proofs.recipes_run.Goals as goal

pub returns : goal.returns
returns g c = record {
  found = found_exactly;
  headed = headed;
  limit = limit_harmless g.N.Arithmetic.rules;
  runs = recipes_run g.N.Arithmetic.rules;
  split = split_alike g.N.Arithmetic.rules;
}
