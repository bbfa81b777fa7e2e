use Rattle.std.proofs.Common.{arith, rules}
use Rattle.std.specs.Prelude.{codes}
use Rattle.command.specs.Names.{mark_in}
use Rattle.command.proofs.Tables.{spelled}
use Rattle.command.proofs.names.BoolFromWord.from_word.Goals as goal

pub returns-in-moving : goal.returns-in-moving
returns-in-moving c = spelled mark_in c.args.word.now (codes "moving") (omega arith) (search rules)
