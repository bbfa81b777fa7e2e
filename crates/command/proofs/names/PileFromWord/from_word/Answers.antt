use Rattle.std.proofs.Common.{arith, rules}
use Rattle.std.specs.Prelude.{codes}
use Rattle.command.specs.Names.{pile_in}
use Rattle.command.proofs.Tables.{spelled}
use Rattle.command.proofs.names.PileFromWord.from_word.Goals as goal

pub returns-in-board : goal.returns-in-board
returns-in-board c = spelled pile_in c.args.word.now (codes "board") (omega arith) (search rules)

pub returns-in-115 : goal.returns-in-115
returns-in-115 c = spelled pile_in c.args.word.now (codes "step-tare") (omega arith) (search rules)

pub returns-in-116 : goal.returns-in-116
returns-in-116 c = spelled pile_in c.args.word.now (codes "tare-step") (omega arith) (search rules)
