use Rattle.std.proofs.Common.{arith, rules}
use Rattle.std.specs.Prelude.{codes}
use Rattle.command.specs.Names.{verb_of}
use Rattle.command.proofs.Tables.{spelled}
use Rattle.command.proofs.names.VerbFromWord.from_word.Goals as goal

pub returns-in-station : goal.returns-in-station
returns-in-station c = spelled verb_of c.args.word.now (codes "station") (omega arith) (search rules)

pub returns-in-records : goal.returns-in-records
returns-in-records c = spelled verb_of c.args.word.now (codes "records") (omega arith) (search rules)

pub returns-in-tare : goal.returns-in-tare
returns-in-tare c = spelled verb_of c.args.word.now (codes "tare") (omega arith) (search rules)

pub returns-in-interval : goal.returns-in-interval
returns-in-interval c = spelled verb_of c.args.word.now (codes "interval") (omega arith) (search rules)

pub returns-in-pile : goal.returns-in-pile
returns-in-pile c = spelled verb_of c.args.word.now (codes "pile") (omega arith) (search rules)

pub returns-in-weigh : goal.returns-in-weigh
returns-in-weigh c = spelled verb_of c.args.word.now (codes "weigh") (omega arith) (search rules)

pub returns-in-total : goal.returns-in-total
returns-in-total c = spelled verb_of c.args.word.now (codes "total") (omega arith) (search rules)

pub returns-in-arithmetic : goal.returns-in-arithmetic
returns-in-arithmetic c = spelled verb_of c.args.word.now (codes "arithmetic") (omega arith) (search rules)
