-- A record that is left changes its own channel alone.
use Rattle.std.proofs.Common.{rules}
use Rattle.reading.proofs.Layers.{record_set}
use Rattle.reading.proofs.board.Board.leave.Goals as goal

pub returns-clause-meaning : goal.returns-clause-meaning
returns-clause-meaning c k = record_set c.args.self.now.records.items c.args.channel k c.in_ok-place.place c.args.given (search rules) (search rules)
