-- What a board answers, and what becomes of a record that is written to it.
use Rattle.std.specs.Prelude.{ℕ, Bool, cond, List, Some, None, Ok, Err, Option, is_some, vec_items}
use Rattle.weight.specs.Limit.{in_limit}
use Rattle.reading.specs.Answers.{Reading, at_channel, held_to_limit}
use Rattle.reading.specs.Settings.{Setting}
use Rattle.reading.specs.declared.board.Board.{Board}
use Rattle.reading.specs.declared.board.Record.{Record}
use Rattle.reading.specs.declared.fault.ReadingFault.TheVariants.{NotFitted, NotAtRest}
use Rattle.reading.specs.declared.refusal.SettingRefusal.TheVariants.{NoChannel, BadWeight}

-- a load that moves has no weight; one at rest is held to the limit
abbrev pub record_answer : Record → Reading
record_answer r = cond r.resting (held_to_limit r.grams) (Err NotAtRest)

-- what a channel's record answers, if it has one: the k-th is that of channel k, and only the first 64 count
abbrev pub fitted_answer : Option Record → Reading
fitted_answer None = Err NotFitted
fitted_answer (Some r) = record_answer r

abbrev pub board_answer : List Record → ℕ → Reading
board_answer records k = fitted_answer (at_channel records k)

abbrev pub has_record : List Record → ℕ → Bool
has_record records k = is_some (at_channel records k)

abbrev pub records_of : Board → List Record
records_of board = vec_items board.records

abbrev pub answers_of : Board → ℕ → Reading
answers_of board = board_answer (records_of board)

-- `put` refuses for want of a record first, and then for the weight, whatever the mark
abbrev pub put_answer : List Record → ℕ → Record → Setting
put_answer records k given = cond (has_record records k) (cond (in_limit given.grams) (Ok tt) (Err BadWeight)) (Err NoChannel)

-- `leave` refuses for want of a record alone
abbrev pub leave_answer : List Record → ℕ → Setting
leave_answer records k = cond (has_record records k) (Ok tt) (Err NoChannel)

-- what a record within the limit then answers: its weight, or that the load moves
abbrev pub weight_or_motion : Record → Reading
weight_or_motion given = cond given.resting (Ok given.grams) (Err NotAtRest)
