-- What hoppers answer, by the pile of layers over their board.
use Rattle.std.specs.Prelude.{ℕ, List, ℤ}
use Rattle.command.specs.declared.types.Pile.{Pile}
use Rattle.command.specs.declared.types.Pile.TheVariants as pile
use Rattle.reading.specs.Answers.{Reading}
use Rattle.reading.specs.OfBoard.{board_answer}
use Rattle.reading.specs.OfStep.{stepped}
use Rattle.reading.specs.OfTare.{tared_answer}
use Rattle.reading.specs.declared.board.Record.{Record}

-- by the records of the board, the tares and the interval d
abbrev pub piled : Pile → List Record → List ℤ → ℕ → ℕ → Reading
piled pile.Board records tares d k = board_answer records k
piled pile.Tare records tares d k = tared_answer (board_answer records) tares k
piled pile.Step records tares d k = stepped d (board_answer records k)
piled pile.StepTare records tares d k = stepped d (tared_answer (board_answer records) tares k)
piled pile.TareStep records tares d k = tared_answer (λ j. stepped d (board_answer records j)) tares k
