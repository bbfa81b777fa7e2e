-- Hoppers keep what every source keeps to, in each pile. Assumes nothing.
use Rattle.std.specs.Prelude.{ℕ, List, ℤ}
use Rattle.command.specs.declared.types.Pile.{Pile}
use Rattle.command.specs.declared.types.Pile.TheVariants as pile
use Rattle.reading.specs.Answers.{Lawful}
use Rattle.reading.specs.Laws.{board_lawful, stepped_lawful, tared_lawful}
use Rattle.reading.specs.OfBoard.{board_answer}
use Rattle.reading.specs.OfStep.{stepped}
use Rattle.reading.specs.OfTare.{tared_answer}
use Rattle.reading.specs.declared.board.Record.{Record}
use Rattle.session.specs.OfHoppers.{piled}

pub piled_lawful : (p : Pile) (records : List Record) (tares : List ℤ) (d : ℕ) → Lawful (piled p records tares d)
piled_lawful pile.Board records tares d = board_lawful records
piled_lawful pile.Tare records tares d = tared_lawful (board_answer records) tares (board_lawful records)
piled_lawful pile.Step records tares d = stepped_lawful (board_answer records) d (board_lawful records)
piled_lawful pile.StepTare records tares d =
    stepped_lawful (tared_answer (board_answer records) tares) d (tared_lawful (board_answer records) tares (board_lawful records))
piled_lawful pile.TareStep records tares d =
    tared_lawful (λ k. stepped d (board_answer records k)) tares (stepped_lawful (board_answer records) d (board_lawful records))
