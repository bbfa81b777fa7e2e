-- The words that are left of a line.
use Rattle.std.specs.Prelude.{ℕ, List}
use Rattle.command.specs.declared.words.Words.{Words}
use Rattle.command.specs.Words.{words}

abbrev pub left : Words → List (List ℕ)
left s = words s.rest.now
