-- A line without the blanks and line feeds around it.
use Rattle.std.specs.Prelude.{ℕ, ◌-◌, Bool, ◌||◌, List, length, take, drop, ◌==◌}
use Rattle.std.specs.List.{prefix_len, suffix_len}
use Rattle.command.specs.Words.{blank}

abbrev pub white : ℕ → Bool
white b = blank b || b == 10

abbrev pub without_front : List ℕ → List ℕ
without_front bs = drop (prefix_len white bs) bs

abbrev pub without_back : List ℕ → List ℕ
without_back bs = take (length bs - suffix_len white bs) bs

abbrev pub trimmed : List ℕ → List ℕ
trimmed bs = without_back (without_front bs)
