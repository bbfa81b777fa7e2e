-- The numbers and the words that faults of a reading are reported by.
use Rattle.std.specs.Prelude.{ℕ, List, codes}
use Rattle.reading.specs.declared.fault.ReadingFault.{ReadingFault}
use Rattle.reading.specs.declared.fault.ReadingFault.TheVariants.{NotFitted, NotAtRest, BeyondLimit}

abbrev pub fault_number : ReadingFault → ℕ
fault_number NotFitted = 41
fault_number NotAtRest = 42
fault_number BeyondLimit = 43

abbrev pub fault_words : ReadingFault → List ℕ
fault_words NotFitted = codes "not fitted"
fault_words NotAtRest = codes "not at rest"
fault_words BeyondLimit = codes "beyond the limit"
