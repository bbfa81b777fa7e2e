-- The number and the words of each fault that can end an addition of weights: those of its part.
use Rattle.std.specs.Prelude.{ℕ, List}
use Rattle.arithmetic.specs.Faults.{fault_number as arithmetic_number, fault_words as arithmetic_words}
use Rattle.reading.specs.Faults.{fault_number as reading_number, fault_words as reading_words}
use Rattle.weighing.specs.declared.fault.WeighingFault.{WeighingFault}
use Rattle.weighing.specs.declared.fault.WeighingFault.TheVariants.{OfReading, OfArithmetic}

abbrev pub weighing_number : WeighingFault → ℕ
weighing_number (OfReading fault) = reading_number fault
weighing_number (OfArithmetic fault) = arithmetic_number fault

abbrev pub weighing_words : WeighingFault → List ℕ
weighing_words (OfReading fault) = reading_words fault
weighing_words (OfArithmetic fault) = arithmetic_words fault
