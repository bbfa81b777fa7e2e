-- The number and the words of each fault of an arithmetic.
use Rattle.std.specs.Prelude.{ℕ, List, codes}
use Rattle.arithmetic.specs.declared.fault.ArithmeticFault.{ArithmeticFault}
use Rattle.arithmetic.specs.declared.fault.ArithmeticFault.TheVariants.{OutOfRange, DivisorZero}

abbrev pub fault_number : ArithmeticFault → ℕ
fault_number OutOfRange = 31
fault_number DivisorZero = 32

abbrev pub fault_words : ArithmeticFault → List ℕ
fault_words OutOfRange = codes "out of range"
fault_words DivisorZero = codes "divisor zero"
