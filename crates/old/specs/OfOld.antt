-- The rules of Old: whole numbers from -2^31 to 2^31 - 1, taken modulo 2^32.
use Rattle.std.specs.Prelude.{true, cond, ℤ, pos, ◌+ℤ◌, ◌-ℤ◌, ◌*ℤ◌, Ok, Err, ◌==◌, int_div, int_lt, unsigned_abs}
use Rattle.std.specs.Int.{int_wrap, w32}
use Rattle.arithmetic.specs.declared.fault.ArithmeticFault.TheVariants.{DivisorZero}
use Rattle.arithmetic.specs.Rules.{Answer, Rules}
use Rattle.old.specs.declared.Old.{Old}

abbrev pub place : ℤ → Old
place z = record { grams = z }

-- the result z in 32 bits: int_wrap keeps what z is modulo 2^32
abbrev pub answered : ℤ → Answer Old
answered z = Ok (place (int_wrap w32 z))

-- every number of 32 bits is a value; int_div is the quotient with its fraction dropped, toward zero
abbrev pub old_rules : Rules Old
old_rules = record {
  value = λ _. true;
  whole = place;
  plus = λ a b. answered (a.grams +ℤ b.grams);
  minus = λ a b. answered (a.grams -ℤ b.grams);
  times = λ a b. answered (a.grams *ℤ b.grams);
  over = λ a b. cond (unsigned_abs b.grams == 0) (Err DivisorZero) (answered (int_div a.grams b.grams));
  positive = λ a. int_lt (pos 0) a.grams;
  shown = λ a. a.grams;
}
