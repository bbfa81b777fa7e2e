-- The rules of Gram: whole numbers from -2,147,483,647 to 2,147,483,647.
use Rattle.std.specs.Prelude.{Bool, cond, ℤ, pos, ◌+ℤ◌, ◌-ℤ◌, ◌*ℤ◌, Some, None, Ok, Err, Option, ◌==◌, int_div, int_lt, nat_le, unsigned_abs}
use Rattle.arithmetic.specs.declared.fault.ArithmeticFault.TheVariants.{OutOfRange, DivisorZero}
use Rattle.arithmetic.specs.Rules.{Answer, Rules}
use Rattle.gram.specs.declared.Gram.{Gram}

abbrev pub is_value : ℤ → Bool
is_value z = nat_le (unsigned_abs z) 2147483647

abbrev pub place : ℤ → Gram
place z = record { grams = z }

-- what a place counts as: 0 where it holds none of the values
abbrev pub counted : Gram → ℤ
counted g = cond (is_value g.grams) g.grams (pos 0)

-- the result z, unless it is beyond the values
abbrev pub answered : ℤ → Answer Gram
answered z = cond (is_value z) (Ok (place z)) (Err OutOfRange)

-- the same of a result that 32 bits may not hold
abbrev pub checked : Option ℤ → Answer Gram
checked None = Err OutOfRange
checked (Some z) = answered z

-- int_div is the quotient with its fraction dropped, toward zero
abbrev pub divided : ℤ → ℤ → Answer Gram
divided number divisor = cond (unsigned_abs divisor == 0) (Err DivisorZero) (answered (int_div number divisor))

abbrev pub gram_rules : Rules Gram
gram_rules = record {
  value = λ a. is_value a.grams;
  whole = place;
  plus = λ a b. answered (counted a +ℤ counted b);
  minus = λ a b. answered (counted a -ℤ counted b);
  times = λ a b. answered (counted a *ℤ counted b);
  over = λ a b. divided (counted a) (counted b);
  positive = λ a. int_lt (pos 0) (counted a);
  shown = counted;
}
