-- The rules of Fine: binary64 numbers of magnitude at most 2,147,483,647. Each operation rounds once by IEEE 754
-- (add, sub, mul and div of binary64), and its range is judged after the rounding.
use Rattle.std.specs.Prelude.{Bool, false, cond, pos, Ok, Err, Float}
use Rattle.std.specs.Float.Ieee.{add, sub, mul, div, le, lt, eq, of_int, to_signed}
use Rattle.std.specs.Float.{float_with_sign, fin, binary64}
use Rattle.arithmetic.specs.declared.fault.ArithmeticFault.TheVariants.{OutOfRange, DivisorZero}
use Rattle.arithmetic.specs.Rules.{Answer, Rules}
use Rattle.fine.specs.declared.Fine.{Fine}

-- +0.0
abbrev pub naught : Float
naught = fin false 0 (pos 0)

abbrev pub largest : Float
largest = fin false 2147483647 (pos 0)

-- the magnitude of x is at most the largest value's: false of a NaN and of an infinity
abbrev pub is_value : Float → Bool
is_value x = le (float_with_sign false x) largest

abbrev pub place : Float → Fine
place x = record { grams = x }

-- what a place counts as: +0.0 where it holds none of the values
abbrev pub counted : Fine → Float
counted v = cond (is_value v.grams) v.grams naught

-- the rounded result x, unless it is beyond the values
abbrev pub answered : Float → Answer Fine
answered x = cond (is_value x) (Ok (place x)) (Err OutOfRange)

-- eq holds of +0.0 and -0.0, so a divisor of either sign is zero
abbrev pub divided : Float → Float → Answer Fine
divided x y = cond (eq y naught) (Err DivisorZero) (answered (div binary64 x y))

abbrev pub above_zero : Float → Bool
above_zero x = lt naught x

-- to_signed 31 drops the fraction toward zero
abbrev pub fine_rules : Rules Fine
fine_rules = record {
  value = λ a. is_value a.grams;
  whole = λ z. place (of_int binary64 z);
  plus = λ a b. answered (add binary64 (counted a) (counted b));
  minus = λ a b. answered (sub binary64 (counted a) (counted b));
  times = λ a b. answered (mul binary64 (counted a) (counted b));
  over = λ a b. divided (counted a) (counted b);
  positive = λ a. above_zero (counted a);
  shown = λ a. to_signed 31 (counted a);
}
