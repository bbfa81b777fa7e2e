-- Worked examples of the three arithmetics, by computation.
use Rattle.std.specs.Prelude.{◌≡◌, true, pos, negsuc, Ok, Err}
use Rattle.std.specs.Float.{fin, nan}
use Rattle.arithmetic.specs.declared.fault.ArithmeticFault.TheVariants.{OutOfRange, DivisorZero}
use Rattle.gram.specs.OfGram as gram
use Rattle.old.specs.OfOld as old
use Rattle.fine.specs.OfFine as fine

pub record Worked : Type 0 where
  -- -7 over 2
  pub gram_seven : (gram.gram_rules).over (gram.place (negsuc 6)) (gram.place (pos 2)) ≡ Ok (gram.place (negsuc 2))
  pub old_seven : (old.old_rules).over (old.place (negsuc 6)) (old.place (pos 2)) ≡ Ok (old.place (negsuc 2))
  pub fine_seven : (fine.fine_rules).over ((fine.fine_rules).whole (negsuc 6)) ((fine.fine_rules).whole (pos 2)) ≡ Ok (fine.place (fin true 7 (negsuc 0)))
  -- 46,341 times itself
  pub gram_square : (gram.gram_rules).times (gram.place (pos 46341)) (gram.place (pos 46341)) ≡ Err OutOfRange
  pub old_square : (old.old_rules).times (old.place (pos 46341)) (old.place (pos 46341)) ≡ Ok (old.place (negsuc 2147479014))
  pub fine_square : (fine.fine_rules).times ((fine.fine_rules).whole (pos 46341)) ((fine.fine_rules).whole (pos 46341)) ≡ Err OutOfRange
  -- -2^31 is no value of Gram, and over -1 goes round in Old
  pub gram_least : (gram.gram_rules).plus (gram.place (negsuc 2147483647)) (gram.place (pos 5)) ≡ Ok (gram.place (pos 5))
  pub old_least : (old.old_rules).over (old.place (negsuc 2147483647)) (old.place (negsuc 0)) ≡ Ok (old.place (negsuc 2147483647))
  -- a NaN counts as 0, as a divisor too, and so does -0.0
  pub fine_nan : (fine.fine_rules).plus (fine.place nan) ((fine.fine_rules).whole (pos 5)) ≡ Ok ((fine.fine_rules).whole (pos 5))
  pub fine_over_nan : (fine.fine_rules).over ((fine.fine_rules).whole (pos 5)) (fine.place nan) ≡ Err DivisorZero
  pub fine_over_minus_zero : (fine.fine_rules).over ((fine.fine_rules).whole (pos 5)) (fine.place (fin true 0 (pos 0))) ≡ Err DivisorZero
