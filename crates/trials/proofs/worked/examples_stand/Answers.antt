use Rattle.std.proofs.Common.{refl}
use lib.Ieee.{add, div, mul, of_int, le, eq}
use Rattle.std.specs.Float.{float_with_sign}
use Rattle.std.specs.Int.{int_wrap}
use Rattle.trials.proofs.worked.examples_stand.Goals as goal

pub returns : goal.returns
unfolding int_wrap add div mul of_int le eq float_with_sign
returns c = record {
  gram_seven = refl;
  old_seven = refl;
  fine_seven = refl;
  gram_square = refl;
  old_square = refl;
  fine_square = refl;
  gram_least = refl;
  old_least = refl;
  fine_nan = refl;
  fine_over_nan = refl;
  fine_over_minus_zero = refl;
}
