use Rattle.std.proofs.Common.{refl}
use lib.Ieee.{add, sub, div, mul, of_int, le, lt, eq}
use Rattle.std.specs.Float.{float_with_sign}
use Rattle.std.specs.Int.{int_wrap}
use Rattle.meaning.specs.Meaning.{value, values, functions, meaning_within}
use Rattle.worked.proofs.examples_stand.Goals as goal

pub returns : goal.returns
unfolding int_wrap add sub div mul of_int le lt eq float_with_sign value values functions meaning_within
returns c = record {
  one_more = (refl, refl, refl);
  calls_itself = (refl, refl, refl);
  never_called = (refl, refl, refl);
  argument_first = (refl, refl, refl);
  to_the_left = (refl, refl, refl);
  not_positive = (refl, refl, refl);
  positive = (refl, refl, refl);
  let_inside = (refl, refl, refl);
  gram_half = refl;
  old_half = refl;
  fine_half = refl;
  gram_square = refl;
  old_square = refl;
  fine_square = refl;
  nothing_fitted = (refl, refl, refl);
  twice_itself = (refl, refl, refl);
  no_channel = refl;
  empty = refl;
}
