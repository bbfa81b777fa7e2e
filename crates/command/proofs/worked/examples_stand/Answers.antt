use Rattle.std.proofs.Common.{refl}
use Rattle.command.proofs.worked.examples_stand.Goals as goal

pub returns : goal.returns
returns c = record {
  put_at_rest = refl;
  blanks = refl;
  leading_zeros = refl;
  note = refl;
  empty = refl;
  only_blanks = refl;
  no_grams = refl;
  no_channel = refl;
  no_mark = refl;
  two_signs = refl;
  above_32_bits = refl;
  largest_channel = refl;
  least_grams = refl;
  above_largest_grams = refl;
  three_channels = refl;
  no_channels = refl;
  of_a_pile = refl;
  unknown = refl;
  capital = refl;
  too_many = refl;
}
