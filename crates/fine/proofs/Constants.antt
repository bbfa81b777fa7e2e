-- The float constants of the code, as the rules write them.
use Rattle.std.proofs.Common.{◌≡◌, refl}
use lib.Ieee.{of_bits, binary64}
use Rattle.fine.specs.OfFine.{naught, largest}

pub naught_is : of_bits binary64 0 ≡ naught
unfolding of_bits
naught_is = refl

pub largest_is : of_bits binary64 4746794007244308480 ≡ largest
unfolding of_bits
largest_is = refl
