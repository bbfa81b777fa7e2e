-- The limit of a weight, in whole grams on either side of zero.
use Rattle.std.specs.Prelude.{ℕ, Bool, cond, ℤ, Some, None, Option, nat_le, unsigned_abs}

abbrev pub limit : ℕ
limit = 268435455

abbrev pub in_limit : ℤ → Bool
in_limit z = nat_le (unsigned_abs z) limit

-- the grams that make a weight: none beyond the limit
abbrev pub weighed : ℤ → Option ℤ
weighed z = cond (in_limit z) (Some z) None
