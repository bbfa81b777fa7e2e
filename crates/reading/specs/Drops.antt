-- A weight dropped toward zero to a multiple of an interval.
use Rattle.std.specs.Prelude.{◌≡◌, ℕ, suc, ◌+◌, ◌*◌, ◌/◌, ◌%◌, ◌<◌, ◌≤◌, ℤ, pos, negsuc, neg_ℤ, ◌≤ℤ◌, unsigned_abs}

abbrev pub dropped : ℕ → ℤ → ℤ
dropped d (pos n) = pos (n / d * d)
dropped d (negsuc n) = neg_ℤ (pos (suc n / d * d))

-- r is the multiple of d next to z on the side of zero
pub record Dropped (d : ℕ) (z r : ℤ) : Type 0 where
  pub multiple : unsigned_abs r % d ≡ 0
  pub toward : unsigned_abs r ≤ unsigned_abs z
  pub next : unsigned_abs z < unsigned_abs r + d
  pub above : pos 0 ≤ℤ z → pos 0 ≤ℤ r
  pub below : z ≤ℤ pos 0 → r ≤ℤ pos 0
