-- Whole numbers modulo 2^32, read as two's complement.
use Rattle.std.specs.Prelude.{◌≡◌, ℕ, ◌*◌, ℤ, pos, negsuc, ◌+ℤ◌, ◌≤ℤ◌}

-- from -2^31 to 2^31 - 1
pub record InRange (r : ℤ) : Type 0 where
  pub low : negsuc 2147483647 ≤ℤ r
  pub high : r ≤ℤ pos 2147483647

-- z and r are equal but for whole turns of 2^32
abbrev pub Congruent : ℤ → ℤ → Type 0
Congruent z r = (j : ℕ) × (k : ℕ) × (z +ℤ pos (j * 4294967296) ≡ r +ℤ pos (k * 4294967296))

-- r is the one number in range that is congruent to z
pub record Wraps (z r : ℤ) : Type 0 where
  pub within : InRange r
  pub turns : Congruent z r
  pub alone : (q : ℤ) → InRange q → Congruent z q → q ≡ r
