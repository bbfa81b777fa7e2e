-- What a source of readings answers: for each channel a weight in whole grams, or a fault.
use Rattle.std.specs.Prelude.{◌≡◌, ℕ, ◌-◌, ◌≤◌, Bool, false, cond, ◌&&◌, List, ℤ, Some, None, Ok, Err, Option, Result, nat_le, slice_get, unsigned_abs}
use Rattle.weight.specs.declared.weight.Weight.{Weight}
use Rattle.weight.specs.Limit.{limit, in_limit}
use Rattle.reading.specs.declared.fault.ReadingFault.{ReadingFault}
use Rattle.reading.specs.declared.fault.ReadingFault.TheVariants.{NotFitted, BeyondLimit}

abbrev pub Reading : Type 0
Reading = Result ℤ ReadingFault

-- the reading in a call's result
abbrev pub grams_of : Result Weight ReadingFault → Reading
grams_of (Ok w) = Ok w.grams
grams_of (Err e) = Err e

-- channels are numbered from 1 to 64
abbrev pub is_channel : ℕ → Bool
is_channel k = nat_le 1 k && nat_le k 64

-- where channel k stands in a list of what belongs to the channels: the first stands at 0
abbrev pub place_of : ℕ → Option ℕ
place_of k = cond (is_channel k) (Some (k - 1)) None

-- what stands there for channel k, if there is any
abbrev pub at_channel : {X : Type 0} → List X → ℕ → Option X
at_channel xs k = cond (is_channel k) (slice_get xs (k - 1)) None

-- a weight beyond the limit is a fault
abbrev pub held_to_limit : ℤ → Reading
held_to_limit z = cond (in_limit z) (Ok z) (Err BeyondLimit)

-- what every source keeps to: no answer but 'not fitted' outside the channels, and no weight beyond the limit
pub record Lawful (f : ℕ → Reading) : Type 0 where
  pub outside : (k : ℕ) → is_channel k ≡ false → f k ≡ Err NotFitted
  pub within : (k : ℕ) (z : ℤ) → f k ≡ Ok z → unsigned_abs z ≤ limit
