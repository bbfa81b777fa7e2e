-- What a layer over a source answers, by what it makes of a weight.
use Rattle.std.specs.Prelude.{◌≡◌, ℕ, ◌≤◌, ℤ, Ok, Err, unsigned_abs}
use Rattle.weight.specs.Limit.{limit}
use Rattle.reading.specs.Answers.{Reading}
use Rattle.reading.specs.declared.layer.Layer.{Layer}

-- what f makes of a reading: of its weight, while a fault is passed on
abbrev pub through : (ℤ → Reading) → Reading → Reading
through f (Ok z) = f z
through f (Err e) = Err e

-- the layer over a source that answers so, where it makes f of the weight on a channel
abbrev pub layer_answers : {S A : Type 0} → (S → ℕ → Reading) → (A → ℕ → ℤ → Reading) → Layer S A → ℕ → Reading
layer_answers answers f layer k = through (f layer.setting k) (answers layer.below k)

-- f makes no weight beyond the limit of one within it
abbrev pub IsHeld : (ℤ → Reading) → Type 0
IsHeld f = (z y : ℤ) → unsigned_abs z ≤ limit → f z ≡ Ok y → unsigned_abs y ≤ limit

-- f leaves each weight within the limit as it is
abbrev pub Leaves : (ℤ → Reading) → Type 0
Leaves f = (z : ℤ) → unsigned_abs z ≤ limit → f z ≡ Ok z
