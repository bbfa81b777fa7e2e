-- The intervals of a display.
use Rattle.std.specs.Prelude.{◌≡◌, ℕ, ◌*◌, ◌^◌, ◌≤◌, Bool, true, false, cond, ◌||◌, ◌⊎◌, List, [], ◌∷◌, Ok, Err, Result, ◌==◌}
use Rattle.reading.specs.declared.refusal.SettingRefusal.{SettingRefusal}
use Rattle.reading.specs.declared.refusal.SettingRefusal.TheVariants.{BadInterval}

abbrev pub among : ℕ → List ℕ → Bool
among d [] = false
among d (x ∷ xs) = d == x || among d xs

abbrev pub lawful_interval : ℕ → Bool
lawful_interval d = among d (1 ∷ 2 ∷ 5 ∷ 10 ∷ 20 ∷ 50 ∷ 100 ∷ 200 ∷ 500 ∷ 1000 ∷ 2000 ∷ 5000 ∷ 10000 ∷ 20000 ∷ 50000 ∷ [])

-- the rule behind those numbers: 1, 2 or 5 times a power of ten, at most 50,000
pub record Rounded (d : ℕ) : Type 0 where
  pub digit : ℕ
  pub zeros : ℕ
  pub leads : (digit ≡ 1) ⊎ ((digit ≡ 2) ⊎ (digit ≡ 5))
  pub value : d ≡ digit * 10 ^ zeros
  pub bound : d ≤ 50000

-- the test tells the rule, both ways
pub record Rule (d : ℕ) : Type 0 where
  pub sound : lawful_interval d ≡ true → Rounded d
  pub whole : Rounded d → lawful_interval d ≡ true

-- the interval d, where it is one
abbrev pub interval_setting : ℕ → Result ℕ SettingRefusal
interval_setting d = cond (lawful_interval d) (Ok d) (Err BadInterval)
