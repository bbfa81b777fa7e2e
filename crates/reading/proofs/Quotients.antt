-- Division toward zero, and what is left of a weight that is dropped to a multiple.
use Rattle.std.proofs.Common.{◌≡◌, ℕ, zero, suc, ◌+◌, ◌*◌, ◌/◌, ◌^◌, ◌<◌, ◌≤◌, true, ℤ, pos, negsuc, ◌*ℤ◌, neg_ℤ, nat_abs, ◌≤ℤ◌, Some, Option, refl, ap, ◌∙◌, le_trans, mod-lt, div-add-mod', zero-mul, div-mul-le_self, arith, w32, SFits, to_z, of_z}
use Rattle.std.specs.Option.{option_map}
use native.Mathlib.Nat.{mul-mod_left}
use lib.Signed.{quot_z}
use Rattle.std.proofs.lemmas.Int.{fits_signed_from_abs, ints, quot_fits, to_z-of_z, to_z_pos}
use Rattle.std.proofs.lemmas.Bool.{cond-true, false≢true, le-leb}
use Rattle.weight.specs.Limit.{limit, weighed}
use Rattle.weight.specs.declared.weight.Weight.{Weight}
use Rattle.reading.specs.Drops.{Dropped, dropped}
use Rattle.reading.specs.Intervals.{lawful_interval}
use Rattle.reading.specs.Laws.{abs_neg, drop_size}
use Rattle.reading.proofs.Rounds.{rule}

positive : (d : ℕ) → lawful_interval d ≡ true → 0 < d
positive zero h = absurd (false≢true h)
positive (suc d) h = omega arith

neg_low : (n : ℕ) → neg_ℤ (pos n) ≤ℤ pos 0
neg_low zero = record { le = tt }
neg_low (suc n) = record { le = tt }

neg_mul : (q d : ℕ) → neg_ℤ (pos q) *ℤ pos d ≡ neg_ℤ (pos (q * d))
neg_mul zero d = rw zero-mul refl
neg_mul (suc q) d = refl

times : (d : ℕ) (z : ℤ) → quot_z z (pos d) *ℤ pos d ≡ dropped d z
times d (pos n) = refl
times d (negsuc n) = neg_mul (suc n / d) d

fits : (z : ℤ) → nat_abs z ≤ limit → SFits w32 z
fits z h = fits_signed_from_abs w32 z (omega arith)

-- the code's product of its quotient and the interval, each in 32 bits
abbrev pub product : ℕ → ℤ → ℤ
product d g = to_z w32 (of_z w32 (to_z w32 (of_z w32 (quot_z (to_z w32 (of_z w32 g)) (to_z w32 d))) *ℤ to_z w32 d))

product_is : (d : ℕ) (z : ℤ) → lawful_interval d ≡ true → nat_abs z ≤ limit → product d z ≡ dropped d z
product_is d z l h =
    let above = positive d l in
    let small : d < 2 ^ 31 = omega (arith, ((rule d).sound l).bound) in
    let whole : SFits w32 z = fits z h in
    let quotient : SFits w32 (quot_z z (pos d)) = quot_fits w32 z (pos d) whole (omega (arith, ints)) in
    let product : SFits w32 (dropped d z) = fits (dropped d z) (omega (arith, drop_size d z)) in
    rw (to_z_pos w32 d small, to_z-of_z w32 z whole, to_z-of_z w32 (quot_z z (pos d)) quotient, times d z) (to_z-of_z w32 (dropped d z) product)

-- so the weight that is made of it is there, and has those grams
pub weighs : (o : Option Weight) (d : ℕ) (g z : ℤ) → lawful_interval d ≡ true → nat_abs z ≤ limit → g ≡ z → option_map (λ w. w.grams) o ≡ weighed (product d g)
    → option_map (λ w. w.grams) o ≡ Some (dropped d z)
weighs o d g z l h e m = (rw e at m) ∙ ap weighed (product_is d z l h) ∙ cond-true _ _ _ (le-leb _ _ (le_trans (drop_size d z) h))

next : (d n : ℕ) → 0 < d → n < n / d * d + d
next d n p = omega (arith, div-add-mod' n d, mod-lt n p)

drops_to : (d : ℕ) (z : ℤ) → 0 < d → Dropped d z (dropped d z)
drops_to d (pos n) p = record {
  multiple = mul-mod_left (n / d) d;
  toward = div-mul-le_self n d;
  next = next d n p;
  above = λ _. omega (arith, ints);
  below = λ h. omega (arith, ints, div-mul-le_self n d);
}
drops_to d (negsuc n) p = record {
  multiple = rw abs_neg (mul-mod_left (suc n / d) d);
  toward = rw abs_neg (div-mul-le_self (suc n) d);
  next = rw abs_neg (next d (suc n) p);
  above = λ h. absurd h.le;
  below = λ _. neg_low (suc n / d * d);
}

pub drops : (d : ℕ) (z r : ℤ) → lawful_interval d ≡ true → r ≡ dropped d z → Dropped d z r
drops d z r l e = rw e (drops_to d z (positive d l))
