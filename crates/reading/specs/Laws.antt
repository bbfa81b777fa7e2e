-- The board and the layers keep what every source keeps to. Assumes nothing.
use Rattle.std.specs.Prelude.{◌≡◌, ℕ, zero, suc, ◌-◌, ◌/◌, ◌≤◌, true, false, cond, List, replicate, ℤ, pos, negsuc, ◌-ℤ◌, neg_ℤ, Some, None, Ok, Err, Option, slice_get, unsigned_abs, refl}
use Rattle.std.proofs.Common.{ap, ◌∙◌, mul-one, div-one, div-mul-le_self, arith}
use Rattle.std.specs.Option.{unwrap_or}
use Rattle.std.proofs.lemmas.Int.{ints}
use Rattle.std.proofs.lemmas.Bool.Decides.{nat_tests}
use Rattle.std.proofs.lemmas.Bool.{cond-true, le-leb}
use Rattle.weight.specs.Limit.{limit}
use Rattle.reading.specs.Answers.{Lawful, Reading, at_channel, held_to_limit, is_channel}
use Rattle.reading.specs.Drops.{dropped}
use Rattle.reading.specs.OfBoard.{board_answer, fitted_answer, record_answer}
use Rattle.reading.specs.OfLayer.{IsHeld, Leaves, through}
use Rattle.reading.specs.OfStep.{stepped}
use Rattle.reading.specs.OfTare.{tare_at, tared_answer}
use Rattle.reading.specs.declared.board.Record.{Record}

held_within : (x z : ℤ) → held_to_limit x ≡ Ok z → unsigned_abs z ≤ limit
held_within x z e = grind (arith, nat_tests)

-- ---- the board
record_within : (r : Record) (z : ℤ) → record_answer r ≡ Ok z → unsigned_abs z ≤ limit
record_within r z e = grind (arith, nat_tests)

fitted_within : (o : Option Record) (z : ℤ) → fitted_answer o ≡ Ok z → unsigned_abs z ≤ limit
fitted_within None z e = cc
fitted_within (Some r) z e = record_within r z e

pub board_lawful : (records : List Record) → Lawful (board_answer records)
board_lawful records = record {
  outside = λ k e. rw e refl;
  within = λ k z e. fitted_within (at_channel records k) z e;
}

-- ---- a layer over a lawful source
through_within : (f : ℤ → Reading) (r : Reading) (y : ℤ) → IsHeld f → ((z : ℤ) → r ≡ Ok z → unsigned_abs z ≤ limit) → through f r ≡ Ok y → unsigned_abs y ≤ limit
through_within f (Ok z) y h w e = h z y (w z refl) e
through_within f (Err t) y h w e = cc

pub through_lawful : (below : ℕ → Reading) (f : ℕ → ℤ → Reading) → Lawful below → ((k : ℕ) → IsHeld (f k)) → Lawful (λ k. through (f k) (below k))
through_lawful below f h held = record {
  outside = λ k e. ap (through (f k)) (h.outside k e);
  within = λ k z e. through_within (f k) (below k) z (held k) (h.within k) e;
}

-- ---- steps
pub abs_neg : (n : ℕ) → unsigned_abs (neg_ℤ (pos n)) ≡ n
abs_neg zero = refl
abs_neg (suc n) = refl

pub drop_size : (d : ℕ) (z : ℤ) → unsigned_abs (dropped d z) ≤ unsigned_abs z
drop_size d (pos n) = div-mul-le_self n d
drop_size d (negsuc n) = rw abs_neg (div-mul-le_self (suc n) d)

pub step_held : (d : ℕ) → IsHeld (λ z. Ok (dropped d z))
step_held d z y h e = let q : dropped d z ≡ y = cc in omega (arith, drop_size d z, ap unsigned_abs q)

pub step_leaves : (d : ℕ) → d ≡ 1 → Leaves (λ z. Ok (dropped d z))
step_leaves d e (pos n) h = rw e (ap (λ m. Ok (pos m)) (mul-one (n / 1) ∙ div-one n))
step_leaves d e (negsuc n) h = rw e (ap (λ m. Ok (neg_ℤ (pos m))) (mul-one (suc n / 1) ∙ div-one (suc n)))

pub stepped_lawful : (below : ℕ → Reading) (d : ℕ) → Lawful below → Lawful (λ k. stepped d (below k))
stepped_lawful below d h = through_lawful below (λ _ z. Ok (dropped d z)) h (λ _. step_held d)

-- ---- tares
pub tare_held : (tares : List ℤ) (k : ℕ) → IsHeld (λ z. held_to_limit (z -ℤ tare_at tares k))
tare_held tares k z y h e = held_within (z -ℤ tare_at tares k) y e

pub tared_lawful : (below : ℕ → Reading) (tares : List ℤ) → Lawful below → Lawful (tared_answer below tares)
tared_lawful below tares h = through_lawful below (λ k z. held_to_limit (z -ℤ tare_at tares k)) h (tare_held tares)

get_zero : (n i : ℕ) → unwrap_or (slice_get (replicate n (pos 0)) i) (pos 0) ≡ pos 0
get_zero zero i = refl
get_zero (suc n) zero = refl
get_zero (suc n) (suc i) = get_zero n i

no_tare : (k : ℕ) → tare_at (replicate 64 (pos 0)) k ≡ pos 0
no_tare k = elim (is_channel k) as (λ b. unwrap_or (cond b (slice_get (replicate 64 (pos 0)) (k - 1)) None) (pos 0) ≡ pos 0) [ true ↦ get_zero 64 (k - 1) | false ↦ refl ]

less_nothing : (z : ℤ) → z -ℤ pos 0 ≡ z
less_nothing z = omega (arith, ints)

pub tare_leaves : (tares : List ℤ) (k : ℕ) → tares ≡ replicate 64 (pos 0) → Leaves (λ z. held_to_limit (z -ℤ tare_at tares k))
tare_leaves tares k e z h = rw (e, no_tare k, less_nothing z) (cond-true _ _ _ (le-leb _ _ h))
