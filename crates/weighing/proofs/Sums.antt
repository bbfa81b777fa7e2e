-- One channel more of a list.
use Rattle.std.proofs.Common.{◌≡◌, ℕ, ◌+◌, ◌<◌, ◌≤◌, List, ◌∷◌, length, get_or, drop, Ok, ap, add-one, arith, drop-cons}
use lib.Seq.{drop-length}
use Rattle.arithmetic.specs.Rules.{Rules}
use Rattle.reading.specs.Answers.{Reading}
use Rattle.weighing.specs.Totals.{added_at, and_then, totalled}

module _ {V : Type 0} (rules : Rules V) (f : ℕ → Reading) (sum : V) (xs : List ℕ) (i : ℕ) where
  pub totalled_drop : i < length xs → totalled rules f sum (drop i xs) ≡ and_then (added_at rules f (get_or xs i 0) sum) (λ s. totalled rules f s (drop (i + 1) xs))
  totalled_drop h = let cut : drop i xs ≡ get_or xs i 0 ∷ drop (i + 1) xs = rw add-one (drop-cons xs i 0 h) in ap (totalled rules f sum) cut

  pub totalled_end : length xs ≤ i → i ≤ length xs → totalled rules f sum (drop i xs) ≡ Ok sum
  totalled_end h g = let e : i ≡ length xs = omega arith in rw (e, drop-length)
