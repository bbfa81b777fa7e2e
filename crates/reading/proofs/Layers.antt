-- What the layers keep of the answers below them, and what one setting changes.
use Rattle.std.proofs.Common.{◌≡◌, ℕ, ◌<◌, ◌≤◌, Bool, true, false, cond, eqb, List, length, set, ℤ, nat_abs, Some, Ok, Err, refl, inl, inr, arith}
use Rattle.std.proofs.lemmas.Option.{gets}
use Rattle.std.proofs.lemmas.Bool.Decides.{nat_tests}
use Rattle.std.proofs.lemmas.Grind.{common_steps}
use Rattle.std.proofs.lemmas.Bool.{cases_eq, eq-eqb, ne_eqb}
use Rattle.weight.specs.Limit.{limit}
use Rattle.reading.specs.Answers.{Reading, at_channel, place_of}
use Rattle.reading.specs.OfBoard.{board_answer, fitted_answer, record_answer}
use Rattle.reading.specs.OfLayer.{Leaves, through}
use Rattle.reading.specs.OfTare.{tared, tared_answer}
use Rattle.reading.specs.Settings.{with_answer}
use Rattle.reading.specs.declared.board.Record.{Record}

-- what leaves each weight within the limit as it is, leaves a lawful reading so
pub through_leaves : (f : ℤ → Reading) (r : Reading) → Leaves f → ((z : ℤ) → r ≡ Ok z → nat_abs z ≤ limit) → through f r ≡ r
through_leaves f (Ok z) h w = h z (w z refl)
through_leaves f (Err e) h w = refl

-- what is set for a channel stands there, and elsewhere all is as it was
at_channel_set : {X : Type 0} (xs : List X) (channel k i : ℕ) (x : X) → place_of channel ≡ Some i → i < length xs
    → at_channel (set xs i x) k ≡ cond (eqb k channel) (Some x) (at_channel xs k)
at_channel_set xs channel k i x e h = grind (arith, gets, nat_tests, common_steps)

cond_through : {X Y : Type 0} (f : X → Y) (b : Bool) (x y : X) → f (cond b x y) ≡ cond b (f x) (f y)
cond_through f true x y = refl
cond_through f false x y = refl

-- a tare that is set is the channel's, and no other channel's
pub tares_set : (f : ℕ → Reading) (tares : List ℤ) (channel k i : ℕ) (x : ℤ) → place_of channel ≡ Some i → i < length tares
    → tared_answer f (set tares i x) k ≡ with_answer (tared_answer f tares) channel (tared x (f channel)) k
tares_set f tares channel k i x e h =
    elim (cases_eq k channel) [
      | inl q ↦ rw (at_channel_set tares channel k i x e h, eq-eqb k channel q, q) refl
      | inr n ↦ rw (at_channel_set tares channel k i x e h, ne_eqb k channel n) refl
    ]

-- a record that is written is the channel's, and no other channel's
pub record_set : (records : List Record) (channel k i : ℕ) (given : Record) → place_of channel ≡ Some i → i < length records
    → board_answer (set records i given) k ≡ with_answer (board_answer records) channel (record_answer given) k
record_set records channel k i given e h =
    rw (at_channel_set records channel k i given e h) (cond_through fitted_answer (eqb k channel) (Some given) (at_channel records k))
