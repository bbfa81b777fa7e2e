-- Granted steps, and what the machine's steps come to in them.
use Rattle.std.proofs.Common.{◌≡◌, ℕ, zero, suc, ◌+◌, ◌<◌, ◌≤◌, ltb, List, ℤ, None, Option, Ok, Result, refl, ap, ◌∙◌, le_of_suc-le-suc, not-suc-le-zero, arith}
use Rattle.std.proofs.lemmas.Bool.{cond-true, cond-false, lt-ltb, le-ltb}
use Rattle.arithmetic.specs.Rules.{Rules}
use Rattle.reading.specs.Answers.{Reading}
use Rattle.machine.specs.declared.fault.Fault.{Fault}
use Rattle.machine.specs.declared.types.Registers.{Registers}
use Rattle.machine.specs.declared.types.Status.{Status}
use Rattle.machine.specs.declared.types.Status.TheVariants.{Going, Spent}
use Rattle.machine.specs.Steps.{frame_room, Stepped}
use Rattle.machine.specs.Runs.{Run, Scene, scene, granted, cost, status_after}
use Rattle.machine.proofs.Grants.{granted_add}
use Rattle.meaning.proofs.Shape.{next, Goes}

abbrev pub going : Registers → ℕ → ℕ → Run
going m used allowance = record { registers = m; used = used; allowance = allowance; status = Going }

module _ {V : Type 0} (rules : Rules V) (held : ℕ → Reading) (count : ℕ) (memory : List ℕ) where
  -- a state of a run that goes on
  abbrev pub shown_as : Stepped V → ℕ → ℕ → Scene V
  shown_as x used allowance = scene (going x.registers used allowance) x.stack x.returns

  -- a run after a step with that answer
  abbrev left : Stepped V → Registers → Result (Option ℤ) Fault → ℕ → ℕ → Scene V
  left x m answer used allowance =
      scene (record { registers = x.registers; used = used + cost answer; allowance = allowance; status = status_after answer m.index (used + cost answer) allowance }) x.stack x.returns

  turn : (x : Stepped V) (used allowance : ℕ) (answer : Result (Option ℤ) Fault) → (next rules held count memory x).answer ≡ answer
      → granted frame_room rules held count memory 1 (shown_as x used allowance) ≡ left (next rules held count memory x) x.registers answer used allowance
  unfolding next
  turn x used allowance answer e = ap (λ (a : Result (Option ℤ) Fault). left (next rules held count memory x) x.registers a used allowance) e

  turn_on : (x : Stepped V) (used allowance : ℕ) → (next rules held count memory x).answer ≡ Ok None → used + 1 < allowance
      → granted frame_room rules held count memory 1 (shown_as x used allowance) ≡ shown_as (next rules held count memory x) (used + 1) allowance
  turn_on x used allowance e h =
      turn x used allowance (Ok None) e
      ∙ ap (λ (s : Status). scene (record { registers = (next rules held count memory x).registers; used = used + 1; allowance = allowance; status = s })
      (next rules held count memory x).stack (next rules held count memory x).returns)
      (cond-true (ltb (used + 1) allowance) Going Spent (lt-ltb (used + 1) allowance h))

  one_first : (n : ℕ) (x : Scene V) → granted frame_room rules held count memory (suc n) x ≡ granted frame_room rules held count memory n (granted frame_room rules held count memory 1 x)
  one_first n x = refl

  -- before the allowance is used
  pub granted_goes : (n : ℕ) (x y : Stepped V) (used allowance : ℕ) → Goes rules held count memory n x y → used + n < allowance
      → granted frame_room rules held count memory n (shown_as x used allowance) ≡ shown_as y (used + n) allowance
  granted_goes zero x y used allowance p h =
      let z : used ≡ used + 0 = omega arith in
      ap (λ (s : Stepped V). shown_as s used allowance) p ∙ ap (λ (u : ℕ). shown_as y u allowance) z
  granted_goes (suc n) x y used allowance p h =
      let z : used + 1 + n ≡ used + suc n = omega arith in
      ap (granted frame_room rules held count memory n) (turn_on x used allowance p.0 (omega arith))
      ∙ (granted_goes n (next rules held count memory x) y (used + 1) allowance p.1 (omega arith)
      ∙ ap (λ (u : ℕ). shown_as y u allowance) z)

  -- when it is used
  pub granted_spent : (n : ℕ) (x y : Stepped V) (used allowance : ℕ) → Goes rules held count memory (suc n) x y → used + suc n ≡ allowance
      → ((granted frame_room rules held count memory (suc n) (shown_as x used allowance)).run.status ≡ Spent)
      × ((granted frame_room rules held count memory (suc n) (shown_as x used allowance)).run.used ≡ allowance)
  granted_spent zero x y used allowance p h =
      let e = turn x used allowance (Ok None) p.0 in (
        ap (λ (s : Scene V). s.run.status) e ∙ cond-false (ltb (used + 1) allowance) Going Spent (le-ltb (used + 1) allowance (omega arith)),
        ap (λ (s : Scene V). s.run.used) e ∙ h,
      )
  granted_spent (suc n) x y used allowance p h =
      let e = ap (granted frame_room rules held count memory (suc n)) (turn_on x used allowance p.0 (omega arith)) in
      let r = granted_spent n (next rules held count memory x) y (used + 1) allowance p.1 (omega arith) in
      (ap (λ (s : Scene V). s.run.status) e ∙ r.0, ap (λ (s : Scene V). s.run.used) e ∙ r.1)

  -- the first steps of many
  pub first_of : (j n : ℕ) (x y : Stepped V) → Goes rules held count memory n x y → j ≤ n → (z : Stepped V) × Goes rules held count memory j x z
  first_of zero n x y p h = (x, refl)
  first_of (suc j) zero x y p h = absurd (not-suc-le-zero h)
  first_of (suc j) (suc n) x y p h = let r = first_of j n (next rules held count memory x) y p.1 (le_of_suc-le-suc h) in (r.0, (p.0, r.1))

  -- the last step of a run
  pub granted_last : (n : ℕ) (x y : Stepped V) (allowance : ℕ) (answer : Result (Option ℤ) Fault) → Goes rules held count memory n x y → n < allowance
      → (next rules held count memory y).answer ≡ answer
      → granted frame_room rules held count memory (n + 1) (shown_as x 0 allowance) ≡ left (next rules held count memory y) y.registers answer n allowance
  granted_last n x y allowance answer p h e =
      let z : 0 + n ≡ n = omega arith in
      granted_add frame_room rules held count memory n 1 (shown_as x 0 allowance)
      ∙ (ap (granted frame_room rules held count memory 1) (granted_goes n x y 0 allowance p (omega arith) ∙ ap (λ (u : ℕ). shown_as y u allowance) z)
      ∙ turn y n allowance answer e)

  pub whole_allowance : (allowance : ℕ) (x y : Stepped V) → 0 < allowance → Goes rules held count memory allowance x y
      → ((granted frame_room rules held count memory allowance (shown_as x 0 allowance)).run.status ≡ Spent)
      × ((granted frame_room rules held count memory allowance (shown_as x 0 allowance)).run.used ≡ allowance)
  whole_allowance zero x y h p = absurd (not-suc-le-zero h)
  whole_allowance (suc n) x y h p = granted_spent n x y 0 (suc n) p (omega arith)
