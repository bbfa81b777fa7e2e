-- Granted steps, one at a time.
use Rattle.std.proofs.Common.{◌≡◌, ℕ, ◌+◌, ◌-◌, ◌<◌, min, true, false, ltb, List, drop, ℤ, Some, None, Option, Ok, Err, Result, sym, refl, ap, ◌∙◌, subst, inl, inr, arith}
use Rattle.std.proofs.lemmas.Bool.{cond-true, cond-false, lt-ltb, le-ltb, cases_lt}
use Rattle.arithmetic.specs.Rules.{Rules}
use Rattle.reading.specs.Answers.{Reading}
use Rattle.machine.specs.declared.fault.Fault.{Fault}
use Rattle.machine.specs.declared.types.Effect.{Effect}
use Rattle.machine.specs.declared.types.Effect.TheVariants.{Put, Move, Enter, End}
use Rattle.machine.specs.declared.types.Registers.{Registers}
use Rattle.machine.specs.declared.types.Return.{Return}
use Rattle.machine.specs.declared.types.Status.{Status}
use Rattle.machine.specs.declared.types.Status.TheVariants.{Going, Spent}
use Rattle.machine.specs.Steps.{Stepped, carried, frame_room, planned, step, stepped}
use Rattle.machine.specs.Runs.{Run, Scene, cost, granted, is_going, scene, settled, status_after, turned}
use Rattle.machine.proofs.Grants.{granted_next, stopped_by}
use Rattle.engine.specs.Loops.{run_after, run_at, standing, stops}

goes_on_is : (answer : Result (Option ℤ) Fault) → stops answer ≡ false → answer ≡ Ok None
goes_on_is (Ok None) h = refl
goes_on_is (Ok (Some grams)) h = cc
goes_on_is (Err fault) h = cc

stop_stops : (answer : Result (Option ℤ) Fault) (index used allowance : ℕ) → stops answer ≡ true → is_going (status_after answer index used allowance) ≡ false
stop_stops (Ok None) index used allowance h = cc
stop_stops (Ok (Some grams)) index used allowance h = refl
stop_stops (Err fault) index used allowance h = refl

-- a fault leaves the index as it was
module _ {V : Type 0} (rules : Rules V) (m : Registers) (s : List V) (t : List Return) where
  stays_there : (e : Result (Effect V) Fault) (used allowance : ℕ) →
      status_after (carried rules m s t e).answer m.index used allowance ≡ status_after (carried rules m s t e).answer (carried rules m s t e).registers.index used allowance
  stays_there (Ok (Put n p v)) used allowance = refl
  stays_there (Ok (Move n)) used allowance = refl
  stays_there (Ok (Enter n e)) used allowance = refl
  stays_there (Ok (End n v)) used allowance = refl
  stays_there (Err f) used allowance = refl

  same_place : (e : Result (Effect V) Fault) (used allowance : ℕ) (answer : Result (Option ℤ) Fault) (n : Registers) (s' : List V) (t' : List Return) →
      stepped answer n s' t' ≡ carried rules m s t e →
      status_after answer m.index used allowance ≡ status_after answer n.index used allowance
  same_place e used allowance answer n s' t' does =
      subst (λ (o : Stepped V). status_after o.answer m.index used allowance ≡ status_after o.answer o.registers.index used allowance) (sym does) (stays_there e used allowance)

module _ {V : Type 0} (rules : Rules V) (held : ℕ → Reading) (count : ℕ) (image : List ℕ) (r : Run) (x : Scene V) where
  -- after k steps that let it go on
  abbrev pub After : ℕ → Registers → List V → List Return → Type 0
  After k m s t = granted frame_room rules held count image k x ≡ scene (run_at r m k (standing (r.used + k) r.allowance)) s t

  module _ (k : ℕ) (m : Registers) (s : List V) (t : List Return) (now : After k m s t) (left : r.used + k < r.allowance) where
    -- one more step
    next_turn : granted frame_room rules held count image (k + 1) x ≡ settled (run_at r m k Going) (step frame_room rules held count image m s t)
    next_turn =
        granted_next frame_room rules held count image k x
        ∙ ap (turned frame_room rules held count image) now
        ∙ ap (λ (st : Status). turned frame_room rules held count image (scene (run_at r m k st) s t)) (cond-true (ltb (r.used + k) r.allowance) Going Spent (lt-ltb (r.used + k) r.allowance left))

    -- what the step answers, and what it leaves
    module _ (answer : Result (Option ℤ) Fault) (n : Registers) (s' : List V) (t' : List Return) (does : stepped answer n s' t' ≡ step frame_room rules held count image m s t) where
      answered : granted frame_room rules held count image (k + 1) x ≡ settled (run_at r m k Going) (stepped answer n s' t')
      answered = next_turn ∙ ap (settled (run_at r m k Going)) (sym does)

      pub goes_on : stops answer ≡ false → After (k + 1) n s' t'
      goes_on on =
          let sum : r.used + k + 1 ≡ r.used + (k + 1) = omega arith in
          answered
          ∙ ap (λ (a : Result (Option ℤ) Fault). settled (run_at r m k Going) (stepped a n s' t')) (goes_on_is answer on)
          ∙ ap (λ (u : ℕ). scene (record { registers = n; used = u; allowance = r.allowance; status = standing u r.allowance }) s' t') sum

      pub ends : (grant : ℕ) → k < grant → stops answer ≡ true → granted frame_room rules held count image grant x ≡ scene (run_after r n k answer) s' t'
      ends grant within stop =
          let used : ℕ = r.used + k + cost answer in
          let place : status_after answer m.index used r.allowance ≡ status_after answer n.index used r.allowance =
          same_place rules m s t (planned frame_room rules held count image m (drop m.base s) t) used r.allowance answer n s' t' does in
          stopped_by frame_room rules held count image (k + 1) grant x (scene (run_after r n k answer) s' t')
          (answered ∙ ap (λ (st : Status). scene (record { registers = n; used = used; allowance = r.allowance; status = st }) s' t') place)
          (stop_stops answer n.index used r.allowance stop) (omega arith)

  -- all of the grant is made, or all of the allowance is used
  pub all_made : (k most grant : ℕ) (m : Registers) (s : List V) (t : List Return) → After k m s t → k ≡ most → most ≡ min grant (r.allowance - r.used) → r.used < r.allowance →
      granted frame_room rules held count image grant x ≡ scene (run_at r m most (standing (r.used + most) r.allowance)) s t
  all_made k most grant m s t now all least free =
      let made : After most m s t = subst (λ (n : ℕ). After n m s t) all now in
      elim (cases_lt grant (r.allowance - r.used)) [
        | inl h ↦ let e : grant ≡ most = omega arith in ap (λ (n : ℕ). granted frame_room rules held count image n x) e ∙ made
        | inr h ↦
            stopped_by frame_room rules held count image most grant x (scene (run_at r m most (standing (r.used + most) r.allowance)) s t) made
            (ap is_going (cond-false (ltb (r.used + most) r.allowance) Going Spent (le-ltb (r.used + most) r.allowance (omega arith)))) (omega arith)
      ]
