-- Granted steps, one at a time and in parts; what a step leaves alone.
use Rattle.std.proofs.Common.{◌≡◌, ℕ, zero, suc, ◌+◌, ◌-◌, ◌≤◌, false, List, take, Ok, Err, Result, refl, ap, ◌∙◌, arith}
use Rattle.std.proofs.lemmas.List.{take-set-le}
use Rattle.arithmetic.specs.Rules.{Rules}
use Rattle.reading.specs.Answers.{Reading}
use Rattle.machine.specs.declared.fault.Fault.{Fault}
use Rattle.machine.specs.declared.types.Effect.{Effect}
use Rattle.machine.specs.declared.types.Effect.TheVariants.{Put, Move, Enter, End}
use Rattle.machine.specs.declared.types.Registers.{Registers}
use Rattle.machine.specs.declared.types.Return.{Return}
use Rattle.machine.specs.declared.types.Status.{Status}
use Rattle.machine.specs.declared.types.Status.TheVariants.{Going, Spent, Ended, Failed}
use Rattle.machine.specs.Steps.{carried, stepped}
use Rattle.machine.specs.Runs.{Scene, granted, is_going, turned, turned_by}

stopped_is : (s : Status) → (s ≡ Going → ⊥) → is_going s ≡ false
stopped_is Going h = absurd (h refl)
stopped_is Spent h = refl
stopped_is (Ended grams) h = refl
stopped_is (Failed f) h = refl

module _ {V : Type 0} (room : ℕ) (rules : Rules V) (held : ℕ → Reading) (count : ℕ) (image : List ℕ) where
  -- steps granted in two parts are the steps granted at once
  pub granted_add : (a b : ℕ) (x : Scene V) → granted room rules held count image (a + b) x ≡ granted room rules held count image b (granted room rules held count image a x)
  granted_add zero b x = let e : 0 + b ≡ b = omega arith in ap (λ (n : ℕ). granted room rules held count image n x) e
  granted_add (suc a) b x =
      let e : suc a + b ≡ suc (a + b) = omega arith in
      ap (λ (n : ℕ). granted room rules held count image n x) e ∙ granted_add a b (turned room rules held count image x)

  pub granted_next : (n : ℕ) (x : Scene V) → granted room rules held count image (n + 1) x ≡ turned room rules held count image (granted room rules held count image n x)
  granted_next n x = granted_add n 1 x

  stays : (s : Status) (x : Scene V) → is_going s ≡ false → turned_by room rules held count image s x ≡ x
  stays Going x h = cc
  stays Spent x h = refl
  stays (Ended grams) x h = refl
  stays (Failed f) x h = refl

  -- a run that has stopped makes no step
  pub granted_stopped : (n : ℕ) (x : Scene V) → is_going x.run.status ≡ false → granted room rules held count image n x ≡ x
  granted_stopped zero x h = refl
  granted_stopped (suc n) x h = ap (granted room rules held count image n) (stays x.run.status x h) ∙ granted_stopped n x h

  pub not_going : (n : ℕ) (x : Scene V) → (x.run.status ≡ Going → ⊥) → granted room rules held count image n x ≡ x
  not_going n x h = granted_stopped n x (stopped_is x.run.status h)

  -- so all grants past the one that stopped it come to the same
  pub stopped_by : (n grant : ℕ) (x y : Scene V) → granted room rules held count image n x ≡ y → is_going y.run.status ≡ false → n ≤ grant → granted room rules held count image grant x ≡ y
  stopped_by n grant x y e stopped h =
      let sum : grant ≡ n + (grant - n) = omega arith in
      ap (λ (k : ℕ). granted room rules held count image k x) sum
      ∙ granted_add n (grant - n) x
      ∙ ap (granted room rules held count image (grant - n)) e
      ∙ granted_stopped (grant - n) y stopped

module _ {V : Type 0} (rules : Rules V) (m : Registers) (s : List V) (t : List Return) where
  pub below_carried : (e : Result (Effect V) Fault) → take m.base (carried rules m s t e).stack ≡ take m.base s
  below_carried (Ok (Put n p v)) = take-set-le m.base s (m.base + p) v (omega arith)
  below_carried (Ok (Move n)) = refl
  below_carried (Ok (Enter n e)) = refl
  below_carried (Ok (End n v)) = take-set-le m.base s m.base v (omega arith)
  below_carried (Err f) = refl

  pub fault_carried : (e : Result (Effect V) Fault) (f : Fault) → (carried rules m s t e).answer ≡ Err f → carried rules m s t e ≡ stepped (Err f) m s t
  fault_carried (Ok (Put n p v)) f h = cc
  fault_carried (Ok (Move n)) f h = cc
  fault_carried (Ok (Enter n e)) f h = cc
  fault_carried (Ok (End n v)) f h = cc
  fault_carried (Err g) f h = ap (λ (a : Result _ Fault). stepped a m s t) h
