-- A run reads only the words that are counted.
use Rattle.std.proofs.Common.{◌≡◌, ℕ, zero, suc, ◌≤◌, false, ltb, List, take, length, drop, refl, ap, ◌∙◌, inl, inr}
use Rattle.std.proofs.lemmas.Bool.{le-ltb, cases_lt}
use Rattle.std.proofs.lemmas.List.{get_or-take, length-take-le}
use Rattle.arithmetic.specs.Rules.{Rules}
use Rattle.reading.specs.Answers.{Reading}
use Rattle.machine.specs.declared.types.Registers.{Registers}
use Rattle.machine.specs.declared.types.Return.{Return}
use Rattle.machine.specs.declared.types.Status.{Status}
use Rattle.machine.specs.declared.types.Status.TheVariants.{Going, Spent, Ended, Failed}
use Rattle.machine.specs.Steps.{carried, frame_room, planned}
use Rattle.machine.specs.Runs.{Scene, granted, settled, turned, turned_by}

module _ {V : Type 0} (rules : Rules V) (held : ℕ → Reading) (count : ℕ) (image : List ℕ) where
  planned_of : (m : Registers) (frame : List V) (t : List Return) →
      planned frame_room rules held count (take count image) m frame t ≡ planned frame_room rules held count image m frame t
  planned_of m frame t =
      elim (cases_lt m.index count) [
        | inl h ↦ rw (get_or-take count image m.index 0 h)
        | inr h ↦ let e : ltb m.index count ≡ false = le-ltb m.index count h in rw e
      ]

  turned_of : (s : Status) (x : Scene V) →
      turned_by frame_room rules held count (take count image) s x ≡ turned_by frame_room rules held count image s x
  turned_of Going x =
      ap (λ e. settled x.run (carried rules x.run.registers x.stack x.returns e)) (planned_of x.run.registers (drop x.run.registers.base x.stack) x.returns)
  turned_of Spent x = refl
  turned_of (Ended grams) x = refl
  turned_of (Failed fault) x = refl

  granted_of : (n : ℕ) (x : Scene V) → granted frame_room rules held count (take count image) n x ≡ granted frame_room rules held count image n x
  granted_of zero x = refl
  granted_of (suc n) x =
      granted_of n (turned frame_room rules held count (take count image) x)
      ∙ ap (granted frame_room rules held count image n) (turned_of x.run.status x)

  -- steps over the counted words are the steps over the image
  pub granted_counted : (n : ℕ) (x : Scene V) → count ≤ length image →
      granted frame_room rules held (length (take count image)) (take count image) n x ≡ granted frame_room rules held count image n x
  granted_counted n x fits =
      ap (λ (k : ℕ). granted frame_room rules held k (take count image) n x) (length-take-le count image fits)
      ∙ granted_of n x
