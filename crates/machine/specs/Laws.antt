-- What holds of the steps of every run, whatever its words and its memory are.
use Rattle.std.specs.Prelude.{◌≡◌, ℕ, ◌+◌, false, List, take, Err}
use Rattle.arithmetic.specs.Rules.{Rules}
use Rattle.reading.specs.Answers.{Reading}
use Rattle.machine.specs.declared.fault.Fault.{Fault}
use Rattle.machine.specs.declared.types.Registers.{Registers}
use Rattle.machine.specs.declared.types.Return.{Return}
use Rattle.machine.specs.Steps.{step, stepped}
use Rattle.machine.specs.Runs.{Scene, granted, is_going}

pub record Laws {V : Type 0} (rules : Rules V) : Type 0 where
  -- a step writes nothing below the base of its frame
  pub below : (room : ℕ) (held : ℕ → Reading) (count : ℕ) (image : List ℕ) (m : Registers) (stack : List V) (table : List Return) →
      take m.base (step room rules held count image m stack table).stack ≡ take m.base stack
  -- a step that faults changes nothing
  pub fault : (room : ℕ) (held : ℕ → Reading) (count : ℕ) (image : List ℕ) (m : Registers) (stack : List V) (table : List Return) (f : Fault) →
      (step room rules held count image m stack table).answer ≡ Err f →
      step room rules held count image m stack table ≡ stepped (Err f) m stack table
  -- steps granted in two parts are the steps granted at once
  pub parts : (room : ℕ) (held : ℕ → Reading) (count : ℕ) (image : List ℕ) (a b : ℕ) (x : Scene V) →
      granted room rules held count image (a + b) x ≡ granted room rules held count image b (granted room rules held count image a x)
  -- a run that has stopped makes no step
  pub stopped : (room : ℕ) (held : ℕ → Reading) (count : ℕ) (image : List ℕ) (n : ℕ) (x : Scene V) →
      is_going x.run.status ≡ false → granted room rules held count image n x ≡ x
