-- What the calls of a run answer, and the run and the memory after them.
use Rattle.std.specs.Prelude.{ℕ, Bool, cond, ◌||◌, List, length, Some, None, Option, ◌==◌, nat_lt}
use Rattle.std.specs.Option.{option_map}
use Rattle.arithmetic.specs.Rules.{Rules}
use Rattle.reading.specs.Answers.{Reading}
use Rattle.machine.specs.declared.types.Return.{Return}
use Rattle.machine.specs.declared.types.Status.{Status}
use Rattle.machine.specs.Words.{head_count}
use Rattle.machine.specs.Steps.{frame_room}
use Rattle.machine.specs.Runs.{Run as Running, Scene, begun, granted, scene}
use Rattle.engine.specs.declared.run.Run.{Run}

-- a run, and the number of words of its image
pub record Course : Type 0 where
  pub run : Running
  pub count : ℕ

abbrev pub course : Running → ℕ → Course
course run count = record { run = run; count = count }

abbrev pub course_of : Run → Course
course_of r = course (record { registers = r.registers; used = r.used; allowance = r.allowance; status = r.status }) r.count

-- no run where the allowance is 0, or where the image has no HEAD that fits it
abbrev pub begun_course : List ℕ → ℕ → Option Course
begun_course image allowance = cond (allowance == 0) None (option_map (course (begun allowance)) (head_count image))

-- what advance answers, and what it leaves: how the run stands and the steps used, or nothing where the memory is too short
pub record Left (V : Type 0) : Type 0 where
  pub answer : Option (Status × ℕ)
  pub course : Course
  pub stack : List V
  pub returns : List Return

module _ {V : Type 0} where
  abbrev pub left : Option (Status × ℕ) → Course → List V → List Return → Left V
  left answer c stack table = record { answer = answer; course = c; stack = stack; returns = table }

  abbrev pub moved : ℕ → Scene V → Left V
  moved count x = left (Some (x.run.status, x.run.used)) (course x.run count) x.stack x.returns

  -- a stack has 4,128 places at least, a return table 128 entries, an image as many words as its HEAD had
  abbrev pub too_short : ℕ → List ℕ → List V → List Return → Bool
  too_short count image stack table = nat_lt (length image) count || nat_lt (length stack) 4128 || nat_lt (length table) 128

  -- the run after its granted steps; where the memory is too short nothing changes
  abbrev pub advanced : Rules V → (ℕ → Reading) → List ℕ → ℕ → Course → List V → List Return → Left V
  advanced rules held image grant c stack table =
      cond (too_short c.count image stack table)
      (left None c stack table)
      (moved c.count (granted frame_room rules held c.count image grant (scene c.run stack table)))
