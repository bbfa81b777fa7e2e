-- What granted steps make of a run.
use Rattle.std.specs.Prelude.{ℕ, zero, suc, ◌+◌, Bool, true, false, cond, List, ℤ, Some, None, Option, Ok, Err, Result, nat_lt}
use Rattle.arithmetic.specs.Rules.{Rules}
use Rattle.reading.specs.Answers.{Reading}
use Rattle.machine.specs.declared.fault.EngineFault.TheVariants.{TooDeep, Impossible}
use Rattle.machine.specs.declared.fault.Fault.{Fault}
use Rattle.machine.specs.declared.fault.Fault.TheVariants.{OfArithmetic, OfReading, OfEngine}
use Rattle.machine.specs.declared.types.Registers.{Registers}
use Rattle.machine.specs.declared.types.Return.{Return}
use Rattle.machine.specs.declared.types.Status.{Status}
use Rattle.machine.specs.declared.types.Status.TheVariants.{Going, Spent, Ended, Failed}
use Rattle.machine.specs.Steps.{Stepped, at, step}

-- the steps used are those since its beginning
pub record Run : Type 0 where
  pub registers : Registers
  pub used : ℕ
  pub allowance : ℕ
  pub status : Status

-- a run begins at the index 1 with an empty frame
abbrev pub begun : ℕ → Run
begun allowance = record { registers = at 1 0 0 0; used = 0; allowance = allowance; status = Going }

-- what a step counts: a word that can't be carried out counts nothing, the word of any other fault counts
abbrev pub cost : Result (Option ℤ) Fault → ℕ
cost (Ok ended) = 1
cost (Err (OfArithmetic e)) = 1
cost (Err (OfReading e)) = 1
cost (Err (OfEngine TooDeep)) = 1
cost (Err (OfEngine Impossible)) = 0

-- how the run stands after a step of the word at the index
abbrev pub status_after : Result (Option ℤ) Fault → ℕ → ℕ → ℕ → Status
status_after (Ok None) index used allowance = cond (nat_lt used allowance) Going Spent
status_after (Ok (Some grams)) index used allowance = Ended grams
status_after (Err fault) index used allowance = Failed (record { fault = fault; index = index })

-- a run with the memory lent to it
pub record Scene (V : Type 0) : Type 0 where
  pub run : Run
  pub stack : List V
  pub returns : List Return

module _ {V : Type 0} where
  abbrev pub scene : Run → List V → List Return → Scene V
  scene run stack table = record { run = run; stack = stack; returns = table }

  -- a run after a step of it
  abbrev pub settled : Run → Stepped V → Scene V
  settled r o =
      let used = r.used + cost o.answer in
      scene
      (record {
        registers = o.registers;
        used = used;
        allowance = r.allowance;
        status = status_after o.answer r.registers.index used r.allowance;
      })
      o.stack
      o.returns

  module _ (room : ℕ) (rules : Rules V) (held : ℕ → Reading) (count : ℕ) (image : List ℕ) where
    -- one granted step: a run that has stopped makes none
    abbrev pub turned_by : Status → Scene V → Scene V
    turned_by Going x = settled x.run (step room rules held count image x.run.registers x.stack x.returns)
    turned_by Spent x = x
    turned_by (Ended grams) x = x
    turned_by (Failed fault) x = x

    abbrev pub turned : Scene V → Scene V
    turned x = turned_by x.run.status x

    abbrev pub granted : ℕ → Scene V → Scene V
    granted zero x = x
    granted (suc n) x = granted n (turned x)

abbrev pub is_going : Status → Bool
is_going Going = true
is_going Spent = false
is_going (Ended grams) = false
is_going (Failed fault) = false
