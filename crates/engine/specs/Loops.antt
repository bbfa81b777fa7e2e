-- What the loop of granted steps makes of a run on its way.
use Rattle.std.specs.Prelude.{ℕ, ◌+◌, Bool, true, false, cond, ℤ, Some, None, Option, Ok, Err, Result, nat_lt}
use Rattle.machine.specs.declared.fault.Fault.{Fault}
use Rattle.machine.specs.declared.types.Registers.{Registers}
use Rattle.machine.specs.declared.types.Status.{Status}
use Rattle.machine.specs.declared.types.Status.TheVariants.{Going, Spent}
use Rattle.machine.specs.Runs.{Run as Running, cost, status_after}

-- a run that stands elsewhere, with so many more steps used
abbrev pub run_at : Running → Registers → ℕ → Status → Running
run_at r m made status = record { registers = m; used = r.used + made; allowance = r.allowance; status = status }

-- how a run stands after steps that let it go on
abbrev pub standing : ℕ → ℕ → Status
standing used allowance = cond (nat_lt used allowance) Going Spent

-- whether a run ends with a step that answers so
abbrev pub stops : Result (Option ℤ) Fault → Bool
stops (Ok None) = false
stops (Ok (Some grams)) = true
stops (Err fault) = true

-- a run that stands elsewhere after so many steps and one more, which answered so
abbrev pub run_after : Running → Registers → ℕ → Result (Option ℤ) Fault → Running
run_after r m made answer =
    let used = r.used + made + cost answer in
    record { registers = m; used = used; allowance = r.allowance; status = status_after answer m.index used r.allowance }
