use Rattle.std.proofs.Common.{drop}
use Rattle.machine.specs.Steps.{planned}
use Rattle.machine.proofs.Grants.{below_carried, fault_carried, granted_add, granted_stopped}
use Rattle.machine.proofs.theorems.steps_keep_laws.Goals as goal

pub returns : goal.returns
returns g c =
    let rules = g.N.Arithmetic.rules in
    record {
      below = λ room held count image m s t. below_carried rules m s t (planned room rules held count image m (drop m.base s) t);
      fault = λ room held count image m s t f h. fault_carried rules m s t (planned room rules held count image m (drop m.base s) t) f h;
      parts = λ room held count image a b x. granted_add room rules held count image a b x;
      stopped = λ room held count image n x h. granted_stopped room rules held count image n x h;
    }
