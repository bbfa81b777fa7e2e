-- What a word comes to stays within its frame.
use Rattle.std.proofs.Common.{◌≡◌, ℕ, ltb, List, get_or, Ok, Err, Result, subst, arith}
use Rattle.std.proofs.lemmas.Bool.{cond_both}
use Rattle.std.proofs.lemmas.Bool.Decides.{nat_tests}
use Rattle.arithmetic.specs.Rules.{Rules}
use Rattle.reading.specs.Answers.{Reading}
use Rattle.machine.specs.declared.fault.Fault.{Fault}
use Rattle.machine.specs.declared.types.Effect.{Effect}
use Rattle.machine.specs.declared.types.Instruction.{Instruction}
use Rattle.machine.specs.declared.types.Instruction.TheVariants.{Num, Var, Op, Out, Unless, Go, Call, Back, Weigh, Bad}
use Rattle.machine.specs.declared.types.Registers.{Registers}
use Rattle.machine.specs.declared.types.Return.{Return}
use Rattle.machine.specs.Words.{decoded}
use Rattle.machine.specs.Steps.{Sound, frame_room, plan, planned}
use Rattle.engine.specs.Frames.{Fair}

abbrev AllFair : {V : Type 0} → Registers → Result (Effect V) Fault → Type 0
AllFair m (Ok e) = Fair m e
AllFair m (Err fault) = Unit {0}

module _ {V : Type 0} (rules : Rules V) (held : ℕ → Reading) (count : ℕ) (m : Registers) (frame : List V) (t : List Return) where
  all_fair : Sound frame_room m → (i : Instruction) → AllFair m (plan frame_room rules held count m frame t i)
  all_fair ok (Num n) = grind (arith, nat_tests)
  all_fair ok (Var n) = grind (arith, nat_tests)
  all_fair ok (Op o) = grind (arith, nat_tests)
  all_fair ok Out = grind (arith, nat_tests)
  all_fair ok (Unless n) = grind (arith, nat_tests)
  all_fair ok (Go n) = grind (arith, nat_tests)
  all_fair ok (Call a n) = grind (arith, nat_tests)
  all_fair ok Back = grind (arith, nat_tests)
  all_fair ok (Weigh n) = grind (arith, nat_tests)
  all_fair ok Bad = tt

  pub fair_planned : (image : List ℕ) (e : Effect V) → Sound frame_room m → planned frame_room rules held count image m frame t ≡ Ok e → Fair m e
  fair_planned image e ok p =
      subst (AllFair m) p (cond_both (ltb m.index count) _ _ (AllFair m) (λ _. all_fair ok (decoded (get_or image m.index 0))) (λ _. tt))
