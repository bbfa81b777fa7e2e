-- Words, steps and runs, worked by hand.
use Rattle.std.specs.Prelude.{◌≡◌, ℕ, true, cond, List, [], ◌∷◌, replicate, ℤ, pos, ◌+ℤ◌, Ok, Err, Result, ◌==◌, int_lt, nat_le, slice_index_or, unsigned_abs}
use Rattle.arithmetic.specs.Rules.{Rules}
use Rattle.arithmetic.specs.declared.fault.ArithmeticFault.TheVariants.{OutOfRange, DivisorZero}
use Rattle.reading.specs.Answers.{Reading}
use Rattle.reading.specs.declared.fault.ReadingFault.TheVariants.{NotFitted, NotAtRest}
use Rattle.recipe.specs.declared.Op.TheVariants.{Plus, Over}
use Rattle.machine.specs.declared.fault.EngineFault.TheVariants.{TooDeep, Impossible}
use Rattle.machine.specs.declared.fault.Fault.{Fault}
use Rattle.machine.specs.declared.fault.Fault.TheVariants.{OfArithmetic, OfReading, OfEngine}
use Rattle.machine.specs.declared.types.Effect.{Effect}
use Rattle.machine.specs.declared.types.Effect.TheVariants.{Put, Move, Enter, End}
use Rattle.machine.specs.declared.types.Instruction.{Instruction}
use Rattle.machine.specs.declared.types.Instruction.TheVariants.{Num, Var, Op, Out, Unless, Go, Call, Back, Weigh, Bad}
use Rattle.machine.specs.declared.types.Registers.{Registers}
use Rattle.machine.specs.declared.types.Return.{Return}
use Rattle.machine.specs.declared.types.Status.{Status}
use Rattle.machine.specs.declared.types.Status.TheVariants.{Going, Spent, Ended, Failed}
use Rattle.machine.specs.Words.{decoded}
use Rattle.machine.specs.Steps.{at, frame_room, impossible, plan, planned}
use Rattle.machine.specs.Runs.{Scene, begun, scene, granted}

-- whole numbers to a thousand, of which only sums are worked out
abbrev small : Rules ℤ
small = record {
  value = λ _. true;
  whole = λ z. z;
  plus = λ a b. cond (nat_le (unsigned_abs (a +ℤ b)) 1000) (Ok (a +ℤ b)) (Err OutOfRange);
  minus = λ a b. Ok a;
  times = λ a b. Ok a;
  over = λ a b. cond (unsigned_abs b == 0) (Err DivisorZero) (Ok a);
  positive = λ a. int_lt (pos 0) a;
  shown = λ a. a;
}

-- 5 grams on channel 1, nothing at rest on channel 2, no other fitted
abbrev held : ℕ → Reading
held k = cond (k == 1) (Ok (pos 5)) (cond (k == 2) (Err NotAtRest) (Err NotFitted))

abbrev entry : ℕ → ℕ → Return
entry base next = record { base = base; next = next }

-- a frame of 7, 900 and 200, and a return table of three entries
abbrev frame : List ℤ
frame = pos 7 ∷ pos 900 ∷ pos 200 ∷ []

abbrev table : List Return
table = entry 0 40 ∷ entry 12 41 ∷ entry 63 42 ∷ []

-- what an instruction comes to in an image of 100 words
abbrev comes_to : Registers → Instruction → Result (Effect ℤ) Fault
comes_to m i = plan frame_room small held 100 m frame table i

abbrev start : ℕ → Scene ℤ
start allowance = scene (begun allowance) (replicate 4128 (pos 0)) (replicate 128 (entry 0 0))

-- how a run stands, its steps used, and its stack place 0
abbrev shown : Scene ℤ → Status × ℕ × ℤ
shown x = (x.run.status, x.run.used, slice_index_or x.stack 0 (pos 0))

-- the images of `let f(x) = x + 1 in f(2)` and `let f(x) = f(x) in f(0)`
abbrev one_more : List ℕ
one_more = 0x90000009 ∷ 0x00000002 ∷ 0x60010005 ∷ 0x70000000 ∷ 0xA0000001 ∷ 0x10000000 ∷ 0x00000001 ∷ 0x20000000 ∷ 0x70000000 ∷ []

abbrev calls_itself : List ℕ
calls_itself = 0x90000008 ∷ 0x00000000 ∷ 0x60010005 ∷ 0x70000000 ∷ 0xA0000001 ∷ 0x10000000 ∷ 0x60010005 ∷ 0x70000000 ∷ []

abbrev run_of : List ℕ → ℕ → ℕ → ℕ → Scene ℤ
run_of image count allowance grant = granted frame_room small held count image grant (start allowance)

pub record Worked : Type 0 where
  -- words
  pub largest_number : decoded 0x0FFFFFFF ≡ Num 268435455
  pub divides : decoded 0x20000003 ≡ Op Over
  pub no_operator : decoded 0x20000004 ≡ Bad
  pub out_alone : decoded 0x30000001 ≡ Bad
  pub call_of_one : decoded 0x60010005 ≡ Call 1 5
  pub call_of_none : decoded 0x60000005 ≡ Call 0 5
  pub back_alone : decoded 0x70000001 ≡ Bad
  pub no_head : decoded 0x90000009 ≡ Bad
  pub no_function : decoded 0xA0000001 ≡ Bad
  pub no_kind : decoded 0xF0000000 ≡ Bad
  -- steps, at the index 9 of a frame of 3 values with its base at 12
  pub pushes : comes_to (at 9 12 3 1) (Num 5) ≡ Ok (Put (at 10 12 4 1) 3 (pos 5))
  pub full : comes_to (at 9 12 32 1) (Num 5) ≡ impossible
  pub copies : comes_to (at 9 12 3 1) (Var 1) ≡ Ok (Put (at 10 12 4 1) 3 (pos 900))
  pub not_held : comes_to (at 9 12 3 1) (Var 3) ≡ impossible
  pub out_of_range : comes_to (at 9 12 3 1) (Op Plus) ≡ Err (OfArithmetic OutOfRange)
  pub in_range : comes_to (at 9 12 2 1) (Op Plus) ≡ Ok (Put (at 10 12 1 1) 0 (pos 907))
  pub one_value : comes_to (at 9 12 1 1) (Op Over) ≡ impossible
  pub removes : comes_to (at 9 12 3 1) Out ≡ Ok (Put (at 10 12 2 1) 1 (pos 200))
  pub positive : comes_to (at 9 12 3 1) (Unless 20) ≡ Ok (Move (at 10 12 2 1))
  pub target_untaken : comes_to (at 9 12 3 1) (Unless 100) ≡ impossible
  pub goes : comes_to (at 9 12 3 1) (Go 0) ≡ Ok (Move (at 0 12 3 1))
  pub goes_nowhere : comes_to (at 9 12 3 1) (Go 100) ≡ impossible
  pub enters : comes_to (at 9 12 3 1) (Call 2 20) ≡ Ok (Enter (at 20 13 2 2) (entry 12 10))
  pub too_deep : comes_to (at 9 12 3 128) (Call 2 20) ≡ Err (OfEngine TooDeep)
  pub too_few : comes_to (at 9 12 3 128) (Call 4 20) ≡ impossible
  pub no_arguments : comes_to (at 9 12 3 1) (Call 0 20) ≡ impossible
  pub returns : comes_to (at 9 12 3 1) Back ≡ Ok (Put (at 40 0 13 0) 0 (pos 200))
  pub base_same : comes_to (at 9 12 3 2) Back ≡ Ok (Put (at 41 12 1 1) 0 (pos 200))
  pub base_above : comes_to (at 9 11 3 2) Back ≡ impossible
  pub base_31_below : comes_to (at 9 31 3 1) Back ≡ Ok (Put (at 40 0 32 0) 0 (pos 200))
  pub base_32_below : comes_to (at 9 32 3 1) Back ≡ impossible
  pub base_over_31_a_call : comes_to (at 9 63 3 3) Back ≡ impossible
  pub ends : comes_to (at 9 0 3 0) Back ≡ Ok (End (at 9 0 1 0) (pos 200))
  pub weighs : comes_to (at 9 12 3 1) (Weigh 1) ≡ Ok (Put (at 10 12 4 1) 3 (pos 5))
  pub not_at_rest : comes_to (at 9 12 3 1) (Weigh 2) ≡ Err (OfReading (record { fault = NotAtRest; channel = 2 }))
  pub full_before_reading : comes_to (at 9 12 32 1) (Weigh 2) ≡ impossible
  pub no_channel : comes_to (at 9 12 3 1) (Weigh 65) ≡ impossible
  pub past_the_end : planned frame_room small held 9 one_more (at 9 0 1 0) frame table ≡ impossible
  -- runs
  pub seven_steps : shown (run_of one_more 9 7 7) ≡ (Ended (pos 3), 7, pos 3)
  pub three_steps : (run_of one_more 9 7 3).run.status ≡ Going
  pub allowance_used : shown (run_of one_more 9 6 10) ≡ (Spent, 6, pos 3)
  pub nested_too_deep : shown (run_of calls_itself 8 1000 1000) ≡ (Failed (record { fault = OfEngine TooDeep; index = 6 }), 258, pos 0)
  pub not_counted : shown (run_of (0x90000002 ∷ 0x70000000 ∷ []) 2 1 1) ≡ (Failed (record { fault = OfEngine Impossible; index = 1 }), 0, pos 0)
