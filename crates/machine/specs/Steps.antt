-- What one step of a run does. A frame is the stack from its base to its top; `room` is how many values it can hold.
use Rattle.std.specs.Prelude.{ℕ, ◌+◌, ◌-◌, ◌*◌, ◌≤◌, Bool, true, false, cond, ◌&&◌, List, drop, ℤ, pos, Some, None, Option, Ok, Err, Result, ◌==◌, nat_le, nat_lt, slice_index, slice_index_or, slice_set}
use Rattle.arithmetic.specs.Rules.{Answer, Rules}
use Rattle.reading.specs.Answers.{Reading, is_channel}
use Rattle.recipe.specs.declared.Op.{Op as Operator}
use Rattle.recipe.specs.declared.Op.TheVariants.{Plus, Minus, Times, Over}
use Rattle.machine.specs.declared.fault.EngineFault.TheVariants.{TooDeep, Impossible}
use Rattle.machine.specs.declared.fault.Fault.{Fault}
use Rattle.machine.specs.declared.fault.Fault.TheVariants.{OfArithmetic, OfReading, OfEngine}
use Rattle.machine.specs.declared.types.Effect.{Effect}
use Rattle.machine.specs.declared.types.Effect.TheVariants.{Put, Move, Enter, End}
use Rattle.machine.specs.declared.types.Instruction.{Instruction}
use Rattle.machine.specs.declared.types.Instruction.TheVariants.{Num, Var, Op, Out, Unless, Go, Call, Back, Weigh, Bad}
use Rattle.machine.specs.declared.types.Registers.{Registers}
use Rattle.machine.specs.declared.types.Return.{Return}
use Rattle.machine.specs.Words.{decoded}

-- the values that a frame has room for, in every image
abbrev pub frame_room : ℕ
frame_room = 32

-- the nesting at which no further call is made
abbrev pub deepest : ℕ
deepest = 128

-- what an operator asks of the arithmetic
abbrev pub applied : {V : Type 0} → Rules V → Operator → V → V → Answer V
applied rules Plus a b = rules.plus a b
applied rules Minus a b = rules.minus a b
applied rules Times a b = rules.times a b
applied rules Over a b = rules.over a b

abbrev pub at : ℕ → ℕ → ℕ → ℕ → Registers
at index base len nesting = record { index = index; base = base; len = len; nesting = nesting }

-- at the next word, or at a target, with a frame of so many values
abbrev pub onward : Registers → ℕ → Registers
onward m len = at (m.index + 1) m.base len m.nesting

abbrev pub jumped : Registers → ℕ → ℕ → Registers
jumped m target len = at target m.base len m.nesting

-- whether a frame at the base `from` may go back to the base `to` at the nesting n
abbrev pub may_return : ℕ → ℕ → ℕ → ℕ → Bool
may_return room from to n = nat_le to from && nat_le from (to + (room - 1)) && nat_le to ((room - 1) * n)

module _ {V : Type 0} where
  -- a word that can't be carried out
  abbrev pub impossible : Result (Effect V) Fault
  impossible = Err (OfEngine Impossible)

  -- the two values on top give way to one
  abbrev pub joined : Registers → V → Result (Effect V) Fault
  joined m v = Ok (Put (onward m (m.len - 1)) (m.len - 2) v)

  abbrev pub computed : Registers → Answer V → Result (Effect V) Fault
  computed m (Ok v) = joined m v
  computed m (Err e) = Err (OfArithmetic e)

  -- the value on top is taken off: on to the next word when it is positive, else to the target
  abbrev pub branched : Registers → ℕ → Bool → Result (Effect V) Fault
  branched m target true = Ok (Move (onward m (m.len - 1)))
  branched m target false = Ok (Move (jumped m target (m.len - 1)))

  -- the arguments on top become the new frame; the entry at the present nesting keeps the base and the next index
  abbrev pub entered : Registers → ℕ → ℕ → Result (Effect V) Fault
  entered m arity target =
      cond (nat_lt m.nesting deepest)
      (Ok (Enter (at target (m.base + (m.len - arity)) arity (m.nesting + 1)) (record { base = m.base; next = m.index + 1 })))
      (Err (OfEngine TooDeep))

module _ {V : Type 0} (room : ℕ) where
  -- a value on top of the frame
  abbrev pub pushed : Registers → V → Result (Effect V) Fault
  pushed m v = cond (nat_lt m.len room) (Ok (Put (onward m (m.len + 1)) m.len v)) impossible

  -- a full frame comes before the reading's fault
  abbrev pub weighed : Rules V → Registers → ℕ → Reading → Result (Effect V) Fault
  weighed rules m channel (Ok grams) = pushed m (rules.whole grams)
  weighed rules m channel (Err e) = cond (nat_lt m.len room) (Err (OfReading (record { fault = e; channel = channel }))) impossible

  -- the value takes the place of the frame, on top of the caller's
  abbrev pub resumed : Registers → V → Return → Result (Effect V) Fault
  resumed m v e =
      cond (may_return room m.base e.base (m.nesting - 1))
      (Ok (Put (at e.next e.base (m.base - e.base + 1) (m.nesting - 1)) 0 v))
      impossible

  -- at the nesting 0 the run ends
  abbrev pub backed : Registers → V → List Return → Result (Effect V) Fault
  backed m v table =
      cond (m.nesting == 0)
      (Ok (End (at m.index m.base 1 0) v))
      (resumed m v (slice_index_or table (m.nesting - 1) (record { base = 0; next = 0 })))

  module _ (rules : Rules V) (held : ℕ → Reading) (count : ℕ) where
    -- the value at a place of the frame
    abbrev pub place : List V → ℕ → V
    place frame i = slice_index_or frame i (rules.whole (pos 0))

    -- what an instruction comes to, by the frame and the return table as they are: at most one place is written
    abbrev pub plan : Registers → List V → List Return → Instruction → Result (Effect V) Fault
    plan m frame table (Num n) = pushed m (rules.whole (pos n))
    plan m frame table (Var slot) = cond (nat_lt slot m.len) (pushed m (place frame slot)) impossible
    plan m frame table (Op o) =
        cond (nat_le 2 m.len) (computed m (applied rules o (place frame (m.len - 2)) (place frame (m.len - 1)))) impossible
    plan m frame table Out = cond (nat_le 2 m.len) (joined m (place frame (m.len - 1))) impossible
    plan m frame table (Unless target) =
        cond (nat_lt target count && nat_le 1 m.len) (branched m target (rules.positive (place frame (m.len - 1)))) impossible
    plan m frame table (Go target) = cond (nat_lt target count) (Ok (Move (jumped m target m.len))) impossible
    plan m frame table (Call arity target) =
        cond (nat_le 1 arity && nat_le arity 8 && nat_lt target count && nat_le arity m.len) (entered m arity target) impossible
    plan m frame table Back = cond (nat_le 1 m.len) (backed m (place frame (m.len - 1)) table) impossible
    plan m frame table (Weigh channel) = cond (is_channel channel) (weighed rules m channel (held channel)) impossible
    plan m frame table Bad = impossible

    -- what the word at the index comes to; past the image's words there is none
    abbrev pub planned : List ℕ → Registers → List V → List Return → Result (Effect V) Fault
    planned image m frame table = cond (nat_lt m.index count) (plan m frame table (decoded (slice_index image m.index))) impossible

-- what a step answers, the value as shown where the run ended with one, and the registers and the memory after it
pub record Stepped (V : Type 0) : Type 0 where
  pub answer : Result (Option ℤ) Fault
  pub registers : Registers
  pub stack : List V
  pub returns : List Return

module _ {V : Type 0} where
  abbrev pub stepped : Result (Option ℤ) Fault → Registers → List V → List Return → Stepped V
  stepped answer m stack table = record { answer = answer; registers = m; stack = stack; returns = table }

  -- nothing is written below the base, and a fault changes nothing
  abbrev pub carried : Rules V → Registers → List V → List Return → Result (Effect V) Fault → Stepped V
  carried rules m stack table (Ok (Put n p v)) = stepped (Ok None) n (slice_set stack (m.base + p) v) table
  carried rules m stack table (Ok (Move n)) = stepped (Ok None) n stack table
  carried rules m stack table (Ok (Enter n e)) = stepped (Ok None) n stack (slice_set table m.nesting e)
  carried rules m stack table (Ok (End n v)) = stepped (Ok (Some (rules.shown v))) n (slice_set stack m.base v) table
  carried rules m stack table (Err fault) = stepped (Err fault) m stack table

  abbrev pub step : ℕ → Rules V → (ℕ → Reading) → ℕ → List ℕ → Registers → List V → List Return → Stepped V
  step room rules held count image m stack table =
      carried rules m stack table (planned room rules held count image m (drop m.base stack) table)

-- registers that stay within 129 times `room` places of the stack and 128 entries of the return table
abbrev pub Sound : ℕ → Registers → Type 0
Sound room m = (m.nesting ≤ deepest) × (m.base ≤ (room - 1) * m.nesting) × (m.len ≤ room)
