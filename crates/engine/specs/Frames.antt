-- What a run's readings are, and what an instruction comes to in a frame.
use Rattle.std.specs.Prelude.{◌≡◌, ℕ, ◌-◌, ◌<◌, List, Err, Result, slice_index_or}
use Rattle.arithmetic.specs.Rules.{Rules}
use Rattle.reading.specs.Answers.{Reading, grams_of}
use Rattle.reading.specs.declared.fault.ReadingFault.{ReadingFault}
use Rattle.reading.specs.declared.fault.ReadingFault.TheVariants.{NotFitted}
use Rattle.weight.specs.declared.weight.Weight.{Weight}
use Rattle.machine.specs.declared.fault.Fault.{Fault}
use Rattle.machine.specs.declared.types.Effect.{Effect}
use Rattle.machine.specs.declared.types.Effect.TheVariants.{Put, Move, Enter, End}
use Rattle.machine.specs.declared.types.Instruction.{Instruction}
use Rattle.machine.specs.declared.types.Registers.{Registers}
use Rattle.machine.specs.Steps.{Sound, deepest, frame_room, plan}
use Rattle.engine.specs.declared.frame.Frame.{Frame}
use Rattle.engine.specs.declared.memory.Memory.{Memory}

-- the reading of a channel, channel 1 first
abbrev pub held_at : List (Result Weight ReadingFault) → ℕ → Reading
held_at held channel = grams_of (slice_index_or held (channel - 1) (Err NotFitted))

-- what an instruction comes to in a frame
abbrev pub comes_to : {V : Type 0} → Rules V → Frame V → Instruction → Result (Effect V) Fault
comes_to rules f i = plan frame_room rules (held_at f.held.now) f.count f.registers f.values.now f.returns.now i

-- an effect that stays in the frame's room and in the return table, and leaves sound registers
abbrev pub Fair : {V : Type 0} → Registers → Effect V → Type 0
Fair m (Put n p v) = (p < frame_room) × Sound frame_room n
Fair m (Move n) = Sound frame_room n
Fair m (Enter n e) = (m.nesting < deepest) × Sound frame_room n
Fair m (End n v) = Sound frame_room n

-- what is lent is the same memory as before
abbrev pub IsSameLoan : {V : Type 0} → Memory V → Memory V → Type 0
IsSameLoan a b = (b.stack.ghost_name ≡ a.stack.ghost_name) × (b.returns.ghost_name ≡ a.returns.ghost_name)
