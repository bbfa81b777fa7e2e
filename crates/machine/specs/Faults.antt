-- The number, the layer and the channel of each fault that can end a run.
use Rattle.std.specs.Prelude.{ℕ, Some, None, Option}
use Rattle.arithmetic.specs.Faults.{fault_number as arithmetic_number}
use Rattle.reading.specs.Faults.{fault_number as reading_number}
use Rattle.machine.specs.declared.fault.EngineFault.{EngineFault}
use Rattle.machine.specs.declared.fault.EngineFault.TheVariants.{TooDeep, Impossible}
use Rattle.machine.specs.declared.fault.Fault.{Fault}
use Rattle.machine.specs.declared.fault.Fault.TheVariants.{OfArithmetic, OfReading, OfEngine}
use Rattle.machine.specs.declared.fault.Layer.{Layer}
use Rattle.machine.specs.declared.fault.Layer.TheVariants.{Arithmetic, Reading, Engine}

-- a call too deep; a word that can't be carried out
abbrev pub engine_number : EngineFault → ℕ
engine_number TooDeep = 51
engine_number Impossible = 52

abbrev pub fault_number : Fault → ℕ
fault_number (OfArithmetic fault) = arithmetic_number fault
fault_number (OfReading unread) = reading_number unread.fault
fault_number (OfEngine fault) = engine_number fault

-- 31 and 32 are the arithmetic's; 41, 42 and 43 a reading's; 51 and 52 the engine's
abbrev pub layer_of : Fault → Layer
layer_of (OfArithmetic fault) = Arithmetic
layer_of (OfReading unread) = Reading
layer_of (OfEngine fault) = Engine

-- only the fault of a reading has a channel
abbrev pub channel_of : Fault → Option ℕ
channel_of (OfArithmetic fault) = None
channel_of (OfReading unread) = Some unread.channel
channel_of (OfEngine fault) = None
