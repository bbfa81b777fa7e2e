-- The weights of a list of channels, added from the left.
use Rattle.std.specs.Prelude.{ℕ, List, [], ◌∷◌, Ok, Err, Result}
use Rattle.arithmetic.specs.Rules.{Answer, Rules}
use Rattle.reading.specs.Answers.{Reading}
use Rattle.reading.specs.AtChannel.{told_at}
use Rattle.reading.specs.declared.at_channel.AtChannel.{AtChannel}
use Rattle.weighing.specs.declared.fault.WeighingFault.{WeighingFault}
use Rattle.weighing.specs.declared.fault.WeighingFault.TheVariants.{OfReading, OfArithmetic}

-- an answer of the arithmetic, its fault among those of weighing
abbrev pub counted : {V : Type 0} → Answer V → Result V WeighingFault
counted (Ok v) = Ok v
counted (Err e) = Err (OfArithmetic e)

-- the sum with one more reading: its fault, or plus of the sum and whole of its weight
abbrev pub added : {V : Type 0} → Rules V → Reading → V → Result V WeighingFault
added rules (Ok z) sum = counted (rules.plus sum (rules.whole z))
added rules (Err e) sum = Err (OfReading e)

-- a sum, or the fault that ended the addition, with its channel
abbrev pub Outcome : Type 0 → Type 0
Outcome V = Result V (AtChannel WeighingFault)

-- one more reading at a channel of a source that answers f
abbrev pub added_at : {V : Type 0} → Rules V → (ℕ → Reading) → ℕ → V → Outcome V
added_at rules f channel sum = told_at channel (added rules (f channel) sum)

-- a sum goes on to what is left; a fault ends it
abbrev pub and_then : {V : Type 0} → Outcome V → (V → Outcome V) → Outcome V
and_then (Ok v) rest = rest v
and_then (Err e) rest = Err e

abbrev pub totalled : {V : Type 0} → Rules V → (ℕ → Reading) → V → List ℕ → Outcome V
totalled rules f sum [] = Ok sum
totalled rules f sum (channel ∷ channels) = and_then (added_at rules f channel sum) (λ more. totalled rules f more channels)
