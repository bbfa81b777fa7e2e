-- A fault that tells its channel.
use Rattle.std.specs.Prelude.{ℕ, Ok, Err, Result}
use Rattle.reading.specs.declared.at_channel.AtChannel.{AtChannel}

-- an outcome at a channel: a fault with the channel beside it
abbrev pub told_at : {V F : Type 0} → ℕ → Result V F → Result V (AtChannel F)
told_at channel (Ok v) = Ok v
told_at channel (Err e) = Err (record { channel = channel; fault = e })
