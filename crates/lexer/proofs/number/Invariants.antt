use Rattle.std.proofs.Common.{◌≡◌, ◌≤◌, take}
use Rattle.lexer.specs.Lexed.{worth}
use Rattle.lexer.proofs.number.Given as goal

-- The value is that of the digits so far.
abbrev pub invariant-loop-digit : goal.invariant-loop-digit
invariant-loop-digit l = (l.value ≡ worth (take l.digit-index l.digits)) × (l.value ≤ 268435455)
