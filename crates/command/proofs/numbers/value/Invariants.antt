use Rattle.command.proofs.Values.{ReadTo}
use Rattle.command.proofs.numbers.value.Given as goal

abbrev pub invariant-loop-byte : goal.invariant-loop-byte
invariant-loop-byte l = ReadTo l.digits l.byte-index l.value
