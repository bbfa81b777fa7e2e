use Rattle.std.proofs.Common.{◌≡◌, ◌-◌, length}
use Rattle.recipe.specs.Tokens.{tokens, all_tokens}
use Rattle.lexer.specs.Lexed.{rest, Valid}
use Rattle.compiler.proofs.stages.check_tokens.Given as goal

abbrev pub invariant-loop-look : goal.invariant-loop-look
invariant-loop-look l = (all_tokens (tokens l.text) ≡ all_tokens (rest l.text l.look)) × Valid l.text l.look

abbrev pub decreases-loop-look : goal.decreases-loop-look
decreases-loop-look l = length l.text - l.look.start
