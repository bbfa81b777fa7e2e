use Rattle.lexer.proofs.One as one
use Rattle.lexer.proofs.one_answer.Goals as goal

pub returns : goal.returns
returns c = one.one_answer
