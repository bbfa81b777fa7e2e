-- The words that a recipe's image is made of ask for what they were written for.
use Rattle.std.specs.Prelude.{◌≡◌, ℕ, ◌<◌}
use Rattle.recipe.specs.declared.Op.{Op as Operator}
use Rattle.recipe.specs.Image.{NUM, VAR, OP, OUT, UNLESS, GO, CALL, BACK, WEIGH, HEAD, FN}
use Rattle.machine.specs.declared.types.Instruction.TheVariants.{Num, Var, Op, Out, Unless, Go, Call, Back, Weigh, Bad}
use Rattle.machine.specs.Words.{decoded}

-- an operand of 28 bits, and in CALL an arity of 12 and a target of 16
abbrev Operand : ℕ → Type 0
Operand x = x < 268435456

pub record Encoded : Type 0 where
  pub num : (n : ℕ) → Operand n → decoded (NUM n) ≡ Num n
  pub var : (slot : ℕ) → Operand slot → decoded (VAR slot) ≡ Var slot
  pub op : (o : Operator) → decoded (OP o) ≡ Op o
  pub out : decoded OUT ≡ Out
  pub unless : (target : ℕ) → Operand target → decoded (UNLESS target) ≡ Unless target
  pub go : (target : ℕ) → Operand target → decoded (GO target) ≡ Go target
  pub call : (arity target : ℕ) → arity < 4096 → target < 65536 → decoded (CALL arity target) ≡ Call arity target
  pub back : decoded BACK ≡ Back
  pub weigh : (channel : ℕ) → Operand channel → decoded (WEIGH channel) ≡ Weigh channel
  pub head : (n : ℕ) → Operand n → decoded (HEAD n) ≡ Bad
  pub fn : (arity : ℕ) → Operand arity → decoded (FN arity) ≡ Bad
