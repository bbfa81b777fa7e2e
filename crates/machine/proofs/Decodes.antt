-- A word taken apart into the kind and the operand that it was put together from.
use Rattle.std.proofs.Common.{◌≡◌, ℕ, ◌+◌, ◌*◌, ◌/◌, ◌%◌, ◌<◌, refl, ◌∙◌, ap₂, arith}
use Rattle.recipe.specs.declared.Op.{Op as Operator}
use Rattle.recipe.specs.declared.Op.TheVariants.{Plus, Minus, Times, Over}
use Rattle.recipe.specs.Image.{OP, CALL}
use Rattle.machine.specs.declared.types.Instruction.TheVariants.{Op, Call}
use Rattle.machine.specs.Words.{decoded, of_kind}

pub taken_apart : (kind x : ℕ) → x < 268435456 → decoded (kind * 268435456 + x) ≡ of_kind kind x
taken_apart kind x h =
    let k : (kind * 268435456 + x) / 268435456 ≡ kind = omega arith in
    let o : (kind * 268435456 + x) % 268435456 ≡ x = omega arith in
    ap₂ of_kind k o

pub operators : (o : Operator) → decoded (OP o) ≡ Op o
operators Plus = refl
operators Minus = refl
operators Times = refl
operators Over = refl

pub calls : (arity target : ℕ) → arity < 4096 → target < 65536 → decoded (CALL arity target) ≡ Call arity target
calls arity target few low =
    let a : (arity * 65536 + target) / 65536 ≡ arity = omega arith in
    let t : (arity * 65536 + target) % 65536 ≡ target = omega arith in
    taken_apart 6 (arity * 65536 + target) (omega arith) ∙ ap₂ Call a t
