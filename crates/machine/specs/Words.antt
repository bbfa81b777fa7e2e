-- What an image word asks for. The top four of its 32 bits are its kind, the low 28 its operand.
use Rattle.std.specs.Prelude.{ℕ, ◌/◌, ◌%◌, ◌<◌, cond, ◌&&◌, List, length, Some, None, Option, ◌==◌, nat_le, slice_index_or}
use Rattle.recipe.specs.declared.Op.TheVariants.{Plus, Minus, Times, Over}
use Rattle.machine.specs.declared.types.Instruction.{Instruction}
use Rattle.machine.specs.declared.types.Instruction.TheVariants.{Num, Var, Op, Out, Unless, Go, Call, Back, Weigh, Bad}

-- OP takes 0 for +, 1 for -, 2 for * and 3 for div
abbrev pub operation : ℕ → Instruction
operation x = cond (x == 0) (Op Plus) (cond (x == 1) (Op Minus) (cond (x == 2) (Op Times) (cond (x == 3) (Op Over) Bad)))

-- a word that takes no operand but 0
abbrev pub alone : Instruction → ℕ → Instruction
alone i x = cond (x == 0) i Bad

-- CALL's operand is its arity times 65,536, plus its target
abbrev pub calling : ℕ → Instruction
calling x = Call (x / 65536) (x % 65536)

-- HEAD and FN, of the kinds 9 and 10, are no words to be carried out; there are no words of the kinds 11 to 15
abbrev pub of_kind : ℕ → ℕ → Instruction
of_kind kind x =
    cond (kind == 0) (Num x)
    (cond (kind == 1) (Var x)
    (cond (kind == 2) (operation x)
    (cond (kind == 3) (alone Out x)
    (cond (kind == 4) (Unless x)
    (cond (kind == 5) (Go x)
    (cond (kind == 6) (calling x)
    (cond (kind == 7) (alone Back x)
    (cond (kind == 8) (Weigh x)
    Bad))))))))

abbrev pub decoded : ℕ → Instruction
decoded w = of_kind (w / 268435456) (w % 268435456)

-- a number that a word holds has 28 bits
abbrev pub Small : Instruction → Type 0
Small (Num n) = n < 268435456
Small (Var slot) = Unit {0}
Small (Op o) = Unit {0}
Small Out = Unit {0}
Small (Unless target) = Unit {0}
Small (Go target) = Unit {0}
Small (Call arity target) = Unit {0}
Small Back = Unit {0}
Small (Weigh channel) = Unit {0}
Small Bad = Unit {0}

-- the count in the first word of an image, where that is a HEAD and the count is from 2 to 4,096 and no more than there are words
abbrev pub head_count : List ℕ → Option ℕ
head_count image =
    let head = slice_index_or image 0 0 in
    let count = head % 268435456 in
    cond (nat_le 1 (length image) && head / 268435456 == 9 && nat_le 2 count && nat_le count 4096 && nat_le count (length image)) (Some count) None
