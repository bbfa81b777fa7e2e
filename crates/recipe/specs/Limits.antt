-- The grammar stage: the machine reads token by token, and each token is judged as it is read, by the grammar and by the limits.
use Rattle.std.specs.Prelude.{ℕ, zero, suc, ◌+◌, cond, List, [], ◌∷◌, nat_le}
use Rattle.std.proofs.Math.Option.{Option, none, some}
use Rattle.recipe.specs.Causes.{cause_number, Grammar, Nesting, Functions, Parameters, Constructs}
use Rattle.recipe.specs.Tokens.{Let, In, Ifp, Then, Else, Weigh, Open, Close, Comma, Equals}
use Rattle.recipe.specs.Tokens.{Token, Number, Name, Operator, TheWord, Bad, place, Verdict, fine, wrong}
use Rattle.recipe.specs.Grammar.{Several, one_only, and_then, Recipe}
use Rattle.recipe.specs.Machine.{Context, in_body, in_main, let_value, let_body, if_test, if_then, if_else, bracket, argument}
use Rattle.recipe.specs.Machine.{State, stuck, start, first_head, head_open, head_name, head_next, head_equals, want, let_name, let_equals}
use Rattle.recipe.specs.Machine.{operand, weighed, named, after_product, after_sum, after_expr, feed, finish}

-- How many there are.
abbrev pub size : {A : Type 0} → Several A → ℕ
size (one_only a) = 1
size (and_then l a) = size l + 1

abbrev pub size_or_none : {A : Type 0} → Option (Several A) → ℕ
size_or_none none = 0
size_or_none (some l) = size l

-- The brackets, call brackets, let expressions and ifps that are open. A declaration's head and the recipe's own `let` are none of them.
abbrev pub depth : Context → ℕ
depth (in_body earlier f xs) = 0
depth (in_main declarations p) = 0
depth (let_value x around) = depth around + 1
depth (let_body x e around) = depth around + 1
depth (if_test around) = depth around + 1
depth (if_then e around) = depth around + 1
depth (if_else e e' around) = depth around + 1
depth (bracket sum product around) = depth around + 1
depth (argument sum product f es around) = depth around + 1

-- The constructs so far, n before the token. Each construct goes by one token.
-- Where an expression or an operand is due: a number, a name used or called, `weigh`, `let`, `ifp`.
abbrev pub with_operand : Token → ℕ → ℕ
with_operand (Number m) n = n + 1
with_operand (Name x) n = n + 1
with_operand (Operator p o) n = n
with_operand (TheWord p Let) n = n + 1
with_operand (TheWord p In) n = n
with_operand (TheWord p Ifp) n = n + 1
with_operand (TheWord p Then) n = n
with_operand (TheWord p Else) n = n
with_operand (TheWord p Weigh) n = n + 1
with_operand (TheWord p Open) n = n
with_operand (TheWord p Close) n = n
with_operand (TheWord p Comma) n = n
with_operand (TheWord p Equals) n = n
with_operand (Bad p c) n = n

-- After an operand: an operator.
abbrev pub with_operator : Token → ℕ → ℕ
with_operator (Number m) n = n
with_operator (Name x) n = n
with_operator (Operator p o) n = n + 1
with_operator (TheWord p w) n = n
with_operator (Bad p c) n = n

-- Nowhere else: the names of a head and of a let expression, and the number after `weigh`, are no constructs.
abbrev pub counted : State → Token → ℕ → ℕ
counted stuck t n = n
counted start t n = n
counted first_head t n = n
counted (head_open earlier f) t n = n
counted (head_name earlier f xs) t n = n
counted (head_next earlier f xs) t n = n
counted (head_equals earlier f xs) t n = n
counted (want around) t n = with_operand t n
counted (let_name around) t n = n
counted (let_equals x around) t n = n
counted (operand sum product around) t n = with_operand t n
counted (weighed sum product around) t n = n
counted (named sum product x around) t n = with_operator t n
counted (after_product sum e around) t n = with_operator t n
counted (after_sum e around) t n = with_operator t n
counted (after_expr e around) t n = with_operator t n

-- 0 stands for no cause.
abbrev pub unless_over : ℕ → ℕ → ℕ → ℕ
unless_over limit n cause = cond (nat_le n limit) 0 cause

abbrev pub constructs_judged : ℕ → ℕ
constructs_judged n = unless_over 2000 n (cause_number Constructs)

-- nesting is judged before constructs, the smaller number first
abbrev pub nesting_judged : ℕ → ℕ → ℕ → ℕ
nesting_judged limit d n = cond (nat_le d limit) (constructs_judged n) (cause_number Nesting)

-- The cause for which a token is refused, by the state after it and the n constructs so far.
-- After a declared name there are at most 31 declarations before it; after a parameter's name there are at most 8 parameters,
-- that one among them. A `let` opens a let expression, so at most 31 brackets, let expressions and ifps are open around it. A
-- bracket, an ifp and the rest of a let are counted as open already. A token that is no construct leaves n as it was, so a
-- text is refused for its constructs at a construct's own token.
abbrev pub judged : State → ℕ → ℕ
judged stuck n = cause_number Grammar
judged start n = 0
judged first_head n = 0
judged (head_open earlier f) n = unless_over 31 (size_or_none earlier) (cause_number Functions)
judged (head_name earlier f xs) n = 0
judged (head_next earlier f xs) n = unless_over 8 (size xs) (cause_number Parameters)
judged (head_equals earlier f xs) n = 0
judged (want around) n = nesting_judged 32 (depth around) n
judged (let_name around) n = nesting_judged 31 (depth around) n
judged (let_equals x around) n = 0
judged (operand sum product around) n = constructs_judged n
judged (weighed sum product around) n = constructs_judged n
judged (named sum product x around) n = constructs_judged n
judged (after_product sum e around) n = constructs_judged n
judged (after_sum e around) n = constructs_judged n
judged (after_expr e around) n = constructs_judged n

-- Where tokens run out that are no text of the grammar, the place is the text's length.
abbrev pub at_the_end : ℕ → Option Recipe → Verdict Recipe
at_the_end len none = wrong (cause_number Grammar) len
at_the_end len (some r) = fine r

-- what follows, unless there is a cause
abbrev pub unless : ℕ → ℕ → Verdict Recipe → Verdict Recipe
unless zero p v = v
unless (suc c) p v = wrong (suc c) p

-- `reading len q n ts`: what becomes of the tokens `ts`, the last of a text of `len` bytes, from the state q, with n constructs before them.
abbrev pub reading : ℕ → State → ℕ → List Token → Verdict Recipe
reading len q n [] = at_the_end len (finish q)
reading len q n (t ∷ ts) =
    let q' = feed q t in let n' = counted q t n in unless (judged q' n') (place t) (reading len q' n' ts)
