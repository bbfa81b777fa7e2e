-- A machine that reads tokens one by one. It holds what is open, and the trees that are whole.
-- It reads just the texts of the grammar: the crate's theorems say so.
use Rattle.std.specs.Prelude.{ℕ, Bool, true, false, List, [], ◌∷◌, ◌==◌}
use Rattle.std.proofs.Math.Option.{Option, none, some}
use Rattle.recipe.specs.Tokens.{Op, Plus, Minus, Times, Over, Word, Let, In, Ifp, Then, Else, Weigh, Open, Close, Comma, Equals}
use Rattle.recipe.specs.Tokens.{Ident, Literal, Token, Number, Name, Operator, TheWord, Bad}
use Rattle.recipe.specs.Grammar.{Expr, num, var, op, let_in, ifp, call, weigh, group, Arguments, one, more, Several, one_only, and_then}
use Rattle.recipe.specs.Grammar.{Declaration, declare, Recipe, recipe}

-- The left part of an operator whose right part is still to come, if there is one.
pub data Left : Type 0 where
  nothing : Left
  left : Expr → Op → Left

-- a tree, joined to the left part that waits for it
abbrev pub apply : Left → Expr → Expr
apply nothing e = e
apply (left a o) e = op o a e

-- the arguments so far, and one more; and so of parameters and declarations
abbrev pub with_argument : Option Arguments → Expr → Arguments
with_argument none e = one e
with_argument (some es) e = more es e

abbrev pub with_one : {A : Type 0} → Option (Several A) → A → Several A
with_one none a = one_only a
with_one (some l) a = and_then l a

-- What is open around an expression:
-- in_body, a function's body, with the declarations before it, its name and its parameters;
-- in_main, the main expression, with the declarations and the place of the recipe's own `in`;
-- let_value and let_body, a let expression, before and after its `in`; if_test, if_then and if_else, an ifp, by its parts;
-- bracket, a bracket, with the sum and the product that wait for it;
-- argument, a call's bracket, with the same, the name called and the arguments so far.
pub data Context : Type 0 where
  in_body : Option (Several Declaration) → Ident → Several Ident → Context
  in_main : Several Declaration → ℕ → Context
  let_value : Ident → Context → Context
  let_body : Ident → Expr → Context → Context
  if_test : Context → Context
  if_then : Expr → Context → Context
  if_else : Expr → Expr → Context → Context
  bracket : Left → Left → Context → Context
  argument : Left → Left → Ident → Option Arguments → Context → Context

-- Where the machine stands:
-- stuck, no text goes on so; start, before the recipe's `let`; first_head, after it;
-- head_open, after a declared name; head_name, before a parameter; head_next, after one; head_equals, after the head's `)`;
-- want, before an expression; let_name and let_equals, after a let expression's `let` and after its name;
-- operand, after an operator; weighed, after `weigh`; named, after a name that is a variable, or a function if `(` follows;
-- after_product, after_sum and after_expr, after an operand, a sum and an expression that may go on. (No token leads to the
-- last two: proofs and contracts name a whole sum and a whole expression by them.)
-- The two left parts of a state are a sum's and, within it, a product's.
pub data State : Type 0 where
  stuck start first_head : State
  head_open : Option (Several Declaration) → Ident → State
  head_name : Option (Several Declaration) → Ident → Option (Several Ident) → State
  head_next head_equals : Option (Several Declaration) → Ident → Several Ident → State
  want let_name : Context → State
  let_equals : Ident → Context → State
  operand weighed : Left → Left → Context → State
  named : Left → Left → Ident → Context → State
  after_product : Left → Expr → Context → State
  after_sum after_expr : Expr → Context → State

-- words told apart by numbers of their own
abbrev pub code : Word → ℕ
code Let = 0
code In = 1
code Ifp = 2
code Then = 3
code Else = 4
code Weigh = 5
code Open = 6
code Close = 7
code Comma = 8
code Equals = 9

abbrev pub pick : Bool → State → State → State
pick true a b = a
pick false a b = b

-- `a` where the token is the word `w`, and else `b`
abbrev pub on : Word → Token → State → State → State
on w (Number n) a b = b
on w (Name x) a b = b
on w (Operator p o) a b = b
on w (TheWord p v) a b = pick (code w == code v) a b
on w (Bad p c) a b = b

-- by the name, where the token is one, and else `b`
abbrev pub on_name : Token → (Ident → State) → State → State
on_name (Number n) next b = b
on_name (Name x) next b = next x
on_name (Operator p o) next b = b
on_name (TheWord p v) next b = b
on_name (Bad p c) next b = b

-- by the number, where the token is one, and else stuck
abbrev pub on_number : Token → (Literal → State) → State
on_number (Number n) next = next n
on_number (Name x) next = stuck
on_number (Operator p o) next = stuck
on_number (TheWord p v) next = stuck
on_number (Bad p c) next = stuck

-- by the place, where the token is `in`, and else stuck
abbrev pub on_in : Token → (ℕ → State) → State
on_in (Number n) next = stuck
on_in (Name x) next = stuck
on_in (Operator p o) next = stuck
on_in (TheWord p v) next = pick (code In == code v) (next p) stuck
on_in (Bad p c) next = stuck

-- The token after a whole expression. A let expression and an ifp end where their last part does.
abbrev pub expr_on : Expr → Context → Token → State
expr_on e (in_body earlier f xs) t =
    on_name t (head_open (some (with_one earlier (declare f xs e)))) (on_in t (λ p. want (in_main (with_one earlier (declare f xs e)) p)))
expr_on e (in_main declarations p) t = stuck
expr_on e (let_value x around) t = on In t (want (let_body x e around)) stuck
expr_on e (let_body x e₁ around) t = expr_on (let_in x e₁ e) around t
expr_on e (if_test around) t = on Then t (want (if_then e around)) stuck
expr_on e (if_then e₀ around) t = on Else t (want (if_else e₀ e around)) stuck
expr_on e (if_else e₀ e₁ around) t = expr_on (ifp e₀ e₁ e) around t
expr_on e (bracket sum product around) t = on Close t (after_product sum (apply product (group e)) around) stuck
expr_on e (argument sum product f es around) t =
    on Comma t (want (argument sum product f (some (with_argument es e)) around))
    (on Close t (after_product sum (apply product (call f (with_argument es e))) around) stuck)

-- The token after a sum: `+` and `-` go on with it.
abbrev pub sum_on : Expr → Context → Token → State
sum_on e around (Operator p Plus) = operand (left e Plus) nothing around
sum_on e around (Operator p Minus) = operand (left e Minus) nothing around
sum_on e around (Operator p Times) = expr_on e around (Operator p Times)
sum_on e around (Operator p Over) = expr_on e around (Operator p Over)
sum_on e around (Number n) = expr_on e around (Number n)
sum_on e around (Name x) = expr_on e around (Name x)
sum_on e around (TheWord p w) = expr_on e around (TheWord p w)
sum_on e around (Bad p c) = expr_on e around (Bad p c)

-- The token after a product, with the sum before it: `*` and `div` go on with it.
abbrev pub product_on : Left → Expr → Context → Token → State
product_on sum e around (Operator p Plus) = sum_on (apply sum e) around (Operator p Plus)
product_on sum e around (Operator p Minus) = sum_on (apply sum e) around (Operator p Minus)
product_on sum e around (Operator p Times) = operand sum (left e Times) around
product_on sum e around (Operator p Over) = operand sum (left e Over) around
product_on sum e around (Number n) = sum_on (apply sum e) around (Number n)
product_on sum e around (Name x) = sum_on (apply sum e) around (Name x)
product_on sum e around (TheWord p w) = sum_on (apply sum e) around (TheWord p w)
product_on sum e around (Bad p c) = sum_on (apply sum e) around (Bad p c)

-- The token where an operand is due.
abbrev pub operand_on : Left → Left → Context → Token → State
operand_on sum product around (Number n) = after_product sum (apply product (num n)) around
operand_on sum product around (Name x) = named sum product x around
operand_on sum product around (Operator p o) = stuck
operand_on sum product around (TheWord p w) =
    on Weigh (TheWord p w) (weighed sum product around) (on Open (TheWord p w) (want (bracket sum product around)) stuck)
operand_on sum product around (Bad p c) = stuck

-- One token.
abbrev pub feed : State → Token → State
feed stuck t = stuck
feed start t = on Let t first_head stuck
feed first_head t = on_name t (head_open none) stuck
feed (head_open earlier f) t = on Open t (head_name earlier f none) stuck
feed (head_name earlier f xs) t = on_name t (λ x. head_next earlier f (with_one xs x)) stuck
feed (head_next earlier f xs) t = on Comma t (head_name earlier f (some xs)) (on Close t (head_equals earlier f xs) stuck)
feed (head_equals earlier f xs) t = on Equals t (want (in_body earlier f xs)) stuck
feed (want around) t = on Let t (let_name around) (on Ifp t (want (if_test around)) (operand_on nothing nothing around t))
feed (let_name around) t = on_name t (λ x. let_equals x around) stuck
feed (let_equals x around) t = on Equals t (want (let_value x around)) stuck
feed (operand sum product around) t = operand_on sum product around t
feed (weighed sum product around) t = on_number t (λ n. after_product sum (apply product (weigh n)) around)
feed (named sum product x around) t =
    on Open t (want (argument sum product x none around)) (product_on sum (apply product (var x)) around t)
feed (after_product sum e around) t = product_on sum e around t
feed (after_sum e around) t = sum_on e around t
feed (after_expr e around) t = expr_on e around t

abbrev pub run : State → List Token → State
run q [] = q
run q (t ∷ ts) = run (feed q t) ts

-- The tree of the recipe, where its tokens may end after a whole expression: in the main expression, with nothing open that wants more.
abbrev pub expr_end : Expr → Context → Option Recipe
expr_end e (in_body earlier f xs) = none
expr_end e (in_main declarations p) = some (recipe declarations p e)
expr_end e (let_value x around) = none
expr_end e (let_body x e₁ around) = expr_end (let_in x e₁ e) around
expr_end e (if_test around) = none
expr_end e (if_then e₀ around) = none
expr_end e (if_else e₀ e₁ around) = expr_end (ifp e₀ e₁ e) around
expr_end e (bracket sum product around) = none
expr_end e (argument sum product f es around) = none

-- The same, from any state.
abbrev pub finish : State → Option Recipe
finish stuck = none
finish start = none
finish first_head = none
finish (head_open earlier f) = none
finish (head_name earlier f xs) = none
finish (head_next earlier f xs) = none
finish (head_equals earlier f xs) = none
finish (want around) = none
finish (let_name around) = none
finish (let_equals x around) = none
finish (operand sum product around) = none
finish (weighed sum product around) = none
finish (named sum product x around) = expr_end (apply sum (apply product (var x))) around
finish (after_product sum e around) = expr_end (apply sum e) around
finish (after_sum e around) = expr_end e around
finish (after_expr e around) = expr_end e around
