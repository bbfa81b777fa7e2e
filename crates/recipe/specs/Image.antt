-- The words of an image.
use Rattle.std.specs.Prelude.{ℕ, ◌+◌, ◌*◌, cond, List, [], ◌∷◌, ◌++◌, length, slice_set}
use Rattle.std.specs.Str.{bytes_eq}
use Rattle.recipe.specs.Tokens.{Op, Plus, Minus, Times, Over, Ident}
use Rattle.recipe.specs.Grammar.{Expr, num, var, op, let_in, ifp, call, weigh, group, Arguments, one, more}
use Rattle.recipe.specs.Grammar.{Declaration, declare, Recipe, recipe}
use Rattle.recipe.specs.Names.{all, count}

-- A word has its kind in the top four bits, its operand in the low 28.
abbrev pub word : ℕ → ℕ → ℕ
word kind operand = kind * 268435456 + operand

-- pushes a number
abbrev pub NUM : ℕ → ℕ
NUM n = word 0 n

-- pushes a value of the frame, which stands in slot 0 at the base
abbrev pub VAR : ℕ → ℕ
VAR slot = word 1 slot

-- two values to one
abbrev pub OP : Op → ℕ
OP Plus = word 2 0
OP Minus = word 2 1
OP Times = word 2 2
OP Over = word 2 3

-- removes the value under the top
abbrev pub OUT : ℕ
OUT = word 3 0

-- takes a value off, and goes to the target unless it is positive
abbrev pub UNLESS : ℕ → ℕ
UNLESS target = word 4 target

-- goes to the target
abbrev pub GO : ℕ → ℕ
GO target = word 5 target

-- calls the function whose words begin at the target
abbrev pub CALL : ℕ → ℕ → ℕ
CALL arity target = word 6 (arity * 65536 + target)

-- returns, or ends the run
abbrev pub BACK : ℕ
BACK = word 7 0

-- pushes the weight held for a channel
abbrev pub WEIGH : ℕ → ℕ
WEIGH channel = word 8 channel

-- stands first, with the number of words in the image
abbrev pub HEAD : ℕ → ℕ
HEAD n = word 9 n

-- stands before a function's words
abbrev pub FN : ℕ → ℕ
FN arity = word 10 arity

-- The index past the words of an expression, which begin at the index `at`.
abbrev mutual
  pub past : ℕ → Expr → ℕ
  past at (num n) = at + 1
  past at (var x) = at + 1
  past at (weigh n) = at + 1
  past at (op o a b) = past (past at a) b + 1
  past at (let_in x a b) = past (past at a) b + 1
  past at (ifp c a b) = past (past (past at c + 1) a + 1) b
  past at (call f es) = pasts at es + 1
  past at (group e) = past at e

  -- past the words of arguments
  pub pasts : ℕ → Arguments → ℕ
  pasts at (one e) = past at e
  pasts at (more es e) = past (pasts at es) e

-- A name and where it leads: a variable's slot, or the index of a function's first word after its FN.
pub record Bound : Type 0 where
  pub name : List ℕ
  pub to : ℕ

-- the first of that name counts (a name that is not there has been refused before)
abbrev pub find : List Bound → List ℕ → ℕ
find [] x = 0
find (b ∷ bs) x = cond (bytes_eq x b.name) b.to (find bs x)

-- `words functions variables held at e`: the words of an expression, the first at the index `at`, where the frame holds so many values.
-- The variables in force stand newest first, so an inner one hides an outer one of its name. Operands and arguments come first.
-- A let's value takes the slot of the number of values held before it. An ifp is its test, UNLESS to its second branch,
-- its first branch, GO past the second, and the second.
abbrev mutual
  pub words : List Bound → List Bound → ℕ → ℕ → Expr → List ℕ
  words functions variables held at (num n) = NUM n.value ∷ []
  words functions variables held at (var x) = VAR (find variables x.name) ∷ []
  words functions variables held at (weigh n) = WEIGH n.value ∷ []
  words functions variables held at (op o a b) =
      words functions variables held at a ++ (words functions variables (held + 1) (past at a) b ++ (OP o ∷ []))
  words functions variables held at (let_in x a b) =
      let inside = record { name = x.name; to = held } ∷ variables in
      words functions variables held at a ++ (words functions inside (held + 1) (past at a) b ++ (OUT ∷ []))
  words functions variables held at (ifp c a b) =
      let first = past at c + 1 in
      let second = past first a + 1 in
      words functions variables held at c ++ (UNLESS second ∷
      (words functions variables held first a ++ (GO (past second b) ∷
      words functions variables held second b)))
  words functions variables held at (call f es) =
      arguments functions variables held at es ++ (CALL (count es) (find functions f.name) ∷ [])
  words functions variables held at (group e) = words functions variables held at e

  -- each argument's value is held while the next ones are worked out
  pub arguments : List Bound → List Bound → ℕ → ℕ → Arguments → List ℕ
  arguments functions variables held at (one e) = words functions variables held at e
  arguments functions variables held at (more es e) =
      arguments functions variables held at es ++ words functions variables (held + count es) (pasts at es) e

-- Variables, and parameters that take the slots from n on.
abbrev pub slots : List Bound → ℕ → List Ident → List Bound
slots variables n [] = variables
slots variables n (x ∷ xs) = slots (record { name = x.name; to = n } ∷ variables) (n + 1) xs

-- Functions whose words begin at the index `at`, each FN, body, BACK. Where each begins: a CALL's target follows the FN.
abbrev pub entries : ℕ → List Declaration → List Bound
entries at [] = []
entries at (declare f xs e ∷ ds) = record { name = f.name; to = at + 1 } ∷ entries (past (at + 1) e + 1) ds

-- Their words. A body begins with its parameters held.
abbrev pub bodies : List Bound → ℕ → List Declaration → List ℕ
bodies functions at [] = []
bodies functions at (declare f xs e ∷ ds) =
    let arity = length (all xs) in
    FN arity ∷ (words functions (slots [] 0 (all xs)) arity (at + 1) e ++ (BACK ∷ bodies functions (past (at + 1) e + 1) ds))

-- The index past them.
abbrev pub past_all : ℕ → List Declaration → ℕ
past_all at [] = at
past_all at (declare f xs e ∷ ds) = past_all (past (at + 1) e + 1) ds

-- HEAD at the index 0; the main expression and BACK; the functions.
abbrev pub image : Recipe → List ℕ
image (recipe ds p e) =
    let from = past 1 e + 1 in
    let functions = entries from (all ds) in
    HEAD (past_all from (all ds)) ∷ (words functions [] 0 1 e ++ (BACK ∷ bodies functions from (all ds)))

-- Words written one after another from the index `at` on; past the end of the memory nothing is written.
abbrev pub placed : List ℕ → ℕ → List ℕ → List ℕ
placed memory at [] = memory
placed memory at (w ∷ ws) = placed (slice_set memory at w) (at + 1) ws
