-- How many values a frame comes to hold at once.
use Rattle.std.specs.Prelude.{ℕ, ◌+◌, max, cond, List, [], ◌∷◌, length, nat_le}
use Rattle.recipe.specs.Causes.{cause_number, Frame}
use Rattle.recipe.specs.Tokens.{Verdict, fine, wrong}
use Rattle.recipe.specs.Grammar.{Expr, num, var, op, let_in, ifp, call, weigh, group, Arguments, one, more}
use Rattle.recipe.specs.Grammar.{Declaration, declare, Recipe, recipe}
use Rattle.recipe.specs.Names.{all, count}

-- The values that an expression needs room for: while the right part of an operator or the body of a let is worked out,
-- the value before it is held. Brackets change nothing.
abbrev mutual
  pub need : Expr → ℕ
  need (num n) = 1
  need (var x) = 1
  need (weigh n) = 1
  need (op o a b) = max (need a) (1 + need b)
  need (let_in x a b) = max (need a) (1 + need b)
  need (ifp c a b) = max (need c) (max (need a) (need b))
  need (call f es) = needs es
  need (group e) = need e

  -- the largest of (j - 1) + need of the argument j
  pub needs : Arguments → ℕ
  needs (one e) = need e
  needs (more es e) = max (needs es) (count es + need e)

-- A function holds its parameters and the need of its body, the main expression its need. The first function over 32 is refused at its
-- declared name, called or not; and where none is, the main expression at the recipe's own `in`, the place p.
abbrev pub frames : List Declaration → ℕ → Expr → Verdict Unit
frames [] p e = cond (nat_le (need e) 32) (fine tt) (wrong (cause_number Frame) p)
frames (declare f xs b ∷ ds) p e =
    cond (nat_le (length (all xs) + need b) 32) (frames ds p e) (wrong (cause_number Frame) f.place)

abbrev pub recipe_frames : Recipe → Verdict Unit
recipe_frames (recipe ds p e) = frames (all ds) p e
