-- The limits of a recipe, over its tree.
use Rattle.std.specs.Prelude.{ℕ, ◌+◌, ◌≤◌, max}
use Rattle.recipe.specs.Grammar.{Expr, num, var, op, let_in, ifp, call, weigh, group, Arguments, one, more, Several, one_only, and_then}
use Rattle.recipe.specs.Grammar.{Declaration, declare, Recipe, recipe}
use Rattle.recipe.specs.Limits.{size}

-- The most brackets, call brackets, let expressions and ifps that are open at once.
abbrev mutual
  pub nesting : Expr → ℕ
  nesting (num n) = 0
  nesting (var x) = 0
  nesting (weigh n) = 0
  nesting (op o a b) = max (nesting a) (nesting b)
  nesting (let_in x a b) = max (nesting a) (nesting b) + 1
  nesting (ifp c a b) = max (nesting c) (max (nesting a) (nesting b)) + 1
  nesting (call f es) = nestings es + 1
  nesting (group e) = nesting e + 1

  pub nestings : Arguments → ℕ
  nestings (one e) = nesting e
  nestings (more es e) = max (nestings es) (nesting e)

-- The constructs of a tree, added to n others: its numbers but those after weigh, its variables used, calls, weighs, operators,
-- let expressions and ifps.
abbrev mutual
  pub constructs : ℕ → Expr → ℕ
  constructs n (num x) = n + 1
  constructs n (var x) = n + 1
  constructs n (weigh x) = n + 1
  constructs n (op o a b) = constructs (constructs n a + 1) b
  constructs n (let_in x a b) = constructs (constructs (n + 1) a) b
  constructs n (ifp c a b) = constructs (constructs (constructs (n + 1) c) a) b
  constructs n (call f es) = constructs_of (n + 1) es
  constructs n (group e) = constructs n e

  pub constructs_of : ℕ → Arguments → ℕ
  constructs_of n (one e) = constructs n e
  constructs_of n (more es e) = constructs (constructs_of n es) e

-- the same, of a function and of all functions
abbrev pub body_constructs : ℕ → Declaration → ℕ
body_constructs n (declare f xs e) = constructs n e

abbrev pub all_constructs : Several Declaration → ℕ
all_constructs (one_only d) = body_constructs 0 d
all_constructs (and_then ds d) = body_constructs (all_constructs ds) d

-- A function has at most 8 parameters, and its body nests at most 32 deep.
abbrev pub FitsDeclaration : Declaration → Type 0
FitsDeclaration (declare f xs e) = (size xs ≤ 8) × (nesting e ≤ 32)

abbrev pub FitDeclarations : Several Declaration → Type 0
FitDeclarations (one_only d) = FitsDeclaration d
FitDeclarations (and_then ds d) = FitDeclarations ds × FitsDeclaration d

-- At most 32 functions that fit, a main expression that nests at most 32 deep, and at most 2,000 constructs in all.
abbrev pub Within : Recipe → Type 0
Within (recipe ds p e) = (size ds ≤ 32) × FitDeclarations ds × (nesting e ≤ 32) × (constructs (all_constructs ds) e ≤ 2000)
