-- The rules of names: what is wrong in a tree, as a list of refusals, called its faults here. Of several, the one at the earliest
-- place is what the text is refused for, and of those at one place the one of the smallest number.
use Rattle.std.specs.Prelude.{ℕ, ◌+◌, Bool, true, false, cond, ◌&&◌, ◌||◌, List, [], ◌∷◌, ◌++◌, length, Some, None, ◌==◌, nat_le, nat_lt}
use Rattle.std.proofs.Math.Option.{Option, none, some}
use Rattle.std.specs.Str.{bytes_eq}
use Rattle.std.specs.declared.option.Option as std
use Rattle.recipe.specs.declared.cause.Refusal.{Refusal}
use Rattle.recipe.specs.Causes.{Cause, cause_number, DeclaredTwice, UnknownName, ArgumentCount, Channel}
use Rattle.recipe.specs.Tokens.{Ident, Verdict, fine, wrong}
use Rattle.recipe.specs.Grammar.{Expr, num, var, op, let_in, ifp, call, weigh, group, Arguments, one, more, Several, one_only, and_then}
use Rattle.recipe.specs.Grammar.{Declaration, declare, Recipe, recipe}

abbrev pub fault_unless : Bool → ℕ → Cause → List Refusal
fault_unless true p c = []
fault_unless false p c = record { place = p; cause = c } ∷ []

-- One or more, as a list in the order of the text.
abbrev pub listed : {A : Type 0} → Several A → List A → List A
listed (one_only a) after = a ∷ after
listed (and_then l a) after = listed l (a ∷ after)

abbrev pub all : {A : Type 0} → Several A → List A
all l = listed l []

-- how many arguments
abbrev pub count : Arguments → ℕ
count (one e) = 1
count (more es e) = count es + 1

-- Whether a name is among others.
abbrev pub among : List (List ℕ) → List ℕ → Bool
among [] x = false
among (y ∷ ys) x = bytes_eq x y || among ys x

-- A function's name and how many parameters it has. Of two functions alike, the first counts.
pub record Signature : Type 0 where
  pub name : List ℕ
  pub arity : ℕ

abbrev pub arity_of : List Signature → List ℕ → Option ℕ
arity_of [] f = none
arity_of (s ∷ ss) f = cond (bytes_eq f s.name) (some s.arity) (arity_of ss f)

abbrev pub names_of : List Ident → List (List ℕ)
names_of [] = []
names_of (x ∷ xs) = x.name ∷ names_of xs

-- A call with n arguments, at the place p of the name called: there is no such function, or it has another number of parameters.
abbrev pub call_faults : Option ℕ → ℕ → ℕ → List Refusal
call_faults none n p = record { place = p; cause = UnknownName } ∷ []
call_faults (some a) n p = fault_unless (a == n) p ArgumentCount

-- `faults functions names e`: what is wrong in an expression where these are all functions and these the names in force.
-- A function and a variable may share a name. A let's name is in force in its body alone, besides the names around it.
abbrev mutual
  pub faults : List Signature → List (List ℕ) → Expr → List Refusal
  faults functions names (num n) = []
  faults functions names (var x) = fault_unless (among names x.name) x.place UnknownName
  faults functions names (op o a b) = faults functions names a ++ faults functions names b
  faults functions names (let_in x a b) = faults functions names a ++ faults functions (x.name ∷ names) b
  faults functions names (ifp c a b) = faults functions names c ++ (faults functions names a ++ faults functions names b)
  faults functions names (call f es) =
      call_faults (arity_of functions f.name) (count es) f.place ++ faults_of functions names es
  faults functions names (weigh n) = fault_unless (nat_le 1 n.value && nat_le n.value 64) n.place Channel
  faults functions names (group e) = faults functions names e

  pub faults_of : List Signature → List (List ℕ) → Arguments → List Refusal
  faults_of functions names (one e) = faults functions names e
  faults_of functions names (more es e) = faults_of functions names es ++ faults functions names e

-- Each name that repeats one before it.
abbrev pub twice : List (List ℕ) → List Ident → List Refusal
twice before [] = []
twice before (x ∷ xs) =
    cond (among before x.name) (record { place = x.place; cause = DeclaredTwice } ∷ []) [] ++ twice (x.name ∷ before) xs

abbrev pub declared_names : List Declaration → List Ident
declared_names [] = []
declared_names (declare f xs e ∷ ds) = f ∷ declared_names ds

abbrev pub signatures : List Declaration → List Signature
signatures [] = []
signatures (declare f xs e ∷ ds) = record { name = f.name; arity = length (all xs) } ∷ signatures ds

-- In a body, the names in force are the parameters of its head.
abbrev pub body_faults : List Signature → List Declaration → List Refusal
body_faults functions [] = []
body_faults functions (declare f xs e ∷ ds) =
    twice [] (all xs) ++ (faults functions (names_of (all xs)) e ++ body_faults functions ds)

-- All functions know each other. In the main expression no name is in force.
abbrev pub recipe_faults : Recipe → List Refusal
recipe_faults (recipe ds p e) =
    let functions = signatures (all ds) in
    twice [] (declared_names (all ds)) ++ (body_faults functions (all ds) ++ faults functions [] e)

-- The earlier place, then the smaller number.
abbrev pub before : Refusal → Refusal → Bool
before a b = nat_lt a.place b.place || (a.place == b.place && nat_le (cause_number a.cause) (cause_number b.cause))

abbrev pub sooner : Refusal → Refusal → Refusal
sooner a b = cond (before a b) a b

-- The sooner of a fault found so far, if any, and one more.
abbrev pub noted : std.Option Refusal → Refusal → std.Option Refusal
noted None b = Some b
noted (Some a) b = Some (sooner a b)

-- The earliest of a fault found so far, if any, and others.
abbrev pub earliest : std.Option Refusal → List Refusal → std.Option Refusal
earliest found [] = found
earliest found (b ∷ bs) = earliest (noted found b) bs

abbrev pub verdict_of : std.Option Refusal → Verdict Unit
verdict_of None = fine tt
verdict_of (Some a) = wrong (cause_number a.cause) a.place

abbrev pub first_fault : List Refusal → Verdict Unit
first_fault fs = verdict_of (earliest None fs)
