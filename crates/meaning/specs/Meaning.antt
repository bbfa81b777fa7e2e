-- What a recipe means: call by value, with the steps that it takes.
use Rattle.std.specs.Prelude.{ℕ, zero, suc, ◌+◌, Bool, true, false, cond, List, [], ◌∷◌, ◌++◌, pos, Ok, Err}
use Rattle.std.specs.Str.{bytes_eq}
use Rattle.arithmetic.specs.Rules.{Answer, Rules}
use Rattle.reading.specs.Answers.{Reading}
use Rattle.recipe.specs.Tokens.{Ident}
use Rattle.recipe.specs.Grammar.{Expr, num, var, op, let_in, ifp, call, weigh, group, Arguments, one, more}
use Rattle.recipe.specs.Grammar.{Declaration, declare, Recipe, recipe}
use Rattle.recipe.specs.Names.{all}
use Rattle.recipe.specs.Image.{past, pasts}
use Rattle.machine.specs.Steps.{applied}
use Rattle.machine.specs.declared.fault.RunFault.{RunFault}
use Rattle.machine.specs.declared.fault.EngineFault.TheVariants.{TooDeep}
use Rattle.machine.specs.declared.fault.Fault.TheVariants.{OfArithmetic, OfReading, OfEngine}

-- A value, or a fault with the index of its word, and the steps until then.
pub data Outcome (A : Type 0) : Type 0 where
  gives : A → ℕ → Outcome A
  faults : RunFault → ℕ → Outcome A

abbrev pub steps : {A : Type 0} → Outcome A → ℕ
steps (gives v n) = n
steps (faults f n) = n

-- an outcome with n steps before it
abbrev pub later : {A : Type 0} → ℕ → Outcome A → Outcome A
later n (gives v m) = gives v (n + m)
later n (faults f m) = faults f (n + m)

-- one thing and then, with its value, another; the first fault ends it
abbrev pub after : {A B : Type 0} → Outcome A → (A → Outcome B) → Outcome B
after (gives v n) next = later n (next v)
after (faults f n) next = faults f n

-- one step more
abbrev pub one_more : {A : Type 0} → A → Outcome A
one_more v = gives v 1

-- the step of an operator, whose word has the index i
abbrev pub worked : {V : Type 0} → ℕ → Answer V → Outcome V
worked i (Ok v) = gives v 1
worked i (Err e) = faults (record { fault = OfArithmetic e; index = i }) 1

-- the step of a weigh, whose word has the index i
abbrev pub weighed : {V : Type 0} → Rules V → ℕ → ℕ → Reading → Outcome V
weighed rules i channel (Ok grams) = gives (rules.whole grams) 1
weighed rules i channel (Err e) = faults (record { fault = OfReading (record { fault = e; channel = channel }); index = i }) 1

-- one of two; the other is not worked out
abbrev pub chosen : {A : Type 0} → Bool → (Unit {0} → A) → (Unit {0} → A) → A
chosen true first second = first tt
chosen false first second = second tt

-- A name and what it is worth.
pub record Valued (V : Type 0) : Type 0 where
  pub name : List ℕ
  pub worth : V

-- The names in force stand newest first, and the first of a name counts. An accepted recipe uses no name that is not in force.
abbrev pub worth_of : {V : Type 0} → V → List (Valued V) → List ℕ → V
worth_of default [] x = default
worth_of default (b ∷ env) x = cond (bytes_eq x b.name) b.worth (worth_of default env x)

-- `value i env e`: what an expression means, whose words begin at the index i, where the names in force are worth what `env` says.
-- `calls f i vs` is what the function f means, called by the word at the index i with the arguments vs.
module _ {V : Type 0} (rules : Rules V) (held : ℕ → Reading) (calls : List ℕ → ℕ → List V → Outcome V) where
  unfoldable mutual
    pub value : ℕ → List (Valued V) → Expr → Outcome V
    -- a number, a name and a weigh take one step
    value i env (num n) = gives (rules.whole (pos n.value)) 1
    value i env (var x) = gives (worth_of (rules.whole (pos 0)) env x.name) 1
    value i env (weigh n) = weighed rules i n.value (held n.value)
    -- an operator and a let take one step after their parts
    value i env (op o a b) =
        after (value i env a) (λ v.
        after (value (past i a) env b) (λ w.
        worked (past (past i a) b) (applied rules o v w)))
    value i env (let_in x a b) =
        after (value i env a) (λ v.
        after (value (past i a) (record { name = x.name; worth = v } ∷ env) b) one_more)
    -- an ifp takes one step before the branch taken, and one more after the first branch
    value i env (ifp c a b) =
        let first = past i c + 1 in
        let second = past first a + 1 in
        after (value i env c) (λ v. later 1 (chosen (rules.positive v)
        (λ _. after (value first env a) one_more)
        (λ _. value second env b)))
    -- a call is its arguments, then the function; brackets change nothing
    value i env (call f es) = after (values i env es) (calls f.name (pasts i es))
    value i env (group e) = value i env e

    -- arguments, left to right
    pub values : ℕ → List (Valued V) → Arguments → Outcome (List V)
    values i env (one e) = after (value i env e) (λ v. gives (v ∷ []) 0)
    values i env (more es e) =
        after (values i env es) (λ vs.
        after (value (pasts i es) env e) (λ v. gives (vs ++ (v ∷ [])) 0))

-- Parameters, worth the arguments.
abbrev pub with_worths : {V : Type 0} → List (Valued V) → List Ident → List V → List (Valued V)
with_worths env [] vs = env
with_worths env (x ∷ xs) [] = env
with_worths env (x ∷ xs) (v ∷ vs) = with_worths (record { name = x.name; worth = v } ∷ env) xs vs

-- A function: where the words of its body begin, its parameters, its body.
pub record Function : Type 0 where
  pub entry : ℕ
  pub parameters : List Ident
  pub body : Expr

-- The first of a name, where the functions' words begin at the index i. An accepted recipe calls no other.
abbrev pub function_of : ℕ → List Declaration → List ℕ → Function
function_of i [] f = record { entry = i; parameters = []; body = num (record { place = 0; value = 0 }) }
function_of i (declare g xs e ∷ ds) f =
    cond (bytes_eq f g.name) (record { entry = i + 1; parameters = all xs; body = e }) (function_of (past (i + 1) e + 1) ds f)

-- The functions' meanings with so many nested calls left: from `no call is left, this one is too deep` upward,
-- as a fixed point is approached. A body knows its parameters alone. A call takes one step before the body, and one after.
unfoldable pub functions : {V : Type 0} → Rules V → (ℕ → Reading) → ℕ → List Declaration → ℕ → List ℕ → ℕ → List V → Outcome V
functions rules held start ds zero f i vs = faults (record { fault = OfEngine TooDeep; index = i }) 1
functions rules held start ds (suc left) f i vs =
    let g = function_of start ds f in
    later 1 (after (value rules held (functions rules held start ds left) g.entry (with_worths [] g.parameters vs) g.body) one_more)

-- What a recipe means where so many calls may be nested: its main expression, and one step at the end.
unfoldable pub meaning_within : {V : Type 0} → ℕ → Rules V → (ℕ → Reading) → Recipe → Outcome V
meaning_within limit rules held (recipe ds p e) =
    after (value rules held (functions rules held (past 1 e + 1) (all ds) limit) 1 [] e) one_more

-- The main expression has the nesting 0, a called body one more; a call at the nesting 128 is too deep.
abbrev pub meaning : {V : Type 0} → Rules V → (ℕ → Reading) → Recipe → Outcome V
meaning = meaning_within 128
