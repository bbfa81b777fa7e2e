-- A larger limit on nested calls leaves every value as it is.
use Rattle.std.proofs.Common.{◌≡◌, ℕ, zero, suc, ◌+◌, ◌≤◌, Bool, true, false, List, [], ◌∷◌, sym, refl, ap, ◌∙◌, subst, le_of_suc-le-suc, not-suc-le-zero}
use Rattle.arithmetic.specs.Rules.{Rules}
use Rattle.reading.specs.Answers.{Reading}
use Rattle.recipe.specs.Grammar.{Expr, num, var, op, let_in, ifp, call, weigh, group, Arguments, one, more, Declaration, Recipe, recipe}
use Rattle.recipe.specs.Names.{all}
use Rattle.recipe.specs.Image.{past, pasts}
use Rattle.machine.specs.Steps.{applied}
use Rattle.meaning.specs.Meaning.{Outcome, gives, faults, later, after, worked, weighed, chosen, Valued, value, values}
use Rattle.meaning.specs.Meaning.{with_worths, function_of, functions, meaning_within}
use Rattle.meaning.specs.Theorem.{LimitHarmless}

-- where the first has a value, the second has it too, in as many steps
abbrev Below : {A : Type 0} → Outcome A → Outcome A → Type 0
Below (gives v n) y = y ≡ gives v n
Below (faults f n) y = Unit {0}

below_same : {A : Type 0} (x : Outcome A) → Below x x
below_same (gives v n) = refl
below_same (faults f n) = tt

later_below : {A : Type 0} (n : ℕ) (x y : Outcome A) → Below x y → Below (later n x) (later n y)
later_below n (gives v m) y b = ap (later n) b
later_below n (faults f m) y b = tt

after_below : {A B : Type 0} (x y : Outcome A) (k l : A → Outcome B) → Below x y → ((v : A) → Below (k v) (l v)) → Below (after x k) (after y l)
after_below {A} {B} (gives v n) y k l b h =
    subst (λ (z : Outcome B). Below (later n (k v)) z) (sym (ap (λ (z : Outcome A). after z l) b)) (later_below n (k v) (l v) (h v))
after_below (faults f n) y k l b h = tt

chosen_below : {A : Type 0} (t : Bool) (a b c d : Unit {0} → Outcome A) → Below (a tt) (c tt) → Below (b tt) (d tt) → Below (chosen t a b) (chosen t c d)
chosen_below true a b c d h k = h
chosen_below false a b c d h k = k

below_gives : {A : Type 0} (x y : Outcome A) (v : A) (n : ℕ) → Below x y → x ≡ gives v n → y ≡ gives v n
below_gives (gives w m) y v n b e = b ∙ e
below_gives (faults f m) y v n b e = cc

module _ {V : Type 0} (rules : Rules V) (held : ℕ → Reading) where
  module _ (φ ψ : List ℕ → ℕ → List V → Outcome V) (h : (f : List ℕ) (i : ℕ) (vs : List V) → Below (φ f i vs) (ψ f i vs)) where
    mutual
      unfolding value values

      value_below : (i : ℕ) (env : List (Valued V)) (e : Expr) → Below (value rules held φ i env e) (value rules held ψ i env e)
      value_below i env (num n) = refl
      value_below i env (var x) = refl
      value_below i env (weigh n) = below_same (weighed rules i n.value (held n.value))
      value_below i env (op o a b) =
          after_below _ _ _ _ (value_below i env a) (λ v. after_below _ _ _ _ (value_below (past i a) env b) (λ w. below_same (worked _ (applied rules o v w))))
      value_below i env (let_in x a b) =
          after_below _ _ _ _ (value_below i env a) (λ v. after_below _ _ _ _ (value_below (past i a) (record { name = x.name; worth = v } ∷ env) b) (λ w. refl))
      value_below i env (ifp c a b) =
          after_below _ _ _ _ (value_below i env c) (λ v. later_below 1 _ _ (chosen_below (rules.positive v) _ _ _ _
          (after_below _ _ _ _ (value_below (past i c + 1) env a) (λ w. refl)) (value_below (past (past i c + 1) a + 1) env b)))
      value_below i env (call f es) = after_below _ _ _ _ (values_below i env es) (h f.name (pasts i es))
      value_below i env (group e) = value_below i env e

      values_below : (i : ℕ) (env : List (Valued V)) (es : Arguments) → Below (values rules held φ i env es) (values rules held ψ i env es)
      values_below i env (one e) = after_below _ _ _ _ (value_below i env e) (λ v. refl)
      values_below i env (more es e) =
          after_below _ _ _ _ (values_below i env es) (λ vs. after_below _ _ _ _ (value_below (pasts i es) env e) (λ v. refl))

  functions_below : (i : ℕ) (ds : List Declaration) (k n : ℕ) → k ≤ n → (f : List ℕ) (j : ℕ) (vs : List V)
      → Below (functions rules held i ds k f j vs) (functions rules held i ds n f j vs)
  unfolding functions
  functions_below i ds zero n h f j vs = tt
  functions_below i ds (suc k) zero h f j vs = absurd (not-suc-le-zero h)
  functions_below i ds (suc k) (suc n) h f j vs =
      let g = function_of i ds f in
      later_below 1 _ _ (after_below _ _ _ _
      (value_below (functions rules held i ds k) (functions rules held i ds n) (functions_below i ds k n (le_of_suc-le-suc h)) g.entry (with_worths [] g.parameters vs) g.body)
      (λ v. refl))

  meaning_below : (k n : ℕ) (r : Recipe) → k ≤ n → Below (meaning_within k rules held r) (meaning_within n rules held r)
  unfolding meaning_within
  meaning_below k n (recipe ds p e) h =
      let i = past 1 e + 1 in
      after_below _ _ _ _ (value_below (functions rules held i (all ds) k) (functions rules held i (all ds) n) (functions_below i (all ds) k n h) 1 [] e) (λ v. refl)

pub limit_harmless : {V : Type 0} (rules : Rules V) → LimitHarmless rules
limit_harmless rules held r k limit v n h e = below_gives _ _ v n (meaning_below rules held k limit r h) e
