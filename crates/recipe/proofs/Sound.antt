-- What the machine answers is the tree of a text of the grammar.
use Rattle.std.proofs.Common.{◌≡◌, ℕ, zero, suc, Bool, true, false, cond, T, eqb, ◌⊎◌, List, [], ◌∷◌, sym, refl, ap, ◌∙◌, subst, inl, inr, arith, eqb→eq}
use mathlib.Core.Option.{Option, none, some}
use Rattle.recipe.specs.Tokens.{Op, Plus, Minus, Times, Over, Word, Let, In, Ifp, Then, Else, Weigh, Open, Close, Comma, Equals, Ident}
use Rattle.recipe.specs.Tokens.{Token, Number, Name, Operator, TheWord, Bad, place, Verdict, fine, wrong}
use Rattle.recipe.specs.Grammar.{Expr, Arguments, Several, Declaration}
use Rattle.recipe.specs.Grammar.{declare, Recipe, JoinsProducts, by_plus, by_minus, JoinsAtoms, by_times, by_over, IsExpr, a_let, an_ifp}
use Rattle.recipe.specs.Grammar.{a_sum, IsSum, a_product, and_product, IsProduct, an_atom, and_atom, IsAtom, a_number, a_name, a_call, a_weigh}
use Rattle.recipe.specs.Grammar.{bracketed, IsArguments, an_argument, and_argument, IsNames, a_parameter, and_parameter, declared}
use Rattle.recipe.specs.Grammar.{IsDeclarations, a_declaration, and_declaration, IsRecipe, a_recipe}
use Rattle.recipe.specs.Machine.{Left, nothing, left, apply, with_one, Context, in_body, in_main, let_value, let_body, if_test}
use Rattle.recipe.specs.Machine.{if_then, if_else, bracket, argument, State, stuck, start, first_head, head_open, head_name, head_next, head_equals}
use Rattle.recipe.specs.Machine.{want, let_name, let_equals, operand, weighed, named, after_product, after_sum, after_expr, code, pick, on, on_name}
use Rattle.recipe.specs.Machine.{on_in, expr_on, sum_on, product_on, operand_on, feed, run, expr_end, finish}
use Rattle.recipe.specs.Limits.{reading, unless, judged, counted, at_the_end}

-- In a text `w`, with `us` still to be read: the declarations read, and the left parts of a sum and of a product.
pub data Heads : List Token → Option (Several Declaration) → List Token → Type 0 where
  no_head : {p : ℕ} {us : List Token} → Heads (TheWord p Let ∷ us) none us
  heads : {p : ℕ} {ds : Several Declaration} {us vs : List Token} → IsDeclarations ds us vs → Heads (TheWord p Let ∷ us) (some ds) vs

pub data LeftSum : Left → List Token → List Token → Type 0 where
  no_sum : {ts : List Token} → LeftSum nothing ts ts
  a_left : {p : ℕ} {a : Expr} {o : Op} {ts us : List Token} → IsSum a ts (Operator p o ∷ us) → JoinsProducts o → LeftSum (left a o) ts us

pub data LeftProduct : Left → List Token → List Token → Type 0 where
  no_product : {ts : List Token} → LeftProduct nothing ts ts
  a_left : {p : ℕ} {a : Expr} {o : Op} {ts us : List Token} → IsProduct a ts (Operator p o ∷ us) → JoinsAtoms o → LeftProduct (left a o) ts us

-- `Opened w k us`: in the text `w`, the context `k` is open where `us` is still to be read.
pub data Opened : List Token → Context → List Token → Type 0 where
  o_body : {p q r : ℕ} {w ts us : List Token} {D : Option (Several Declaration)} {f : Ident} {xs : Several Ident} →
      Heads w D (Name f ∷ TheWord p Open ∷ ts) → IsNames xs ts (TheWord q Close ∷ TheWord r Equals ∷ us) → Opened w (in_body D f xs) us
  o_main : {p q : ℕ} {us vs : List Token} {ds : Several Declaration} → IsDeclarations ds us (TheWord p In ∷ vs) →
      Opened (TheWord q Let ∷ us) (in_main ds p) vs
  o_let_value : {p q : ℕ} {w us : List Token} {k : Context} {x : Ident} →
      Opened w k (TheWord p Let ∷ Name x ∷ TheWord q Equals ∷ us) → Opened w (let_value x k) us
  o_let_body : {p q r : ℕ} {w us vs : List Token} {k : Context} {x : Ident} {e : Expr} →
      Opened w k (TheWord p Let ∷ Name x ∷ TheWord q Equals ∷ us) → IsExpr e us (TheWord r In ∷ vs) → Opened w (let_body x e k) vs
  o_if_test : {p : ℕ} {w us : List Token} {k : Context} → Opened w k (TheWord p Ifp ∷ us) → Opened w (if_test k) us
  o_if_then : {p q : ℕ} {w us vs : List Token} {k : Context} {e : Expr} →
      Opened w k (TheWord p Ifp ∷ us) → IsExpr e us (TheWord q Then ∷ vs) → Opened w (if_then e k) vs
  o_if_else : {p q r : ℕ} {w us vs ws : List Token} {k : Context} {e₀ e₁ : Expr} →
      Opened w k (TheWord p Ifp ∷ us) → IsExpr e₀ us (TheWord q Then ∷ vs) → IsExpr e₁ vs (TheWord r Else ∷ ws) → Opened w (if_else e₀ e₁ k) ws
  o_bracket : {p : ℕ} {w ts us vs : List Token} {k : Context} {S P : Left} →
      Opened w k ts → LeftSum S ts us → LeftProduct P us (TheWord p Open ∷ vs) → Opened w (bracket S P k) vs
  o_first : {p : ℕ} {w ts us vs : List Token} {k : Context} {S P : Left} {f : Ident} →
      Opened w k ts → LeftSum S ts us → LeftProduct P us (Name f ∷ TheWord p Open ∷ vs) → Opened w (argument S P f none k) vs
  o_next : {p q : ℕ} {w ts us vs ws : List Token} {k : Context} {S P : Left} {f : Ident} {es : Arguments} →
      Opened w k ts → LeftSum S ts us → LeftProduct P us (Name f ∷ TheWord p Open ∷ vs) → IsArguments es vs (TheWord q Comma ∷ ws) →
      Opened w (argument S P f (some es) k) ws

-- `Reached w q us`: the state `q` is right where `us` is still to be read of `w`.
pub data Reached : List Token → State → List Token → Type 0 where
  r_stuck : {w us : List Token} → Reached w stuck us
  r_start : {w : List Token} → Reached w start w
  r_first : {p : ℕ} {us : List Token} → Reached (TheWord p Let ∷ us) first_head us
  r_open : {w us : List Token} {D : Option (Several Declaration)} {f : Ident} → Heads w D (Name f ∷ us) → Reached w (head_open D f) us
  r_name : {p : ℕ} {w us : List Token} {D : Option (Several Declaration)} {f : Ident} → Heads w D (Name f ∷ TheWord p Open ∷ us) →
      Reached w (head_name D f none) us
  r_names : {p q : ℕ} {w us vs : List Token} {D : Option (Several Declaration)} {f : Ident} {xs : Several Ident} →
      Heads w D (Name f ∷ TheWord p Open ∷ us) → IsNames xs us (TheWord q Comma ∷ vs) → Reached w (head_name D f (some xs)) vs
  r_next : {p : ℕ} {w us vs : List Token} {D : Option (Several Declaration)} {f : Ident} {xs : Several Ident} →
      Heads w D (Name f ∷ TheWord p Open ∷ us) → IsNames xs us vs → Reached w (head_next D f xs) vs
  r_equals : {p q : ℕ} {w us vs : List Token} {D : Option (Several Declaration)} {f : Ident} {xs : Several Ident} →
      Heads w D (Name f ∷ TheWord p Open ∷ us) → IsNames xs us (TheWord q Close ∷ vs) → Reached w (head_equals D f xs) vs
  r_want : {w us : List Token} {k : Context} → Opened w k us → Reached w (want k) us
  r_let_name : {p : ℕ} {w us : List Token} {k : Context} → Opened w k (TheWord p Let ∷ us) → Reached w (let_name k) us
  r_let_equals : {p : ℕ} {w us : List Token} {k : Context} {x : Ident} → Opened w k (TheWord p Let ∷ Name x ∷ us) → Reached w (let_equals x k) us
  r_operand : {w ts us vs : List Token} {S P : Left} {k : Context} →
      Opened w k ts → LeftSum S ts us → LeftProduct P us vs → Reached w (operand S P k) vs
  r_weighed : {p : ℕ} {w ts us vs : List Token} {S P : Left} {k : Context} →
      Opened w k ts → LeftSum S ts us → LeftProduct P us (TheWord p Weigh ∷ vs) → Reached w (weighed S P k) vs
  r_named : {w ts us vs : List Token} {S P : Left} {x : Ident} {k : Context} →
      Opened w k ts → LeftSum S ts us → LeftProduct P us (Name x ∷ vs) → Reached w (named S P x k) vs
  r_product : {w ts us vs : List Token} {S : Left} {e : Expr} {k : Context} →
      Opened w k ts → LeftSum S ts us → IsProduct e us vs → Reached w (after_product S e k) vs
  r_sum : {w ts us : List Token} {e : Expr} {k : Context} → Opened w k ts → IsSum e ts us → Reached w (after_sum e k) us
  r_expr : {w ts us : List Token} {e : Expr} {k : Context} → Opened w k ts → IsExpr e ts us → Reached w (after_expr e k) us

-- A word is known by its code.
abbrev of_code : ℕ → Word
of_code n =
    cond (eqb n 0) Let (cond (eqb n 1) In (cond (eqb n 2) Ifp (cond (eqb n 3) Then (cond (eqb n 4) Else
    (cond (eqb n 5) Weigh (cond (eqb n 6) Open (cond (eqb n 7) Close (cond (eqb n 8) Comma Equals))))))))

of_code_code : (v : Word) → of_code (code v) ≡ v
of_code_code Let = refl
of_code_code In = refl
of_code_code Ifp = refl
of_code_code Then = refl
of_code_code Else = refl
of_code_code Weigh = refl
of_code_code Open = refl
of_code_code Close = refl
of_code_code Comma = refl
of_code_code Equals = refl

same_code : (w v : Word) → code w ≡ code v → w ≡ v
same_code w v e = sym (of_code_code w) ∙ (ap of_code e ∙ of_code_code v)

-- What holds of both ways of a test holds of the test; on the first way the token is the word.
module _ (P : State → Token → Type 0) (a b : State) where
  picked : (z : ℕ) (w v : Word) (t : Bool) → eqb (code w) (code v) ≡ t → P a (TheWord z w) → P b (TheWord z v) → P (pick t a b) (TheWord z v)
  picked z w v true e p q = subst (λ u. P a (TheWord z u)) (same_code w v (eqb→eq (code w) (code v) (subst T (sym e) tt))) p
  picked z w v false e p q = q

  pub by_word : (w : Word) (t : Token) → ((z : ℕ) → P a (TheWord z w)) → P b t → P (on w t a b) t
  by_word w (Number n) p q = q
  by_word w (Name x) p q = q
  by_word w (Operator z o) p q = q
  by_word w (TheWord z v) p q = picked z w v (eqb (code w) (code v)) refl (p z) q
  by_word w (Bad z c) p q = q

pub by_name : (P : State → Token → Type 0) (f : Ident → State) (b : State) (t : Token) → ((x : Ident) → P (f x) (Name x)) → P b t →
    P (on_name t f b) t
by_name P f b (Number n) p q = q
by_name P f b (Name x) p q = p x
by_name P f b (Operator z o) p q = q
by_name P f b (TheWord z v) p q = q
by_name P f b (Bad z c) p q = q

pub by_in : (P : State → Token → Type 0) (f : ℕ → State) (t : Token) → ((z : ℕ) → P (f z) (TheWord z In)) → P stuck t → P (on_in t f) t
by_in P f (Number n) p q = q
by_in P f (Name x) p q = q
by_in P f (Operator z o) p q = q
by_in P f (TheWord z v) p q = picked P (f z) stuck z In v (eqb (code In) (code v)) refl (p z) q
by_in P f (Bad z c) p q = q

-- A left part with its right part.
product_with : {P : Left} {a : Expr} {us vs rest : List Token} → LeftProduct P us vs → IsAtom a vs rest → IsProduct (apply P a) us rest
product_with no_product a = an_atom a
product_with (a_left p j) a = and_atom p j a

sum_with : {S : Left} {e : Expr} {ts us rest : List Token} → LeftSum S ts us → IsProduct e us rest → IsSum (apply S e) ts rest
sum_with no_sum p = a_product p
sum_with (a_left s j) p = and_product s j p

heads_with : {p q r : ℕ} {w ts us rest : List Token} {D : Option (Several Declaration)} {f : Ident} {xs : Several Ident} {e : Expr} →
    Heads w D (Name f ∷ TheWord p Open ∷ ts) → IsNames xs ts (TheWord q Close ∷ TheWord r Equals ∷ us) → IsExpr e us rest →
    Heads w (some (with_one D (declare f xs e))) rest
heads_with no_head n e = heads (a_declaration (declared n e))
heads_with (heads d) n e = heads (and_declaration d (declared n e))

heads_main : {p : ℕ} {w us : List Token} {ds : Several Declaration} → Heads w (some ds) (TheWord p In ∷ us) → Opened w (in_main ds p) us
heads_main (heads d) = o_main d

-- One token more.
expr_step : {ts : List Token} (t : Token) (us : List Token) {w : List Token} {k : Context} {e : Expr} →
    Opened w k ts → IsExpr e ts (t ∷ us) → Reached w (expr_on e k t) us
expr_step t us {w} {e = e} (o_body {D = D} {f = f} {xs = xs} h n) x =
    let P : State → Token → Type 0 = λ q t. Heads w (some (with_one D (declare f xs e))) (t ∷ us) → Reached w q us in
    by_name P _ _ t (λ g. λ d. r_open d) (by_in P _ t (λ z d. r_want (heads_main d)) (λ d. r_stuck)) (heads_with h n x)
expr_step t us (o_main d) x = r_stuck
expr_step {ts} t us {w} {e = e} (o_let_value o) x =
    by_word (λ q t. IsExpr e ts (t ∷ us) → Reached w q us) _ _ In t (λ z y. r_want (o_let_body o y)) (λ y. r_stuck) x
expr_step t us (o_let_body o v) x = expr_step t us o (a_let v x)
expr_step {ts} t us {w} {e = e} (o_if_test o) x =
    by_word (λ q t. IsExpr e ts (t ∷ us) → Reached w q us) _ _ Then t (λ z y. r_want (o_if_then o y)) (λ y. r_stuck) x
expr_step {ts} t us {w} {e = e} (o_if_then o v) x =
    by_word (λ q t. IsExpr e ts (t ∷ us) → Reached w q us) _ _ Else t (λ z y. r_want (o_if_else o v y)) (λ y. r_stuck) x
expr_step t us (o_if_else o v y) x = expr_step t us o (an_ifp v y x)
expr_step {ts} t us {w} {e = e} (o_bracket o s p) x =
    by_word (λ q t. IsExpr e ts (t ∷ us) → Reached w q us) _ _ Close t (λ z y. r_product o s (product_with p (bracketed y))) (λ y. r_stuck) x
expr_step {ts} t us {w} {e = e} (o_first o s p) x =
    let P : State → Token → Type 0 = λ q t. IsExpr e ts (t ∷ us) → Reached w q us in
    by_word P _ _ Comma t (λ z y. r_want (o_next o s p (an_argument y)))
    (by_word P _ _ Close t (λ z y. r_product o s (product_with p (a_call (an_argument y)))) (λ y. r_stuck)) x
expr_step {ts} t us {w} {e = e} (o_next o s p m) x =
    let P : State → Token → Type 0 = λ q t. IsExpr e ts (t ∷ us) → Reached w q us in
    by_word P _ _ Comma t (λ z y. r_want (o_next o s p (and_argument m y)))
    (by_word P _ _ Close t (λ z y. r_product o s (product_with p (a_call (and_argument m y)))) (λ y. r_stuck)) x

sum_step : {ts : List Token} (t : Token) (us : List Token) {w : List Token} {k : Context} {e : Expr} →
    Opened w k ts → IsSum e ts (t ∷ us) → Reached w (sum_on e k t) us
sum_step (Operator z Plus) us o x = r_operand o (a_left x by_plus) no_product
sum_step (Operator z Minus) us o x = r_operand o (a_left x by_minus) no_product
sum_step (Operator z Times) us o x = expr_step (Operator z Times) us o (a_sum x)
sum_step (Operator z Over) us o x = expr_step (Operator z Over) us o (a_sum x)
sum_step (Number n) us o x = expr_step (Number n) us o (a_sum x)
sum_step (Name n) us o x = expr_step (Name n) us o (a_sum x)
sum_step (TheWord z v) us o x = expr_step (TheWord z v) us o (a_sum x)
sum_step (Bad z c) us o x = expr_step (Bad z c) us o (a_sum x)

product_step : {ts us : List Token} (t : Token) (vs : List Token) {w : List Token} {S : Left} {k : Context} {e : Expr} →
    Opened w k ts → LeftSum S ts us → IsProduct e us (t ∷ vs) → Reached w (product_on S e k t) vs
product_step (Operator z Plus) vs o s x = sum_step (Operator z Plus) vs o (sum_with s x)
product_step (Operator z Minus) vs o s x = sum_step (Operator z Minus) vs o (sum_with s x)
product_step (Operator z Times) vs o s x = r_operand o s (a_left x by_times)
product_step (Operator z Over) vs o s x = r_operand o s (a_left x by_over)
product_step (Number n) vs o s x = sum_step (Number n) vs o (sum_with s x)
product_step (Name n) vs o s x = sum_step (Name n) vs o (sum_with s x)
product_step (TheWord z v) vs o s x = sum_step (TheWord z v) vs o (sum_with s x)
product_step (Bad z c) vs o s x = sum_step (Bad z c) vs o (sum_with s x)

operand_step : {ts us : List Token} (t : Token) (vs : List Token) {w : List Token} {S P : Left} {k : Context} →
    Opened w k ts → LeftSum S ts us → LeftProduct P us (t ∷ vs) → Reached w (operand_on S P k t) vs
operand_step (Number n) vs o s p = r_product o s (product_with p a_number)
operand_step (Name n) vs o s p = r_named o s p
operand_step (Operator z i) vs o s p = r_stuck
operand_step (Bad z c) vs o s p = r_stuck
operand_step {us = us} (TheWord z v) vs {w} {P = P} o s p =
    let M : State → Token → Type 0 = λ q t. LeftProduct P us (t ∷ vs) → Reached w q vs in
    by_word M _ _ Weigh (TheWord z v) (λ z' y. r_weighed o s y) (by_word M _ _ Open (TheWord z v) (λ z' y. r_want (o_bracket o s y)) (λ y. r_stuck)) p

weighed_step : {y : ℕ} {ts us : List Token} (t : Token) (vs : List Token) {w : List Token} {S P : Left} {k : Context} →
    Opened w k ts → LeftSum S ts us → LeftProduct P us (TheWord y Weigh ∷ t ∷ vs) → Reached w (feed (weighed S P k) t) vs
weighed_step (Number n) vs o s p = r_product o s (product_with p a_weigh)
weighed_step (Name n) vs o s p = r_stuck
weighed_step (Operator z i) vs o s p = r_stuck
weighed_step (TheWord z v) vs o s p = r_stuck
weighed_step (Bad z c) vs o s p = r_stuck

step : {t : Token} {us : List Token} {w : List Token} {q : State} → Reached w q (t ∷ us) → Reached w (feed q t) us
step r_stuck = r_stuck
step {t} {us} r_start = by_word (λ q t. Reached (t ∷ us) q us) _ _ Let t (λ z. r_first) r_stuck
step {t} {us} (r_first {p = y}) = by_name (λ q t. Reached (TheWord y Let ∷ t ∷ us) q us) _ _ t (λ x. r_open no_head) r_stuck
step {t} {us} {w} (r_open {D = D} {f = f} h) =
    by_word (λ q t. Heads w D (Name f ∷ t ∷ us) → Reached w q us) _ _ Open t (λ z h. r_name h) (λ h. r_stuck) h
step {t} {us} {w} (r_name {p = y} {D = D} {f = f} h) =
    by_name (λ q t. Heads w D (Name f ∷ TheWord y Open ∷ t ∷ us) → Reached w q us) _ _ t (λ x h. r_next h a_parameter) (λ h. r_stuck) h
step {t} {us} {w} (r_names {q = y} {us = vs} {xs = xs} h n) =
    by_name (λ q t. IsNames xs vs (TheWord y Comma ∷ t ∷ us) → Reached w q us) _ _ t (λ x n. r_next h (and_parameter n)) (λ n. r_stuck) n
step {t} {us} {w} (r_next {us = vs} {xs = xs} h n) =
    let P : State → Token → Type 0 = λ q t. IsNames xs vs (t ∷ us) → Reached w q us in
    by_word P _ _ Comma t (λ z n. r_names h n) (by_word P _ _ Close t (λ z n. r_equals h n) (λ n. r_stuck)) n
step {t} {us} {w} (r_equals {q = y} {us = vs} {xs = xs} h n) =
    by_word (λ q t. IsNames xs vs (TheWord y Close ∷ t ∷ us) → Reached w q us) _ _ Equals t (λ z n. r_want (o_body h n)) (λ n. r_stuck) n
step {t} {us} {w} (r_want {k = k} o) =
    let P : State → Token → Type 0 = λ q t. Opened w k (t ∷ us) → Reached w q us in
    by_word P _ _ Let t (λ z o. r_let_name o)
    (by_word P _ _ Ifp t (λ z o. r_want (o_if_test o)) (λ o. operand_step t us o no_sum no_product)) o
step {t} {us} {w} (r_let_name {p = y} {k = k} o) =
    by_name (λ q t. Opened w k (TheWord y Let ∷ t ∷ us) → Reached w q us) _ _ t (λ x o. r_let_equals o) (λ o. r_stuck) o
step {t} {us} {w} (r_let_equals {p = y} {k = k} {x = x} o) =
    by_word (λ q t. Opened w k (TheWord y Let ∷ Name x ∷ t ∷ us) → Reached w q us) _ _ Equals t (λ z o. r_want (o_let_value o)) (λ o. r_stuck) o
step {t} {us} (r_operand o s p) = operand_step t us o s p
step {t} {us} (r_weighed o s p) = weighed_step t us o s p
step {t} {us} {w} (r_named {us = vs} {P = P} {x = x} o s p) =
    by_word (λ q t. LeftProduct P vs (Name x ∷ t ∷ us) → Reached w q us) _ _ Open t (λ z p. r_want (o_first o s p))
    (λ p. product_step t us o s (product_with p a_name)) p
step {t} {us} (r_product o s x) = product_step t us o s x
step {t} {us} (r_sum o x) = sum_step t us o x
step {t} {us} (r_expr o x) = expr_step t us o x

-- The end of the tokens.
abbrev Right : List Token → Option Recipe → Type 0
Right w none = Unit {0}
Right w (some r) = IsRecipe r w

expr_ends : {ts : List Token} {w : List Token} {k : Context} {e : Expr} → Opened w k ts → IsExpr e ts [] → Right w (expr_end e k)
expr_ends (o_body h n) x = tt
expr_ends (o_main d) x = a_recipe d x
expr_ends (o_let_value o) x = tt
expr_ends (o_let_body o v) x = expr_ends o (a_let v x)
expr_ends (o_if_test o) x = tt
expr_ends (o_if_then o v) x = tt
expr_ends (o_if_else o v y) x = expr_ends o (an_ifp v y x)
expr_ends (o_bracket o s p) x = tt
expr_ends (o_first o s p) x = tt
expr_ends (o_next o s p m) x = tt

ends : {w : List Token} {q : State} → Reached w q [] → Right w (finish q)
ends r_stuck = tt
ends r_start = tt
ends r_first = tt
ends (r_open h) = tt
ends (r_name h) = tt
ends (r_names h n) = tt
ends (r_next h n) = tt
ends (r_equals h n) = tt
ends (r_want o) = tt
ends (r_let_name o) = tt
ends (r_let_equals o) = tt
ends (r_operand o s p) = tt
ends (r_weighed o s p) = tt
ends (r_named o s p) = expr_ends o (a_sum (sum_with s (product_with p a_name)))
ends (r_product o s x) = expr_ends o (a_sum (sum_with s x))
ends (r_sum o x) = expr_ends o (a_sum x)
ends (r_expr o x) = expr_ends o x

right : (ts : List Token) {w : List Token} {q : State} → Reached w q ts → Right w (finish (run q ts))
right [] r = ends r
right (t ∷ ts) r = right ts (step r)

pub sound : {r : Recipe} (ts : List Token) → finish (run start ts) ≡ some r → IsRecipe r ts
sound ts e = subst (Right ts) e (right ts r_start)

-- A reading that is fine has made no refusal on the way, and one that is wrong made it here or comes to it.
pub unless_fine : (c p : ℕ) (v : Verdict Recipe) (r : Recipe) → unless c p v ≡ fine r → (c ≡ 0) × (v ≡ fine r)
unless_fine zero p v r e = (refl, e)
unless_fine (suc c) p v r e = absurd cc

pub unless_wrong : (j at c p : ℕ) (v : Verdict Recipe) → unless j at v ≡ wrong c p →
    ((j ≡ 0) × (v ≡ wrong c p)) ⊎ ((j ≡ c) × (p ≡ at) × (j ≡ 0 → ⊥))
unless_wrong zero at c p v e = inl (refl, e)
unless_wrong (suc j) at c p v e = inr (cc, cc, λ z. omega arith)

pub end_fine : (len : ℕ) (o : Option Recipe) (r : Recipe) → at_the_end len o ≡ fine r → o ≡ some r
end_fine len none r e = absurd cc
end_fine len (some s) r e = cc

pub end_wrong : (len c p : ℕ) (o : Option Recipe) → at_the_end len o ≡ wrong c p → (o ≡ none) × (c ≡ 5) × (p ≡ len)
end_wrong len c p none e = (refl, cc, cc)
end_wrong len c p (some r) e = absurd cc

fine_runs : (len : ℕ) (ts : List Token) (q : State) (n : ℕ) (r : Recipe) → reading len q n ts ≡ fine r → finish (run q ts) ≡ some r
fine_runs len [] q n r e = end_fine len (finish q) r e
fine_runs len (t ∷ ts) q n r e = fine_runs len ts (feed q t) (counted q t n) r (unless_fine (judged (feed q t) (counted q t n)) (place t) _ r e).1

pub derives : (len : ℕ) (ts : List Token) (r : Recipe) → reading len start 0 ts ≡ fine r → IsRecipe r ts
derives len ts r e = sound ts (fine_runs len ts start 0 r e)
