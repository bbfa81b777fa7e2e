-- The machine without its limits: it answers the tree of every text of the grammar, and gets stuck just where no text goes on.
use Rattle.std.proofs.Common.{◌≡◌, ℕ, Bool, true, false, cond, leb, ◌⊎◌, List, [], ◌∷◌, ◌++◌, sym, refl, ap, ◌∙◌, subst, inl, inr, arith}
use mathlib.Core.Option.{Option, none, some}
use Rattle.recipe.specs.Tokens.{place, Op, Let, In, Then, Else, Open, Close, Comma, Equals, Ident}
use Rattle.recipe.specs.Tokens.{Literal, Token, Number, Name, Operator, TheWord, wrong}
use Rattle.recipe.specs.Grammar.{Expr, num, var, let_in, ifp, call, weigh, group, Arguments, one, more, Several, one_only, and_then, Declaration}
use Rattle.recipe.specs.Grammar.{declare, Recipe, recipe, JoinsProducts, by_plus, by_minus, JoinsAtoms, by_times, by_over, IsExpr, a_let, an_ifp}
use Rattle.recipe.specs.Grammar.{a_sum, IsSum, a_product, and_product, IsProduct, an_atom, and_atom, IsAtom, a_number, a_name, a_call, a_weigh}
use Rattle.recipe.specs.Grammar.{bracketed, IsArguments, an_argument, and_argument, IsNames, a_parameter, and_parameter, declared}
use Rattle.recipe.specs.Grammar.{IsDeclarations, a_declaration, and_declaration, IsRecipe, a_recipe, Begins, NoTextHas, RunsOut, RefusedAt}
use Rattle.recipe.specs.Grammar.{at_token, at_end as at_text_end}
use Rattle.recipe.specs.Machine.{Left, nothing, left, apply, with_argument, with_one, Context, in_body, in_main, let_value, let_body, if_test}
use Rattle.recipe.specs.Machine.{if_then, if_else, bracket, argument, State, stuck, start, first_head, head_open, head_name, head_next, head_equals}
use Rattle.recipe.specs.Machine.{want, let_name, let_equals, operand, weighed, named, after_product, after_sum, after_expr}
use Rattle.recipe.specs.Machine.{feed, run, finish}
use Rattle.recipe.specs.Limits.{depth, reading, judged, counted}
use Rattle.recipe.proofs.Alike as alike
use Rattle.recipe.proofs.Alike.{AfterExpr, at_end, at_name, at_in, at_then, at_else, at_close, at_comma, AfterProduct, AfterAtom, ended, joins}
use Rattle.recipe.proofs.Sound as sound
use Rattle.recipe.specs.Theorem.{first_place}
use Rattle.std.proofs.lemmas.List.{append-nil}

abbrev pub answer : State → List Token → Option Recipe
answer q ts = finish (run q ts)

-- The operator after a sum, and after a product.
sum_goes_on : {o : Op} (a : Expr) (k : Context) (p : ℕ) (us : List Token) → JoinsProducts o →
    answer (after_sum a k) (Operator p o ∷ us) ≡ answer (operand (left a o) nothing k) us
sum_goes_on a k p us by_plus = refl
sum_goes_on a k p us by_minus = refl

product_goes_on : {o : Op} (S : Left) (a : Expr) (k : Context) (p : ℕ) (us : List Token) → JoinsAtoms o →
    answer (after_product S a k) (Operator p o ∷ us) ≡ answer (operand S (left a o) k) us
product_goes_on S a k p us by_times = refl
product_goes_on S a k p us by_over = refl

-- the last of some arguments, with the context that it stands in
abbrev after_arguments : Left → Left → Ident → Arguments → Context → State
after_arguments S P f (one e) k = after_expr e (argument S P f none k)
after_arguments S P f (more es e) k = after_expr e (argument S P f (some es) k)

arguments_go_on : (S P : Left) (f : Ident) (es : Arguments) (k : Context) (p : ℕ) (ts : List Token) →
    answer (after_arguments S P f es k) (TheWord p Comma ∷ ts) ≡ answer (want (argument S P f (some es) k)) ts
arguments_go_on S P f (one e) k p ts = refl
arguments_go_on S P f (more es e) k p ts = refl

arguments_end : (S P : Left) (f : Ident) (es : Arguments) (k : Context) (p : ℕ) (ts : List Token) →
    answer (after_arguments S P f es k) (TheWord p Close ∷ ts) ≡ answer (after_product S (apply P (call f es)) k) ts
arguments_end S P f (one e) k p ts = refl
arguments_end S P f (more es e) k p ts = refl

mutual
  pub reads_expr : {e : Expr} {ts rest : List Token} → IsExpr e ts rest → AfterExpr rest → (k : Context) →
      answer (want k) ts ≡ answer (after_expr e k) rest
  reads_expr (a_let {x = x} {e₁ = e₁} {e₂ = e₂} {rest = rest} v b) a k =
      reads_expr v at_in (let_value x k) ∙ (reads_expr b a (let_body x e₁ k) ∙ alike.answers (alike.let_over x e₁ e₂ k rest))
  reads_expr (an_ifp {e₀ = e₀} {e₁ = e₁} {e₂ = e₂} {rest = rest} t y n) a k =
      reads_expr t at_then (if_test k) ∙ (reads_expr y at_else (if_then e₀ k) ∙ (reads_expr n a (if_else e₀ e₁ k) ∙ alike.answers (alike.ifp_over e₀ e₁ e₂ k rest)))
  reads_expr (a_sum {e = e} s) a k = alike.answers (alike.as_operand_sum s k) ∙ (reads_sum s (ended a) k ∙ alike.answers (alike.sum_over e k a))

  pub reads_sum : {e : Expr} {ts rest : List Token} → IsSum e ts rest → AfterProduct rest → (k : Context) →
      answer (operand nothing nothing k) ts ≡ answer (after_sum e k) rest
  reads_sum (a_product {e = e} p) a k = reads_product p (ended a) nothing k ∙ alike.answers (alike.product_over nothing e k a)
  reads_sum (and_product {p = q} {o = o} {a = x} {b = y} {us = us} s j p) a k =
      reads_sum s (joins j) k ∙ (sum_goes_on x k q us j ∙ (reads_product p (ended a) (left x o) k ∙ alike.answers (alike.product_over (left x o) y k a)))

  pub reads_product : {e : Expr} {ts rest : List Token} → IsProduct e ts rest → AfterAtom rest → (S : Left) (k : Context) →
      answer (operand S nothing k) ts ≡ answer (after_product S e k) rest
  reads_product (an_atom m) a S k = reads_atom m a S nothing k
  reads_product (and_atom {p = q} {o = o} {a = x} {us = us} p j m) a S k =
      reads_product p (joins j) S k ∙ (product_goes_on S x k q us j ∙ reads_atom m a S (left x o) k)

  pub reads_atom : {e : Expr} {ts rest : List Token} → IsAtom e ts rest → AfterAtom rest → (S P : Left) (k : Context) →
      answer (operand S P k) ts ≡ answer (after_product S (apply P e) k) rest
  reads_atom a_number a S P k = refl
  reads_atom (a_name {x = x}) a S P k = alike.answers (alike.name_over S P x k a)
  reads_atom (a_call {p = p} {f = f} {es = es} {rest = rest} m) a S P k =
      reads_arguments m at_close S P f k ∙ arguments_end S P f es k p rest
  reads_atom a_weigh a S P k = refl
  reads_atom (bracketed e) a S P k = reads_expr e at_close (bracket S P k)

  pub reads_arguments : {es : Arguments} {ts rest : List Token} → IsArguments es ts rest → AfterExpr rest → (S P : Left) (f : Ident) (k : Context) →
      answer (want (argument S P f none k)) ts ≡ answer (after_arguments S P f es k) rest
  reads_arguments (an_argument e) a S P f k = reads_expr e a (argument S P f none k)
  reads_arguments (and_argument {p = p} {es = es} {us = us} m e) a S P f k =
      reads_arguments m at_comma S P f k ∙ (arguments_go_on S P f es k p us ∙ reads_expr e a (argument S P f (some es) k))

-- Heads: the names between the brackets, one declaration, all of them, the recipe.
after_names : {xs : Several Ident} {ts rest : List Token} → IsNames xs ts rest → (D : Option (Several Declaration)) (f : Ident) →
    answer (head_name D f none) ts ≡ answer (head_next D f xs) rest
after_names a_parameter D f = refl
after_names (and_parameter xs) D f = after_names xs D f

reads_declaration : {xs : Several Ident} {e : Expr} {p q : ℕ} (r : ℕ) {ts us rest : List Token} (D : Option (Several Declaration)) (f : Ident) →
    IsNames xs ts (TheWord p Close ∷ TheWord q Equals ∷ us) → IsExpr e us rest → AfterExpr rest →
    answer (head_open D f) (TheWord r Open ∷ ts) ≡ answer (after_expr e (in_body D f xs)) rest
reads_declaration {xs} r D f n e a = after_names n D f ∙ reads_expr e a (in_body D f xs)

-- the state after some declarations: the last one's body is over, and nothing was made of that yet
abbrev after_declarations : Several Declaration → State
after_declarations (one_only (declare f xs e)) = after_expr e (in_body none f xs)
after_declarations (and_then ds (declare f xs e)) = after_expr e (in_body (some ds) f xs)

declarations_go_on : (ds : Several Declaration) (f : Ident) (ts : List Token) →
    answer (after_declarations ds) (Name f ∷ ts) ≡ answer (head_open (some ds) f) ts
declarations_go_on (one_only (declare g xs e)) f ts = refl
declarations_go_on (and_then ds (declare g xs e)) f ts = refl

declarations_end : (ds : Several Declaration) (p : ℕ) (ts : List Token) →
    answer (after_declarations ds) (TheWord p In ∷ ts) ≡ answer (want (in_main ds p)) ts
declarations_end (one_only (declare g xs e)) p ts = refl
declarations_end (and_then ds (declare g xs e)) p ts = refl

reads_declarations : {ds : Several Declaration} {ts rest : List Token} → IsDeclarations ds ts rest → AfterExpr rest →
    answer first_head ts ≡ answer (after_declarations ds) rest
reads_declarations (a_declaration (declared {r = r} {f = f} n e)) a = reads_declaration r none f n e a
reads_declarations (and_declaration {ds = ds} ds' (declared {r = r} {f = f} {ts = ts} n e)) a =
    reads_declarations ds' at_name ∙ (declarations_go_on ds f (TheWord r Open ∷ ts) ∙ reads_declaration r (some ds) f n e a)

pub answers : {r : Recipe} {ts : List Token} → IsRecipe r ts → answer start ts ≡ some r
answers (a_recipe {p = p} {ds = ds} {us = us} d e) = reads_declarations d at_in ∙ (declarations_end ds p us ∙ reads_expr e at_end (in_main ds p))

-- Tokens to go on with.
abbrev a_literal : Literal
a_literal = record { place = 0; value = 0 }

abbrev an_ident : Ident
an_ident = record { place = 0; name = [] }

-- Tokens that end what is open.
closing : Context → List Token
closing (in_body D f xs) = TheWord 0 In ∷ Number a_literal ∷ []
closing (in_main D p) = []
closing (let_value x k) = TheWord 0 In ∷ Number a_literal ∷ closing k
closing (let_body x e k) = closing k
closing (if_test k) = TheWord 0 Then ∷ Number a_literal ∷ TheWord 0 Else ∷ Number a_literal ∷ closing k
closing (if_then e k) = TheWord 0 Else ∷ Number a_literal ∷ closing k
closing (if_else e₀ e₁ k) = closing k
closing (bracket S P k) = TheWord 0 Close ∷ closing k
closing (argument S P f es k) = TheWord 0 Close ∷ closing k

closing_follows : (k : Context) → AfterExpr (closing k)
unfolding closing
closing_follows (in_body D f xs) = at_in
closing_follows (in_main D p) = at_end
closing_follows (let_value x k) = at_in
closing_follows (let_body x e k) = closing_follows k
closing_follows (if_test k) = at_then
closing_follows (if_then e k) = at_else
closing_follows (if_else e₀ e₁ k) = closing_follows k
closing_follows (bracket S P k) = at_close
closing_follows (argument S P f es k) = at_close

-- Several tree is answered.
abbrev Answered : State → List Token → Type 0
Answered q ts = (r : Recipe) × (answer q ts ≡ some r)

product_closed : (S : Left) (e : Expr) (k : Context) → Answered (after_expr (apply S e) k) (closing k) → Answered (after_product S e k) (closing k)
product_closed S e k (r, h) =
    let a = closing_follows k in (r, alike.answers (alike.product_over S e k (AfterProduct.ended a)) ∙ (alike.answers (alike.sum_over (apply S e) k a) ∙ h))

number_closed : (k : Context) → ((e : Expr) → Answered (after_expr e k) (closing k)) → Answered (want k) (Number a_literal ∷ closing k)
number_closed k h = product_closed nothing (num a_literal) k (h (num a_literal))

closed : (k : Context) (e : Expr) → Answered (after_expr e k) (closing k)
unfolding closing
closed (in_body D f xs) e = (recipe (with_one D (declare f xs e)) 0 (num a_literal), refl)
closed (in_main D p) e = (recipe D p e, refl)
closed (let_value x k) e =
    number_closed (let_body x e k) (λ e₂. let (r, h) = closed k (let_in x e e₂) in (r, alike.answers (alike.let_over x e e₂ k (closing k)) ∙ h))
closed (let_body x e₁ k) e = let (r, h) = closed k (let_in x e₁ e) in (r, alike.answers (alike.let_over x e₁ e k (closing k)) ∙ h)
closed (if_test k) e =
    let again : (e₁ e₂ : Expr) → Answered (after_expr e₂ (if_else e e₁ k)) (closing k) =
    λ e₁ e₂. let (r, h) = closed k (ifp e e₁ e₂) in (r, alike.answers (alike.ifp_over e e₁ e₂ k (closing k)) ∙ h) in
    number_closed (if_else e (num a_literal) k) (again (num a_literal))
closed (if_then e₀ k) e =
    number_closed (if_else e₀ e k) (λ e₂. let (r, h) = closed k (ifp e₀ e e₂) in (r, alike.answers (alike.ifp_over e₀ e e₂ k (closing k)) ∙ h))
closed (if_else e₀ e₁ k) e = let (r, h) = closed k (ifp e₀ e₁ e) in (r, alike.answers (alike.ifp_over e₀ e₁ e k (closing k)) ∙ h)
closed (bracket S P k) e = product_closed S (apply P (group e)) k (closed k (apply S (apply P (group e))))
closed (argument S P f es k) e =
    product_closed S (apply P (call f (with_argument es e))) k (closed k (apply S (apply P (call f (with_argument es e)))))

wanted : (k : Context) → Answered (want k) (Number a_literal ∷ closing k)
wanted k = number_closed k (closed k)

-- Every state but `stuck` can still come to an answer.
pub productive : (q : State) → (q ≡ stuck) ⊎ ((ts : List Token) × Answered q ts)
unfolding closing
productive stuck = inl refl
productive start = inr (TheWord 0 Let ∷ Name an_ident ∷ TheWord 0 Open ∷ Name an_ident ∷ TheWord 0 Close ∷ TheWord 0 Equals ∷ Number a_literal ∷ TheWord 0 In ∷ Number a_literal ∷ [], (_, refl))
productive first_head =
    inr (Name an_ident ∷ TheWord 0 Open ∷ Name an_ident ∷ TheWord 0 Close ∷ TheWord 0 Equals ∷ Number a_literal ∷ TheWord 0 In ∷ Number a_literal ∷ [], (_, refl))
productive (head_open D f) =
    inr (TheWord 0 Open ∷ Name an_ident ∷ TheWord 0 Close ∷ TheWord 0 Equals ∷ Number a_literal ∷ TheWord 0 In ∷ Number a_literal ∷ [], (_, refl))
productive (head_name D f xs) =
    inr (Name an_ident ∷ TheWord 0 Close ∷ TheWord 0 Equals ∷ Number a_literal ∷ TheWord 0 In ∷ Number a_literal ∷ [], (_, refl))
productive (head_next D f xs) = inr (TheWord 0 Close ∷ TheWord 0 Equals ∷ Number a_literal ∷ TheWord 0 In ∷ Number a_literal ∷ [], (_, refl))
productive (head_equals D f xs) = inr (TheWord 0 Equals ∷ Number a_literal ∷ TheWord 0 In ∷ Number a_literal ∷ [], (_, refl))
productive (want k) = inr (Number a_literal ∷ closing k, wanted k)
productive (let_name k) = inr (Name an_ident ∷ TheWord 0 Equals ∷ Number a_literal ∷ closing (let_value an_ident k), wanted (let_value an_ident k))
productive (let_equals x k) = inr (TheWord 0 Equals ∷ Number a_literal ∷ closing (let_value x k), wanted (let_value x k))
productive (operand S P k) =
    inr (Number a_literal ∷ closing k, product_closed S (apply P (num a_literal)) k (closed k (apply S (apply P (num a_literal)))))
productive (weighed S P k) =
    inr (Number a_literal ∷ closing k, product_closed S (apply P (weigh a_literal)) k (closed k (apply S (apply P (weigh a_literal)))))
productive (named S P x k) =
    let (r, h) = product_closed S (apply P (var x)) k (closed k (apply S (apply P (var x)))) in
    inr (closing k, (r, alike.answers (alike.name_over S P x k (AfterAtom.ended (AfterProduct.ended (closing_follows k)))) ∙ h))
productive (after_product S e k) = inr (closing k, product_closed S e k (closed k (apply S e)))
productive (after_sum e k) = let (r, h) = closed k e in inr (closing k, (r, alike.answers (alike.sum_over e k (closing_follows k)) ∙ h))
productive (after_expr e k) = inr (closing k, closed k e)

pub run-++ : (us : List Token) (q : State) (vs : List Token) → run q (us ++ vs) ≡ run (run q us) vs
run-++ [] q vs = refl
run-++ (u ∷ us) q vs = run-++ us (feed q u) vs

run_stuck : (ts : List Token) → run stuck ts ≡ stuck
run_stuck [] = refl
run_stuck (t ∷ ts) = run_stuck ts

-- Some text of the grammar begins with the tokens `us` just where the machine is not stuck after them.
pub begun_runs : (us : List Token) → Begins us → run start us ≡ stuck → ⊥
begun_runs us (vs, (r, p)) e =
    let a : answer start (us ++ vs) ≡ some r = answers p in
    let b : run start (us ++ vs) ≡ stuck = run-++ us start vs ∙ (ap (λ q. run q vs) e ∙ run_stuck vs) in
    let c : none ≡ some r = sym (ap finish b) ∙ a in
    cc

pub run_begins : (us : List Token) → (run start us ≡ stuck → ⊥) → Begins us
run_begins us h =
    elim (productive (run start us)) [ inl e ↦ absurd (h e) | inr y ↦ (y.0, (y.1.0, sound.sound (us ++ y.0) (ap finish (run-++ us start y.0) ∙ y.1.1))) ]

-- So the first token that no text of the grammar has there is the one at which the machine gets stuck,
-- and where the tokens run out, they are a text of the grammar just where the machine has an answer.
pub first_stuck : (us : List Token) (t : Token) → (run start us ≡ stuck → ⊥) → feed (run start us) t ≡ stuck → NoTextHas us t
first_stuck us t h e = (run_begins us h, λ b. begun_runs (us ++ (t ∷ [])) b (run-++ us start (t ∷ []) ∙ e))

pub cut_short : (ts : List Token) → (run start ts ≡ stuck → ⊥) → answer start ts ≡ none → RunsOut ts
cut_short ts h e =
    (run_begins ts h, λ r p. let a : answer start ts ≡ some r = answers p in cc)

-- Where the reading refuses for the grammar.
abbrev Stops : State → List Token → Type 0
Stops q [] = finish q ≡ none
Stops q (t ∷ ts) = feed q t ≡ stuck

abbrev Five : ℕ → Type 0
Five c = c ≡ 5

-- A limit is another cause.
limit : (b : Bool) (c : ℕ) (A : Type 0) → (Five c → ⊥) → Five (cond b 0 c) → A
limit true c A h e = absurd (omega arith)
limit false c A h e = absurd (h e)

limits : (b c : Bool) (A : Type 0) → Five (cond b (cond c 0 14) 6) → A
limits true c A e = limit c 14 A (λ h. omega arith) e
limits false c A e = absurd (omega arith)

only_stuck : (q : State) (n : ℕ) → Five (judged q n) → q ≡ stuck
only_stuck stuck n e = refl
only_stuck start n e = absurd (omega arith)
only_stuck first_head n e = absurd (omega arith)
only_stuck (head_open D f) n e = limit _ 7 _ (λ h. omega arith) e
only_stuck (head_name D f xs) n e = absurd (omega arith)
only_stuck (head_next D f xs) n e = limit _ 8 _ (λ h. omega arith) e
only_stuck (head_equals D f xs) n e = absurd (omega arith)
only_stuck (want k) n e = limits (leb (depth k) 32) (leb n 2000) _ e
only_stuck (let_name k) n e = limits (leb (depth k) 31) (leb n 2000) _ e
only_stuck (let_equals x k) n e = absurd (omega arith)
only_stuck (operand S P k) n e = limit _ 14 _ (λ h. omega arith) e
only_stuck (weighed S P k) n e = limit _ 14 _ (λ h. omega arith) e
only_stuck (named S P x k) n e = limit _ 14 _ (λ h. omega arith) e
only_stuck (after_product S e₁ k) n e = limit _ 14 _ (λ h. omega arith) e
only_stuck (after_sum e₁ k) n e = limit _ 14 _ (λ h. omega arith) e
only_stuck (after_expr e₁ k) n e = limit _ 14 _ (λ h. omega arith) e

abbrev Refuses : ℕ → State → List Token → ℕ → Type 0
Refuses len q ts p =
    (us : List Token) × ((rest : List Token) × (ts ≡ us ++ rest) × (run q us ≡ stuck → ⊥) × Stops (run q us) rest × (p ≡ first_place len rest))

refuses : (len : ℕ) (ts : List Token) (q : State) (n p : ℕ) → (q ≡ stuck → ⊥) → reading len q n ts ≡ wrong 5 p → Refuses len q ts p
refuses len [] q n p h e = let u = sound.end_wrong len 5 p (finish q) e in ([], ([], refl, h, u.0, u.2))
refuses len (t ∷ ts) q n p h e =
    elim (sound.unless_wrong (judged (feed q t) (counted q t n)) (place t) 5 p _ e) [
      | inr u ↦ ([], (t ∷ ts, refl, h, only_stuck (feed q t) (counted q t n) u.0, u.1))
      | inl u ↦ let r = refuses len ts (feed q t) (counted q t n) p
          (λ s. let z : 5 ≡ judged (feed q t) (counted q t n) = sym (ap (λ s. judged s (counted q t n)) s) in let w = u.0 in omega arith) u.1 in
          (t ∷ r.0, (r.1.0, ap (λ l. t ∷ l) r.1.1, r.1.2, r.1.3, r.1.4))
    ]

at_rest : (us rest : List Token) → (run start us ≡ stuck → ⊥) → Stops (run start us) rest → RefusedAt (us ++ rest) rest
at_rest us [] h e = rw append-nil (at_text_end (cut_short us h e))
at_rest us (t ∷ vs) h e = at_token us (first_stuck us t h e)

pub refused_there : (len : ℕ) (ts : List Token) (p : ℕ) → reading len start 0 ts ≡ wrong 5 p →
    (rest : List Token) × RefusedAt ts rest × (p ≡ first_place len rest)
refused_there len ts p e =
    let r = refuses len ts start 0 p (λ s. cc) e in
    (r.1.0, subst (λ l. RefusedAt l r.1.0) (sym r.1.1) (at_rest r.0 r.1.0 r.1.2 r.1.3), r.1.4)
