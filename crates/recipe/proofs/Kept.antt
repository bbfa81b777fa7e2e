-- A reading that is fine has kept the limits.
use Rattle.std.proofs.Common.{◌≡◌, ℕ, suc, ◌+◌, ◌≤◌, Bool, true, false, cond, leb, List, [], ◌∷◌, sym, refl, ap, ◌∙◌, subst, arith}
use mathlib.Core.Option.{Option, none, some}
use Rattle.std.proofs.lemmas.Bool.{leb-true}
use Rattle.recipe.specs.Tokens.{Op, Plus, Minus, Times, Over, Let, In, Ifp, Then, Else, Weigh, Open, Close, Comma, Equals, Ident}
use Rattle.recipe.specs.Tokens.{Token, Number, Name, Operator, TheWord, Bad, place, fine}
use Rattle.recipe.specs.Grammar.{Expr, num, var, let_in, ifp, call, weigh, group, Arguments, Several, Declaration}
use Rattle.recipe.specs.Grammar.{declare, Recipe}
use Rattle.recipe.specs.Machine.{Left, nothing, left, apply, with_argument, with_one, Context, in_body, in_main, let_value, let_body, if_test}
use Rattle.recipe.specs.Machine.{if_then, if_else, bracket, argument, State, stuck, start, first_head, head_open, head_name, head_next, head_equals}
use Rattle.recipe.specs.Machine.{want, let_name, let_equals, operand, weighed, named, after_product, after_sum, after_expr}
use Rattle.recipe.specs.Machine.{expr_on, sum_on, product_on, operand_on, feed, expr_end, finish}
use Rattle.recipe.specs.Limits.{size, size_or_none, depth, reading, judged, counted, with_operand, with_operator}
use Rattle.recipe.specs.Within.{nesting, nestings, constructs, constructs_of, all_constructs, FitDeclarations}
use Rattle.recipe.specs.Within.{Within}
use Rattle.recipe.proofs.Sound.{by_word, by_name, by_in, unless_fine, end_fine}

-- The constructs that a context, left parts and declarations come to.
abbrev with_left : Left → ℕ → ℕ
with_left nothing n = n
with_left (left a o) n = constructs n a + 1

abbrev so_far : Option (Several Declaration) → ℕ
so_far none = 0
so_far (some ds) = all_constructs ds

abbrev with_some : Option Arguments → ℕ → ℕ
with_some none n = n
with_some (some es) n = constructs_of n es

abbrev base : Context → ℕ
base (in_body D f xs) = so_far D
base (in_main D p) = all_constructs D
base (let_value x k) = base k + 1
base (let_body x e k) = constructs (base k + 1) e
base (if_test k) = base k + 1
base (if_then e k) = constructs (base k + 1) e
base (if_else e e' k) = constructs (constructs (base k + 1) e) e'
base (bracket S P k) = with_left P (with_left S (base k))
base (argument S P f es k) = with_some es (with_left P (with_left S (base k)) + 1)

-- What is held fits where it stands, in a nesting of d.
abbrev FitLeft : ℕ → Left → Type 0
FitLeft d nothing = Unit {0}
FitLeft d (left a o) = d + nesting a ≤ 32

abbrev FitSome : ℕ → Option Arguments → Type 0
FitSome d none = Unit {0}
FitSome d (some es) = d + nestings es ≤ 32

abbrev FitAll : Option (Several Declaration) → Type 0
FitAll none = Unit {0}
FitAll (some ds) = FitDeclarations ds

abbrev Fit : Context → Type 0
Fit (in_body D f xs) = FitAll D × (size_or_none D ≤ 31) × (size xs ≤ 8)
Fit (in_main D p) = FitDeclarations D × (size D ≤ 32)
Fit (let_value x k) = Fit k × (depth k + 1 ≤ 32)
Fit (let_body x e k) = Fit k × (depth k + 1 + nesting e ≤ 32)
Fit (if_test k) = Fit k × (depth k + 1 ≤ 32)
Fit (if_then e k) = Fit k × (depth k + 1 + nesting e ≤ 32)
Fit (if_else e e' k) = Fit k × (depth k + 1 + nesting e ≤ 32) × (depth k + 1 + nesting e' ≤ 32)
Fit (bracket S P k) = Fit k × (depth k + 1 ≤ 32) × FitLeft (depth k) S × FitLeft (depth k) P
Fit (argument S P f es k) = Fit k × (depth k + 1 ≤ 32) × FitLeft (depth k) S × FitLeft (depth k) P × FitSome (depth k + 1) es

abbrev Operands : Left → Left → Context → Type 0
Operands S P k = Fit k × (depth k ≤ 32) × FitLeft (depth k) S × FitLeft (depth k) P

abbrev lefts : Left → Left → Context → ℕ
lefts S P k = with_left P (with_left S (base k))

abbrev Head : Option (Several Declaration) → ℕ → Type 0
Head D n = FitAll D × (size_or_none D ≤ 31) × (n ≡ so_far D)

abbrev After : Expr → Context → ℕ → Type 0
After e k n = Fit k × (depth k + nesting e ≤ 32) × (n ≡ constructs (base k) e) × (n ≤ 2000)

abbrev Keeps : State → ℕ → Type 0
Keeps stuck n = Unit {0}
Keeps start n = n ≡ 0
Keeps first_head n = n ≡ 0
Keeps (head_open D f) n = Head D n
Keeps (head_name D f xs) n = Head D n
Keeps (head_next D f xs) n = Head D n × (size xs ≤ 8)
Keeps (head_equals D f xs) n = Head D n × (size xs ≤ 8)
Keeps (want k) n = Fit k × (depth k ≤ 32) × (n ≡ base k)
Keeps (let_name k) n = Fit k × (depth k + 1 ≤ 32) × (n ≡ base k + 1)
Keeps (let_equals x k) n = Fit k × (depth k + 1 ≤ 32) × (n ≡ base k + 1)
Keeps (operand S P k) n = Operands S P k × (n ≡ lefts S P k)
Keeps (weighed S P k) n = Operands S P k × (n ≡ lefts S P k + 1)
Keeps (named S P x k) n = Operands S P k × (n ≡ lefts S P k + 1) × (n ≤ 2000)
Keeps (after_product S e k) n = Fit k × FitLeft (depth k) S × (depth k + nesting e ≤ 32) × (n ≡ constructs (with_left S (base k)) e) × (n ≤ 2000)
Keeps (after_sum e k) n = After e k n
Keeps (after_expr e k) n = After e k n

-- tests that came out well
abbrev pub Zero : ℕ → Type 0
Zero c = c ≡ 0

passed : (b : Bool) (m c : ℕ) → Zero (cond b m (suc c)) → b ≡ true
passed true m c e = refl
passed false m c e = absurd (omega arith)

few : (n : ℕ) → Zero (cond (leb n 2000) 0 14) → n ≤ 2000
few n e = leb-true n 2000 (passed (leb n 2000) 0 13 e)

shallow : (d n : ℕ) → Zero (cond (leb d 32) (cond (leb n 2000) 0 14) 6) → d ≤ 32
shallow d n e = leb-true d 32 (passed (leb d 32) _ 5 e)

let_shallow : (d n : ℕ) → Zero (cond (leb d 31) (cond (leb n 2000) 0 14) 6) → d + 1 ≤ 32
let_shallow d n e = let g = leb-true d 31 (passed (leb d 31) _ 5 e) in omega arith

small : (s : ℕ) → Zero (cond (leb s 31) 0 7) → s ≤ 31
small s e = leb-true s 31 (passed (leb s 31) 0 6 e)

eight : (s : ℕ) → Zero (cond (leb s 8) 0 8) → s ≤ 8
eight s e = leb-true s 8 (passed (leb s 8) 0 7 e)

apply_nesting : (d : ℕ) (P : Left) (e : Expr) → FitLeft d P → d + nesting e ≤ 32 → d + nesting (apply P e) ≤ 32
apply_nesting d nothing e f h = h
apply_nesting d (left a o) e f h = omega arith

apply_constructs : (m : ℕ) (P : Left) (e : Expr) → constructs (with_left P m) e ≡ constructs m (apply P e)
apply_constructs m nothing e = refl
apply_constructs m (left a o) e = refl

more_nestings : (d : ℕ) (es : Option Arguments) (e : Expr) → FitSome d es → d + nesting e ≤ 32 → d + nestings (with_argument es e) ≤ 32
more_nestings d none e f h = h
more_nestings d (some es) e f h = omega arith

more_constructs : (m : ℕ) (es : Option Arguments) (e : Expr) → constructs (with_some es m) e ≡ constructs_of m (with_argument es e)
more_constructs m none e = refl
more_constructs m (some es) e = refl

more_fits : (D : Option (Several Declaration)) (f : Ident) (xs : Several Ident) (e : Expr) → FitAll D → size xs ≤ 8 → nesting e ≤ 32 →
    FitDeclarations (with_one D (declare f xs e))
more_fits none f xs e a b c = (b, c)
more_fits (some ds) f xs e a b c = (a, (b, c))

more_all : (D : Option (Several Declaration)) (f : Ident) (xs : Several Ident) (e : Expr) →
    constructs (so_far D) e ≡ all_constructs (with_one D (declare f xs e))
more_all none f xs e = refl
more_all (some ds) f xs e = refl

more_size : {A : Type 0} (D : Option (Several A)) (d : A) → size_or_none D ≤ 31 → size (with_one D d) ≤ 32
more_size none d h = omega arith
more_size (some ds) d h = omega arith

expr_step : (e : Expr) (k : Context) (t : Token) (n : ℕ) → After e k n → Zero (judged (expr_on e k t) (with_operator t n)) →
    Keeps (expr_on e k t) (with_operator t n)
expr_step e (in_body D f xs) t n a =
    let P : State → Token → Type 0 = λ q u. Zero (judged q (with_operator u n)) → Keeps q (with_operator u n) in
    let l = with_one D (declare f xs e) in
    let g : FitDeclarations l = more_fits D f xs e a.0.0 a.0.2 (omega (arith, a.1)) in
    by_name P _ _ t (λ x j. (g, small (size l) j, a.2 ∙ more_all D f xs e))
    (by_in P _ t (λ z j. ((g, more_size D (declare f xs e) a.0.1), omega arith, a.2 ∙ more_all D f xs e)) (λ j. tt))
expr_step e (in_main D p) t n a = λ j. tt
expr_step e (let_value x k) t n a =
    by_word (λ q u. Zero (judged q (with_operator u n)) → Keeps q (with_operator u n)) _ _ In t (λ z j. ((a.0.0, a.1), a.0.1, a.2)) (λ j. tt)
expr_step e (let_body x e₁ k) t n a = expr_step (let_in x e₁ e) k t n (a.0.0, omega (arith, a.0.1, a.1), a.2, a.3)
expr_step e (if_test k) t n a =
    by_word (λ q u. Zero (judged q (with_operator u n)) → Keeps q (with_operator u n)) _ _ Then t (λ z j. ((a.0.0, a.1), a.0.1, a.2)) (λ j. tt)
expr_step e (if_then e₀ k) t n a =
    by_word (λ q u. Zero (judged q (with_operator u n)) → Keeps q (with_operator u n)) _ _ Else t (λ z j. ((a.0.0, a.0.1, a.1), omega (arith, a.1), a.2)) (λ j. tt)
expr_step e (if_else e₀ e₁ k) t n a = expr_step (ifp e₀ e₁ e) k t n (a.0.0, omega (arith, a.0.1, a.0.2, a.1), a.2, a.3)
expr_step e (bracket S P k) t n a =
    by_word (λ q u. Zero (judged q (with_operator u n)) → Keeps q (with_operator u n)) _ _ Close t
    (λ z j. (a.0.0, a.0.2, apply_nesting (depth k) P (group e) a.0.3 (omega (arith, a.1)), a.2 ∙ apply_constructs (with_left S (base k)) P (group e), a.3)) (λ j. tt)
expr_step e (argument S P f es k) t n a =
    let Q : State → Token → Type 0 = λ q u. Zero (judged q (with_operator u n)) → Keeps q (with_operator u n) in
    let g = more_nestings (depth k + 1) es e a.0.4 a.1 in
    let c = a.2 ∙ more_constructs (lefts S P k + 1) es e in
    by_word Q _ _ Comma t (λ z j. ((a.0.0, a.0.1, a.0.2, a.0.3, g), a.0.1, c))
    (by_word Q _ _ Close t (λ z j. (
      a.0.0,
      a.0.2,
      apply_nesting (depth k) P (call f (with_argument es e)) a.0.3 (omega (arith, g)),
      c ∙ apply_constructs (with_left S (base k)) P (call f (with_argument es e)),
      a.3,
    )) (λ j. tt))

expr_no_operator : (e : Expr) (k : Context) (z : ℕ) (o : Op) → expr_on e k (Operator z o) ≡ stuck
expr_no_operator e (in_body D f xs) z o = refl
expr_no_operator e (in_main D p) z o = refl
expr_no_operator e (let_value x k) z o = refl
expr_no_operator e (let_body x e₁ k) z o = expr_no_operator (let_in x e₁ e) k z o
expr_no_operator e (if_test k) z o = refl
expr_no_operator e (if_then e₀ k) z o = refl
expr_no_operator e (if_else e₀ e₁ k) z o = expr_no_operator (ifp e₀ e₁ e) k z o
expr_no_operator e (bracket S P k) z o = refl
expr_no_operator e (argument S P f es k) z o = refl

times_never : (e : Expr) (k : Context) (z n : ℕ) (o : Op) → Zero (judged (expr_on e k (Operator z o)) (n + 1)) →
    Keeps (expr_on e k (Operator z o)) (n + 1)
times_never e k z n o j =
    let h : Zero 5 = subst (λ q. Zero (judged q (n + 1))) (expr_no_operator e k z o) j in absurd (omega arith)

sum_step : (e : Expr) (k : Context) (t : Token) (n : ℕ) → After e k n → Zero (judged (sum_on e k t) (with_operator t n)) →
    Keeps (sum_on e k t) (with_operator t n)
sum_step e k (Operator z Plus) n a j = ((a.0, omega (arith, a.1), a.1, tt), ap (λ c. c + 1) a.2)
sum_step e k (Operator z Minus) n a j = ((a.0, omega (arith, a.1), a.1, tt), ap (λ c. c + 1) a.2)
sum_step e k (Operator z Times) n a j = times_never e k z n Times j
sum_step e k (Operator z Over) n a j = times_never e k z n Over j
sum_step e k (Number x) n a j = expr_step e k (Number x) n a j
sum_step e k (Name x) n a j = expr_step e k (Name x) n a j
sum_step e k (TheWord z v) n a j = expr_step e k (TheWord z v) n a j
sum_step e k (Bad z c) n a j = expr_step e k (Bad z c) n a j

product_step : (S : Left) (e : Expr) (k : Context) (t : Token) (n : ℕ) → Keeps (after_product S e k) n →
    Zero (judged (product_on S e k t) (with_operator t n)) →
    Keeps (product_on S e k t) (with_operator t n)
product_step S e k t n a = by t where
  A : After (apply S e) k n
  A = (a.0, apply_nesting (depth k) S e a.1 a.2, a.3 ∙ apply_constructs (base k) S e, a.4)

  by : (t : Token) → Zero (judged (product_on S e k t) (with_operator t n)) → Keeps (product_on S e k t) (with_operator t n)
  by (Operator z Plus) j = sum_step (apply S e) k (Operator z Plus) n A j
  by (Operator z Minus) j = sum_step (apply S e) k (Operator z Minus) n A j
  by (Operator z Times) j = ((a.0, omega (arith, a.2), a.1, a.2), ap (λ c. c + 1) a.3)
  by (Operator z Over) j = ((a.0, omega (arith, a.2), a.1, a.2), ap (λ c. c + 1) a.3)
  by (Number x) j = sum_step (apply S e) k (Number x) n A j
  by (Name x) j = sum_step (apply S e) k (Name x) n A j
  by (TheWord z v) j = sum_step (apply S e) k (TheWord z v) n A j
  by (Bad z c) j = sum_step (apply S e) k (Bad z c) n A j

leaf : (S P : Left) (e : Expr) (k : Context) (n m : ℕ) → Operands S P k → nesting e ≡ 0 → constructs (lefts S P k) e ≡ m → n ≡ m → n ≤ 2000 →
    Keeps (after_product S (apply P e) k) n
leaf S P e k n m a z c g h =
    (a.0, a.2, apply_nesting (depth k) P e a.3 (omega (arith, a.1, z)), g ∙ (sym c ∙ apply_constructs (with_left S (base k)) P e), h)

operand_step : (S P : Left) (k : Context) (t : Token) (n : ℕ) → Operands S P k → n ≡ lefts S P k →
    Zero (judged (operand_on S P k t) (with_operand t n)) →
    Keeps (operand_on S P k t) (with_operand t n)
operand_step S P k (Number x) n a g = λ j. leaf S P (num x) k (n + 1) _ a refl refl (ap (λ c. c + 1) g) (few (n + 1) j)
operand_step S P k (Name x) n a g = λ j. (a, ap (λ c. c + 1) g, few (n + 1) j)
operand_step S P k (Operator z o) n a g = λ j. tt
operand_step S P k (TheWord z v) n a g =
    let Q : State → Token → Type 0 = λ q u. Zero (judged q (with_operand u n)) → Keeps q (with_operand u n) in
    by_word Q _ _ Weigh (TheWord z v) (λ z' j. (a, ap (λ c. c + 1) g))
    (by_word Q _ _ Open (TheWord z v) (λ z' j. ((a.0, shallow (depth k + 1) n j, a.2, a.3), shallow (depth k + 1) n j, g)) (λ j. tt))
operand_step S P k (Bad z c) n a g = λ j. tt

weighed_step : (S P : Left) (k : Context) (t : Token) (n : ℕ) → Keeps (weighed S P k) n → Zero (judged (feed (weighed S P k) t) n) →
    Keeps (feed (weighed S P k) t) n
weighed_step S P k (Number x) n a j = leaf S P (weigh x) k n _ a.0 refl refl a.1 (few n j)
weighed_step S P k (Name x) n a j = tt
weighed_step S P k (Operator z o) n a j = tt
weighed_step S P k (TheWord z v) n a j = tt
weighed_step S P k (Bad z c) n a j = tt

step : (q : State) (t : Token) (n : ℕ) → Keeps q n → Zero (judged (feed q t) (counted q t n)) → Keeps (feed q t) (counted q t n)
step stuck t n a = λ j. tt
step start t n a = by_word (λ q u. Zero (judged q n) → Keeps q n) _ _ Let t (λ z j. a) (λ j. tt)
step first_head t n a = by_name (λ q u. Zero (judged q n) → Keeps q n) _ _ t (λ x j. (tt, omega arith, a)) (λ j. tt)
step (head_open D f) t n a = by_word (λ q u. Zero (judged q n) → Keeps q n) _ _ Open t (λ z j. a) (λ j. tt)
step (head_name D f xs) t n a = by_name (λ q u. Zero (judged q n) → Keeps q n) _ _ t (λ x j. (a, eight (size (with_one xs x)) j)) (λ j. tt)
step (head_next D f xs) t n a =
    let Q : State → Token → Type 0 = λ q u. Zero (judged q n) → Keeps q n in
    by_word Q _ _ Comma t (λ z j. a.0) (by_word Q _ _ Close t (λ z j. a) (λ j. tt))
step (head_equals D f xs) t n a =
    by_word (λ q u. Zero (judged q n) → Keeps q n) _ _ Equals t (λ z j. ((a.0.0, a.0.1, a.1), omega arith, a.0.2)) (λ j. tt)
step (want k) t n a =
    let Q : State → Token → Type 0 = λ q u. Zero (judged q (with_operand u n)) → Keeps q (with_operand u n) in
    by_word Q _ _ Let t (λ z j. (a.0, let_shallow (depth k) (n + 1) j, ap (λ c. c + 1) a.2))
    (by_word Q _ _ Ifp t (λ z j. ((a.0, shallow (depth k + 1) (n + 1) j), shallow (depth k + 1) (n + 1) j, ap (λ c. c + 1) a.2))
    (operand_step nothing nothing k t n (a.0, a.1, tt, tt) a.2))
step (let_name k) t n a = by_name (λ q u. Zero (judged q n) → Keeps q n) _ _ t (λ x j. a) (λ j. tt)
step (let_equals x k) t n a = by_word (λ q u. Zero (judged q n) → Keeps q n) _ _ Equals t (λ z j. ((a.0, a.1), a.1, a.2)) (λ j. tt)
step (operand S P k) t n a = operand_step S P k t n a.0 a.1
step (weighed S P k) t n a = weighed_step S P k t n a
step (named S P x k) t n a =
    by_word (λ q u. Zero (judged q (with_operator u n)) → Keeps q (with_operator u n)) _ _ Open t
    (λ z j. ((a.0.0, shallow (depth k + 1) n j, a.0.2, a.0.3, tt), shallow (depth k + 1) n j, a.1))
    (product_step S (apply P (var x)) k t n (leaf S P (var x) k n _ a.0 refl refl a.1 a.2))
step (after_product S e k) t n a = product_step S e k t n a
step (after_sum e k) t n a = sum_step e k t n a
step (after_expr e k) t n a = expr_step e k t n a

-- The end.
abbrev Right : Option Recipe → Type 0
Right none = Unit {0}
Right (some r) = Within r

expr_ends : (e : Expr) (k : Context) (n : ℕ) → After e k n → Right (expr_end e k)
expr_ends e (in_body D f xs) n a = tt
expr_ends e (in_main D p) n a = (a.0.1, a.0.0, omega (arith, a.1), omega (arith, a.2, a.3))
expr_ends e (let_value x k) n a = tt
expr_ends e (let_body x e₁ k) n a = expr_ends (let_in x e₁ e) k n (a.0.0, omega (arith, a.0.1, a.1), a.2, a.3)
expr_ends e (if_test k) n a = tt
expr_ends e (if_then e₀ k) n a = tt
expr_ends e (if_else e₀ e₁ k) n a = expr_ends (ifp e₀ e₁ e) k n (a.0.0, omega (arith, a.0.1, a.0.2, a.1), a.2, a.3)
expr_ends e (bracket S P k) n a = tt
expr_ends e (argument S P f es k) n a = tt

product_ends : (S : Left) (e : Expr) (k : Context) (n : ℕ) → Keeps (after_product S e k) n → Right (expr_end (apply S e) k)
product_ends S e k n a = expr_ends (apply S e) k n (a.0, apply_nesting (depth k) S e a.1 a.2, a.3 ∙ apply_constructs (base k) S e, a.4)

ends : (q : State) (n : ℕ) → Keeps q n → Right (finish q)
ends stuck n a = tt
ends start n a = tt
ends first_head n a = tt
ends (head_open D f) n a = tt
ends (head_name D f xs) n a = tt
ends (head_next D f xs) n a = tt
ends (head_equals D f xs) n a = tt
ends (want k) n a = tt
ends (let_name k) n a = tt
ends (let_equals x k) n a = tt
ends (operand S P k) n a = tt
ends (weighed S P k) n a = tt
ends (named S P x k) n a = product_ends S (apply P (var x)) k n (leaf S P (var x) k n _ a.0 refl refl a.1 a.2)
ends (after_product S e k) n a = product_ends S e k n a
ends (after_sum e k) n a = expr_ends e k n a
ends (after_expr e k) n a = expr_ends e k n a

keeps : (len : ℕ) (ts : List Token) (q : State) (n : ℕ) (r : Recipe) → Keeps q n → reading len q n ts ≡ fine r → Within r
keeps len [] q n r a e = subst Right (end_fine len (finish q) r e) (ends q n a)
keeps len (t ∷ ts) q n r a e =
    let u = unless_fine (judged (feed q t) (counted q t n)) (place t) _ r e in keeps len ts (feed q t) (counted q t n) r (step q t n a u.0) u.1

pub within : (len : ℕ) (ts : List Token) (r : Recipe) → reading len start 0 ts ≡ fine r → Within r
within len ts r e = keeps len ts start 0 r refl e
