-- States that the machine leaves alike. What follows decides that a sum, a product, a name, a let or an ifp is over.
use Rattle.std.proofs.Common.{◌≡◌, ℕ, List, [], ◌∷◌, refl, ap, ◌∙◌}
use Rattle.recipe.specs.Tokens.{Op, In, Then, Else, Close, Comma, Ident, Token, Name, Operator, TheWord, place}
use Rattle.recipe.specs.Grammar.{Expr, var, let_in, ifp, JoinsProducts, by_plus, by_minus, JoinsAtoms, by_times, by_over}
use Rattle.recipe.specs.Grammar.{IsSum, a_product, and_product, IsProduct, an_atom, and_atom, IsAtom, a_number, a_name, a_call, a_weigh, bracketed}
use Rattle.recipe.specs.Machine.{Left, nothing, apply, Context, let_body, if_else, State, want, operand, named, after_product, after_sum, after_expr}
use Rattle.recipe.specs.Machine.{feed, run, finish}
use Rattle.recipe.specs.Limits.{counted, reading, unless, judged, at_the_end}

pub data AfterExpr : List Token → Type 0 where
  at_end : AfterExpr []
  at_name : {x : Ident} {ts : List Token} → AfterExpr (Name x ∷ ts)
  at_in : {p : ℕ} {ts : List Token} → AfterExpr (TheWord p In ∷ ts)
  at_then : {p : ℕ} {ts : List Token} → AfterExpr (TheWord p Then ∷ ts)
  at_else : {p : ℕ} {ts : List Token} → AfterExpr (TheWord p Else ∷ ts)
  at_close : {p : ℕ} {ts : List Token} → AfterExpr (TheWord p Close ∷ ts)
  at_comma : {p : ℕ} {ts : List Token} → AfterExpr (TheWord p Comma ∷ ts)

pub data AfterProduct : List Token → Type 0 where
  ended : {ts : List Token} → AfterExpr ts → AfterProduct ts
  joins : {p : ℕ} {o : Op} {ts : List Token} → JoinsProducts o → AfterProduct (Operator p o ∷ ts)

pub data AfterAtom : List Token → Type 0 where
  ended : {ts : List Token} → AfterProduct ts → AfterAtom ts
  joins : {p : ℕ} {o : Op} {ts : List Token} → JoinsAtoms o → AfterAtom (Operator p o ∷ ts)

-- The states q and q' end alike, or go on alike and count alike.
pub data Alike (q q' : State) : List Token → Type 0 where
  ends : finish q ≡ finish q' → Alike q q' []
  goes : {t : Token} {ts : List Token} → feed q t ≡ feed q' t → ((n : ℕ) → counted q t n ≡ counted q' t n) → Alike q q' (t ∷ ts)

-- So the reading makes the same of both, and the machine answers the same.
pub reads : (len n : ℕ) {q q' : State} {ts : List Token} → Alike q q' ts → reading len q n ts ≡ reading len q' n ts
reads len n (ends e) = ap (at_the_end len) e
reads len n {q = q} {q' = q'} (goes {t = t} {ts = ts} e c) =
    ap (λ s. unless (judged s (counted q t n)) (place t) (reading len s (counted q t n) ts)) e
    ∙ ap (λ m. unless (judged (feed q' t) m) (place t) (reading len (feed q' t) m ts)) (c n)

pub answers : {q q' : State} {ts : List Token} → Alike q q' ts → finish (run q ts) ≡ finish (run q' ts)
answers (ends e) = e
answers (goes {ts = ts} e c) = ap (λ s. finish (run s ts)) e

pub sum_over : {ts : List Token} (e : Expr) (k : Context) → AfterExpr ts → Alike (after_sum e k) (after_expr e k) ts
sum_over e k at_end = ends refl
sum_over e k at_name = goes refl (λ n. refl)
sum_over e k at_in = goes refl (λ n. refl)
sum_over e k at_then = goes refl (λ n. refl)
sum_over e k at_else = goes refl (λ n. refl)
sum_over e k at_close = goes refl (λ n. refl)
sum_over e k at_comma = goes refl (λ n. refl)

product_over_end : {ts : List Token} (S : Left) (e : Expr) (k : Context) → AfterExpr ts → Alike (after_product S e k) (after_sum (apply S e) k) ts
product_over_end S e k at_end = ends refl
product_over_end S e k at_name = goes refl (λ n. refl)
product_over_end S e k at_in = goes refl (λ n. refl)
product_over_end S e k at_then = goes refl (λ n. refl)
product_over_end S e k at_else = goes refl (λ n. refl)
product_over_end S e k at_close = goes refl (λ n. refl)
product_over_end S e k at_comma = goes refl (λ n. refl)

pub product_over : {ts : List Token} (S : Left) (e : Expr) (k : Context) → AfterProduct ts → Alike (after_product S e k) (after_sum (apply S e) k) ts
product_over S e k (ended a) = product_over_end S e k a
product_over S e k (joins by_plus) = goes refl (λ n. refl)
product_over S e k (joins by_minus) = goes refl (λ n. refl)

name_over_end : {ts : List Token} (S P : Left) (x : Ident) (k : Context) → AfterExpr ts →
    Alike (named S P x k) (after_product S (apply P (var x)) k) ts
name_over_end S P x k at_end = ends refl
name_over_end S P x k at_name = goes refl (λ n. refl)
name_over_end S P x k at_in = goes refl (λ n. refl)
name_over_end S P x k at_then = goes refl (λ n. refl)
name_over_end S P x k at_else = goes refl (λ n. refl)
name_over_end S P x k at_close = goes refl (λ n. refl)
name_over_end S P x k at_comma = goes refl (λ n. refl)

pub name_over : {ts : List Token} (S P : Left) (x : Ident) (k : Context) → AfterAtom ts →
    Alike (named S P x k) (after_product S (apply P (var x)) k) ts
name_over S P x k (ended (ended a)) = name_over_end S P x k a
name_over S P x k (ended (joins by_plus)) = goes refl (λ n. refl)
name_over S P x k (ended (joins by_minus)) = goes refl (λ n. refl)
name_over S P x k (joins by_times) = goes refl (λ n. refl)
name_over S P x k (joins by_over) = goes refl (λ n. refl)

-- The end of a let or an ifp is the end of its last part.
pub let_over : (x : Ident) (e₁ e₂ : Expr) (k : Context) (ts : List Token) → Alike (after_expr e₂ (let_body x e₁ k)) (after_expr (let_in x e₁ e₂) k) ts
let_over x e₁ e₂ k [] = ends refl
let_over x e₁ e₂ k (t ∷ ts) = goes refl (λ n. refl)

pub ifp_over : (e₀ e₁ e₂ : Expr) (k : Context) (ts : List Token) → Alike (after_expr e₂ (if_else e₀ e₁ k)) (after_expr (ifp e₀ e₁ e₂) k) ts
ifp_over e₀ e₁ e₂ k [] = ends refl
ifp_over e₀ e₁ e₂ k (t ∷ ts) = goes refl (λ n. refl)

-- An expression that begins as an operand does.
mutual
  pub as_operand_sum : {e : Expr} {ts rest : List Token} → IsSum e ts rest → (k : Context) → Alike (want k) (operand nothing nothing k) ts
  as_operand_sum (a_product p) k = as_operand p k
  as_operand_sum (and_product s j p) k = as_operand_sum s k

  as_operand : {e : Expr} {ts rest : List Token} → IsProduct e ts rest → (k : Context) → Alike (want k) (operand nothing nothing k) ts
  as_operand (an_atom a) k = as_operand_atom a k
  as_operand (and_atom p j a) k = as_operand p k

  as_operand_atom : {e : Expr} {ts rest : List Token} → IsAtom e ts rest → (k : Context) → Alike (want k) (operand nothing nothing k) ts
  as_operand_atom a_number k = goes refl (λ n. refl)
  as_operand_atom a_name k = goes refl (λ n. refl)
  as_operand_atom (a_call m) k = goes refl (λ n. refl)
  as_operand_atom a_weigh k = goes refl (λ n. refl)
  as_operand_atom (bracketed e) k = goes refl (λ n. refl)
