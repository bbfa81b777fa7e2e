-- The machine reads every text of the grammar that keeps the limits, and answers its tree. So a text has one such tree at most.
use Rattle.std.proofs.Common.{◌≡◌, ℕ, ◌+◌, ◌≤◌, cond, leb, List, ◌∷◌, refl, ◌∙◌, arith}
use mathlib.Core.Option.{Option, none, some}
use Rattle.std.proofs.lemmas.Bool.{le-leb}
use Rattle.recipe.specs.Tokens.{Op, In, Open, Close, Comma, Equals, Ident}
use Rattle.recipe.specs.Tokens.{Token, Name, Operator, TheWord, Verdict, fine}
use Rattle.recipe.specs.Grammar.{Expr, call, Arguments, one, more, Several, one_only, and_then, Declaration}
use Rattle.recipe.specs.Grammar.{declare, Recipe, JoinsProducts, by_plus, by_minus, JoinsAtoms, by_times, by_over, IsExpr, a_let, an_ifp}
use Rattle.recipe.specs.Grammar.{a_sum, IsSum, a_product, and_product, IsProduct, an_atom, and_atom, IsAtom, a_number, a_name, a_call, a_weigh}
use Rattle.recipe.specs.Grammar.{bracketed, IsArguments, an_argument, and_argument, IsNames, a_parameter, and_parameter, declared}
use Rattle.recipe.specs.Grammar.{IsDeclarations, a_declaration, and_declaration, IsRecipe, a_recipe}
use Rattle.recipe.specs.Machine.{Left, nothing, left, apply, Context, in_body, in_main, let_value, let_body, if_test}
use Rattle.recipe.specs.Machine.{if_then, if_else, bracket, argument, State, start, first_head, head_open, head_name, head_next}
use Rattle.recipe.specs.Machine.{want, operand, after_product, after_sum, after_expr}
use Rattle.recipe.specs.Limits.{size, depth, reading, unless}
use Rattle.recipe.specs.Within.{nesting, nestings, constructs, constructs_of, all_constructs, FitDeclarations}
use Rattle.recipe.specs.Within.{Within}
use Rattle.recipe.proofs.Alike.{AfterExpr, at_end, at_name, at_in, at_then, at_else, at_close, at_comma, AfterProduct, AfterAtom, ended, joins}
use Rattle.recipe.proofs.Alike.{reads, sum_over, product_over, name_over, let_over, ifp_over, as_operand_sum}
use Rattle.recipe.proofs.Outputs.{constructs_more, constructs_of_grow}

-- Limits that are kept.
room : (n p : ℕ) (v : Verdict Recipe) → n ≤ 2000 → unless (cond (leb n 2000) 0 14) p v ≡ v
room n p v h = rw (le-leb n 2000 h) refl

deep : (d n p : ℕ) (v : Verdict Recipe) → d ≤ 32 → n ≤ 2000 → unless (cond (leb d 32) (cond (leb n 2000) 0 14) 6) p v ≡ v
deep d n p v g h = rw (le-leb d 32 g, le-leb n 2000 h) refl

let_deep : (d n p : ℕ) (v : Verdict Recipe) → d + 1 ≤ 32 → n ≤ 2000 → unless (cond (leb d 31) (cond (leb n 2000) 0 14) 6) p v ≡ v
let_deep d n p v g h = rw (le-leb d 31 (omega arith), le-leb n 2000 h) refl

few : (s p : ℕ) (v : Verdict Recipe) → s ≤ 8 → unless (cond (leb s 8) 0 8) p v ≡ v
few s p v h = rw (le-leb s 8 h) refl

fits : (s p : ℕ) (v : Verdict Recipe) → s ≤ 31 → unless (cond (leb s 31) 0 7) p v ≡ v
fits s p v h = rw (le-leb s 31 h) refl

module _ (len : ℕ) where
  -- The operator after a sum, and after a product.
  sum_goes_on : {o : Op} (a : Expr) (k : Context) (n p : ℕ) (us : List Token) → JoinsProducts o → n + 1 ≤ 2000 →
      reading len (after_sum a k) n (Operator p o ∷ us) ≡ reading len (operand (left a o) nothing k) (n + 1) us
  sum_goes_on a k n p us by_plus h = room (n + 1) p _ h
  sum_goes_on a k n p us by_minus h = room (n + 1) p _ h

  product_goes_on : {o : Op} (S : Left) (a : Expr) (k : Context) (n p : ℕ) (us : List Token) → JoinsAtoms o → n + 1 ≤ 2000 →
      reading len (after_product S a k) n (Operator p o ∷ us) ≡ reading len (operand S (left a o) k) (n + 1) us
  product_goes_on S a k n p us by_times h = room (n + 1) p _ h
  product_goes_on S a k n p us by_over h = room (n + 1) p _ h

  -- the last of some arguments, with the context that it stands in
  abbrev after_arguments : Left → Left → Ident → Arguments → Context → State
  after_arguments S P f (one e) k = after_expr e (argument S P f none k)
  after_arguments S P f (more es e) k = after_expr e (argument S P f (some es) k)

  arguments_go_on : (S P : Left) (f : Ident) (es : Arguments) (k : Context) (n p : ℕ) (ts : List Token) → depth k + 1 ≤ 32 → n ≤ 2000 →
      reading len (after_arguments S P f es k) n (TheWord p Comma ∷ ts) ≡ reading len (want (argument S P f (some es) k)) n ts
  arguments_go_on S P f (one e) k n p ts g h = deep (depth k + 1) n p _ g h
  arguments_go_on S P f (more es e) k n p ts g h = deep (depth k + 1) n p _ g h

  arguments_end : (S P : Left) (f : Ident) (es : Arguments) (k : Context) (n p : ℕ) (ts : List Token) → n ≤ 2000 →
      reading len (after_arguments S P f es k) n (TheWord p Close ∷ ts) ≡ reading len (after_product S (apply P (call f es)) k) n ts
  arguments_end S P f (one e) k n p ts h = room n p _ h
  arguments_end S P f (more es e) k n p ts h = room n p _ h

  mutual
    pub reads_expr : {e : Expr} {ts rest : List Token} → IsExpr e ts rest → AfterExpr rest → (k : Context) (n : ℕ) → depth k + nesting e ≤ 32 →
        constructs n e ≤ 2000 →
        reading len (want k) n ts ≡ reading len (after_expr e k) (constructs n e) rest
    reads_expr (a_let {p = p} {q = q} {r = r} {x = x} {e₁ = e₁} {e₂ = e₂} {us = us} {rest = rest} v b) a k n d h =
        let g₁ = constructs_more (n + 1) e₁ in let g₂ = constructs_more (constructs (n + 1) e₁) e₂ in
        let m = constructs (n + 1) e₁ in
        let_deep (depth k) (n + 1) q _ (omega arith) (omega arith) ∙ (deep (depth k + 1) (n + 1) r _ (omega arith) (omega arith)
        ∙ (reads_expr v at_in (let_value x k) (n + 1) (omega arith) (omega arith) ∙ (deep (depth k + 1) m p _ (omega arith) (omega arith)
        ∙ (reads_expr b a (let_body x e₁ k) m (omega arith) h ∙ reads len (constructs m e₂) (let_over x e₁ e₂ k rest)))))
    reads_expr (an_ifp {p = p} {q = q} {r = r} {e₀ = e₀} {e₁ = e₁} {e₂ = e₂} {rest = rest} t y z) a k n d h =
        let g₀ = constructs_more (n + 1) e₀ in let g₁ = constructs_more (constructs (n + 1) e₀) e₁ in let g₂ = constructs_more (constructs (constructs (n + 1) e₀) e₁) e₂ in
        let m = constructs (n + 1) e₀ in let l = constructs m e₁ in
        deep (depth k + 1) (n + 1) r _ (omega arith) (omega arith) ∙ (reads_expr t at_then (if_test k) (n + 1) (omega arith) (omega arith)
        ∙ (deep (depth k + 1) m p _ (omega arith) (omega arith) ∙ (reads_expr y at_else (if_then e₀ k) m (omega arith) (omega arith)
        ∙ (deep (depth k + 1) l q _ (omega arith) (omega arith) ∙ (reads_expr z a (if_else e₀ e₁ k) l (omega arith) h ∙ reads len (constructs l e₂) (ifp_over e₀ e₁ e₂ k rest))))))
    reads_expr (a_sum {e = e} s) a k n d h =
        reads len n (as_operand_sum s k) ∙ (reads_sum s (ended a) k n d h ∙ reads len (constructs n e) (sum_over e k a))

    pub reads_sum : {e : Expr} {ts rest : List Token} → IsSum e ts rest → AfterProduct rest → (k : Context) (n : ℕ) → depth k + nesting e ≤ 32 →
        constructs n e ≤ 2000 →
        reading len (operand nothing nothing k) n ts ≡ reading len (after_sum e k) (constructs n e) rest
    reads_sum (a_product {e = e} p) a k n d h = reads_product p (ended a) nothing k n d h ∙ reads len (constructs n e) (product_over nothing e k a)
    reads_sum (and_product {p = q} {o = o} {a = x} {b = y} {us = us} s j p) a k n d h =
        let g = constructs_more (constructs n x + 1) y in
        reads_sum s (joins j) k n (omega arith) (omega arith) ∙ (sum_goes_on x k (constructs n x) q us j (omega arith)
        ∙ (reads_product p (ended a) (left x o) k (constructs n x + 1) (omega arith) h ∙ reads len (constructs (constructs n x + 1) y) (product_over (left x o) y k a)))

    pub reads_product : {e : Expr} {ts rest : List Token} → IsProduct e ts rest → AfterAtom rest → (S : Left) (k : Context) (n : ℕ) →
        depth k + nesting e ≤ 32 → constructs n e ≤ 2000 →
        reading len (operand S nothing k) n ts ≡ reading len (after_product S e k) (constructs n e) rest
    reads_product (an_atom m) a S k n d h = reads_atom m a S nothing k n d h
    reads_product (and_atom {p = q} {o = o} {a = x} {b = y} {us = us} p j m) a S k n d h =
        let g = constructs_more (constructs n x + 1) y in
        reads_product p (joins j) S k n (omega arith) (omega arith) ∙ (product_goes_on S x k (constructs n x) q us j (omega arith)
        ∙ reads_atom m a S (left x o) k (constructs n x + 1) (omega arith) h)

    pub reads_atom : {e : Expr} {ts rest : List Token} → IsAtom e ts rest → AfterAtom rest → (S P : Left) (k : Context) (n : ℕ) →
        depth k + nesting e ≤ 32 → constructs n e ≤ 2000 →
        reading len (operand S P k) n ts ≡ reading len (after_product S (apply P e) k) (constructs n e) rest
    reads_atom (a_number {n = x}) a S P k n d h = room (n + 1) x.place _ h
    reads_atom (a_name {x = x}) a S P k n d h = room (n + 1) x.place _ h ∙ reads len (n + 1) (name_over S P x k a)
    reads_atom (a_call {p = p} {q = q} {f = f} {es = es} {rest = rest} m) a S P k n d h =
        let g = constructs_of_grow (n + 1) es in
        room (n + 1) f.place _ (omega arith) ∙ (deep (depth k + 1) (n + 1) q _ (omega arith) (omega arith)
        ∙ (reads_arguments m at_close S P f k (n + 1) (omega arith) h ∙ arguments_end S P f es k (constructs_of (n + 1) es) p rest h))
    reads_atom (a_weigh {p = p} {n = x}) a S P k n d h = room (n + 1) p _ h ∙ room (n + 1) x.place _ h
    reads_atom (bracketed {p = p} {q = q} {e = e} v) a S P k n d h =
        let g = constructs_more n e in
        deep (depth k + 1) n q _ (omega arith) (omega arith) ∙ (reads_expr v at_close (bracket S P k) n (omega arith) h ∙ room (constructs n e) p _ h)

    pub reads_arguments : {es : Arguments} {ts rest : List Token} → IsArguments es ts rest → AfterExpr rest →
        (S P : Left) (f : Ident) (k : Context) (n : ℕ) →
        depth k + 1 + nestings es ≤ 32 → constructs_of n es ≤ 2000 →
        reading len (want (argument S P f none k)) n ts ≡ reading len (after_arguments S P f es k) (constructs_of n es) rest
    reads_arguments (an_argument e) a S P f k n d h = reads_expr e a (argument S P f none k) n d h
    reads_arguments (and_argument {p = p} {es = es} {e = e} {us = us} m v) a S P f k n d h =
        let g = constructs_more (constructs_of n es) e in
        reads_arguments m at_comma S P f k n (omega arith) (omega arith) ∙ (arguments_go_on S P f es k (constructs_of n es) p us (omega arith) (omega arith)
        ∙ reads_expr v a (argument S P f (some es) k) (constructs_of n es) (omega arith) h)

  -- Heads: the names between the brackets, one declaration, all of them, the recipe.
  after_names : {xs : Several Ident} {ts rest : List Token} → IsNames xs ts rest → (D : Option (Several Declaration)) (f : Ident) (n : ℕ) →
      size xs ≤ 8 →
      reading len (head_name D f none) n ts ≡ reading len (head_next D f xs) n rest
  after_names a_parameter D f n h = refl
  after_names (and_parameter {xs = xs} {x = x} m) D f n h = after_names m D f n (omega arith) ∙ few (size xs + 1) x.place _ h

  reads_declaration : {xs : Several Ident} {e : Expr} {p q : ℕ} (r : ℕ) {ts us rest : List Token} (D : Option (Several Declaration)) (f : Ident) (n : ℕ) →
      IsNames xs ts (TheWord p Close ∷ TheWord q Equals ∷ us) → IsExpr e us rest → AfterExpr rest → size xs ≤ 8 → nesting e ≤ 32 → constructs n e ≤ 2000 →
      reading len (head_open D f) n (TheWord r Open ∷ ts) ≡ reading len (after_expr e (in_body D f xs)) (constructs n e) rest
  reads_declaration {xs} {e} {q = q} r D f n m v a s d h =
      let g = constructs_more n e in after_names m D f n s ∙ (room n q _ (omega arith) ∙ reads_expr v a (in_body D f xs) n (omega arith) h)

  -- the state after some declarations: the last one's body is over, and nothing was made of that yet
  abbrev after_declarations : Several Declaration → State
  after_declarations (one_only (declare f xs e)) = after_expr e (in_body none f xs)
  after_declarations (and_then ds (declare f xs e)) = after_expr e (in_body (some ds) f xs)

  declarations_go_on : (ds : Several Declaration) (f : Ident) (n : ℕ) (ts : List Token) → size ds ≤ 31 →
      reading len (after_declarations ds) n (Name f ∷ ts) ≡ reading len (head_open (some ds) f) n ts
  declarations_go_on (one_only (declare g xs e)) f n ts h = refl
  declarations_go_on (and_then ds (declare g xs e)) f n ts h = fits (size ds + 1) f.place _ h

  declarations_end : (ds : Several Declaration) (n p : ℕ) (ts : List Token) → n ≤ 2000 →
      reading len (after_declarations ds) n (TheWord p In ∷ ts) ≡ reading len (want (in_main ds p)) n ts
  declarations_end (one_only (declare g xs e)) n p ts h = room n p _ h
  declarations_end (and_then ds (declare g xs e)) n p ts h = room n p _ h

  reads_declarations : {ds : Several Declaration} {ts rest : List Token} → IsDeclarations ds ts rest → AfterExpr rest → size ds ≤ 32 →
      FitDeclarations ds → all_constructs ds ≤ 2000 →
      reading len first_head 0 ts ≡ reading len (after_declarations ds) (all_constructs ds) rest
  reads_declarations (a_declaration (declared {r = r} {f = f} m e)) a s t h = reads_declaration r none f 0 m e a t.0 t.1 h
  reads_declarations (and_declaration {ds = ds} l (declared {r = r} {f = f} {e = e} {ts = ts} m v)) a s t h =
      let g = constructs_more (all_constructs ds) e in
      reads_declarations l at_name (omega arith) t.0 (omega arith) ∙ (declarations_go_on ds f (all_constructs ds) (TheWord r Open ∷ ts) (omega arith)
      ∙ reads_declaration r (some ds) f (all_constructs ds) m v a t.1.0 t.1.1 h)

  pub complete : {r : Recipe} {ts : List Token} → IsRecipe r ts → Within r → reading len start 0 ts ≡ fine r
  complete (a_recipe {p = p} {ds = ds} {e = e} {us = us} l v) w =
      let g = constructs_more (all_constructs ds) e in
      reads_declarations l at_in w.0 w.1 (omega (arith, w.3)) ∙ (declarations_end ds (all_constructs ds) p us (omega (arith, w.3))
      ∙ reads_expr v at_end (in_main ds p) (all_constructs ds) (omega (arith, w.2)) w.3)
