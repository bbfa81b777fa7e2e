-- The numbers of a recipe are those of its tokens, which have 28 bits.
use Rattle.std.proofs.Common.{ℕ, ◌+◌, ◌<◌, Bool, true, false, cond, ◌||◌, eqb, leb, List, [], ◌∷◌, ◌++◌, length, codes, arith}
use Rattle.std.proofs.lemmas.Bool.{cond_both, leb-true}
use Rattle.std.specs.Str.{bytes_eq}
use Rattle.recipe.specs.Tokens.{Ident, Token, Number, Name, Operator, TheWord, Bad, blank, digit, letter, number_token, name_token, sign, Run, idle, digits}
use Rattle.recipe.specs.Tokens.{letters, goes_on, ended, after, made, scan, tokens}
use Rattle.recipe.specs.Grammar.{Expr, Arguments, Several, one_only, and_then, Declaration, declare, Recipe, recipe, IsExpr, a_let, an_ifp, a_sum, IsSum, a_product, and_product}
use Rattle.recipe.specs.Grammar.{IsProduct, an_atom, and_atom, IsAtom, a_number, a_name, a_call, a_weigh, bracketed, IsArguments, an_argument}
use Rattle.recipe.specs.Grammar.{and_argument, IsNames, a_parameter, and_parameter, IsDeclaration, declared, IsDeclarations, a_declaration}
use Rattle.recipe.specs.Grammar.{and_declaration, IsRecipe, a_recipe}
use Rattle.meaning.proofs.Simulation.{Small, Smalls}

abbrev Low : Token → Type 0
Low (Number n) = n.value < 268435456
Low (Name x) = Unit {0}
Low (Operator p o) = Unit {0}
Low (TheWord p w) = Unit {0}
Low (Bad p c) = Unit {0}

abbrev Lows : List Token → Type 0
Lows [] = Unit {0}
Lows (t ∷ ts) = Low t × Lows ts

lows_append : (ts us : List Token) → Lows ts → Lows us → Lows (ts ++ us)
lows_append [] us a b = b
lows_append (t ∷ ts) us a b = (a.0, lows_append ts us a.1 b)

-- what holds of both holds of either
either : {A : Type 0} (P : A → Type 0) (b : Bool) (x y : A) → P x → P y → P (cond b x y)
either P true x y h k = h
either P false x y h k = k

number_low : (p n : ℕ) → Low (number_token p n)
number_low p n = cond_both (leb n 268435455) _ _ Low (λ e. let h = leb-true n 268435455 e in omega arith) (λ e. tt)

name_low : (p : ℕ) (s : List ℕ) → Low (name_token p s)
name_low p s =
    either Low (bytes_eq s (codes "let")) _ _ tt (either Low (bytes_eq s (codes "in")) _ _ tt (either Low (bytes_eq s (codes "ifp")) _ _ tt
    (either Low (bytes_eq s (codes "then")) _ _ tt (either Low (bytes_eq s (codes "else")) _ _ tt (either Low (bytes_eq s (codes "div")) _ _ tt
    (either Low (bytes_eq s (codes "weigh")) _ _ tt (either Low (leb (length s) 16) _ _ tt tt)))))))

sign_low : (p c : ℕ) → Lows (sign p c)
sign_low p c =
    either Lows (eqb c 40) _ _ (tt, tt) (either Lows (eqb c 41) _ _ (tt, tt) (either Lows (eqb c 44) _ _ (tt, tt) (either Lows (eqb c 61) _ _ (tt, tt)
    (either Lows (eqb c 43) _ _ (tt, tt) (either Lows (eqb c 45) _ _ (tt, tt) (either Lows (eqb c 42) _ _ (tt, tt) (either Lows (blank c) _ _ tt (tt, tt))))))))

ended_low : (r : Run) → Lows (ended r)
ended_low idle = tt
ended_low (digits p n) = (number_low p n, tt)
ended_low (letters p s) = (name_low p s, tt)

scan_low : (r : Run) (p : ℕ) (cs : List ℕ) → Lows (scan r p cs)
scan_low r p [] = ended_low r
scan_low r p (c ∷ cs) =
    lows_append (made r p c) _
    (either Lows (goes_on r c) _ _ tt (lows_append (ended r) _ (ended_low r) (either Lows (digit c || letter c) _ _ tt (sign_low p c))))
    (scan_low (after r p c) (p + 1) cs)

mutual
  small_expr : {e : Expr} {ts rest : List Token} → IsExpr e ts rest → Lows ts → Small e × Lows rest
  small_expr (a_let v b) h = let x = small_expr v h.1.1.1 in let y = small_expr b x.1.1 in ((x.0, y.0), y.1)
  small_expr (an_ifp t y n) h =
      let a = small_expr t h.1 in let b = small_expr y a.1.1 in let c = small_expr n b.1.1 in ((a.0, b.0, c.0), c.1)
  small_expr (a_sum s) h = small_sum s h

  small_sum : {e : Expr} {ts rest : List Token} → IsSum e ts rest → Lows ts → Small e × Lows rest
  small_sum (a_product p) h = small_product p h
  small_sum (and_product s j p) h = let x = small_sum s h in let y = small_product p x.1.1 in ((x.0, y.0), y.1)

  small_product : {e : Expr} {ts rest : List Token} → IsProduct e ts rest → Lows ts → Small e × Lows rest
  small_product (an_atom a) h = small_atom a h
  small_product (and_atom p j a) h = let x = small_product p h in let y = small_atom a x.1.1 in ((x.0, y.0), y.1)

  small_atom : {e : Expr} {ts rest : List Token} → IsAtom e ts rest → Lows ts → Small e × Lows rest
  small_atom a_number h = h
  small_atom a_name h = h
  small_atom (a_call m) h = let x = small_arguments m h.1.1 in (x.0, x.1.1)
  small_atom a_weigh h = (tt, h.1.1)
  small_atom (bracketed e) h = let x = small_expr e h.1 in (x.0, x.1.1)

  small_arguments : {es : Arguments} {ts rest : List Token} → IsArguments es ts rest → Lows ts → Smalls es × Lows rest
  small_arguments (an_argument e) h = small_expr e h
  small_arguments (and_argument m e) h = let x = small_arguments m h in let y = small_expr e x.1.1 in ((x.0, y.0), y.1)

small_names : {xs : Several Ident} {ts rest : List Token} → IsNames xs ts rest → Lows ts → Lows rest
small_names a_parameter h = h.1
small_names (and_parameter m) h = (small_names m h).1.1

-- of a function, of several, of a recipe
abbrev pub SmallBody : Declaration → Type 0
SmallBody (declare f xs e) = Small e

abbrev pub SmallBodies : Several Declaration → Type 0
SmallBodies (one_only d) = SmallBody d
SmallBodies (and_then ds d) = SmallBodies ds × SmallBody d

abbrev pub SmallRecipe : Recipe → Type 0
SmallRecipe (recipe ds p e) = SmallBodies ds × Small e

small_declaration : {d : Declaration} {ts rest : List Token} → IsDeclaration d ts rest → Lows ts → SmallBody d × Lows rest
small_declaration (declared m e) h = small_expr e (small_names m h.1.1).1.1

small_declarations : {ds : Several Declaration} {ts rest : List Token} → IsDeclarations ds ts rest → Lows ts → SmallBodies ds × Lows rest
small_declarations (a_declaration d) h = small_declaration d h
small_declarations (and_declaration l d) h = let x = small_declarations l h in let y = small_declaration d x.1 in ((x.0, y.0), y.1)

small_recipe : {r : Recipe} {ts : List Token} → IsRecipe r ts → Lows ts → SmallRecipe r
small_recipe (a_recipe l e) h = let x = small_declarations l h.1 in let y = small_expr e x.1.1 in (x.0, y.0)

pub recipe_small : (text : List ℕ) {r : Recipe} → IsRecipe r (tokens text) → SmallRecipe r
recipe_small text d = small_recipe d (scan_low idle 0 text)
