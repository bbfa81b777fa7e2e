-- The grammar of recipe text, over tokens: trees, and which tokens are a text of which tree.
use Rattle.std.specs.Prelude.{ℕ, List, [], ◌∷◌, ◌++◌}
use Rattle.recipe.specs.Tokens.{Op, Plus, Minus, Times, Over, Let, In, Ifp, Then, Else, Weigh, Open, Close, Comma, Equals}
use Rattle.recipe.specs.Tokens.{Ident, Literal, Token, Number, Name, Operator, TheWord}

-- The tree of an expression: a number; a variable used; an operator; `let` name, value, body; `ifp` test, `then`, `else`;
-- a call of a name with its arguments; `weigh` of a channel; an expression in brackets.
mutual
  pub data Expr : Type 0 where
    num : Literal → Expr
    var : Ident → Expr
    op : Op → Expr → Expr → Expr
    let_in : Ident → Expr → Expr → Expr
    ifp : Expr → Expr → Expr → Expr
    call : Ident → Arguments → Expr
    weigh : Literal → Expr
    group : Expr → Expr

  -- one or more arguments, of which the last stands last
  pub data Arguments : Type 0 where
    one : Expr → Arguments
    more : Arguments → Expr → Arguments

-- One or more of a kind, of which the last stands last.
pub data Several (A : Type 0) : Type 0 where
  one_only : A → Several A
  and_then : Several A → A → Several A

-- A function's name, its parameters and its body.
pub data Declaration : Type 0 where
  declare : Ident → Several Ident → Expr → Declaration

-- The declarations, the place of the recipe's own `in`, and the main expression.
pub data Recipe : Type 0 where
  recipe : Several Declaration → ℕ → Expr → Recipe

-- `+` and `-` join products to a sum; `*` and `div` join atoms to a product.
pub data JoinsProducts : Op → Type 0 where
  by_plus : JoinsProducts Plus
  by_minus : JoinsProducts Minus

pub data JoinsAtoms : Op → Type 0 where
  by_times : JoinsAtoms Times
  by_over : JoinsAtoms Over

-- `IsExpr e ts rest`: the tokens `ts` begin with an expression whose tree is `e`, and the tokens `rest` follow it. So for the others.
mutual
  -- let name = expression in expression; or ifp expression then expression else expression; or a sum
  pub data IsExpr : Expr → List Token → List Token → Type 0 where
    a_let : {p q r : ℕ} {x : Ident} {e₁ e₂ : Expr} {ts us rest : List Token} →
        IsExpr e₁ ts (TheWord p In ∷ us) → IsExpr e₂ us rest →
        IsExpr (let_in x e₁ e₂) (TheWord q Let ∷ Name x ∷ TheWord r Equals ∷ ts) rest
    an_ifp : {p q r : ℕ} {e₀ e₁ e₂ : Expr} {ts us vs rest : List Token} →
        IsExpr e₀ ts (TheWord p Then ∷ us) → IsExpr e₁ us (TheWord q Else ∷ vs) → IsExpr e₂ vs rest →
        IsExpr (ifp e₀ e₁ e₂) (TheWord r Ifp ∷ ts) rest
    a_sum : {e : Expr} {ts rest : List Token} → IsSum e ts rest → IsExpr e ts rest

  -- products joined by + or -, grouped to the left
  pub data IsSum : Expr → List Token → List Token → Type 0 where
    a_product : {e : Expr} {ts rest : List Token} → IsProduct e ts rest → IsSum e ts rest
    and_product : {p : ℕ} {o : Op} {a b : Expr} {ts us rest : List Token} →
        IsSum a ts (Operator p o ∷ us) → JoinsProducts o → IsProduct b us rest → IsSum (op o a b) ts rest

  -- atoms joined by * or div, grouped to the left
  pub data IsProduct : Expr → List Token → List Token → Type 0 where
    an_atom : {e : Expr} {ts rest : List Token} → IsAtom e ts rest → IsProduct e ts rest
    and_atom : {p : ℕ} {o : Op} {a b : Expr} {ts us rest : List Token} →
        IsProduct a ts (Operator p o ∷ us) → JoinsAtoms o → IsAtom b us rest → IsProduct (op o a b) ts rest

  -- number; name; name ( arguments ); weigh number; ( expression )
  pub data IsAtom : Expr → List Token → List Token → Type 0 where
    a_number : {n : Literal} {rest : List Token} → IsAtom (num n) (Number n ∷ rest) rest
    a_name : {x : Ident} {rest : List Token} → IsAtom (var x) (Name x ∷ rest) rest
    a_call : {p q : ℕ} {f : Ident} {es : Arguments} {ts rest : List Token} →
        IsArguments es ts (TheWord p Close ∷ rest) → IsAtom (call f es) (Name f ∷ TheWord q Open ∷ ts) rest
    a_weigh : {p : ℕ} {n : Literal} {rest : List Token} → IsAtom (weigh n) (TheWord p Weigh ∷ Number n ∷ rest) rest
    bracketed : {p q : ℕ} {e : Expr} {ts rest : List Token} →
        IsExpr e ts (TheWord p Close ∷ rest) → IsAtom (group e) (TheWord q Open ∷ ts) rest

  -- one or more expressions, commas between
  pub data IsArguments : Arguments → List Token → List Token → Type 0 where
    an_argument : {e : Expr} {ts rest : List Token} → IsExpr e ts rest → IsArguments (one e) ts rest
    and_argument : {p : ℕ} {es : Arguments} {e : Expr} {ts us rest : List Token} →
        IsArguments es ts (TheWord p Comma ∷ us) → IsExpr e us rest → IsArguments (more es e) ts rest

-- One or more names, commas between.
pub data IsNames : Several Ident → List Token → List Token → Type 0 where
  a_parameter : {x : Ident} {rest : List Token} → IsNames (one_only x) (Name x ∷ rest) rest
  and_parameter : {p : ℕ} {xs : Several Ident} {x : Ident} {ts rest : List Token} →
      IsNames xs ts (TheWord p Comma ∷ Name x ∷ rest) → IsNames (and_then xs x) ts rest

-- name ( names ) = expression
pub data IsDeclaration : Declaration → List Token → List Token → Type 0 where
  declared : {p q r : ℕ} {f : Ident} {xs : Several Ident} {e : Expr} {ts us rest : List Token} →
      IsNames xs ts (TheWord p Close ∷ TheWord q Equals ∷ us) → IsExpr e us rest →
      IsDeclaration (declare f xs e) (Name f ∷ TheWord r Open ∷ ts) rest

-- One or more declarations, with nothing between.
pub data IsDeclarations : Several Declaration → List Token → List Token → Type 0 where
  a_declaration : {d : Declaration} {ts rest : List Token} → IsDeclaration d ts rest → IsDeclarations (one_only d) ts rest
  and_declaration : {ds : Several Declaration} {d : Declaration} {ts us rest : List Token} →
      IsDeclarations ds ts us → IsDeclaration d us rest → IsDeclarations (and_then ds d) ts rest

-- `IsRecipe r ts`: the tokens `ts` are a text of the grammar, whose tree is `r`: let, declarations, in, expression, and nothing after it.
pub data IsRecipe : Recipe → List Token → Type 0 where
  a_recipe : {p q : ℕ} {ds : Several Declaration} {e : Expr} {ts us : List Token} →
      IsDeclarations ds ts (TheWord p In ∷ us) → IsExpr e us [] → IsRecipe (recipe ds p e) (TheWord q Let ∷ ts)

-- Some text of the grammar begins with the tokens `ts`. Only the kinds of tokens count for that: names, values, places and limits play no part.
abbrev pub Begins : List Token → Type 0
Begins ts = (rest : List Token) × ((r : Recipe) × IsRecipe r (ts ++ rest))

-- After the tokens `us`, no text of the grammar has the token `t`: some text begins with `us`, and none with `us` and `t`.
abbrev pub NoTextHas : List Token → Token → Type 0
NoTextHas us t = Begins us × (Begins (us ++ (t ∷ [])) → ⊥)

-- The tokens run out: some text begins with them, and they are none.
abbrev pub RunsOut : List Token → Type 0
RunsOut ts = Begins ts × ((r : Recipe) → IsRecipe r ts → ⊥)

-- `RefusedAt ts rest`: the grammar refuses the tokens `ts` where `rest`, the last of them, begin.
pub data RefusedAt : List Token → List Token → Type 0 where
  at_token : (us : List Token) {vs : List Token} {t : Token} → NoTextHas us t → RefusedAt (us ++ (t ∷ vs)) (t ∷ vs)
  at_end : {ts : List Token} → RunsOut ts → RefusedAt ts []
