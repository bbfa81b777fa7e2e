-- What it is for a text to be accepted, and to be refused by the grammar and its limits, in the words of the grammar and its rules.
use Rattle.std.specs.Prelude.{◌≡◌, ℕ, ◌≤◌, List, [], ◌∷◌, ◌++◌, length, drop, Ok, Err, Result}
use Rattle.recipe.specs.declared.cause.Refusal.{Refusal}
use Rattle.recipe.specs.Causes.{Cause, Grammar, Nesting, Functions, Parameters, Constructs}
use Rattle.recipe.specs.Tokens.{Token, place, tokens, fine}
use Rattle.recipe.specs.Grammar.{Recipe, IsRecipe, Begins, RefusedAt}
use Rattle.recipe.specs.Within.{Within}
use Rattle.recipe.specs.Names.{recipe_faults}
use Rattle.recipe.specs.Frames.{recipe_frames}
use Rattle.recipe.specs.Image.{image, HEAD}
use Rattle.recipe.specs.Compiled.{answered, laid_out, said}

-- A recipe of the text: a tree that derives from its tokens, keeps the limits, breaks no rule of names and has frames of at most 32 values.
pub record RecipeOf (text : List ℕ) (r : Recipe) : Type 0 where
  pub derives : IsRecipe r (tokens text)
  pub within : Within r
  pub lawful : recipe_faults r ≡ []
  pub framed : recipe_frames r ≡ fine tt

-- The place where tokens begin, the last of a text of `len` bytes.
abbrev pub first_place : ℕ → List Token → ℕ
first_place len [] = len
first_place len (t ∷ ts) = place t

-- `LimitedAt ts p`: the token at the place p, with the tokens before it, begins some text of the grammar, and none within the limits.
pub record LimitedAt (ts : List Token) (p : ℕ) : Type 0 where
  pub earlier : List Token
  pub token : Token
  pub later : List Token
  pub whole : ts ≡ earlier ++ (token ∷ later)
  pub there : p ≡ place token
  pub goes_on : Begins (earlier ++ (token ∷ []))
  pub over : (rest : List Token) (r : Recipe) → IsRecipe r (earlier ++ (token ∷ rest)) → Within r → ⊥

-- The causes that are limits of the grammar.
pub data IsLimit : Cause → Type 0 where
  of_nesting : IsLimit Nesting
  of_functions : IsLimit Functions
  of_parameters : IsLimit Parameters
  of_constructs : IsLimit Constructs

-- The answer r is the number of words in the recipe's image, and the memory m has become m': the image, and past it what stood there.
abbrev pub Accepts : Recipe → Result ℕ Refusal → List ℕ → List ℕ → Type 0
Accepts t r m m' = (r ≡ Ok (length (image t))) × (m' ≡ image t ++ drop (length (image t)) m)

-- What the answer r says of a text, where the image memory m has become m' and the work table has so many words.
pub record Meaning (text : List ℕ) (table_length : ℕ) (r : Result ℕ Refusal) (m m' : List ℕ) : Type 0 where
  -- A text of at most 60,000 bytes that has a recipe is accepted where there is room,
  pub accepts : length text ≤ 60000 → 4096 ≤ length m → 2000 ≤ table_length → (t : Recipe) → RecipeOf text t → Accepts t r m m'
  -- and no other text is.
  pub accepts_only : (n : ℕ) → r ≡ Ok n → (t : Recipe) × RecipeOf text t × Accepts t r m m'
  -- Tokens have one tree at most.
  pub one : (t u : Recipe) → IsRecipe t (tokens text) → IsRecipe u (tokens text) → t ≡ u
  -- Where they have one within the limits, the answer is by that tree's names and frames.
  pub by_tree : length text ≤ 60000 → 4096 ≤ length m → 2000 ≤ table_length → (t : Recipe) → IsRecipe t (tokens text) → Within t →
      said r ≡ answered (laid_out t)
  -- A recipe's image has at most 4,096 words, and begins with HEAD of their number.
  pub fits : (t : Recipe) → RecipeOf text t → (length (image t) ≤ 4096) × (image t ≡ HEAD (length (image t)) ∷ drop 1 (image t))
  -- A refusal for the grammar stands at the first token that no text of the grammar has there, or at the text's end.
  pub refused : (e : Refusal) → r ≡ Err e → e.cause ≡ Grammar →
      (rest : List Token) × RefusedAt (tokens text) rest × (e.place ≡ first_place (length text) rest)
  -- A refusal for a limit stands at a token with which, after those before it, some text of the grammar begins, and none within the
  -- limits. (Which limit it is, and that this token is the first over it, is what `judged` and `counted` of Limits say.)
  pub limited : (e : Refusal) → r ≡ Err e → IsLimit e.cause → LimitedAt (tokens text) e.place
