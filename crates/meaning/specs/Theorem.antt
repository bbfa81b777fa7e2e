-- The theorems: the limit on nested calls changes no value, and the run of a recipe's image does just what the recipe means.
use Rattle.std.specs.Prelude.{◌≡◌, ℕ, ◌<◌, ◌≤◌, min, cond, List, [], ◌∷◌, ◌++◌, length, pos, sum, ◌==◌, slice_index, slice_index_or}
use Rattle.arithmetic.specs.Rules.{Rules}
use Rattle.reading.specs.Answers.{Reading}
use Rattle.recipe.specs.Causes.{fine}
use Rattle.recipe.specs.Grammar.{Recipe}
use Rattle.recipe.specs.Image.{HEAD, image}
use Rattle.recipe.specs.Theorem.{RecipeOf}
use Rattle.machine.specs.declared.types.Return.{Return}
use Rattle.machine.specs.declared.types.Status.{Status}
use Rattle.machine.specs.declared.types.Status.TheVariants.{Going, Spent, Ended, Failed}
use Rattle.machine.specs.Steps.{frame_room}
use Rattle.machine.specs.Runs.{Scene, begun, scene, granted}
use Rattle.meaning.specs.Meaning.{Outcome, gives, faults, steps, meaning, meaning_within}
use Rattle.meaning.specs.Text.{recipe_in}

-- The recipe found in a text is the one that it has.
abbrev pub FoundExactly : Type 0
FoundExactly = (text : List ℕ) (r : Recipe) → (recipe_in text ≡ fine r → RecipeOf text r) × (RecipeOf text r → recipe_in text ≡ fine r)

-- Its image begins with HEAD and the number of its words, 2 to 4,096.
abbrev pub Headed : Type 0
Headed =
    (text : List ℕ) (r : Recipe) → RecipeOf text r →
    (slice_index (image r) 0 ≡ HEAD (length (image r))) × (2 ≤ length (image r)) × (length (image r) ≤ 4096)

-- Where a recipe has a value with at most k nested calls, it has the same value, in as many steps, under every larger limit.
abbrev pub LimitHarmless : {V : Type 0} → Rules V → Type 0
LimitHarmless {V} rules =
    (held : ℕ → Reading) (r : Recipe) (k limit : ℕ) (v : V) (n : ℕ) → k ≤ limit →
    meaning_within k rules held r ≡ gives v n → meaning_within limit rules held r ≡ gives v n

-- A run of the image in the first `count` words of the memory, from its beginning, with a stack, a return table and an allowance.
module _ {V : Type 0} (rules : Rules V) (held : ℕ → Reading) (count : ℕ) (memory : List ℕ) (stack : List V) (table : List Return) (allowance : ℕ) where
  -- the run after n granted steps
  abbrev pub reached : ℕ → Scene V
  reached n = granted frame_room rules held count memory n (scene (begun allowance) stack table)

  -- how it stands when the outcome's steps are made
  abbrev pub end : Outcome V → Status
  end (gives v n) = Ended (rules.shown v)
  end (faults f n) = Failed f

  -- how it stands with so many steps used: ended at the step count, else spent at its allowance, else going on
  abbrev pub standing : Outcome V → ℕ → Status
  standing o used = cond (used == steps o) (end o) (cond (used == allowance) Spent Going)

  -- the value is left at stack place 0
  abbrev pub Leaves : Outcome V → List V → Type 0
  Leaves (gives v n) places = slice_index_or places 0 (rules.whole (pos 0)) ≡ v
  Leaves (faults f n) places = Unit {0}

  -- The run does what the outcome says. After n granted steps it has used the least of n, its allowance and the step count,
  -- of which the last step is one, a fault's too; and it stands accordingly.
  pub record DoesSo (o : Outcome V) : Type 0 where
    pub used : (n : ℕ) → (reached n).run.used ≡ min n (min allowance (steps o))
    pub stands : (n : ℕ) → (reached n).run.status ≡ standing o (reached n).run.used
    pub leaves : (n : ℕ) → (reached n).run.used ≡ steps o → Leaves o (reached n).stack

-- For every text and its recipe, whatever readings are held, whatever the memory has behind the image, and whatever the stack
-- and the return table have in them: the run of the recipe's image does what the recipe means.
abbrev pub Runs : {V : Type 0} → Rules V → Type 0
Runs {V} rules =
    (held : ℕ → Reading) (text : List ℕ) (r : Recipe) → RecipeOf text r →
    (behind : List ℕ) (stack : List V) (table : List Return) (allowance : ℕ) → 4128 ≤ length stack → 128 ≤ length table → 0 < allowance →
    DoesSo rules held (length (image r)) (image r ++ behind) stack table allowance (meaning rules held r)

-- Grants one after another.
module _ {V : Type 0} (rules : Rules V) (held : ℕ → Reading) (count : ℕ) (memory : List ℕ) where
  abbrev pub granted_all : List ℕ → Scene V → Scene V
  granted_all [] x = x
  granted_all (n ∷ grants) x = granted_all grants (granted frame_room rules held count memory n x)

-- However steps are split into grants, they lead to the same.
abbrev pub SplitAlike : {V : Type 0} → Rules V → Type 0
SplitAlike {V} rules =
    (held : ℕ → Reading) (count : ℕ) (memory : List ℕ) (grants : List ℕ) (x : Scene V) →
    granted_all rules held count memory grants x ≡ granted frame_room rules held count memory (sum grants) x
