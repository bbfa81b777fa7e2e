-- What a text means.
use Rattle.std.specs.Prelude.{ℕ, List, length}
use Rattle.arithmetic.specs.Rules.{Rules}
use Rattle.reading.specs.Answers.{Reading}
use Rattle.recipe.specs.Causes.{Verdict, fine, wrong}
use Rattle.recipe.specs.Tokens.{tokens, all_tokens}
use Rattle.recipe.specs.Grammar.{Recipe}
use Rattle.recipe.specs.Machine.{start}
use Rattle.recipe.specs.Limits.{reading}
use Rattle.recipe.specs.Names.{recipe_faults, first_fault}
use Rattle.recipe.specs.Frames.{recipe_frames}
use Rattle.meaning.specs.Meaning.{Outcome, meaning}

-- One stage, and what follows it if nothing is wrong.
abbrev pub next_stage : {A B : Type 0} → Verdict A → (A → Verdict B) → Verdict B
next_stage (fine a) next = next a
next_stage (wrong cause place) next = wrong cause place

-- The recipe of a text, by the stages of its acceptance: its tokens; the grammar with its limits; names, argument counts and channels; frames.
abbrev pub recipe_in : List ℕ → Verdict Recipe
recipe_in text =
    let ts = tokens text in
    next_stage (all_tokens ts) (λ _.
    next_stage (reading (length text) start 0 ts) (λ r.
    next_stage (first_fault (recipe_faults r)) (λ _.
    next_stage (recipe_frames r) (λ _. fine r))))

-- Its meaning, or why it has none and where.
abbrev pub text_meaning : {V : Type 0} → Rules V → (ℕ → Reading) → List ℕ → Verdict (Outcome V)
text_meaning rules held text = next_stage (recipe_in text) (λ r. fine (meaning rules held r))
