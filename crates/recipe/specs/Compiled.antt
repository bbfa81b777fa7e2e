-- What compile answers, and what it leaves.
use Rattle.std.specs.Prelude.{◌≡◌, ℕ, Bool, false, cond, ◌||◌, List, ◌++◌, length, drop, replicate, Ok, Err, Result, ◌==◌, nat_lt}
use Rattle.recipe.specs.declared.cause.Refusal.{Refusal}
use Rattle.recipe.specs.Causes.{cause_number, TextTooLong, NoRoom}
use Rattle.recipe.specs.Tokens.{tokens, Verdict, fine, wrong, all_tokens}
use Rattle.recipe.specs.Grammar.{Recipe}
use Rattle.recipe.specs.Machine.{start}
use Rattle.recipe.specs.Limits.{reading}
use Rattle.recipe.specs.Names.{recipe_faults, first_fault}
use Rattle.recipe.specs.Frames.{recipe_frames}
use Rattle.recipe.specs.Image.{image}

-- `accepted words`, or `refused cause place` with the number of the cause.
pub data Answer : Type 0 where
  accepted : List ℕ → Answer
  refused : ℕ → ℕ → Answer

-- One stage, and what follows it if nothing is wrong.
abbrev pub then : {A : Type 0} → Verdict A → (A → Answer) → Answer
then (fine a) next = next a
then (wrong cause place) next = refused cause place

-- The stages over a recipe's tree: names, argument counts and channels; frames.
abbrev pub laid_out : Recipe → Answer
laid_out r = then (first_fault (recipe_faults r)) (λ _. then (recipe_frames r) (λ _. accepted (image r)))

-- The stages over a text's tokens: the grammar with its limits, and then the tree.
abbrev pub understood : List ℕ → Answer
understood text = then (reading (length text) start 0 (tokens text)) laid_out

-- The same after the stage that refuses what is no token.
abbrev pub compiled : List ℕ → Answer
compiled text = then (all_tokens (tokens text)) (λ _. understood text)

-- The same with the stages before them: a text over 60,000 bytes, at the place 60,000; memory that is too short, at the place 0.
abbrev pub compile_answer : List ℕ → ℕ → ℕ → Answer
compile_answer text image_length table_length =
    cond (nat_lt 60000 (length text)) (refused (cause_number TextTooLong) 60000)
    (cond (nat_lt image_length 4096 || nat_lt table_length 2000) (refused (cause_number NoRoom) 0) (compiled text))

-- The image memory: an accepted text's words, at most 4,096, and past them what stood there; a refusal leaves it all.
abbrev pub image_after : Answer → List ℕ → List ℕ
image_after (accepted ws) image = ws ++ drop (length ws) image
image_after (refused cause place) image = image

-- The work table, the whole of it: left as it was by the first two refusals, and zero by every other answer.
abbrev pub untouched : Answer → Bool
untouched (accepted ws) = false
untouched (refused cause place) = cause == cause_number TextTooLong || cause == cause_number NoRoom

abbrev pub table_after : Answer → List ℕ → List ℕ
table_after answer table = cond (untouched answer) table (replicate (length table) 0)

-- The answer in a call's result: the number of words, or the cause and the place.
abbrev pub answered : Answer → Verdict ℕ
answered (accepted ws) = fine (length ws)
answered (refused cause place) = wrong cause place

abbrev pub said : Result ℕ Refusal → Verdict ℕ
said (Ok n) = fine n
said (Err e) = wrong (cause_number e.cause) e.place

-- A call over a text with an image memory and a work table, which leaves image' and table'.
pub record Compiles (text image table : List ℕ) (r : Result ℕ Refusal) (image' table' : List ℕ) : Type 0 where
  pub answers : said r ≡ answered (compile_answer text (length image) (length table))
  pub writes : image' ≡ image_after (compile_answer text (length image) (length table)) image
  pub clears : table' ≡ table_after (compile_answer text (length image) (length table)) table
