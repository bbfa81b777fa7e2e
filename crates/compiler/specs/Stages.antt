-- What each stage of a compilation decides.
use Rattle.std.specs.Prelude.{◌≡◌, ℕ, ◌+◌, ◌≤◌, true, List, length, None, Result, MatchResult}
use Rattle.recipe.specs.declared.cause.Refusal.{Refusal}
use Rattle.recipe.specs.Causes.{cause_number}
use Rattle.recipe.specs.Tokens.{fine, wrong, tokens, all_tokens}
use Rattle.recipe.specs.Grammar.{Expr, Several, Declaration, recipe}
use Rattle.recipe.specs.Machine.{start}
use Rattle.recipe.specs.Limits.{reading}
use Rattle.recipe.specs.Names.{all, verdict_of}
use Rattle.recipe.specs.Image.{past, past_all, entries, image}
use Rattle.recipe.specs.Compiled.{Answer, accepted, refused, then, understood, compiled, compile_answer, image_after, untouched, answered, said}
use Rattle.pass.specs.declared.passes.Pass.{Pass}
use Rattle.pass.specs.Known.{entered}
use Rattle.pass.specs.Reads.{frame_verdict, functions_of}

-- the answer that a refusal is
abbrev pub refusal : Refusal → Answer
refusal e = refused (cause_number e.cause) e.place

-- Before the text is read: there is room, or the answer is this refusal, whatever the text of that length.
abbrev pub Admits : ℕ → ℕ → ℕ → Result Unit Refusal → Type 0
Admits text_length image_length table_length r =
    MatchResult r (λ _. (text_length ≤ 60000) × (4096 ≤ image_length) × (2000 ≤ table_length))
    (λ e. (untouched (refusal e) ≡ true) × ((text : List ℕ) → length text ≡ text_length → compile_answer text image_length table_length ≡ refusal e))

abbrev pub Checks : List ℕ → Result Unit Refusal → Type 0
Checks text r =
    MatchResult r (λ _. all_tokens (tokens text) ≡ fine tt) (λ e. all_tokens (tokens text) ≡ wrong (cause_number e.cause) e.place)

-- Nothing is wrong with the names and the frames; or this is the answer, whatever the answer would be otherwise.
abbrev pub Judges : Pass → Result Unit Refusal → Type 0
Judges p r =
    MatchResult r (λ _. (p.fault ≡ None) × (p.over ≡ None))
    (λ e. (otherwise : Answer) → then (verdict_of p.fault) (λ _. then (frame_verdict p.over) (λ _. otherwise)) ≡ refusal e)

-- A recipe that keeps all rules, with its functions where their words stand after those of the main expression.
pub record Planned (text : List ℕ) (p : Pass) : Type 0 where
  pub declared : Several Declaration
  pub at_in : ℕ
  pub main : Expr
  pub reads : reading (length text) start 0 (tokens text) ≡ fine (recipe declared at_in main)
  pub answer : understood text ≡ accepted (image (recipe declared at_in main))
  pub main_end : p.past_main.index ≡ past 1 main + 1
  pub functions_end : p.past_functions ≡ past_all (past 1 main + 1) (all declared)
  pub sized : p.past_functions ≡ length (image (recipe declared at_in main))
  pub few : p.count ≤ 32
  pub enters : entered (functions_of p) ≡ entries (past 1 main + 1) (all declared)

abbrev pub Plans : List ℕ → Result Pass Refusal → Type 0
Plans text r = MatchResult r (λ p. Planned text p) (λ e. understood text ≡ refusal e)

-- The words of an accepted text in the image; nothing is refused.
abbrev pub Written : List ℕ → List ℕ → Result Unit Refusal → List ℕ → Type 0
Written text m r m' = MatchResult r (λ _. m' ≡ image_after (understood text) m) (λ e. ⊥)

-- The stages over a text, where there is room.
abbrev pub Translates : List ℕ → List ℕ → Result ℕ Refusal → List ℕ → Type 0
Translates text m r m' = (said r ≡ answered (compiled text)) × (m' ≡ image_after (compiled text) m)
