-- The answers of a call, by the stage that gives them.
use Rattle.std.proofs.Common.{◌≡◌, ℕ, ◌<◌, ◌≤◌, true, false, cond, List, length, replicate, Err, Result, sym, refl, ap, ◌∙◌, arith}
use Rattle.std.proofs.lemmas.Bool.{ne_eqb}
use Rattle.recipe.specs.declared.cause.Refusal.{Refusal}
use Rattle.recipe.specs.declared.cause.Cause.{Cause}
use Rattle.recipe.specs.Tokens.{all_tokens}
use Rattle.recipe.specs.Compiled.{Answer, accepted, refused, compiled, compile_answer, image_after, untouched, table_after, answered, said, Compiles}
use Rattle.recipe.proofs.Stages.{late_cause}
use Rattle.recipe.proofs.Means.{roomy}
use Rattle.lexer.specs.Lexed.{tokens_from, then_from, Proper}
use Rattle.lexer.specs.declared.Kind.{Kind}
use Rattle.lexer.specs.declared.Kind.TheVariants.{Number, Name, Operator, Word, Bad, End}
use Rattle.compiler.specs.Stages.{refusal, Translates}

-- A token that is one, and the tokens after it.
pub on_from : (text : List ℕ) (k : Kind) (p e : ℕ) → ((x : Cause) → k ≡ Bad x → ⊥) → (k ≡ End → ⊥) → all_tokens (then_from text k p e) ≡ all_tokens (tokens_from text e)
on_from text (Number n) p e b z = refl
on_from text Name p e b z = refl
on_from text (Operator o) p e b z = refl
on_from text (Word w) p e b z = refl
on_from text (Bad c) p e b z = absurd (b c refl)
on_from text End p e b z = absurd (z refl)

pub takes_bytes : (k : Kind) (p e len : ℕ) → (k ≡ End → ⊥) → Proper k p e len → p < e
takes_bytes (Number n) p e len z h = h
takes_bytes Name p e len z h = h
takes_bytes (Operator o) p e len z h = h
takes_bytes (Word w) p e len z h = h
takes_bytes (Bad c) p e len z h = h
takes_bytes End p e len z h = absurd (z refl)

-- What an answer makes of the memory and the table.
answer_compiles : (text m table : List ℕ) {m' table' : List ℕ} {r : Result ℕ Refusal} (a : Answer) → compile_answer text (length m) (length table) ≡ a →
    said r ≡ answered a → m' ≡ image_after a m → table' ≡ table_after a table → Compiles text m table r m' table'
answer_compiles text m table a e f g h = record {
  answers = f ∙ ap answered (sym e);
  writes = g ∙ ap (λ b. image_after b m) (sym e);
  clears = h ∙ ap (λ b. table_after b table) (sym e);
}

-- The first two refusals leave the table.
pub refused_early : (text m table : List ℕ) {r : Result ℕ Refusal} (e : Refusal) → r ≡ Err e → compile_answer text (length m) (length table) ≡ refusal e →
    untouched (refusal e) ≡ true → Compiles text m table r m table
refused_early text m table e h k u = answer_compiles text m table (refusal e) k (ap said h) refl (sym (ap (λ b. cond b table (replicate (length table) 0)) u))

-- The others clear it.
touched : (text : List ℕ) (a : Answer) → compiled text ≡ a → untouched a ≡ false
touched text (accepted ws) e = refl
touched text (refused c p) e = let h = late_cause text c p e in rw (ne_eqb c 1 (λ f. omega arith), ne_eqb c 15 (λ f. omega arith)) refl

pub translated : (text m table : List ℕ) {m' table' : List ℕ} {r : Result ℕ Refusal} → (length text ≤ 60000) × (4096 ≤ length m) × (2000 ≤ length table) →
    Translates text m r m' → table' ≡ replicate (length table) 0 → Compiles text m table r m' table'
translated text m table room w z =
    answer_compiles text m table (compiled text) (roomy text (length m) (length table) room.0 room.1 room.2) w.0 w.1
    (z ∙ sym (ap (λ b. cond b table (replicate (length table) 0)) (touched text (compiled text) refl)))
