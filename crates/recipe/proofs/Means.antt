-- What the answer of a call comes to in the words of the grammar.
use Rattle.std.proofs.Common.{◌≡◌, ℕ, ◌≤◌, Bool, true, false, cond, ◌||◌, ltb, ◌⊎◌, List, length, Ok, Err, Result, sym, refl, ap, ◌∙◌, inl, inr, arith}
use Rattle.std.proofs.lemmas.Bool.{le-ltb}
use Rattle.recipe.specs.declared.cause.Refusal.{Refusal}
use Rattle.recipe.specs.Causes.{Cause, cause_number, Grammar}
use Rattle.recipe.specs.Tokens.{tokens, Token, fine, wrong}
use Rattle.recipe.specs.Grammar.{Recipe, RefusedAt}
use Rattle.recipe.specs.Image.{image}
use Rattle.recipe.specs.Compiled.{Answer, accepted, refused, compiled, compile_answer, image_after, answered, said, Compiles}
use Rattle.recipe.specs.Theorem.{RecipeOf, first_place, IsLimit, of_nesting, of_functions, of_parameters, of_constructs, Accepts, Meaning}
use Rattle.recipe.proofs.Accepts.{forward, backward, by_its_tree, one_tree, image_fits}
use Rattle.recipe.proofs.Exact.{refused_there}
use Rattle.recipe.proofs.Limited.{limited_there}
use Rattle.recipe.proofs.Stages.{from_reading}

-- With room, the answer is that of the stages over the text.
pub roomy : (text : List ℕ) (i t : ℕ) → length text ≤ 60000 → 4096 ≤ i → 2000 ≤ t → compile_answer text i t ≡ compiled text
roomy text i t a b c = rw (le-ltb 60000 (length text) a, le-ltb i 4096 b, le-ltb t 2000 c) refl

said_ok : (r : Result ℕ Refusal) (n : ℕ) → said r ≡ fine n → r ≡ Ok n
said_ok (Ok m) n e = cc
said_ok (Err d) n e = absurd cc

answered_ok : (a : Answer) (n : ℕ) → fine n ≡ answered a → (ws : List ℕ) × (a ≡ accepted ws) × (n ≡ length ws)
answered_ok (accepted ws) n e = (ws, refl, cc)
answered_ok (refused c p) n e = absurd cc

answered_refused : (a : Answer) (c p : ℕ) → wrong c p ≡ answered a → a ≡ refused c p
answered_refused (accepted ws) c p e = absurd cc
answered_refused (refused d q) c p e = let h : c ≡ d = cc in let k : p ≡ q = cc in cc

accepted_or : (b : Bool) (d q : ℕ) (a : Answer) (ws : List ℕ) → cond b (refused d q) a ≡ accepted ws → a ≡ accepted ws
accepted_or true d q a ws e = absurd cc
accepted_or false d q a ws e = e

by_compiled : (text : List ℕ) (i t : ℕ) (ws : List ℕ) → compile_answer text i t ≡ accepted ws → compiled text ≡ accepted ws
by_compiled text i t ws e =
    accepted_or (ltb i 4096 || ltb t 2000) 15 0 (compiled text) ws (accepted_or (ltb 60000 (length text)) 1 60000 _ ws e)

-- An accepted answer, and the image that it leaves.
accepts_by : {text m table m' table' : List ℕ} {r : Result ℕ Refusal} (t : Recipe) → Compiles text m table r m' table' →
    compile_answer text (length m) (length table) ≡ accepted (image t) → Accepts t r m m'
accepts_by {m = m} {r = r} t k e =
    (said_ok r (length (image t)) (k.answers ∙ ap answered e), k.writes ∙ ap (λ a. image_after a m) e)

accepted_only : {text m table m' table' : List ℕ} {r : Result ℕ Refusal} (n : ℕ) → Compiles text m table r m' table' → r ≡ Ok n →
    (t : Recipe) × RecipeOf text t × Accepts t r m m'
accepted_only {text = text} {m = m} {table = table} n k e =
    let a = answered_ok (compile_answer text (length m) (length table)) n (sym (ap said e) ∙ k.answers) in
    let f = forward text a.0 (by_compiled text (length m) (length table) a.0 a.1) in
    (f.0, f.1, accepts_by f.0 k (a.1 ∙ ap accepted f.2))

refusal : {text m table m' table' : List ℕ} {r : Result ℕ Refusal} (e : Refusal) → Compiles text m table r m' table' → r ≡ Err e →
    compile_answer text (length m) (length table) ≡ refused (cause_number e.cause) e.place
refusal {text = text} {m = m} {table = table} e k h = answered_refused (compile_answer text (length m) (length table)) _ _ (sym (ap said h) ∙ k.answers)

limit_cause : (c : Cause) → IsLimit c → ((5 ≤ cause_number c) × (cause_number c ≤ 8)) ⊎ (cause_number c ≡ 14)
limit_cause c of_nesting = inl (omega arith, omega arith)
limit_cause c of_functions = inl (omega arith, omega arith)
limit_cause c of_parameters = inl (omega arith, omega arith)
limit_cause c of_constructs = inr refl

limit_apart : (c : Cause) → IsLimit c → cause_number c ≡ 5 → ⊥
limit_apart c of_nesting e = omega arith
limit_apart c of_functions e = omega arith
limit_apart c of_parameters e = omega arith
limit_apart c of_constructs e = omega arith

grammar_refused : {text m table m' table' : List ℕ} {r : Result ℕ Refusal} (e : Refusal) → Compiles text m table r m' table' → r ≡ Err e →
    e.cause ≡ Grammar → (rest : List Token) × RefusedAt (tokens text) rest × (e.place ≡ first_place (length text) rest)
grammar_refused {text = text} {m = m} {table = table} e k h g =
    let f = refusal e k h ∙ ap (λ c. refused (cause_number c) e.place) g in
    refused_there (length text) (tokens text) e.place (from_reading text (length m) (length table) 5 e.place f (inl (omega arith, omega arith)))

pub means : {text m table m' table' : List ℕ} {r : Result ℕ Refusal} → Compiles text m table r m' table' → Meaning text (length table) r m m'
means {text = text} {m = m} {table = table} k = record {
  accepts = λ a b c t d. accepts_by t k (roomy text (length m) (length table) a b c ∙ backward text t d);
  accepts_only = λ n e. accepted_only n k e;
  one = one_tree (tokens text);
  by_tree = λ a b c t d w. k.answers ∙ ap answered (roomy text (length m) (length table) a b c ∙ by_its_tree text t d w);
  fits = λ t d. image_fits t d.within;
  refused = λ e h g. grammar_refused e k h g;
  limited = λ e h l. limited_there (length text) (tokens text) (cause_number e.cause) e.place
      (from_reading text (length m) (length table) (cause_number e.cause) e.place (refusal e k h) (limit_cause e.cause l))
      (limit_apart e.cause l);
}
