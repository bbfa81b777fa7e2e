-- What one output and the next come to together.
use Rattle.std.proofs.Common.{◌≡◌, ℕ, ◌+◌, Bool, true, false, not, max, List, [], ◌∷◌, ◌++◌, set, Option, sym, refl, ap, ◌∙◌, subst, arith}
use Rattle.recipe.specs.declared.Op.{Op}
use Rattle.recipe.specs.Tokens.{Ident, Literal}
use Rattle.recipe.specs.Grammar.{Expr, num, var, op, let_in, ifp, call, weigh, group, Arguments, one, more}
use Rattle.std.specs.Bool.{then_some}
use Rattle.std.specs.Option.{option_to_list}
use Rattle.recipe.specs.Names.{earliest, count, fault_unless}
use Rattle.recipe.specs.Image.{past, pasts, words, arguments, placed, find, NUM, VAR, WEIGH, OP, OUT, UNLESS, GO, CALL}
use Rattle.recipe.specs.Frames.{need, needs}
use Rattle.pass.specs.declared.output.Output.{Output}
use Rattle.recipe.specs.Names.{faults, faults_of, arity_of, call_faults}
use Rattle.recipe.specs.declared.cause.Refusal.{Refusal}
use Rattle.pass.specs.Known.{Env, spelled}
use Rattle.pass.specs.Outputs.{emitted, pushed, faulted, MadeOf, Made, MadeAll}
use Rattle.pass.proofs.Faults.{earliest-++, earliest_swap}
use Rattle.pass.proofs.Lookups.{deeper}
use Rattle.recipe.proofs.Outputs.{words_past, arguments_past, placed-++}
use Rattle.pass.proofs.Words.{placed_two, placed_choice}

pub at_of : {o o' : Output} → o ≡ o' → o.at ≡ o'.at
at_of e = ap (λ (x : Output). x.at) e

pub peak_of : {o o' : Output} → o ≡ o' → o.peak ≡ o'.peak
peak_of e = ap (λ (x : Output). x.peak) e

pub fault_of : {o o' : Output} → o ≡ o' → o.fault ≡ o'.fault
fault_of e = ap (λ (x : Output). x.fault) e

-- a fault unless all is well
pub noted_unless : (b : Bool) (r : Refusal) → option_to_list (then_some (not b) r) ≡ fault_unless b r.place r.cause
noted_unless true r = refl
noted_unless false r = refl

peak_joined : (p h a b p₁ p₂ : ℕ) → p₁ ≡ max p (h + a) → p₂ ≡ max p₁ ((h + 1) + b) → p₂ ≡ max p (h + max a (1 + b))
peak_joined p h a b p₁ p₂ e f = omega arith

peak_chosen : (p h a b c p₁ p₂ p₃ : ℕ) → p₁ ≡ max p (h + a) → p₂ ≡ max p₁ (h + b) → p₃ ≡ max p₂ (h + c) → p₃ ≡ max p (h + max a (max b c))
peak_chosen p h a b c p₁ p₂ p₃ e f g = omega arith

peak_more : (p h a n b p₁ p₂ : ℕ) → p₁ ≡ max p (h + a) → p₂ ≡ max p₁ ((h + n) + b) → p₂ ≡ max p (h + max a (n + b))
peak_more p h a n b p₁ p₂ e f = omega arith

-- other names for the same
pub from : {Tree : Type 0} (Makes : MadeOf Tree) {v : Env} {h : ℕ} {o o₀ o₁ : Output} {m m₁ : List ℕ} {e : Tree} → o₀ ≡ o → Makes v h o₀ m e o₁ m₁ → Makes v h o m e o₁ m₁
from Makes {v = v} {h = h} {o₁ = o₁} {m = m} {m₁ = m₁} {e = e} a r = subst (λ (x : Output). Makes v h x m e o₁ m₁) a r

pub to : {Tree : Type 0} (Makes : MadeOf Tree) {v : Env} {h : ℕ} {o o₁ o₂ : Output} {m m₁ : List ℕ} {e : Tree} → o₂ ≡ o₁ → Makes v h o m e o₁ m₁ → Makes v h o m e o₂ m₁
to Makes {v = v} {h = h} {o = o} {m = m} {m₁ = m₁} {e = e} a r = subst (λ (x : Output). Makes v h o m e x m₁) (sym a) r

pub knowing : {v w : Env} {h : ℕ} {o o₁ : Output} {m m₁ : List ℕ} {e : Expr} → v ≡ w → Made v h o m e o₁ m₁ → Made w h o m e o₁ m₁
knowing {h = h} {o = o} {o₁ = o₁} {m = m} {m₁ = m₁} {e = e} a r = subst (λ (x : Env). Made x h o m e o₁ m₁) a r

-- leaves
leaf : (e : Expr) (w : ℕ) {v : Env} {h : ℕ} {o o₁ : Output} {m m₁ : List ℕ} → ((i : ℕ) → past i e ≡ i + 1) → need e ≡ 1 → words v.entries v.in_scope h o.at e ≡ w ∷ [] →
    o₁ ≡ pushed h (faulted o (faults v.signatures (spelled v.in_scope) e)) → m₁ ≡ set m o.at w → Made v h o m e o₁ m₁
leaf e w {h = h} {o = o} {m = m} index holds word b c = record {
  index = at_of b ∙ sym (index o.at);
  peak = peak_of b ∙ ap (λ n. max o.peak (h + n)) (sym holds);
  fault = fault_of b;
  written = c ∙ ap (λ (ws : List ℕ). placed m o.at ws) (sym word);
}

pub made_num : {v : Env} {h : ℕ} {o o₁ : Output} {m m₁ : List ℕ} (n : Literal) → o₁ ≡ pushed h o → m₁ ≡ set m o.at (NUM n.value) → Made v h o m (num n) o₁ m₁
made_num n = leaf (num n) (NUM n.value) (λ i. refl) refl refl

pub made_var : {v : Env} {h : ℕ} {o o₁ : Output} {m m₁ : List ℕ} (x : Ident) →
    o₁ ≡ pushed h (faulted o (faults v.signatures (spelled v.in_scope) (var x))) → m₁ ≡ set m o.at (VAR (find v.in_scope x.name)) → Made v h o m (var x) o₁ m₁
made_var {v = v} x = leaf (var x) (VAR (find v.in_scope x.name)) (λ i. refl) refl refl

pub made_weigh : {v : Env} {h : ℕ} {o o₁ : Output} {m m₁ : List ℕ} (n : Literal) →
    o₁ ≡ pushed h (faulted o (faults v.signatures (spelled v.in_scope) (weigh n))) → m₁ ≡ set m o.at (WEIGH n.value) → Made v h o m (weigh n) o₁ m₁
made_weigh n = leaf (weigh n) (WEIGH n.value) (λ i. refl) refl refl

-- trees of parts
joined_faults : (p : Option Refusal) {q r s : Option Refusal} (fs gs : List Refusal) → q ≡ earliest p fs → r ≡ q → s ≡ earliest r gs → s ≡ earliest p (fs ++ gs)
joined_faults p fs gs a b c = c ∙ (ap (λ (x : Option Refusal). earliest x gs) (b ∙ a) ∙ sym (earliest-++ p fs gs))

pub made_group : {v : Env} {h : ℕ} {o o₁ : Output} {m m₁ : List ℕ} {e : Expr} → Made v h o m e o₁ m₁ → Made v h o m (group e) o₁ m₁
made_group r = record { index = r.index; peak = r.peak; fault = r.fault; written = r.written }

pub made_op : {v : Env} {h : ℕ} {o o₁ o₃ o₄ : Output} {m m₁ m₂ m₃ : List ℕ} {a b : Expr} (x : Op) → Made v h o m a o₁ m₁ → Made v (h + 1) o₁ m₁ b o₃ m₂ →
    o₄ ≡ emitted o₃ → m₃ ≡ set m₂ o₃.at (OP x) → Made v h o m (op x a b) o₄ m₃
made_op {v = v} {h = h} {o = o} {m = m} {m₁ = m₁} {m₂ = m₂} {a = a} {b = b} x p n f w = record {
  index = at_of f ∙ ap (λ i. i + 1) (n.index ∙ ap (λ i. past i b) p.index);
  peak = peak_of f ∙ peak_joined o.peak h (need a) (need b) _ _ p.peak n.peak;
  fault = fault_of f ∙ joined_faults o.fault (faults v.signatures (spelled v.in_scope) a) (faults v.signatures (spelled v.in_scope) b) p.fault refl n.fault;
  written = placed_two m o.at (words v.entries v.in_scope h o.at a) (words v.entries v.in_scope (h + 1) (past o.at a) b) (OP x)
      (words_past v.entries v.in_scope h o.at a) (words_past v.entries v.in_scope (h + 1) (past o.at a) b) p.written
      (n.written ∙ ap (λ i. placed m₁ i (words v.entries v.in_scope (h + 1) i b)) p.index) (w ∙ ap (λ i. set m₂ i (OP x)) (n.index ∙ ap (λ i. past i b) p.index));
}

pub made_let : {v : Env} {h : ℕ} {o o₁ o₃ o₄ : Output} {m m₁ m₂ m₃ : List ℕ} {a b : Expr} (x : Ident) → Made v h o m a o₁ m₁ →
    Made (deeper v (record { name = x.name; to = h })) (h + 1) o₁ m₁ b o₃ m₂ → o₄ ≡ emitted o₃ → m₃ ≡ set m₂ o₃.at OUT → Made v h o m (let_in x a b) o₄ m₃
made_let {v = v} {h = h} {o = o} {m = m} {m₁ = m₁} {m₂ = m₂} {a = a} {b = b} x p n f w =
    let Γ = record { name = x.name; to = h } ∷ v.in_scope in
    record {
      index = at_of f ∙ ap (λ i. i + 1) (n.index ∙ ap (λ i. past i b) p.index);
      peak = peak_of f ∙ peak_joined o.peak h (need a) (need b) _ _ p.peak n.peak;
      fault = fault_of f ∙ joined_faults o.fault (faults v.signatures (spelled v.in_scope) a) (faults v.signatures (x.name ∷ spelled v.in_scope) b) p.fault refl n.fault;
      written = placed_two m o.at (words v.entries v.in_scope h o.at a) (words v.entries Γ (h + 1) (past o.at a) b) OUT
          (words_past v.entries v.in_scope h o.at a) (words_past v.entries Γ (h + 1) (past o.at a) b) p.written
          (n.written ∙ ap (λ i. placed m₁ i (words v.entries Γ (h + 1) i b)) p.index) (w ∙ ap (λ i. set m₂ i OUT) (n.index ∙ ap (λ i. past i b) p.index));
    }

pub made_ifp : {v : Env} {h : ℕ} {o o₁ o₂ o₃ o₄ o₅ p₁ p₃ : Output} {m m₁ m₂ m₃ m₄ m₅ : List ℕ} {c a b : Expr} →
    Made v h o m c o₁ m₁ → o₂ ≡ emitted o₁ → Made v h o₂ m₁ a o₃ m₂ → o₄ ≡ emitted o₃ → m₃ ≡ set m₂ p₁.at (UNLESS o₄.at) → p₁ ≡ o₁ → Made v h o₄ m₃ b o₅ m₄ →
    m₅ ≡ set m₄ p₃.at (GO o₅.at) → p₃ ≡ o₃ → Made v h o m (ifp c a b) o₅ m₅
made_ifp {v = v} {h = h} {o = o} {o₂ = o₂} {o₄ = o₄} {o₅ = o₅} {p₁ = p₁} {p₃ = p₃} {m = m} {m₁ = m₁} {m₂ = m₂} {m₃ = m₃} {m₄ = m₄} {c = c} {a = a} {b = b} l e p f u u₁ n g g₁ =
    let i = o.at in
    let first = past i c + 1 in
    let second = past first a + 1 in
    let at₂ = at_of e ∙ ap (λ j. j + 1) l.index in
    let at₃ = p.index ∙ ap (λ j. past j a) at₂ in
    let at₄ = at_of f ∙ ap (λ j. j + 1) at₃ in
    let at₅ = n.index ∙ ap (λ j. past j b) at₄ in
    record {
      index = at₅;
      peak = peak_chosen o.peak h (need c) (need a) (need b) _ _ _ l.peak
          (p.peak ∙ ap (λ k. max k (h + need a)) (peak_of e)) (n.peak ∙ ap (λ k. max k (h + need b)) (peak_of f));
      fault = joined_faults o.fault (faults v.signatures (spelled v.in_scope) c) (faults v.signatures (spelled v.in_scope) a ++ faults v.signatures (spelled v.in_scope) b) l.fault (fault_of e)
          (joined_faults o₂.fault (faults v.signatures (spelled v.in_scope) a) (faults v.signatures (spelled v.in_scope) b) p.fault (fault_of f) n.fault);
      written = placed_choice m i (words v.entries v.in_scope h i c) (words v.entries v.in_scope h first a) (words v.entries v.in_scope h second b) (UNLESS second) (GO (past second b))
          (words_past v.entries v.in_scope h i c) (words_past v.entries v.in_scope h first a) l.written
          (p.written ∙ ap (λ j. placed m₁ j (words v.entries v.in_scope h j a)) at₂)
          (u ∙ (ap (λ j. set m₂ j (UNLESS o₄.at)) (at_of u₁ ∙ l.index) ∙ ap (λ j. set m₂ (past i c) (UNLESS j)) at₄))
          (n.written ∙ ap (λ j. placed m₃ j (words v.entries v.in_scope h j b)) at₄)
          (g ∙ (ap (λ j. set m₄ j (GO o₅.at)) (at_of g₁ ∙ at₃) ∙ ap (λ j. set m₄ (past first a) (GO j)) at₅));
    }

-- arguments
pub made_one : {v : Env} {h : ℕ} {o o₁ : Output} {m m₁ : List ℕ} {e : Expr} → Made v h o m e o₁ m₁ → MadeAll v h o m (one e) o₁ m₁
made_one r = record { index = r.index; peak = r.peak; fault = r.fault; written = r.written }

pub made_more : {v : Env} {h n : ℕ} {o o₁ o₃ : Output} {m m₁ m₂ : List ℕ} {es : Arguments} {e : Expr} → MadeAll v h o m es o₁ m₁ → n ≡ count es →
    Made v (h + n) o₁ m₁ e o₃ m₂ → MadeAll v h o m (more es e) o₃ m₂
made_more {v = v} {h = h} {n = k} {o = o} {o₁ = o₁} {m = m} {m₁ = m₁} {es = es} {e = e} p c n =
    let i = o.at in
    record {
      index = n.index ∙ ap (λ j. past j e) p.index;
      peak = peak_more o.peak h (needs es) (count es) (need e) _ _ p.peak (n.peak ∙ ap (λ j. max o₁.peak ((h + j) + need e)) c);
      fault = joined_faults o.fault (faults_of v.signatures (spelled v.in_scope) es) (faults v.signatures (spelled v.in_scope) e) p.fault refl n.fault;
      written = n.written ∙ (ap (λ j. placed m₁ j (words v.entries v.in_scope (h + k) j e)) p.index
          ∙ (ap (λ j. placed m₁ (pasts i es) (words v.entries v.in_scope (h + j) (pasts i es) e)) c
          ∙ (ap (λ (x : List ℕ). placed x (pasts i es) (words v.entries v.in_scope (h + count es) (pasts i es) e)) p.written
          ∙ sym (placed-++ m i (pasts i es) (arguments v.entries v.in_scope h i es) (words v.entries v.in_scope (h + count es) (pasts i es) e) (arguments_past v.entries v.in_scope h i es)))));
    }

-- a call's own fault is met after those of its arguments
pub made_call : {v : Env} {h n : ℕ} {o o₂ o₃ : Output} {m m₁ m₂ : List ℕ} {es : Arguments} (f : Ident) → MadeAll v h o m es o₂ m₁ → n ≡ count es →
    o₃ ≡ emitted (faulted o₂ (call_faults (arity_of v.signatures f.name) n f.place)) → m₂ ≡ set m₁ o₂.at (CALL n (find v.entries f.name)) → Made v h o m (call f es) o₃ m₂
made_call {v = v} {h = h} {n = n} {o = o} {o₂ = o₂} {m = m} {m₁ = m₁} {es = es} f p c b w =
    let own = call_faults (arity_of v.signatures f.name) (count es) f.place in
    let theirs = faults_of v.signatures (spelled v.in_scope) es in
    let i = o.at in
    let their-words = arguments v.entries v.in_scope h i es in
    let own-word = CALL (count es) (find v.entries f.name) in
    record {
      index = at_of b ∙ ap (λ j. j + 1) p.index;
      peak = peak_of b ∙ p.peak;
      fault = fault_of b ∙ (ap (λ k. earliest o₂.fault (call_faults (arity_of v.signatures f.name) k f.place)) c
          ∙ (ap (λ (x : Option Refusal). earliest x own) p.fault ∙ (earliest_swap o.fault theirs own ∙ sym (earliest-++ o.fault own theirs))));
      written = w ∙ (ap (λ j. set m₁ j (CALL n (find v.entries f.name))) p.index ∙ (ap (λ k. set m₁ (pasts i es) (CALL k (find v.entries f.name))) c
          ∙ (ap (λ (x : List ℕ). set x (pasts i es) own-word) p.written ∙ sym (placed-++ m i (pasts i es) their-words (own-word ∷ []) (arguments_past v.entries v.in_scope h i es)))));
    }
