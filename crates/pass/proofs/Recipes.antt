-- Declarations one after another.
use Rattle.std.proofs.Common.{◌≡◌, ℕ, ◌+◌, cond, ◌⊎◌, List, [], ◌∷◌, ◌++◌, length, set, None, Option, sym, refl, ap, ◌∙◌, subst, inl, inr, append_assoc, append-nil, arith}
use Rattle.recipe.specs.Tokens.{Ident, tokens, TheWord, wrong}
use Rattle.recipe.specs.declared.Word.TheVariants.{Let}
use Rattle.recipe.specs.declared.cause.Refusal.{Refusal}
use Rattle.recipe.specs.declared.cause.Cause.TheVariants.{DeclaredTwice}
use Rattle.recipe.specs.Grammar.{Expr, Several, Declaration, declare}
use Rattle.recipe.specs.Causes.{cause_number}
use Rattle.recipe.specs.Machine.{start}
use Rattle.recipe.specs.Limits.{reading}
use Rattle.recipe.specs.Names.{earliest, Signature, all, twice, names_of, declared_names, faults, body_faults}
use Rattle.recipe.specs.Frames.{need}
use Rattle.recipe.specs.Image.{Bound, past, words, slots, placed, entries, bodies, past_all, FN, BACK}
use Rattle.pass.specs.declared.output.Output.{Output}
use Rattle.pass.specs.declared.cursor.Spot.{Spot}
use Rattle.pass.specs.declared.names.Function.{Function}
use Rattle.pass.specs.declared.passes.Heads.{Heads}
use Rattle.pass.specs.Known.{Env, ident, spelled, signed, entered}
use Rattle.pass.specs.Outputs.{emitted, again, over_with, Made, MadeHead, MadeHeads}
use Rattle.pass.specs.Reads.{ahead, after_declarations, Past, BadHead, Unlimited, PastName, Tabled, Added, DeclarationsMade}
use Rattle.std.proofs.lemmas.List.{length_push}
use Rattle.pass.proofs.Faults.{earliest-++, earliest_swap}
use Rattle.recipe.proofs.Outputs.{words_past, bodies_past, placed-++}
use Rattle.pass.proofs.Makes.{at_of, peak_of, fault_of, knowing}
use Rattle.pass.proofs.Heads.{all_more, among_names, twice_more}
use Rattle.pass.proofs.Steps.{declarations_first, declarations_first_bad, declarations_more, no_first}
use Rattle.pass.proofs.Tables.{past_all-++, over_all-++, signs_more, enters_more}

pub bodies-++ : (Φ : List Bound) (i : ℕ) (ds es : List Declaration) → bodies Φ i (ds ++ es) ≡ bodies Φ i ds ++ bodies Φ (past_all i ds) es
bodies-++ Φ i [] es = refl
bodies-++ Φ i (declare f xs e ∷ ds) es =
    let body = words Φ (slots [] 0 (all xs)) (length (all xs)) (i + 1) e in
    let j = past (i + 1) e + 1 in
    ap (λ ws. FN (length (all xs)) ∷ (body ++ (BACK ∷ ws))) (bodies-++ Φ j ds es)
    ∙ ap (λ ws. FN (length (all xs)) ∷ ws) (sym (append_assoc body (BACK ∷ bodies Φ j ds) (bodies Φ (past_all j ds) es)))

pub body_faults-++ : (F : List Signature) (ds es : List Declaration) → body_faults F (ds ++ es) ≡ body_faults F ds ++ body_faults F es
body_faults-++ F [] es = refl
body_faults-++ F (declare f xs e ∷ ds) es =
    let own = faults F (names_of (all xs)) e in
    ap (λ fs. twice [] (all xs) ++ (own ++ fs)) (body_faults-++ F ds es)
    ∙ (ap (λ fs. twice [] (all xs) ++ fs) (sym (append_assoc own (body_faults F ds) (body_faults F es))) ∙ sym (append_assoc (twice [] (all xs)) (own ++ body_faults F ds) (body_faults F es)))

last_faults : (F : List Signature) (f : Ident) (xs : Several Ident) (e : Expr) → body_faults F (declare f xs e ∷ []) ≡ twice [] (all xs) ++ faults F (names_of (all xs)) e
last_faults F f xs e = ap (λ fs. twice [] (all xs) ++ fs) (append-nil (faults F (names_of (all xs)) e))

-- one declaration more
names_more : (ds : List Declaration) (f : Ident) (xs : Several Ident) (e : Expr) → declared_names (ds ++ (declare f xs e ∷ [])) ≡ declared_names ds ++ (f ∷ [])
names_more [] f xs e = refl
names_more (declare g ys b ∷ ds) f xs e = ap (λ gs. g ∷ gs) (names_more ds f xs e)

spelled_entries : (i : ℕ) (ds : List Declaration) → spelled (entries i ds) ≡ names_of (declared_names ds)
spelled_entries i [] = refl
spelled_entries i (declare f xs e ∷ ds) = ap (λ ys. f.name ∷ ys) (spelled_entries (past (i + 1) e + 1) ds)

again_entries : (i : ℕ) (ds : List Declaration) (f : Ident) → again (spelled (entries i ds)) f ≡ again (spelled (slots [] 0 (declared_names ds))) f
again_entries i ds f =
    ap (λ ys. again ys f) (spelled_entries i ds)
    ∙ ap (λ t. cond t (record { place = f.place; cause = DeclaredTwice } ∷ []) []) (sym (among_names 0 (declared_names ds) f.name))

twice_names : (i : ℕ) (ds : List Declaration) (f : Ident) (xs : Several Ident) (e : Expr) →
    twice [] (declared_names (ds ++ (declare f xs e ∷ []))) ≡ twice [] (declared_names ds) ++ again (spelled (entries i ds)) f
twice_names i ds f xs e =
    ap (twice []) (names_more ds f xs e) ∙ (twice_more [] 0 (declared_names ds) f ∙ ap (λ fs. twice [] (declared_names ds) ++ fs) (sym (again_entries i ds f)))

-- faults of all names, in whatever order
faults_more : (T A B own : List Refusal) → earliest (earliest (earliest None (T ++ B)) A) own ≡ earliest None ((T ++ A) ++ (B ++ own))
faults_more T A B own =
    ap (λ (x : Option Refusal). earliest (earliest x A) own) (earliest-++ None T B)
    ∙ (ap (λ (x : Option Refusal). earliest x own) (earliest_swap (earliest None T) B A)
    ∙ sym (earliest-++ None (T ++ A) (B ++ own) ∙ (earliest-++ (earliest None (T ++ A)) B own ∙ ap (λ (x : Option Refusal). earliest (earliest x B) own) (earliest-++ None T A))))

heads_more : {F : List Signature} {Φ Ψ : List Bound} {base : ℕ} {o o₁ o₂ : Output} {m m₁ m₂ : List ℕ} {ds : List Declaration} {xs : Several Ident} {e : Expr} (f : Ident) →
    MadeHeads F Φ base m ds o m₁ → o₁.at ≡ o.at → o₁.fault ≡ earliest o.fault (again (spelled Ψ) f) → Ψ ≡ entries base ds → MadeHead F Φ o₁ m₁ xs e o₂ m₂ →
    MadeHeads F Φ base m (ds ++ (declare f xs e ∷ [])) o₂ m₂
heads_more {F = F} {Φ = Φ} {base = base} {o = o} {m = m} {m₁ = m₁} {ds = ds} {xs = xs} {e = e} f g a b k h =
    let d = declare f xs e in
    let i = past_all base ds in
    let T = twice [] (declared_names ds) in
    let A = again (spelled (entries base ds)) f in
    let mine = twice [] (all xs) ++ faults F (names_of (all xs)) e in
    let own = λ (j : ℕ). FN (length (all xs)) ∷ (words Φ (slots [] 0 (all xs)) (length (all xs)) (j + 1) e ++ (BACK ∷ [])) in
    record {
      index = h.index ∙ (ap (λ j. past (j + 1) e + 1) (a ∙ g.index) ∙ sym (past_all-++ base ds (d ∷ [])));
      fault = h.fault ∙ (ap (λ (p : Option Refusal). earliest p mine) (b ∙ (ap (λ (Γ : List Bound). earliest o.fault (again (spelled Γ) f)) k ∙ ap (λ (p : Option Refusal). earliest p A) g.fault))
          ∙ (faults_more T A (body_faults F ds) mine
          ∙ (ap (λ fs. earliest None (fs ++ (body_faults F ds ++ mine))) (sym (twice_names base ds f xs e))
          ∙ ap (λ fs. earliest None (twice [] (declared_names (ds ++ (d ∷ []))) ++ fs)) (ap (λ fs. body_faults F ds ++ fs) (sym (last_faults F f xs e)) ∙ sym (body_faults-++ F ds (d ∷ []))))));
      written = h.written ∙ (ap (λ j. placed m₁ j (own j)) (a ∙ g.index) ∙ (ap (λ (x : List ℕ). placed x i (own i)) g.written
          ∙ (sym (placed-++ m base i (bodies Φ base ds) (own i) (bodies_past Φ base ds)) ∙ ap (placed m base) (sym (bodies-++ Φ base ds (d ∷ []))))));
    }

-- what a declaration more comes to, and the functions found
abbrev Both : List Function → ℕ → List ℕ → List Declaration → Heads → List ℕ → Type 0
Both functions base m ds h m' = MadeHeads (signed functions) (entered functions) base m ds h.next.out m' × Tabled base ds h

both_more : (text : List ℕ) (functions : List Function) (base : ℕ) {m m₁ m₂ : List ℕ} {ds : List Declaration} {h h' : Heads} → Both functions base m ds h m₁ →
    (r : Added text functions h m₁ h' m₂) → Both functions base m (ds ++ (declare (ident text h.next.look) r.headed.read.names r.headed.read.tree ∷ [])) h' m₂
both_more text functions base {m = m} {m₂ = m₂} {ds = ds} {h = h} b r =
    let f = ident text h.next.look in
    let xs = r.headed.read.names in
    let e = r.headed.read.tree in
    let n = r.named in
    let more = ds ++ (declare f xs e ∷ []) in
    let peak : r.declared.next.out.peak ≡ length (all xs) + need e = r.headed.made.peak ∙ omega (arith, n.peak) in (
      subst (λ (s : Spot). MadeHeads (signed functions) (entered functions) base m more s.out m₂) (sym r.more.next) (heads_more f b.0 n.index n.fault b.1.enters r.headed.made),
      record {
        framed = r.more.over ∙ (ap (λ k. over_with h.over k f.place) peak ∙ (ap (λ (o : Option ℕ). over_with o (length (all xs) + need e) f.place) b.1.framed
            ∙ sym (over_all-++ None ds (declare f xs e ∷ []))));
        signs = signs_more xs e ds r.more r.headed.counted b.1.signs;
        enters = enters_more base xs e ds r.more b.0.index b.1.enters;
      },
    )

-- the first declaration, before which there are none
pub recipe_first : (text : List ℕ) (functions : List Function) (base : ℕ) {m m' : List ℕ} {p : ℕ} {begins : Spot} {none h : Heads} → begins.out.at ≡ base → begins.out.fault ≡ None → begins.count ≡ 0 →
    tokens text ≡ ahead text begins → Past text begins (TheWord p Let) none.next → none.next.count ≡ begins.count → none.over ≡ None → none.functions.items ≡ [] →
    Added text functions none m h m' → DeclarationsMade text functions base m h m'
unfolding declarations_first
recipe_first text functions base {m = m} {none = none} {h = h} a f z t o c v k r =
    let b = both_more text functions base {m = m} {ds = []} (
      record { index = at_of o.out ∙ a; fault = fault_of o.out ∙ f; written = refl },
      record { framed = v; signs = ap signed k; enters = ap entered k },
    ) r in
    let d = declarations_first (length text) (ident text none.next.look) (t ∙ o.token) r.named.token (r.named.same ∙ (c ∙ z)) r.headed.read in
    let n : length h.functions.items ≡ 1 = ap length r.more.listed ∙ ap (λ (fs : List Function). length (fs ++ (r.more.function ∷ []))) k in
    let g = subst (λ (s : Spot). reading (length text) start 0 (tokens text) ≡ reading (length text) (after_declarations d.declared) s.count (ahead text s)) (sym r.more.next) d.goes in
    record { read = record { declared = d.declared; sized = sym n; goes = g }; made = b.0; found = b.1 }

pub recipe_first_bad : (text : List ℕ) {p : ℕ} {begins : Spot} {none : Heads} (e : Refusal) → begins.count ≡ 0 → tokens text ≡ ahead text begins → Past text begins (TheWord p Let) none.next →
    none.next.count ≡ begins.count → none.functions.items ≡ [] →
    Unlimited text none.next (length none.functions.items) e ⊎ ((s : Spot) × PastName text none s × BadHead (length text) s.count (ahead text s) (cause_number e.cause) e.place) →
    reading (length text) start 0 (tokens text) ≡ wrong (cause_number e.cause) e.place
recipe_first_bad text {none = none} e z t o c k b =
    elim b [
      | inl u ↦ elim u [
        | inl g ↦ rw (g.0.0, g.0.1) (ap (reading (length text) start 0) (t ∙ o.token) ∙ no_first (length text) (ahead text none.next) g.1)
        | inr g ↦ absurd (omega (arith, g.0, ap length k))
      ]
      | inr g ↦ declarations_first_bad (length text) (ident text none.next.look) (t ∙ o.token) g.1.token (g.1.same ∙ (c ∙ z)) g.2
    ]

pub recipe_more : (text : List ℕ) (functions : List Function) (base : ℕ) {m m₁ m₂ : List ℕ} {h h' : Heads} → DeclarationsMade text functions base m h m₁ →
    Added text functions h m₁ h' m₂ → DeclarationsMade text functions base m h' m₂
unfolding declarations_more
recipe_more text functions base {m = m} {m₂ = m₂} {h = h} {h' = h'} g r =
    let f = ident text h.next.look in
    let b = both_more text functions base (g.made, g.found) r in
    let same = sym (all_more g.read.declared (declare f r.headed.read.names r.headed.read.tree)) in
    let d = declarations_more (length text) f g.read r.named.token r.named.few r.named.same r.headed.read in
    let n : length h'.functions.items ≡ length h.functions.items + 1 = ap length r.more.listed ∙ length_push h.functions.items r.more.function in
    let goes = subst (λ (s : Spot). reading (length text) start 0 (tokens text) ≡ reading (length text) (after_declarations d.declared) s.count (ahead text s)) (sym r.more.next) d.goes in
    record {
      read = record { declared = d.declared; sized = d.sized ∙ sym n; goes = goes };
      made = subst (λ (ds : List Declaration). MadeHeads (signed functions) (entered functions) base m ds h'.next.out m₂) same b.0;
      found = subst (λ (ds : List Declaration). Tabled base ds h') same b.1;
    }

-- the main expression after the declarations
pub main_made : {F : List Signature} {Φ : List Bound} (base : ℕ) (m : List ℕ) (ds : List Declaration) (e : Expr) {v : Env} {o o₁ o₂ : Output} {m₁ m₂ m₃ : List ℕ} {w : ℕ} →
    v ≡ record { signatures = F; entries = Φ; in_scope = [] } → o.at ≡ 1 → o.peak ≡ 0 →
    o.fault ≡ earliest None (twice [] (declared_names ds) ++ body_faults F ds) → m₁ ≡ placed m base (bodies Φ base ds) →
    Made v 0 o m₁ e o₁ m₂ → o₂ ≡ emitted o₁ → m₃ ≡ set m₂ o₁.at w → w ≡ BACK →
    (o₂.at ≡ past 1 e + 1) × (o₂.peak ≡ need e) ×
    (o₂.fault ≡ earliest None (twice [] (declared_names ds) ++ (body_faults F ds ++ faults F [] e))) ×
    (m₃ ≡ placed (placed m base (bodies Φ base ds)) 1 (words Φ [] 0 1 e ++ (BACK ∷ [])))
main_made {F = F} {Φ = Φ} base m ds e {o = o} {o₁ = o₁} {m₁ = m₁} {m₂ = m₂} k a z f g r' b h back =
    let r = knowing k r' in
    let at₁ = r.index ∙ ap (λ i. past i e) a in (
      at_of b ∙ ap (λ i. i + 1) at₁,
      peak_of b ∙ (r.peak ∙ omega (arith, z)),
      fault_of b ∙ (r.fault ∙ (ap (λ (x : Option Refusal). earliest x (faults F [] e)) f ∙ (sym (earliest-++ None (twice [] (declared_names ds) ++ body_faults F ds) (faults F [] e))
          ∙ ap (earliest None) (append_assoc (twice [] (declared_names ds)) (body_faults F ds) (faults F [] e))))),
      h ∙ (ap (set m₂ o₁.at) back ∙ (ap (λ i. set m₂ i BACK) at₁
          ∙ (ap (λ (x : List ℕ). set x (past 1 e) BACK) (r.written ∙ (ap (λ i. placed m₁ i (words Φ [] 0 i e)) a ∙ ap (λ (x : List ℕ). placed x 1 (words Φ [] 0 1 e)) g))
          ∙ sym (placed-++ (placed m base (bodies Φ base ds)) 1 (past 1 e) (words Φ [] 0 1 e) (BACK ∷ []) (words_past Φ [] 0 1 e))))),
    )
