-- A shelf's map as what is kept.
use Rattle.std.proofs.Common.{◌≡◌, ℕ, ◌≤◌, ◌<◌, ◌+◌, inl, inr, arith, Bool, true, false, cond, not, leb, List, [], ◌∷◌, map, length, is_some, Some, None, Ok, Err, Result, IfOk, OnErr, vec_items, Vec, Option, option_map, sym, refl, ap, ◌∙◌}
use lib.ListN.{length-map}
use Rattle.std.specs.Ordering.{nat_cmp, match_ordering}
use Rattle.std.specs.declared.cmp.Ordering.{Ordering}
use Rattle.std.specs.declared.cmp.Ordering.TheVariants.{Less, Equal, Greater}
use Rattle.std.specs.declared.alloc.Global.{Global}
use Rattle.std.specs.Cmp.Lexicographic.{slice_cmp}
use Rattle.std.specs.Map.{lookup}
use Rattle.std.specs.BTreeMap.{is_at, insert_entry}
use Rattle.std.proofs.lemmas.Bool.{cases_Bool, le-leb, leb-false, leb-true}
use Rattle.recipe.specs.Compiled.{accepted, refused}
use Rattle.shelf.specs.declared.kept.Recipe.{Recipe}
use Rattle.shelf.specs.Kept.{Entry, Kept, answer_at, compile_after, compile_told, entry_of, found, full, put, refuses, too_many, took, with_recipes}

abbrev pub shown : Vec ℕ Global × Recipe → List ℕ × Entry
shown e = (vec_items e.0, entry_of e.1)

-- The entry that a search comes to, at the first name or past it.
either : (b : Bool) (x : Recipe) (o : Option Recipe) (p : Option Entry) → option_map entry_of o ≡ p →
    option_map entry_of (cond b (Some x) o) ≡ cond b (Some (entry_of x)) p
either true x o p e = refl
either false x o p e = e

pub found_shown : (q : List ℕ) (es : List (Vec ℕ Global × Recipe)) →
    option_map entry_of (lookup (is_at (λ k. slice_cmp nat_cmp q (vec_items k))) es) ≡ found q (map shown es)
found_shown q [] = refl
found_shown q (e ∷ es) = either (is_at (slice_cmp nat_cmp q) (vec_items e.0)) e.1 _ _ (found_shown q es)

shown_at : (o : Ordering) (a b c : List (Vec ℕ Global × Recipe)) →
    map shown (match_ordering o a b c) ≡ match_ordering o (map shown a) (map shown b) (map shown c)
shown_at Less a b c = refl
shown_at Equal a b c = refl
shown_at Greater a b c = refl

pub put_shown : (es : List (Vec ℕ Global × Recipe)) (k : Vec ℕ Global) (r : Recipe) →
    map shown (insert_entry (λ x y. slice_cmp nat_cmp (vec_items x) (vec_items y)) es k r) ≡ put (vec_items k) (entry_of r) (map shown es)
put_shown [] k r = refl
put_shown (e ∷ es) k r =
    let o = slice_cmp nat_cmp (vec_items k) (vec_items e.0) in
    shown_at o _ _ _ ∙ ap (λ l. match_ordering o (map shown ((k, r) ∷ e ∷ es)) (map shown ((e.0, r) ∷ es)) (shown e ∷ l)) (put_shown es k r)

some_shown : (o : Option Recipe) → is_some (option_map entry_of o) ≡ is_some o
some_shown None = refl
some_shown (Some x) = refl

-- A shelf with a hundred names has no place for another.
pub full_at : (q : List ℕ) (es : List (Vec ℕ Global × Recipe)) (r : Bool) → 100 ≤ length es →
    r ≡ is_some (lookup (is_at (λ k. slice_cmp nat_cmp q (vec_items k))) es) → not r ≡ full q (map shown es)
full_at q es r h e =
    let n : leb 100 (length (map shown es)) ≡ true = ap (leb 100) (length-map es shown) ∙ le-leb 100 (length es) h in
    rw n (ap not (e ∙ (sym (some_shown (lookup (is_at (λ k. slice_cmp nat_cmp q (vec_items k))) es)) ∙ ap is_some (found_shown q es))))

-- A shelf that is not full has at most a hundred names after one more.
pub few_with : (q : List ℕ) (es : List (Vec ℕ Global × Recipe)) (o : Option Recipe) → full q (map shown es) ≡ false →
    o ≡ lookup (is_at (λ k. slice_cmp nat_cmp q (vec_items k))) es → length es ≤ 100 → length es + cond (is_some o) 0 1 ≤ 100
few_with q es (Some x) f e h = omega arith
few_with q es None f e h =
    elim (cases_Bool (leb 100 (length es))) [
      | inl t ↦ let z : true ≡ false = full_at q es false (leb-true _ _ t) (ap is_some e) ∙ f in absurd cc
      | inr n ↦ let l : length es < 100 = leb-false _ _ n in omega arith
    ]

-- An insertion of a name into a shelf that is not full, whether memory is there or not, leaves at most a hundred.
pub few_after : {E : Type 0} (q : List ℕ) (es fs : List (Vec ℕ Global × Recipe)) → full q (map shown es) ≡ false → length es ≤ 100 → (r : Result (Option Recipe) E) →
    IfOk r (λ o. length fs ≡ length es + cond (is_some o) 0 1) → IfOk r (λ o. o ≡ lookup (is_at (λ k. slice_cmp nat_cmp q (vec_items k))) es) →
    OnErr r (fs ≡ es) → length fs ≤ 100
few_after q es fs f h (Ok o) l e u = omega (arith, l, few_with q es o f e h)
few_after q es fs f h (Err x) l e u = omega (arith, ap length u)

-- ---- the three ends of a compile: a shelf that is full, a text that is accepted, one that is refused
pub ends_full : (name text : List ℕ) (k : Kept) → full name k.recipes ≡ true → (too_many ≡ compile_told name text k) × (k ≡ compile_after name text k)
ends_full name text k e = (rw e refl, rw e refl)

pub ends_accepted : (name text ws : List ℕ) (k l : Kept) (n : ℕ) → full name k.recipes ≡ false →
    accepted ws ≡ answer_at text k.room → n ≡ length ws → l ≡ with_recipes k (put name (record { text = text; words = ws }) k.recipes) →
    (took n ≡ compile_told name text k) × (l ≡ compile_after name text k)
ends_accepted name text ws k l n e a m p = (rw (e, ← a, m) refl, rw (e, ← a, p) refl)

pub ends_refused : (name text : List ℕ) (cause place : ℕ) (k : Kept) → full name k.recipes ≡ false →
    refused cause place ≡ answer_at text k.room → (refuses cause place text ≡ compile_told name text k) × (k ≡ compile_after name text k)
ends_refused name text cause place k e a = (rw (e, ← a) refl, rw (e, ← a) refl)
