-- What passes over one text find together, and what the last of them writes.
use Rattle.std.proofs.Common.{◌≡◌, ℕ, ◌+◌, ◌≤◌, List, [], ◌∷◌, ◌++◌, length, set, None, Option, sym, refl, ap, ◌∙◌, append_assoc, arith, length-append}
use Rattle.recipe.specs.declared.cause.Refusal.{Refusal}
use Rattle.recipe.specs.Tokens.{Verdict, fine, tokens}
use Rattle.recipe.specs.Grammar.{Expr, Several, Declaration, Recipe, recipe}
use Rattle.recipe.specs.Machine.{start}
use Rattle.recipe.specs.Limits.{reading}
use Rattle.recipe.specs.Names.{all, earliest, twice, declared_names, signatures, Signature, body_faults, faults, recipe_faults, verdict_of, first_fault}
use Rattle.recipe.specs.Frames.{recipe_frames}
use Rattle.recipe.specs.Image.{Bound, past, past_all, words, bodies, entries, placed, image, BACK, HEAD}
use Rattle.recipe.specs.Compiled.{accepted, then, understood, image_after}
use Rattle.recipe.proofs.Kept.{within}
use Rattle.recipe.proofs.Outputs.{image_length, image_bound, image_placed, placed_late, placed-++, set_placed, words_past}
use Rattle.pass.specs.declared.names.Function.{Function}
use Rattle.pass.specs.declared.passes.Pass.{Pass}
use Rattle.pass.specs.Known.{signed, entered}
use Rattle.pass.specs.Reads.{Passed, frame_verdict, functions_of}
use Rattle.compiler.specs.Stages.{Planned}

-- All words leave room for their number.
pub words_room : (text : List ℕ) {ds : Several Declaration} {q : ℕ} {e : Expr} → reading (length text) start 0 (tokens text) ≡ fine (recipe ds q e) → past_all (past 1 e + 1) (all ds) ≤ 4096
words_room text {ds = ds} {q = q} {e = e} r =
    omega (arith, image_length ds q e, image_bound (recipe ds q e) (within (length text) (tokens text) (recipe ds q e) r))

-- Two passes read the same tree.
same_declared : {v : Verdict Recipe} {ds ds' : Several Declaration} {q q' : ℕ} {e e' : Expr} → v ≡ fine (recipe ds q e) → v ≡ fine (recipe ds' q' e') → ds ≡ ds'
same_declared a b = cc

same_main : {v : Verdict Recipe} {ds ds' : Several Declaration} {q q' : ℕ} {e e' : Expr} → v ≡ fine (recipe ds q e) → v ≡ fine (recipe ds' q' e') → e ≡ e'
same_main a b = cc

-- So the second of two passes knows the functions and where their words begin.
abbrev Second : List ℕ → Pass → List ℕ → Pass → List ℕ → Type 0
Second text p m q m' = Passed text (functions_of p) p.past_main.index m q m'

knows_names : {text m m₁ n m₂ : List ℕ} {p q : Pass} {b : ℕ} (f : Passed text [] b m p m₁) (s : Second text p n q m₂) → signed (functions_of p) ≡ signatures (all s.declared)
knows_names f s = f.signs ∙ ap (λ ds. signatures (all ds)) (same_declared f.reads s.reads)

begins_there : {text m m₁ n m₂ : List ℕ} {p q : Pass} {b : ℕ} (f : Passed text [] b m p m₁) (s : Second text p n q m₂) → p.past_main.index ≡ past 1 s.main + 1
begins_there f s = f.main_end ∙ ap (λ e. past 1 e + 1) (same_main f.reads s.reads)

-- the tree of a pass
abbrev tree : {text : List ℕ} {fs : List Function} {base : ℕ} {m m' : List ℕ} {p : Pass} → Passed text fs base m p m' → Recipe
tree s = recipe s.declared s.at_in s.main

names_judged : {text m m₁ n m₂ : List ℕ} {p q : Pass} {b : ℕ} (f : Passed text [] b m p m₁) (s : Second text p n q m₂) → verdict_of q.fault ≡ first_fault (recipe_faults (tree s))
names_judged f s =
    ap verdict_of (s.faulty ∙ ap (λ (F : List Signature). earliest None (twice [] (declared_names (all s.declared)) ++ (body_faults F (all s.declared) ++ faults F [] s.main))) (knows_names f s))

-- What is left to ask after the reading, and after the names.
after_reading : (text : List ℕ) (r : Recipe) → reading (length text) start 0 (tokens text) ≡ fine r →
    understood text ≡ then (first_fault (recipe_faults r)) (λ _. then (recipe_frames r) (λ _. accepted (image r)))
after_reading text r e = ap (λ v. then v (λ r. then (first_fault (recipe_faults r)) (λ _. then (recipe_frames r) (λ _. accepted (image r))))) e

pub after_names : {text m m₁ n m₂ : List ℕ} {p q : Pass} {b : ℕ} (f : Passed text [] b m p m₁) (s : Second text p n q m₂) →
    understood text ≡ then (verdict_of q.fault) (λ _. then (frame_verdict q.over) (λ _. accepted (image (tree s))))
after_names {text = text} {q = q} f s =
    after_reading text (tree s) s.reads ∙ (ap (λ v. then v (λ _. then (recipe_frames (tree s)) (λ _. accepted (image (tree s))))) (sym (names_judged f s))
    ∙ ap (λ v. then (verdict_of q.fault) (λ _. then v (λ _. accepted (image (tree s))))) (sym s.framed))

named_on : {text m m₁ n m₂ : List ℕ} {p q : Pass} {b : ℕ} (f : Passed text [] b m p m₁) (s : Second text p n q m₂) → q.fault ≡ None →
    understood text ≡ then (frame_verdict q.over) (λ _. accepted (image (tree s)))
named_on {q = q} f s h =
    after_names f s ∙ ap (λ (o : Option Refusal). then (verdict_of o) (λ _. then (frame_verdict q.over) (λ _. accepted (image (tree s))))) h

pub planned : {text m m₁ n m₂ : List ℕ} {p q : Pass} {b : ℕ} (f : Passed text [] b m p m₁) (s : Second text p n q m₂) → q.fault ≡ None → q.over ≡ None → Planned text q
planned f s h o =
    let end = s.functions_end ∙ ap (λ i. past_all i (all s.declared)) (begins_there f s) in
    record {
      declared = s.declared;
      at_in = s.at_in;
      main = s.main;
      reads = s.reads;
      answer = named_on f s h ∙ ap (λ (v : Option ℕ). then (frame_verdict v) (λ _. accepted (image (tree s)))) o;
      main_end = s.main_end;
      functions_end = end;
      sized = end ∙ sym (image_length s.declared s.at_in s.main);
      few = s.few;
      enters = s.enters ∙ ap (λ i. entries i (all s.declared)) (begins_there f s);
    }

-- Words written below others may as well be written before them.
placed_below : (m : List ℕ) (i j : ℕ) (xs ys : List ℕ) → i + length xs ≤ j → placed (placed m j ys) i xs ≡ placed (placed m i xs) j ys
placed_below m i j [] ys h = refl
placed_below m i j (x ∷ xs) ys h =
    ap (λ (n : List ℕ). placed n (i + 1) xs) (set_placed m i j x ys (omega arith)) ∙ placed_below (set m i x) (i + 1) j xs ys (omega arith)

-- A pass writes the functions' words first, from the index i on, and then those of the main expression.
abbrev laid : List ℕ → List Bound → ℕ → Several Declaration → Expr → List ℕ
laid m F i ds e = placed (placed m i (bodies F i (all ds))) 1 (words F [] 0 1 e ++ (BACK ∷ []))

-- With the head, that is the image.
image_written : (m : List ℕ) (ds : Several Declaration) (q : ℕ) (e : Expr) →
    set (laid m (entries (past 1 e + 1) (all ds)) (past 1 e + 1) ds e) 0 (HEAD (past_all (past 1 e + 1) (all ds))) ≡ placed m 0 (image (recipe ds q e))
image_written m ds q e =
    let base = past 1 e + 1 in
    let F = entries base (all ds) in
    let main = words F [] 0 1 e in
    let own = bodies F base (all ds) in
    let n = HEAD (past_all base (all ds)) in
    let k : 1 + length (main ++ (BACK ∷ [])) ≡ base = omega (arith, words_past F [] 0 1 e, length-append main (BACK ∷ [])) in
    let late = placed_below m 1 base (main ++ (BACK ∷ [])) own (omega arith) in
    let g : placed m 1 (main ++ (BACK ∷ own)) ≡ laid m F base ds e =
    ap (placed m 1) (sym (append_assoc main (BACK ∷ []) own)) ∙ (placed-++ m 1 base (main ++ (BACK ∷ [])) own k ∙ sym late) in
    sym (placed_late m 0 n (main ++ (BACK ∷ own)) ∙ ap (λ (l : List ℕ). set l 0 n) g)

-- The third pass, and the head after it.
pub head_written : {text m m₁ m₂ : List ℕ} {p q : Pass} (k : Planned text p) → Passed text (functions_of p) p.past_main.index m q m₁ →
    4096 ≤ length m → m₂ ≡ set m₁ 0 (HEAD p.past_functions) → m₂ ≡ image_after (accepted (image (recipe k.declared k.at_in k.main))) m
head_written {text = text} {m = m} {m₁ = m₁} {p = p} k t h b =
    let r = recipe k.declared k.at_in k.main in
    let base = past 1 k.main + 1 in
    let known = entered (functions_of p) in
    let F = entries base (all k.declared) in
    let written : m₁ ≡ laid m F base k.declared k.main =
    t.written ∙ (ap (λ ds. laid m known p.past_main.index ds t.main) (same_declared t.reads k.reads)
    ∙ (ap (laid m known p.past_main.index k.declared) (same_main t.reads k.reads)
    ∙ (ap (λ (G : List Bound). laid m G p.past_main.index k.declared k.main) k.enters
    ∙ ap (λ i. laid m F i k.declared k.main) k.main_end))) in
    b ∙ (ap (λ (l : List ℕ). set l 0 (HEAD p.past_functions)) written
    ∙ (ap (λ n. set (laid m F base k.declared k.main) 0 (HEAD n)) k.functions_end
    ∙ (image_written m k.declared k.at_in k.main ∙ image_placed r m (within (length text) (tokens text) r k.reads) h)))
