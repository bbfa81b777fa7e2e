-- The recipe found in a text is the one that it has, and what its image begins with.
use Rattle.std.proofs.Common.{◌≡◌, ℕ, ◌+◌, ◌≤◌, List, [], ◌∷◌, length, sym, refl, ap, ◌∙◌, subst, arith}
use Rattle.recipe.specs.Causes.{Verdict, fine, wrong}
use Rattle.recipe.specs.Tokens.{tokens, all_tokens}
use Rattle.recipe.specs.Grammar.{Declaration, declare, Recipe, recipe}
use Rattle.recipe.specs.Machine.{start}
use Rattle.recipe.specs.Limits.{reading}
use Rattle.recipe.specs.Names.{all, recipe_faults, first_fault}
use Rattle.recipe.specs.Frames.{recipe_frames}
use Rattle.recipe.specs.Image.{HEAD, past, past_all, image}
use Rattle.recipe.specs.Compiled.{Answer, accepted, then}
use Rattle.recipe.specs.Theorem.{RecipeOf}
use Rattle.recipe.proofs.Accepts.{backward, no_fault, one_tree}
use Rattle.recipe.proofs.Outputs.{image_length, image_bound, past_more}
use Rattle.recipe.proofs.Sound as sound
use Rattle.recipe.proofs.Kept as kept
use Rattle.meaning.specs.Text.{next_stage, recipe_in}
use Rattle.meaning.specs.Theorem.{FoundExactly, Headed}

on : {A B : Type 0} (v : Verdict A) (next : A → Verdict B) (a : A) → v ≡ fine a → next_stage v next ≡ next a
on v next a e = ap (λ u. next_stage u next) e

-- a stage that is passed
passed : {A B : Type 0} (v : Verdict A) (next : A → Verdict B) (b : B) → next_stage v next ≡ fine b → (a : A) × (v ≡ fine a) × (next a ≡ fine b)
passed (fine a) next b e = (a, refl, e)
passed (wrong c p) next b e = cc

accepts : {A : Type 0} (v : Verdict A) (next : A → Answer) (ws : List ℕ) → then v next ≡ accepted ws → (a : A) × (v ≡ fine a) × (next a ≡ accepted ws)
accepts (fine a) next ws e = (a, refl, e)
accepts (wrong c p) next ws e = cc

has : (text : List ℕ) (r : Recipe) → reading (length text) start 0 (tokens text) ≡ fine r → first_fault (recipe_faults r) ≡ fine tt → recipe_frames r ≡ fine tt → RecipeOf text r
has text r e n f = record {
  derives = sound.derives (length text) (tokens text) r e;
  within = kept.within (length text) (tokens text) r e;
  lawful = no_fault (recipe_faults r) n;
  framed = f;
}

found : (text : List ℕ) (r : Recipe) → recipe_in text ≡ fine r → RecipeOf text r
found text r e =
    let a = passed (all_tokens (tokens text)) _ r e in
    let b = passed (reading (length text) start 0 (tokens text)) _ r a.2 in
    let c = passed (first_fault (recipe_faults b.0)) _ r b.2 in
    let d = passed (recipe_frames b.0) _ r c.2 in
    let g : b.0 ≡ r = let h = d.2 in cc in
    subst (RecipeOf text) g (has text b.0 b.1 c.1 d.1)

there : (text : List ℕ) (r : Recipe) → RecipeOf text r → recipe_in text ≡ fine r
there text r p =
    let e = backward text r p in
    let a = accepts (all_tokens (tokens text)) _ (image r) e in
    let b = accepts (reading (length text) start 0 (tokens text)) _ (image r) a.2 in
    let s = b.0 in
    let c = accepts (first_fault (recipe_faults s)) _ (image r) b.2 in
    let d = accepts (recipe_frames s) _ (image r) c.2 in
    let q = has text s b.1 c.1 d.1 in
    on (all_tokens (tokens text)) _ tt a.1 ∙ (on (reading (length text) start 0 (tokens text)) _ s b.1
    ∙ (on (first_fault (recipe_faults s)) _ tt c.1 ∙ (on (recipe_frames s) _ tt d.1 ∙ ap fine (one_tree (tokens text) s r q.derives p.derives))))

past_all_more : (i : ℕ) (ds : List Declaration) → i ≤ past_all i ds
past_all_more i [] = omega arith
past_all_more i (declare f xs e ∷ ds) = let a = past_more (i + 1) e in let b = past_all_more (past (i + 1) e + 1) ds in omega arith

pub found_exactly : FoundExactly
found_exactly text r = (found text r, there text r)

pub headed : Headed
headed text (recipe ds p e) r =
    let l = image_length ds p e in
    let a = past_more 1 e in
    let b = past_all_more (past 1 e + 1) (all ds) in
    (ap HEAD (sym l), omega arith, image_bound (recipe ds p e) r.within)
