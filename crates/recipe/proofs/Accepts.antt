-- A text is accepted exactly when it has a recipe.
use Rattle.std.proofs.Common.{◌≡◌, ℕ, ◌≤◌, List, [], ◌∷◌, length, drop, sym, refl, ap, ◌∙◌}
use mathlib.Core.Option.{some}
use Rattle.recipe.specs.Tokens.{Ident, Token, tokens}
use Rattle.recipe.specs.Tokens.{all_tokens, Verdict, fine, wrong}
use Rattle.recipe.specs.Grammar.{Expr, Arguments, Several, Declaration, Recipe, IsExpr, a_let, an_ifp, a_sum, IsSum, a_product, and_product}
use Rattle.recipe.specs.Grammar.{IsProduct, an_atom, and_atom, IsAtom, a_number, a_name, a_call, a_weigh, bracketed, IsArguments, an_argument}
use Rattle.recipe.specs.Grammar.{and_argument, IsNames, a_parameter, and_parameter, IsDeclaration, declared, IsDeclarations, a_declaration}
use Rattle.recipe.specs.Grammar.{and_declaration, IsRecipe, a_recipe, recipe}
use Rattle.recipe.specs.Machine.{start}
use Rattle.recipe.specs.Limits.{reading}
use Rattle.recipe.specs.Names.{recipe_faults, first_fault, verdict_of}
use Rattle.recipe.specs.Frames.{recipe_frames}
use Rattle.recipe.specs.Within.{Within}
use Rattle.recipe.specs.Causes.{cause_number}
use Rattle.recipe.specs.declared.cause.Refusal.{Refusal}
use Rattle.recipe.specs.Image.{image, HEAD}
use Rattle.recipe.specs.Compiled.{Answer, accepted, compiled, laid_out, then}
use Rattle.recipe.specs.Theorem.{RecipeOf}
use Rattle.recipe.proofs.Complete.{complete}
use Rattle.recipe.proofs.Sound as sound
use Rattle.recipe.proofs.Kept as kept
use Rattle.recipe.proofs.Outputs.{found_stays, image_bound, image_length}
use Rattle.recipe.proofs.Exact.{answers}

-- A text of the grammar has nothing in it that is no token.
mutual
  clean_expr : {e : Expr} {ts rest : List Token} → IsExpr e ts rest → all_tokens ts ≡ all_tokens rest
  clean_expr (a_let v b) = clean_expr v ∙ clean_expr b
  clean_expr (an_ifp t y n) = clean_expr t ∙ (clean_expr y ∙ clean_expr n)
  clean_expr (a_sum s) = clean_sum s

  clean_sum : {e : Expr} {ts rest : List Token} → IsSum e ts rest → all_tokens ts ≡ all_tokens rest
  clean_sum (a_product p) = clean_product p
  clean_sum (and_product s j p) = clean_sum s ∙ clean_product p

  clean_product : {e : Expr} {ts rest : List Token} → IsProduct e ts rest → all_tokens ts ≡ all_tokens rest
  clean_product (an_atom a) = clean_atom a
  clean_product (and_atom p j a) = clean_product p ∙ clean_atom a

  clean_atom : {e : Expr} {ts rest : List Token} → IsAtom e ts rest → all_tokens ts ≡ all_tokens rest
  clean_atom a_number = refl
  clean_atom a_name = refl
  clean_atom (a_call m) = clean_arguments m
  clean_atom a_weigh = refl
  clean_atom (bracketed e) = clean_expr e

  clean_arguments : {es : Arguments} {ts rest : List Token} → IsArguments es ts rest → all_tokens ts ≡ all_tokens rest
  clean_arguments (an_argument e) = clean_expr e
  clean_arguments (and_argument m e) = clean_arguments m ∙ clean_expr e

clean_names : {xs : Several Ident} {ts rest : List Token} → IsNames xs ts rest → all_tokens ts ≡ all_tokens rest
clean_names a_parameter = refl
clean_names (and_parameter m) = clean_names m

clean_declaration : {d : Declaration} {ts rest : List Token} → IsDeclaration d ts rest → all_tokens ts ≡ all_tokens rest
clean_declaration (declared m e) = clean_names m ∙ clean_expr e

clean_declarations : {ds : Several Declaration} {ts rest : List Token} → IsDeclarations ds ts rest → all_tokens ts ≡ all_tokens rest
clean_declarations (a_declaration d) = clean_declaration d
clean_declarations (and_declaration l d) = clean_declarations l ∙ clean_declaration d

clean : {r : Recipe} {ts : List Token} → IsRecipe r ts → all_tokens ts ≡ fine tt
clean (a_recipe l e) = clean_declarations l ∙ clean_expr e

-- Stages one after another.
then_on : {A : Type 0} (v : Verdict A) (a : A) (next : A → Answer) → v ≡ fine a → then v next ≡ next a
then_on v a next e = ap (λ u. then u next) e

then_back : {A : Type 0} (v : Verdict A) (next : A → Answer) (ws : List ℕ) → then v next ≡ accepted ws →
    (a : A) × (v ≡ fine a) × (next a ≡ accepted ws)
then_back (fine a) next ws e = (a, refl, e)
then_back (wrong c p) next ws e = absurd cc

pub no_fault : (fs : List Refusal) → first_fault fs ≡ fine tt → fs ≡ []
no_fault [] e = refl
no_fault (f ∷ fs) e =
    let k = found_stays f fs in
    let h : wrong (cause_number k.0.cause) k.0.place ≡ fine tt = sym (ap verdict_of k.1) ∙ e in
    absurd cc

pub forward : (text ws : List ℕ) → compiled text ≡ accepted ws → (r : Recipe) × RecipeOf text r × (ws ≡ image r)
forward text ws e =
    let a = then_back (all_tokens (tokens text)) _ ws e in
    let b = then_back (reading (length text) start 0 (tokens text)) _ ws a.2 in
    let r = b.0 in
    let c = then_back (first_fault (recipe_faults r)) _ ws b.2 in
    let d = then_back (recipe_frames r) _ ws c.2 in
    let g : ws ≡ image r = let h = d.2 in cc in (
      r,
      record {
        derives = sound.derives (length text) (tokens text) r b.1;
        within = kept.within (length text) (tokens text) r b.1;
        lawful = no_fault (recipe_faults r) c.1;
        framed = d.1;
      },
      g,
    )

pub by_its_tree : (text : List ℕ) (r : Recipe) → IsRecipe r (tokens text) → Within r → compiled text ≡ laid_out r
by_its_tree text r d w =
    then_on (all_tokens (tokens text)) tt _ (clean d) ∙ then_on (reading (length text) start 0 (tokens text)) r _ (complete (length text) d w)

pub backward : (text : List ℕ) (r : Recipe) → RecipeOf text r → compiled text ≡ accepted (image r)
backward text r p =
    by_its_tree text r p.derives p.within
    ∙ (then_on (first_fault (recipe_faults r)) tt _ (ap first_fault p.lawful) ∙ then_on (recipe_frames r) tt _ p.framed)

pub one_tree : (ts : List Token) (r s : Recipe) → IsRecipe r ts → IsRecipe s ts → r ≡ s
one_tree ts r s p q = let e : some r ≡ some s = sym (answers p) ∙ answers q in cc

pub image_fits : (r : Recipe) → Within r → (length (image r) ≤ 4096) × (image r ≡ HEAD (length (image r)) ∷ drop 1 (image r))
image_fits (recipe ds p e) w =
    (image_bound (recipe ds p e) w, ap (λ n. HEAD n ∷ drop 1 (image (recipe ds p e))) (sym (image_length ds p e)))
