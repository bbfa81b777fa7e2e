-- What a name stands for.
use Rattle.std.proofs.Common.{◌≡◌, ℕ, Bool, true, false, cond, ◌||◌, List, [], ◌∷◌, ◌++◌, map, is_some, Some, None, Option, sym, refl, ap, ◌∙◌}
use mathlib.Core.Option as opt
use Rattle.std.specs.List.{find}
use Rattle.std.specs.Option.{option_map_or, option_to_list}
use Rattle.std.specs.Str.{bytes_eq}
use Rattle.std.proofs.lemmas.List.{reverse-append}
use Rattle.arrayvec.specs.ArrayVec.{ArrayVec}
use Rattle.recipe.specs.Tokens.{Ident}
use Rattle.std.specs.Bool.{then_some}
use Rattle.recipe.specs.Names.{among, arity_of}
use Rattle.pass.specs.Outputs.{again, faulted}
use Rattle.pass.specs.declared.output.Output.{Output}
use Rattle.recipe.specs.declared.cause.Refusal.{Refusal}
use Rattle.recipe.specs.Image.{Bound, find as found}
use Rattle.recipe.specs.declared.cause.Cause.TheVariants.{DeclaredTwice}
use Rattle.pass.specs.declared.names.Function.{Function}
use Rattle.pass.specs.declared.names.Variable.{Variable}
use Rattle.pass.specs.Known.{Env, env, bound, in_force, spelled, signed, entered, first_of}

-- what is known of a list by its names, where the first of a name counts
module _ {A : Type 0} (name : A → List ℕ) (to : A → ℕ) where
  abbrev pub first_named : List A → List ℕ → Option A
  first_named xs y = find (λ a. bytes_eq y (name a)) xs

  abbrev pub bounds : List A → List Bound
  bounds xs = map (λ a. record { name = name a; to = to a }) xs

  pub among_first : (xs : List A) (y : List ℕ) → among (spelled (bounds xs)) y ≡ is_some (first_named xs y)
  among_first [] y = refl
  among_first (a ∷ xs) y =
      elim (bytes_eq y (name a)) as (λ t. (t || among (spelled (bounds xs)) y) ≡ is_some (cond t (Some a) (first_named xs y))) [ true ↦ refl | false ↦ among_first xs y ]

  pub found_first : (xs : List A) (y : List ℕ) → found (bounds xs) y ≡ option_map_or to (first_named xs y) 0
  found_first [] y = refl
  found_first (a ∷ xs) y =
      elim (bytes_eq y (name a)) as (λ t. cond t (to a) (found (bounds xs) y) ≡ option_map_or to (cond t (Some a) (first_named xs y)) 0) [ true ↦ refl | false ↦ found_first xs y ]

  -- whether a name stands there, as a search in an equal list for equal bytes tells
  pub among_by : {xs ys : List A} {y z : List ℕ} {r : Option A} {t : Bool} → r ≡ first_named ys z → ys ≡ xs → z ≡ y → t ≡ is_some r → among (spelled (bounds xs)) y ≡ t
  among_by {xs = xs} {y = y} {z = z} a e n k = among_first xs y ∙ sym (k ∙ ap is_some (a ∙ (ap (λ us. first_named us z) e ∙ ap (first_named xs) n)))

-- functions
abbrev pub arity_at : Option Function → opt.Option ℕ
arity_at None = opt.none
arity_at (Some f) = opt.some f.arity

pub arity_first : (fs : List Function) (x : List ℕ) → arity_of (signed fs) x ≡ arity_at (first_of fs x)
arity_first [] x = refl
arity_first (f ∷ fs) x =
    elim (bytes_eq x f.name.now) as (λ t. cond t (opt.some f.arity) (arity_of (signed fs) x) ≡ arity_at (cond t (Some f) (first_of fs x)))
    [ true ↦ refl | false ↦ arity_first fs x ]

-- a variable more
pub in_force_more : (vs : List Variable) (v : Variable) → in_force (vs ++ (v ∷ [])) ≡ bound v ∷ in_force vs
in_force_more vs v = ap (map bound) (reverse-append vs (v ∷ []))

-- the names known inside, with a variable more
abbrev pub deeper : Env → Bound → Env
deeper v b = record { signatures = v.signatures; entries = v.entries; in_scope = b ∷ v.in_scope }

pub inner_env : (functions : List Function) {before outer inner : ArrayVec Variable} (v : Variable) (x : List ℕ) → outer ≡ before → inner.items ≡ outer.items ++ (v ∷ []) → v.name.now ≡ x →
    env functions inner.items ≡ deeper (env functions before.items) (record { name = x; to = v.slot })
inner_env functions {before = before} v x k e n =
    ap (λ (bs : List Bound). record { signatures = signed functions; entries = entered functions; in_scope = bs })
    (ap in_force (e ∙ ap (λ (w : ArrayVec Variable). w.items ++ (v ∷ [])) k) ∙ (in_force_more before.items v
    ∙ ap (λ (y : List ℕ). record { name = y; to = v.slot } ∷ in_force before.items) n))

-- the fault of a name that stands before
again_noted : (names : List (List ℕ)) (x : Ident) (t : Bool) → among names x.name ≡ t → option_to_list (then_some t (record { cause = DeclaredTwice; place = x.place })) ≡ again names x
again_noted names x true e = ap (λ t. cond t (record { place = x.place; cause = DeclaredTwice } ∷ []) []) (sym e)
again_noted names x false e = ap (λ t. cond t (record { place = x.place; cause = DeclaredTwice } ∷ []) []) (sym e)

pub noted_again : (o : Output) (names : List (List ℕ)) (x : Ident) {o' : Output} {f : Option Refusal} {r : Refusal} {t : Bool} → o' ≡ faulted o (option_to_list f) → f ≡ then_some t r →
    r ≡ record { cause = DeclaredTwice; place = x.place } → among names x.name ≡ t → o' ≡ faulted o (again names x)
noted_again o names x {t = t} a b e k =
    a ∙ (ap (λ (g : Option Refusal). faulted o (option_to_list g)) (b ∙ ap (then_some t) e) ∙ ap (faulted o) (again_noted names x t k))
