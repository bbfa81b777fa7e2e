-- What acceptance says of each function, and the function that a call finds.
use Rattle.std.proofs.Common.{◌≡◌, ℕ, ◌+◌, ◌<◌, ◌≤◌, Bool, true, false, cond, leb, List, [], ◌∷◌, length, refl, arith}
use mathlib.Core.Option.{some}
use Rattle.std.proofs.lemmas.Bool.{leb-true}
use Rattle.std.specs.Str.{bytes_eq}
use Rattle.recipe.specs.Causes.{fine, wrong}
use Rattle.recipe.specs.Grammar.{Expr, Several, one_only, and_then, Declaration, declare}
use Rattle.recipe.specs.Limits.{size}
use Rattle.recipe.specs.Within.{FitDeclarations}
use Rattle.recipe.specs.Names.{Signature, arity_of, signatures, listed, all, names_of, twice, body_faults}
use Rattle.recipe.specs.Names as names
use Rattle.recipe.specs.Frames.{need, frames}
use Rattle.recipe.specs.Image.{BACK, past, Bound, find, slots, entries, bodies}
use Rattle.recipe.proofs.Outputs.{past_more}
use Rattle.meaning.specs.Meaning.{Function, function_of}
use Rattle.meaning.proofs.Steps.{WordAt}
use Rattle.meaning.proofs.Placing.{Listed, Holds, laid}
use Rattle.meaning.proofs.Simulation.{Small, none_left, none_right}
use Rattle.meaning.proofs.Numbers.{SmallBodies}

-- several, as a list
listed_length : {A : Type 0} (xs : Several A) (rest : List A) → length (listed xs rest) ≡ size xs + length rest
listed_length (one_only x) rest = omega arith
listed_length (and_then xs x) rest = let h = listed_length xs (x ∷ rest) in omega arith

size_some : {A : Type 0} (xs : Several A) → 1 ≤ size xs
size_some (one_only x) = omega arith
size_some (and_then xs x) = omega arith

all_length : {A : Type 0} (xs : Several A) → length (all xs) ≡ size xs
all_length xs = let h = listed_length xs [] in omega arith

-- What the limits and the tokens say of a function.
abbrev Fit : Declaration → Type 0
Fit (declare f xs e) = (1 ≤ length (all xs)) × (length (all xs) ≤ 8) × Small e

abbrev Fits : List Declaration → Type 0
Fits [] = Unit {0}
Fits (d ∷ ds) = Fit d × Fits ds

fits_listed : (ds : Several Declaration) (rest : List Declaration) → FitDeclarations ds → SmallBodies ds → Fits rest → Fits (listed ds rest)
fits_listed (one_only (declare f xs e)) rest w s r = let a = all_length xs in let b = size_some xs in let c = w.0 in ((omega arith, omega arith, s), r)
fits_listed (and_then ds (declare f xs e)) rest w s r =
    let a = all_length xs in let b = size_some xs in let c = w.1.0 in
    fits_listed ds (declare f xs e ∷ rest) w.0 s.0 ((omega arith, omega arith, s.1), r)

pub all_fit : (ds : Several Declaration) → FitDeclarations ds → SmallBodies ds → Fits (all ds)
all_fit ds w s = fits_listed ds [] w s tt

-- What the frames say.
abbrev Framed : List Declaration → Type 0
Framed [] = Unit {0}
Framed (declare f xs e ∷ ds) = (length (all xs) + need e ≤ 32) × Framed ds

pub all_framed : (ds : List Declaration) (p : ℕ) (e : Expr) → frames ds p e ≡ fine tt → Framed ds × (need e ≤ 32)
all_framed [] p e h = by (leb (need e) 32) refl h
  where
    by : (b : Bool) → leb (need e) 32 ≡ b → cond b (fine (tt {0})) (wrong 12 p) ≡ fine tt → Unit {0} × (need e ≤ 32)
    by true l k = (tt, leb-true (need e) 32 l)
    by false l k = cc
all_framed (declare f xs b ∷ ds) p e h = by (leb (length (all xs) + need b) 32) refl h (all_framed ds p e)
  where
    by : (t : Bool) → leb (length (all xs) + need b) 32 ≡ t → cond t (frames ds p e) (wrong 12 f.place) ≡ fine tt
        → (frames ds p e ≡ fine tt → Framed ds × (need e ≤ 32)) → ((length (all xs) + need b ≤ 32) × Framed ds) × (need e ≤ 32)
    by true l k others = let r = others k in ((leb-true _ 32 l, r.0), r.1)
    by false l k others = cc

module _ (count : ℕ) (memory : List ℕ) (S : List Signature) (Φ : List Bound) where
  -- A function that can be called with so many arguments: its words stand at its entry, and all that its body needs is met.
  pub record Ready (g : Function) (arity : ℕ) : Type 0 where
    pub arguments : length g.parameters ≡ arity
    pub some_argument : 1 ≤ arity
    pub few : arity ≤ 8
    pub lawful : names.faults S (names_of g.parameters) g.body ≡ []
    pub small : Small g.body
    pub framed : length g.parameters + need g.body ≤ 32
    pub enters : g.entry < count
    pub holds : Holds count memory Φ (slots [] 0 g.parameters) (length g.parameters) g.entry g.body
    pub back : WordAt count memory (past g.entry g.body) BACK

  pub ready : (i : ℕ) (ds : List Declaration) (f : List ℕ) (arity : ℕ) → Listed count memory i (bodies Φ i ds) → body_faults S ds ≡ [] → Fits ds → Framed ds
      → arity_of (signatures ds) f ≡ some arity → ((function_of i ds f).entry ≡ find (entries i ds) f) × Ready (function_of i ds f) arity
  ready i [] f arity l n w m a = cc
  ready i (declare g xs e ∷ ds) f arity l n w m a =
      let x = laid count memory Φ (slots [] 0 (all xs)) (length (all xs)) (i + 1) e _ l.1 in
      let r = none_right (twice [] (all xs)) _ n in
      by (bytes_eq f g.name) a (λ k. ready (past (i + 1) e + 1) ds f arity x.0.1 (none_right (names.faults S (names_of (all xs)) e) _ r) w.1 m.1 k)
    where
      by : (b : Bool) → cond b (some (length (all xs))) (arity_of (signatures ds) f) ≡ some arity
          → (arity_of (signatures ds) f ≡ some arity → ((function_of (past (i + 1) e + 1) ds f).entry ≡ find (entries (past (i + 1) e + 1) ds) f) × Ready (function_of (past (i + 1) e + 1) ds f) arity)
          → ((cond b (record { entry = i + 1; parameters = all xs; body = e }) (function_of (past (i + 1) e + 1) ds f)).entry ≡ cond b (i + 1) (find (entries (past (i + 1) e + 1) ds) f))
          × Ready (cond b (record { entry = i + 1; parameters = all xs; body = e }) (function_of (past (i + 1) e + 1) ds f)) arity
      by true k others =
          let x = laid count memory Φ (slots [] 0 (all xs)) (length (all xs)) (i + 1) e _ l.1 in
          let b = x.0.0 in let p = past_more (i + 1) e in let q = b.within in
          let s : length (all xs) ≡ arity = cc in
          let r = none_right (twice [] (all xs)) _ n in
          let w0 = w.0.0 in let w1 = w.0.1 in (
            refl,
            record {
              arguments = s;
              some_argument = omega arith;
              few = omega arith;
              lawful = none_left (names.faults S (names_of (all xs)) e) _ r;
              small = w.0.2;
              framed = m.0;
              enters = omega arith;
              holds = x.1 q;
              back = b;
            },
          )
      by false k others = others k
