-- The image has the words of its trees where the meaning has them.
use Rattle.std.proofs.Common.{◌≡◌, ℕ, ◌+◌, ◌<◌, ◌≤◌, List, [], ◌∷◌, ◌++◌, length, get_or, sym, ap, ◌∙◌, subst, append_assoc, arith, length-append}
use lib.Seq.{get_or_at}
use Rattle.recipe.specs.Grammar.{Expr, num, var, op, let_in, ifp, call, weigh, group, Arguments, one, more}
use Rattle.recipe.specs.Names.{count as arity}
use Rattle.recipe.specs.Image.{NUM, VAR, OP, OUT, UNLESS, GO, CALL, WEIGH, past, pasts, Bound, find, words, arguments}
use Rattle.recipe.proofs.Outputs.{past_more}
use Rattle.meaning.proofs.Steps.{WordAt}

module _ (count : ℕ) (memory : List ℕ) where
  -- words that stand in the image one after another
  abbrev pub Listed : ℕ → List ℕ → Type 0
  Listed i [] = Unit {0}
  Listed i (w ∷ ws) = WordAt count memory i w × Listed (i + 1) ws

  pub listed_all : (pre ws behind : List ℕ) (i : ℕ) → length pre ≡ i → memory ≡ pre ++ (ws ++ behind) → i + length ws ≤ count → Listed i ws
  listed_all pre [] behind i e m h = tt
  listed_all pre (w ∷ ws) behind i e m h =
      let a = length-append pre (w ∷ []) in (
        record { within = omega arith; is = ap (λ (l : List ℕ). get_or l i 0) m ∙ get_or_at pre w (ws ++ behind) 0 i e },
        listed_all (pre ++ (w ∷ [])) ws behind (i + 1) (omega arith) (m ∙ sym (append_assoc pre (w ∷ []) (ws ++ behind))) (omega arith),
      )

  module _ (Φ : List Bound) where
    -- The words of a tree stand in the image from the index i on.
    abbrev mutual
      pub Holds : List Bound → ℕ → ℕ → Expr → Type 0
      Holds Γ h i (num n) = WordAt count memory i (NUM n.value)
      Holds Γ h i (var x) = WordAt count memory i (VAR (find Γ x.name))
      Holds Γ h i (weigh n) = WordAt count memory i (WEIGH n.value)
      Holds Γ h i (op o a b) = Holds Γ h i a × Holds Γ (h + 1) (past i a) b × WordAt count memory (past (past i a) b) (OP o)
      Holds Γ h i (let_in x a b) = Holds Γ h i a × Holds (record { name = x.name; to = h } ∷ Γ) (h + 1) (past i a) b × WordAt count memory (past (past i a) b) OUT
      Holds Γ h i (ifp c a b) = Holds Γ h i c × WordAt count memory (past i c) (UNLESS (past (past i c + 1) a + 1)) × (past (past i c + 1) a + 1 < count)
          × Holds Γ h (past i c + 1) a × WordAt count memory (past (past i c + 1) a) (GO (past (past (past i c + 1) a + 1) b)) × (past (past (past i c + 1) a + 1) b < count)
          × Holds Γ h (past (past i c + 1) a + 1) b
      Holds Γ h i (call f es) = Holdss Γ h i es × WordAt count memory (pasts i es) (CALL (arity es) (find Φ f.name))
      Holds Γ h i (group e) = Holds Γ h i e

      pub Holdss : List Bound → ℕ → ℕ → Arguments → Type 0
      Holdss Γ h i (one e) = Holds Γ h i e
      Holdss Γ h i (more es e) = Holdss Γ h i es × Holds Γ (h + arity es) (pasts i es) e

    -- What follows the words of a tree, and the tree's words if something follows.
    abbrev Laid : List Bound → ℕ → ℕ → Expr → List ℕ → Type 0
    Laid Γ h i e rest = Listed (past i e) rest × (past i e < count → Holds Γ h i e)

    abbrev Laids : List Bound → ℕ → ℕ → Arguments → List ℕ → Type 0
    Laids Γ h i es rest = Listed (pasts i es) rest × (pasts i es < count → Holdss Γ h i es)

    mutual
      pub laid : (Γ : List Bound) (h i : ℕ) (e : Expr) (rest : List ℕ) → Listed i (words Φ Γ h i e ++ rest) → Laid Γ h i e rest
      laid Γ h i (num n) rest l = (l.1, λ p. l.0)
      laid Γ h i (var x) rest l = (l.1, λ p. l.0)
      laid Γ h i (weigh n) rest l = (l.1, λ p. l.0)
      laid Γ h i (op o a b) rest l =
          let x = laid Γ h i a _ (subst (Listed i) (append_assoc (words Φ Γ h i a) _ rest) l) in
          let y = laid Γ (h + 1) (past i a) b _ (subst (Listed (past i a)) (append_assoc (words Φ Γ (h + 1) (past i a) b) _ rest) x.0) in
          let q = past_more (past i a) b in
          (y.0.1, λ p. (x.1 (omega arith), y.1 (omega arith), y.0.0))
      laid Γ h i (let_in n a b) rest l =
          let Δ = record { name = n.name; to = h } ∷ Γ in
          let x = laid Γ h i a _ (subst (Listed i) (append_assoc (words Φ Γ h i a) _ rest) l) in
          let y = laid Δ (h + 1) (past i a) b _ (subst (Listed (past i a)) (append_assoc (words Φ Δ (h + 1) (past i a) b) _ rest) x.0) in
          let q = past_more (past i a) b in
          (y.0.1, λ p. (x.1 (omega arith), y.1 (omega arith), y.0.0))
      laid Γ h i (ifp c a b) rest l =
          let x = laid Γ h i c _ (subst (Listed i) (append_assoc (words Φ Γ h i c) _ rest) l) in
          let y = laid Γ h (past i c + 1) a _ (subst (Listed (past i c + 1)) (append_assoc (words Φ Γ h (past i c + 1) a) _ rest) x.0.1) in
          let z = laid Γ h (past (past i c + 1) a + 1) b rest y.0.1 in
          let q = past_more (past i c + 1) a in
          let u = past_more (past (past i c + 1) a + 1) b in
          (z.0, λ p. (x.1 (omega arith), x.0.0, omega arith, y.1 (omega arith), y.0.0, p, z.1 p))
      laid Γ h i (call f es) rest l =
          let x = laids Γ h i es _ (subst (Listed i) (append_assoc (arguments Φ Γ h i es) _ rest) l) in
          (x.0.1, λ p. (x.1 (omega arith), x.0.0))
      laid Γ h i (group e) rest l = laid Γ h i e rest l

      pub laids : (Γ : List Bound) (h i : ℕ) (es : Arguments) (rest : List ℕ) → Listed i (arguments Φ Γ h i es ++ rest) → Laids Γ h i es rest
      laids Γ h i (one e) rest l = laid Γ h i e rest l
      laids Γ h i (more es e) rest l =
          let x = laids Γ h i es _ (subst (Listed i) (append_assoc (arguments Φ Γ h i es) _ rest) l) in
          let y = laid Γ (h + arity es) (pasts i es) e rest x.0 in
          let q = past_more (pasts i es) e in
          (y.0, λ p. (x.1 (omega arith), y.1 p))
