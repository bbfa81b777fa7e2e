-- Words written one after another.
use Rattle.std.proofs.Common.{◌≡◌, ℕ, ◌+◌, List, [], ◌∷◌, ◌++◌, length, set, sym, ap, ◌∙◌, arith}
use Rattle.recipe.specs.Image.{placed}
use Rattle.recipe.proofs.Outputs.{placed-++, set_placed}

-- two parts and a word after them
pub placed_two : (m : List ℕ) (i : ℕ) {m₁ m₂ m₃ : List ℕ} {j k : ℕ} (xs ys : List ℕ) (w : ℕ) → i + length xs ≡ j → j + length ys ≡ k →
    m₁ ≡ placed m i xs → m₂ ≡ placed m₁ j ys → m₃ ≡ set m₂ k w → m₃ ≡ placed m i (xs ++ (ys ++ (w ∷ [])))
placed_two m i {m₁ = m₁} {j = j} {k = k} xs ys w a b p q r =
    r ∙ (ap (λ (n : List ℕ). set n k w) q ∙ (sym (placed-++ m₁ j k ys (w ∷ []) b)
    ∙ (ap (λ (n : List ℕ). placed n j (ys ++ (w ∷ []))) p ∙ sym (placed-++ m i j xs (ys ++ (w ∷ [])) a))))

-- a test, a first part and a second: the words between them are written when what follows them is known
pub placed_choice : (m : List ℕ) (i : ℕ) {m₁ m₂ m₃ m₄ m₅ : List ℕ} {j k : ℕ} (xs ys zs : List ℕ) (u g : ℕ) → i + length xs ≡ j → (j + 1) + length ys ≡ k →
    m₁ ≡ placed m i xs → m₂ ≡ placed m₁ (j + 1) ys → m₃ ≡ set m₂ j u → m₄ ≡ placed m₃ (k + 1) zs → m₅ ≡ set m₄ k g →
    m₅ ≡ placed m i (xs ++ (u ∷ (ys ++ (g ∷ zs))))
placed_choice m i {m₁ = m₁} {m₂ = m₂} {m₃ = m₃} {j = j} {k = k} xs ys zs u g a b p q r s t =
    let jumped : m₃ ≡ placed (set m₁ j u) (j + 1) ys = r ∙ (ap (λ (n : List ℕ). set n j u) q ∙ set_placed m₁ j (j + 1) u ys (omega arith)) in
    t ∙ (ap (λ (n : List ℕ). set n k g) s ∙ (set_placed m₃ k (k + 1) g zs (omega arith)
    ∙ (ap (λ (n : List ℕ). placed (set n k g) (k + 1) zs) jumped ∙ (sym (placed-++ (set m₁ j u) (j + 1) k ys (g ∷ zs) b)
    ∙ (ap (λ (n : List ℕ). placed (set n j u) (j + 1) (ys ++ (g ∷ zs))) p ∙ sym (placed-++ m i j xs (u ∷ (ys ++ (g ∷ zs))) a))))))
