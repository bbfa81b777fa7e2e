-- The fifteen intervals are the numbers of the rule, and no others.
use Rattle.std.proofs.Common.{◌≡◌, ℕ, zero, suc, ◌*◌, ◌^◌, ◌<◌, ◌≤◌, Bool, true, ◌||◌, eqb, ◌⊎◌, sym, refl, subst, inl, inr, arith, lit≤}
use native.Mathlib.Nat.{pow-le-pow_right}
use Rattle.std.proofs.lemmas.Nat.{mul-le}
use Rattle.std.proofs.lemmas.Bool.{cases_lt, eqb-true, false≢true, or_cases}
use Rattle.reading.specs.Intervals.{Rounded, Rule, lawful_interval}

abbrev Leads : ℕ → Type 0
Leads m = (m ≡ 1) ⊎ ((m ≡ 2) ⊎ (m ≡ 5))

abbrev Lawful : ℕ → Type 0
Lawful d = lawful_interval d ≡ true

-- d is the first number of a list, or is among the rest
next : {P : Type 0} (d x : ℕ) (rest : Bool) → (eqb d x || rest) ≡ true → (d ≡ x → P) → (rest ≡ true → P) → P
next d x rest h here there =
    elim (or_cases (eqb d x) rest h) [ inl e ↦ here (eqb-true d x e) | inr t ↦ there t ]

made : (d m k : ℕ) → Leads m → m * 10 ^ k ≤ 50000 → d ≡ m * 10 ^ k → Rounded d
made d m k l b e = record { digit = m; zeros = k; leads = l; value = e; bound = omega arith }

sound : (d : ℕ) → Lawful d → Rounded d
sound d h =
    next d 1 _ h (made d 1 0 (inl refl) (lit≤ tt)) λ h.
    next d 2 _ h (made d 2 0 (inr (inl refl)) (lit≤ tt)) λ h.
    next d 5 _ h (made d 5 0 (inr (inr refl)) (lit≤ tt)) λ h.
    next d 10 _ h (made d 1 1 (inl refl) (lit≤ tt)) λ h.
    next d 20 _ h (made d 2 1 (inr (inl refl)) (lit≤ tt)) λ h.
    next d 50 _ h (made d 5 1 (inr (inr refl)) (lit≤ tt)) λ h.
    next d 100 _ h (made d 1 2 (inl refl) (lit≤ tt)) λ h.
    next d 200 _ h (made d 2 2 (inr (inl refl)) (lit≤ tt)) λ h.
    next d 500 _ h (made d 5 2 (inr (inr refl)) (lit≤ tt)) λ h.
    next d 1000 _ h (made d 1 3 (inl refl) (lit≤ tt)) λ h.
    next d 2000 _ h (made d 2 3 (inr (inl refl)) (lit≤ tt)) λ h.
    next d 5000 _ h (made d 5 3 (inr (inr refl)) (lit≤ tt)) λ h.
    next d 10000 _ h (made d 1 4 (inl refl) (lit≤ tt)) λ h.
    next d 20000 _ h (made d 2 4 (inr (inl refl)) (lit≤ tt)) λ h.
    next d 50000 _ h (made d 5 4 (inr (inr refl)) (lit≤ tt)) λ h. absurd (false≢true h)

-- with five zeros even the digit 1 is past 50,000
few_zeros : (m k : ℕ) → 1 ≤ m → m * 10 ^ k ≤ 50000 → k < 5
few_zeros m k p h =
    elim (cases_lt k 5) [
      | inl l ↦ l
      | inr g ↦ absurd (omega (arith, mul-le 1 (10 ^ 5) m (10 ^ k) p (pow-le-pow_right (lit≤ tt) g)))
    ]

by_zeros : (m : ℕ) → Lawful (m * 1) → Lawful (m * 10) → Lawful (m * 100) → Lawful (m * 1000) → Lawful (m * 10000) → (k : ℕ) → k < 5 → Lawful (m * 10 ^ k)
by_zeros m a b c d e zero h = a
by_zeros m a b c d e (suc zero) h = b
by_zeros m a b c d e (suc (suc zero)) h = c
by_zeros m a b c d e (suc (suc (suc zero))) h = d
by_zeros m a b c d e (suc (suc (suc (suc zero)))) h = e
by_zeros m a b c d e (suc (suc (suc (suc (suc k))))) h = absurd (omega arith)

at_digit : (d m n k : ℕ) → m ≡ n → 1 ≤ n → d ≡ m * 10 ^ k → d ≤ 50000 → ((k : ℕ) → k < 5 → Lawful (n * 10 ^ k)) → Lawful d
at_digit d m n k e p v b f =
    let v' : d ≡ n * 10 ^ k = subst (λ (x : ℕ). d ≡ x * 10 ^ k) e v in
    subst Lawful (sym v') (f k (few_zeros n k p (omega arith)))

whole : (d m k : ℕ) → Leads m → d ≡ m * 10 ^ k → d ≤ 50000 → Lawful d
whole d m k l v b =
    elim l [
      | inl e ↦ at_digit d m 1 k e (lit≤ tt) v b (by_zeros 1 refl refl refl refl refl)
      | inr s ↦
          elim s [
            | inl e ↦ at_digit d m 2 k e (lit≤ tt) v b (by_zeros 2 refl refl refl refl refl)
            | inr e ↦ at_digit d m 5 k e (lit≤ tt) v b (by_zeros 5 refl refl refl refl refl)
          ]
    ]

pub rule : (d : ℕ) → Rule d
rule d = record { sound = sound d; whole = λ r. whole d r.digit r.zeros r.leads r.value r.bound }
