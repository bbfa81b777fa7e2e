-- The value of digits, one after another.
use Rattle.std.proofs.Common.{◌≡◌, ℕ, ◌+◌, ◌<◌, ◌≤◌, Bool, true, false, cond, ◌&&◌, leb, List, [], ◌∷◌, length, get_or, drop, Some, None, Option, sym, refl, ap, ◌∙◌, inl, inr, arith}
use Rattle.std.specs.Bool.{then_some}
use Rattle.std.proofs.lemmas.List.{drop_more, drop_all}
use Rattle.std.proofs.lemmas.Bool.{and_parts, and_cases, and_left, and_right, lt-leb, le-leb, leb-false, cond-false}
use Rattle.command.specs.Numbers.{digit, all_digits, with_digit, decimal_after, decimal, value_in}

grows : (n : ℕ) (bs : List ℕ) → n ≤ decimal_after n bs
grows n [] = omega arith
grows n (b ∷ bs) = omega (arith, grows (with_digit n b) bs)

some_if : (t : Bool) (v n : ℕ) → ◌≡◌ {A = Option ℕ} (Some v) (cond t (Some n) None) → (t ≡ true) × (v ≡ n)
some_if true v n e = (refl, cc)
some_if false v n e = let z : ◌≡◌ {A = ℕ} 0 1 = cc in absurd (omega arith)

none_if : (t : Bool) (n : ℕ) → ◌≡◌ {A = Option ℕ} None (cond t (Some n) None) → t ≡ false
none_if true n e = let z : ◌≡◌ {A = ℕ} 0 1 = cc in absurd (omega arith)
none_if false n e = refl

chosen : (t : Bool) (n : ℕ) → then_some t n ≡ cond t (Some n) None
chosen true n = refl
chosen false n = refl

-- The digits before the place i have the value v.
pub record ReadTo (xs : List ℕ) (i v : ℕ) : Type 0 where
  pub sum : decimal_after v (drop i xs) ≡ decimal xs
  pub digits : all_digits (drop i xs) ≡ all_digits xs

-- What a value with one digit more is.
abbrev pub With : ℕ → ℕ → Option ℕ → Type 0
With v b o = o ≡ cond (digit b && leb (with_digit v b) 4294967295) (Some (with_digit v b)) None

module _ (xs : List ℕ) where
  pub one_more : (i v u : ℕ) → i < length xs → With v (get_or xs i 0) (Some u) → ReadTo xs i v → ReadTo xs (i + 1) u
  one_more i v u h e r =
      let b = get_or xs i 0 in
      let p = some_if (digit b && leb (with_digit v b) 4294967295) u (with_digit v b) e in
      let d = and_parts (digit b) _ p.0 in
      let next = drop_more xs i 0 h in
      record {
        sum = ap (λ n. decimal_after n (drop (i + 1) xs)) p.1 ∙ (sym (ap (decimal_after v) next) ∙ r.sum);
        digits = sym (ap (λ t. t && all_digits (drop (i + 1) xs)) d.0) ∙ (sym (ap all_digits next) ∙ r.digits);
      }

  not_digits : (limit : ℕ) → all_digits xs ≡ false → None ≡ value_in limit xs
  not_digits limit e = sym (cond-false _ (Some (decimal xs)) None (and_right (leb 1 (length xs)) _ (and_left (all_digits xs) _ e)))

  too_large : (limit : ℕ) → limit < decimal xs → None ≡ value_in limit xs
  too_large limit h =
      sym (cond-false _ (Some (decimal xs)) None (and_right (leb 1 (length xs)) _ (and_right (all_digits xs) _ (lt-leb (decimal xs) limit h))))

  pub stops : (limit i v : ℕ) → limit ≤ 4294967295 → i < length xs → With v (get_or xs i 0) None → ReadTo xs i v → None ≡ value_in limit xs
  stops limit i v l h e r =
      let b = get_or xs i 0 in
      let next = drop_more xs i 0 h in
      elim (and_cases (digit b) (leb (with_digit v b) 4294967295) (none_if _ (with_digit v b) e)) [
        | inl d ↦ not_digits limit (sym r.digits ∙ (ap all_digits next ∙ and_left (digit b) _ d))
        | inr d ↦
            let large = leb-false (with_digit v b) 4294967295 d in
            let more = grows (with_digit v b) (drop (i + 1) xs) in
            let all = sym (ap (decimal_after v) next) ∙ r.sum in
            too_large limit (omega arith)
      ]

  pub whole : (i v : ℕ) → length xs ≤ i → ReadTo xs i v → (v ≡ decimal xs) × (all_digits xs ≡ true)
  whole i v h r = (sym (ap (decimal_after v) (drop_all i xs h)) ∙ r.sum, sym r.digits ∙ ap all_digits (drop_all i xs h))

  pub all_read : (limit v : ℕ) → 0 < length xs → v ≡ decimal xs → all_digits xs ≡ true → then_some (leb v limit) v ≡ value_in limit xs
  all_read limit v some e d =
      ap (λ n. then_some (leb n limit) n) e ∙ (chosen (leb (decimal xs) limit) (decimal xs) ∙ sym (ap (λ t. cond (t && (all_digits xs && leb (decimal xs) limit)) (Some (decimal xs)) None) (le-leb 1 (length xs) (omega arith)) ∙
      ap (λ t. cond (t && leb (decimal xs) limit) (Some (decimal xs)) None) d))
