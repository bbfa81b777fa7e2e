-- Steps of the scan, and runs of it.
use Rattle.std.proofs.Common.{◌≡◌, ℕ, ◌+◌, ◌-◌, ◌*◌, ◌<◌, ◌≤◌, min, Bool, zero, true, false, ◌&&◌, ◌||◌, eqb, leb, List, [], ◌∷◌, ◌++◌, length, get_or, take, drop, append_assoc, codes, suc, sym, refl, ap, ◌∙◌, subst, inl, inr, arith}
use Rattle.std.specs.List.{between, fold, prefix_len}
use Rattle.std.specs.Str.{bytes_eq}
use Rattle.std.specs.Char.{is_ascii_alphabetic, is_ascii_alphanumeric}
use Rattle.std.proofs.lemmas.Slice.Eq.{bytes_eq-Decides}
use Rattle.std.proofs.lemmas.List.Sums.{prefix_len_is}
use Rattle.std.proofs.lemmas.List.{append-nil, drop-drop, get_or-drop, length-drop, drop_all}
use Rattle.std.proofs.lemmas.Bool.{or_cases, or_left, eqb-true, leb-true, cases_Bool, le-leb, lt-leb, and_parts, cases_lt}
use Rattle.recipe.specs.Tokens.{Token, Name as AName, blank, digit, letter, scan, idle, digits, letters, number_token, name_token, sign}
use Rattle.lexer.specs.Lexed.{tokens_from, IsToken, then_from, token_of, Begins, Proper, Stands, Unbroken, worth}
use Rattle.recipe.specs.declared.cause.Cause.TheVariants.{NumberTooLarge}
use Rattle.lexer.specs.declared.Kind.{Kind}
use Rattle.lexer.specs.declared.Kind.TheVariants.{Number, Name, Operator, Word, Bad, End}

-- ---- a byte
pub blank_at : (p c : ℕ) (cs : List ℕ) → blank c ≡ true → scan idle p (c ∷ cs) ≡ scan idle (p + 1) cs
blank_at p c cs h =
    let by : (d : ℕ) → eqb c d ≡ true → scan idle p (d ∷ cs) ≡ scan idle (p + 1) cs → scan idle p (c ∷ cs) ≡ scan idle (p + 1) cs =
    λ d e g. subst (λ x. scan idle p (x ∷ cs) ≡ scan idle (p + 1) cs) (sym (eqb-true c d e)) g in
    elim (or_cases _ _ h) [
      | inl a ↦ by 32 a refl
      | inr r ↦
          elim (or_cases _ _ r) [
            | inl a ↦ by 9 a refl
            | inr r ↦
                elim (or_cases _ _ r) [ inl a ↦ by 13 a refl | inr a ↦ by 10 a refl ]
          ]
    ]

pub digit_begins : (p c : ℕ) (cs : List ℕ) → digit c ≡ true → scan idle p (c ∷ cs) ≡ scan (digits p (c - 48)) (p + 1) cs
digit_begins p c cs h = simp h

pub digit_more : (q n p c : ℕ) (cs : List ℕ) → digit c ≡ true → scan (digits q n) p (c ∷ cs) ≡ scan (digits q (10 * n + (c - 48))) (p + 1) cs
digit_more q n p c cs h = simp h

pub digit_ends : (q n p c : ℕ) (cs : List ℕ) → digit c ≡ false → scan (digits q n) p (c ∷ cs) ≡ number_token q n ∷ scan idle p (c ∷ cs)
digit_ends q n p c cs h = simp h

pub letter_begins : (p c : ℕ) (cs : List ℕ) → letter c ≡ true → digit c ≡ false → scan idle p (c ∷ cs) ≡ scan (letters p (c ∷ [])) (p + 1) cs
letter_begins p c cs h d = simp (h, d)

pub letter_more : (q : ℕ) (s : List ℕ) (p c : ℕ) (cs : List ℕ) → (letter c || digit c) ≡ true →
    scan (letters q s) p (c ∷ cs) ≡ scan (letters q (s ++ (c ∷ []))) (p + 1) cs
letter_more q s p c cs h = simp h

pub letter_ends : (q : ℕ) (s : List ℕ) (p c : ℕ) (cs : List ℕ) → (letter c || digit c) ≡ false →
    scan (letters q s) p (c ∷ cs) ≡ name_token q s ∷ scan idle p (c ∷ cs)
letter_ends q s p c cs h = simp h

pub sign_at : (p c : ℕ) (cs : List ℕ) → digit c ≡ false → letter c ≡ false → scan idle p (c ∷ cs) ≡ sign p c ++ scan idle (p + 1) cs
sign_at p c cs d l = simp (d, l)

-- ---- a run of bytes
prefix_yes : (test : ℕ → Bool) (c : ℕ) (cs : List ℕ) → test c ≡ true → prefix_len test (c ∷ cs) ≡ suc (prefix_len test cs)
prefix_yes test c cs h = let e : prefix_len test (c ∷ cs) ≡ 1 + prefix_len test cs = simp h in omega arith

prefix_no : (test : ℕ → Bool) (c : ℕ) (cs : List ℕ) → test c ≡ false → prefix_len test (c ∷ cs) ≡ 0
prefix_no test c cs h = simp h

-- the place after one byte and n more
next_place : (p n : ℕ) → (p + 1) + n ≡ p + suc n
next_place p n = omega arith

this_place : (p : ℕ) → p ≡ p + 0
this_place p = omega arith

pub over_blanks : (cs : List ℕ) (p : ℕ) → scan idle p cs ≡ scan idle (p + prefix_len blank cs) (drop (prefix_len blank cs) cs)
over_blanks [] p = refl
over_blanks (c ∷ cs) p =
    let n = prefix_len blank cs in
    elim (cases_Bool (blank c)) [
      | inl b ↦
          subst (λ m. scan idle p (c ∷ cs) ≡ scan idle (p + m) (drop m (c ∷ cs))) (sym (prefix_yes blank c cs b))
          (blank_at p c cs b ∙ (over_blanks cs (p + 1) ∙ ap (λ q. scan idle q (drop n cs)) (next_place p n)))
      | inr b ↦
          subst (λ m. scan idle p (c ∷ cs) ≡ scan idle (p + m) (drop m (c ∷ cs))) (sym (prefix_no blank c cs b))
          (ap (λ q. scan idle q (c ∷ cs)) (this_place p))
    ]

-- The number that n and more digits are worth, as `worth` counts it.
abbrev more_worth : ℕ → List ℕ → ℕ
more_worth n cs = fold (λ m c. 10 * m + (c - 48)) n cs

pub over_digits : (cs : List ℕ) (q n p : ℕ) →
    scan (digits q n) p cs ≡ number_token q (more_worth n (take (prefix_len digit cs) cs)) ∷ scan idle (p + prefix_len digit cs) (drop (prefix_len digit cs) cs)
over_digits [] q n p = refl
over_digits (c ∷ cs) q n p =
    let k = prefix_len digit cs in
    elim (cases_Bool (digit c)) [
      | inl b ↦
          subst (λ m. scan (digits q n) p (c ∷ cs) ≡ number_token q (more_worth n (take m (c ∷ cs))) ∷ scan idle (p + m) (drop m (c ∷ cs))) (sym (prefix_yes digit c cs b))
          (digit_more q n p c cs b ∙ (over_digits cs q (10 * n + (c - 48)) (p + 1)
          ∙ ap (λ i. number_token q (more_worth (10 * n + (c - 48)) (take k cs)) ∷ scan idle i (drop k cs)) (next_place p k)))
      | inr b ↦
          subst (λ m. scan (digits q n) p (c ∷ cs) ≡ number_token q (more_worth n (take m (c ∷ cs))) ∷ scan idle (p + m) (drop m (c ∷ cs))) (sym (prefix_no digit c cs b))
          (digit_ends q n p c cs b ∙ ap (λ i. number_token q n ∷ scan idle i (c ∷ cs)) (this_place p))
    ]

abbrev pub in_name : ℕ → Bool
in_name c = letter c || digit c

pub over_letters : (cs : List ℕ) (q : ℕ) (s : List ℕ) (p : ℕ) →
    scan (letters q s) p cs ≡ name_token q (s ++ take (prefix_len in_name cs) cs) ∷ scan idle (p + prefix_len in_name cs) (drop (prefix_len in_name cs) cs)
over_letters [] q s p = ap (λ l. name_token q l ∷ []) (sym (append-nil s))
over_letters (c ∷ cs) q s p =
    let k = prefix_len in_name cs in
    elim (cases_Bool (letter c || digit c)) [
      | inl b ↦
          subst (λ m. scan (letters q s) p (c ∷ cs) ≡ name_token q (s ++ take m (c ∷ cs)) ∷ scan idle (p + m) (drop m (c ∷ cs))) (sym (prefix_yes in_name c cs b))
          (letter_more q s p c cs b ∙ (over_letters cs q (s ++ (c ∷ [])) (p + 1)
          ∙ (ap (λ i. name_token q ((s ++ (c ∷ [])) ++ take k cs) ∷ scan idle i (drop k cs)) (next_place p k)
          ∙ ap (λ l. name_token q l ∷ scan idle (p + suc k) (drop k cs)) (append_assoc s (c ∷ []) (take k cs)))))
      | inr b ↦
          subst (λ m. scan (letters q s) p (c ∷ cs) ≡ name_token q (s ++ take m (c ∷ cs)) ∷ scan idle (p + m) (drop m (c ∷ cs))) (sym (prefix_no in_name c cs b))
          (letter_ends q s p c cs b ∙ (ap (λ i. name_token q s ∷ scan idle i (c ∷ cs)) (this_place p)
          ∙ ap (λ l. name_token q l ∷ scan idle (p + 0) (c ∷ cs)) (sym (append-nil s))))
    ]

-- ---- what bytes begin with
pub goes : (text : List ℕ) (k : Kind) (p e : ℕ) → IsToken k → then_from text k p e ≡ token_of text k p e ∷ tokens_from text e
goes text (Number n) p e t = refl
goes text Name p e t = refl
goes text (Operator o) p e t = refl
goes text (Word w) p e t = refl
goes text (Bad c) p e t = refl
goes text End p e t = absurd t

pub proper : (k : Kind) (n len : ℕ) → IsToken k → 0 < n → Proper k 0 n len
proper (Number n) e len t h = h
proper Name e len t h = h
proper (Operator o) e len t h = h
proper (Word w) e len t h = h
proper (Bad c) e len t h = h
proper End e len t h = absurd t

-- the same at a place further on
pub proper_at : (k : Kind) (n len p all : ℕ) → p + len ≡ all → Proper k 0 n len → Proper k p (p + n) all
proper_at (Number n) e len p all g h = omega arith
proper_at Name e len p all g h = omega arith
proper_at (Operator o) e len p all g h = omega arith
proper_at (Word w) e len p all g h = omega arith
proper_at (Bad c) e len p all g h = omega arith
proper_at End e len p all g h = omega arith

part_of : (text cs : List ℕ) (p n : ℕ) → drop p text ≡ cs → between p (p + n) text ≡ take n cs
part_of text cs p n e = let g : (p + n) - p ≡ n = omega arith in ap (λ m. take m (drop p text)) g ∙ ap (take n) e

rest_of : (text cs : List ℕ) (p n : ℕ) → drop p text ≡ cs → drop n cs ≡ drop (p + n) text
rest_of text cs p n e = ap (drop n) (sym e) ∙ drop-drop n p text

-- bytes whose first n are a token of the kind k
pub begins : (cs : List ℕ) (k : Kind) (n : ℕ) (t : ℕ → List Token) → 0 < n → n ≤ length cs → Stands t (take n cs) k → Unbroken cs 0 n →
    ((p : ℕ) → scan idle p cs ≡ t p ++ scan idle (p + n) (drop n cs)) → Begins cs k n
begins cs k n t a b s u r = record {
  fits = b;
  proper = proper k n (length cs) s.1.0 a;
  small = s.1.1;
  unbroken = u;
  reads = λ text p e. ap (scan idle p) e ∙ (r p ∙ (ap (λ ts. ts ++ scan idle (p + n) (drop n cs)) (s.0 text p (p + n) (part_of text cs p n e))
      ∙ (ap (λ l. token_of text k p (p + n) ∷ scan idle (p + n) l) (rest_of text cs p n e) ∙ sym (goes text k p (p + n) s.1.0))));
}

-- digits and letters are no blanks
pub solid : (c : ℕ) → 48 ≤ c → blank c ≡ false
solid c h =
    elim (cases_Bool (blank c)) [
      | inl b ↦
          let by : (d : ℕ) → d ≤ 32 → eqb c d ≡ true → ⊥ = λ d g e. let q = eqb-true c d e in omega arith in
          absurd (elim (or_cases _ _ b) [
            | inl a ↦ by 32 (omega arith) a
            | inr r ↦
                elim (or_cases _ _ r) [
                  | inl a ↦ by 9 (omega arith) a
                  | inr r ↦
                      elim (or_cases _ _ r) [ inl a ↦ by 13 (omega arith) a | inr a ↦ by 10 (omega arith) a ]
                ]
          ])
      | inr b ↦ b
    ]

pub digit_solid : (c : ℕ) → digit c ≡ true → blank c ≡ false
digit_solid c h = solid c (leb-true 48 c (and_parts _ _ h).0)

pub letter_solid : (c : ℕ) → letter c ≡ true → blank c ≡ false
letter_solid c h =
    elim (or_cases (leb 97 c && leb c 122) (leb 65 c && leb c 90) h) [
      | inl a ↦ let g = leb-true 97 c (and_parts (leb 97 c) (leb c 122) a).0 in solid c (omega arith)
      | inr a ↦ let g = leb-true 65 c (and_parts (leb 65 c) (leb c 90) a).0 in solid c (omega arith)
    ]

pub name_solid : (c : ℕ) → in_name c ≡ true → blank c ≡ false
name_solid c h = elim (or_cases (letter c) (digit c) h) [ inl a ↦ letter_solid c a | inr a ↦ digit_solid c a ]

-- the classes of std, whose letters stand the other way round
or_swap : (x y : Bool) → (x || y) ≡ (y || x)
or_swap true true = refl
or_swap true false = refl
or_swap false true = refl
or_swap false false = refl

pub letter_is : (c : ℕ) → is_ascii_alphabetic c ≡ letter c
letter_is c = or_swap (leb 65 c && leb c 90) (leb 97 c && leb c 122)

or_turn : (x y z : Bool) → ((x || y) || z) ≡ ((z || y) || x)
or_turn true y true = refl
or_turn true true false = refl
or_turn true false false = refl
or_turn false true true = refl
or_turn false false true = refl
or_turn false true false = refl
or_turn false false false = refl

pub in_name_is : (c : ℕ) → is_ascii_alphanumeric c ≡ in_name c
in_name_is c = or_turn (leb 48 c && leb c 57) (leb 65 c && leb c 90) (leb 97 c && leb c 122)

-- ---- a number and a name
-- A run that bytes begin with: how long it is.
pub run_is : (test : ℕ → Bool) (cs : List ℕ) (n : ℕ) → n ≤ length cs → ((k : ℕ) → k < n → test (get_or cs k 0) ≡ true) →
    (n < length cs → test (get_or cs n 0) ≡ false) → prefix_len test cs ≡ n
run_is test cs n b h g = prefix_len_is test cs n 0 b h g

pub unbroken_by : (test : ℕ → Bool) (cs : List ℕ) (n : ℕ) → ((c : ℕ) → test c ≡ true → blank c ≡ false) →
    ((k : ℕ) → k < n → test (get_or cs k 0) ≡ true) → Unbroken cs 0 n
unbroken_by test cs n f h k a b = f (get_or cs k 0) (h k b)

number_at : (cs : List ℕ) (p : ℕ) → 0 < length cs → digit (get_or cs 0 0) ≡ true →
    scan idle p cs ≡ number_token p (worth (take (prefix_len digit cs) cs)) ∷ scan idle (p + prefix_len digit cs) (drop (prefix_len digit cs) cs)
number_at [] p l h = absurd (omega arith)
number_at (c ∷ cs) p l h =
    let k = prefix_len digit cs in
    subst (λ m. scan idle p (c ∷ cs) ≡ number_token p (worth (take m (c ∷ cs))) ∷ scan idle (p + m) (drop m (c ∷ cs))) (sym (prefix_yes digit c cs h))
    (digit_begins p c cs h ∙ (ap (λ n. scan (digits p n) (p + 1) cs) (let e : c - 48 ≡ 0 + (c - 48) = omega arith in e) ∙ (over_digits cs p (0 + (c - 48)) (p + 1)
    ∙ ap (λ i. number_token p (more_worth (0 + (c - 48)) (take k cs)) ∷ scan idle i (drop k cs)) (next_place p k))))

name_at : (cs : List ℕ) (p : ℕ) → 0 < length cs → letter (get_or cs 0 0) ≡ true → digit (get_or cs 0 0) ≡ false →
    scan idle p cs ≡ name_token p (take (prefix_len in_name cs) cs) ∷ scan idle (p + prefix_len in_name cs) (drop (prefix_len in_name cs) cs)
name_at [] p l h d = absurd (omega arith)
name_at (c ∷ cs) p l h d =
    let k = prefix_len in_name cs in
    subst (λ m. scan idle p (c ∷ cs) ≡ name_token p (take m (c ∷ cs)) ∷ scan idle (p + m) (drop m (c ∷ cs))) (sym (prefix_yes in_name c cs (or_left _ _ h)))
    (letter_begins p c cs h d ∙ (over_letters cs p (c ∷ []) (p + 1)
    ∙ ap (λ i. name_token p (c ∷ take k cs) ∷ scan idle i (drop k cs)) (next_place p k)))

first_in : (test : ℕ → Bool) (cs : List ℕ) (n : ℕ) → 0 < length cs → test (get_or cs 0 0) ≡ true →
    (n < length cs → test (get_or cs n 0) ≡ false) → 0 < n
first_in test cs zero l h g = absurd (let e = sym h ∙ g l in cc)
first_in test cs (suc n) l h g = omega arith

pub number_begins : (cs : List ℕ) (k : Kind) (n : ℕ) → 0 < length cs → digit (get_or cs 0 0) ≡ true →
    n ≤ length cs → ((i : ℕ) → i < n → digit (get_or cs i 0) ≡ true) → (n < length cs → digit (get_or cs n 0) ≡ false) →
    Stands (λ p. number_token p (worth (take n cs)) ∷ []) (take n cs) k → Begins cs k n
number_begins cs k n l d b h g s =
    begins cs k n _ (first_in digit cs n l d g) b s (unbroken_by digit cs n digit_solid h)
    (λ p. subst (λ m. scan idle p cs ≡ number_token p (worth (take m cs)) ∷ scan idle (p + m) (drop m cs)) (run_is digit cs n b h g) (number_at cs p l d))

pub name_begins : (cs : List ℕ) (k : Kind) (n : ℕ) → 0 < length cs → letter (get_or cs 0 0) ≡ true → digit (get_or cs 0 0) ≡ false →
    n ≤ length cs → ((i : ℕ) → i < n → in_name (get_or cs i 0) ≡ true) → (n < length cs → in_name (get_or cs n 0) ≡ false) →
    Stands (λ p. name_token p (take n cs) ∷ []) (take n cs) k → Begins cs k n
name_begins cs k n l d z b h g s =
    begins cs k n _ (first_in in_name cs n l (or_left _ _ d) g) b s (unbroken_by in_name cs n name_solid h)
    (λ p. subst (λ m. scan idle p cs ≡ name_token p (take m cs) ∷ scan idle (p + m) (drop m cs)) (run_is in_name cs n b h g) (name_at cs p l d z))

pub sign_begins : (cs : List ℕ) (k : Kind) → 0 < length cs → digit (get_or cs 0 0) ≡ false → letter (get_or cs 0 0) ≡ false →
    blank (get_or cs 0 0) ≡ false → Stands (λ p. sign p (get_or cs 0 0)) (get_or cs 0 0 ∷ []) k → Begins cs k 1
sign_begins [] k l d z b s = absurd (omega arith)
sign_begins (c ∷ cs) k l d z b s =
    begins (c ∷ cs) k 1 _ (omega arith) (omega arith) s
    (λ i a h. let e : 0 ≡ i = omega arith in subst (λ j. blank (get_or (c ∷ cs) j 0) ≡ false) e b)
    (λ p. sign_at p c cs d z)

pub end_begins : (cs : List ℕ) → length cs ≡ 0 → Begins cs End 0
end_begins [] e = record { fits = omega arith; proper = refl; small = tt; unbroken = λ k a b. absurd (omega arith); reads = λ text p g. ap (scan idle p) g }
end_begins (c ∷ cs) e = absurd (omega arith)

-- ---- a number that is too large
worth_rises : (cs : List ℕ) (n : ℕ) → n ≤ more_worth n cs
worth_rises [] n = omega arith
worth_rises (c ∷ cs) n = let h = worth_rises cs (10 * n + (c - 48)) in omega arith

-- the first digits are worth no more than all
worth_front : (cs : List ℕ) (i n : ℕ) → more_worth n (take i cs) ≤ more_worth n cs
worth_front cs zero n = worth_rises cs n
worth_front [] (suc i) n = worth_rises [] n
worth_front (c ∷ cs) (suc i) n = worth_front cs i (10 * n + (c - 48))

pub number_large : (cs : List ℕ) (i : ℕ) → 268435455 < worth (take i cs) → Stands (λ p. number_token p (worth cs) ∷ []) cs (Bad NumberTooLarge)
number_large cs i h =
    let f = worth_front cs i 0 in let g : 268435455 < worth cs = omega arith in
    ((λ text p e b. rw (lt-leb (worth cs) 268435455 g) refl), (tt, tt))

-- ---- reserved words
-- The length and the bytes of s are those of no reserved word.
pub record Unreserved (s : List ℕ) : Type 0 where
  pub not_let : length s ≡ 3 → get_or s 0 0 ≡ 108 → get_or s 1 0 ≡ 101 → get_or s 2 0 ≡ 116 → ⊥
  pub not_in : length s ≡ 2 → get_or s 0 0 ≡ 105 → get_or s 1 0 ≡ 110 → ⊥
  pub not_ifp : length s ≡ 3 → get_or s 0 0 ≡ 105 → get_or s 1 0 ≡ 102 → get_or s 2 0 ≡ 112 → ⊥
  pub not_then : length s ≡ 4 → get_or s 0 0 ≡ 116 → get_or s 1 0 ≡ 104 → get_or s 2 0 ≡ 101 → get_or s 3 0 ≡ 110 → ⊥
  pub not_else : length s ≡ 4 → get_or s 0 0 ≡ 101 → get_or s 1 0 ≡ 108 → get_or s 2 0 ≡ 115 → get_or s 3 0 ≡ 101 → ⊥
  pub not_div : length s ≡ 3 → get_or s 0 0 ≡ 100 → get_or s 1 0 ≡ 105 → get_or s 2 0 ≡ 118 → ⊥
  pub not_weigh : length s ≡ 5 → get_or s 0 0 ≡ 119 → get_or s 1 0 ≡ 101 → get_or s 2 0 ≡ 105 → get_or s 3 0 ≡ 103 → get_or s 4 0 ≡ 104 → ⊥

unspelled : (s w : List ℕ) → (s ≡ w → ⊥) → bytes_eq s w ≡ false
unspelled s w h = elim (cases_Bool (bytes_eq s w)) [ inl e ↦ absurd (h ((bytes_eq-Decides s w).0 e)) | inr e ↦ e ]

reads : (s w : List ℕ) (i : ℕ) → s ≡ w → get_or s i 0 ≡ get_or w i 0
reads s w i e = ap (λ t. get_or t i 0) e

pub plain_name : (s : List ℕ) → Unreserved s → length s ≤ 16 → Stands (λ p. name_token p s ∷ []) s Name
plain_name s u l =
    let a = unspelled s (codes "let") (λ e. u.not_let (ap length e) (reads s _ 0 e) (reads s _ 1 e) (reads s _ 2 e)) in
    let b = unspelled s (codes "in") (λ e. u.not_in (ap length e) (reads s _ 0 e) (reads s _ 1 e)) in
    let c = unspelled s (codes "ifp") (λ e. u.not_ifp (ap length e) (reads s _ 0 e) (reads s _ 1 e) (reads s _ 2 e)) in
    let d = unspelled s (codes "then") (λ e. u.not_then (ap length e) (reads s _ 0 e) (reads s _ 1 e) (reads s _ 2 e) (reads s _ 3 e)) in
    let f = unspelled s (codes "else") (λ e. u.not_else (ap length e) (reads s _ 0 e) (reads s _ 1 e) (reads s _ 2 e) (reads s _ 3 e)) in
    let g = unspelled s (codes "div") (λ e. u.not_div (ap length e) (reads s _ 0 e) (reads s _ 1 e) (reads s _ 2 e)) in
    let h = unspelled s (codes "weigh") (λ e. u.not_weigh (ap length e) (reads s _ 0 e) (reads s _ 1 e) (reads s _ 2 e) (reads s _ 3 e) (reads s _ 4 e)) in
    ((λ text p e b'. simp (a, b, c, d, f, g, h, le-leb (length s) 16 l) (ap (λ t. AName (record { place = p; name = t }) ∷ []) (sym b'))), (tt, tt))

-- ---- the text
pub after_blanks : (text cs : List ℕ) (at from n : ℕ) → cs ≡ drop from text → from ≡ min at (length text) → n ≤ length cs →
    ((k : ℕ) → k < n → blank (get_or cs k 0) ≡ true) → (n < length cs → blank (get_or cs n 0) ≡ false) →
    tokens_from text at ≡ tokens_from text (from + n)
after_blanks text cs at from n e m b h g =
    let same : tokens_from text at ≡ tokens_from text from =
    elim (cases_lt at (length text)) [
      | inl l ↦ ap (tokens_from text) (let q : at ≡ from = omega arith in q)
      | inr l ↦ ap (scan idle at) (drop_all at text l) ∙ sym (ap (scan idle from) (drop_all from text (omega arith)))
    ] in
    same ∙ (ap (scan idle from) (sym e) ∙ (subst (λ k. scan idle from cs ≡ scan idle (from + k) (drop k cs)) (run_is blank cs n b h g) (over_blanks cs from)
    ∙ ap (scan idle (from + n)) (rest_of text cs from n (sym e))))

pub not_blank : (text cs ds : List ℕ) (from n : ℕ) → cs ≡ drop from text → ds ≡ drop (from + n) text →
    (n < length cs → blank (get_or cs n 0) ≡ false) → 0 < length ds → blank (get_or ds 0 0) ≡ false
not_blank text cs ds from n e f g l =
    let q : ds ≡ drop n cs = f ∙ sym (rest_of text cs from n (sym e)) in
    let a : get_or ds 0 0 ≡ get_or cs (n + 0) 0 = ap (λ t. get_or t 0 0) q ∙ get_or-drop n cs 0 0 in
    let b : n + 0 ≡ n = omega arith in
    let c : length ds ≡ length cs - n = ap length q ∙ length-drop n cs in
    ap blank (a ∙ ap (λ i. get_or cs i 0) b) ∙ g (omega arith)

pub unbroken_at : (text ds : List ℕ) (p n : ℕ) → ds ≡ drop p text → Unbroken ds 0 n → Unbroken text p (p + n)
unbroken_at text ds p n e u k a b =
    let g : p + (k - p) ≡ k = omega arith in
    let h : get_or ds (k - p) 0 ≡ get_or text k 0 = ap (λ t. get_or t (k - p) 0) e ∙ (get_or-drop p text (k - p) 0 ∙ ap (λ i. get_or text i 0) g) in
    sym (ap blank h) ∙ u (k - p) (omega arith) (omega arith)
