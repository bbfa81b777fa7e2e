-- One lexeme alone meets what is promised of the next token.
use Rattle.std.proofs.Common.{◌≡◌, ℕ, ◌+◌, ◌-◌, ◌*◌, ◌<◌, ◌≤◌, Bool, true, false, cond, ◌||◌, eqb, leb, List, [], ◌∷◌, ◌++◌, length, get_or, drop, codes, sym, refl, ap, ◌∙◌, subst, inl, inr, arith}
use Rattle.std.specs.List.{between}
use Rattle.std.specs.Str.{bytes_eq}
use Rattle.std.proofs.lemmas.List.{drop_more}
use Rattle.std.proofs.lemmas.Bool.{cases_Bool, cases_lt}
use Rattle.recipe.specs.Causes.{cause_number}
use Rattle.recipe.specs.declared.cause.Cause.{Cause}
use Rattle.recipe.specs.declared.cause.Cause.TheVariants.{TextTooLong, NoRoom, UnknownByte, NumberTooLarge, NameTooLong}
use Rattle.recipe.specs.declared.cause.Cause.TheVariants.{Grammar, Nesting, Functions, Parameters, Constructs}
use Rattle.recipe.specs.declared.cause.Cause.TheVariants.{DeclaredTwice, UnknownName, ArgumentCount, Channel, Frame}
use Rattle.recipe.specs.Tokens.{Token, Ident, Literal, Bad as ABad}
use Rattle.recipe.specs.Tokens.{place, blank, digit, letter, scan, idle, digits, letters, number_token, name_token, sign}
use Rattle.lexer.specs.Lexed.{tokens_from, then_from, Proper, Unbroken, OneAnswer}
use Rattle.lexer.specs.declared.Kind.{Kind}
use Rattle.lexer.specs.declared.Kind.TheVariants.{Number, Name, Operator, Word, Bad, End}
use Rattle.lexer.proofs.Scans.{blank_at, digit_begins, digit_more, digit_ends, letter_begins, letter_more, letter_ends, sign_at}

-- Tokens whose first stands at q.
Starts : ℕ → List Token → Type 0
Starts q ts = (t : Token) × ((us : List Token) × (ts ≡ t ∷ us) × (place t ≡ q))

starts : (q : ℕ) (t : Token) (us : List Token) → place t ≡ q → Starts q (t ∷ us)
unfolding Starts
starts q t us h = (t, (us, refl, h))

place_cond : (q : ℕ) (b : Bool) (s t : Token) → place s ≡ q → place t ≡ q → place (cond b s t) ≡ q
place_cond q true s t h g = h
place_cond q false s t h g = g

place_number : (q n : ℕ) → place (number_token q n) ≡ q
place_number q n = place_cond q (leb n 268435455) _ _ refl refl

place_name : (q : ℕ) (s : List ℕ) → place (name_token q s) ≡ q
place_name q s =
    place_cond q (bytes_eq s (codes "let")) _ _ refl (place_cond q (bytes_eq s (codes "in")) _ _ refl
    (place_cond q (bytes_eq s (codes "ifp")) _ _ refl (place_cond q (bytes_eq s (codes "then")) _ _ refl
    (place_cond q (bytes_eq s (codes "else")) _ _ refl (place_cond q (bytes_eq s (codes "div")) _ _ refl
    (place_cond q (bytes_eq s (codes "weigh")) _ _ refl (place_cond q (leb (length s) 16) _ _ refl refl)))))))

number_starts : (cs : List ℕ) (q n p : ℕ) → Starts q (scan (digits q n) p cs)
number_starts [] q n p = starts q (number_token q n) [] (place_number q n)
number_starts (c ∷ cs) q n p =
    elim (cases_Bool (digit c)) [
      | inl d ↦ subst (Starts q) (sym (digit_more q n p c cs d)) (number_starts cs q (10 * n + (c - 48)) (p + 1))
      | inr d ↦ subst (Starts q) (sym (digit_ends q n p c cs d)) (starts q (number_token q n) (scan idle p (c ∷ cs)) (place_number q n))
    ]

name_starts : (cs : List ℕ) (q : ℕ) (s : List ℕ) (p : ℕ) → Starts q (scan (letters q s) p cs)
name_starts [] q s p = starts q (name_token q s) [] (place_name q s)
name_starts (c ∷ cs) q s p =
    elim (cases_Bool (letter c || digit c)) [
      | inl d ↦ subst (Starts q) (sym (letter_more q s p c cs d)) (name_starts cs q (s ++ (c ∷ [])) (p + 1))
      | inr d ↦ subst (Starts q) (sym (letter_ends q s p c cs d)) (starts q (name_token q s) (scan idle p (c ∷ cs)) (place_name q s))
    ]

starts_cond : (q : ℕ) (rest : List Token) (b : Bool) (xs ys : List Token) → Starts q (xs ++ rest) → Starts q (ys ++ rest) →
    Starts q (cond b xs ys ++ rest)
starts_cond q rest true xs ys h g = h
starts_cond q rest false xs ys h g = g

sign_starts : (q c : ℕ) (rest : List Token) → blank c ≡ false → Starts q (sign q c ++ rest)
sign_starts q c rest h =
    let one : (t : Token) → place t ≡ q → Starts q ((t ∷ []) ++ rest) = λ t g. starts q t rest g in
    let last : Starts q (cond (blank c) [] (ABad q 2 ∷ []) ++ rest) =
    subst (λ b. Starts q (cond b [] (ABad q 2 ∷ []) ++ rest)) (sym h) (one (ABad q 2) refl) in
    starts_cond q rest (eqb c 40) _ _ (one _ refl) (starts_cond q rest (eqb c 41) _ _ (one _ refl)
    (starts_cond q rest (eqb c 44) _ _ (one _ refl) (starts_cond q rest (eqb c 61) _ _ (one _ refl)
    (starts_cond q rest (eqb c 43) _ _ (one _ refl) (starts_cond q rest (eqb c 45) _ _ (one _ refl)
    (starts_cond q rest (eqb c 42) _ _ (one _ refl) last))))))

-- what begins with a byte that is no blank begins with a token there
byte_starts : (p c : ℕ) (cs : List ℕ) → blank c ≡ false → Starts p (scan idle p (c ∷ cs))
byte_starts p c cs h =
    elim (cases_Bool (digit c)) [
      | inl d ↦ subst (Starts p) (sym (digit_begins p c cs d)) (number_starts cs p (c - 48) (p + 1))
      | inr d ↦ elim (cases_Bool (letter c)) [
        | inl l ↦ subst (Starts p) (sym (letter_begins p c cs l d)) (name_starts cs p (c ∷ []) (p + 1))
        | inr l ↦ subst (Starts p) (sym (sign_at p c cs d l)) (sign_starts p c (scan idle (p + 1) cs) h)
      ]
    ]

-- Tokens of which none stands before j at the front.
abbrev From : ℕ → List Token → Type 0
From j [] = Unit {0}
From j (t ∷ ts) = j ≤ place t

from_start : (j q : ℕ) (ts : List Token) → j ≤ q → Starts q ts → From j ts
unfolding Starts
from_start j q ts h (t, (us, e, g)) = subst (From j) (sym e) (let k : j ≤ place t = omega arith in k)

scan_from : (cs : List ℕ) (j p : ℕ) → j ≤ p → From j (scan idle p cs)
scan_from [] j p h = tt
scan_from (c ∷ cs) j p h =
    elim (cases_Bool (blank c)) [
      | inl b ↦ subst (From j) (sym (blank_at p c cs b)) (scan_from cs j (p + 1) (omega arith))
      | inr b ↦ from_start j p (scan idle p (c ∷ cs)) h (byte_starts p c cs b)
    ]

-- So a token does not end before a byte that is no blank.
never : (j e : ℕ) (ts : List Token) → e < j → From j ts → Starts e ts → ⊥
unfolding Starts
never j e ts h f (t, (us, g, q)) = let k : j ≤ place t = subst (From j) g f in omega arith

apart : (text : List ℕ) (p e f : ℕ) → p ≤ e → e < f → f ≤ length text → Unbroken text p f → tokens_from text e ≡ tokens_from text f → ⊥
apart text p e f h l b u g =
    let s : Starts e (tokens_from text e) =
    subst (λ cs. Starts e (scan idle e cs)) (sym (drop_more text e 0 (omega arith))) (byte_starts e (get_or text e 0) (drop (e + 1) text) (u e h l)) in
    never f e (tokens_from text f) l (scan_from (drop f text) f f (omega arith)) (subst (Starts e) g s)

ends_agree : (text : List ℕ) (p e p' e' : ℕ) → p ≡ p' → p ≤ e → e ≤ length text → p' ≤ e' → e' ≤ length text →
    Unbroken text p e → Unbroken text p' e' → tokens_from text e ≡ tokens_from text e' → e ≡ e'
ends_agree text p e p' e' q a b a' b' u u' g =
    elim (cases_lt e e') [
      | inl l ↦ absurd (apart text p' e e' (omega arith) l b' u' g)
      | inr l ↦ elim (cases_lt e' e) [
        | inl k ↦ absurd (apart text p e' e (omega arith) k b u (sym g))
        | inr k ↦ omega arith
      ]
    ]

-- A cause by its number.
abbrev decode : ℕ → Cause
decode n =
    cond (eqb n 1) TextTooLong
    (cond (eqb n 15) NoRoom
    (cond (eqb n 2) UnknownByte
    (cond (eqb n 3) NumberTooLarge
    (cond (eqb n 4) NameTooLong
    (cond (eqb n 5) Grammar
    (cond (eqb n 6) Nesting
    (cond (eqb n 7) Functions
    (cond (eqb n 8) Parameters
    (cond (eqb n 14) Constructs
    (cond (eqb n 9) DeclaredTwice
    (cond (eqb n 10) UnknownName
    (cond (eqb n 11) ArgumentCount
    (cond (eqb n 13) Channel
    Frame)))))))))))))

decoded : (c : Cause) → decode (cause_number c) ≡ c
decoded TextTooLong = refl
decoded NoRoom = refl
decoded UnknownByte = refl
decoded NumberTooLarge = refl
decoded NameTooLong = refl
decoded Grammar = refl
decoded Nesting = refl
decoded Functions = refl
decoded Parameters = refl
decoded Constructs = refl
decoded DeclaredTwice = refl
decoded UnknownName = refl
decoded ArgumentCount = refl
decoded Channel = refl
decoded Frame = refl

one : (text : List ℕ) (k k' : Kind) (p e p' e' : ℕ) → then_from text k p e ≡ then_from text k' p' e' →
    (p ≤ e) × (e ≤ length text) × Proper k p e (length text) → (p' ≤ e') × (e' ≤ length text) × Proper k' p' e' (length text) →
    Unbroken text p e → Unbroken text p' e' → (k ≡ k') × (p ≡ p') × (e ≡ e')
one text (Number n) (Number n') p e p' e' g v v' u u' =
    let r : ◌≡◌ {A = Literal} (record { place = p; value = n }) (record { place = p'; value = n' }) = cc in
    let q : p ≡ p' = ap (λ l. l.place) r in
    (ap (λ l. Number l.value) r, q, ends_agree text p e p' e' q v.0 v.1 v'.0 v'.1 u u' cc)
one text (Number n) Name p e p' e' g v v' u u' = absurd cc
one text (Number n) (Operator o') p e p' e' g v v' u u' = absurd cc
one text (Number n) (Word w') p e p' e' g v v' u u' = absurd cc
one text (Number n) (Bad c') p e p' e' g v v' u u' = absurd cc
one text (Number n) End p e p' e' g v v' u u' = absurd cc
one text Name (Number n') p e p' e' g v v' u u' = absurd cc
one text Name Name p e p' e' g v v' u u' =
    let r : ◌≡◌ {A = Ident} (record { place = p; name = between p e text }) (record { place = p'; name = between p' e' text }) = cc in
    let q : p ≡ p' = ap (λ l. l.place) r in
    (refl, q, ends_agree text p e p' e' q v.0 v.1 v'.0 v'.1 u u' cc)
one text Name (Operator o') p e p' e' g v v' u u' = absurd cc
one text Name (Word w') p e p' e' g v v' u u' = absurd cc
one text Name (Bad c') p e p' e' g v v' u u' = absurd cc
one text Name End p e p' e' g v v' u u' = absurd cc
one text (Operator o) (Number n') p e p' e' g v v' u u' = absurd cc
one text (Operator o) Name p e p' e' g v v' u u' = absurd cc
one text (Operator o) (Operator o') p e p' e' g v v' u u' =
    let q : p ≡ p' = cc in
    (cc, q, ends_agree text p e p' e' q v.0 v.1 v'.0 v'.1 u u' cc)
one text (Operator o) (Word w') p e p' e' g v v' u u' = absurd cc
one text (Operator o) (Bad c') p e p' e' g v v' u u' = absurd cc
one text (Operator o) End p e p' e' g v v' u u' = absurd cc
one text (Word w) (Number n') p e p' e' g v v' u u' = absurd cc
one text (Word w) Name p e p' e' g v v' u u' = absurd cc
one text (Word w) (Operator o') p e p' e' g v v' u u' = absurd cc
one text (Word w) (Word w') p e p' e' g v v' u u' =
    let q : p ≡ p' = cc in
    (cc, q, ends_agree text p e p' e' q v.0 v.1 v'.0 v'.1 u u' cc)
one text (Word w) (Bad c') p e p' e' g v v' u u' = absurd cc
one text (Word w) End p e p' e' g v v' u u' = absurd cc
one text (Bad c) (Number n') p e p' e' g v v' u u' = absurd cc
one text (Bad c) Name p e p' e' g v v' u u' = absurd cc
one text (Bad c) (Operator o') p e p' e' g v v' u u' = absurd cc
one text (Bad c) (Word w') p e p' e' g v v' u u' = absurd cc
one text (Bad c) (Bad c') p e p' e' g v v' u u' =
    let q : p ≡ p' = cc in
    (ap Bad (sym (decoded c) ∙ (ap decode (let r : cause_number c ≡ cause_number c' = cc in r) ∙ decoded c')), q, ends_agree text p e p' e' q v.0 v.1 v'.0 v'.1 u u' cc)
one text (Bad c) End p e p' e' g v v' u u' = absurd cc
one text End (Number n') p e p' e' g v v' u u' = absurd cc
one text End Name p e p' e' g v v' u u' = absurd cc
one text End (Operator o') p e p' e' g v v' u u' = absurd cc
one text End (Word w') p e p' e' g v v' u u' = absurd cc
one text End (Bad c') p e p' e' g v v' u u' = absurd cc
one text End End p e p' e' g v v' u u' = (refl, v.2 ∙ sym v'.2, (let a = v.2 in let b = v'.2 in omega arith))

pub one_answer : OneAnswer
one_answer text at l m a b =
    one text l.kind m.kind l.start l.end m.start m.end (sym a.reads ∙ b.reads) a.valid b.valid a.unbroken b.unbroken
