-- Which stage a refusal comes from, by the number of its cause.
use Rattle.std.proofs.Common.{◌≡◌, ℕ, ◌+◌, ◌≤◌, Bool, true, false, cond, ◌&&◌, ◌||◌, eqb, ltb, leb, ◌⊎◌, List, [], ◌∷◌, ◌++◌, length, Some, codes, sym, refl, inl, inr, arith}
use mathlib.Core.Option.{Option, none, some}
use Rattle.std.specs.Str.{bytes_eq}
use Rattle.recipe.specs.declared.cause.Refusal.{Refusal}
use Rattle.recipe.specs.Causes.{Cause, cause_number, UnknownName}
use Rattle.recipe.specs.Tokens.{Op, Word, Ident, Literal, Token, Number, Name, Operator, TheWord, Bad, Run, idle, digits, letters, goes_on, ended, own, after, made, scan, tokens, sign, number_token, name_token, digit, letter, blank, place}
use Rattle.recipe.specs.Tokens.{all_tokens, Verdict, fine, wrong}
use Rattle.recipe.specs.Grammar.{Expr, num, var, op, let_in, ifp, call, weigh, group, Arguments, one, more, Declaration, declare, Recipe, recipe}
use Rattle.recipe.specs.Machine.{State, stuck, start, first_head, head_open, head_name, head_next, head_equals, want, let_name, let_equals}
use Rattle.recipe.specs.Machine.{operand, weighed, named, after_product, after_sum, after_expr, feed, finish}
use Rattle.recipe.specs.Limits.{size, size_or_none, depth, counted, judged, reading}
use Rattle.recipe.specs.Names.{Signature, fault_unless, call_faults, arity_of, count, faults, faults_of, twice, among, all, declared_names, signatures, body_faults, names_of, recipe_faults}
use Rattle.recipe.specs.Names.{before, sooner, earliest, first_fault}
use Rattle.recipe.specs.Frames.{need, frames, recipe_frames}
use Rattle.recipe.specs.Image.{image}
use Rattle.recipe.specs.Compiled.{Answer, accepted, refused, then, understood, compiled, compile_answer}
use Rattle.recipe.proofs.Sound.{end_wrong, unless_wrong}

either : {A : Type 0} (P : A → Type 0) (b : Bool) {x y : A} → P x → P y → P (cond b x y)
either P true p q = p
either P false p q = q

-- What is no token is refused for one of the causes 2 to 4.
data Lexical : Token → Type 0 where
  by_number : {n : Literal} → Lexical (Number n)
  by_name : {x : Ident} → Lexical (Name x)
  by_operator : {p : ℕ} {o : Op} → Lexical (Operator p o)
  by_word : {p : ℕ} {w : Word} → Lexical (TheWord p w)
  by_cause : {p c : ℕ} → 2 ≤ c → c ≤ 4 → Lexical (Bad p c)

data AllLexical : List Token → Type 0 where
  no_more : AllLexical []
  one_more : {t : Token} {ts : List Token} → Lexical t → AllLexical ts → AllLexical (t ∷ ts)

lexical-++ : (ts us : List Token) → AllLexical ts → AllLexical us → AllLexical (ts ++ us)
lexical-++ [] us no_more b = b
lexical-++ (t ∷ ts) us (one_more h a) b = one_more h (lexical-++ ts us a b)

of_digits : (p n : ℕ) → Lexical (number_token p n)
of_digits p n = either Lexical (leb n 268435455) by_number (by_cause {c = 3} (omega arith) (omega arith))

of_letters : (p : ℕ) (s : List ℕ) → Lexical (name_token p s)
of_letters p s =
    either Lexical (bytes_eq s (codes "let")) by_word
    (either Lexical (bytes_eq s (codes "in")) by_word
    (either Lexical (bytes_eq s (codes "ifp")) by_word
    (either Lexical (bytes_eq s (codes "then")) by_word
    (either Lexical (bytes_eq s (codes "else")) by_word
    (either Lexical (bytes_eq s (codes "div")) by_operator
    (either Lexical (bytes_eq s (codes "weigh")) by_word
    (either Lexical (leb (length s) 16) by_name (by_cause {c = 4} (omega arith) (omega arith)))))))))

of_sign : (p c : ℕ) → AllLexical (sign p c)
of_sign p c =
    either AllLexical (eqb c 40) (one_more by_word no_more)
    (either AllLexical (eqb c 41) (one_more by_word no_more)
    (either AllLexical (eqb c 44) (one_more by_word no_more)
    (either AllLexical (eqb c 61) (one_more by_word no_more)
    (either AllLexical (eqb c 43) (one_more by_operator no_more)
    (either AllLexical (eqb c 45) (one_more by_operator no_more)
    (either AllLexical (eqb c 42) (one_more by_operator no_more)
    (either AllLexical (blank c) no_more (one_more (by_cause {c = 2} (omega arith) (omega arith)) no_more))))))))

of_run : (r : Run) → AllLexical (ended r)
of_run idle = no_more
of_run (digits p n) = one_more (of_digits p n) no_more
of_run (letters p s) = one_more (of_letters p s) no_more

of_byte : (r : Run) (p c : ℕ) → AllLexical (made r p c)
of_byte r p c =
    either AllLexical (goes_on r c) no_more
    (lexical-++ (ended r) (own p c) (of_run r) (either AllLexical (digit c || letter c) no_more (of_sign p c)))

of_scan : (r : Run) (p : ℕ) (cs : List ℕ) → AllLexical (scan r p cs)
of_scan r p [] = of_run r
of_scan r p (c ∷ cs) = lexical-++ (made r p c) (scan (after r p c) (p + 1) cs) (of_byte r p c) (of_scan (after r p c) (p + 1) cs)

tokens_cause : (ts : List Token) (c p : ℕ) → AllLexical ts → all_tokens ts ≡ wrong c p → (2 ≤ c) × (c ≤ 4)
tokens_cause [] c p no_more e = absurd cc
tokens_cause (Number n ∷ ts) c p (one_more h a) e = tokens_cause ts c p a e
tokens_cause (Name x ∷ ts) c p (one_more h a) e = tokens_cause ts c p a e
tokens_cause (Operator q o ∷ ts) c p (one_more h a) e = tokens_cause ts c p a e
tokens_cause (TheWord q w ∷ ts) c p (one_more h a) e = tokens_cause ts c p a e
tokens_cause (Bad q d ∷ ts) c p (one_more (by_cause g h) a) e = let k : d ≡ c = cc in (omega arith, omega arith)

-- Names are refused for one of the causes 9 to 13.
abbrev OfNames : Refusal → Type 0
OfNames f = (9 ≤ cause_number f.cause) × (cause_number f.cause ≤ 13)

abbrev AllNames : List Refusal → Type 0
AllNames [] = Unit {0}
AllNames (f ∷ fs) = OfNames f × AllNames fs

names-++ : (fs gs : List Refusal) → AllNames fs → AllNames gs → AllNames (fs ++ gs)
names-++ [] gs a b = b
names-++ (f ∷ fs) gs a b = (a.0, names-++ fs gs a.1 b)

unless_names : (b : Bool) (p : ℕ) (c : Cause) → OfNames (record { place = p; cause = c }) → AllNames (fault_unless b p c)
unless_names true p c h = tt
unless_names false p c h = (h, tt)

call_names : (a : Option ℕ) (n p : ℕ) → AllNames (call_faults a n p)
call_names none n p = ((omega arith, omega arith), tt)
call_names (some a) n p = unless_names (eqb a n) p _ (omega arith, omega arith)

mutual
  expr_names : (F : List Signature) (N : List (List ℕ)) (e : Expr) → AllNames (faults F N e)
  expr_names F N (num n) = tt
  expr_names F N (var x) = unless_names (among N x.name) x.place UnknownName (omega arith, omega arith)
  expr_names F N (op o a b) = names-++ (faults F N a) (faults F N b) (expr_names F N a) (expr_names F N b)
  expr_names F N (let_in x a b) = names-++ (faults F N a) (faults F (x.name ∷ N) b) (expr_names F N a) (expr_names F (x.name ∷ N) b)
  expr_names F N (ifp c a b) =
      names-++ (faults F N c) (faults F N a ++ faults F N b) (expr_names F N c)
      (names-++ (faults F N a) (faults F N b) (expr_names F N a) (expr_names F N b))
  expr_names F N (call f es) =
      names-++ (call_faults (arity_of F f.name) (count es) f.place) (faults_of F N es)
      (call_names (arity_of F f.name) (count es) f.place) (arguments_names F N es)
  expr_names F N (weigh n) = unless_names (leb 1 n.value && leb n.value 64) n.place _ (omega arith, omega arith)
  expr_names F N (group e) = expr_names F N e

  arguments_names : (F : List Signature) (N : List (List ℕ)) (es : Arguments) → AllNames (faults_of F N es)
  arguments_names F N (one e) = expr_names F N e
  arguments_names F N (more es e) = names-++ (faults_of F N es) (faults F N e) (arguments_names F N es) (expr_names F N e)

twice_names : (earlier : List (List ℕ)) (xs : List Ident) → AllNames (twice earlier xs)
twice_names earlier [] = tt
twice_names earlier (x ∷ xs) =
    names-++ _ (twice (x.name ∷ earlier) xs) (either AllNames (among earlier x.name) ((omega arith, omega arith), tt) tt)
    (twice_names (x.name ∷ earlier) xs)

bodies_names : (F : List Signature) (ds : List Declaration) → AllNames (body_faults F ds)
bodies_names F [] = tt
bodies_names F (declare f xs e ∷ ds) =
    names-++ (twice [] (all xs)) (faults F (names_of (all xs)) e ++ body_faults F ds) (twice_names [] (all xs))
    (names-++ (faults F (names_of (all xs)) e) (body_faults F ds) (expr_names F (names_of (all xs)) e) (bodies_names F ds))

recipe_names : (r : Recipe) → AllNames (recipe_faults r)
recipe_names (recipe ds p e) =
    let F = signatures (all ds) in
    names-++ (twice [] (declared_names (all ds))) (body_faults F (all ds) ++ faults F [] e) (twice_names [] (declared_names (all ds)))
    (names-++ (body_faults F (all ds)) (faults F [] e) (bodies_names F (all ds)) (expr_names F [] e))

found_names : (f : Refusal) (fs : List Refusal) → OfNames f → AllNames fs → (l : Refusal) × (earliest (Some f) fs ≡ Some l) × OfNames l
found_names f [] h a = (f, refl, h)
found_names f (g ∷ gs) h a = found_names (sooner f g) gs (either OfNames (before f g) h a.0) a.1

names_cause : (fs : List Refusal) (c p : ℕ) → AllNames fs → first_fault fs ≡ wrong c p → (9 ≤ c) × (c ≤ 13)
names_cause [] c p a e = absurd cc
names_cause (f ∷ fs) c p a e =
    let l = found_names f fs a.0 a.1 in
    let k = l.1 in
    let h : cause_number l.0.cause ≡ c = cc in
    let b = l.2 in (omega arith, omega arith)

-- Frames are refused for the cause 12.
frame_cause : (b : Bool) (v : Verdict Unit) (q c p : ℕ) → (v ≡ wrong c p → c ≡ 12) → cond b v (wrong 12 q) ≡ wrong c p → c ≡ 12
frame_cause true v q c p k e = k e
frame_cause false v q c p k e = cc

no_frame : (c p : ℕ) → ◌≡◌ {A = Verdict Unit} (fine tt) (wrong c p) → c ≡ 12
no_frame c p e = absurd cc

frames_cause : (ds : List Declaration) (q : ℕ) (e : Expr) (c p : ℕ) → frames ds q e ≡ wrong c p → c ≡ 12
frames_cause [] q e c p h = frame_cause (leb (need e) 32) (fine tt) q c p (no_frame c p) h
frames_cause (declare f xs b ∷ ds) q e c p h =
    frame_cause (leb (length (all xs) + need b) 32) (frames ds q e) f.place c p (frames_cause ds q e c p) h

recipe_frames_cause : (r : Recipe) (c p : ℕ) → recipe_frames r ≡ wrong c p → c ≡ 12
recipe_frames_cause (recipe ds q e) c p h = frames_cause (all ds) q e c p h

-- The reading refuses for one of the causes 5 to 14.
data Judged : ℕ → Type 0 where
  passes : Judged 0
  fails : {c : ℕ} → 5 ≤ c → c ≤ 14 → Judged c

nesting_cause : (b c : Bool) → Judged (cond b (cond c 0 14) 6)
nesting_cause b c = either Judged b (either Judged c passes (fails (omega arith) (omega arith))) (fails (omega arith) (omega arith))

judged_cause : (q : State) (n : ℕ) → Judged (judged q n)
judged_cause stuck n = fails (omega arith) (omega arith)
judged_cause start n = passes
judged_cause first_head n = passes
judged_cause (head_open earlier f) n = either Judged (leb (size_or_none earlier) 31) passes (fails (omega arith) (omega arith))
judged_cause (head_name earlier f xs) n = passes
judged_cause (head_next earlier f xs) n = either Judged (leb (size xs) 8) passes (fails (omega arith) (omega arith))
judged_cause (head_equals earlier f xs) n = passes
judged_cause (want around) n = nesting_cause (leb (depth around) 32) (leb n 2000)
judged_cause (let_name around) n = nesting_cause (leb (depth around) 31) (leb n 2000)
judged_cause (let_equals x around) n = passes
judged_cause (operand sum product around) n = either Judged (leb n 2000) passes (fails (omega arith) (omega arith))
judged_cause (weighed sum product around) n = either Judged (leb n 2000) passes (fails (omega arith) (omega arith))
judged_cause (named sum product x around) n = either Judged (leb n 2000) passes (fails (omega arith) (omega arith))
judged_cause (after_product sum e around) n = either Judged (leb n 2000) passes (fails (omega arith) (omega arith))
judged_cause (after_sum e around) n = either Judged (leb n 2000) passes (fails (omega arith) (omega arith))
judged_cause (after_expr e around) n = either Judged (leb n 2000) passes (fails (omega arith) (omega arith))

judged_some : (c : ℕ) → Judged c → (c ≡ 0 → ⊥) → (5 ≤ c) × (c ≤ 14)
judged_some c passes h = absurd (h refl)
judged_some c (fails a b) h = (a, b)

reading_cause : (len : ℕ) (ts : List Token) (q : State) (n c p : ℕ) → reading len q n ts ≡ wrong c p → (5 ≤ c) × (c ≤ 14)
reading_cause len [] q n c p e = let h = end_wrong len c p (finish q) e in (omega arith, omega arith)
reading_cause len (t ∷ ts) q n c p e =
    let j = judged (feed q t) (counted q t n) in
    elim (unless_wrong j (place t) c p _ e) [
      | inl u ↦ reading_cause len ts (feed q t) (counted q t n) c p u.1
      | inr u ↦ let h = u.0 in let k = judged_some j (judged_cause (feed q t) (counted q t n)) u.2 in (omega arith, omega arith)
    ]

-- The causes 5 to 8 and 14 come from the reading.
abbrev Reads : ℕ → Type 0
Reads c = ((5 ≤ c) × (c ≤ 8)) ⊎ (c ≡ 14)

no_other : (c : ℕ) → Reads c → ((c ≡ 1) ⊎ ((c ≡ 15) ⊎ (((2 ≤ c) × (c ≤ 4)) ⊎ ((9 ≤ c) × (c ≤ 13))))) → ⊥
no_other c (inl a) (inl h) = omega arith
no_other c (inr a) (inl h) = omega arith
no_other c (inl a) (inr (inl h)) = omega arith
no_other c (inr a) (inr (inl h)) = omega arith
no_other c (inl a) (inr (inr (inl h))) = omega arith
no_other c (inr a) (inr (inr (inl h))) = omega arith
no_other c (inl a) (inr (inr (inr h))) = omega arith
no_other c (inr a) (inr (inr (inr h))) = omega arith

then_refused : {A : Type 0} (v : Verdict A) (next : A → Answer) (c p : ℕ) → then v next ≡ refused c p →
    (v ≡ wrong c p) ⊎ ((a : A) × (v ≡ fine a) × (next a ≡ refused c p))
then_refused (fine a) next c p e = inr (a, refl, e)
then_refused (wrong d q) next c p e = let h : d ≡ c = cc in let k : q ≡ p = cc in inl (cc)

never_refused : (ws : List ℕ) (c p : ℕ) → accepted ws ≡ refused c p → ⊥
never_refused ws c p e = cc

of_frames : (r : Recipe) (c p : ℕ) → then (recipe_frames r) (λ _. accepted (image r)) ≡ refused c p → Reads c → ⊥
of_frames r c p e k =
    elim (then_refused (recipe_frames r) _ c p e) [
      | inl h ↦ let g = recipe_frames_cause r c p h in no_other c k (inr (inr (inr (omega arith, omega arith))))
      | inr h ↦ never_refused (image r) c p h.2
    ]

of_names : (r : Recipe) (c p : ℕ) → then (first_fault (recipe_faults r)) (λ _. then (recipe_frames r) (λ _. accepted (image r))) ≡ refused c p →
    Reads c → ⊥
of_names r c p e k =
    elim (then_refused (first_fault (recipe_faults r)) _ c p e) [
      | inl h ↦ no_other c k (inr (inr (inr (names_cause (recipe_faults r) c p (recipe_names r) h))))
      | inr h ↦ of_frames r c p h.2 k
    ]

of_understood : (text : List ℕ) (c p : ℕ) → understood text ≡ refused c p → Reads c → reading (length text) start 0 (tokens text) ≡ wrong c p
of_understood text c p e k =
    elim (then_refused (reading (length text) start 0 (tokens text)) _ c p e) [
      | inl h ↦ h
      | inr h ↦ absurd (of_names h.0 c p h.2 k)
    ]

of_compiled : (text : List ℕ) (c p : ℕ) → compiled text ≡ refused c p → Reads c → reading (length text) start 0 (tokens text) ≡ wrong c p
of_compiled text c p e k =
    elim (then_refused (all_tokens (tokens text)) _ c p e) [
      | inl h ↦ absurd (no_other c k (inr (inr (inl (tokens_cause (tokens text) c p (of_scan idle 0 text) h)))))
      | inr h ↦ of_understood text c p h.2 k
    ]

-- A text that was let in is refused for one of the causes 2 to 14.
pub late_cause : (text : List ℕ) (c p : ℕ) → compiled text ≡ refused c p → (2 ≤ c) × (c ≤ 14)
late_cause text c p e =
    elim (then_refused (all_tokens (tokens text)) _ c p e) [
      | inl h ↦ let k = tokens_cause (tokens text) c p (of_scan idle 0 text) h in (omega arith, omega arith)
      | inr f ↦ elim (then_refused (reading (length text) start 0 (tokens text)) _ c p f.2) [
        | inl h ↦ let k = reading_cause (length text) (tokens text) start 0 c p h in (omega arith, omega arith)
        | inr g ↦ elim (then_refused (first_fault (recipe_faults g.0)) _ c p g.2) [
          | inl h ↦ let k = names_cause (recipe_faults g.0) c p (recipe_names g.0) h in (omega arith, omega arith)
          | inr i ↦ elim (then_refused (recipe_frames g.0) _ c p i.2) [
            | inl h ↦ let k = recipe_frames_cause g.0 c p h in (omega arith, omega arith)
            | inr h ↦ absurd (never_refused (image g.0) c p h.2)
          ]
        ]
      ]
    ]

refused_or : (b : Bool) (d q c p : ℕ) (a : Answer) → cond b (refused d q) a ≡ refused c p → (d ≡ c) ⊎ (a ≡ refused c p)
refused_or true d q c p a e = inl (cc)
refused_or false d q c p a e = inr e

pub from_reading : (text : List ℕ) (i t c p : ℕ) → compile_answer text i t ≡ refused c p → ((5 ≤ c) × (c ≤ 8)) ⊎ (c ≡ 14) →
    reading (length text) start 0 (tokens text) ≡ wrong c p
from_reading text i t c p e k =
    elim (refused_or (ltb 60000 (length text)) 1 60000 c p _ e) [
      | inl h ↦ absurd (no_other c k (inl (sym h)))
      | inr f ↦ elim (refused_or (ltb i 4096 || ltb t 2000) 15 0 c p (compiled text) f) [
        | inl h ↦ absurd (no_other c k (inr (inl (sym h))))
        | inr g ↦ of_compiled text c p g k
      ]
    ]
