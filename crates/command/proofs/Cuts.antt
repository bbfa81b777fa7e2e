-- Where the words of a text are cut.
use Rattle.std.proofs.Common.{◌≡◌, ℕ, suc, ◌+◌, ◌<◌, ◌≤◌, Bool, true, false, not, cond, ◌&&◌, List, [], ◌∷◌, ◌++◌, length, take, drop, ltb, Some, None, Option, sym, refl, ap, ◌∙◌, subst, arith, take-append-drop}
use Rattle.std.specs.List.{AllByRecursion, position_or_len, prefix_len, list_all}
use Rattle.std.proofs.lemmas.List.{drop_all}
use Rattle.std.proofs.lemmas.Bool.{both_ways, ltb-true, ltb-false}
use Rattle.command.specs.Words.{blank, in_word, joined, placed, words, none}

abbrev pub Clear : List ℕ → Type 0
Clear w = AllByRecursion (λ b. blank b ≡ false) w

-- A word, and then no byte of it.
pub word_then : (b : ℕ) (w rest : List ℕ) → Clear (b ∷ w) → in_word rest ≡ false → words (b ∷ (w ++ rest)) ≡ (b ∷ w) ∷ words rest
word_then b [] rest h e = λ i. placed (h.0 i) (e i) b (words rest)
word_then b (c ∷ w) rest h e = λ i. placed (h.0 i) (not (h.1.0 i)) b (word_then c w rest h.1 e i)

some_joined : (next : Bool) (b : ℕ) (ws : List (List ℕ)) → none (joined next b ws) ≡ false
some_joined true b [] = refl
some_joined true b (w ∷ ws) = refl
some_joined false b ws = refl

pub some_word : (b : ℕ) (bs : List ℕ) → blank b ≡ false → none (words (b ∷ bs)) ≡ false
some_word b bs h = (λ i. none (placed (h i) (in_word bs) b (words bs))) ∙ some_joined (in_word bs) b (words bs)

-- How many blanks stand at the front, and how many bytes of a word.
abbrev pub blanks : List ℕ → ℕ
blanks bs = position_or_len (λ b. not (blank b)) bs

abbrev pub word_len : List ℕ → ℕ
word_len bs = prefix_len (λ b. not (blank b)) bs

drop_one : (n b : ℕ) (bs : List ℕ) → drop (1 + n) (b ∷ bs) ≡ drop n bs
drop_one n b bs = let e : 1 + n ≡ suc n = omega arith in rw e refl

take_one : (n b : ℕ) (bs : List ℕ) → take (1 + n) (b ∷ bs) ≡ b ∷ take n bs
take_one n b bs = let e : 1 + n ≡ suc n = omega arith in rw e refl

-- A text has no word just where all of it is blanks.
all_more : (t : Bool) (b : ℕ) (bs : List ℕ) → blank b ≡ t → list_all blank bs ≡ none (words bs) → list_all blank (b ∷ bs) ≡ none (words (b ∷ bs))
all_more true b bs e h = ap (λ t. t && list_all blank bs) e ∙ (h ∙ sym (ap (λ t. none (placed t (in_word bs) b (words bs))) e))
all_more false b bs e h = ap (λ t. t && list_all blank bs) e ∙ sym (some_word b bs e)

pub none_left : (bs : List ℕ) → list_all blank bs ≡ none (words bs)
none_left [] = refl
none_left (b ∷ bs) = all_more (blank b) b bs refl (none_left bs)

-- Blanks at the front are in no word.
past_more : (t : Bool) (b : ℕ) (bs : List ℕ) → blank b ≡ t → words (drop (blanks bs) bs) ≡ words bs → words (drop (blanks (b ∷ bs)) (b ∷ bs)) ≡ words (b ∷ bs)
past_more true b bs e h =
    ap (λ t. words (drop (cond (not (not t)) (1 + blanks bs) 0) (b ∷ bs))) e ∙ (ap words (drop_one (blanks bs) b bs) ∙ (h ∙ sym (ap (λ t. placed t (in_word bs) b (words bs)) e)))
past_more false b bs e h = ap (λ t. words (drop (cond (not (not t)) (1 + blanks bs) 0) (b ∷ bs))) e

pub past_blanks : (bs : List ℕ) → words (drop (blanks bs) bs) ≡ words bs
past_blanks [] = refl
past_blanks (b ∷ bs) = past_more (blank b) b bs refl (past_blanks bs)

-- What follows them begins with a byte of a word, if it has any.
starts_more : (t : Bool) (b : ℕ) (bs : List ℕ) → blank b ≡ t → (blanks bs < length bs → in_word (drop (blanks bs) bs) ≡ true) →
    blanks (b ∷ bs) < length (b ∷ bs) → in_word (drop (blanks (b ∷ bs)) (b ∷ bs)) ≡ true
starts_more true b bs e h s =
    ap (λ t. in_word (drop (cond (not (not t)) (1 + blanks bs) 0) (b ∷ bs))) e ∙
    ap in_word (drop_one (blanks bs) b bs) ∙ h (omega (arith, ap (λ t. cond (not (not t)) (1 + blanks bs) 0) e))
starts_more false b bs e h s = ap (λ t. in_word (drop (cond (not (not t)) (1 + blanks bs) 0) (b ∷ bs))) e ∙ ap not e

starts : (bs : List ℕ) → blanks bs < length bs → in_word (drop (blanks bs) bs) ≡ true
starts [] s = absurd (omega arith)
starts (b ∷ bs) s = starts_more (blank b) b bs refl (starts bs) s

-- A word ends where a blank stands, or the text ends.
clear_more : (t : Bool) (b : ℕ) (bs : List ℕ) → blank b ≡ t → Clear (take (word_len bs) bs) → Clear (take (word_len (b ∷ bs)) (b ∷ bs))
clear_more true b bs e h = subst (λ (t : Bool). Clear (take (cond (not t) (1 + word_len bs) 0) (b ∷ bs))) (sym e) tt
clear_more false b bs e h = subst (λ (t : Bool). Clear (take (cond (not t) (1 + word_len bs) 0) (b ∷ bs))) (sym e) (subst Clear (sym (take_one (word_len bs) b bs)) (e, h))

clear : (bs : List ℕ) → Clear (take (word_len bs) bs)
clear [] = tt
clear (b ∷ bs) = clear_more (blank b) b bs refl (clear bs)

ends_more : (t : Bool) (b : ℕ) (bs : List ℕ) → blank b ≡ t → in_word (drop (word_len bs) bs) ≡ false → in_word (drop (word_len (b ∷ bs)) (b ∷ bs)) ≡ false
ends_more true b bs e h = ap (λ t. in_word (drop (cond (not t) (1 + word_len bs) 0) (b ∷ bs))) e ∙ ap not e
ends_more false b bs e h = ap (λ t. in_word (drop (cond (not t) (1 + word_len bs) 0) (b ∷ bs))) e ∙ (ap in_word (drop_one (word_len bs) b bs) ∙ h)

ends : (bs : List ℕ) → in_word (drop (word_len bs) bs) ≡ false
ends [] = refl
ends (b ∷ bs) = ends_more (blank b) b bs refl (ends bs)

first_cut : (w rest : List ℕ) → Clear w → in_word rest ≡ false → in_word (w ++ rest) ≡ true → words (w ++ rest) ≡ w ∷ words rest
first_cut [] rest h e s = absurd (both_ways (in_word rest) e s)
first_cut (b ∷ w) rest h e s = word_then b w rest h e

-- A text that begins with a byte of a word has it as its first word.
word_first : (bs : List ℕ) → in_word bs ≡ true → words bs ≡ take (word_len bs) bs ∷ words (drop (word_len bs) bs)
word_first bs s =
    let whole = take-append-drop (word_len bs) bs in
    sym (ap words whole) ∙ first_cut (take (word_len bs) bs) (drop (word_len bs) bs) (clear bs) (ends bs) (ap in_word whole ∙ s)

-- The first word of a line, and what is left after it.
pub first_word : (line text : List ℕ) → text ≡ drop (blanks line) line → blanks line < length line →
    words line ≡ take (word_len text) text ∷ words (drop (word_len text) text)
first_word line text is some =
    sym (past_blanks line) ∙ (sym (ap words is) ∙ word_first text (ap in_word is ∙ starts line some))

pub no_word : (line : List ℕ) → length line ≤ blanks line → words line ≡ []
no_word line h = sym (past_blanks line) ∙ ap words (drop_all (blanks line) line h)

-- What a search for the place n before the end m has found.
found : (t : Bool) (n k : ℕ) → Some k ≡ cond t (Some n) None → (t ≡ true) × (k ≡ n)
found true n k e = (refl, cc)
found false n k e = let z : ◌≡◌ {A = ℕ} 0 1 = cc in absurd (omega arith)

pub place_some : (n m k : ℕ) → Some k ≡ cond (ltb n m) (Some n) None → (k ≡ n) × (n < m)
place_some n m k e = let p = found (ltb n m) n k e in (p.1, ltb-true n m p.0)

missed : (t : Bool) (n : ℕ) → ◌≡◌ {A = Option ℕ} None (cond t (Some n) None) → t ≡ false
missed true n e = let z : ◌≡◌ {A = ℕ} 0 1 = cc in absurd (omega arith)
missed false n e = refl

pub place_none : (n m : ℕ) → ◌≡◌ {A = Option ℕ} None (cond (ltb n m) (Some n) None) → m ≤ n
place_none n m e = ltb-false n m (missed (ltb n m) n e)
