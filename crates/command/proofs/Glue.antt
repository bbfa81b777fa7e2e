-- The words of a line: each is one, they miss no byte of it, and only a blank parts two.
use Rattle.std.proofs.Common.{◌≡◌, ℕ, Bool, true, false, not, List, [], ◌∷◌, ◌++◌, sym, refl, ap, ◌∙◌, append-nil, arith}
use Rattle.std.specs.List.{AllByRecursion}
use Rattle.std.proofs.lemmas.Bool.{not-true, both_ways}
use Rattle.command.specs.Words.{blank, in_word, placed, words, none}
use Rattle.command.specs.Laws.{Word, glued, unless, without_blanks, CutIntoWords}
use Rattle.command.proofs.Cuts.{word_then, some_word}

each_placed : (t next : Bool) (b : ℕ) (ws : List (List ℕ)) → blank b ≡ t → AllByRecursion Word ws → AllByRecursion Word (placed t next b ws)
each_placed true next b ws e h = h
each_placed false false b ws e h = ((omega arith, (e, tt)), h)
each_placed false true b [] e h = ((omega arith, (e, tt)), tt)
each_placed false true b (w ∷ ws) e h = ((omega arith, (e, h.0.1)), h.1)

pub each_word : (line : List ℕ) → AllByRecursion Word (words line)
each_word [] = tt
each_word (b ∷ bs) = each_placed (blank b) (in_word bs) b (words bs) refl (each_word bs)

glued_placed : (t next : Bool) (b : ℕ) (ws : List (List ℕ)) → glued (placed t next b ws) ≡ unless t b (glued ws)
glued_placed true next b ws = refl
glued_placed false false b ws = refl
glued_placed false true b [] = refl
glued_placed false true b (w ∷ ws) = refl

all_glued : (line : List ℕ) → glued (words line) ≡ without_blanks line
all_glued [] = refl
all_glued (b ∷ bs) = glued_placed (blank b) (in_word bs) b (words bs) ∙ ap (unless (blank b) b) (all_glued bs)

whole_word : (line : List ℕ) → Word line → words line ≡ line ∷ []
whole_word [] h = absurd (omega arith)
whole_word (b ∷ w) h = sym (ap (λ t. words (b ∷ t)) (append-nil w)) ∙ word_then b w [] h.1 refl

-- Words that follow do not change how a byte is put before some words.
placed_before : (t next : Bool) (b : ℕ) (ws us : List (List ℕ)) → (next ≡ true → none ws ≡ false) → placed t next b (ws ++ us) ≡ placed t next b ws ++ us
placed_before true next b ws us h = refl
placed_before false false b ws us h = refl
placed_before false true b [] us h = absurd (both_ways true (h refl) refl)
placed_before false true b (w ∷ ws) us h = refl

word_there : (bs : List ℕ) → in_word bs ≡ true → none (words bs) ≡ false
word_there [] h = absurd (both_ways false refl h)
word_there (b ∷ bs) h = some_word b bs (not-true (blank b) h)

in_word_before : (bs after : List ℕ) (b : ℕ) → blank b ≡ true → in_word (bs ++ (b ∷ after)) ≡ in_word bs
in_word_before [] after b h = ap not h
in_word_before (c ∷ bs) after b h = refl

parted_words : (before after : List ℕ) (b : ℕ) → blank b ≡ true → words (before ++ (b ∷ after)) ≡ words before ++ words after
parted_words [] after b h = λ i. placed (h i) (in_word after) b (words after)
parted_words (c ∷ before) after b h =
    (λ i. placed (blank c) (in_word_before before after b h i) c (parted_words before after b h i)) ∙
    placed_before (blank c) (in_word before) c (words before) (words after) (word_there before)

pub cut_into_words : (line : List ℕ) → CutIntoWords line
cut_into_words line =
    record {
      each = each_word line;
      all = all_glued line;
      parted = λ before after b e h. ap words e ∙ parted_words before after b h;
      whole = whole_word line;
    }
