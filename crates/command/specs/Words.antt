-- The words of a line: its longest runs of bytes that are no blanks.
use Rattle.std.specs.Prelude.{ℕ, Bool, true, false, not, ◌||◌, List, [], ◌∷◌, ◌==◌}

-- Space, tab and carriage return.
abbrev pub blank : ℕ → Bool
blank b = b == 32 || (b == 9 || b == 13)

-- Whether a text begins with a byte of a word.
abbrev pub in_word : List ℕ → Bool
in_word [] = false
in_word (b ∷ bs) = not (blank b)

-- A byte put in front of the first word.
abbrev pub lengthened : ℕ → List (List ℕ) → List (List ℕ)
lengthened b [] = (b ∷ []) ∷ []
lengthened b (w ∷ ws) = (b ∷ w) ∷ ws

-- A byte of a word, before the words of the bytes after it: it belongs to the first of them where the next byte is in a word too.
abbrev pub joined : Bool → ℕ → List (List ℕ) → List (List ℕ)
joined true b ws = lengthened b ws
joined false b ws = (b ∷ []) ∷ ws

-- The same of any byte: a blank is in no word.
abbrev pub placed : Bool → Bool → ℕ → List (List ℕ) → List (List ℕ)
placed true next b ws = ws
placed false next b ws = joined next b ws

abbrev pub words : List ℕ → List (List ℕ)
words [] = []
words (b ∷ bs) = placed (blank b) (in_word bs) b (words bs)

-- The first word, with no byte where there is none; and the words after it.
abbrev pub first : List (List ℕ) → List ℕ
first [] = []
first (w ∷ ws) = w

abbrev pub later : List (List ℕ) → List (List ℕ)
later [] = []
later (w ∷ ws) = ws

abbrev pub none : List (List ℕ) → Bool
none [] = true
none (w ∷ ws) = false
