-- What holds of the words of any line, and of any number.
use Rattle.std.specs.Prelude.{◌≡◌, ℕ, ◌^◌, ◌<◌, Bool, true, false, List, [], ◌∷◌, ◌++◌, length, Some}
use Rattle.std.specs.List.{AllByRecursion}
use Rattle.command.specs.Words.{blank, words}
use Rattle.command.specs.Numbers.{number_in}

-- One byte or more, and no blank among them.
abbrev pub Word : List ℕ → Type 0
Word w = (0 < length w) × AllByRecursion (λ b. blank b ≡ false) w

abbrev pub glued : List (List ℕ) → List ℕ
glued [] = []
glued (w ∷ ws) = w ++ glued ws

abbrev pub unless : Bool → ℕ → List ℕ → List ℕ
unless true b bs = bs
unless false b bs = b ∷ bs

abbrev pub without_blanks : List ℕ → List ℕ
without_blanks [] = []
without_blanks (b ∷ bs) = unless (blank b) b (without_blanks bs)

pub record CutIntoWords (line : List ℕ) : Type 0 where
  -- each is a word
  pub each : AllByRecursion Word (words line)
  -- glued together they are the line without its blanks
  pub all : glued (words line) ≡ without_blanks line
  -- a blank parts the words before it from those after it
  pub parted : (before after : List ℕ) (b : ℕ) → line ≡ before ++ (b ∷ after) → blank b ≡ true → words line ≡ words before ++ words after
  -- nothing else does
  pub whole : Word line → words line ≡ line ∷ []

-- A number has a place in 32 bits.
abbrev pub Bounded : List ℕ → Type 0
Bounded w = (n : ℕ) → number_in w ≡ Some n → n < 2 ^ 32
