-- Recipe text, byte by byte, to tokens with their places. A token's place is the offset of its first byte.
use Rattle.std.specs.Prelude.{ℕ, ◌+◌, ◌-◌, ◌*◌, Bool, false, cond, ◌&&◌, ◌||◌, List, [], ◌∷◌, ◌++◌, length, codes, ◌==◌, nat_le}
use Rattle.std.specs.Str.{bytes_eq}
use Rattle.recipe.specs.Causes.{cause_number, UnknownByte, NumberTooLarge, NameTooLong}
pub use Rattle.recipe.specs.Causes.{Verdict, fine, wrong}
pub use Rattle.recipe.specs.declared.Op.{Op}
pub use Rattle.recipe.specs.declared.Op.TheVariants.{Plus, Minus, Times, Over}
pub use Rattle.recipe.specs.declared.Word.{Word}
pub use Rattle.recipe.specs.declared.Word.TheVariants.{Let, In, Ifp, Then, Else, Weigh, Open, Close, Comma, Equals}

-- A name and a number as they stand in the text: where, and its bytes or its value.
pub record Ident : Type 0 where
  pub place : ℕ
  pub name : List ℕ

pub record Literal : Type 0 where
  pub place : ℕ
  pub value : ℕ

-- A token: a number; a name; an operator (+ - * div); any other reserved word or sign.
-- `Bad place cause`: what begins at that place is no token, for the cause of that number.
pub data Token : Type 0 where
  Number : Literal → Token
  Name : Ident → Token
  Operator : ℕ → Op → Token
  TheWord : ℕ → Word → Token
  Bad : ℕ → ℕ → Token

abbrev pub place : Token → ℕ
place (Number n) = n.place
place (Name x) = x.place
place (Operator p o) = p
place (TheWord p w) = p
place (Bad p c) = p

-- Blanks are space, tab, carriage return and line feed.
abbrev pub blank : ℕ → Bool
blank c = c == 32 || (c == 9 || (c == 13 || c == 10))

-- 0 to 9
abbrev pub digit : ℕ → Bool
digit c = nat_le 48 c && nat_le c 57

-- a to z, A to Z
abbrev pub letter : ℕ → Bool
letter c = (nat_le 97 c && nat_le c 122) || (nat_le 65 c && nat_le c 90)

-- The token of a whole run of digits that begins at the place p and is worth n. Its leading zeros play no part.
abbrev pub number_token : ℕ → ℕ → Token
number_token p n = cond (nat_le n 268435455) (Number (record { place = p; value = n })) (Bad p (cause_number NumberTooLarge))

-- The token of a whole run of letters and digits that begins at the place p with a letter: a reserved word, or a name of at most 16 bytes.
abbrev pub name_token : ℕ → List ℕ → Token
name_token p s =
    cond (bytes_eq s (codes "let")) (TheWord p Let)
    (cond (bytes_eq s (codes "in")) (TheWord p In)
    (cond (bytes_eq s (codes "ifp")) (TheWord p Ifp)
    (cond (bytes_eq s (codes "then")) (TheWord p Then)
    (cond (bytes_eq s (codes "else")) (TheWord p Else)
    (cond (bytes_eq s (codes "div")) (Operator p Over)
    (cond (bytes_eq s (codes "weigh")) (TheWord p Weigh)
    (cond (nat_le (length s) 16) (Name (record { place = p; name = s })) (Bad p (cause_number NameTooLong)))))))))

-- What a byte gives that is neither a digit nor a letter: one of the signs ( ) , = + - *, nothing for a blank, and else an unknown byte.
abbrev pub sign : ℕ → ℕ → List Token
sign p c =
    cond (c == 40) (TheWord p Open ∷ [])
    (cond (c == 41) (TheWord p Close ∷ [])
    (cond (c == 44) (TheWord p Comma ∷ [])
    (cond (c == 61) (TheWord p Equals ∷ [])
    (cond (c == 43) (Operator p Plus ∷ [])
    (cond (c == 45) (Operator p Minus ∷ [])
    (cond (c == 42) (Operator p Times ∷ [])
    (cond (blank c) [] (Bad p (cause_number UnknownByte) ∷ []))))))))

-- The run that is going on, if any: where it began, and its value or its bytes so far.
pub data Run : Type 0 where
  idle : Run
  digits : ℕ → ℕ → Run
  letters : ℕ → List ℕ → Run

-- Runs are as long as they can be: a digit goes on with either, a letter only with one that began with a letter.
abbrev pub goes_on : Run → ℕ → Bool
goes_on idle c = false
goes_on (digits p n) c = digit c
goes_on (letters p s) c = letter c || digit c

-- the run with the byte c, which goes on with it
abbrev pub longer : Run → ℕ → Run
longer idle c = idle
longer (digits p n) c = digits p (10 * n + (c - 48))
longer (letters p s) c = letters p (s ++ (c ∷ []))

-- the token of a run that is over
abbrev pub ended : Run → List Token
ended idle = []
ended (digits p n) = number_token p n ∷ []
ended (letters p s) = name_token p s ∷ []

-- A byte at the place p that does not go on with the run before it begins a run,
abbrev pub begun : ℕ → ℕ → Run
begun p c = cond (digit c) (digits p (c - 48)) (cond (letter c) (letters p (c ∷ [])) idle)

-- or stands alone.
abbrev pub own : ℕ → ℕ → List Token
own p c = cond (digit c || letter c) [] (sign p c)

-- The run after the byte c at the place p, and the tokens that are then whole.
abbrev pub after : Run → ℕ → ℕ → Run
after r p c = cond (goes_on r c) (longer r c) (begun p c)

abbrev pub made : Run → ℕ → ℕ → List Token
made r p c = cond (goes_on r c) [] (ended r ++ own p c)

-- `scan r p cs`: the tokens of the bytes `cs`, which stand from the place p on, where the run r is going on.
abbrev pub scan : Run → ℕ → List ℕ → List Token
scan r p [] = ended r
scan r p (c ∷ cs) = made r p c ++ scan (after r p c) (p + 1) cs

abbrev pub tokens : List ℕ → List Token
tokens text = scan idle 0 text

-- The first stage over a text: the first that is no token is refused.
abbrev pub all_tokens : List Token → Verdict Unit
all_tokens [] = fine tt
all_tokens (Number n ∷ ts) = all_tokens ts
all_tokens (Name x ∷ ts) = all_tokens ts
all_tokens (Operator p o ∷ ts) = all_tokens ts
all_tokens (TheWord p w ∷ ts) = all_tokens ts
all_tokens (Bad p c ∷ ts) = wrong c p
