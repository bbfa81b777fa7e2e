-- What the next token promises.
use Rattle.std.specs.Prelude.{◌≡◌, ℕ, ◌+◌, ◌-◌, ◌*◌, ◌<◌, ◌≤◌, false, List, [], ◌∷◌, length, drop, slice_index}
use Rattle.std.specs.List.{between, fold}
use Rattle.recipe.specs.Causes.{cause_number}
use Rattle.recipe.specs.Tokens.{Token, Number as ANumber, Name as AName, Operator as AnOperator, TheWord, Bad as ABad}
use Rattle.recipe.specs.Tokens.{scan, idle, blank}
use Rattle.lexer.specs.declared.Kind.{Kind}
use Rattle.lexer.specs.declared.Kind.TheVariants.{Number, Name, Operator, Word, Bad, End}
use Rattle.lexer.specs.declared.Lexeme.{Lexeme}

-- The tokens of what stands from the place i on, with no run going on there. Past the end of the text there are none.
abbrev pub tokens_from : List ℕ → ℕ → List Token
tokens_from text i = scan idle i (drop i text)

-- The token of a kind that takes the bytes from p to e. (The end is no token; here it stands for one that no text has.)
abbrev pub token_of : List ℕ → Kind → ℕ → ℕ → Token
token_of text (Number n) p e = ANumber (record { place = p; value = n })
token_of text Name p e = AName (record { place = p; name = between p e text })
token_of text (Operator o) p e = AnOperator p o
token_of text (Word w) p e = TheWord p w
token_of text (Bad cause) p e = ABad p (cause_number cause)
token_of text End p e = ABad p 0

-- all kinds but the end
abbrev pub IsToken : Kind → Type 0
IsToken (Number n) = Unit {0}
IsToken Name = Unit {0}
IsToken (Operator o) = Unit {0}
IsToken (Word w) = Unit {0}
IsToken (Bad cause) = Unit {0}
IsToken End = ⊥

-- A number has a value that a word can hold.
abbrev pub Small : Kind → Type 0
Small (Number n) = n ≤ 268435455
Small Name = Unit {0}
Small (Operator o) = Unit {0}
Small (Word w) = Unit {0}
Small (Bad cause) = Unit {0}
Small End = Unit {0}

-- A token that takes the bytes from p to e, and the tokens after it; the end, and none.
abbrev pub then_from : List ℕ → Kind → ℕ → ℕ → List Token
then_from text (Number n) p e = token_of text (Number n) p e ∷ tokens_from text e
then_from text Name p e = token_of text Name p e ∷ tokens_from text e
then_from text (Operator o) p e = token_of text (Operator o) p e ∷ tokens_from text e
then_from text (Word w) p e = token_of text (Word w) p e ∷ tokens_from text e
then_from text (Bad cause) p e = token_of text (Bad cause) p e ∷ tokens_from text e
then_from text End p e = []

-- The tokens from a lexeme on, itself the first.
abbrev pub rest : List ℕ → Lexeme → List Token
rest text l = then_from text l.kind l.start l.end

-- A token takes a byte at least; the end stands at the text's length.
abbrev pub Proper : Kind → ℕ → ℕ → ℕ → Type 0
Proper (Number n) p e len = p < e
Proper Name p e len = p < e
Proper (Operator o) p e len = p < e
Proper (Word w) p e len = p < e
Proper (Bad cause) p e len = p < e
Proper End p e len = p ≡ len

abbrev pub Valid : List ℕ → Lexeme → Type 0
Valid text l = (l.start ≤ l.end) × (l.end ≤ length text) × Proper l.kind l.start l.end (length text)

-- No blank stands from p to e. With the tokens that follow, this says where a token ends.
abbrev pub Unbroken : List ℕ → ℕ → ℕ → Type 0
Unbroken text p e = (k : ℕ) → p ≤ k → k < e → blank (slice_index text k) ≡ false

-- What is promised of the next token from the place `at` on.
pub record Promised (text : List ℕ) (at : ℕ) (l : Lexeme) : Type 0 where
  pub valid : Valid text l
  pub reads : tokens_from text at ≡ rest text l
  pub unbroken : Unbroken text l.start l.end

-- One lexeme alone meets that.
abbrev pub OneAnswer : Type 0
OneAnswer =
    (text : List ℕ) (at : ℕ) (l m : Lexeme) → Promised text at l → Promised text at m →
    (l.kind ≡ m.kind) × (l.start ≡ m.start) × (l.end ≡ m.end)

-- The number that digits are worth.
abbrev pub worth : List ℕ → ℕ
worth cs = fold (λ n c. 10 * n + (c - 48)) 0 cs

-- The kind k is a token, and the one that the bytes cs are wherever they stand, where at the place p they give t p.
abbrev pub Stands : (ℕ → List Token) → List ℕ → Kind → Type 0
Stands t cs k = ((text : List ℕ) (p e : ℕ) → between p e text ≡ cs → t p ≡ token_of text k p e ∷ []) × ((IsToken k) × (Small k))

-- The bytes cs begin with a token of the kind k that takes n of them, and no blank stands among these; no byte is the end.
pub record Begins (cs : List ℕ) (k : Kind) (n : ℕ) : Type 0 where
  pub fits : n ≤ length cs
  pub proper : Proper k 0 n (length cs)
  pub small : Small k
  pub unbroken : Unbroken cs 0 n
  pub reads : (text : List ℕ) (p : ℕ) → drop p text ≡ cs → tokens_from text p ≡ then_from text k p (p + n)
