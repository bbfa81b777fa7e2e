-- The numbers that refusals of a recipe text are reported by.
use Rattle.std.specs.Prelude.{ℕ}
pub use Rattle.recipe.specs.declared.cause.Cause.{Cause}
pub use Rattle.recipe.specs.declared.cause.Cause.TheVariants.{TextTooLong, NoRoom, UnknownByte, NumberTooLarge, NameTooLong}
pub use Rattle.recipe.specs.declared.cause.Cause.TheVariants.{Grammar, Nesting, Functions, Parameters, Constructs}
pub use Rattle.recipe.specs.declared.cause.Cause.TheVariants.{DeclaredTwice, UnknownName, ArgumentCount, Channel, Frame}

abbrev pub cause_number : Cause → ℕ
-- before the text is read: it has over 60,000 bytes; the image has under 4,096 words, or the work table under 2,000
cause_number TextTooLong = 1
cause_number NoRoom = 15
-- over the tokens: a byte that begins none; a number over 268,435,455; a name over 16 bytes
cause_number UnknownByte = 2
cause_number NumberTooLarge = 3
cause_number NameTooLong = 4
-- over the grammar: no text has the token there; nesting over 32; over 32 functions; over 8 parameters; over 2,000 constructs
cause_number Grammar = 5
cause_number Nesting = 6
cause_number Functions = 7
cause_number Parameters = 8
cause_number Constructs = 14
-- over the names: a function, or a parameter of one head, declared twice; no such name; a call's number of arguments;
-- a channel outside 1 to 64
cause_number DeclaredTwice = 9
cause_number UnknownName = 10
cause_number ArgumentCount = 11
cause_number Channel = 13
-- over the frames: one that comes to hold over 32 values
cause_number Frame = 12

-- What a stage says: it is fine, and this is what it made; or it is wrong, by the number of a cause, at a place in the text.
pub data Verdict (A : Type 0) : Type 0 where
  fine : A → Verdict A
  wrong : ℕ → ℕ → Verdict A
