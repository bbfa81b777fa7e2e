-- How a refusal is printed.
use Rattle.std.specs.Prelude.{ℕ, List, ◌++◌, codes, decimal}
use Rattle.recipe.specs.Causes.{Cause, cause_number, TextTooLong, NoRoom, UnknownByte, NumberTooLarge, NameTooLong, Grammar, Nesting, Functions}
use Rattle.recipe.specs.Causes.{Parameters, Constructs, DeclaredTwice, UnknownName, ArgumentCount, Channel, Frame}
use Rattle.recipe.specs.declared.cause.Refusal.{Refusal}

abbrev pub cause_words : Cause → List ℕ
cause_words TextTooLong = codes "the text is too long"
cause_words NoRoom = codes "too little room"
cause_words UnknownByte = codes "unknown byte"
cause_words NumberTooLarge = codes "number too large"
cause_words NameTooLong = codes "name too long"
cause_words Grammar = codes "grammar"
cause_words Nesting = codes "nested too deep"
cause_words Functions = codes "too many functions"
cause_words Parameters = codes "too many parameters"
cause_words Constructs = codes "too many constructs"
cause_words DeclaredTwice = codes "declared twice"
cause_words UnknownName = codes "unknown name"
cause_words ArgumentCount = codes "number of arguments"
cause_words Channel = codes "no such channel"
cause_words Frame = codes "frame too large"

-- the cause's number, the place, and the cause in words
abbrev pub refusal_words : Refusal → List ℕ
refusal_words r = decimal (cause_number r.cause) ++ (codes " at " ++ (decimal r.place ++ (codes " " ++ cause_words r.cause)))
