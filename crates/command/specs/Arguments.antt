-- The arguments of a command, read one after another from the words after its name. V names the commands, and W what
-- one wants at a place.
use Rattle.std.specs.Prelude.{ℕ, cond, List, [], ◌∷◌, Some, Ok, Err, Option, Result}
use Rattle.std.specs.Borrow.{Bor}
use Rattle.std.specs.Option.{ok_or}
use Rattle.command.specs.declared.misread.Misread.{Misread}
use Rattle.command.specs.declared.misread.Misread.TheVariants.{Missing, Wrong, TooMany}
use Rattle.command.specs.Words.{later, none}

-- One reading after another: the first that fails says why.
abbrev pub given : {A B E : Type 0} → Result A E → (A → Result B E) → Result B E
given (Ok a) next = next a
given (Err m) next = Err m

-- The first word, where the command wants an argument.
abbrev pub argument : {V W A : Type 0} → V → W → (List ℕ → Option A) → List (List ℕ) → Result A (Misread V W)
argument v a read [] = Err (Missing v a)
argument v a read (w ∷ ws) = ok_or (read w) (Wrong v a)

-- What was read, where no word is left.
abbrev pub ended : {V W A : Type 0} → V → List (List ℕ) → A → Result A (Misread V W)
ended v ws x = cond (none ws) (Ok x) (Err (TooMany v))

-- One argument, and no word more.
abbrev pub sole : {V W A : Type 0} → V → W → (List ℕ → Option A) → List (List ℕ) → Result A (Misread V W)
sole v a read ws = given (argument v a read ws) (ended v (later ws))

-- Any word.
abbrev pub word_in : List ℕ → Option (List ℕ)
word_in w = Some w

-- What the program holds of a word that it read.
abbrev pub heard : {E : Type 0} → Result (Bor (List ℕ)) E → Result (List ℕ) E
heard (Ok w) = Ok w.now
heard (Err m) = Err m
