-- What a line means.
use Rattle.std.specs.Prelude.{◌≡◌, ℕ, Bool, true, false, cond, List, [], ◌∷◌, ℤ, Some, None, Ok, Err, vec_items, Option, Result, ◌==◌}
use Rattle.std.specs.Option.{ok_or, option_map}
use Rattle.command.specs.declared.misread.Misread.{Misread}
use Rattle.command.specs.declared.misread.Misread.TheVariants.{Missing, Wrong}
use Rattle.command.specs.declared.types.Counting.{Counting}
use Rattle.command.specs.declared.types.Pile.{Pile}
use Rattle.command.specs.declared.types.Load.{Load}
use Rattle.command.specs.declared.types.Verb.{Verb}
use Rattle.command.specs.declared.types.Verb.TheVariants as verb
use Rattle.command.specs.declared.types.Wanted.{Wanted}
use Rattle.command.specs.declared.types.Wanted.TheVariants as wanted
use Rattle.command.specs.declared.types.Misreading.{Misreading}
use Rattle.command.specs.declared.types.Misreading.TheVariants.{UnknownCommand, Arguments}
use Rattle.command.specs.declared.types.ParseError.{ParseError}
use Rattle.command.specs.declared.types.ParseError.TheVariants as error
use Rattle.command.specs.declared.types.Command.{Command}
use Rattle.command.specs.declared.types.Command.TheVariants as the
use Rattle.command.specs.Words.{words, first, later}
use Rattle.command.specs.Numbers.{number_in, grams_in}
use Rattle.command.specs.Names.{verb_of, mark_in, pile_in, counting_in}
use Rattle.command.specs.Arguments.{given, argument, sole}

-- A command with its arguments.
pub data Asked : Type 0 where
  station : ℕ → Asked
  records : ℕ → Asked
  put : ℕ → ℤ → Bool → Asked
  raw : ℕ → ℤ → Bool → Asked
  tare : ℕ → ℤ → Asked
  interval : ℕ → Asked
  pile : Pile → Asked
  weigh : ℕ → Asked
  total : List ℕ → Asked
  arithmetic : Counting → Asked

-- A channel, grams and a mark, and no word more.
abbrev pub load : Verb → List (List ℕ) → Result Load (Misread Verb Wanted)
load v ws =
    given (argument v wanted.Channel number_in ws) (λ c.
    given (argument v wanted.Grams grams_in (later ws)) (λ g.
    given (sole v wanted.Mark mark_in (later (later ws))) (λ m. Ok (record { channel = c; grams = g; at_rest = m }))))

-- Each word a number.
abbrev pub put_before : Option ℕ → Option (List ℕ) → Option (List ℕ)
put_before None ns = None
put_before (Some n) None = None
put_before (Some n) (Some ns) = Some (n ∷ ns)

abbrev pub numbers_in : List (List ℕ) → Option (List ℕ)
numbers_in [] = Some []
numbers_in (w ∷ ws) = put_before (number_in w) (numbers_in ws)

-- One channel or more.
abbrev pub channels : Verb → List (List ℕ) → Result (List ℕ) (Misread Verb Wanted)
channels v [] = Err (Missing v wanted.Channel)
channels v (w ∷ ws) = ok_or (numbers_in (w ∷ ws)) (Wrong v wanted.Channel)

-- Which commands want memory to be read: a list of channels does.
abbrev pub lists : Verb → Bool
lists verb.Station = false
lists verb.Records = false
lists verb.Put = false
lists verb.Raw = false
lists verb.Tare = false
lists verb.Interval = false
lists verb.Pile = false
lists verb.Weigh = false
lists verb.Total = true
lists verb.Arithmetic = false

abbrev pub lists_of : Option Verb → Bool
lists_of None = false
lists_of (Some v) = lists v

-- whether a line may want memory: its first word is total
abbrev pub line_lists : List ℕ → Bool
line_lists bs = lists_of (verb_of (first (words bs)))

-- What a command asks, by the words after its name.
abbrev pub arguments : Verb → List (List ℕ) → Result Asked (Misread Verb Wanted)
arguments verb.Station ws = given (sole verb.Station wanted.StationNumber number_in ws) (λ n. Ok (station n))
arguments verb.Records ws = given (sole verb.Records wanted.Count number_in ws) (λ n. Ok (records n))
arguments verb.Put ws = given (load verb.Put ws) (λ l. Ok (put l.channel l.grams l.at_rest))
arguments verb.Raw ws = given (load verb.Raw ws) (λ l. Ok (raw l.channel l.grams l.at_rest))
arguments verb.Tare ws =
    given (argument verb.Tare wanted.Channel number_in ws) (λ c.
    given (sole verb.Tare wanted.Grams grams_in (later ws)) (λ g. Ok (tare c g)))
arguments verb.Interval ws = given (sole verb.Interval wanted.Interval number_in ws) (λ n. Ok (interval n))
arguments verb.Pile ws = given (sole verb.Pile wanted.Pile pile_in ws) (λ p. Ok (pile p))
arguments verb.Weigh ws = given (sole verb.Weigh wanted.Channel number_in ws) (λ c. Ok (weigh c))
arguments verb.Total ws = given (channels verb.Total ws) (λ cs. Ok (total cs))
arguments verb.Arithmetic ws = given (sole verb.Arithmetic wanted.Arithmetic counting_in ws) (λ a. Ok (arithmetic a))

-- Arguments that are not understood make the line one that is not.
abbrev pub refused : {A : Type 0} → Result A (Misread Verb Wanted) → Result A Misreading
refused (Ok a) = Ok a
refused (Err m) = Err (Arguments m)

abbrev pub by_verb : Option Verb → List (List ℕ) → Result Asked Misreading
by_verb None ws = Err UnknownCommand
by_verb (Some v) ws = refused (arguments v ws)

-- Whether a word begins with '#'.
abbrev pub note : List ℕ → Bool
note [] = false
note (b ∷ bs) = b == 35

-- A line has a command, is passed over, or is not understood.
abbrev pub by_words : List (List ℕ) → Result (Option Asked) Misreading
by_words [] = Ok None
by_words (w ∷ ws) = cond (note w) (Ok None) (given (by_verb (verb_of w) ws) (λ a. Ok (Some a)))

abbrev pub understood : List ℕ → Result (Option Asked) Misreading
understood bs = by_words (words bs)

-- What the program holds of it.
abbrev pub asked : Command → Asked
asked (the.Station n) = station n
asked (the.Records n) = records n
asked (the.Put l) = put l.channel l.grams l.at_rest
asked (the.Raw l) = raw l.channel l.grams l.at_rest
asked (the.Tare c g) = tare c g
asked (the.Interval d) = interval d
asked (the.Pile p) = pile p
asked (the.Weigh c) = weigh c
asked (the.Total cs) = total (vec_items cs)
asked (the.Arithmetic a) = arithmetic a

-- What a reading gives: what was meant, as the program holds it, or why nothing was; and memory runs out only where the
-- reading wants some.
abbrev pub Gives : {A B : Type 0} → (A → B) → Result B Misreading → Bool → Result A ParseError → Type 0
Gives held meant wants (Ok a) = Ok (held a) ≡ meant
Gives held meant wants (Err (error.Misread m)) = Err m ≡ meant
Gives held meant wants (Err (error.Memory e)) = wants ≡ true

abbrev pub Parses : List ℕ → Result (Option Command) ParseError → Type 0
Parses bs r = Gives (option_map asked) (understood bs) (line_lists bs) r
