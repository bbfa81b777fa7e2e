-- What is printed of a command, and of a line that is not understood.
use Rattle.std.specs.Prelude.{ℕ, List, Some, None, codes, Option}
use Rattle.std.specs.Fmt.{◌++?◌}
use Rattle.command.specs.declared.misread.Misread.{Misread}
use Rattle.command.specs.declared.misread.Misread.TheVariants.{Missing, Wrong, TooMany}
use Rattle.command.specs.declared.recipes.RecipeVerb.{RecipeVerb}
use Rattle.command.specs.declared.recipes.RecipeVerb.TheVariants as recipe
use Rattle.command.specs.declared.recipes.RecipeWanted.{RecipeWanted}
use Rattle.command.specs.declared.recipes.RecipeWanted.TheVariants as of_recipe
use Rattle.command.specs.declared.types.Verb.{Verb}
use Rattle.command.specs.declared.types.Verb.TheVariants as verb
use Rattle.command.specs.declared.types.Wanted.{Wanted}
use Rattle.command.specs.declared.types.Wanted.TheVariants as wanted
use Rattle.command.specs.declared.types.Misreading.{Misreading}
use Rattle.command.specs.declared.types.Misreading.TheVariants.{UnknownCommand, Arguments}
use Rattle.command.specs.declared.types.ParseError.{ParseError}
use Rattle.command.specs.declared.types.ParseError.TheVariants as error

-- The form of a line with the command.
abbrev pub form : Verb → List ℕ
form verb.Station = codes "station NUMBER"
form verb.Records = codes "records COUNT"
form verb.Put = codes "put CHANNEL GRAMS rest, or moving"
form verb.Raw = codes "raw CHANNEL GRAMS rest, or moving"
form verb.Tare = codes "tare CHANNEL GRAMS"
form verb.Interval = codes "interval D"
form verb.Pile = codes "pile board, tare, step, step-tare or tare-step"
form verb.Weigh = codes "weigh CHANNEL"
form verb.Total = codes "total CHANNEL CHANNEL .."
form verb.Arithmetic = codes "arithmetic gram, old or fine"

-- What is wanted at a place, and what kind of word that is.
abbrev pub name : Wanted → List ℕ
name wanted.StationNumber = codes "the station's number"
name wanted.Count = codes "the count of records"
name wanted.Channel = codes "the channel"
name wanted.Grams = codes "the weight"
name wanted.Mark = codes "the mark"
name wanted.Interval = codes "the interval"
name wanted.Pile = codes "the pile"
name wanted.Arithmetic = codes "the arithmetic"

abbrev pub kind : Wanted → List ℕ
kind wanted.StationNumber = codes "a whole number, at most 4294967295"
kind wanted.Count = codes "a whole number, at most 4294967295"
kind wanted.Channel = codes "a whole number; channels are 1 to 64"
kind wanted.Grams = codes "whole grams from -2147483648 to 2147483647"
kind wanted.Mark = codes "rest or moving"
kind wanted.Interval = codes "a whole number, at most 4294967295"
kind wanted.Pile = codes "board, tare, step, step-tare or tare-step"
kind wanted.Arithmetic = codes "gram, old or fine"

-- The same of the commands about recipes.
abbrev pub recipe_form : RecipeVerb → List ℕ
recipe_form recipe.Recipe = codes "recipe NAME"
recipe_form recipe.Load = codes "load NAME FILE"
recipe_form recipe.Words = codes "words NAME"
recipe_form recipe.Room = codes "room IMAGE TABLE"

abbrev pub recipe_name : RecipeWanted → List ℕ
recipe_name of_recipe.Name = codes "the recipe's name"
recipe_name of_recipe.File = codes "the file"
recipe_name of_recipe.ImageRoom = codes "the image's room"
recipe_name of_recipe.TableRoom = codes "the work table's room"

abbrev pub recipe_kind : RecipeWanted → List ℕ
recipe_kind of_recipe.Name = codes "a word of at most 32 bytes"
recipe_kind of_recipe.File = codes "a word"
recipe_kind of_recipe.ImageRoom = codes "a whole number, at most 100000"
recipe_kind of_recipe.TableRoom = codes "a whole number, at most 100000"

-- Why arguments are not understood: by what is printed of a command and of what it wants, and by the kinds of word.
abbrev pub misread : {V W : Type 0} → (V → Option (List ℕ)) → (W → Option (List ℕ)) → (W → List ℕ) → Misread V W → Option (List ℕ)
misread shown name kind (Missing v w) = Some (codes "not understood: ") ++? name w ++? Some (codes " is missing; write ") ++? shown v
misread shown name kind (Wrong v w) =
    Some (codes "not understood: ") ++? name w ++? Some (codes " is to be ") ++? Some (kind w) ++? Some (codes "; write ") ++? shown v
misread shown name kind (TooMany v) = Some (codes "not understood: a word too many; write ") ++? shown v

-- Why a line is not understood.
abbrev pub misreading : Misreading → Option (List ℕ)
misreading UnknownCommand = Some (codes "not understood: no such command; --help lists the commands")
misreading (Arguments m) = misread (λ v. Some (form v)) (λ w. Some (name w)) kind m

-- Why a line gives no command; the words for want of memory are left open.
abbrev pub parse_error : ParseError → Option (List ℕ)
parse_error (error.Misread m) = misreading m
parse_error (error.Memory e) = None
