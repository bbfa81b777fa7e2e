-- What a line about recipes means.
use Rattle.std.specs.Prelude.{ℕ, Bool, cond, ◌&&◌, List, [], ◌∷◌, length, Some, None, Ok, Err, codes, Option, Result, nat_le}
use Rattle.std.specs.Option.{option_map}
use Rattle.std.specs.Str.{bytes_eq}
use Rattle.command.specs.declared.misread.Misread.{Misread}
use Rattle.command.specs.declared.recipes.RecipeVerb.{RecipeVerb}
use Rattle.command.specs.declared.recipes.RecipeVerb.TheVariants as verb
use Rattle.command.specs.declared.recipes.RecipeWanted.{RecipeWanted}
use Rattle.command.specs.declared.recipes.RecipeWanted.TheVariants as wanted
use Rattle.command.specs.declared.recipes.RecipeCommand.{RecipeCommand}
use Rattle.command.specs.declared.recipes.RecipeCommand.TheVariants as the
use Rattle.command.specs.declared.recipes.Room.{Room}
use Rattle.command.specs.Words.{words, first, later, none}
use Rattle.command.specs.Numbers.{value_in}
use Rattle.command.specs.Names.{beside}
use Rattle.command.specs.Arguments.{given, argument, ended, word_in}

-- Why a line with such a command is not understood.
abbrev pub RecipeMisreading : Type 0
RecipeMisreading = Misread RecipeVerb RecipeWanted

-- A command about recipes with its arguments: the text of a recipe follows; a recipe from a file; a recipe's words;
-- the room for an image and for a work table.
pub data Bidden : Type 0 where
  text_of : List ℕ → Bidden
  load_of : List ℕ → List ℕ → Bidden
  words_of : List ℕ → Bidden
  room : ℕ → ℕ → Bidden

abbrev pub recipe_verb : List ℕ → Option RecipeVerb
recipe_verb w =
    beside (
    (codes "recipe", verb.Recipe) ∷
    (codes "load", verb.Load) ∷
    (codes "words", verb.Words) ∷
    (codes "room", verb.Room) ∷ []) w

-- A name is a word of at most 32 bytes; a file any word; room a number of at most 100,000.
abbrev pub name_in : List ℕ → Option (List ℕ)
name_in w = cond (nat_le (length w) 32) (Some w) None

abbrev pub room_of : ℕ → Room
room_of n = record { words = n }

abbrev pub room_in : List ℕ → Option Room
room_in w = option_map room_of (value_in 100000 w)

-- What a command asks, by the words after its name.
abbrev pub arguments : RecipeVerb → List (List ℕ) → Result Bidden RecipeMisreading
arguments verb.Recipe ws = given (argument verb.Recipe wanted.Name name_in ws) (λ n. ended verb.Recipe (later ws) (text_of n))
arguments verb.Load ws =
    given (argument verb.Load wanted.Name name_in ws) (λ n.
    given (argument verb.Load wanted.File word_in (later ws)) (λ f. ended verb.Load (later (later ws)) (load_of n f)))
arguments verb.Words ws = given (argument verb.Words wanted.Name name_in ws) (λ n. ended verb.Words (later ws) (words_of n))
arguments verb.Room ws =
    given (argument verb.Room wanted.ImageRoom room_in ws) (λ i.
    given (argument verb.Room wanted.TableRoom room_in (later ws)) (λ t. ended verb.Room (later (later ws)) (room i.words t.words)))

abbrev pub by_verb : Option RecipeVerb → List (List ℕ) → Result (Option Bidden) RecipeMisreading
by_verb None ws = Ok None
by_verb (Some v) ws = given (arguments v ws) (λ b. Ok (Some b))

-- A line has no command about recipes, has one, or has one that is not understood.
abbrev pub recipe_line : List ℕ → Result (Option Bidden) RecipeMisreading
recipe_line bs = by_verb (recipe_verb (first (words bs))) (later (words bs))

-- The line that ends a text: its one word is `end`.
abbrev pub ends_text : List ℕ → Bool
ends_text bs = bytes_eq (first (words bs)) (codes "end") && none (later (words bs))

-- What the program holds of these.
abbrev pub bid : RecipeCommand → Bidden
bid (the.Text n) = text_of n.now
bid (the.Load n f) = load_of n.now f.now
bid (the.Words n) = words_of n.now
bid (the.Room i t) = room i t

abbrev pub outcome : Result RecipeCommand RecipeMisreading → Result Bidden RecipeMisreading
outcome (Ok c) = Ok (bid c)
outcome (Err m) = Err m

abbrev pub line_meant : Result (Option RecipeCommand) RecipeMisreading → Result (Option Bidden) RecipeMisreading
line_meant (Ok c) = Ok (option_map bid c)
line_meant (Err m) = Err m
