-- Recipes by their names: what a shelf keeps, and what each of its calls answers and makes of that.
use Rattle.std.specs.Prelude.{◌≡◌, ℕ, Bool, cond, not, ◌&&◌, List, [], map, length, is_some, Some, None, Ok, Err, vec_items, Option, Result, nat_le}
use Rattle.std.specs.Option.{option_map}
use Rattle.std.specs.Ordering.{nat_cmp}
use Rattle.std.specs.Cmp.Lexicographic.{slice_cmp}
use Rattle.std.specs.Map.{lookup}
use Rattle.std.specs.BTreeMap.{is_at, insert_entry}
use Rattle.recipe.specs.Causes.{cause_number}
use Rattle.recipe.specs.Compiled.{Answer, accepted, refused, compile_answer}
use Rattle.shelf.specs.declared.kept.Recipe.{Recipe}
use Rattle.shelf.specs.declared.kept.Room.{Room}
use Rattle.shelf.specs.declared.kept.Shelf.{Shelf}
use Rattle.shelf.specs.declared.errors.NotKept.{NotKept}
use Rattle.shelf.specs.declared.errors.NotKept.TheVariants as the
use Rattle.shelf.specs.declared.errors.CompileError.{CompileError}
use Rattle.shelf.specs.declared.errors.CompileError.TheVariants as error

-- A recipe that is kept under a name: its text and its image's words.
pub record Entry : Type 0 where
  pub text : List ℕ
  pub words : List ℕ

-- The recipes stand in the order of their names, each name once.
pub record Kept : Type 0 where
  pub recipes : List (List ℕ × Entry)
  pub room : Room

abbrev pub entry_of : Recipe → Entry
entry_of r = record { text = vec_items r.text; words = vec_items r.image }

abbrev pub kept_by : Shelf → Kept
kept_by s = record { recipes = map (λ e. (vec_items e.0, entry_of e.1)) s.recipes.entries; room = s.room }

-- no recipe; 4,096 words of image and 2,000 of work table
abbrev pub at_first : Kept
at_first = record { recipes = []; room = record { image = 4096; table = 2000 } }

abbrev pub with_room : Kept → Room → Kept
with_room k r = record { recipes = k.recipes; room = r }

abbrev pub with_recipes : Kept → List (List ℕ × Entry) → Kept
with_recipes k es = record { recipes = es; room = k.room }

-- ---- names, which are compared byte by byte
abbrev pub found : List ℕ → List (List ℕ × Entry) → Option Entry
found name es = lookup (is_at (slice_cmp nat_cmp name)) es

-- in the place of the recipe that the name had, else among the others
abbrev pub put : List ℕ → Entry → List (List ℕ × Entry) → List (List ℕ × Entry)
put name e es = insert_entry (slice_cmp nat_cmp) es name e

-- the words of the recipe with that name
abbrev pub words_of : List ℕ → Kept → Option (List ℕ)
words_of name k = option_map (λ e. e.words) (found name k.recipes)

-- a shelf has at most 100 names
abbrev pub full : List ℕ → List (List ℕ × Entry) → Bool
full name es = nat_le 100 (length es) && not (is_some (found name es))

-- ---- compiles
-- what compile answers, with so many words of image and work table
unfoldable pub answer_at : List ℕ → Room → Answer
answer_at text room = compile_answer text room.image room.table

-- What is told: how many words the image has; or the number of the cause, the place and the text; or that there is
-- no room for another name.
pub data Told : Type 0 where
  took : ℕ → Told
  refuses : ℕ → ℕ → List ℕ → Told
  too_many : Told

abbrev pub told : NotKept → Told
told (the.Refused r text) = refuses (cause_number r.cause) r.place (vec_items text)
told the.TooManyRecipes = too_many

abbrev pub told_of : Answer → List ℕ → Told
told_of (accepted ws) text = took (length ws)
told_of (refused cause place) text = refuses cause place text

-- an accepted text is kept with its words; a refusal changes nothing
abbrev pub recipes_after : Answer → List ℕ → List ℕ → List (List ℕ × Entry) → List (List ℕ × Entry)
recipes_after (accepted ws) name text es = put name (record { text = text; words = ws }) es
recipes_after (refused cause p) name text es = es

abbrev pub compile_told : List ℕ → List ℕ → Kept → Told
compile_told name text k = cond (full name k.recipes) too_many (told_of (answer_at text k.room) text)

abbrev pub compile_after : List ℕ → List ℕ → Kept → Kept
compile_after name text k =
    cond (full name k.recipes) k (with_recipes k (recipes_after (answer_at text k.room) name text k.recipes))

-- what a compile tells, unless memory runs out
abbrev pub answer : Result ℕ CompileError → Option Told
answer (Ok n) = Some (took n)
answer (Err (error.NotKept reason)) = Some (told reason)
answer (Err (error.Memory e)) = None

-- memory may run out, and then nothing has changed
abbrev pub Ends : List ℕ → List ℕ → Kept → Option Told → Kept → Type 0
Ends name text k (Some t) l = (t ≡ compile_told name text k) × (l ≡ compile_after name text k)
Ends name text k None l = l ≡ k

abbrev pub Compiles : List ℕ → List ℕ → Kept → Result ℕ CompileError → Kept → Type 0
Compiles name text k r l = Ends name text k (answer r) l
