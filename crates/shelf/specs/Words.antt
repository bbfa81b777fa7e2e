-- How it is printed that a text is not kept.
use Rattle.std.specs.Prelude.{ℕ, List, ◌++◌, Some, None, codes, Option}
use Rattle.recipe.specs.Words.{refusal_words}
use Rattle.shelf.specs.declared.errors.NotKept.{NotKept}
use Rattle.shelf.specs.declared.errors.NotKept.TheVariants as the
use Rattle.shelf.specs.declared.errors.CompileError.{CompileError}
use Rattle.shelf.specs.declared.errors.CompileError.TheVariants as error

abbrev pub not_kept_words : NotKept → List ℕ
not_kept_words (the.Refused r text) = codes "refused " ++ refusal_words r
not_kept_words the.TooManyRecipes = codes "not understood: at most 100 recipes are kept"

-- the words for want of memory are left open
abbrev pub compile_error_words : CompileError → Option (List ℕ)
compile_error_words (error.NotKept reason) = Some (not_kept_words reason)
compile_error_words (error.Memory e) = None
