use Rattle.std.proofs.Common.{arith, rules}
use Rattle.std.specs.Prelude.{codes}
use Rattle.command.specs.OfRecipes.{recipe_verb}
use Rattle.command.proofs.Tables.{spelled}
use Rattle.command.proofs.recipes.RecipeVerbFromWord.from_word.Goals as goal

pub returns-in-recipe : goal.returns-in-recipe
returns-in-recipe c = spelled recipe_verb c.args.word.now (codes "recipe") (omega arith) (search rules)

pub returns-in-words : goal.returns-in-words
returns-in-words c = spelled recipe_verb c.args.word.now (codes "words") (omega arith) (search rules)
