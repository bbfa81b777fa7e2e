-- What is printed of a reply.
use Rattle.std.specs.Prelude.{ℕ, List, [], Some, None, codes, Option}
use Rattle.std.specs.Fmt.{◌++?◌, decimal}
use Rattle.command.specs.Printed.{misread, recipe_form, recipe_name, recipe_kind}
use Rattle.session.specs.Answers.{answer_text}
use Rattle.shelf.specs.Words.{not_kept_words}
use Rattle.sitting.specs.declared.lines.Reply.{Reply}
use Rattle.sitting.specs.declared.lines.Reply.TheVariants as the

-- nothing is stated of the words of an image, and nothing is printed of a file that is wanted
abbrev pub reply_text : Reply → Option (List ℕ)
reply_text (the.Bench a) = answer_text a
reply_text (the.Accepted n) = Some (codes "accepted, ") ++? Some (decimal n) ++? Some (codes " words")
reply_text (the.NotKept reason) = Some (not_kept_words reason)
reply_text (the.Words ws) = None
reply_text the.NoRecipe = Some (codes "not understood: no recipe has that name")
reply_text (the.File n f) = Some []
reply_text (the.NotUnderstood m) = misread (λ v. Some (recipe_form v)) (λ w. Some (recipe_name w)) recipe_kind m
