use Rattle.std.proofs.Common.{◌∙◌}
use Rattle.std.proofs.lemmas.Result.{err_from_is_err_and}
use Rattle.recipe.specs.Grammar.{recipe}
use Rattle.recipe.specs.Image.{image}
use Rattle.recipe.specs.Compiled.{accepted}
use Rattle.compiler.proofs.Plans.{after_names, planned}
use Rattle.compiler.proofs.stages.plan.Goals as goal

pub returns-in_err-judge : goal.returns-in_err-judge
returns-in_err-judge c =
    let f = c.in_ok-first.ensures in
    let s = c.in_ok-second.ensures in
    let p = err_from_is_err_and c.from_residual-in_err-judge.result c.from_residual-in_err-judge.ensures.1 in
    rw (p.1, p.2) (after_names f s ∙ c.in_err-judge.ensures (accepted (image (recipe s.declared s.at_in s.main))))

pub returns : goal.returns
returns c =
    let j = c.in_ok-judge.ensures in planned c.in_ok-first.ensures c.in_ok-second.ensures j.0 j.1
