use Rattle.std.proofs.Common.{Err, refl, ap, ◌∙◌}
use Rattle.std.proofs.lemmas.Result.{err_from_is_err_and}
use Rattle.recipe.proofs.Means.{means}
use Rattle.compiler.proofs.Calls.{refused_early, translated}
use Rattle.compiler.proofs.stages.compile.Goals as goal

pub returns-in_err-admit : goal.returns-in_err-admit
returns-in_err-admit c =
    let text = c.args.text.now in
    let p = err_from_is_err_and c.from_residual.result c.from_residual.ensures.1 in
    let b = c.in_err-admit.ensures in
    let a = refused_early text c.args.image.now c.args.table.now c.in_err-admit.field-0.0 (p.1 ∙ ap Err p.2) (b.1 text refl) b.0 in
    record { answer = a; meaning = means a }

pub returns : goal.returns
returns c =
    let a = translated c.args.text.now c.args.image.now c.args.table.now c.in_ok-admit.ensures c.translate.ensures c.clear.ensures in
    record { answer = a; meaning = means a }
