use Rattle.std.proofs.Common.{sym, ap, ◌∙◌, arith}
use Rattle.recipe.specs.Compiled.{image_after}
use Rattle.compiler.proofs.Plans.{words_room, head_written}
use Rattle.compiler.proofs.stages.write.Goals as goal

pub put_head-requires : goal.put_head-requires
put_head-requires c =
    let k = c.requires.0 in
    let h = words_room c.args.text.now k.reads in
    let e = k.functions_end in (omega arith, omega (arith, c.over.auto.image, c.requires.1))

pub returns : goal.returns
returns c =
    let k = c.requires.0 in
    let m = c.args.image.now in
    head_written k c.in_ok-over.ensures c.requires.1 c.put_head.ensures ∙ ap (λ a. image_after a m) (sym k.answer)
