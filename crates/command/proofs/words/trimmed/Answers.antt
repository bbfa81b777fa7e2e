use Rattle.std.proofs.Common.{◌-◌, length, take, drop, ◌∙◌, rules, tests}
use Rattle.std.specs.Prelude.{reverse}
use Rattle.std.proofs.lemmas.List.{take_rest}
use Rattle.std.proofs.lemmas.Iterator.{YieldsList-from_slice}
use Rattle.std.proofs.lemmas.Iterator.Adapters.{YieldsList-from_rev_slice}
use Rattle.std.proofs.lemmas.Iterator.Consumers.{count_from_yields_List}
use Rattle.std.proofs.lemmas.Iterator.Search.{YieldsList-from_take_while}
use Rattle.std.proofs.lemmas.List.Folds.{length-prefix_len}
use Rattle.command.specs.Trimmed.{white}
use Rattle.command.proofs.words.trimmed.Goals as goal

pub returns : goal.returns
returns c =
    let line = c.args.line.now in
    let before = count_from_yields_List c.take_while.result _ c.count-before.ensures.ran (YieldsList-from_take_while _ white (YieldsList-from_slice line (cc)) c.take_while.ensures.closure c.take_while.ensures.done (λ x b q k. search (rules, tests))) ∙ length-prefix_len white line in
    let rest = take (length line - c.count-before.result) (drop c.count-before.result line) in
    let after = count_from_yields_List c.take_while-2.result _ c.count-after.ensures.ran (YieldsList-from_take_while _ white (YieldsList-from_rev_slice rest (cc)) c.take_while-2.ensures.closure c.take_while-2.ensures.done (λ x b q k. search (rules, tests))) ∙ length-prefix_len white (reverse rest) in
    rw (after, take_rest, before)
