use Rattle.std.proofs.Common.{◌∙◌, rules, tests}
use Rattle.std.proofs.lemmas.Iterator.{YieldsList-from_slice}
use Rattle.std.proofs.lemmas.Iterator.Search.{all_from_yields_List}
use Rattle.command.specs.Words.{blank}
use Rattle.command.proofs.Cuts.{none_left}
use Rattle.command.proofs.words.Words.is_done.Goals as goal

pub returns : goal.returns
returns c =
    let bs = c.args.self.now.rest.now in
    all_from_yields_List blank _ _ _ c.all.ensures.ran (YieldsList-from_slice bs (cc)) (λ x b q k. search (rules, tests)) ∙ none_left bs
