use Rattle.std.proofs.Common.{◌∙◌, rules, tests}
use Rattle.std.specs.Str.{bytes_eq}
use Rattle.std.proofs.lemmas.Iterator.Adapters.{YieldsList-from_rev_slice}
use Rattle.std.proofs.lemmas.Iterator.Search.{find_from_yields_List}
use Rattle.pass.proofs.names.variable_of.Goals as goal

pub returns : goal.returns
returns c =
    c.copied.ensures ∙ find_from_yields_List (λ v. bytes_eq c.args.name.now v.name.now) _ _ _ c.find.ensures.ran (YieldsList-from_rev_slice c.args.scope.now cc) (λ x b q k. search (rules, tests))
