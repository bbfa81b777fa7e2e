use Rattle.std.proofs.Common.{inl, inr, rules}
use Rattle.recipe.specs.Grammar.{by_plus, by_minus, by_times, by_over}
use Rattle.pass.proofs.chain.Chain.joins.Goals as goal

pub returns-in-Plus : goal.returns-in-Plus
returns-in-Plus c = ((λ _. elim c.in-Plus.is [ inl e ↦ rw (c.in-Sum.is, e) by_plus | inr e ↦ rw (c.in-Sum.is, e) by_minus ]), (λ _. search rules))

pub returns-in-Times : goal.returns-in-Times
returns-in-Times c = ((λ _. elim c.in-Times.is [ inl e ↦ rw (c.in-Product.is, e) by_times | inr e ↦ rw (c.in-Product.is, e) by_over ]), (λ _. search rules))
