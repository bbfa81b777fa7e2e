use Rattle.std.proofs.Common.{rules, ◌+◌, length, sym, ap, ◌∙◌, arith}
use Rattle.std.proofs.lemmas.List.{length-drop}
use Rattle.std.proofs.lemmas.Slice.{between_to_end}
use Rattle.lexer.proofs.Scans.{after_blanks, not_blank, unbroken_at}
use Rattle.lexer.proofs.next_token.Goals as goal

pub overflow_add-start : goal.overflow_add-start
overflow_add-start c =
    let text = c.args.text.now in
    let e = ap length (between_to_end text c.min-from.result (length text) (omega arith)) ∙ length-drop c.min-from.result text in
    let w = c.front.ensures.within in
    omega arith

pub first_token-kind-requires : goal.first_token-kind-requires
first_token-kind-requires c =
    let text = c.args.text.now in
    not_blank text _ _ c.min-from.result c.front.result (between_to_end text c.min-from.result (length text) (omega arith))
    (between_to_end text (c.min-from.result + c.front.result) (length text) (omega arith))
    (λ h. let p = c.front.ensures.stops h in search rules)

pub returns-clause-reads : goal.returns-clause-reads
returns-clause-reads c =
    let text = c.args.text.now in
    after_blanks text _ c.args.at c.min-from.result c.front.result (between_to_end text c.min-from.result (length text) (omega arith)) c.min-from.ensures
    c.front.ensures.within (λ k h. let p = c.front.ensures.passes k h in search rules) (λ h. let p = c.front.ensures.stops h in search rules)
    ∙ c.first_token-kind.ensures.reads text (c.min-from.result + c.front.result) (sym (between_to_end text (c.min-from.result + c.front.result) (length text) (omega arith)))

pub returns-clause-unbroken : goal.returns-clause-unbroken
returns-clause-unbroken c =
    let text = c.args.text.now in
    unbroken_at text _ (c.min-from.result + c.front.result) c.first_token-kind.result.1
    (between_to_end text (c.min-from.result + c.front.result) (length text) (omega arith)) c.first_token-kind.ensures.unbroken
