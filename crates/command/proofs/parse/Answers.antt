use Rattle.std.proofs.Common.{sym, ap, ◌∙◌}
use Rattle.std.specs.List.{slice_get}
use Rattle.command.specs.Words.{later, words}
use Rattle.command.specs.Left.{left}
use Rattle.command.proofs.Lines.{named, given_by}
use Rattle.command.proofs.parse.Goals as goal

pub returns-clause-meaning : goal.returns-clause-meaning
returns-clause-meaning c =
    let ws = words c.args.line.now in
    let is = c.of-words.ensures.words in
    let first = c.in-Some.ensures.word ∙ ap (λ us. slice_get us 0) is in
    let rest = c.next_word.ensures.rest ∙ ap later is in
    let sign = sym c.starts_with.ensures.value ∙ c.if-starts_with.false in
    let line = named ws (left c.next_word.new.self) c.in-Some.name.now c.in_ok-verb.verb first rest sign (sym c.in_ok-verb.ensures.ok_part ∙ c.from_word.ensures) in
    given_by ws (left c.next_word.new.self) c.in_ok-verb.verb c.command_of.result c.map.result line c.command_of.ensures c.map.ensures.cases
