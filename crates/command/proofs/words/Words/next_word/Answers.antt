use Rattle.std.proofs.Common.{◌-◌, not, length, take, drop, Some, sym, ap, ◌∙◌, rules, tests}
use Rattle.std.specs.List.{slice_get}
use Rattle.std.specs.Option.{option_copied}
use Rattle.std.proofs.lemmas.List.{take_rest}
use Rattle.std.proofs.lemmas.Iterator.{YieldsList-from_slice}
use Rattle.std.proofs.lemmas.Iterator.Consumers.{count_from_yields_List}
use Rattle.std.proofs.lemmas.Iterator.Search.{YieldsList-from_take_while, position_from_yields_List}
use Rattle.std.proofs.lemmas.List.Folds.{length-prefix_len}
use Rattle.command.specs.Words.{blank, words, later}
use Rattle.command.proofs.Cuts.{blanks, first_word, no_word, place_some, place_none}
use Rattle.command.proofs.words.Words.next_word.Goals as goal

pub returns : goal.returns
returns c =
    let line = c.args.self.now.rest.now in
    let place = position_from_yields_List (λ b. not (blank b)) _ _ _ c.position.ensures.ran (YieldsList-from_slice line (cc)) (λ x b q k. search (rules, tests)) in
    let start = place_some (blanks line) (length line) c.in_ok-start.start (sym c.in_ok-start.was ∙ place) in
    let text = take (length line - c.in_ok-start.start) (drop c.in_ok-start.start line) in
    let len = count_from_yields_List c.take_while.result _ c.count-len.ensures.ran (YieldsList-from_take_while _ (λ b. not (blank b)) (YieldsList-from_slice text (cc)) c.take_while.ensures.closure c.take_while.ensures.done (λ x b q k. search (rules, tests))) ∙ length-prefix_len (λ b. not (blank b)) text in
    let cut = first_word line text (take_rest line c.in_ok-start.start ∙ ap (λ k. drop k line) start.0) start.1 in
    record {
      word = ap Some (c.split_at.ensures.front ∙ ap (λ n. take n text) len) ∙ sym (ap (λ ws. slice_get ws 0) cut);
      rest = ap words (c.split_at.ensures.back ∙ ap (λ n. drop n text) len) ∙ sym (ap later cut);
    }

pub returns-in_err-start : goal.returns-in_err-start
returns-in_err-start c =
    let line = c.args.self.now.rest.now in
    let place = position_from_yields_List (λ b. not (blank b)) _ _ _ c.position.ensures.ran (YieldsList-from_slice line (cc)) (λ x b q k. search (rules, tests)) in
    let none = no_word line (place_none (blanks line) (length line) (sym c.in_err-start.was ∙ place)) in
    record { word = ap option_copied c.from_residual.ensures ∙ sym (ap (λ ws. slice_get ws 0) none); rest = none ∙ sym (ap later none) }
