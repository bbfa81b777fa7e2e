use Rattle.std.proofs.Common.{rules, ◌≡◌, ◌<◌, length, get_or, true, false, [], ◌∷◌, sym, ap, subst, ◌∙◌, arith}
use Rattle.std.proofs.lemmas.List.{length-take-le}
use Rattle.recipe.specs.Tokens.{digit, letter, sign}
use Rattle.std.specs.Char.{is_ascii_alphanumeric}
use Rattle.lexer.specs.Lexed.{Stands}
use Rattle.lexer.proofs.Scans.{number_begins, name_begins, sign_begins, letter_is, in_name_is}
use Rattle.lexer.proofs.first_token.Goals as goal

pub slice_bounds-number-end : goal.slice_bounds-number-end
slice_bounds-number-end c = sym (length-take-le _ _ c.front-len.ensures.within)

pub returns-then-is_ascii_digit : goal.returns-then-is_ascii_digit
returns-then-is_ascii_digit c =
    let cs = c.args.bytes.now in
    let l : 0 < length cs = c.in-Some.ensures.item.3.0 in
    let e : c.in-Some.first.now ≡ get_or cs 0 0 = c.in-Some.ensures.item.4 (omega arith) 0 in
    let d : digit (get_or cs 0 0) ≡ true = sym (ap digit e) ∙ (sym c.is_ascii_digit.ensures.value ∙ c.if-is_ascii_digit.true) in
    number_begins cs c.number.result c.front-len.result l d c.front-len.ensures.within
    (λ k h. let p = c.front-len.ensures.passes k h in search rules)
    (λ h. let p = c.front-len.ensures.stops h in search rules)
    c.number.ensures

pub slice_bounds-word_or_name-end : goal.slice_bounds-word_or_name-end
slice_bounds-word_or_name-end c = sym (length-take-le _ _ c.front-len-then-is_ascii_alphabetic.ensures.within)

pub returns-then-is_ascii_alphabetic : goal.returns-then-is_ascii_alphabetic
returns-then-is_ascii_alphabetic c =
    let cs = c.args.bytes.now in
    let l : 0 < length cs = c.in-Some.ensures.item.3.0 in
    let e : c.in-Some.first.now ≡ get_or cs 0 0 = c.in-Some.ensures.item.4 (omega arith) 0 in
    let d : digit (get_or cs 0 0) ≡ false = sym (ap digit e) ∙ (sym c.is_ascii_digit.ensures.value ∙ c.if-is_ascii_digit.false) in
    let a : letter (get_or cs 0 0) ≡ true = sym (ap letter e) ∙ (sym (letter_is c.in-Some.first.now) ∙ (sym c.is_ascii_alphabetic.ensures.value ∙ c.if-is_ascii_alphabetic.true)) in
    name_begins cs c.word_or_name.result c.front-len-then-is_ascii_alphabetic.result l a d c.front-len-then-is_ascii_alphabetic.ensures.within
    (λ k h. let p = c.front-len-then-is_ascii_alphabetic.ensures.passes k h in sym (in_name_is (get_or cs k 0)) ∙ (let q : is_ascii_alphanumeric (get_or cs k 0) ≡ true = search rules in q))
    (λ h. let p = c.front-len-then-is_ascii_alphabetic.ensures.stops h in sym (in_name_is (get_or cs c.front-len-then-is_ascii_alphabetic.result 0)) ∙ (let q : is_ascii_alphanumeric (get_or cs c.front-len-then-is_ascii_alphabetic.result 0) ≡ false = search rules in q))
    c.word_or_name.ensures

pub returns : goal.returns
returns c =
    let cs = c.args.bytes.now in
    let l : 0 < length cs = c.in-Some.ensures.item.3.0 in
    let e : c.in-Some.first.now ≡ get_or cs 0 0 = c.in-Some.ensures.item.4 (omega arith) 0 in
    let d : digit (get_or cs 0 0) ≡ false = sym (ap digit e) ∙ (sym c.is_ascii_digit.ensures.value ∙ c.if-is_ascii_digit.false) in
    let a : letter (get_or cs 0 0) ≡ false = sym (ap letter e) ∙ (sym (letter_is c.in-Some.first.now) ∙ (sym c.is_ascii_alphabetic.ensures.value ∙ c.if-is_ascii_alphabetic.false)) in
    sign_begins cs c.sign.result l d a (c.requires l) (subst (λ b. Stands (λ p. sign p b) (b ∷ []) c.sign.result) e c.sign.ensures)
