use Rattle.std.proofs.Common.{◌≡◌, ◌∙◌, w32, SFits, to_z, of_z, int_div, rules}
use Rattle.std.specs.Int.{int_wrap}
use Rattle.std.proofs.lemmas.Int.{to_z-of_z}
use Rattle.old.proofs.Wrapping.{congruent, quotient_wraps}
use Rattle.old.proofs.OldArithmetic.over.Goals as goal

pub returns : goal.returns
returns c =
    let a = c.args.self.grams in
    let b = c.args.other.grams in
    let p : SFits w32 a = search rules in
    let q : SFits w32 b = search rules in
    let r : SFits w32 c.wrapping_div.result = search rules in
    let bits : to_z w32 (of_z w32 c.wrapping_div.result) ≡ int_wrap w32 (int_div a b) =
    to_z-of_z w32 _ r ∙ (simp to_z-of_z at c.wrapping_div.ensures) ∙ quotient_wraps a b p
    in
    record { rule = search rules; congruent = congruent _ _ bits }
