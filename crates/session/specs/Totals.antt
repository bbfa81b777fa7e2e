-- A total in the chosen arithmetic, in whole grams as shown.
use Rattle.std.specs.Prelude.{ℕ, List, ℤ, pos, Ok, Err}
use Rattle.arithmetic.specs.Rules.{Rules}
use Rattle.gram.specs.OfGram.{gram_rules}
use Rattle.old.specs.OfOld.{old_rules}
use Rattle.fine.specs.OfFine.{fine_rules}
use Rattle.command.specs.declared.types.Counting.{Counting}
use Rattle.command.specs.declared.types.Counting.TheVariants as counting
use Rattle.reading.specs.Answers.{Reading}
use Rattle.weighing.specs.Totals.{Outcome, totalled}

abbrev pub as_shown : {V : Type 0} → Rules V → Outcome V → Outcome ℤ
as_shown rules (Ok v) = Ok (rules.shown v)
as_shown rules (Err e) = Err e

abbrev pub shown_total : {V : Type 0} → Rules V → (ℕ → Reading) → List ℕ → Outcome ℤ
shown_total rules f channels = as_shown rules (totalled rules f (rules.whole (pos 0)) channels)

abbrev pub total_in : Counting → (ℕ → Reading) → List ℕ → Outcome ℤ
total_in counting.Gram f channels = shown_total gram_rules f channels
total_in counting.Old f channels = shown_total old_rules f channels
total_in counting.Fine f channels = shown_total fine_rules f channels
