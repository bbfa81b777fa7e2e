-- What a setting is answered, and what is printed of an answer.
use Rattle.std.specs.Prelude.{ℕ, List, Some, Ok, Err, codes, Option}
use Rattle.std.specs.Fmt.{◌++?◌, decimal, signed_decimal}
use Rattle.command.specs.Printed.{misreading}
use Rattle.reading.specs.Refusals.{refusal_number, refusal_words}
use Rattle.reading.specs.Settings.{Setting}
use Rattle.weighing.specs.Faults.{weighing_number, weighing_words}
use Rattle.weighing.specs.declared.fault.WeighingFault.{WeighingFault}
use Rattle.session.specs.declared.answer.Answer.{Answer}
use Rattle.session.specs.declared.answer.Answer.TheVariants as the

abbrev pub set_answer : Setting → Answer
set_answer (Ok u) = the.Done
set_answer (Err e) = the.Refused e

-- a fault with its number
abbrev pub fault_text : WeighingFault → Option (List ℕ)
fault_text e = Some (codes "fault ") ++? Some (decimal (weighing_number e)) ++? Some (codes " ") ++? Some (weighing_words e)

-- the words of an answer
abbrev pub answer_text : Answer → Option (List ℕ)
answer_text (the.NewStation n) = Some (codes "new station ") ++? Some (decimal n)
answer_text (the.Station n) = Some (codes "station ") ++? Some (decimal n)
answer_text (the.Records n) = Some (decimal n) ++? Some (codes " records")
answer_text the.Done = Some (codes "done")
answer_text (the.Refused e) = Some (codes "refused ") ++? Some (decimal (refusal_number e)) ++? Some (codes " ") ++? Some (refusal_words e)
answer_text (the.Grams z) = Some (signed_decimal z) ++? Some (codes " g")
answer_text (the.Fault e) = fault_text e
answer_text (the.FaultAt e) = fault_text e.fault ++? Some (codes ", channel ") ++? Some (decimal e.channel)
answer_text the.TooManyStations = Some (codes "not understood: at most 64 stations are made")
answer_text the.TooManyRecords = Some (codes "not understood: a board has at most 10000 records")
answer_text (the.NotUnderstood m) = misreading m
