-- The names of the commands, and the words that stand for a mark, a pile and an arithmetic.
use Rattle.std.specs.Prelude.{ℕ, Bool, true, false, cond, List, [], ◌∷◌, Some, None, codes, Option}
use Rattle.std.specs.Str.{bytes_eq}
use Rattle.command.specs.declared.types.Verb.{Verb}
use Rattle.command.specs.declared.types.Verb.TheVariants as verb
use Rattle.command.specs.declared.types.Pile.{Pile}
use Rattle.command.specs.declared.types.Pile.TheVariants as pile
use Rattle.command.specs.declared.types.Counting.{Counting}
use Rattle.command.specs.declared.types.Counting.TheVariants as counting

-- What stands beside a word in a table.
abbrev pub beside : {A : Type 0} → List (List ℕ × A) → List ℕ → Option A
beside [] w = None
beside ((name, a) ∷ more) w = cond (bytes_eq w name) (Some a) (beside more w)

abbrev pub verbs : List (List ℕ × Verb)
verbs =
    (codes "station", verb.Station) ∷
    (codes "records", verb.Records) ∷
    (codes "put", verb.Put) ∷
    (codes "raw", verb.Raw) ∷
    (codes "tare", verb.Tare) ∷
    (codes "interval", verb.Interval) ∷
    (codes "pile", verb.Pile) ∷
    (codes "weigh", verb.Weigh) ∷
    (codes "total", verb.Total) ∷
    (codes "arithmetic", verb.Arithmetic) ∷ []

abbrev pub verb_of : List ℕ → Option Verb
verb_of w = beside verbs w

-- Whether the scale is at rest.
abbrev pub mark_in : List ℕ → Option Bool
mark_in w = beside ((codes "rest", true) ∷ (codes "moving", false) ∷ []) w

abbrev pub pile_in : List ℕ → Option Pile
pile_in w =
    beside (
    (codes "board", pile.Board) ∷
    (codes "tare", pile.Tare) ∷
    (codes "step", pile.Step) ∷
    (codes "step-tare", pile.StepTare) ∷
    (codes "tare-step", pile.TareStep) ∷ []) w

abbrev pub counting_in : List ℕ → Option Counting
counting_in w = beside ((codes "gram", counting.Gram) ∷ (codes "old", counting.Old) ∷ (codes "fine", counting.Fine) ∷ []) w
