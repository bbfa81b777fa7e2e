-- The state of a bench, and what each command answers and makes of it.
use Rattle.std.specs.Prelude.{◌≡◌, ℕ, ◌-◌, Bool, true, false, cond, not, ◌&&◌, ◌⊎◌, List, [], ◌∷◌, ◌++◌, length, replicate, ℤ, pos, Some, None, Ok, Err, vec_items, Option, Result, ◌==◌, nat_le, nat_lt, slice_set}
use Rattle.std.specs.List.{list_any}
use Rattle.std.specs.declared.alloc.AllocError.{AllocError}
use Rattle.command.specs.Understood.{line_lists, understood, Asked, station, records, put, raw, tare, interval, pile, weigh, total, arithmetic}
use Rattle.command.specs.declared.types.Misreading.{Misreading}
use Rattle.command.specs.declared.types.Counting.{Counting}
use Rattle.command.specs.declared.types.Counting.TheVariants as counting
use Rattle.command.specs.declared.types.Pile.{Pile}
use Rattle.command.specs.declared.types.Pile.TheVariants as piles
use Rattle.reading.specs.Answers.{Reading}
use Rattle.reading.specs.OfBoard.{put_answer, leave_answer}
use Rattle.reading.specs.OfStep.{step_setting}
use Rattle.reading.specs.OfTare.{grams_each, tare_setting}
use Rattle.reading.specs.Settings.{after}
use Rattle.reading.specs.declared.board.Record.{Record}
use Rattle.weighing.specs.Totals.{Outcome}
use Rattle.weighing.specs.declared.fault.WeighingFault.TheVariants.{OfReading}
use Rattle.session.specs.Answers.{set_answer}
use Rattle.session.specs.OfHoppers.{piled}
use Rattle.session.specs.Totals.{total_in}
use Rattle.session.specs.declared.answer.Answer.{Answer}
use Rattle.session.specs.declared.answer.Answer.TheVariants as the
use Rattle.session.specs.declared.bench.Bench.{Bench}

-- the records of the board, the tares and the interval of the layers, the pile that readings are taken through,
-- the arithmetic of totals, and the numbers of the stations made so far
pub record State : Type 0 where
  pub records : List Record
  pub tares : List ℤ
  pub interval : ℕ
  pub pile : Pile
  pub counting : Counting
  pub stations : List ℕ

abbrev pub state_of : Bench → State
state_of b = record {
  records = vec_items b.hoppers.layers.below.below.records;
  tares = grams_each b.hoppers.layers.below.setting.each;
  interval = b.hoppers.layers.setting.grams;
  pile = b.hoppers.pile;
  counting = b.counting;
  stations = vec_items b.stations;
}

-- a record of so many grams, at rest or moving
abbrev pub load : ℤ → Bool → Record
load grams resting = record { grams = grams; resting = resting }

-- a record of 0 g at rest
abbrev pub empty_record : Record
empty_record = load (pos 0) true

-- 64 empty records, no tares, an interval of 1 g, Step over Tare, Gram, station 1
abbrev pub at_first : State
at_first = record {
  records = replicate 64 empty_record;
  tares = replicate 64 (pos 0);
  interval = 1;
  pile = piles.StepTare;
  counting = counting.Gram;
  stations = 1 ∷ [];
}

-- what every channel answers
abbrev pub readings : State → ℕ → Reading
readings s = piled s.pile s.records s.tares s.interval

-- whether the number n stands among those
abbrev pub known : ℕ → List ℕ → Bool
known n made = list_any (λ m. m == n) made

-- ---- answers
abbrev pub read_answer : Reading → Answer
read_answer (Ok z) = the.Grams z
read_answer (Err e) = the.Fault (OfReading e)

abbrev pub total_answer : Outcome ℤ → Answer
total_answer (Ok z) = the.Grams z
total_answer (Err e) = the.FaultAt e

-- at most 64 stations are made; a number that was made before is gone back to
abbrev pub station_answer : ℕ → List ℕ → Answer
station_answer n made = cond (known n made) (the.Station n) (cond (nat_lt (length made) 64) (the.NewStation n) the.TooManyStations)

-- a board of at most 10,000 records is made anew
abbrev pub records_answer : ℕ → Answer
records_answer n = cond (nat_le n 10000) (the.Records n) the.TooManyRecords

abbrev pub obeyed : Asked → State → Answer
obeyed (station n) s = station_answer n s.stations
obeyed (records n) s = records_answer n
obeyed (put k grams resting) s = set_answer (put_answer s.records k (load grams resting))
obeyed (raw k grams resting) s = set_answer (leave_answer s.records k)
obeyed (tare k grams) s = set_answer (tare_setting k grams)
obeyed (interval d) s = set_answer (step_setting d)
obeyed (pile p) s = the.Done
obeyed (weigh k) s = read_answer (readings s k)
obeyed (total ks) s = total_answer (total_in s.counting (readings s) ks)
obeyed (arithmetic c) s = the.Done

-- ---- the state after a command; what is not named stays
abbrev pub with_records : State → List Record → State
with_records s x = record { records = x; tares = s.tares; interval = s.interval; pile = s.pile; counting = s.counting; stations = s.stations }

abbrev pub with_tares : State → List ℤ → State
with_tares s x = record { records = s.records; tares = x; interval = s.interval; pile = s.pile; counting = s.counting; stations = s.stations }

abbrev pub with_interval : State → ℕ → State
with_interval s x = record { records = s.records; tares = s.tares; interval = x; pile = s.pile; counting = s.counting; stations = s.stations }

abbrev pub with_pile : State → Pile → State
with_pile s x = record { records = s.records; tares = s.tares; interval = s.interval; pile = x; counting = s.counting; stations = s.stations }

abbrev pub with_counting : State → Counting → State
with_counting s x = record { records = s.records; tares = s.tares; interval = s.interval; pile = s.pile; counting = x; stations = s.stations }

abbrev pub with_stations : State → List ℕ → State
with_stations s x = record { records = s.records; tares = s.tares; interval = s.interval; pile = s.pile; counting = s.counting; stations = x }

-- the stations with one more, where it is new and there is room
abbrev pub joined : ℕ → List ℕ → List ℕ
joined n made = cond (known n made) made (cond (nat_lt (length made) 64) (made ++ n ∷ []) made)

abbrev pub renewed : ℕ → List Record → List Record
renewed n old = cond (nat_le n 10000) (replicate n empty_record) old

abbrev pub obeyed_after : Asked → State → State
obeyed_after (station n) s = with_stations s (joined n s.stations)
obeyed_after (records n) s = with_records s (renewed n s.records)
obeyed_after (put k grams resting) s =
    with_records s (after (put_answer s.records k (load grams resting)) s.records (slice_set s.records (k - 1) (load grams resting)))
obeyed_after (raw k grams resting) s =
    with_records s (after (leave_answer s.records k) s.records (slice_set s.records (k - 1) (load grams resting)))
obeyed_after (tare k grams) s = with_tares s (after (tare_setting k grams) s.tares (slice_set s.tares (k - 1) grams))
obeyed_after (interval d) s = with_interval s (after (step_setting d) s.interval d)
obeyed_after (pile p) s = with_pile s p
obeyed_after (weigh k) s = s
obeyed_after (total ks) s = s
obeyed_after (arithmetic c) s = with_counting s c

-- the command was answered a, and left the state t
abbrev pub Does : Asked → State → Answer → State → Type 0
Does c s a t = (a ≡ obeyed c s) × (t ≡ obeyed_after c s)

-- what may want memory: a station that is new and has room, a board that is made
abbrev pub wants_memory : Asked → State → Bool
wants_memory (station n) s = not (known n s.stations) && nat_lt (length s.stations) 64
wants_memory (records n) s = nat_le n 10000
wants_memory (put k grams resting) s = false
wants_memory (raw k grams resting) s = false
wants_memory (tare k grams) s = false
wants_memory (interval d) s = false
wants_memory (pile p) s = false
wants_memory (weigh k) s = false
wants_memory (total ks) s = false
wants_memory (arithmetic c) s = false

-- the same, but that memory may run out where the command wants some, and then nothing has changed
abbrev pub Obeys : Asked → State → Result Answer AllocError → State → Type 0
Obeys c s (Ok a) t = Does c s a t
Obeys c s (Err e) t = (wants_memory c s ≡ true) × (t ≡ s)

-- a line of that meaning was answered a, and left the state t: a line that is passed over gets no answer, and one
-- that is not understood changes nothing
abbrev pub Took : Result (Option Asked) Misreading → State → Option Answer → State → Type 0
Took (Ok None) s a t = (a ≡ None) × (t ≡ s)
Took (Ok (Some c)) s a t = (a ≡ Some (obeyed c s)) × (t ≡ obeyed_after c s)
Took (Err m) s a t = (a ≡ Some (the.NotUnderstood m)) × (t ≡ s)

-- whether to obey a line of that meaning may want memory
abbrev pub meant_wants : Result (Option Asked) Misreading → State → Bool
meant_wants (Ok None) s = false
meant_wants (Ok (Some c)) s = wants_memory c s
meant_wants (Err m) s = false

-- memory may run out where a list of channels is read, or where the command wants some, and then nothing has changed
abbrev pub Takes : List ℕ → State → Result (Option Answer) AllocError → State → Type 0
Takes bs s (Ok a) t = Took (understood bs) s a t
Takes bs s (Err e) t = (t ≡ s) × ((line_lists bs ≡ true) ⊎ (meant_wants (understood bs) s ≡ true))
