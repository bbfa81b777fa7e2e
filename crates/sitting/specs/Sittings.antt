-- A session with its recipes: the state, and what each line answers and makes of it.
use Rattle.std.specs.Prelude.{◌≡◌, ℕ, ◌-◌, Bool, true, false, cond, List, [], ◌∷◌, ◌++◌, length, take, Some, None, Ok, Err, vec_items, Option, Result}
use Rattle.std.specs.Option.{option_map}
use Rattle.std.specs.declared.alloc.AllocError.{AllocError}
use Rattle.command.specs.OfRecipes.{Bidden, RecipeMisreading, text_of, load_of, words_of, room, recipe_line, ends_text}
use Rattle.shelf.specs.Kept as shelf
use Rattle.shelf.specs.Kept.{Kept, Told, took, told, kept_by, compile_told, compile_after, with_room}
use Rattle.session.specs.Obeyed as bench
use Rattle.session.specs.Obeyed.{State, Takes, state_of}
use Rattle.session.specs.declared.answer.Answer.{Answer}
use Rattle.session.specs.declared.answer.Answer.TheVariants.{Done}
use Rattle.sitting.specs.declared.lines.Draft.{Draft}
use Rattle.sitting.specs.declared.lines.Session.{Session}
use Rattle.sitting.specs.declared.lines.Reply.{Reply}
use Rattle.sitting.specs.declared.lines.Reply.TheVariants as the

-- a text that is being written: the name, and the lines so far, each with a line feed after it
pub record Drafted : Type 0 where
  pub name : List ℕ
  pub text : List ℕ

-- the bench, the recipes that are kept, and the text that is being written
pub record Sitting : Type 0 where
  pub bench : State
  pub shelf : Kept
  pub draft : Option Drafted

abbrev pub draft_of : Draft → Drafted
draft_of o = record { name = vec_items o.name; text = vec_items o.text }

abbrev pub sitting_of : Session → Sitting
sitting_of s = record { bench = state_of s.bench; shelf = kept_by s.shelf; draft = option_map draft_of s.draft }

abbrev pub at_first : Sitting
at_first = record { bench = bench.at_first; shelf = shelf.at_first; draft = None }

-- ---- what is said
pub data Said : Type 0 where
  of_bench : Answer → Said
  compiled : Told → Said
  words : List ℕ → Said
  no_recipe : Said
  wants_file : List ℕ → List ℕ → Said
  not_understood : RecipeMisreading → Said

abbrev pub said : Reply → Said
said (the.Bench a) = of_bench a
said (the.Accepted n) = compiled (took n)
said (the.NotKept reason) = compiled (told reason)
said (the.Words ws) = words (vec_items ws)
said the.NoRecipe = no_recipe
said (the.File n f) = wants_file n.now f.now
said (the.NotUnderstood m) = not_understood m

-- what a compile tells is said, unless memory ran out
abbrev pub Tells : Option Told → Result Reply AllocError → Type 0
Tells (Some t) (Ok a) = said a ≡ compiled t
Tells (Some t) (Err e) = ⊥
Tells None (Ok a) = ⊥
Tells None (Err e) = Unit {0}

-- ---- the state after a line; what is not named stays
abbrev pub with_shelf : Sitting → Kept → Sitting
with_shelf s k = record { bench = s.bench; shelf = k; draft = s.draft }

abbrev pub with_draft : Sitting → Option Drafted → Sitting
with_draft s o = record { bench = s.bench; shelf = s.shelf; draft = o }

-- ---- while a text is being written
abbrev pub lengthened : Drafted → List ℕ → Drafted
lengthened o line = record { name = o.name; text = (o.text ++ line) ++ 10 ∷ [] }

-- the lines joined by line feeds: no line feed after the last
abbrev pub joined : List ℕ → List ℕ
joined text = take (length text - 1) text

-- a line that belongs to the text says nothing
abbrev pub go_on_said : Drafted → List ℕ → Sitting → Option Said
go_on_said o bs s = cond (ends_text bs) (Some (compiled (compile_told o.name (joined o.text) s.shelf))) None

abbrev pub go_on_after : Drafted → List ℕ → Sitting → Sitting
go_on_after o bs s =
    cond (ends_text bs)
    (with_draft (with_shelf s (compile_after o.name (joined o.text) s.shelf)) None)
    (with_draft s (Some (lengthened o bs)))

-- where memory runs out, the text is let go, and nothing else has changed
abbrev pub GoesOn : Drafted → List ℕ → Sitting → Result (Option Reply) AllocError → Sitting → Type 0
GoesOn o bs s (Ok a) t = (option_map said a ≡ go_on_said o bs s) × (t ≡ go_on_after o bs s)
GoesOn o bs s (Err e) t = t ≡ with_draft s None

-- ---- while none is
abbrev pub words_said : Option (List ℕ) → Said
words_said None = no_recipe
words_said (Some ws) = words ws

abbrev pub bid_said : Bidden → Sitting → Option Said
bid_said (text_of n) s = None
bid_said (load_of n f) s = Some (wants_file n f)
bid_said (words_of n) s = Some (words_said (shelf.words_of n s.shelf))
bid_said (room i t) s = Some (of_bench Done)

abbrev pub bid_after : Bidden → Sitting → Sitting
bid_after (text_of n) s = with_draft s (Some (record { name = n; text = [] }))
bid_after (load_of n f) s = s
bid_after (words_of n) s = s
bid_after (room i t) s = with_shelf s (with_room s.shelf (record { image = i; table = t }))

-- what may want memory: a name that is noted, words that are copied
abbrev pub bid_wants : Bidden → Bool
bid_wants (text_of n) = true
bid_wants (load_of n f) = false
bid_wants (words_of n) = true
bid_wants (room i t) = false

abbrev pub Bids : Bidden → Sitting → Result (Option Reply) AllocError → Sitting → Type 0
Bids b s (Ok a) t = (option_map said a ≡ bid_said b s) × (t ≡ bid_after b s)
Bids b s (Err e) t = (t ≡ s) × (bid_wants b ≡ true)

-- a line for the bench is answered as the bench answers it
abbrev pub SaidByBench : List ℕ → State → Option Said → State → Type 0
SaidByBench bs s None t = Takes bs s (Ok None) t
SaidByBench bs s (Some (of_bench a)) t = Takes bs s (Ok (Some a)) t
SaidByBench bs s (Some (compiled x)) t = ⊥
SaidByBench bs s (Some (words x)) t = ⊥
SaidByBench bs s (Some no_recipe) t = ⊥
SaidByBench bs s (Some (wants_file n f)) t = ⊥
SaidByBench bs s (Some (not_understood m)) t = ⊥

abbrev pub Weighs : List ℕ → Sitting → Result (Option Reply) AllocError → Sitting → Type 0
Weighs bs s (Ok a) t = SaidByBench bs s.bench (option_map said a) t.bench × (t.shelf ≡ s.shelf) × (t.draft ≡ s.draft)
Weighs bs s (Err e) t = Takes bs s.bench (Err e) t.bench × (t.shelf ≡ s.shelf) × (t.draft ≡ s.draft)

-- a line that is not understood changes nothing
abbrev pub Misses : RecipeMisreading → Sitting → Result (Option Reply) AllocError → Sitting → Type 0
Misses m s (Ok a) t = (option_map said a ≡ Some (not_understood m)) × (t ≡ s)
Misses m s (Err e) t = ⊥

abbrev pub Meets : Result (Option Bidden) RecipeMisreading → List ℕ → Sitting → Result (Option Reply) AllocError → Sitting → Type 0
Meets (Ok None) bs s r t = Weighs bs s r t
Meets (Ok (Some b)) bs s r t = Bids b s r t
Meets (Err m) bs s r t = Misses m s r t

abbrev pub Hears : List ℕ → Sitting → Result (Option Reply) AllocError → Sitting → Type 0
Hears bs s r t = Meets (recipe_line bs) bs s r t

-- ---- any line
abbrev pub ByDraft : Option Drafted → List ℕ → Sitting → Result (Option Reply) AllocError → Sitting → Type 0
ByDraft None bs s r t = Hears bs s r t
ByDraft (Some o) bs s r t = GoesOn o bs s r t

abbrev pub Sits : List ℕ → Sitting → Result (Option Reply) AllocError → Sitting → Type 0
Sits bs s r t = ByDraft s.draft bs s r t

-- a text that a file has; where memory runs out, nothing has changed
abbrev pub Loads : List ℕ → List ℕ → Sitting → Result Reply AllocError → Sitting → Type 0
Loads name text s (Ok a) t = (said a ≡ compiled (compile_told name text s.shelf)) × (t ≡ with_shelf s (compile_after name text s.shelf))
Loads name text s (Err e) t = t ≡ s
