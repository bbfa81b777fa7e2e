-- Frames as lists, the states of the machine that stand for them, and what leads from one to another.
use Rattle.std.proofs.Common.{◌≡◌, ℕ, zero, suc, ◌+◌, ◌≤◌, List, [], ◌∷◌, ◌++◌, length, get_or, None, Ok, Err, sym, refl, ap, subst, suc-add, zero-add, arith}
use Rattle.arithmetic.specs.Rules.{Rules}
use Rattle.reading.specs.Answers.{Reading}
use Rattle.machine.specs.declared.fault.RunFault.{RunFault}
use Rattle.machine.specs.declared.types.Registers.{Registers}
use Rattle.machine.specs.declared.types.Return.{Return}
use Rattle.machine.specs.Steps.{frame_room, at, Stepped, stepped, step}
use Rattle.machine.specs.Runs.{cost}
use Rattle.meaning.specs.Meaning.{Outcome, gives, faults, later, after}

-- A frame that waits below a call: its values under the arguments, and the index to return to.
pub record Saved (V : Type 0) : Type 0 where
  pub rest : List V
  pub back : ℕ

-- The index, the present frame, the frames that wait (the newest first).
pub record Here (V : Type 0) : Type 0 where
  pub index : ℕ
  pub frame : List V
  pub saved : List (Saved V)

abbrev pub spot : {V : Type 0} → ℕ → List V → List (Saved V) → Here V
spot i F K = record { index = i; frame = F; saved = K }

-- the waiting frames, as they stand in the stack
abbrev pub flat : {V : Type 0} → List (Saved V) → List V
flat [] = []
flat (k ∷ K) = flat K ++ k.rest

abbrev pub no_entry : Return
no_entry = record { base = 0; next = 0 }

-- The table has the waiting frames' bases and return indexes.
abbrev pub Kept : {V : Type 0} → List (Saved V) → List Return → Type 0
Kept [] T = Unit {0}
Kept (k ∷ K) T = (length k.rest ≤ 31) × (get_or T (length K) no_entry ≡ record { base = length (flat K); next = k.back }) × Kept K T

abbrev pub registers_of : {V : Type 0} → Here V → Registers
registers_of a = at a.index (length (flat a.saved)) (length a.frame) (length a.saved)

abbrev pub stack_of : {V : Type 0} → Here V → List V → List V
stack_of a spare = flat a.saved ++ (a.frame ++ spare)

-- The state that stands for it, with the places of the stack above the frame and the return table.
abbrev pub state : {V : Type 0} → Here V → List V → List Return → Stepped V
state a spare T = stepped (Ok None) (registers_of a) (stack_of a spare) T

pub record Fits {V : Type 0} (a : Here V) (spare : List V) (T : List Return) : Type 0 where
  pub table : Kept a.saved T
  pub few : length a.frame ≤ 32
  pub deep : length a.saved ≤ 128
  pub large : 4128 ≤ length (flat a.saved) + (length a.frame + length spare)
  pub long : 128 ≤ length T

-- If there is a value, it is so.
abbrev pub Yields : {A : Type 0} → (A → Type 0) → Outcome A → Type 0
Yields P (gives v n) = P v
Yields P (faults f n) = Unit {0}

pub yields_later : {A : Type 0} (P : A → Type 0) (n : ℕ) (r : Outcome A) → Yields P r → Yields P (later n r)
yields_later P n (gives v m) y = y
yields_later P n (faults f m) y = y

pub yields_after : {A B : Type 0} (P : A → Type 0) (Q : B → Type 0) (r : Outcome A) (k : A → Outcome B)
    → Yields P r → ((v : A) → P v → Yields Q (k v)) → Yields Q (after r k)
yields_after P Q (gives v n) k y q = yields_later Q n (k v) (q v y)
yields_after P Q (faults f n) k y q = tt

pub yields_any : {A B : Type 0} (Q : B → Type 0) (r : Outcome A) (k : A → Outcome B)
    → ((v : A) → Yields Q (k v)) → Yields Q (after r k)
yields_any Q (gives v n) k q = yields_later Q n (k v) (q v)
yields_any Q (faults f n) k q = tt

module _ {V : Type 0} (rules : Rules V) (held : ℕ → Reading) (count : ℕ) (memory : List ℕ) where
  unfoldable pub next : Stepped V → Stepped V
  next x = step frame_room rules held count memory x.registers x.stack x.returns

  -- n steps, all without a fault or an end, lead from x to y
  abbrev pub Goes : ℕ → Stepped V → Stepped V → Type 0
  Goes zero x y = x ≡ y
  Goes (suc n) x y = ((next x).answer ≡ Ok None) × Goes n (next x) y

  pub goes_on : (m n : ℕ) (x y z : Stepped V) → Goes m x y → Goes n y z → Goes (m + n) x z
  goes_on zero n x y z p q = rw zero-add (subst (λ (w : Stepped V). Goes n w z) (sym p) q)
  goes_on (suc m) n x y z p q = rw suc-add (p.0, goes_on m n (next x) y z p.1 q)

  -- n steps lead from a to b.
  pub record Leads (n : ℕ) (a b : Here V) (spare : List V) (T : List Return) : Type 0 where
    pub above : List V
    pub returns : List Return
    pub goes : Goes n (state a spare T) (state b above returns)
    pub fits : Fits b above returns

  abbrev pub Reach : ℕ → Here V → Here V → Type 0
  Reach n a b = (spare : List V) (T : List Return) → Fits a spare T → Leads n a b spare T

  -- The n-th step, the last, ends in the fault, and is counted.
  pub record Stopped (n : ℕ) (x : Stepped V) (f : RunFault) : Type 0 where
    pub number : ℕ
    pub one_less : n ≡ number + 1
    pub last : Stepped V
    pub goes : Goes number x last
    pub stops : (next last).answer ≡ Err f.fault
    pub there : last.registers.index ≡ f.index
    pub counts : cost (Err f.fault) ≡ 1

  abbrev pub Fails : ℕ → Here V → RunFault → Type 0
  Fails n a f = (spare : List V) (T : List Return) → Fits a spare T → Stopped n (state a spare T) f

  -- From a the run does what the outcome says, and then stands as `post` of its value.
  abbrev pub Does : {A : Type 0} → Here V → Outcome A → (A → Here V) → Type 0
  Does a (gives v n) post = Reach n a (post v)
  Does a (faults f n) post = Fails n a f

  pub reach_reach : (m n : ℕ) (a b c : Here V) → Reach m a b → Reach n b c → Reach (m + n) a c
  reach_reach m n a b c p q spare T h =
      let x = p spare T h in
      let y = q x.above x.returns x.fits in
      record { above = y.above; returns = y.returns; goes = goes_on m n _ _ _ x.goes y.goes; fits = y.fits }

  pub reach_fails : (m n : ℕ) (a b : Here V) (f : RunFault) → Reach m a b → Fails n b f → Fails (m + n) a f
  reach_fails m n a b f p q spare T h =
      let x = p spare T h in
      let y = q x.above x.returns x.fits in
      let e : n ≡ y.number + 1 = y.one_less in
      record { number = m + y.number; one_less = omega arith; last = y.last; goes = goes_on m y.number _ _ _ x.goes y.goes; stops = y.stops; there = y.there; counts = y.counts }

  pub does_later : {A : Type 0} (m : ℕ) (a b : Here V) (r : Outcome A) (post : A → Here V) → Reach m a b → Does b r post → Does a (later m r) post
  does_later m a b (gives v n) post p q = reach_reach m n a b (post v) p q
  does_later m a b (faults f n) post p q = reach_fails m n a b f p q

  -- one outcome after another, faults too
  pub does_after : {A B : Type 0} (a : Here V) (r : Outcome A) (k : A → Outcome B) (mid : A → Here V) (post : B → Here V)
      → Does a r mid → ((v : A) → Does (mid v) (k v) post) → Does a (after r k) post
  does_after a (gives v n) k mid post p q = does_later n a (mid v) (k v) post p (q v)
  does_after a (faults f n) k mid post p q = p

  -- the same, where something is known of the first value
  pub does_after_with : {A B : Type 0} (P : A → Type 0) (a : Here V) (r : Outcome A) (k : A → Outcome B) (mid : A → Here V) (post : B → Here V)
      → Yields P r → Does a r mid → ((v : A) → P v → Does (mid v) (k v) post) → Does a (after r k) post
  does_after_with P a (gives v n) k mid post y p q = does_later n a (mid v) (k v) post p (q v y)
  does_after_with P a (faults f n) k mid post y p q = p

  pub does_nothing : {A : Type 0} (v : A) (a : Here V) (post : A → Here V) → a ≡ post v → Does a (gives v 0) post
  does_nothing v a post e spare T h =
      record { above = spare; returns = T; goes = ap (λ (x : Here V). state x spare T) e; fits = subst (λ (x : Here V). Fits x spare T) e h }

  -- one step
  pub leads_one : (a b : Here V) (spare above : List V) (T T' : List Return) → next (state a spare T) ≡ state b above T' → Fits b above T' → Leads 1 a b spare T
  leads_one a b spare above T T' e h = record { above = above; returns = T'; goes = (ap (λ (x : Stepped V). x.answer) e, e); fits = h }

  pub stopped_one : (a : Here V) (f : RunFault) (spare : List V) (T : List Return) → (next (state a spare T)).answer ≡ Err f.fault → a.index ≡ f.index → cost (Err f.fault) ≡ 1
      → Stopped 1 (state a spare T) f
  stopped_one a f spare T e i c = record { number = 0; one_less = refl; last = state a spare T; goes = refl; stops = e; there = i; counts = c }
