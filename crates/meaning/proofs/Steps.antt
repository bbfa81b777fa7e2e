-- What each word does to frames.
use Rattle.std.proofs.Common.{◌≡◌, ℕ, ◌+◌, ◌-◌, ◌*◌, ◌<◌, ◌≤◌, Bool, true, false, cond, ◌&&◌, eqb, ltb, leb, ◌≢◌, List, [], ◌∷◌, ◌++◌, length, get_or, set, pos, Some, None, Ok, Err, Result, sym, refl, ap, ◌∙◌, ap₂, append_assoc, not-suc-le-zero, arith, length-append, length-set, get_or-set_other, get_or-set_same}
use lib.ListN.{get_or-append}
use lib.Seq.{get_or_at, set_at, drop-append_seam}
use Rattle.std.proofs.lemmas.Bool.{cond-true, cond-false, lt-ltb, le-ltb, le-leb, ne_eqb, and_from}
use Rattle.arithmetic.specs.Rules.{Answer, Rules}
use Rattle.reading.specs.Answers.{Reading, is_channel}
use Rattle.recipe.specs.declared.Op.{Op as Operator}
use Rattle.machine.specs.declared.fault.EngineFault.TheVariants.{TooDeep}
use Rattle.machine.specs.declared.fault.Fault.{Fault}
use Rattle.machine.specs.declared.fault.Fault.TheVariants.{OfEngine}
use Rattle.machine.specs.declared.types.Effect.{Effect}
use Rattle.machine.specs.declared.types.Effect.TheVariants.{Put}
use Rattle.machine.specs.declared.types.Instruction.{Instruction}
use Rattle.machine.specs.declared.types.Instruction.TheVariants.{Num, Var, Op, Out, Unless, Go, Call, Back, Weigh}
use Rattle.machine.specs.declared.types.Return.{Return}
use Rattle.machine.specs.Words.{decoded}
use Rattle.machine.specs.Steps.{frame_room, applied, at, Stepped, stepped, carried, plan, pushed, joined, computed, weighed as weighing}
use Rattle.machine.specs.Steps.{branched, entered, resumed, backed, may_return}
use Rattle.meaning.specs.Meaning.{worked, weighed}
use Rattle.meaning.proofs.Shape.{Saved, Here, spot, flat, no_entry, Kept, registers_of, stack_of, state, Fits, next, Leads, Reach, Fails, Does, leads_one, stopped_one}

-- How long the waiting frames are at most.
flat_short : {V : Type 0} (K : List (Saved V)) (T : List Return) → Kept K T → length (flat K) ≤ 31 * length K
flat_short [] T k = omega arith
flat_short (x ∷ K) T k = let a = flat_short K T k.2 in let b = length-append (flat K) x.rest in let c = k.0 in omega arith

kept_set : {V : Type 0} (K : List (Saved V)) (T : List Return) (n : ℕ) (e : Return) → length K ≤ n → Kept K T → Kept K (set T n e)
kept_set [] T n e h k = tt
kept_set (x ∷ K) T n e h k =
    let a : length K ≢ n = omega arith in
    (k.0, get_or-set_other T n (length K) e no_entry a ∙ k.1, kept_set K T n e (omega arith) k.2)

-- A list that is not empty.
record NotEmpty {V : Type 0} (l : List V) : Type 0 where
  first : V
  rest : List V
  is : l ≡ first ∷ rest

not_empty : {V : Type 0} (l : List V) → 0 < length l → NotEmpty l
not_empty [] h = absurd (not-suc-le-zero h)
not_empty (x ∷ l) h = record { first = x; rest = l; is = refl }

-- some room is left above a frame
room : {V : Type 0} (a : Here V) (spare : List V) (T : List Return) → Fits a spare T → NotEmpty spare
room a spare T h =
    let f = flat_short a.saved T h.table in let n = h.few in let d = h.deep in let l = h.large in
    not_empty spare (omega arith)

-- the image has the word w at the index i
pub record WordAt (count : ℕ) (memory : List ℕ) (i w : ℕ) : Type 0 where
  pub within : i < count
  pub is : get_or memory i 0 ≡ w

module _ {V : Type 0} where
  -- what the machine makes of a word's effect at a spot
  abbrev carried_at : Rules V → Here V → List V → List Return → Result (Effect V) Fault → Stepped V
  carried_at rules a spare T effect = carried rules (registers_of a) (stack_of a spare) T effect

  -- equal in all parts
  same : {j j' b b' l l' n n' : ℕ} {S S' : List V} {T T' : List Return} → j ≡ j' → b ≡ b' → l ≡ l' → n ≡ n' → S ≡ S' → T ≡ T'
      → stepped (Ok None) (at j b l n) S T ≡ stepped (Ok None) (at j' b' l' n') S' T'
  same p q r s u w = λ i. stepped (Ok None) (at (p i) (q i) (r i) (s i)) (u i) (w i)

  -- a value put on top of F
  put : (K : List (Saved V)) (F : List V) (z v : V) (rest : List V) (T : List Return) (S : List V) (j n p : ℕ)
      → S ≡ flat K ++ (F ++ (z ∷ rest)) → n ≡ length F + 1 → p ≡ length F
      → stepped (Ok None) (at j (length (flat K)) n (length K)) (set S (length (flat K) + p) v) T ≡ state (spot j (F ++ (v ∷ [])) K) rest T
  put K F z v rest T S j n p e en ep =
      let a = length-append F (v ∷ []) in let b = length-append (flat K) F in
      same refl refl (omega arith) refl
      (ap (λ (X : List V). set X (length (flat K) + p) v) (e ∙ sym (append_assoc (flat K) F (z ∷ rest)))
      ∙ set_at (flat K ++ F) z rest v (length (flat K) + p) (omega arith) ∙ regroup)
      refl
    where
      regroup : (flat K ++ F) ++ (v ∷ rest) ≡ flat K ++ ((F ++ (v ∷ [])) ++ rest)
      regroup = simp append_assoc

  -- the room above a frame with one more value
  fits_more : (i j : ℕ) (F G : List V) (v : V) (K : List (Saved V)) (spare rest : List V) (T : List Return)
      → Fits (spot i F K) spare T → length G < 32 → length F + length spare ≡ length G + 1 + length rest → Fits (spot j (G ++ (v ∷ [])) K) rest T
  fits_more i j F G v K spare rest T h g e =
      let a = length-append G (v ∷ []) in let l = h.large in
      record { table = h.table; few = omega arith; deep = h.deep; large = omega arith; long = h.long }

module _ {V : Type 0} (rules : Rules V) (held : ℕ → Reading) (count : ℕ) (memory : List ℕ) where
  -- what the machine does at a spot
  step_is : (a : Here V) (spare : List V) (T : List Return) (w : ℕ) (i : Instruction) → WordAt count memory a.index w → decoded w ≡ i
      → next rules held count memory (state a spare T) ≡ carried_at rules a spare T (plan frame_room rules held count (registers_of a) (a.frame ++ spare) T i)
  unfolding next
  step_is a spare T w i h d =
      ap (carried_at rules a spare T)
      (cond-true (ltb a.index count) _ _ (lt-ltb a.index count h.within)
      ∙ ap₂ (λ (F : List V) (x : Instruction). plan frame_room rules held count (registers_of a) F T x)
      (drop-append_seam (flat a.saved) (a.frame ++ spare)) (ap decoded h.is ∙ d))

  -- a push
  pushes : (i : ℕ) (F : List V) (K : List (Saved V)) (v : V) (spare : List V) (T : List Return) → Fits (spot i F K) spare T → length F < 32
      → next rules held count memory (state (spot i F K) spare T) ≡ carried_at rules (spot i F K) spare T (pushed frame_room (registers_of (spot i F K)) v)
      → Leads rules held count memory 1 (spot i F K) (spot (i + 1) (F ++ (v ∷ [])) K) spare T
  pushes i F K v spare T h l e =
      let z = room (spot i F K) spare T h in let n = ap length z.is in
      leads_one rules held count memory (spot i F K) (spot (i + 1) (F ++ (v ∷ [])) K) spare z.rest T T
      (e ∙ ap (carried_at rules (spot i F K) spare T) (cond-true (ltb (length F) 32) _ _ (lt-ltb (length F) 32 l))
      ∙ put K F z.first v z.rest T (stack_of (spot i F K) spare) (i + 1) (length F + 1) (length F) (ap (λ (X : List V). flat K ++ (F ++ X)) z.is) refl refl)
      (fits_more i (i + 1) F F v K spare z.rest T h l (omega arith))

  pub go_num : (w n i : ℕ) (F : List V) (K : List (Saved V)) → WordAt count memory i w → decoded w ≡ Num n → length F < 32
      → Reach rules held count memory 1 (spot i F K) (spot (i + 1) (F ++ (rules.whole (pos n) ∷ [])) K)
  go_num w n i F K h d l spare T c = pushes i F K (rules.whole (pos n)) spare T c l (step_is (spot i F K) spare T w (Num n) h d)

  pub go_var : (w x i : ℕ) (F : List V) (K : List (Saved V)) → WordAt count memory i w → decoded w ≡ Var x → length F < 32 → x < length F
      → Reach rules held count memory 1 (spot i F K) (spot (i + 1) (F ++ (get_or F x (rules.whole (pos 0)) ∷ [])) K)
  go_var w x i F K h d l q spare T c =
      pushes i F K (get_or F x (rules.whole (pos 0))) spare T c l
      (step_is (spot i F K) spare T w (Var x) h d
      ∙ ap (carried_at rules (spot i F K) spare T)
      (cond-true (ltb x (length F)) _ _ (lt-ltb x (length F) q)
      ∙ ap (pushed frame_room (registers_of (spot i F K))) (get_or-append F spare (rules.whole (pos 0)) x q)))

  pub do_weigh : (w channel i : ℕ) (F : List V) (K : List (Saved V)) → WordAt count memory i w → decoded w ≡ Weigh channel → is_channel channel ≡ true → length F < 32
      → Does rules held count memory (spot i F K) (weighed rules i channel (held channel)) (λ v. spot (i + 1) (F ++ (v ∷ [])) K)
  do_weigh w channel i F K h d q l =
      go (held channel) (λ spare T. step_is (spot i F K) spare T w (Weigh channel) h d
      ∙ ap (carried_at rules (spot i F K) spare T) (cond-true (is_channel channel) _ _ q))
    where
      go : (x : Reading) → ((spare : List V) (T : List Return)
          → next rules held count memory (state (spot i F K) spare T) ≡ carried_at rules (spot i F K) spare T (weighing frame_room rules (registers_of (spot i F K)) channel x))
          → Does rules held count memory (spot i F K) (weighed rules i channel x) (λ v. spot (i + 1) (F ++ (v ∷ [])) K)
      go (Ok grams) e = λ spare T c. pushes i F K (rules.whole grams) spare T c l (e spare T)
      go (Err f) e = λ spare T c. stopped_one rules held count memory (spot i F K) _ spare T
          (ap (λ (x : Stepped V). x.answer) (e spare T ∙ ap (carried_at rules (spot i F K) spare T) (cond-true (ltb (length F) 32) _ _ (lt-ltb (length F) 32 l)))) refl refl

  -- two values on top
  two_long : (F : List V) (v w : V) → length ((F ++ (v ∷ [])) ++ (w ∷ [])) ≡ length F + 2
  two_long F v w = let a = length-append F (v ∷ []) in let b = length-append (F ++ (v ∷ [])) (w ∷ []) in omega arith

  under_top : (F : List V) (v w : V) (spare : List V) (n : ℕ) → n ≡ length F → get_or (((F ++ (v ∷ [])) ++ (w ∷ [])) ++ spare) n (rules.whole (pos 0)) ≡ v
  under_top F v w spare n e = ap (λ (X : List V). get_or X n (rules.whole (pos 0))) regroup ∙ get_or_at F v (w ∷ spare) (rules.whole (pos 0)) n (sym e)
    where
      regroup : ((F ++ (v ∷ [])) ++ (w ∷ [])) ++ spare ≡ F ++ (v ∷ (w ∷ spare))
      regroup = simp append_assoc

  on_top : (F : List V) (w : V) (spare : List V) (n : ℕ) → n ≡ length F → get_or ((F ++ (w ∷ [])) ++ spare) n (rules.whole (pos 0)) ≡ w
  on_top F w spare n e = ap (λ (X : List V). get_or X n (rules.whole (pos 0))) (append_assoc F (w ∷ []) spare) ∙ get_or_at F w spare (rules.whole (pos 0)) n (sym e)

  -- the two on top give way to x
  joins : (i : ℕ) (F : List V) (v w x : V) (K : List (Saved V)) (spare : List V) (T : List Return) → Fits (spot i ((F ++ (v ∷ [])) ++ (w ∷ [])) K) spare T
      → next rules held count memory (state (spot i ((F ++ (v ∷ [])) ++ (w ∷ [])) K) spare T)
      ≡ carried_at rules (spot i ((F ++ (v ∷ [])) ++ (w ∷ [])) K) spare T (joined (registers_of (spot i ((F ++ (v ∷ [])) ++ (w ∷ [])) K)) x)
      → Leads rules held count memory 1 (spot i ((F ++ (v ∷ [])) ++ (w ∷ [])) K) (spot (i + 1) (F ++ (x ∷ [])) K) spare T
  joins i F v w x K spare T h e =
      let n = two_long F v w in let f = h.few in
      leads_one rules held count memory (spot i ((F ++ (v ∷ [])) ++ (w ∷ [])) K) (spot (i + 1) (F ++ (x ∷ [])) K) spare (w ∷ spare) T T
      (e ∙ put K F v x (w ∷ spare) T (stack_of (spot i ((F ++ (v ∷ [])) ++ (w ∷ [])) K) spare) (i + 1) _ _ regroup (omega arith) (omega arith))
      (fits_more i (i + 1) ((F ++ (v ∷ [])) ++ (w ∷ [])) F x K spare (w ∷ spare) T h (omega arith) (omega arith))
    where
      regroup : flat K ++ (((F ++ (v ∷ [])) ++ (w ∷ [])) ++ spare) ≡ flat K ++ (F ++ (v ∷ (w ∷ spare)))
      regroup = simp append_assoc

  pub do_op : (word : ℕ) (o : Operator) (i : ℕ) (F : List V) (v w : V) (K : List (Saved V)) → WordAt count memory i word → decoded word ≡ Op o
      → Does rules held count memory (spot i ((F ++ (v ∷ [])) ++ (w ∷ [])) K) (worked i (applied rules o v w)) (λ x. spot (i + 1) (F ++ (x ∷ [])) K)
  do_op word o i F v w K h d =
      go (applied rules o v w) (λ spare T.
      let n = two_long F v w in let m = length-append F (v ∷ []) in
      step_is (spot i ((F ++ (v ∷ [])) ++ (w ∷ [])) K) spare T word (Op o) h d
      ∙ ap (carried_at rules (spot i ((F ++ (v ∷ [])) ++ (w ∷ [])) K) spare T)
      (cond-true (leb 2 (length ((F ++ (v ∷ [])) ++ (w ∷ [])))) _ _ (le-leb 2 _ (omega arith))
      ∙ ap₂ (λ (x y : V). computed (registers_of (spot i ((F ++ (v ∷ [])) ++ (w ∷ [])) K)) (applied rules o x y))
      (under_top F v w spare _ (omega arith)) (on_top (F ++ (v ∷ [])) w spare _ (omega arith))))
    where
      go : (x : Answer V) → ((spare : List V) (T : List Return) → next rules held count memory (state (spot i ((F ++ (v ∷ [])) ++ (w ∷ [])) K) spare T)
          ≡ carried_at rules (spot i ((F ++ (v ∷ [])) ++ (w ∷ [])) K) spare T (computed (registers_of (spot i ((F ++ (v ∷ [])) ++ (w ∷ [])) K)) x))
          → Does rules held count memory (spot i ((F ++ (v ∷ [])) ++ (w ∷ [])) K) (worked i x) (λ x. spot (i + 1) (F ++ (x ∷ [])) K)
      go (Ok x) e = λ spare T c. joins i F v w x K spare T c (e spare T)
      go (Err f) e = λ spare T c. stopped_one rules held count memory (spot i ((F ++ (v ∷ [])) ++ (w ∷ [])) K) _ spare T (ap (λ (x : Stepped V). x.answer) (e spare T)) refl refl

  pub go_out : (word i : ℕ) (F : List V) (v w : V) (K : List (Saved V)) → WordAt count memory i word → decoded word ≡ Out
      → Reach rules held count memory 1 (spot i ((F ++ (v ∷ [])) ++ (w ∷ [])) K) (spot (i + 1) (F ++ (w ∷ [])) K)
  go_out word i F v w K h d spare T c =
      let n = two_long F v w in let m = length-append F (v ∷ []) in
      joins i F v w w K spare T c
      (step_is (spot i ((F ++ (v ∷ [])) ++ (w ∷ [])) K) spare T word Out h d
      ∙ ap (carried_at rules (spot i ((F ++ (v ∷ [])) ++ (w ∷ [])) K) spare T)
      (cond-true (leb 2 (length ((F ++ (v ∷ [])) ++ (w ∷ [])))) _ _ (le-leb 2 _ (omega arith))
      ∙ ap (joined (registers_of (spot i ((F ++ (v ∷ [])) ++ (w ∷ [])) K))) (on_top (F ++ (v ∷ [])) w spare _ (omega arith))))

  pub go_unless : (w t i : ℕ) (F : List V) (v : V) (K : List (Saved V)) → WordAt count memory i w → decoded w ≡ Unless t → t < count
      → Reach rules held count memory 1 (spot i (F ++ (v ∷ [])) K) (spot (cond (rules.positive v) (i + 1) t) F K)
  go_unless w t i F v K h d q spare T c =
      let n = length-append F (v ∷ []) in let f = c.few in let l = c.large in
      leads_one rules held count memory (spot i (F ++ (v ∷ [])) K) (spot (cond (rules.positive v) (i + 1) t) F K) spare (v ∷ spare) T T
      (step_is (spot i (F ++ (v ∷ [])) K) spare T w (Unless t) h d
      ∙ ap (carried_at rules (spot i (F ++ (v ∷ [])) K) spare T)
      (cond-true (ltb t count && leb 1 (length (F ++ (v ∷ [])))) _ _ (and_from _ _ (lt-ltb t count q) (le-leb 1 _ (omega arith)))
      ∙ ap (λ (x : V). branched (registers_of (spot i (F ++ (v ∷ [])) K)) t (rules.positive x)) (on_top F v spare _ (omega arith)))
      ∙ goes (rules.positive v)
      ∙ same refl refl (omega arith) refl (ap (λ (X : List V). flat K ++ X) (append_assoc F (v ∷ []) spare)) refl)
      (record { table = c.table; few = omega arith; deep = c.deep; large = omega arith; long = c.long })
    where
      goes : (b : Bool) → carried_at rules (spot i (F ++ (v ∷ [])) K) spare T (branched (registers_of (spot i (F ++ (v ∷ [])) K)) t b)
          ≡ stepped (Ok None) (at (cond b (i + 1) t) (length (flat K)) (length (F ++ (v ∷ [])) - 1) (length K)) (stack_of (spot i (F ++ (v ∷ [])) K) spare) T
      goes true = refl
      goes false = refl

  pub go_go : (w t i : ℕ) (F : List V) (K : List (Saved V)) → WordAt count memory i w → decoded w ≡ Go t → t < count → Reach rules held count memory 1 (spot i F K) (spot t F K)
  go_go w t i F K h d q spare T c =
      leads_one rules held count memory (spot i F K) (spot t F K) spare spare T T
      (step_is (spot i F K) spare T w (Go t) h d
      ∙ ap (carried_at rules (spot i F K) spare T) (cond-true (ltb t count) _ _ (lt-ltb t count q)))
      (record { table = c.table; few = c.few; deep = c.deep; large = c.large; long = c.long })

  -- a call that can be carried out
  carries : (w t i : ℕ) (G vs : List V) (K : List (Saved V)) (spare : List V) (T : List Return) → WordAt count memory i w → decoded w ≡ Call (length vs) t → t < count → 0 < length vs → length vs ≤ 8
      → next rules held count memory (state (spot i (G ++ vs) K) spare T)
      ≡ carried_at rules (spot i (G ++ vs) K) spare T (entered (registers_of (spot i (G ++ vs) K)) (length vs) t)
  carries w t i G vs K spare T h d q p l =
      let a = length-append G vs in
      step_is (spot i (G ++ vs) K) spare T w (Call (length vs) t) h d
      ∙ ap (carried_at rules (spot i (G ++ vs) K) spare T)
      (cond-true (leb 1 (length vs) && leb (length vs) 8 && ltb t count && leb (length vs) (length (G ++ vs))) _ _
      (and_from _ _ (and_from _ _ (and_from _ _ (le-leb 1 (length vs) p) (le-leb (length vs) 8 l)) (lt-ltb t count q)) (le-leb (length vs) _ (omega arith))))

  pub go_call : (w t i : ℕ) (G vs : List V) (K : List (Saved V)) → WordAt count memory i w → decoded w ≡ Call (length vs) t → t < count → 0 < length vs → length vs ≤ 8 → length K < 128
      → Reach rules held count memory 1 (spot i (G ++ vs) K) (spot t vs (record { rest = G; back = i + 1 } ∷ K))
  go_call w t i G vs K h d q p l b spare T c =
      let a = length-append G vs in let z = length-append (flat K) G in let f = c.few in let m = c.long in let g = c.large in
      leads_one rules held count memory (spot i (G ++ vs) K) (spot t vs (record { rest = G; back = i + 1 } ∷ K)) spare spare T
      (set T (length K) (record { base = length (flat K); next = i + 1 }))
      (carries w t i G vs K spare T h d q p l
      ∙ ap (carried_at rules (spot i (G ++ vs) K) spare T) (cond-true (ltb (length K) 128) _ _ (lt-ltb (length K) 128 b))
      ∙ same refl (omega arith) refl (omega arith) regroup refl)
      (record {
        table = (omega arith, get_or-set_same T (length K) (record { base = length (flat K); next = i + 1 }) no_entry (omega arith), kept_set K T (length K) _ (omega arith) c.table);
        few = omega arith;
        deep = omega arith;
        large = omega arith;
        long = rw length-set c.long;
      })
    where
      regroup : flat K ++ ((G ++ vs) ++ spare) ≡ (flat K ++ G) ++ (vs ++ spare)
      regroup = simp append_assoc

  pub fail_call : (w t i : ℕ) (G vs : List V) (K : List (Saved V)) → WordAt count memory i w → decoded w ≡ Call (length vs) t → t < count → 0 < length vs → length vs ≤ 8 → length K ≡ 128
      → Fails rules held count memory 1 (spot i (G ++ vs) K) (record { fault = OfEngine TooDeep; index = i })
  fail_call w t i G vs K h d q p l b spare T c =
      stopped_one rules held count memory (spot i (G ++ vs) K) _ spare T
      (ap (λ (x : Stepped V). x.answer) (carries w t i G vs K spare T h d q p l
      ∙ ap (carried_at rules (spot i (G ++ vs) K) spare T) (cond-false (ltb (length K) 128) _ _ (le-ltb (length K) 128 (omega arith)))))
      refl refl

  -- the value on top goes back
  backs : (w i : ℕ) (F : List V) (v : V) (K : List (Saved V)) (spare : List V) (T : List Return) → WordAt count memory i w → decoded w ≡ Back
      → next rules held count memory (state (spot i (F ++ (v ∷ [])) K) spare T)
      ≡ carried_at rules (spot i (F ++ (v ∷ [])) K) spare T (backed frame_room (registers_of (spot i (F ++ (v ∷ [])) K)) v T)
  backs w i F v K spare T h d =
      let n = length-append F (v ∷ []) in
      step_is (spot i (F ++ (v ∷ [])) K) spare T w Back h d
      ∙ ap (carried_at rules (spot i (F ++ (v ∷ [])) K) spare T)
      (cond-true (leb 1 (length (F ++ (v ∷ [])))) _ _ (le-leb 1 _ (omega arith))
      ∙ ap (λ (x : V). backed frame_room (registers_of (spot i (F ++ (v ∷ [])) K)) x T) (on_top F v spare _ (omega arith)))

  -- the entry of the newest waiting frame leads back to it
  resumes : (i : ℕ) (F : List V) (v : V) (k : Saved V) (K : List (Saved V)) (T : List Return) → Kept (k ∷ K) T
      → backed frame_room (registers_of (spot i F (k ∷ K))) v T
      ≡ Ok (Put (at k.back (length (flat K)) (length (flat (k ∷ K)) - length (flat K) + 1) (length (k ∷ K) - 1)) 0 v)
  resumes i F v k K T t =
      let a = length-append (flat K) k.rest in let u = flat_short K T t.2 in let t0 = t.0 in
      let p : length (k ∷ K) - 1 ≡ length K = omega arith in
      cond-false (eqb (length (k ∷ K)) 0) _ _ (ne_eqb (length (k ∷ K)) 0 (omega arith))
      ∙ (ap (resumed frame_room (registers_of (spot i F (k ∷ K))) v) (ap (λ (j : ℕ). get_or T j no_entry) p ∙ t.1)
      ∙ cond-true (may_return frame_room (length (flat (k ∷ K))) (length (flat K)) (length (k ∷ K) - 1)) _ _
      (and_from _ _ (and_from _ _ (le-leb (length (flat K)) (length (flat (k ∷ K))) (omega arith)) (le-leb (length (flat (k ∷ K))) (length (flat K) + 31) (omega arith)))
      (le-leb (length (flat K)) (31 * (length (k ∷ K) - 1)) (omega arith))))

  pub go_back : (w i : ℕ) (F : List V) (v : V) (k : Saved V) (K : List (Saved V)) → WordAt count memory i w → decoded w ≡ Back
      → Reach rules held count memory 1 (spot i (F ++ (v ∷ [])) (k ∷ K)) (spot k.back (k.rest ++ (v ∷ [])) K)
  go_back w i F v k K h d spare T c =
      let n = length-append F (v ∷ []) in let a = length-append (flat K) k.rest in let g = length-append k.rest (v ∷ []) in
      let t = c.table.0 in let dd = c.deep in let l = c.large in
      let o = length-append (F ++ (v ∷ [])) spare in
      let z = not_empty ((F ++ (v ∷ [])) ++ spare) (omega arith) in let zn = ap length z.is in
      leads_one rules held count memory (spot i (F ++ (v ∷ [])) (k ∷ K)) (spot k.back (k.rest ++ (v ∷ [])) K) spare z.rest T T
      (backs w i F v (k ∷ K) spare T h d
      ∙ (ap (carried_at rules (spot i (F ++ (v ∷ [])) (k ∷ K)) spare T) (resumes i (F ++ (v ∷ [])) v k K T c.table)
      ∙ same refl refl (omega arith) (omega arith)
      (ap (λ (X : List V). set (flat (k ∷ K) ++ X) (length (flat (k ∷ K)) + 0) v) z.is
      ∙ (set_at (flat (k ∷ K)) z.first z.rest v (length (flat (k ∷ K)) + 0) (omega arith) ∙ regroup z.rest))
      refl))
      (record { table = c.table.2; few = omega arith; deep = omega arith; large = omega arith; long = c.long })
    where
      regroup : (rest : List V) → (flat K ++ k.rest) ++ (v ∷ rest) ≡ flat K ++ ((k.rest ++ (v ∷ [])) ++ rest)
      regroup rest = simp append_assoc

  -- the end
  pub ends_back : (w i : ℕ) (F : List V) (v : V) (spare : List V) (T : List Return) → WordAt count memory i w → decoded w ≡ Back → Fits (spot i (F ++ (v ∷ [])) []) spare T
      → ((next rules held count memory (state (spot i (F ++ (v ∷ [])) []) spare T)).answer ≡ Ok (Some (rules.shown v)))
      × (get_or (next rules held count memory (state (spot i (F ++ (v ∷ [])) []) spare T)).stack 0 (rules.whole (pos 0)) ≡ v)
  ends_back w i F v spare T h d c =
      let e = backs w i F v [] spare T h d in
      let n = length-append F (v ∷ []) in let o = length-append (F ++ (v ∷ [])) spare in (
        ap (λ (x : Stepped V). x.answer) e,
        ap (λ (x : Stepped V). get_or x.stack 0 (rules.whole (pos 0))) e ∙ get_or-set_same ((F ++ (v ∷ [])) ++ spare) 0 v (rules.whole (pos 0)) (omega arith),
      )
