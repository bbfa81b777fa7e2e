-- The whole recipe.
use Rattle.std.proofs.Common.{◌≡◌, ℕ, zero, suc, ◌+◌, ◌-◌, ◌<◌, ◌≤◌, min, true, false, eqb, ◌⊎◌, List, [], ◌∷◌, ◌++◌, length, get_or, pos, Some, Ok, Err, sym, refl, ap, ◌∙◌, subst, inl, inr, append_assoc, arith, length-append}
use mathlib.Core.Option.{some}
use lib.Seq.{get_or_at}
use Rattle.std.proofs.lemmas.Bool.{or_cases, or_left, or_right, cond-true, cond-false, eq-eqb, ne_eqb, cases_lt}
use Rattle.std.specs.Str.{bytes_eq}
use Rattle.arithmetic.specs.Rules.{Rules}
use Rattle.reading.specs.Answers.{Reading}
use Rattle.recipe.specs.Tokens.{Ident}
use Rattle.recipe.specs.Grammar.{Declaration, recipe}
use Rattle.recipe.specs.Names.{all, among, names_of, signatures, Signature, arity_of, twice, declared_names, body_faults}
use Rattle.recipe.specs.Image.{HEAD, BACK, past, past_all, Bound, find, words, slots, entries, bodies, image}
use Rattle.recipe.proofs.Outputs.{image_bound}
use Rattle.machine.proofs.Decodes.{calls as decodes_call}
use Rattle.machine.proofs.Grants.{granted_add, granted_stopped}
use Rattle.machine.specs.declared.types.Return.{Return}
use Rattle.machine.specs.declared.types.Status.TheVariants.{Failed}
use Rattle.machine.specs.Steps.{Stepped, frame_room}
use Rattle.machine.specs.Runs.{Scene, begun, scene, is_going}
use Rattle.meaning.specs.Meaning.{Outcome, gives, faults, steps, after, one_more, Valued, value, with_worths, function_of, functions, meaning_within}
use Rattle.meaning.specs.Theorem.{reached, end, standing, Leaves, DoesSo, Runs}
use Rattle.meaning.proofs.Shape.{Saved, spot, state, Fits, Goes, Reach, Does, does_after, does_later}
use Rattle.meaning.proofs.Steps.{WordAt, go_call, fail_call, go_back, ends_back}
use Rattle.meaning.proofs.Placing.{listed_all, laid}
use Rattle.meaning.proofs.Simulation.{bound_names, Agree, Calls, sim, none_left, none_right}
use Rattle.meaning.proofs.Numbers.{recipe_small}
use Rattle.meaning.proofs.Ready.{Ready, ready, all_fit, all_framed}
use Rattle.meaning.proofs.Turns.{granted_goes, granted_last, first_of, whole_allowance}

-- Parameters are bound to their slots, and are worth what stands there.
slots_cover : (xs : List Ident) (Γ : List Bound) (n : ℕ) (x : List ℕ) → (among (names_of xs) x ≡ true) ⊎ (among (bound_names Γ) x ≡ true) → among (bound_names (slots Γ n xs)) x ≡ true
slots_cover [] Γ n x (inl e) = cc
slots_cover [] Γ n x (inr e) = e
slots_cover (y ∷ xs) Γ n x (inl e) =
    slots_cover xs (record { name = y.name; to = n } ∷ Γ) (n + 1) x (elim (or_cases (bytes_eq x y.name) _ e) [ inl h ↦ inr (or_left (bytes_eq x y.name) _ h) | inr h ↦ inl h ])
slots_cover (y ∷ xs) Γ n x (inr e) = slots_cover xs (record { name = y.name; to = n } ∷ Γ) (n + 1) x (inr (or_right (bytes_eq x y.name) _ e))

slots_agree : {V : Type 0} (d : V) (F : List V) (Γ : List Bound) (env : List (Valued V)) (xs : List Ident) (vs pre : List V) (n : ℕ)
    → F ≡ pre ++ vs → length pre ≡ n → length vs ≡ length xs → Agree d F Γ env → Agree d F (slots Γ n xs) (with_worths env xs vs)
slots_agree d F Γ env [] vs pre n e p l a = a
slots_agree d F Γ env (x ∷ xs) [] pre n e p l a = cc
slots_agree {V} d F Γ env (x ∷ xs) (v ∷ vs) pre n e p l a =
    let q = length-append pre (v ∷ vs) in let u = ap length e in let w = length-append pre (v ∷ []) in
    slots_agree d F (record { name = x.name; to = n } ∷ Γ) (record { name = x.name; worth = v } ∷ env) xs vs (pre ++ (v ∷ [])) (n + 1)
    (e ∙ sym (append_assoc pre (v ∷ []) vs)) (omega arith) (omega arith)
    (refl, omega arith, ap (λ (S : List V). get_or S n d) e ∙ get_or_at pre v vs d n p, a)

module _ {V : Type 0} (rules : Rules V) (held : ℕ → Reading) (count : ℕ) (memory : List ℕ) (short : count ≤ 4096)
    (S : List Signature) (Φ : List Bound) (start : ℕ) (ds : List Declaration)
    (each : (f : List ℕ) (arity : ℕ) → arity_of S f ≡ some arity → ((function_of start ds f).entry ≡ find Φ f) × Ready count memory S Φ (function_of start ds f) arity) where
  -- With so many nested calls left, calls do what the functions then mean.
  calls_do : (left : ℕ) (K : List (Saved V)) → length K + left ≡ 128 → Calls rules held count memory short S Φ (functions rules held start ds left) K
  unfolding functions
  calls_do zero K d f i G vs a w =
      let r = each f (length vs) a in let b = r.1 in let t = r.0 in let n = b.enters in let m = b.few in
      fail_call rules held count memory _ (find Φ f) i G vs K w (decodes_call (length vs) (find Φ f) (omega arith) (omega arith)) (omega arith) b.some_argument b.few (omega arith)
  calls_do (suc left) K d f i G vs a w =
      let r = each f (length vs) a in let b = r.1 in let t = r.0 in let n = b.enters in let m = b.few in
      let g = function_of start ds f in
      let K' : List (Saved V) = record { rest = G; back = i + 1 } ∷ K in
      does_later rules held count memory 1 (spot i (G ++ vs) K) (spot g.entry vs K') _ (λ v. spot (i + 1) (G ++ (v ∷ [])) K)
      (subst (λ (j : ℕ). Reach rules held count memory 1 (spot i (G ++ vs) K) (spot j vs K')) (sym t)
      (go_call rules held count memory _ (find Φ f) i G vs K w (decodes_call (length vs) (find Φ f) (omega arith) (omega arith)) (omega arith) b.some_argument b.few (omega arith)))
      (does_after rules held count memory (spot g.entry vs K') (value rules held (functions rules held start ds left) g.entry (with_worths [] g.parameters vs) g.body) one_more
      (λ v. spot (past g.entry g.body) (vs ++ (v ∷ [])) K') (λ v. spot (i + 1) (G ++ (v ∷ [])) K)
      (sim rules held count memory short S Φ (functions rules held start ds left) K' (calls_do left K' (omega arith)) (names_of g.parameters) (slots [] 0 g.parameters) (with_worths [] g.parameters vs)
      (length g.parameters) g.entry vs g.body b.lawful b.small (λ x e. slots_cover g.parameters [] 0 x (inl e))
      (slots_agree (rules.whole (pos 0)) vs [] [] g.parameters vs [] 0 refl refl (sym b.arguments) tt) (sym b.arguments) b.framed b.holds)
      (λ v. go_back rules held count memory _ (past g.entry g.body) vs v (record { rest = G; back = i + 1 }) K b.back refl))

module _ {V : Type 0} (rules : Rules V) (held : ℕ → Reading) (count : ℕ) (memory : List ℕ) (stack : List V) (table : List Return) (allowance : ℕ)
    (large : 4128 ≤ length stack) (long : 128 ≤ length table) where
  begins : Fits (spot 1 [] []) stack table
  begins = record { table = tt; few = omega arith; deep = omega arith; large = omega arith; long = long }

  abbrev run_to : ℕ → Scene V
  run_to n = reached rules held count memory stack table allowance n

  -- what is claimed of the run after n granted steps
  record Right (o : Outcome V) (n : ℕ) : Type 0 where
    used : (run_to n).run.used ≡ min n (min allowance (steps o))
    stands : (run_to n).run.status ≡ standing rules held count memory stack table allowance o (run_to n).run.used
    leaves : (run_to n).run.used ≡ steps o → Leaves rules held count memory stack table allowance o (run_to n).stack

  -- no more steps are made
  right_on : (o : Outcome V) (m n : ℕ) → m ≤ n → m ≡ min n (min allowance (steps o)) → is_going (run_to m).run.status ≡ false → Right o m → Right o n
  right_on o m n h e g r =
      let k : m + (n - m) ≡ n = omega arith in
      let s : run_to n ≡ run_to m = ap run_to (sym k) ∙ (granted_add frame_room rules held count memory m (n - m) (scene (begun allowance) stack table)
      ∙ granted_stopped frame_room rules held count memory (n - m) (run_to m) g) in
      let u = r.used in
      record {
        used = ap (λ (x : Scene V). x.run.used) s ∙ (let v : min m (min allowance (steps o)) ≡ min n (min allowance (steps o)) = omega arith in r.used ∙ v);
        stands = subst (λ (x : Scene V). x.run.status ≡ standing rules held count memory stack table allowance o x.run.used) (sym s) r.stands;
        leaves = subst (λ (x : Scene V). x.run.used ≡ steps o → Leaves rules held count memory stack table allowance o x.stack) (sym s) r.leaves;
      }

  right_by : (o : Outcome V) (n u : ℕ) → (run_to n).run.used ≡ u → u ≡ min n (min allowance (steps o))
      → (run_to n).run.status ≡ standing rules held count memory stack table allowance o u → (u ≡ steps o → Leaves rules held count memory stack table allowance o (run_to n).stack) → Right o n
  right_by o n u a b c d = record { used = a ∙ b; stands = c ∙ ap (standing rules held count memory stack table allowance o) (sym a); leaves = λ e. d (sym a ∙ e) }

  end_stopped : (o : Outcome V) → is_going (end rules held count memory stack table allowance o) ≡ false
  end_stopped (gives v n) = refl
  end_stopped (faults f n) = refl

  -- n steps without an end, and then the last, which ends it so
  module _ (some_allowed : 0 < allowance) (n : ℕ) (y : Stepped V) (o : Outcome V) (goes : Goes rules held count memory n (state (spot 1 [] []) stack table) y) (last : steps o ≡ n + 1)
      (ends : n < allowance → ((run_to (n + 1)).run.status ≡ end rules held count memory stack table allowance o) × ((run_to (n + 1)).run.used ≡ n + 1)
      × Leaves rules held count memory stack table allowance o (run_to (n + 1)).stack) where
    right_before : (k : ℕ) → k ≤ n → k < allowance → Right o k
    right_before k h l =
        let z = first_of rules held count memory k n (state (spot 1 [] []) stack table) y goes h in
        let g = granted_goes rules held count memory k (state (spot 1 [] []) stack table) z.0 0 allowance z.1 (omega arith) in
        let u : 0 + k ≡ k = omega arith in
        right_by o k k (ap (λ (s : Scene V). s.run.used) g ∙ u) (omega arith)
        (ap (λ (s : Scene V). s.run.status) g
        ∙ sym (cond-false (eqb k (steps o)) _ _ (ne_eqb k (steps o) (omega arith)) ∙ cond-false (eqb k allowance) _ _ (ne_eqb k allowance (omega arith))))
        (λ e. absurd (omega arith))

    right_spent : allowance ≤ n → (k : ℕ) → allowance ≤ k → Right o k
    right_spent h k l =
        let z = first_of rules held count memory allowance n (state (spot 1 [] []) stack table) y goes h in
        let w = whole_allowance rules held count memory allowance (state (spot 1 [] []) stack table) z.0 some_allowed z.1 in
        right_on o allowance k l (omega arith) (ap is_going w.0)
        (right_by o allowance allowance w.1 (omega arith)
        (w.0 ∙ sym (cond-false (eqb allowance (steps o)) _ _ (ne_eqb allowance (steps o) (omega arith)) ∙ cond-true (eqb allowance allowance) _ _ (eq-eqb allowance allowance refl)))
        (λ e. absurd (omega arith)))

    right_ended : n < allowance → (k : ℕ) → n < k → Right o k
    right_ended h k l =
        let w = ends h in
        right_on o (n + 1) k (omega arith) (omega arith) (ap is_going w.0 ∙ end_stopped o)
        (right_by o (n + 1) (n + 1) w.1 (omega arith) (w.0 ∙ sym (cond-true (eqb (n + 1) (steps o)) _ _ (eq-eqb (n + 1) (steps o) (sym last)))) (λ e. w.2))

    right : (k : ℕ) → Right o k
    right k = elim (cases_lt n allowance) [
      | inl h ↦ elim (cases_lt n k) [ inl l ↦ right_ended h k l | inr l ↦ right_before k l (omega arith) ]
      | inr h ↦ elim (cases_lt k allowance) [ inl l ↦ right_before k (omega arith) l | inr l ↦ right_spent h k l ]
    ]

    does_so : DoesSo rules held count memory stack table allowance o
    does_so = record { used = λ k. (right k).used; stands = λ k. (right k).stands; leaves = λ k. (right k).leaves }

  carries : 0 < allowance → (i : ℕ) (o : Outcome V) → WordAt count memory i BACK → Does rules held count memory (spot 1 [] []) o (λ v. spot i (v ∷ []) [])
      → DoesSo rules held count memory stack table allowance (after o one_more)
  carries a i (gives v n) w p =
      let x = p stack table begins in
      let y = state (spot i (v ∷ []) []) x.above x.returns in
      let b = ends_back rules held count memory _ i [] v x.above x.returns w refl x.fits in
      does_so a n y (gives v (n + 1)) x.goes refl (λ l.
      let e = granted_last rules held count memory n (state (spot 1 [] []) stack table) y allowance (Ok (Some (rules.shown v))) x.goes l b.0 in
      (ap (λ (s : Scene V). s.run.status) e, ap (λ (s : Scene V). s.run.used) e, ap (λ (s : Scene V). get_or s.stack 0 (rules.whole (pos 0))) e ∙ b.1))
  carries a i (faults f n) w p =
      let x = p stack table begins in
      does_so a x.number x.last (faults f n) x.goes x.one_less (λ l.
      let e = granted_last rules held count memory x.number (state (spot 1 [] []) stack table) x.last allowance (Err f.fault) x.goes l x.stops in (
        ap (λ (s : Scene V). s.run.status) e ∙ ap (λ (j : ℕ). Failed (record { fault = f.fault; index = j })) x.there,
        ap (λ (s : Scene V). s.run.used) e ∙ ap (λ (k : ℕ). x.number + k) x.counts,
        tt,
      ))

pub recipes_run : {V : Type 0} (rules : Rules V) → Runs rules
unfolding meaning_within
recipes_run {V} rules held text (recipe ds p e) r behind stack table allowance large long some_allowed =
    let S = signatures (all ds) in
    let from = past 1 e + 1 in
    let Φ = entries from (all ds) in
    let ws = words Φ [] 0 1 e ++ (BACK ∷ bodies Φ from (all ds)) in
    let head = HEAD (past_all from (all ds)) in
    let count = length (image (recipe ds p e)) in
    let memory = image (recipe ds p e) ++ behind in
    let short = image_bound (recipe ds p e) r.within in
    let l = listed_all count memory (head ∷ []) ws behind 1 refl refl (omega arith) in
    let x = laid count memory Φ [] 0 1 e _ l in
    let b = x.0.0 in
    let small = recipe_small text r.derives in
    let w = r.within in
    let m = all_framed (all ds) p e r.framed in
    let m1 = m.1 in
    let n = none_right (twice [] (declared_names (all ds))) _ r.lawful in
    let each = λ (f : List ℕ) (arity : ℕ) (a : arity_of S f ≡ some arity). ready count memory S Φ from (all ds) f arity x.0.1 (none_left (body_faults S (all ds)) _ n) (all_fit ds w.1 small.0) m.0 a in
    carries rules held count memory stack table allowance large long some_allowed (past 1 e) (value rules held (functions rules held from (all ds) 128) 1 [] e) b
    (sim rules held count memory short S Φ (functions rules held from (all ds) 128) [] (calls_do rules held count memory short S Φ from (all ds) each 128 [] refl) [] [] [] 0 1 [] e
    (none_right (body_faults S (all ds)) _ n) small.1 (λ x h. cc) tt refl (omega arith) (x.1 b.within))
