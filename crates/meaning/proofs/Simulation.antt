-- The words of a tree do what the tree means.
use Rattle.std.proofs.Common.{◌≡◌, ℕ, ◌+◌, ◌<◌, ◌≤◌, Bool, true, false, cond, ◌||◌, eqb, leb, List, [], ◌∷◌, ◌++◌, length, get_or, pos, sym, refl, ap, ◌∙◌, subst, append_assoc, arith, length-append}
use mathlib.Core.Option.{Option, none, some}
use lib.ListN.{get_or-append}
use lib.Seq.{get_or_at}
use Rattle.std.proofs.lemmas.Bool.{eqb-true, leb-true, and_parts}
use Rattle.std.specs.Str.{bytes_eq}
use Rattle.arithmetic.specs.Rules.{Rules}
use Rattle.reading.specs.Answers.{Reading, is_channel}
use Rattle.recipe.specs.declared.cause.Cause.{Cause}
use Rattle.recipe.specs.Grammar.{Expr, num, var, op, let_in, ifp, call, weigh, group, Arguments, one, more}
use Rattle.recipe.specs.Names.{Signature, arity_of, among, fault_unless, call_faults, faults_of, count as arity}
use Rattle.recipe.specs.Names as names
use Rattle.recipe.specs.Frames.{need, needs}
use Rattle.recipe.specs.Image.{CALL, past, pasts, Bound, find}
use Rattle.machine.proofs.Decodes.{taken_apart, operators}
use Rattle.meaning.specs.Meaning.{Outcome, after, one_more, chosen, Valued, worth_of, value, values}
use Rattle.meaning.proofs.Shape.{Saved, Here, spot, Reach, Does, Yields, yields_any, yields_after, does_after, does_after_with, does_later, does_nothing}
use Rattle.meaning.proofs.Steps.{WordAt, go_num, go_var, do_weigh, do_op, go_out, go_unless, go_go}
use Rattle.meaning.proofs.Placing.{Holds, Holdss}

-- Numbers of 28 bits.
abbrev mutual
  pub Small : Expr → Type 0
  Small (num n) = n.value < 268435456
  Small (var x) = Unit {0}
  Small (weigh n) = Unit {0}
  Small (op o a b) = Small a × Small b
  Small (let_in x a b) = Small a × Small b
  Small (ifp c a b) = Small c × Small a × Small b
  Small (call f es) = Smalls es
  Small (group e) = Small e

  pub Smalls : Arguments → Type 0
  Smalls (one e) = Small e
  Smalls (more es e) = Smalls es × Small e

-- no faults in the whole, none in the parts
pub none_left : {A : Type 0} (xs ys : List A) → xs ++ ys ≡ [] → xs ≡ []
none_left [] ys e = refl
none_left (x ∷ xs) ys e = cc

pub none_right : {A : Type 0} (xs ys : List A) → xs ++ ys ≡ [] → ys ≡ []
none_right [] ys e = e
none_right (x ∷ xs) ys e = cc

holds_true : (b : Bool) (p : ℕ) (c : Cause) → fault_unless b p c ≡ [] → b ≡ true
holds_true true p c e = refl
holds_true false p c e = cc

has_arity : (o : Option ℕ) (n p : ℕ) → call_faults o n p ≡ [] → o ≡ some n
has_arity none n p e = cc
has_arity (some a) n p e = ap some (eqb-true a n (holds_true (eqb a n) p _ e))

channel_small : (k : ℕ) → is_channel k ≡ true → k < 268435456
channel_small k e = let h = leb-true k 64 (and_parts (leb 1 k) (leb k 64) e).1 in omega arith

-- the names that are bound
abbrev pub bound_names : List Bound → List (List ℕ)
bound_names [] = []
bound_names (b ∷ Γ) = b.name ∷ bound_names Γ

-- The names in force are bound.
abbrev pub Covers : List (List ℕ) → List Bound → Type 0
Covers ns Γ = (x : List ℕ) → among ns x ≡ true → among (bound_names Γ) x ≡ true

covers_more : (ns : List (List ℕ)) (Γ : List Bound) (y : List ℕ) (h : ℕ) → Covers ns Γ → Covers (y ∷ ns) (record { name = y; to = h } ∷ Γ)
covers_more ns Γ y h c x = by (bytes_eq x y)
  where
    by : (b : Bool) → (b || among ns x) ≡ true → (b || among (bound_names Γ) x) ≡ true
    by true e = refl
    by false e = c x e

-- The frame has, at the slots of the names in force, what they are worth.
abbrev pub Agree : {V : Type 0} → V → List V → List Bound → List (Valued V) → Type 0
Agree d F [] [] = Unit {0}
Agree d F [] (b ∷ env) = ⊥
Agree d F (g ∷ Γ) [] = ⊥
Agree d F (g ∷ Γ) (b ∷ env) = (g.name ≡ b.name) × (g.to < length F) × (get_or F g.to d ≡ b.worth) × Agree d F Γ env

module _ {V : Type 0} (d : V) where
  pub agree_more : (F G : List V) (Γ : List Bound) (env : List (Valued V)) → Agree d F Γ env → Agree d (F ++ G) Γ env
  agree_more F G [] [] a = tt
  agree_more F G [] (b ∷ env) a = a
  agree_more F G (g ∷ Γ) [] a = a
  agree_more F G (g ∷ Γ) (b ∷ env) a =
      (a.0, (let h = a.1 in simp length-append (omega arith)), get_or-append F G d g.to a.1 ∙ a.2, agree_more F G Γ env a.3)

  pub agree_find : (F : List V) (Γ : List Bound) (env : List (Valued V)) (x : List ℕ) → Agree d F Γ env → among (bound_names Γ) x ≡ true
      → (find Γ x < length F) × (get_or F (find Γ x) d ≡ worth_of d env x)
  agree_find F [] [] x a k = cc
  agree_find F [] (b ∷ env) x a k = absurd a
  agree_find F (g ∷ Γ) [] x a k = absurd a
  agree_find F (g ∷ Γ) (b ∷ env) x a k = go (bytes_eq x g.name) (bytes_eq x b.name) (ap (bytes_eq x) a.0) k (agree_find F Γ env x a.3)
    where
      go : (s t : Bool) → s ≡ t → (s || among (bound_names Γ) x) ≡ true → (among (bound_names Γ) x ≡ true → (find Γ x < length F) × (get_or F (find Γ x) d ≡ worth_of d env x))
          → (cond s g.to (find Γ x) < length F) × (get_or F (cond s g.to (find Γ x)) d ≡ cond t b.worth (worth_of d env x))
      go true true e k next = (a.1, a.2)
      go true false e k next = cc
      go false true e k next = cc
      go false false e k next = next k

snoc_length : {V : Type 0} (F : List V) (v : V) (h : ℕ) → length F ≡ h → length (F ++ (v ∷ [])) ≡ h + 1
snoc_length F v h e = let a = length-append F (v ∷ []) in omega arith

module _ {V : Type 0} (rules : Rules V) (held : ℕ → Reading) (count : ℕ) (memory : List ℕ) (short : count ≤ 4096)
    (S : List Signature) (Φ : List Bound) (φ : List ℕ → ℕ → List V → Outcome V) where
  values_length : (i : ℕ) (env : List (Valued V)) (es : Arguments) → Yields (λ vs. length vs ≡ arity es) (values rules held φ i env es)
  unfolding values
  values_length i env (one e) = yields_any (λ vs. length vs ≡ 1) (value rules held φ i env e) _ (λ v. refl)
  values_length i env (more es e) =
      yields_after (λ vs. length vs ≡ arity es) (λ vs. length vs ≡ arity es + 1) (values rules held φ i env es) _ (values_length i env es)
      (λ vs p. yields_any (λ us. length us ≡ arity es + 1) (value rules held φ (pasts i es) env e) _ (λ v. snoc_length vs v (arity es) p))

  -- What calls do, with the frames K waiting.
  abbrev pub Calls : List (Saved V) → Type 0
  Calls K = (f : List ℕ) (i : ℕ) (G vs : List V) → arity_of S f ≡ some (length vs) → WordAt count memory i (CALL (length vs) (find Φ f))
      → Does rules held count memory (spot i (G ++ vs) K) (φ f i vs) (λ v. spot (i + 1) (G ++ (v ∷ [])) K)

  module _ (K : List (Saved V)) (calls : Calls K) where
    by_choice : {A : Type 0} (p : Bool) (x y : ℕ) (F : List V) (r₁ r₂ : Unit {0} → Outcome A) (post : A → Here V)
        → Does rules held count memory (spot x F K) (r₁ tt) post → Does rules held count memory (spot y F K) (r₂ tt) post
        → Does rules held count memory (spot (cond p x y) F K) (chosen p r₁ r₂) post
    by_choice true x y F r₁ r₂ post a b = a
    by_choice false x y F r₁ r₂ post a b = b

    mutual
      unfolding value values

      pub sim : (ns : List (List ℕ)) (Γ : List Bound) (env : List (Valued V)) (h i : ℕ) (F : List V) (e : Expr)
          → names.faults S ns e ≡ [] → Small e → Covers ns Γ → Agree (rules.whole (pos 0)) F Γ env → length F ≡ h → h + need e ≤ 32 → Holds count memory Φ Γ h i e
          → Does rules held count memory (spot i F K) (value rules held φ i env e) (λ v. spot (past i e) (F ++ (v ∷ [])) K)
      sim ns Γ env h i F (num n) l z g a eq m c = go_num rules held count memory _ n.value i F K c (taken_apart 0 n.value z) (omega arith)
      sim ns Γ env h i F (var x) l z g a eq m c =
          let q = agree_find (rules.whole (pos 0)) F Γ env x.name a (g x.name (holds_true (among ns x.name) x.place _ l)) in
          let q0 = q.0 in
          subst (λ (v : V). Reach rules held count memory 1 (spot i F K) (spot (i + 1) (F ++ (v ∷ [])) K)) q.1
          (go_var rules held count memory _ (find Γ x.name) i F K c (taken_apart 1 (find Γ x.name) (omega arith)) (omega arith) q.0)
      sim ns Γ env h i F (weigh n) l z g a eq m c =
          let q = holds_true (is_channel n.value) n.place _ l in
          do_weigh rules held count memory _ n.value i F K c (taken_apart 8 n.value (channel_small n.value q)) q (omega arith)
      sim ns Γ env h i F (op o e₁ e₂) l z g a eq m c =
          does_after rules held count memory (spot i F K) (value rules held φ i env e₁) _ (λ v. spot (past i e₁) (F ++ (v ∷ [])) K) _
          (sim ns Γ env h i F e₁ (none_left (names.faults S ns e₁) _ l) z.0 g a eq (omega arith) c.0)
          (λ v. does_after rules held count memory (spot (past i e₁) (F ++ (v ∷ [])) K) (value rules held φ (past i e₁) env e₂) _ (λ w. spot (past (past i e₁) e₂) ((F ++ (v ∷ [])) ++ (w ∷ [])) K) _
          (sim ns Γ env (h + 1) (past i e₁) (F ++ (v ∷ [])) e₂ (none_right (names.faults S ns e₁) _ l) z.1 g (agree_more (rules.whole (pos 0)) F (v ∷ []) Γ env a) (snoc_length F v h eq)
          (omega arith) c.1)
          (λ w. do_op rules held count memory _ o (past (past i e₁) e₂) F v w K c.2 (operators o)))
      sim ns Γ env h i F (let_in x e₁ e₂) l z g a eq m c =
          does_after rules held count memory (spot i F K) (value rules held φ i env e₁) _ (λ v. spot (past i e₁) (F ++ (v ∷ [])) K) _
          (sim ns Γ env h i F e₁ (none_left (names.faults S ns e₁) _ l) z.0 g a eq (omega arith) c.0)
          (λ v. does_after rules held count memory (spot (past i e₁) (F ++ (v ∷ [])) K) (value rules held φ (past i e₁) (record { name = x.name; worth = v } ∷ env) e₂) _
          (λ w. spot (past (past i e₁) e₂) ((F ++ (v ∷ [])) ++ (w ∷ [])) K) _
          (sim (x.name ∷ ns) (record { name = x.name; to = h } ∷ Γ) (record { name = x.name; worth = v } ∷ env) (h + 1) (past i e₁) (F ++ (v ∷ [])) e₂
          (none_right (names.faults S ns e₁) _ l) z.1 (covers_more ns Γ x.name h g)
          (refl, (let q = snoc_length F v h eq in omega arith), get_or_at F v [] (rules.whole (pos 0)) h eq, agree_more (rules.whole (pos 0)) F (v ∷ []) Γ env a)
          (snoc_length F v h eq) (omega arith) c.1)
          (λ w. go_out rules held count memory _ (past (past i e₁) e₂) F v w K c.2 refl))
      sim ns Γ env h i F (ifp e₀ e₁ e₂) l z g a eq m c =
          let first = past i e₀ + 1 in
          let second = past (past i e₀ + 1) e₁ + 1 in
          let r = none_right (names.faults S ns e₀) _ l in
          let t = c.2 in let u = c.5 in
          does_after rules held count memory (spot i F K) (value rules held φ i env e₀) _ (λ v. spot (past i e₀) (F ++ (v ∷ [])) K) _
          (sim ns Γ env h i F e₀ (none_left (names.faults S ns e₀) _ l) z.0 g a eq (omega arith) c.0)
          (λ v. does_later rules held count memory 1 _ (spot (cond (rules.positive v) first second) F K) (chosen (rules.positive v)
          (λ _. after (value rules held φ first env e₁) one_more)
          (λ _. value rules held φ second env e₂)) _
          (go_unless rules held count memory _ second (past i e₀) F v K c.1 (taken_apart 4 second (omega arith)) c.2)
          (by_choice (rules.positive v) first second F
          (λ _. after (value rules held φ first env e₁) one_more)
          (λ _. value rules held φ second env e₂) _
          (does_after rules held count memory (spot first F K) (value rules held φ first env e₁) _ (λ w. spot (past first e₁) (F ++ (w ∷ [])) K) _
          (sim ns Γ env h first F e₁ (none_left (names.faults S ns e₁) _ r) z.1 g a eq (omega arith) c.3)
          (λ w. go_go rules held count memory _ (past second e₂) (past first e₁) (F ++ (w ∷ [])) K c.4 (taken_apart 5 (past second e₂) (omega arith)) c.5))
          (sim ns Γ env h second F e₂ (none_right (names.faults S ns e₁) _ r) z.2 g a eq (omega arith) c.6)))
      sim ns Γ env h i F (call f es) l z g a eq m c =
          does_after_with rules held count memory (λ vs. length vs ≡ arity es) (spot i F K) (values rules held φ i env es) _ (λ vs. spot (pasts i es) (F ++ vs) K) _ (values_length i env es)
          (sims ns Γ env h i F es (none_right (call_faults (arity_of S f.name) (arity es) f.place) _ l) z g a eq m c.0)
          (λ vs lv. calls f.name (pasts i es) F vs
          (has_arity (arity_of S f.name) (arity es) f.place (none_left (call_faults (arity_of S f.name) (arity es) f.place) _ l) ∙ ap some (sym lv))
          (subst (λ (n : ℕ). WordAt count memory (pasts i es) (CALL n (find Φ f.name))) (sym lv) c.1))
      sim ns Γ env h i F (group e) l z g a eq m c = sim ns Γ env h i F e l z g a eq m c

      pub sims : (ns : List (List ℕ)) (Γ : List Bound) (env : List (Valued V)) (h i : ℕ) (F : List V) (es : Arguments)
          → faults_of S ns es ≡ [] → Smalls es → Covers ns Γ → Agree (rules.whole (pos 0)) F Γ env → length F ≡ h → h + needs es ≤ 32 → Holdss count memory Φ Γ h i es
          → Does rules held count memory (spot i F K) (values rules held φ i env es) (λ vs. spot (pasts i es) (F ++ vs) K)
      sims ns Γ env h i F (one e) l z g a eq m c =
          does_after rules held count memory (spot i F K) (value rules held φ i env e) _ (λ v. spot (past i e) (F ++ (v ∷ [])) K) _ (sim ns Γ env h i F e l z g a eq m c)
          (λ v. does_nothing rules held count memory (v ∷ []) _ (λ vs. spot (past i e) (F ++ vs) K) refl)
      sims ns Γ env h i F (more es e) l z g a eq m c =
          does_after_with rules held count memory (λ vs. length vs ≡ arity es) (spot i F K) (values rules held φ i env es) _ (λ vs. spot (pasts i es) (F ++ vs) K) _ (values_length i env es)
          (sims ns Γ env h i F es (none_left (faults_of S ns es) _ l) z.0 g a eq (omega arith) c.0)
          (λ vs lv. does_after rules held count memory (spot (pasts i es) (F ++ vs) K) (value rules held φ (pasts i es) env e) _ (λ v. spot (past (pasts i es) e) ((F ++ vs) ++ (v ∷ [])) K) _
          (sim ns Γ env (h + arity es) (pasts i es) (F ++ vs) e (none_right (faults_of S ns es) _ l) z.1 g (agree_more (rules.whole (pos 0)) F vs Γ env a)
          (let q = length-append F vs in omega arith) (omega arith) c.1)
          (λ v. does_nothing rules held count memory (vs ++ (v ∷ [])) _ (λ us. spot (past (pasts i es) e) (F ++ us) K)
          (ap (λ (X : List V). spot (past (pasts i es) e) X K) (append_assoc F vs (v ∷ [])))))
