-- The first of some faults, in whatever order they are met.
use Rattle.std.proofs.Common.{◌≡◌, ℕ, suc, ◌-◌, ◌<◌, ◌≤◌, true, false, ltb, ◌⊎◌, List, [], ◌∷◌, ◌++◌, get_or, Some, None, Option, sym, refl, ap, ◌∙◌, inl, inr, arith}
use Rattle.std.proofs.lemmas.Bool.Decides.{leb_tells, eqb_tells}
use Rattle.recipe.specs.declared.cause.Refusal.{Refusal}
use Rattle.recipe.specs.Names.{before, sooner, noted, earliest}
use Rattle.recipe.specs.Causes.{cause_number}
use Rattle.recipe.specs.declared.cause.Cause.{Cause}
use Rattle.recipe.specs.declared.cause.Cause.TheVariants.{TextTooLong, NoRoom, UnknownByte, NumberTooLarge, NameTooLong}
use Rattle.recipe.specs.declared.cause.Cause.TheVariants.{Grammar, Nesting, Functions, Parameters, Constructs, DeclaredTwice, UnknownName, ArgumentCount, Channel, Frame}

-- The causes by their numbers, from 1 on.
abbrev at : ℕ → Cause
at n =
    get_or (TextTooLong ∷ UnknownByte ∷ NumberTooLarge ∷ NameTooLong ∷ Grammar ∷ Nesting ∷ Functions
    ∷ Parameters ∷ DeclaredTwice ∷ UnknownName ∷ ArgumentCount ∷ Frame ∷ Channel ∷ Constructs ∷ NoRoom ∷ []) (n - 1) Frame

back : (c : Cause) → at (cause_number c) ≡ c
back TextTooLong = refl
back NoRoom = refl
back UnknownByte = refl
back NumberTooLarge = refl
back NameTooLong = refl
back Grammar = refl
back Nesting = refl
back Functions = refl
back Parameters = refl
back Constructs = refl
back DeclaredTwice = refl
back UnknownName = refl
back ArgumentCount = refl
back Channel = refl
back Frame = refl

-- A cause is known by its number.
same_cause : (c d : Cause) → cause_number c ≡ cause_number d → c ≡ d
same_cause c d e = sym (back c) ∙ (ap at e ∙ back d)

abbrev number : Refusal → ℕ
number a = cause_number a.cause

abbrev Ahead : Refusal → Refusal → Type 0
Ahead a b = (before a b ≡ true) × ((a.place < b.place) ⊎ ((a.place ≡ b.place) × (number a ≤ number b)))

abbrev Behind : Refusal → Refusal → Type 0
Behind a b = (before a b ≡ false) × ((b.place < a.place) ⊎ ((a.place ≡ b.place) × (number b < number a)))

order : (a b : Refusal) → Ahead a b ⊎ Behind a b
order a b =
    elim (leb_tells (suc a.place) b.place) [
      | inl l ↦ let e : ltb a.place b.place ≡ true = l.0 in inl (rw e refl, inl (omega (arith, l.1)))
      | inr g ↦
          let e : ltb a.place b.place ≡ false = g.0 in
          elim (eqb_tells a.place b.place) [
            | inl q ↦ elim (leb_tells (number a) (number b)) [
              | inl l ↦ inl (rw (e, q.0, l.0) refl, inr (q.1, l.1))
              | inr m ↦ inr (rw (e, q.0, m.0) refl, inr (q.1, m.1))
            ]
            | inr n ↦ inr (rw (e, n.0) refl, inl (elim (leb_tells (suc b.place) a.place) [ inl l ↦ omega (arith, l.1) | inr m ↦ absurd (n.1 (omega (arith, m.1, g.1))) ]))
          ]
    ]

same : (a b : Refusal) → a.place ≡ b.place → number a ≡ number b → a ≡ b
same a b p c =
    ap (λ (x : Cause). record { cause = x; place = a.place }) (same_cause a.cause b.cause c)
    ∙ ap (λ (x : ℕ). record { cause = b.cause; place = x }) p

level : (a b : Refusal) → Ahead a b → Ahead b a → a ≡ b
level a b f g =
    elim f.1 [
      | inl l ↦ elim g.1 [ inl m ↦ absurd (omega (arith, l, m)) | inr m ↦ absurd (omega (arith, l, m.0)) ]
      | inr l ↦ elim g.1 [ inl m ↦ absurd (omega (arith, l.0, m)) | inr m ↦ same a b l.0 (omega (arith, l.1, m.1)) ]
    ]

never : (a b : Refusal) → Behind a b → Behind b a → ⊥
never a b f g =
    elim f.1 [
      | inl l ↦ elim g.1 [ inl m ↦ omega (arith, l, m) | inr m ↦ omega (arith, l, m.0) ]
      | inr l ↦ elim g.1 [ inl m ↦ omega (arith, l.0, m) | inr m ↦ omega (arith, l.1, m.1) ]
    ]

sooner_swap : (a b : Refusal) → sooner a b ≡ sooner b a
sooner_swap a b =
    elim (order a b) [
      | inl f ↦ elim (order b a) [ inl g ↦ rw (f.0, g.0) (level a b f g) | inr g ↦ rw (f.0, g.0) refl ]
      | inr f ↦ elim (order b a) [ inl g ↦ rw (f.0, g.0) refl | inr g ↦ absurd (never a b f g) ]
    ]

-- a is ahead of x, and x of f: a is ahead of f
follows : (a x f : Refusal) → Ahead a x → Behind f x → Behind f a
follows a x f p q =
    elim (order f a) [
      | inr r ↦ r
      | inl r ↦ absurd (elim p.1 [
        | inl l ↦ elim q.1 [
          | inl m ↦ elim r.1 [ inl n ↦ omega (arith, l, m, n) | inr n ↦ omega (arith, l, m, n.0) ]
          | inr m ↦ elim r.1 [ inl n ↦ omega (arith, l, m.0, n) | inr n ↦ omega (arith, l, m.0, n.0) ]
        ]
        | inr l ↦ elim q.1 [
          | inl m ↦ elim r.1 [ inl n ↦ omega (arith, l.0, m, n) | inr n ↦ omega (arith, l.0, m, n.0) ]
          | inr m ↦ elim r.1 [ inl n ↦ omega (arith, l.0, m.0, n) | inr n ↦ omega (arith, l.1, m.1, n.1) ]
        ]
      ])
    ]

sooner_of : (a x f : Refusal) → sooner (sooner a x) f ≡ sooner (sooner a f) x
sooner_of a x f =
    elim (order a x) [
      | inl p ↦ elim (order a f) [
        | inl q ↦ simp (p.0, q.0)
        | inr q ↦ elim (order f x) [ inl r ↦ simp (p.0, q.0, r.0) | inr r ↦ absurd (never a f q (follows a x f p r)) ]
      ]
      | inr p ↦ elim (order a f) [
        | inl q ↦ elim (order x f) [ inl r ↦ simp (p.0, q.0, r.0) | inr r ↦ absurd (never a x p (follows a f x q r)) ]
        | inr q ↦ simp (p.0, q.0) (sooner_swap x f)
      ]
    ]

noted_swap : (o : Option Refusal) (a b : Refusal) → noted (noted o a) b ≡ noted (noted o b) a
noted_swap None a b = ap Some (sooner_swap a b)
noted_swap (Some x) a b = ap Some (sooner_of x a b)

pub earliest-++ : (o : Option Refusal) (fs gs : List Refusal) → earliest o (fs ++ gs) ≡ earliest (earliest o fs) gs
earliest-++ o [] gs = refl
earliest-++ o (f ∷ fs) gs = earliest-++ (noted o f) fs gs

noted_after : (o : Option Refusal) (f : Refusal) (gs : List Refusal) → noted (earliest o gs) f ≡ earliest (noted o f) gs
noted_after o f [] = refl
noted_after o f (g ∷ gs) = noted_after (noted o g) f gs ∙ ap (λ (x : Option Refusal). earliest x gs) (noted_swap o g f)

pub earliest_swap : (o : Option Refusal) (fs gs : List Refusal) → earliest (earliest o fs) gs ≡ earliest (earliest o gs) fs
earliest_swap o fs [] = refl
earliest_swap o fs (g ∷ gs) = ap (λ (x : Option Refusal). earliest x gs) (noted_after o g fs) ∙ earliest_swap (noted o g) fs gs
