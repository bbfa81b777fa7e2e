-- What an arithmetic over the places V is. A place is plain memory: it may hold one of the arithmetic's values,
-- or something else.
use Rattle.std.specs.Prelude.{◌≡◌, ◌≤◌, Bool, true, cond, ℤ, pos, IfOk, Result, unsigned_abs}
use Rattle.weight.specs.Limit.{limit}
use Rattle.arithmetic.specs.declared.fault.ArithmeticFault.{ArithmeticFault}

-- a value, or a fault
abbrev pub Answer : Type 0 → Type 0
Answer V = Result V ArithmeticFault

-- `value` tells the values from what else can stand in a place; the other seven are the rules
pub record Rules (V : Type 0) : Type 0 where
  pub value : V → Bool
  pub whole : ℤ → V
  pub plus : V → V → Answer V
  pub minus : V → V → Answer V
  pub times : V → V → Answer V
  pub over : V → V → Answer V
  pub positive : V → Bool
  pub shown : V → ℤ

-- what a place counts as: itself where it holds a value, else whole of 0
abbrev pub counts : {V : Type 0} → Rules V → V → V
counts rules v = cond (rules.value v) v (rules.whole (pos 0))

-- the rule f takes each place for what it counts as, and its answer is a value unless it is a fault
pub record OfValues {V : Type 0} (rules : Rules V) (f : V → V → Answer V) : Type 0 where
  pub counting : (a b : V) → f a b ≡ f (counts rules a) (counts rules b)
  pub closed : (a b : V) → IfOk (f a b) (λ v. rules.value v ≡ true)

-- the laws that every arithmetic keeps
pub record Lawful {V : Type 0} (rules : Rules V) : Type 0 where
  pub whole : (z : ℤ) → unsigned_abs z ≤ limit → rules.value (rules.whole z) ≡ true
  pub plus : OfValues rules rules.plus
  pub minus : OfValues rules rules.minus
  pub times : OfValues rules rules.times
  pub over : OfValues rules rules.over
  pub positive : (v : V) → rules.positive v ≡ rules.positive (counts rules v)
  pub shown : (v : V) → rules.shown v ≡ rules.shown (counts rules v)
