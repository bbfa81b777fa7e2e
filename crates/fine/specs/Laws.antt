-- Fine keeps the laws of an arithmetic. Assumes nothing.
use Rattle.std.specs.Prelude.{◌≡◌, ℕ, suc, ◌≤◌, Bool, true, false, cond, ℤ, pos, negsuc, IfOk, Ok, Err, unsigned_abs, refl, Float}
use Rattle.std.proofs.Common.{sym, ap, arith}
use Rattle.std.specs.Float.Ieee.{add, sub, mul, le, of_int, to_signed, round}
use Rattle.std.specs.Float.Ieee.Bits.{is_true}
use Rattle.std.specs.Float.Ieee.Back.{round_whole}
use Rattle.std.specs.Float.Ieee.Exact.{HasValue}
use Rattle.std.specs.Float.Ieee.Order.{le_of_values}
use Rattle.std.specs.Float.{float_with_sign, nan, inf, fin, binary64}
use Rattle.std.proofs.lemmas.Bool.{cond-true}
use Rattle.arithmetic.specs.declared.fault.ArithmeticFault.TheVariants.{OutOfRange, DivisorZero}
use Rattle.fine.specs.declared.Fine.{Fine}
use Rattle.arithmetic.specs.Rules.{Answer, Lawful, counts}
use Rattle.fine.specs.OfFine.{naught, largest, is_value, above_zero, place, counted, answered, divided, fine_rules}

-- ---- a whole number up to the largest is a value
unsigned : (x : Float) (s : Bool) (n : ℕ) → HasValue x s n 1 → HasValue (float_with_sign false x) false n 1
unfolding float_with_sign
unsigned nan s n h = absurd h
unsigned (inf t) s n h = absurd h
unsigned (fin t m e) s n h = (refl, h.1)

small : (s : Bool) (n : ℕ) → n ≤ 2147483647 → is_value (round binary64 s n 1) ≡ true
small s n h =
    let x = round binary64 s n 1 in
    let v = unsigned x s n (round_whole binary64 s n (omega arith)) in
    is_true _ (le_of_values (float_with_sign false x) largest n 1 2147483647 1 (omega arith) (omega arith) v (refl, refl) (omega arith))

whole_value : (z : ℤ) → unsigned_abs z ≤ 268435455 → is_value (of_int binary64 z) ≡ true
unfolding of_int
whole_value (pos n) h = small false n (omega arith)
whole_value (negsuc n) h = small true (suc n) (omega arith)

-- ---- what a place counts as, counts as itself
naught_counted : counted (place (of_int binary64 (pos 0))) ≡ naught
unfolding of_int le float_with_sign
naught_counted = refl

settled : (v : Fine) (b : Bool) → is_value v.grams ≡ b → counted (cond b v (place (of_int binary64 (pos 0)))) ≡ cond b v.grams naught
settled v true e = cond-true _ _ _ e
settled v false e = naught_counted

counted_counts : (v : Fine) → counted v ≡ counted (counts fine_rules v)
counted_counts v = sym (settled v (is_value v.grams) refl)

counting : (op : Float → Float → Answer Fine) (a b : Fine) → op (counted a) (counted b) ≡ op (counted (counts fine_rules a)) (counted (counts fine_rules b))
counting op a b i = op (counted_counts a i) (counted_counts b i)

-- ---- an answer is a value or a fault
abbrev Closed : Answer Fine → Type 0
Closed r = IfOk r (λ v. is_value v.grams ≡ true)

either : (x : Float) (b : Bool) → is_value x ≡ b → Closed (cond b (Ok (place x)) (Err OutOfRange))
either x true e = e
either x false e = tt

closed : (x : Float) → Closed (answered x)
closed x = either x (is_value x) refl

unless : (b : Bool) (x : Float) → Closed (cond b (Err DivisorZero) (answered x))
unless true x = tt
unless false x = closed x

pub fine_lawful : Lawful fine_rules
fine_lawful = record {
  whole = whole_value;
  plus = record { counting = counting (λ x y. answered (add binary64 x y)); closed = λ a b. closed _ };
  minus = record { counting = counting (λ x y. answered (sub binary64 x y)); closed = λ a b. closed _ };
  times = record { counting = counting (λ x y. answered (mul binary64 x y)); closed = λ a b. closed _ };
  over = record { counting = counting divided; closed = λ a b. unless _ _ };
  positive = λ v. ap above_zero (counted_counts v);
  shown = λ v. ap (to_signed 31) (counted_counts v);
}
