-- What 32 bits keep of a whole number. Assumes nothing.
use Rattle.std.proofs.Common.{◌≡◌, ℕ, zero, suc, ◌+◌, ◌-◌, ◌/◌, ◌%◌, ◌<◌, ◌≤◌, ℤ, pos, negsuc, neg_ℤ, nat_abs, sym, refl, ◌∙◌, inl, inr, le_trans, div-le_self, arith, w32, SFits, to_z, of_z}
use lib.Signed.{quot_z}
use Rattle.std.specs.Int.{int_wrap}
use Rattle.std.proofs.lemmas.Int.{ints, to_z-of_z, int_wrap_fits}
use Rattle.std.proofs.lemmas.Bool.{cases_lt, le-ltb}
use Rattle.old.specs.Modulo.{InRange, Congruent, Wraps}

-- ---- the wrapped number is the one in range that is congruent
high_bits : (m : ℕ) → 2147483648 ≤ m → to_z w32 m ≡ negsuc (4294967296 - suc m)
high_bits m g = rw (le-ltb m 2147483648 g)

in_range : (m : ℕ) → m < 4294967296 → InRange (to_z w32 m)
in_range m h = record { low = omega (arith, ints); high = omega (arith, ints) }

read : (m : ℕ) → m < 4294967296 → Congruent (pos m) (to_z w32 m)
read m h = elim (cases_lt m 2147483648) [ inl l ↦ (0, 0, omega (arith, ints)) | inr g ↦ (0, 1, rw (high_bits m g) (omega (arith, ints))) ]

one : (z q r : ℤ) → InRange q → InRange r → Congruent z q → Congruent z r → q ≡ r
one z q r a b (j, k, e) (l, m, f) = omega (arith, ints, a.low, a.high, b.low, b.high)

made_of : (z r : ℤ) → InRange r → Congruent z r → Wraps z r
made_of z r a c = record { within = a; turns = c; alone = λ q b d. one z q r b a d c }

pub wrapped_wraps : (z : ℤ) → Wraps z (int_wrap w32 z)
unfolding int_wrap
wrapped_wraps (pos n) =
    let h : n % 4294967296 < 4294967296 = omega arith in
    let c = read (n % 4294967296) h in
    made_of _ _ (in_range _ h) (c.0, n / 4294967296 + c.1, omega (arith, ints, c.2))
wrapped_wraps (negsuc n) =
    let h : 4294967295 - n % 4294967296 < 4294967296 = omega arith in
    let c = read (4294967295 - n % 4294967296) h in
    made_of _ _ (in_range _ h) (n / 4294967296 + 1 + c.0, c.1, omega (arith, ints, c.2))

pub congruent : (z r : ℤ) → r ≡ int_wrap w32 z → Wraps z r
congruent z r e = rw e (wrapped_wraps z)

-- ---- a quotient is no larger than what is divided, so at most 2^31
size_neg : (n : ℕ) → nat_abs (neg_ℤ (pos n)) ≡ n
size_neg zero = refl
size_neg (suc n) = refl

quotient_le : (a b : ℤ) → nat_abs (quot_z a b) ≤ nat_abs a
quotient_le (pos a) (pos b) = div-le_self a b
quotient_le (pos a) (negsuc b) = rw size_neg (div-le_self a (suc b))
quotient_le (negsuc a) (pos b) = rw size_neg (div-le_self (suc a) b)
quotient_le (negsuc a) (negsuc b) = div-le_self (suc a) (suc b)

size_under : (z : ℤ) → SFits w32 z → nat_abs z ≤ 2147483648
size_under (pos n) f = omega (arith, f.sfits)
size_under (negsuc n) f = omega (arith, f.sfits)

inside : (z : ℤ) → SFits w32 z → to_z w32 (of_z w32 z) ≡ int_wrap w32 z
inside z f = to_z-of_z w32 z f ∙ sym (int_wrap_fits w32 z f)

wraps_by_size : (z : ℤ) → nat_abs z ≤ 2147483648 → to_z w32 (of_z w32 z) ≡ int_wrap w32 z
unfolding int_wrap
wraps_by_size (pos n) h =
    elim (cases_lt n 2147483648) [ inl l ↦ inside (pos n) (record { sfits = l }) | inr g ↦ (let e : n ≡ 2147483648 = omega arith in rw e refl) ]
wraps_by_size (negsuc n) h = inside (negsuc n) (record { sfits = omega arith })

pub quotient_wraps : (a b : ℤ) → SFits w32 a → to_z w32 (of_z w32 (quot_z a b)) ≡ int_wrap w32 (quot_z a b)
quotient_wraps a b p = wraps_by_size (quot_z a b) (le_trans (quotient_le a b) (size_under a p))
