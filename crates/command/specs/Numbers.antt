-- What a word means where a number is wanted.
use Rattle.std.specs.Prelude.{ℕ, ◌+◌, ◌-◌, ◌*◌, Bool, true, cond, ◌&&◌, List, [], ◌∷◌, length, ℤ, pos, neg_ℤ, Some, None, Option, ◌==◌, nat_le}
use Rattle.std.specs.Option.{option_map}

abbrev pub digit : ℕ → Bool
digit b = nat_le 48 b && nat_le b 57

abbrev pub all_digits : List ℕ → Bool
all_digits [] = true
all_digits (b ∷ bs) = digit b && all_digits bs

abbrev pub with_digit : ℕ → ℕ → ℕ
with_digit n b = 10 * n + (b - 48)

-- The value of digits that follow others whose value is n.
abbrev pub decimal_after : ℕ → List ℕ → ℕ
decimal_after n [] = n
decimal_after n (b ∷ bs) = decimal_after (with_digit n b) bs

abbrev pub decimal : List ℕ → ℕ
decimal bs = decimal_after 0 bs

-- One or more digits whose value is at most the limit.
abbrev pub value_in : ℕ → List ℕ → Option ℕ
value_in limit bs = cond (nat_le 1 (length bs) && (all_digits bs && nat_le (decimal bs) limit)) (Some (decimal bs)) None

abbrev pub number_in : List ℕ → Option ℕ
number_in w = value_in 4294967295 w

-- Grams: digits, with a '-' before them where the weight is below zero.
abbrev pub below_zero_in : List ℕ → Option ℤ
below_zero_in bs = option_map (λ n. neg_ℤ (pos n)) (value_in 2147483648 bs)

abbrev pub from_zero_in : List ℕ → Option ℤ
from_zero_in bs = option_map pos (value_in 2147483647 bs)

abbrev pub grams_in : List ℕ → Option ℤ
grams_in [] = None
grams_in (b ∷ bs) = cond (b == 45) (below_zero_in bs) (from_zero_in (b ∷ bs))
