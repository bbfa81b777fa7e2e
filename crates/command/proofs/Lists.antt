-- A list of channels, one after another.
use Rattle.std.proofs.Common.{◌≡◌, ℕ, true, false, List, [], ◌∷◌, ◌++◌, Some, None, Ok, Option, sym, refl, ap, ◌∙◌, append-nil, arith}
use Rattle.std.specs.Option.{option_map, ok_or}
use Rattle.command.specs.declared.misread.Misread.{Misread}
use Rattle.command.specs.declared.misread.Misread.TheVariants.{Wrong}
use Rattle.command.specs.declared.types.Verb.{Verb}
use Rattle.command.specs.declared.types.Wanted.{Wanted}
use Rattle.command.specs.declared.types.Wanted.TheVariants.{Channel}
use Rattle.command.specs.Words.{none, later}
use Rattle.command.specs.Numbers.{number_in}
use Rattle.command.specs.Arguments.{argument}
use Rattle.command.specs.Understood.{put_before, numbers_in, channels}

-- The words ws are left of all, and ns are the numbers before them.
pub record SoFar (all : List (List ℕ)) (ns : List ℕ) (ws : List (List ℕ)) : Type 0 where
  pub read : option_map (λ ms. ns ++ ms) (numbers_in ws) ≡ numbers_in all
  pub some : none all ≡ false

was_some : (o : Option ℕ) (m : Misread Verb Wanted) (n : ℕ) → Ok n ≡ ok_or o m → o ≡ Some n
was_some None m n e = let z : ◌≡◌ {A = ℕ} 0 1 = cc in absurd (omega arith)
was_some (Some k) m n e = cc

one_before : (n : ℕ) (o : Option (List ℕ)) → option_map (λ ms. (n ∷ []) ++ ms) o ≡ put_before (Some n) o
one_before n None = refl
one_before n (Some ms) = refl

-- One number was read, of which ns consists, and ws are left.
pub first_read : (v : Verb) (all ws : List (List ℕ)) (n : ℕ) (ns : List ℕ) → Ok n ≡ argument v Channel number_in all → ns ≡ n ∷ [] → ws ≡ later all → SoFar all ns ws
first_read v [] ws n ns e is left = let z : ◌≡◌ {A = ℕ} 0 1 = cc in absurd (omega arith)
first_read v (w ∷ us) ws n ns e is left =
    let here = was_some (number_in w) (Wrong v Channel) n e in
    record {
      read =
          (λ i. option_map (λ ms. is i ++ ms) (numbers_in (left i))) ∙
          (one_before n (numbers_in us) ∙ sym (ap (λ o. put_before o (numbers_in us)) here));
      some = refl;
    }

by_numbers : (v : Verb) (all : List (List ℕ)) → none all ≡ false → channels v all ≡ ok_or (numbers_in all) (Wrong v Channel)
by_numbers v [] e = let z : ◌≡◌ {A = ℕ} 0 1 = cc in absurd (omega arith)
by_numbers v (w ∷ ws) e = refl

pub all_read : (v : Verb) (all : List (List ℕ)) (ns : List ℕ) (ws : List (List ℕ)) → SoFar all ns ws → true ≡ none ws → Ok ns ≡ channels v all
all_read v all ns [] s e = ap Ok (sym (append-nil ns)) ∙ (ap (λ o. ok_or o (Wrong v Channel)) s.read ∙ sym (by_numbers v all s.some))
all_read v all ns (w ∷ ws) s e = let z : ◌≡◌ {A = ℕ} 0 1 = cc in absurd (omega arith)
