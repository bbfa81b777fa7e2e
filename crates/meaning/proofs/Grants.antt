-- Grants one after another.
use Rattle.std.proofs.Common.{◌≡◌, ℕ, List, [], ◌∷◌, sum, sym, refl, ap, ◌∙◌}
use Rattle.std.proofs.lemmas.List.Sums.{sum_by-cons}
use Rattle.arithmetic.specs.Rules.{Rules}
use Rattle.reading.specs.Answers.{Reading}
use Rattle.machine.specs.Steps.{frame_room}
use Rattle.machine.specs.Runs.{Scene, granted}
use Rattle.machine.proofs.Grants.{granted_add}
use Rattle.meaning.specs.Theorem.{granted_all, SplitAlike}

module _ {V : Type 0} (rules : Rules V) (held : ℕ → Reading) (count : ℕ) (memory : List ℕ) where
  granted_sum : (grants : List ℕ) (x : Scene V) → granted_all rules held count memory grants x ≡ granted frame_room rules held count memory (sum grants) x
  granted_sum [] x = refl
  granted_sum (n ∷ grants) x =
      granted_sum grants (granted frame_room rules held count memory n x)
      ∙ (sym (granted_add frame_room rules held count memory n (sum grants) x)
      ∙ ap (λ (k : ℕ). granted frame_room rules held count memory k x) (sym (sum_by-cons (λ (k : ℕ). k) n grants)))

pub split_alike : {V : Type 0} (rules : Rules V) → SplitAlike rules
split_alike rules held count memory grants x = granted_sum rules held count memory grants x
