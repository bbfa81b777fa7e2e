-- Where the reading refuses for a limit.
use Rattle.std.proofs.Common.{◌≡◌, ℕ, List, [], ◌∷◌, ◌++◌, sym, refl, ap, ◌∙◌, inl, inr}
use Rattle.recipe.specs.Tokens.{Token, place, fine, wrong}
use Rattle.recipe.specs.Grammar.{Recipe}
use Rattle.recipe.specs.Machine.{State, stuck, start, feed, run, finish}
use Rattle.recipe.specs.Limits.{reading, judged, counted}
use Rattle.recipe.specs.Theorem.{LimitedAt}
use Rattle.recipe.proofs.Complete.{complete}
use Rattle.recipe.proofs.Exact.{run-++, run_begins}
use Rattle.recipe.proofs.Sound.{unless_fine, unless_wrong, end_wrong}

-- The reading is refused at the token t after the tokens us, whatever follows, and the machine is not stuck there.
record Stopped (len : ℕ) (q : State) (n : ℕ) (ts : List Token) (p : ℕ) : Type 0 where
  us : List Token
  t : Token
  vs : List Token
  whole : ts ≡ us ++ (t ∷ vs)
  there : p ≡ place t
  moves : feed (run q us) t ≡ stuck → ⊥
  over : (rest : List Token) (r : Recipe) → reading len q n (us ++ (t ∷ rest)) ≡ fine r → ⊥

stopped : (len : ℕ) (ts : List Token) (q : State) (n c p : ℕ) → reading len q n ts ≡ wrong c p → (c ≡ 5 → ⊥) → Stopped len q n ts p
stopped len [] q n c p e h = absurd (h (end_wrong len c p (finish q) e).1)
stopped len (t ∷ ts) q n c p e h =
    let j = judged (feed q t) (counted q t n) in
    elim (unless_wrong j (place t) c p _ e) [
      | inl u ↦
          let s = stopped len ts (feed q t) (counted q t n) c p u.1 h in
          record {
            us = t ∷ s.us;
            t = s.t;
            vs = s.vs;
            whole = ap (λ l. t ∷ l) s.whole;
            there = s.there;
            moves = s.moves;
            over = λ rest r f. s.over rest r (unless_fine j (place t) _ r f).1;
          }
      | inr u ↦
          record {
            us = [];
            t = t;
            vs = ts;
            whole = refl;
            there = u.1;
            moves = λ z. h (sym u.0 ∙ ap (λ s. judged s (counted q t n)) z);
            over = λ rest r f. u.2 (unless_fine j (place t) _ r f).0;
          }
    ]

pub limited_there : (len : ℕ) (ts : List Token) (c p : ℕ) → reading len start 0 ts ≡ wrong c p → (c ≡ 5 → ⊥) → LimitedAt ts p
limited_there len ts c p e h =
    let s = stopped len ts start 0 c p e h in
    record {
      earlier = s.us;
      token = s.t;
      later = s.vs;
      whole = s.whole;
      there = s.there;
      goes_on = run_begins (s.us ++ (s.t ∷ [])) (λ z. s.moves (sym (run-++ s.us start (s.t ∷ [])) ∙ z));
      over = λ rest r d w. s.over rest r (complete len d w);
    }
