-- What a setting changes, and that a refusal leaves everything as it was.
use Rattle.std.specs.Prelude.{◌≡◌, ℕ, cond, Ok, Err, Result, ◌==◌}
use Rattle.reading.specs.Answers.{Reading}
use Rattle.reading.specs.declared.refusal.SettingRefusal.{SettingRefusal}

-- what a setting is answered
abbrev pub Setting : Type 0
Setting = Result (Unit {0}) SettingRefusal

-- what stands after a setting that was so answered: the new where it was taken, else the old
abbrev pub after : {X : Type 0} → Setting → X → X → X
after (Ok u) old new = new
after (Err e) old new = old

-- the answers f, but for one channel
abbrev pub with_answer : (ℕ → Reading) → ℕ → Reading → ℕ → Reading
with_answer f channel answer k = cond (k == channel) answer (f k)

-- a setting of one channel: taken, it gives that channel another answer, and leaves every other channel its own
abbrev pub Changes : (ℕ → Reading) → (ℕ → Reading) → ℕ → Reading → Setting → Type 0
Changes old new channel answer r = (k : ℕ) → new k ≡ after r (old k) (with_answer old channel answer k)
