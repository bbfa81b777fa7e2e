-- What a layer of tares answers, and which tares it takes.
use Rattle.std.specs.Prelude.{ℕ, cond, ◌&&◌, List, map, ℤ, pos, ◌-ℤ◌, Ok, Err, int_le}
use Rattle.std.specs.Option.{unwrap_or}
use Rattle.weight.specs.declared.weight.Weight.{Weight}
use Rattle.weight.specs.Limit.{in_limit}
use Rattle.reading.specs.Answers.{Reading, at_channel, held_to_limit, is_channel}
use Rattle.reading.specs.OfLayer.{through}
use Rattle.reading.specs.Settings.{Setting}
use Rattle.reading.specs.declared.layer.Layer.{Layer}
use Rattle.reading.specs.declared.tare.Tares.{Tares}
use Rattle.reading.specs.declared.refusal.SettingRefusal.TheVariants.{NoChannel, BadWeight}

abbrev pub grams_each : List Weight → List ℤ
grams_each = map (λ w. w.grams)

-- a reading less a tare
abbrev pub tared : ℤ → Reading → Reading
tared tare = through (λ z. held_to_limit (z -ℤ tare))

-- the tare of channel k is the k-th; outside the channels there is none
abbrev pub tare_at : List ℤ → ℕ → ℤ
tare_at tares k = unwrap_or (at_channel tares k) (pos 0)

abbrev pub tared_answer : (ℕ → Reading) → List ℤ → ℕ → Reading
tared_answer below tares k = tared (tare_at tares k) (below k)

-- the layer over a source that answers so
abbrev pub tare_answers : {S : Type 0} → (S → ℕ → Reading) → Layer S Tares → ℕ → Reading
tare_answers answers layer = tared_answer (answers layer.below) (grams_each layer.setting.each)

-- a tare is refused outside the channels first, and then where it is negative or beyond the limit
abbrev pub tare_setting : ℕ → ℤ → Setting
tare_setting k grams = cond (is_channel k) (cond (int_le (pos 0) grams && in_limit grams) (Ok tt) (Err BadWeight)) (Err NoChannel)
