-- What a layer of display steps answers, and which intervals it takes.
use Rattle.std.specs.Prelude.{ℕ, cond, Ok, Err}
use Rattle.reading.specs.Answers.{Reading}
use Rattle.reading.specs.Drops.{dropped}
use Rattle.reading.specs.Intervals.{lawful_interval}
use Rattle.reading.specs.OfLayer.{through}
use Rattle.reading.specs.Settings.{Setting}
use Rattle.reading.specs.declared.interval.Interval.{Interval}
use Rattle.reading.specs.declared.layer.Layer.{Layer}
use Rattle.reading.specs.declared.refusal.SettingRefusal.TheVariants.{BadInterval}

-- a reading in steps of d
abbrev pub stepped : ℕ → Reading → Reading
stepped d = through (λ z. Ok (dropped d z))

-- the layer over a source that answers so
abbrev pub step_answers : {S : Type 0} → (S → ℕ → Reading) → Layer S Interval → ℕ → Reading
step_answers answers layer k = stepped layer.setting.grams (answers layer.below k)

abbrev pub step_setting : ℕ → Setting
step_setting d = cond (lawful_interval d) (Ok tt) (Err BadInterval)
