-- The numbers and the words that refusals of a setting are reported by.
use Rattle.std.specs.Prelude.{ℕ, List, codes}
use Rattle.reading.specs.declared.refusal.SettingRefusal.{SettingRefusal}
use Rattle.reading.specs.declared.refusal.SettingRefusal.TheVariants.{NoChannel, BadWeight, BadInterval}

abbrev pub refusal_number : SettingRefusal → ℕ
refusal_number NoChannel = 61
refusal_number BadWeight = 62
refusal_number BadInterval = 63

abbrev pub refusal_words : SettingRefusal → List ℕ
refusal_words NoChannel = codes "the channel is not there"
refusal_words BadWeight = codes "a weight is at most 268435455 g either way, and a tare not negative"
refusal_words BadInterval = codes "an interval is 1, 2 or 5 times a power of ten, at most 50000 g"
