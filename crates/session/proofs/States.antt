-- Two states are one where their parts are.
use Rattle.std.proofs.Common.{◌≡◌}
use Rattle.session.specs.Obeyed.{State}

abbrev rebuilt : State → State
rebuilt s = record { records = s.records; tares = s.tares; interval = s.interval; pile = s.pile; counting = s.counting; stations = s.stations }

pub same : (s t : State) → s.records ≡ t.records → s.tares ≡ t.tares → s.interval ≡ t.interval → s.pile ≡ t.pile → s.counting ≡ t.counting → s.stations ≡ t.stations → s ≡ t
same s t a b c d e f = let parts : rebuilt s ≡ rebuilt t = cc in parts
