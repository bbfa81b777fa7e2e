-- What the code makes of a weight is the multiple, within the limit.
use Rattle.std.proofs.Common.{arith}
use Rattle.reading.proofs.Quotients.{drops, weighs}
use Rattle.reading.proofs.interval.Interval.dropped.Goals as goal

pub unwrap-requires : goal.unwrap-requires
unwrap-requires c =
    let made = weighs c.new.result c.args.self.grams _ _ c.args.self.lawful c.args.weight.within c.grams.ensures c.new.ensures in
    grind arith

pub returns : goal.returns
returns c =
    let made = weighs c.new.result c.args.self.grams _ _ c.args.self.lawful c.args.weight.within c.grams.ensures c.new.ensures in
    record { value = grind arith; rule = drops _ _ _ c.args.self.lawful (grind arith) }
