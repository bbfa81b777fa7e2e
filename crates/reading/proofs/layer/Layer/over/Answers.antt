-- What a layer begins with leaves the weights of a lawful source as they are.
use Rattle.reading.proofs.Layers.{through_leaves}
use Rattle.reading.proofs.layer.Layer.over.Goals as goal

pub returns-clause-meaning : goal.returns-clause-meaning
returns-clause-meaning g c k = through_leaves _ _ (g.met.A.Adjustment.leaves _ k c.default.ensures) ((g.met.S.ReadingSource.lawful c.args.below).within k)
