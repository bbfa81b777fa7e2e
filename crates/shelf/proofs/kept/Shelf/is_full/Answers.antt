use Rattle.std.proofs.Common.{arith}
use Rattle.shelf.proofs.Entries.{full_at}
use Rattle.shelf.proofs.kept.Shelf.is_full.Goals as goal

pub returns-then-len-ge-MOST_RECIPES : goal.returns-then-len-ge-MOST_RECIPES
returns-then-len-ge-MOST_RECIPES c =
    full_at c.args.name.now c.args.self.now.recipes.entries c.contains_key.result (omega (arith, c.len.ensures.len)) c.contains_key.ensures
