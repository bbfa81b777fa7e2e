use Rattle.std.proofs.Common.{◌≡◌, length, vec_items}
use Rattle.command.specs.Left.{left}
use Rattle.command.proofs.Lists.{SoFar}
use Rattle.command.proofs.commands.channels.Given as goal

abbrev pub invariant-loop-channels : goal.invariant-loop-channels
invariant-loop-channels l = record {
  read : SoFar (left l.fn.rest.words) (vec_items l.channels) (left l.rest.words);
  verb : l.rest.verb ≡ l.fn.rest.verb;
}

abbrev pub decreases-loop-channels : goal.decreases-loop-channels
decreases-loop-channels l = length (left l.rest.words)
