use Rattle.std.proofs.Common.{vec_items, ap, rules}
use Rattle.command.specs.Left.{left}
use Rattle.command.specs.Understood.{refused}
use Rattle.command.proofs.Lists.{first_read, all_read}
use Rattle.command.proofs.commands.channels.Goals as goal

pub loop-channels-init : goal.loop-channels-init
loop-channels-init c = record {
  read = first_read c.args.rest.now.verb _ _ c.in_ok-next.field-0 _ c.in_ok-next.ensures.value c.in_ok-channels.ensures.items c.next.ensures.rest;
  verb = search rules;
}

pub returns : goal.returns
returns c =
    ap refused (all_read c.args.rest.now.verb (left c.args.rest.now.words) (vec_items c.loop-channels.channels) (left c.loop-channels.rest.words) c.loop-channels.invariant.read c.loop-channels-test.ensures)
