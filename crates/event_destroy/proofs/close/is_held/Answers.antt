use Rattle.std.proofs.Common.{◌∙◌}
use Rattle.event_destroy.proofs.FileGone.{held_is}
use Rattle.event_destroy.proofs.close.is_held.Goals as goal

pub returns : goal.returns
returns g c = c.is_held.ensures ∙ held_is c.args.table.now c.args.file
