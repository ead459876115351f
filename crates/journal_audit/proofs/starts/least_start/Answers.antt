use Rattle.journal_audit.specs.Starts.{may_lie}
use Rattle.journal_audit.proofs.LeastStarts.{starts_are}
use Rattle.journal_audit.proofs.starts.least_start.Goals as goal

pub returns : goal.returns
returns c =
    starts_are (may_lie c.args.bytes c.args.choices.now c.args.taken.now) c.args.choices.now c.args.taken.now _ _
    c.least_first-first.ensures c.least_behind.ensures
