use Rattle.journal_audit.proofs.LeastStarts.{met_first, met_rest}
use Rattle.journal_audit.proofs.starts.meets_from.Goals as goal

pub returns-then-meets_some : goal.returns-then-meets_some
returns-then-meets_some c =
    met_first c.args.taken.now c.args.place c.args.span _ c.if-meets_some.true c.meets_some.ensures

pub returns-else-meets_some : goal.returns-else-meets_some
returns-else-meets_some c =
    met_rest c.args.taken.now c.args.place c.args.span _ _ c.if-meets_some.false c.meets_some.ensures
    c.meets_some-else-meets_some.ensures
