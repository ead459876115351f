use Rattle.iova_ranges.proofs.Bounded.{allowed-tells}
use Rattle.iova_ranges.proofs.allowed.Allowed.allows.Goals as goal

pub returns-else-is_empty-clause-allowed : goal.returns-else-is_empty-clause-allowed
returns-else-is_empty-clause-allowed g c =
    rw (← c.self.view_is) (allowed-tells c.self.inside.ranges.spans c.args.span c.covers.result c.if-is_empty.ensures
    c.covers.ensures.covered)
