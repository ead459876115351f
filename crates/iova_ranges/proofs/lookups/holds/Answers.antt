use Rattle.std.proofs.Common.{sym}
use Rattle.iova_ranges.proofs.Reaching.{holds_none, holds_some}
use Rattle.iova_ranges.proofs.lookups.holds.Goals as goal

pub returns-in-Some : goal.returns-in-Some
returns-in-Some c =
    let is = holds_some c.args.number c.args.spans.now c.in-Some.span.now c.requires (sym c.in-Some.ensures) in
    rw c.first.ensures.value (sym is)

pub returns-in-None : goal.returns-in-None
returns-in-None c = sym (holds_none c.args.number c.args.spans.now c.requires (sym c.in-None.ensures))
