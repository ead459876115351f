use Rattle.std.proofs.Common.{sym, ◌∙◌}
use Rattle.journal_audit_maps.proofs.Gapless.{reached_so}
use Rattle.journal_audit_maps.proofs.gaps.reached.Goals as goal

pub returns-then-is_some : goal.returns-then-is_some
returns-then-is_some c =
    reached_so c.args.areas.now c.args.file c.args.ioas c.args.first c.args.index c.loop-area.area-index
    c.area-item.result c.is_of.result c.reached_in-next.result c.loop-area-test.true c.area-item.is c.is_of.ensures
    c.if-is_of.true (sym c.is_some.ensures ∙ c.if-is_some.true) c.reached_in-next.ensures
