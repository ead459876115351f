use Rattle.journal_audit_tables.proofs.Adding.{area_added, areas_end}
use Rattle.journal_audit_tables.proofs.gathered.Gathered.add_areas.Goals as goal

pub loop-area-preserved : goal.loop-area-preserved
loop-area-preserved g c =
    area_added c.args.level c.args.areas.now c.args.file c.args.ioas c.loop-area.area-index _ _ _ _ _
    c.loop-area-test.true c.area-item.is (rw c.is_live_of.ensures at c.in_ok-add_span.ensures) c.loop-area.invariant

pub returns : goal.returns
returns g c =
    areas_end c.args.level c.args.areas.now c.args.file c.args.ioas c.loop-area.area-index _ _ _
    c.loop-area-test.false c.loop-area.invariant
