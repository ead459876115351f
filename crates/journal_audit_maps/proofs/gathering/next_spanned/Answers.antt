use Rattle.journal_audit_maps.proofs.Gathered.{next_done, next_step}
use Rattle.journal_audit_maps.proofs.gathering.next_spanned.Goals as goal

pub loop-area-preserved : goal.loop-area-preserved
loop-area-preserved c =
    rw c.lesser-least.ensures (next_step c.args.file c.args.ioas c.args.asked c.args.number c.args.areas.now
    c.loop-area.area-index c.args.from c.area-item.result c.loop-area.least c.next_in.result c.loop-area-test.true
    c.area-item.is c.loop-area.invariant c.next_in.ensures)

pub returns : goal.returns
returns c =
    next_done c.args.file c.args.ioas c.args.asked c.args.number c.args.areas.now c.loop-area.area-index c.args.from
    c.loop-area.least c.loop-area-test.false c.loop-area.invariant
