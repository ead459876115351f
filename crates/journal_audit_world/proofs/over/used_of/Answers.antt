use Rattle.iofd_words.specs.declared.rows.Area.{Area}
use Rattle.journal_audit_world.specs.Keys.{has_number}
use Rattle.journal_audit_world.specs.Over.{is_over}
use Rattle.journal_audit_world.proofs.AreasOver.{none_over_yet, row_over}
use Rattle.journal_audit_world.proofs.over.used_of.Goals as goal

pub loop-area-init : goal.loop-area-init
loop-area-init g c =
    none_over_yet (λ (area : Area). has_number c.args.asked.now area.memory) c.args.areas.now _ c.new-used.ensures

pub loop-area-preserved : goal.loop-area-preserved
loop-area-preserved g c =
    row_over (λ (area : Area). has_number c.args.asked.now area.memory) c.args.areas.now
    (is_over (λ (area : Area). has_number c.args.asked.now area.memory) c.args.areas.now) _ _
    c.loop-area.area-index c.area-item.result c.has.result c.loop-area-test.true c.area-item.is c.has.ensures
    c.in_ok-add_if.ensures c.loop-area.invariant
