use Rattle.std.proofs.Common.{◌||◌, eqb, refl}
use Rattle.iofd_words.specs.declared.rows.Area.{Area}
use Rattle.journal_audit_world.specs.Keys.{has_number}
use Rattle.journal_audit_world.specs.Over.{is_over}
use Rattle.journal_audit_world.proofs.AreasOver.{row_over}
use Rattle.journal_audit_world.proofs.over.add_of_file.Goals as goal

pub loop-area-preserved : goal.loop-area-preserved
loop-area-preserved g c =
    row_over (λ (area : Area). eqb area.file.0 c.args.file.0) c.args.areas.now
    (λ n. has_number c.args.numbers.now n
    || is_over (λ (area : Area). eqb area.file.0 c.args.file.0) c.args.areas.now n) _ _
    c.loop-area.area-index c.area-item.result _ c.loop-area-test.true c.area-item.is refl
    c.in_ok-add_if.ensures c.loop-area.invariant
