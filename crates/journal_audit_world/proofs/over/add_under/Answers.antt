use Rattle.std.proofs.Common.{◌||◌}
use Rattle.iofd_words.specs.Areas.{is_of}
use Rattle.journal_audit_world.specs.Keys.{has_number}
use Rattle.journal_audit_world.specs.Over.{is_over}
use Rattle.journal_audit_world.proofs.AreasOver.{row_over}
use Rattle.journal_audit_world.proofs.over.add_under.Goals as goal

pub loop-area-preserved : goal.loop-area-preserved
loop-area-preserved g c =
    row_over (is_of c.args.file c.args.ioas) c.args.areas.now
    (λ n. has_number c.args.numbers.now n || is_over (is_of c.args.file c.args.ioas) c.args.areas.now n) _ _
    c.loop-area.area-index c.area-item.result c.is_of.result c.loop-area-test.true c.area-item.is c.is_of.ensures
    c.in_ok-add_if.ensures c.loop-area.invariant
