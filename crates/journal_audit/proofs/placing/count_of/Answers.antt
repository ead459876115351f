use Rattle.std.proofs.Common.{◌∙◌, sym}
use Rattle.std.proofs.lemmas.List.Sums.{length-filter}
use Rattle.iofd_words.specs.Areas.{is_of}
use Rattle.journal_audit_world.proofs.RowByRow.{counted_all}
use Rattle.journal_audit.proofs.placing.count_of.Goals as goal

pub returns : goal.returns
returns c =
    counted_all (is_of c.args.file c.args.ioas) c.args.areas.now c.loop-area.area-index c.loop-area.count _
    c.loop-area-test.false c.loop-area.invariant.all
    ∙ sym (length-filter (is_of c.args.file c.args.ioas) c.args.areas.now)
