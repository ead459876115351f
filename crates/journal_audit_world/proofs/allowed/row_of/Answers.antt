use Rattle.std.proofs.Common.{◌∙◌, Some, ap}
use Rattle.iofd_words.specs.Allowed.{is_allowed_in}
use Rattle.iofd_words.specs.Allowed.{AllowedRanges}
use Rattle.journal_audit_world.proofs.RowByRow.{first_here, first_none, first_on}
use Rattle.journal_audit_world.proofs.allowed.row_of.Goals as goal

pub loop-row-preserved : goal.loop-row-preserved
loop-row-preserved g c =
    first_on (λ o. o) (is_allowed_in c.args.file c.args.ioas) c.args.rows.now c.loop-row.row-index c.row-item.result
    _ _ c.loop-row-test.true (c.is_of.ensures ∙ ap (is_allowed_in c.args.file c.args.ioas) c.row-item.is)
    c.if-is_of.false c.loop-row.invariant

pub returns-then-is_of : goal.returns-then-is_of
returns-then-is_of g c =
    ap (λ (row : AllowedRanges). Some row) c.row-item.is
    ∙ first_here (λ o. o) (is_allowed_in c.args.file c.args.ioas) c.args.rows.now c.loop-row.row-index
    c.row-item.result _ _ c.loop-row-test.true (c.is_of.ensures ∙ ap (is_allowed_in c.args.file c.args.ioas)
    c.row-item.is) c.if-is_of.true c.loop-row.invariant

pub returns : goal.returns
returns g c =
    first_none (λ o. o) (is_allowed_in c.args.file c.args.ioas) c.args.rows.now c.loop-row.row-index _
    c.loop-row-test.false c.loop-row.invariant
