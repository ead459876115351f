use Rattle.std.proofs.Common.{◌&&◌, ◌∙◌, ap, sym}
use Rattle.iofd_words.specs.Areas.{is_of}
use Rattle.iofd_rows.proofs.ListTests.{any-filter}
use Rattle.iofd_words.specs.Span.{meets}
use Rattle.iofd_words.specs.Tables.{span_of_table}
use Rattle.journal_audit_world.proofs.RowByRow.{any_here, any_none, any_on}
use Rattle.journal_audit_tables.proofs.idle.is_used.Goals as goal

pub loop-area-init : goal.loop-area-init
loop-area-init c =
    sym (any-filter (λ area. meets area.span (span_of_table c.args.table.now)) (is_of c.args.file c.args.ioas)
    c.args.areas.now)

pub loop-area-preserved : goal.loop-area-preserved
loop-area-preserved c =
    any_on (λ area. is_of c.args.file c.args.ioas area && meets area.span (span_of_table c.args.table.now))
    c.args.areas.now c.loop-area.area-index c.area-item.result _ _ c.loop-area-test.true (c.is_through.ensures ∙ ap
    (λ area. is_of c.args.file c.args.ioas area && meets area.span (span_of_table c.args.table.now)) c.area-item.is)
    c.if-is_through.false c.loop-area.invariant

pub returns-then-is_through : goal.returns-then-is_through
returns-then-is_through c =
    any_here (λ area. is_of c.args.file c.args.ioas area && meets area.span (span_of_table c.args.table.now))
    c.args.areas.now c.loop-area.area-index c.area-item.result _ _ c.loop-area-test.true (c.is_through.ensures ∙ ap
    (λ area. is_of c.args.file c.args.ioas area && meets area.span (span_of_table c.args.table.now)) c.area-item.is)
    c.if-is_through.true c.loop-area.invariant

pub returns : goal.returns
returns c =
    any_none (λ area. is_of c.args.file c.args.ioas area && meets area.span (span_of_table c.args.table.now))
    c.args.areas.now c.loop-area.area-index _ c.loop-area-test.false c.loop-area.invariant
