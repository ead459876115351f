use Rattle.std.proofs.Common.{◌∙◌, ◌&&◌, Some, ap, find}
use Rattle.iofd_words.specs.Areas.{is_of}
use Rattle.iofd_words.specs.Bounds.{Bounds}
use Rattle.iofd_words.specs.Copies.{is_live_at}
use Rattle.iofd_words.specs.Span.{span_from}
use Rattle.iofd_words.specs.declared.rows.Area.{Area}
use Rattle.journal_audit_world.proofs.RowByRow.{first_here, first_none, first_of_those, first_on}
use Rattle.journal_audit.proofs.source.source_of.Goals as goal

pub loop-area-init : goal.loop-area-init
loop-area-init c =
    ap (λ (asked : Bounds). find (λ (area : Area). is_of c.args.file c.args.request.src_ioas area
    && is_live_at asked area) c.args.areas.now) c.from-asked.ensures
    ∙ first_of_those (is_of c.args.file c.args.request.src_ioas)
    (is_live_at (span_from c.args.request.src_iova.0 c.args.request.length)) c.args.areas.now

pub loop-area-preserved : goal.loop-area-preserved
loop-area-preserved c =
    first_on (λ o. o) (λ area. is_of c.args.file c.args.request.src_ioas area && is_live_at c.from-asked.result area)
    c.args.areas.now c.loop-area.area-index c.area-item.result _ _ c.loop-area-test.true (c.is_source.ensures
    ∙ ap (λ (area : Area). is_of c.args.file c.args.request.src_ioas area && is_live_at c.from-asked.result area)
    c.area-item.is) c.if-is_source.false c.loop-area.invariant

pub returns-then-is_source : goal.returns-then-is_source
returns-then-is_source c =
    ap (λ (area : Area). Some area) c.area-item.is
    ∙ first_here (λ o. o) (λ area. is_of c.args.file c.args.request.src_ioas area
    && is_live_at c.from-asked.result area) c.args.areas.now c.loop-area.area-index c.area-item.result _ _
    c.loop-area-test.true (c.is_source.ensures
    ∙ ap (λ (area : Area). is_of c.args.file c.args.request.src_ioas area && is_live_at c.from-asked.result area)
    c.area-item.is) c.if-is_source.true c.loop-area.invariant

pub returns : goal.returns
returns c =
    first_none (λ o. o) (λ area. is_of c.args.file c.args.request.src_ioas area
    && is_live_at c.from-asked.result area) c.args.areas.now c.loop-area.area-index _ c.loop-area-test.false
    c.loop-area.invariant
