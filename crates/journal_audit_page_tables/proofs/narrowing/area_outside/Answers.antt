use Rattle.std.proofs.Common.{◌&&◌, ◌∙◌, ap, sym}
use Rattle.iofd_words.specs.Areas.{is_of}
use Rattle.iofd_rows.proofs.ListTests.{any-filter}
use Rattle.journal_audit_page_tables.specs.Unusable.{meets_unusable}
use Rattle.journal_audit_world.proofs.RowByRow.{any_here, any_none, any_on}
use Rattle.journal_audit_page_tables.proofs.narrowing.area_outside.Goals as goal

pub loop-area-init : goal.loop-area-init
loop-area-init g c =
    sym (any-filter (λ area. meets_unusable c.args.config.now c.args.unusable.now area.span)
    (is_of c.args.file c.args.ioas) c.args.areas.now)

pub loop-area-preserved : goal.loop-area-preserved
loop-area-preserved g c =
    any_on (λ area. is_of c.args.file c.args.ioas area && meets_unusable c.args.config.now c.args.unusable.now
    area.span) c.args.areas.now c.loop-area.area-index c.area-item.result _ _ c.loop-area-test.true
    (c.is_outside.ensures ∙ ap
    (λ area. is_of c.args.file c.args.ioas area && meets_unusable c.args.config.now c.args.unusable.now area.span)
    c.area-item.is) c.if-is_outside.false c.loop-area.invariant

pub returns-then-is_outside : goal.returns-then-is_outside
returns-then-is_outside g c =
    any_here (λ area. is_of c.args.file c.args.ioas area && meets_unusable c.args.config.now c.args.unusable.now
    area.span) c.args.areas.now c.loop-area.area-index c.area-item.result _ _ c.loop-area-test.true
    (c.is_outside.ensures ∙ ap
    (λ area. is_of c.args.file c.args.ioas area && meets_unusable c.args.config.now c.args.unusable.now area.span)
    c.area-item.is) c.if-is_outside.true c.loop-area.invariant

pub returns : goal.returns
returns g c =
    any_none (λ area. is_of c.args.file c.args.ioas area && meets_unusable c.args.config.now c.args.unusable.now
    area.span) c.args.areas.now c.loop-area.area-index _ c.loop-area-test.false c.loop-area.invariant
