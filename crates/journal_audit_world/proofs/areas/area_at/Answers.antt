use Rattle.std.proofs.Common.{◌∙◌, ◌&&◌, Some, ap}
use Rattle.iofd_words.specs.Areas.{is_of}
use Rattle.iofd_words.specs.Span.{holds}
use Rattle.iofd_words.specs.declared.rows.Area.{Area}
use Rattle.journal_audit_world.proofs.RowByRow.{first_here, first_none, first_of_those, first_on}
use Rattle.journal_audit_world.proofs.areas.area_at.Goals as goal

pub loop-area-init : goal.loop-area-init
loop-area-init c =
    first_of_those (is_of c.args.file c.args.ioas) (λ (area : Area). holds area.span c.args.address) c.args.areas.now

pub loop-area-preserved : goal.loop-area-preserved
loop-area-preserved c =
    first_on (λ o. o) (λ area. is_of c.args.file c.args.ioas area && holds area.span c.args.address) c.args.areas.now
    c.loop-area.area-index c.area-item.result _ _ c.loop-area-test.true (c.has_at.ensures
    ∙ ap (λ (area : Area). is_of c.args.file c.args.ioas area && holds area.span c.args.address) c.area-item.is)
    c.if-has_at.false c.loop-area.invariant

pub returns-then-has_at : goal.returns-then-has_at
returns-then-has_at c =
    ap (λ (area : Area). Some area) c.area-item.is
    ∙ first_here (λ o. o) (λ area. is_of c.args.file c.args.ioas area && holds area.span c.args.address)
    c.args.areas.now c.loop-area.area-index c.area-item.result _ _ c.loop-area-test.true (c.has_at.ensures
    ∙ ap (λ (area : Area). is_of c.args.file c.args.ioas area && holds area.span c.args.address) c.area-item.is)
    c.if-has_at.true c.loop-area.invariant

pub returns : goal.returns
returns c =
    first_none (λ o. o) (λ area. is_of c.args.file c.args.ioas area && holds area.span c.args.address)
    c.args.areas.now c.loop-area.area-index _ c.loop-area-test.false c.loop-area.invariant
