use Rattle.std.proofs.Common.{◌&&◌, ◌∙◌, ap}
use Rattle.iofd_words.specs.Areas.{is_touched}
use Rattle.journal_audit_maps.specs.Waiting.{are_owed}
use Rattle.journal_audit_world.proofs.RowByRow.{any_here, any_none, any_on}
use Rattle.journal_audit_maps.proofs.waiting.is_some_owed.Goals as goal

pub loop-area-preserved : goal.loop-area-preserved
loop-area-preserved c =
    any_on (λ area. is_touched c.args.file c.args.request area && are_owed c.args.attached area.phase)
    c.args.areas.now c.loop-area.area-index c.area-item.result _ _ c.loop-area-test.true (c.is_owed_by.ensures ∙ ap
    (λ area. is_touched c.args.file c.args.request area && are_owed c.args.attached area.phase) c.area-item.is)
    c.if-is_owed_by.false c.loop-area.invariant

pub returns-then-is_owed_by : goal.returns-then-is_owed_by
returns-then-is_owed_by c =
    any_here (λ area. is_touched c.args.file c.args.request area && are_owed c.args.attached area.phase)
    c.args.areas.now c.loop-area.area-index c.area-item.result _ _ c.loop-area-test.true (c.is_owed_by.ensures ∙ ap
    (λ area. is_touched c.args.file c.args.request area && are_owed c.args.attached area.phase) c.area-item.is)
    c.if-is_owed_by.true c.loop-area.invariant

pub returns : goal.returns
returns c =
    any_none (λ area. is_touched c.args.file c.args.request area && are_owed c.args.attached area.phase)
    c.args.areas.now c.loop-area.area-index _ c.loop-area-test.false c.loop-area.invariant
