use Rattle.std.proofs.Common.{ap, ◌∙◌}
use Rattle.iofd_words.specs.Bounds.{Bounds}
use Rattle.iofd_words.specs.Fits.{whole_from}
use Rattle.journal_audit_maps.specs.Newly.{lesser}
use Rattle.journal_audit.specs.Starts.{may_lie, passing}
use Rattle.journal_audit.proofs.LeastStarts.{all_tried, one_tried}
use Rattle.journal_audit.proofs.starts.least_first.Goals as goal

pub loop-range-preserved : goal.loop-range-preserved
loop-range-preserved c =
    one_tried (may_lie c.args.bytes c.args.choices.now c.args.taken.now) (λ (range : Bounds). whole_from range.first)
    c.args.choices.now c.loop-range.range-index c.range-item.result c.loop-range.least c.lesser_start-least.result _
    c.loop-range-test.true
    (c.lesser_start-least.ensures
    ∙ ap (λ n. lesser c.loop-range.least (passing (may_lie c.args.bytes c.args.choices.now c.args.taken.now)
    (whole_from n)))
    (c.from-from.ensures ∙ ap (λ (range : Bounds). range.first) (c.range.view_is ∙ c.range-item.is)))
    c.loop-range.invariant

pub returns : goal.returns
returns c =
    all_tried (may_lie c.args.bytes c.args.choices.now c.args.taken.now) (λ (range : Bounds). whole_from range.first)
    c.args.choices.now c.loop-range.range-index c.loop-range.least _ c.loop-range-test.false c.loop-range.invariant
