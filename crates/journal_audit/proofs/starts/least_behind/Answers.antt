use Rattle.std.proofs.Common.{◌+◌, ap, ◌∙◌}
use Rattle.iofd_words.specs.Bounds.{Bounds}
use Rattle.iofd_words.specs.Fits.{whole_from}
use Rattle.journal_audit_maps.specs.Newly.{lesser}
use Rattle.journal_audit.specs.Starts.{may_lie, passing}
use Rattle.journal_audit.proofs.LeastStarts.{all_tried, one_tried}
use Rattle.journal_audit.proofs.starts.least_behind.Goals as goal

pub loop-index-preserved : goal.loop-index-preserved
loop-index-preserved c =
    one_tried (may_lie c.args.bytes c.args.choices.now c.args.taken.now) (λ (span : Bounds). whole_from (span.last + 1))
    c.args.taken.now c.loop-index.index c.index-taken-index.result c.loop-index.least c.lesser_start-least.result _
    c.loop-index-test.true
    (c.lesser_start-least.ensures
    ∙ ap (λ n. lesser c.loop-index.least (passing (may_lie c.args.bytes c.args.choices.now c.args.taken.now)
    (whole_from (n + 1))))
    (c.from-from.ensures ∙ c.last.ensures.value ∙ ap (λ (span : Bounds). span.last) c.index-taken-index.is))
    c.loop-index.invariant

pub returns : goal.returns
returns c =
    all_tried (may_lie c.args.bytes c.args.choices.now c.args.taken.now) (λ (span : Bounds). whole_from (span.last + 1))
    c.args.taken.now c.loop-index.index c.loop-index.least _ c.loop-index-test.false c.loop-index.invariant
