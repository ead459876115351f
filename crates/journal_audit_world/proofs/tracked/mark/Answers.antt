use borrow.Author.Rules.{scaled_Fits}
use Rattle.std.proofs.Common.{◌≡◌, ◌∙◌, ap, refl, sym, set, length, arith}
use Rattle.std.proofs.lemmas.List.Edits.{map_over_more}
use Rattle.iofd_words.specs.Dirty.{TrackedTable}
use Rattle.journal_audit_world.specs.Tracked.{with_page}
use Rattle.journal_audit_world.proofs.TrackedPages.{each_changed}
use Rattle.journal_audit_world.proofs.tracked.mark.Goals as goal

pub loop-row-preserved : goal.loop-row-preserved
loop-row-preserved g c =
    let f : TrackedTable → TrackedTable = with_page c.args.file c.args.hwpt c.args.page in
    let items = c.loop-row.row-items in
    let step = map_over_more f c.deref_mut-row-items.result.now items c.loop-row.row-index c.row-item.result
    (omega arith) c.loop-row.invariant c.row-item.is in
    let new : c.mark_one.new.row ≡ f c.row-item.result = c.in_ok-mark_one.ensures ∙ ap f (sym c.row-item.is) in
    ap (λ (t : TrackedTable). set items c.loop-row.row-index t) new ∙ step

pub loop-row-init : goal.loop-row-init
loop-row-init g c = refl

pub returns : goal.returns
returns g c =
    each_changed (with_page c.args.file c.args.hwpt c.args.page)
    c.args.rows.now.items c.deref_mut-row-items.result.now c.loop-row.row-items c.args.rows.now.len
    c.loop-row.row-index c.deref_mut-row-items.ensures.value c.deref_mut-row-items.ensures.len c.loop-row-test.false
    c.loop-row.invariant

pub offset_bounds-row-items-row-index : goal.offset_bounds-row-items-row-index
offset_bounds-row-items-row-index g c =
    scaled_Fits c.loop-row.row-index (length c.deref_mut-row-items.result.now) _ c.loop-row-test.true assumption
