use Rattle.std.proofs.Common.{◌∙◌, filter, refl, sym}
use Rattle.journal_audit.specs.Own.{is_row_of}
use Rattle.journal_audit_world.proofs.Pushed.{none_left, picked_added, picked_passed}
use Rattle.journal_audit.proofs.pinning.rows_of.Goals.{else-is_page_of, then-is_page_of+in_ok-push}
use Rattle.journal_audit.proofs.pinning.rows_of.Goals as goal

pub loop-row-preserved : goal.loop-row-preserved
loop-row-preserved g c =
    elim c.if-is_page_of.branch [
      | then-is_page_of+in_ok-push w ↦ picked_added (is_row_of c.args.object) c.args.user_pages.now
          c.loop-row.row-index _ c.loop-row.rows.items c.if-is_page_of.rows.items _ c.loop-row-test.true
          (sym c.is_page_of.ensures ∙ w.if-is_page_of.true) (rw w.rows-is w.in_ok-push.ensures.items)
          c.loop-row.invariant
      | else-is_page_of w ↦ picked_passed (is_row_of c.args.object) c.args.user_pages.now c.loop-row.row-index _
          c.loop-row.rows.items c.if-is_page_of.rows.items _ c.loop-row-test.true
          (sym c.is_page_of.ensures ∙ w.if-is_page_of.false) (rw w.rows-is refl) c.loop-row.invariant
    ]

pub returns : goal.returns
returns g c =
    none_left (filter (is_row_of c.args.object)) c.args.user_pages.now c.loop-row.row-index c.loop-row.rows.items _
    refl c.loop-row-test.false c.loop-row.invariant
