use Rattle.std.proofs.Common.{◌∙◌, ◌==◌, ◌&&◌, ◌||◌, ap, sym}
use Rattle.std.specs.List.{list_any}
use Rattle.iofd_words.specs.Dirty.{reported_span}
use Rattle.iofd_words.specs.DirtyWords.{is_page_of}
use Rattle.journal_audit_world.specs.Keys.{has_number}
use Rattle.journal_audit_world.proofs.TrackedPages.{has_marked}
use Rattle.journal_audit_world.proofs.tracked.add_marked.Goals as goal

pub returns-in_ok-add_asked : goal.returns-in_ok-add_asked
returns-in_ok-add_asked g c = λ n.
    c.in_ok-add_asked.ensures n
    ∙ ap (λ b. has_number c.args.numbers.now n || (b && is_page_of (reported_span c.args.request) n))
    (ap (λ items. list_any (λ page. page == n) items) c.deref.ensures.value
    ∙ sym (has_marked c.args.file c.args.request.hwpt n c.args.row.now c.row.inside.marked.items (sym
    c.if-is_of.ensures)
    (ap (λ t. t.pages) (sym c.row.view_is))))
