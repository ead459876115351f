use Rattle.std.proofs.Common.{◌∙◌, List, ℕ, ap, sym, not, reverse, refl, rules}
use Rattle.std.proofs.lemmas.Fn.{filter_same}
use Rattle.iofd_words.specs.Dirty.{TrackedTable, is_tracked_as, reported_span}
use Rattle.iofd_words.specs.DirtyWords.{is_page_of}
use Rattle.journal_audit_world.specs.Tracked.{without_pages}
use Rattle.journal_audit_world.proofs.TrackedPages.{pages_cleared}
use Rattle.journal_audit_world.proofs.tracked.clear_one.Goals as goal

pub returns-then-is_of : goal.returns-then-is_of
returns-then-is_of g c =
    let span = reported_span c.args.request in
    let row : TrackedTable = record {
      file = c.row.inside.file;
      hwpt = c.row.inside.hwpt;
      pages = reverse c.row.inside.marked.items;
    } in
    let left = filter_same _ (λ (page : ℕ). not (is_page_of span page)) _ (λ x b f k. search rules) _ _
    c.retain.ensures.filtered in
    ap (λ (items : List ℕ). record row { pages = reverse items }) left
    ∙ pages_cleared c.args.file c.args.request.hwpt span row c.row.inside.marked.items
    (ap (is_tracked_as c.args.file c.args.request.hwpt) c.row.view_is ∙ sym c.if-is_of.ensures) refl
    ∙ ap (without_pages c.args.file c.args.request.hwpt span) c.row.view_is
