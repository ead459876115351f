use Rattle.std.proofs.Common.{◌≡◌, drop}
use Rattle.std.specs.List.{list_any}
use Rattle.journal_audit_tables.specs.Numbers.{has_number}
use Rattle.journal_audit_tables.proofs.frames.have_page.Given as goal

abbrev pub invariant-loop-page : goal.invariant-loop-page
invariant-loop-page g l =
    list_any (λ page. has_number l.set.keys page.frame.0) (drop l.page-index l.pages)
    ≡ list_any (λ page. has_number l.set.keys page.frame.0) l.pages
