use Rattle.std.proofs.Common.{◌≡◌, ◌==◌, ◌&&◌, ◌||◌, ℕ, drop}
use Rattle.std.specs.List.{list_any}
use Rattle.iofd_words.specs.Dirty.{reported_span}
use Rattle.iofd_words.specs.DirtyWords.{is_page_of}
use Rattle.journal_audit_world.specs.Keys.{has_number}
use Rattle.journal_audit_world.proofs.tracked.add_asked.Given as goal

abbrev pub invariant-loop-page : goal.invariant-loop-page
invariant-loop-page g l = (n : ℕ)
    → (has_number l.numbers n
    || (list_any (λ page. page == n) (drop l.page-index l.pages) && is_page_of (reported_span l.request) n))
    ≡ (has_number l.initial.numbers n
    || (list_any (λ page. page == n) l.pages && is_page_of (reported_span l.request) n))
