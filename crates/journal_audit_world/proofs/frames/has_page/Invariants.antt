use Rattle.std.proofs.Common.{◌≡◌, ◌==◌, drop}
use Rattle.std.specs.List.{list_any}
use Rattle.journal_audit_world.proofs.frames.has_page.Given as goal

abbrev pub invariant-loop-page : goal.invariant-loop-page
invariant-loop-page l =
    list_any (λ p. p.frame.0 == l.frame) (drop l.page-index l.pages)
    ≡ list_any (λ p. p.frame.0 == l.frame) l.pages
