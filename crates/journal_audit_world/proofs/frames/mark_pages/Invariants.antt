use Rattle.std.proofs.Common.{◌≡◌, ◌<◌, ◌||◌, ℕ, false, eqb, length, drop, get_or}
use Rattle.std.specs.List.{list_any}
use Rattle.journal_audit_world.proofs.frames.mark_pages.Given as goal

-- what is marked, and what is to be marked still
abbrev pub invariant-loop-page : goal.invariant-loop-page
invariant-loop-page l =
    (f : ℕ) → f < length l.fn.reached
    → (get_or l.reached f false || list_any (λ row. eqb row.frame.0 f) (drop l.page-index l.pages))
    ≡ (get_or l.fn.reached f false || list_any (λ row. eqb row.frame.0 f) l.pages)
