use Rattle.std.proofs.Common.{◌≡◌, ◌<◌, ◌||◌, ℕ, false, eqb, length, drop, get_or}
use Rattle.std.specs.List.{list_any}
use Rattle.journal_audit_world.proofs.frames.mark_tables.Given as goal

-- what is marked, and what is to be marked still
abbrev pub invariant-loop-table : goal.invariant-loop-table
invariant-loop-table l =
    (f : ℕ) → f < length l.fn.reached
    → (get_or l.reached f false || list_any (λ row. eqb row.frame.0 f) (drop l.table-index l.tables))
    ≡ (get_or l.fn.reached f false || list_any (λ row. eqb row.frame.0 f) l.tables)
