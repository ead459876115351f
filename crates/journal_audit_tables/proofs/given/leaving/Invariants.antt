use Rattle.std.proofs.Common.{◌≡◌, ◌||◌, ◌&&◌, ℕ, eqb, drop}
use Rattle.std.specs.List.{list_any}
use Rattle.journal_audit_tables.specs.Moved.{may_give}
use Rattle.journal_audit_tables.specs.Numbers.{has_number}
use Rattle.journal_audit_tables.proofs.given.leaving.Given as goal

abbrev pub invariant-loop-table : goal.invariant-loop-table
invariant-loop-table g l = (n : ℕ) → (has_number l.leaving.keys n || list_any (λ table.
    (has_number l.set.keys table.frame.0 && may_give l.gone l.world.objects l.world.areas l.space table)
    && eqb table.frame.0 n) (drop l.table-index l.world.table_frames))
    ≡ list_any (λ table.
    (has_number l.set.keys table.frame.0 && may_give l.gone l.world.objects l.world.areas l.space table)
    && eqb table.frame.0 n) l.world.table_frames
