use Rattle.std.proofs.Common.{◌≡◌, ◌||◌, drop}
use Rattle.iofd_words.specs.TablePlaces.{TablePlace, has_table}
use Rattle.journal_audit_tables.specs.Gathered.{is_known}
use Rattle.journal_audit_tables.proofs.gathered.Gathered.new.Given as goal

-- what is known, and what is to be known still
abbrev pub invariant-loop-table : goal.invariant-loop-table
invariant-loop-table g l =
    (place : TablePlace) → (is_known l.known.keys place || has_table (drop l.table-index l.tables) l.file l.hwpt place)
    ≡ has_table l.tables l.file l.hwpt place
