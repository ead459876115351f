use Rattle.std.proofs.Common.{◌+◌, ◌-◌}
use Rattle.std.specs.List.{flat_map, range_with_len}
use Rattle.iofd_words.specs.TablePlaces.{places_from}
use Rattle.journal_audit_tables.specs.Gathered.{Adds, Gathered}
use Rattle.journal_audit_tables.proofs.gathered.Gathered.add_pages.Given as goal

-- who adds the places of the pages that are left has added all
abbrev pub invariant-loop-index : goal.invariant-loop-index
invariant-loop-index g l = (end : Gathered)
    → Adds l.self end (flat_map (places_from l.level) (range_with_len (l.first + l.index) (l.count - l.index)))
    → Adds l.fn.self end (flat_map (places_from l.level) (range_with_len l.first l.count))
