use Rattle.std.proofs.Common.{drop}
use Rattle.journal_audit_tables.specs.Gathered.{Adds, Gathered}
use Rattle.journal_audit_tables.proofs.Adding.{places_in}
use Rattle.journal_audit_tables.proofs.gathered.Gathered.add_areas.Given as goal

-- who adds the places of the areas that are left has added all
abbrev pub invariant-loop-area : goal.invariant-loop-area
invariant-loop-area g l = (end : Gathered)
    → Adds l.self end (places_in l.level (drop l.area-index l.areas) l.file l.ioas)
    → Adds l.fn.self end (places_in l.level l.areas l.file l.ioas)
