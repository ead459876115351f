use Rattle.std.proofs.Common.{◌≤◌}
use Rattle.iofd_words.specs.TablePlaces.{places_from}
use Rattle.journal_audit_tables.specs.Gathered.{Adds, Gathered}
use Rattle.journal_audit_tables.proofs.gathered.Gathered.add_page.Given as goal

-- who adds the places that are left has added all
abbrev pub invariant-loop-left : goal.invariant-loop-left
invariant-loop-left g l = record {
  few : l.left ≤ 5;
  rest : (end : Gathered) → Adds l.self end (places_from l.left l.page)
      → Adds l.fn.self end (places_from l.level l.page);
}

abbrev pub decreases-loop-left : goal.decreases-loop-left
decreases-loop-left g l = l.left
