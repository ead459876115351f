use Rattle.std.proofs.Common.{◌≡◌, ◌≤◌, ◌+◌, drop}
use Rattle.std.specs.List.{count_by}
use Rattle.iofd_words.specs.Areas.{is_of}
use Rattle.journal_audit.proofs.placing.count_of.Given as goal

-- those that are counted, and those that are left
abbrev pub invariant-loop-area : goal.invariant-loop-area
invariant-loop-area l = record {
  few : l.count ≤ l.area-index;
  all : l.count + count_by (is_of l.file l.ioas) (drop l.area-index l.areas)
      ≡ count_by (is_of l.file l.ioas) l.areas;
}
