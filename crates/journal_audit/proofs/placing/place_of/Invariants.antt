use Rattle.std.proofs.Common.{◌≡◌, ◌++◌, take, drop}
use Rattle.iofd_words.specs.Areas.{with_area}
use Rattle.journal_audit.proofs.placing.place_of.Given as goal

abbrev pub invariant-loop-index : goal.invariant-loop-index
invariant-loop-index l =
    take l.index l.areas ++ with_area l.area (drop l.index l.areas) ≡ with_area l.area l.areas
