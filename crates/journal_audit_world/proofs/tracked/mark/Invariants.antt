use Rattle.std.proofs.Common.{◌≡◌, ◌++◌, take, drop}
use Rattle.iofd_words.specs.Dirty.{with_mark}
use Rattle.journal_audit_world.proofs.tracked.mark.Given as goal

abbrev pub invariant-loop-row : goal.invariant-loop-row
invariant-loop-row g l =
    l.row-items ≡ with_mark l.file l.hwpt l.page (take l.row-index l.initial.row-items)
    ++ drop l.row-index l.initial.row-items
