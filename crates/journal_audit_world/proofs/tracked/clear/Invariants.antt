use Rattle.std.proofs.Common.{◌≡◌, ◌++◌, take, drop}
use Rattle.iofd_words.specs.Dirty.{reported_span, without_marks}
use Rattle.journal_audit_world.proofs.tracked.clear.Given as goal

abbrev pub invariant-loop-row : goal.invariant-loop-row
invariant-loop-row g l =
    l.row-items ≡ without_marks l.file l.request.hwpt (reported_span l.request) (take l.row-index l.initial.row-items)
    ++ drop l.row-index l.initial.row-items
