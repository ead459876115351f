use Rattle.std.proofs.Common.{◌≡◌, ◌++◌, map, take, drop}
use Rattle.journal_audit_maps.specs.Leaving.{left_one}
use Rattle.journal_audit_maps.proofs.leaving.leave.Given as goal

abbrev pub invariant-loop-area : goal.invariant-loop-area
invariant-loop-area g l =
    l.area-items ≡ map (left_one l.most l.attached l.file l.request) (take l.area-index l.initial.area-items)
    ++ drop l.area-index l.initial.area-items
