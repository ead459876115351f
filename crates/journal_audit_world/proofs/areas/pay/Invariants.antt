use Rattle.std.proofs.Common.{◌≡◌, ◌++◌, map, take, drop}
use Rattle.iofd_words.specs.Areas.{paid, with_phase}
use Rattle.journal_audit_world.proofs.areas.pay.Given as goal

abbrev pub invariant-loop-area : goal.invariant-loop-area
invariant-loop-area g l =
    l.area-items ≡ map (λ area. with_phase (paid l.device area.phase) area) (take l.area-index l.initial.area-items)
    ++ drop l.area-index l.initial.area-items
