use Rattle.std.proofs.Common.{◌≡◌, ◌++◌, ◌&&◌, not, drop, filter, map}
use Rattle.iofd_words.specs.Areas.{with_phase}
use Rattle.iofd_words.specs.declared.rows.Phase.TheVariants as phase
use Rattle.journal_audit_world.specs.Keys.{has_number}
use Rattle.journal_audit_world.proofs.keeping.areas_left.Given as goal

abbrev pub invariant-loop-area : goal.invariant-loop-area
invariant-loop-area g l =
    l.left.items ++ map (with_phase phase.Live)
    (filter (λ area. has_number l.asked area.memory && not (has_number l.translated area.memory))
    (drop l.area-index l.areas))
    ≡ map (with_phase phase.Live)
    (filter (λ area. has_number l.asked area.memory && not (has_number l.translated area.memory)) l.areas)
