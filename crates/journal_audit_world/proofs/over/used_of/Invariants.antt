use Rattle.std.proofs.Common.{◌≡◌, ◌||◌, ℕ, drop}
use Rattle.journal_audit_world.specs.Keys.{has_number}
use Rattle.journal_audit_world.specs.Over.{is_over}
use Rattle.journal_audit_world.proofs.over.used_of.Given as goal

abbrev pub invariant-loop-area : goal.invariant-loop-area
invariant-loop-area g l = (n : ℕ)
    → (has_number l.used n || is_over (λ area. has_number l.asked area.memory) (drop l.area-index l.areas) n)
    ≡ is_over (λ area. has_number l.asked area.memory) l.areas n
