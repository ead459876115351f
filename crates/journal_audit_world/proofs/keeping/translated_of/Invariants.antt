use Rattle.std.proofs.Common.{◌≡◌, ◌||◌, ◌&&◌, ℕ, drop}
use Rattle.iofd_words.specs.Objects.{has_hwpt}
use Rattle.journal_audit_world.specs.Keys.{has_number}
use Rattle.journal_audit_world.specs.Over.{is_over}
use Rattle.journal_audit_world.proofs.keeping.translated_of.Given as goal

abbrev pub invariant-loop-area : goal.invariant-loop-area
invariant-loop-area g l = (n : ℕ)
    → (has_number l.translated n || is_over (λ area. has_number l.asked area.memory
    && has_hwpt l.objects area.file area.ioas) (drop l.area-index l.areas) n)
    ≡ is_over (λ area. has_number l.asked area.memory && has_hwpt l.objects area.file area.ioas) l.areas n
