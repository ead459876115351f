use Rattle.std.proofs.Common.{◌≡◌, ◌||◌, ℕ, drop, eqb}
use Rattle.journal_audit_world.specs.Keys.{has_number}
use Rattle.journal_audit_world.specs.Over.{is_over}
use Rattle.journal_audit_world.proofs.over.add_of_file.Given as goal

abbrev pub invariant-loop-area : goal.invariant-loop-area
invariant-loop-area g l = (n : ℕ)
    → (has_number l.numbers n || is_over (λ area. eqb area.file.0 l.file.0) (drop l.area-index l.areas) n)
    ≡ (has_number l.initial.numbers n || is_over (λ area. eqb area.file.0 l.file.0) l.areas n)
