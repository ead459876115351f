use Rattle.std.proofs.Common.{◌≡◌, ◌||◌, ℕ, drop}
use Rattle.iofd_words.specs.Areas.{is_of}
use Rattle.journal_audit_world.specs.Keys.{has_number}
use Rattle.journal_audit_world.specs.Over.{is_over}
use Rattle.journal_audit_world.proofs.over.add_under.Given as goal

abbrev pub invariant-loop-area : goal.invariant-loop-area
invariant-loop-area g l = (n : ℕ)
    → (has_number l.numbers n || is_over (is_of l.file l.ioas) (drop l.area-index l.areas) n)
    ≡ (has_number l.initial.numbers n || is_over (is_of l.file l.ioas) l.areas n)
