use Rattle.std.proofs.Common.{◌≡◌, find, drop}
use Rattle.iofd_words.specs.Allowed.{is_allowed_in}
use Rattle.journal_audit_world.proofs.allowed.row_of.Given as goal

abbrev pub invariant-loop-row : goal.invariant-loop-row
invariant-loop-row g l =
    find (is_allowed_in l.file l.ioas) (drop l.row-index l.rows)
    ≡ find (is_allowed_in l.file l.ioas) l.rows
