use Rattle.std.proofs.Common.{◌≡◌, ◌++◌, drop}
use Rattle.iofd_words.specs.Tables.{in_frames}
use Rattle.journal_audit_tables.proofs.moves.add_in_frames.Given as goal

abbrev pub invariant-loop-index : goal.invariant-loop-index
invariant-loop-index g l =
    l.tables.items ++ in_frames (drop l.index l.missing) (drop l.index l.frames)
    ≡ l.fn.tables.items ++ in_frames l.missing l.frames
