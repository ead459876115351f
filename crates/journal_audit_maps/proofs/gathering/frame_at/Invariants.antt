use Rattle.std.proofs.Common.{◌≡◌, drop}
use Rattle.iofd_words.specs.Frames.{frame_at}
use Rattle.journal_audit_maps.proofs.gathering.frame_at.Given as goal

abbrev pub invariant-loop-other : goal.invariant-loop-other
invariant-loop-other l = frame_at (drop l.other-index l.pages) l.user l.page ≡ frame_at l.pages l.user l.page
