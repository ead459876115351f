use Rattle.std.proofs.Common.{length}
use Rattle.journal_audit.proofs.Reached.{IsReached}
use Rattle.journal_audit.proofs.whole.go_through.Given as goal

-- the records so far are a run, and have left this world
abbrev pub invariant-loop-rest : goal.invariant-loop-rest
invariant-loop-rest g l = IsReached g.row.A.Denot l.version l.bytes l.fn.world.settings l.rest l.world l.index

abbrev pub decreases-loop-rest : goal.decreases-loop-rest
decreases-loop-rest g l = length l.rest
