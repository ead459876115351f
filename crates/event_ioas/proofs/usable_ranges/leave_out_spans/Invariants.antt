use Rattle.std.proofs.Common.{take}
use Rattle.iofd_words.specs.Ranges.{in_spans}
use Rattle.event_ioas.specs.LeftOut.{LeavesOut}
use Rattle.event_ioas.proofs.usable_ranges.leave_out_spans.Given as goal

abbrev pub invariant-loop-span : goal.invariant-loop-span
invariant-loop-span g l = LeavesOut (in_spans (take l.span-index l.spans)) l.initial.set.spans l.set.spans
