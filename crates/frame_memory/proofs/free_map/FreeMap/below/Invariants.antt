use Rattle.std.proofs.Common.{◌≡◌, ℕ}
use Rattle.std.specs.Prelude.{nat_lt}
use Rattle.frame_memory.specs.FreeMap.{has_frame}
use Rattle.frame_memory.proofs.free_map.FreeMap.below.Given as goal

-- the frames so far
abbrev pub invariant-loop-frame : goal.invariant-loop-frame
invariant-loop-frame l = (f : ℕ) → has_frame l.frames f ≡ nat_lt f l.frame
