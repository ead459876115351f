use Rattle.std.proofs.Common.{◌≡◌, ◌≤◌, ◌+◌, ◌-◌, ◌++◌, length, replicate, vec_capacity, vec_len}
use Rattle.frame_memory.specs.Kept.{fresh_frame}
use Rattle.frame_memory.proofs.pool.fill_to.Given as goal

-- fresh frames so far
abbrev pub invariant-loop-frames : goal.invariant-loop-frames
invariant-loop-frames g l = record {
  items : l.frames.items
      ≡ l.initial.frames.items ++ replicate (length l.frames.items - length l.initial.frames.items) fresh_frame;
  few : length l.frames.items - length l.initial.frames.items ≤ l.index + 1 - length l.initial.frames.items;
  capacity : vec_capacity l.frames ≡ vec_capacity l.initial.frames;
}

abbrev pub decreases-loop-frames : goal.decreases-loop-frames
decreases-loop-frames g l = l.index + 1 - vec_len l.frames
