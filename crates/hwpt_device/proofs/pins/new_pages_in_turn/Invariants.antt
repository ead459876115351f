use Rattle.std.proofs.Common.{◌≡◌, ◌++◌, ◌*◌, ◌≤◌, List, length}
use Rattle.iofd_words.specs.declared.rows.Area.{Area}
use Rattle.user_memory_rows.specs.Moves.{numbers_of}
use Rattle.user_memory.specs.Memory.{newly_pinned}
use Rattle.hwpt_device.proofs.pins.new_pages_in_turn.Given as goal

-- the count of the areas so far
abbrev pub invariant-loop-area : goal.invariant-loop-area
invariant-loop-area g l = record {
  done : List Area;
  split : done ++ l.area-iterator ≡ l.fn.areas.areas;
  most : l.count ≤ length done * 68719476736;
  pages : l.count ≡ newly_pinned l.fn.memory (numbers_of done);
}
