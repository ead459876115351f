use Rattle.std.proofs.Common.{◌≡◌, ℕ, ◌+◌, ◌*◌, ◌≤◌, length}
use Rattle.std.specs.List.{sum_by}
use Rattle.iofd_words.specs.declared.rows.Area.{Area}
use Rattle.user_memory.specs.Memory.{new_pages}
use Rattle.hwpt_device.proofs.pins.most_new_pages.Given as goal

-- the sum so far, over so many areas
abbrev pub invariant-loop-area : goal.invariant-loop-area
invariant-loop-area g l = record {
  done : ℕ;
  counts : done + length l.area-iterator ≡ length l.fn.areas.areas;
  most : l.count ≤ done * 68719476736;
  sum : l.count + sum_by (λ (area : Area). new_pages l.fn.memory area.memory) l.area-iterator ≡ sum_by
      (λ (area : Area). new_pages l.fn.memory area.memory) l.fn.areas.areas;
}
