use Rattle.std.proofs.Common.{◌≡◌, ◌≤◌, ◌+◌, ◌++◌, length, map, vec_capacity, vec_len}
use Rattle.iofd_words.specs.declared.rows.Area.{Area}
use Rattle.hwpt_device.proofs.pins.numbers_of.Given as goal

-- the numbers so far, and room for those of the areas that are left
abbrev pub invariant-loop-area : goal.invariant-loop-area
invariant-loop-area g l = record {
  same : l.numbers.items ++ map (λ (area : Area). area.memory) l.area-iterator ≡ map
      (λ (area : Area). area.memory) l.fn.areas.areas;
  room : vec_len l.numbers + length l.area-iterator ≤ vec_capacity l.numbers;
}
