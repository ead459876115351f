use Rattle.std.proofs.Common.{◌≡◌, true, take, vec_capacity, vec_len}
use Rattle.memory_objects.specs.Objects.{MemoryGrows, all_pass, are_rising, gone_among, has_memory, standing}
use Rattle.memory_objects.proofs.reserving.reserve_all.Given as goal

-- there is memory for the objects of the numbers so far
abbrev pub invariant-loop-number : goal.invariant-loop-number
invariant-loop-number g l = record {
  objects : MemoryGrows (standing l.initial.entries.items) (standing l.entries.items);
  gone : gone_among l.entries.items ≡ gone_among l.initial.entries.items;
  rising : are_rising l.entries.items ≡ true;
  memory : all_pass has_memory (standing l.entries.items) (take l.number-index l.numbers) ≡ true;
  len : vec_len l.entries ≡ vec_len l.initial.entries;
  capacity : vec_capacity l.entries ≡ vec_capacity l.initial.entries;
}
