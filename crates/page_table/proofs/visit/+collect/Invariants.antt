use Rattle.std.proofs.Common.{◌≡◌, ◌≢◌, ◌≤◌, ◌<◌, ◌+◌, ◌-◌, ◌%◌, ◌++◌, ◌∷◌, length, vec_len, vec_capacity}
use Rattle.std.specs.List.{flat_map, range_with_len}
use Rattle.page_table_words.specs.Entries.{entry_at}
use Rattle.page_table_words.specs.Under.{frames_of_entry}
use Rattle.page_table.proofs.visit.+collect.Given as goal

abbrev pub decreases-collect : goal.decreases-collect
decreases-collect g l = l.level

-- this table, and those below the entries so far
abbrev pub invariant-loop-index : goal.invariant-loop-index
invariant-loop-index g l = record {
  within : l.index ≤ 512;
  present : l.index < 512 → entry_at l.pool l.table.0 l.index % 4 ≢ 0;
  items : l.out.items ≡ l.fn.out.items ++ l.table ∷ flat_map (frames_of_entry l.pool (l.level - 1 - 1) l.table)
      (range_with_len 0 l.index);
  len : vec_len l.out ≡ vec_len l.fn.out + 1
      + length (flat_map (frames_of_entry l.pool (l.level - 1 - 1) l.table) (range_with_len 0 l.index));
  capacity : vec_capacity l.out ≡ vec_capacity l.fn.out;
}

abbrev pub decreases-loop-index : goal.decreases-loop-index
decreases-loop-index g l = 512 - l.index
