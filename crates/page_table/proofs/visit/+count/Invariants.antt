use Rattle.std.proofs.Common.{◌≡◌, ◌≢◌, ◌≤◌, ◌<◌, ◌+◌, ◌-◌, ◌*◌, ◌%◌, ◌^◌, length}
use Rattle.std.specs.List.{flat_map, range_with_len}
use Rattle.page_table_words.specs.Entries.{entry_at}
use Rattle.page_table_words.specs.Under.{frames_of_entry}
use Rattle.page_table.proofs.visit.+count.Given as goal

abbrev pub decreases-count : goal.decreases-count
decreases-count g l = l.level

-- this table, and those below the entries so far
abbrev pub invariant-loop-index : goal.invariant-loop-index
invariant-loop-index g l = record {
  within : l.index ≤ 512;
  present : l.index < 512 → entry_at l.pool l.table.0 l.index % 4 ≢ 0;
  counted : l.total ≡ 1 + length (flat_map (frames_of_entry l.pool (l.level - 1 - 1) l.table)
      (range_with_len 0 l.index));
  small : l.total ≤ 1 + l.index * 1000 ^ (l.level - 1);
}

abbrev pub decreases-loop-index : goal.decreases-loop-index
decreases-loop-index g l = 512 - l.index
