use Rattle.std.proofs.Common.{◌≡◌, ◌≤◌, replicate, true, [], vec_len, vec_capacity}
use Rattle.object_table.proofs.table.ObjectTable.new.Given as goal

-- the files so far are open and empty, and there is room for the rest
abbrev pub invariant-loop-number : goal.invariant-loop-number
invariant-loop-number g l = record {
  items : l.files.items ≡ replicate l._number (record {
    is_open = true;
    objects = record { slots = []; vacant_key = 0; capacity = 0 };
  });
  len : vec_len l.files ≡ l._number;
  room : l.count ≤ vec_capacity l.files;
}
