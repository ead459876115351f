use Rattle.std.proofs.Common.{◌≡◌, length, vec_capacity}
use Rattle.page_table_set.proofs.FileGone.{Going}
use Rattle.page_table_set.specs.PageTables.{IfAllStand}
use Rattle.page_table_set.specs.Removed.{without_file}
use Rattle.page_table_set.proofs.page_tables.PageTables.remove_file.Given as goal

abbrev pub invariant-loop-id : goal.invariant-loop-id
invariant-loop-id g l = record {
  going : IfAllStand l.initial.pool l.initial.self.tables
      (Going l.file l.initial.pool l.pool l.initial.self.tables l.self.tables l.initial.out.items l.out.items);
  tables : without_file l.file l.initial.self.tables ≡ without_file l.file l.self.tables;
  capacity : vec_capacity l.out ≡ vec_capacity l.initial.out;
}

abbrev pub decreases-loop-id : goal.decreases-loop-id
decreases-loop-id g l = length l.self.tables
