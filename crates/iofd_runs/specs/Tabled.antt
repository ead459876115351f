-- Which tables the page tables have: each that is needed, and none without a page table.
use Rattle.std.specs.Prelude.{◌≡◌, true, not, []}
use Rattle.std.specs.List.{list_all}
use Rattle.iofd_words.specs.Tables.{is_orphan, missing_tables}
use Rattle.iofd_words.specs.World.{World}

pub record AreTabled (w : World) : Type 0 where
  -- each page table has each table that it needs
  pub needed : missing_tables w.objects w.areas w.table_frames ≡ []
  -- each row is of a page table that is there
  pub owned : list_all (λ table. not (is_orphan w.objects table)) w.table_frames ≡ true
