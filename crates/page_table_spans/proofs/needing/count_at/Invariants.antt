use Rattle.std.proofs.Common.{◌≡◌, ℕ, ◌+◌, ◌^◌, ◌≤◌}
use Rattle.iofd_words.specs.Levels.{number_at}
use Rattle.iofd_words.specs.Pages.{page_of}
use Rattle.iofd_words.specs.TablePlaces.{live_pages}
use Rattle.area_map_rows.specs.Areas.{AreApartFrom}
use Rattle.page_table_spans.proofs.AreaTables.{AreWhole, nothing}
use Rattle.page_table_spans.proofs.ByLevel.{lacked_at}
use Rattle.page_table_spans.proofs.LevelNumbers.{or_before}
use Rattle.page_table_spans.proofs.needing.count_at.Given as goal

-- the tables before the next one are counted; no other is
abbrev pub invariant-loop-area : goal.invariant-loop-area
invariant-loop-area g l = record {
  low : ℕ;
  apart : AreApartFrom low l.area-iterator;
  whole : AreWhole l.area-iterator;
  near : l.next ≤ number_at l.level (page_of low) + 1;
  few : l.total ≤ l.next;
  bound : l.next ≤ 2 ^ 52;
  value : l.total + lacked_at (or_before nothing l.level l.next) (live_pages l.area-iterator) l.level ≡ lacked_at
      nothing (live_pages l.fn.areas) l.level;
}
