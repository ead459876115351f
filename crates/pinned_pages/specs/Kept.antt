-- What holds of every memory object.
use Rattle.std.specs.Prelude.{ℕ, ◌≡◌, ◌≤◌, ◌<◌, ◌+◌, ◌*◌, ◌^◌, Some, true, [], length, slice_get}
use Rattle.iofd_words.specs.Pages.{is_whole}
use Rattle.pinned_pages.specs.Access.{are_counted, row_at}
use Rattle.pinned_pages.specs.Pages.{ObjectPages}
use Rattle.pinned_pages.specs.declared.access_pins.AccessPin.{AccessPin}

pub record AreKept (pages : ObjectPages) : Type 0 where
  -- whole pages below the end of the users' addresses
  pub start : is_whole pages.va ≡ true
  pub end : pages.va + pages.count * 4096 ≤ 2 ^ 48
  -- page tables pin each page or none
  pub pinned : 0 < pages.table_pins → length pages.frames ≡ pages.count
  pub unpinned : pages.table_pins ≡ 0 → pages.frames ≡ []
  -- each row of an access's pins is of one of the pages, and says some pin
  pub counted : are_counted pages.count pages.access ≡ true
  -- a page that page tables and accesses pin has one frame
  pub agree : 0 < pages.table_pins → (index : ℕ) (pin : AccessPin) → row_at pages.access index ≡ Some pin
      → slice_get pages.frames index ≡ Some pin.frame
