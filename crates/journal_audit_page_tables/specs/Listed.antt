-- Pages that are to be pinned, listed until one isn't in its user's memory.
use Rattle.std.specs.Prelude.{◌≡◌, ℕ, ◌+◌, ◌^◌, ◌==◌, Bool, true, not, nat_le, Option, Some, None, List, ◌++◌}
use Rattle.std.specs.Prelude.{filter, find}
use Rattle.std.specs.List.{filter_map, flat_map}
use Rattle.iofd_words.specs.Pages.{page_of}
use Rattle.iofd_words.specs.Pins.{ObjectPage, are_present, pages_of}
use Rattle.iofd_words.specs.declared.numbers.FrameNo.{FrameNo}
use Rattle.iofd_words.specs.declared.numbers.UserNo.{UserNo}
use Rattle.iofd_words.specs.declared.rows.MemoryObject.{MemoryObject}
use Rattle.iofd_words.specs.declared.rows.Pin.{Pin}
use Rattle.journal_audit_world.specs.Keys.{has_number, has_pair}

-- the pin of a page at the frame that it has now
abbrev pub pin_at : (ObjectPage → Option FrameNo) → ObjectPage → Option Pin
pin_at now page =
    elim (now page) [
      | Some frame ↦ Some (record { memory = page.memory; index = page.index; frame = frame })
      | None ↦ None
    ]

-- whether all are there, and if so their pins, after those before
pub record Listed (now : ObjectPage → Option FrameNo) (old new : List Pin) (whole : Bool)
    (pages : List ObjectPage) : Type 0 where
  pub present : whole ≡ are_present now pages
  pub pins : whole ≡ true → new ≡ old ++ filter_map (pin_at now) pages

-- the frame that a page of a memory object has now
abbrev pub own_frame : (UserNo → ℕ → Option FrameNo) → MemoryObject → ObjectPage → Option FrameNo
own_frame frame_at m page = frame_at m.user (page_of m.va + page.index)

-- those that aren't pinned
abbrev pub unpinned : List (ℕ × ℕ) → List ObjectPage → List ObjectPage
unpinned keys pages = filter (λ page. not (has_pair keys page.memory page.index)) pages

-- ---- of several memory objects

-- so few pages that they end below page 2^64, wherever they begin
abbrev pub has_few_pages : MemoryObject → Bool
has_few_pages m = nat_le m.count (2 ^ 52)

-- the frame that a page has now, by its memory object
abbrev pub now_in : (UserNo → ℕ → Option FrameNo) → List MemoryObject → ObjectPage → Option FrameNo
now_in frame_at memory page =
    elim (find (λ m. m.number == page.memory) memory) [ Some m ↦ own_frame frame_at m page | None ↦ None ]

-- the pages that aren't pinned, of the memory objects with these numbers
abbrev pub unpinned_over : List ℕ → List (ℕ × ℕ) → List MemoryObject → List ObjectPage
unpinned_over numbers keys memory =
    unpinned keys (flat_map pages_of (filter (λ m. has_number numbers m.number) memory))
