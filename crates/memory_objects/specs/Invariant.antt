-- What holds of all memory objects at any time.
use Rattle.std.specs.Prelude.{ℕ, ◌≡◌, ◌+◌, ◌≤◌, true, List, ◌==◌, ◌&&◌, ◌||◌, not, nat_le, length}
use Rattle.std.specs.List.{list_all}
use Rattle.memory_objects.specs.Objects.{MemoryEntry, are_freed, are_rising, is_freed, standing}
use Rattle.pinned_pages.specs.Access.{are_counted}

pub record MemoryInvariant (objects : List MemoryEntry) : Type 0 where
  pub rising : are_rising objects ≡ true
  -- where no page table pins an object, no page of it is pinned but those that accesses pin
  pub unpinned : list_all (λ object. not (object.pages.pages.table_pins == 0)
      || length object.pages.pages.frames == 0) objects ≡ true
  -- and these are pages of the object, each with some pin
  pub counted : list_all (λ object. are_counted object.pages.pages.count object.pages.pages.access) objects ≡ true
  -- some area lies over each object, and at least as many as pins stand on it
  pub areas : list_all (λ object. nat_le 1 object.areas
      && nat_le object.pages.pages.table_pins object.areas) objects ≡ true

-- what stays of objects that are gone: no more entries than there are objects, so that at most half of all entries are
-- gone, and no memory for frames
pub record GoneAreFew (objects gone : List MemoryEntry) : Type 0 where
  pub few : length gone ≤ length objects
  pub freed : list_all is_freed gone ≡ true

-- so many entries by rising number, of which so many are gone, at most half of them
pub record AreEntries (entries : List MemoryEntry) (all gone : ℕ) : Type 0 where
  pub rising : are_rising entries ≡ true
  pub count : length (standing entries) + gone ≡ all
  pub few : gone + gone ≤ all
  pub freed : are_freed entries ≡ true
  pub kept : MemoryInvariant (standing entries)
