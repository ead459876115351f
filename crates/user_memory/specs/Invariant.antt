-- What holds of the users' memory at any time.
use Rattle.std.specs.Prelude.{ℕ, ◌≡◌, ◌^◌, ◌==◌, ◌&&◌, nat_le, Bool}
use Rattle.std.specs.Prelude.{true, List, length, if◌then◌else◌}
use Rattle.std.specs.List.{list_all}
use Rattle.mem_account.specs.Accounts.{held_by, is_user}
use Rattle.mem_account.specs.declared.Account.{Account}
use Rattle.memory_objects.specs.Invariant.{MemoryInvariant}
use Rattle.memory_objects.specs.Objects.{MemoryEntry, pinned_by}
use Rattle.pinned_pages.specs.Access.{are_counted}

-- the object has at most 2^36 pages, page tables pin all of them or none, and accesses some of them
abbrev pub is_kept : MemoryEntry → Bool
is_kept object =
    nat_le object.pages.pages.count (2 ^ 36)
    && (length object.pages.pages.frames
    == (if object.pages.pages.table_pins == 0 then 0 else object.pages.pages.count)
    && are_counted object.pages.pages.count object.pages.pages.access)

-- what holds of the memory objects
pub record ObjectsTell (objects : List MemoryEntry) : Type 0 where
  pub memory : MemoryInvariant objects
  pub kept : list_all is_kept objects ≡ true

-- each user holds the pinned pages of the user's objects, and each object is of a user who is there
pub record AccountsTell (accounts : List Account) (objects : List MemoryEntry) : Type 0 where
  pub held : (user : ℕ) → is_user accounts user ≡ true → held_by accounts user ≡ pinned_by objects user
  pub users : list_all (λ object. is_user accounts object.pages.pages.user.0) objects ≡ true
  pub told : ObjectsTell objects
