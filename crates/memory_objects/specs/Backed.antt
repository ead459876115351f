-- How the pins of memory objects stand to the pool and to the accounts.
use Rattle.std.specs.Prelude.{ℕ, ◌≡◌, ◌+◌, ◌≤◌, true, List, length, slice_index}
use Rattle.std.specs.List.{list_all}
use Rattle.iofd_words.specs.declared.rows.UserPage.{UserPage}
use Rattle.frame_memory.specs.Pool.{FramePool, may_hold}
use Rattle.frame_memory.specs.UserPages.{are_within}
use Rattle.mem_account.specs.Accounts.{has_room, held_by, is_user, limit_of}
use Rattle.mem_account.specs.declared.Account.{Account}
use Rattle.memory_objects.specs.Objects.{MemoryEntry, all_pass, can_pin, has_memory, have_areas, is_of, new_pages}
use Rattle.memory_objects.specs.Objects.{pinned_by, pins_on}

-- each frame has at least as many holds as pins name it, and each user holds at least the pinned pages of the user's
-- objects
pub record AreBacked (objects : List MemoryEntry) (pool_holds : List ℕ) (accounts : List Account) : Type 0 where
  pub holds : (frame : ℕ) → pins_on objects frame ≤ slice_index pool_holds frame
  pub held : (user : ℕ) → is_user accounts user ≡ true → pinned_by objects user ≤ held_by accounts user
  pub users : list_all (λ object. is_user accounts object.pages.pages.user.0) objects ≡ true

-- the objects of these numbers are one user's, who may hold all of their pages that aren't pinned yet
pub record Fits (objects : List MemoryEntry) (numbers : List ℕ) (accounts : List Account) : Type 0 where
  pub user : ℕ
  pub known : is_user accounts user ≡ true
  pub own : all_pass (is_of user) objects numbers ≡ true
  pub room : has_room accounts user (new_pages objects numbers) ≡ true

-- a frame has as many holds more as pins more name it, or less; its bytes stay
pub record HoldsMove (old new : List MemoryEntry) (before after : FramePool) : Type 0 where
  pub count : length after.holds ≡ length before.holds
  pub holds : (frame : ℕ)
      → slice_index after.holds frame + pins_on old frame ≡ slice_index before.holds frame + pins_on new frame
  pub bytes : after.bytes ≡ before.bytes

-- a user holds as many pages more as more of the user's objects' pages are pinned, or less; the limits stay
pub record AccountsMove (old new : List MemoryEntry) (before after : List Account) : Type 0 where
  pub count : length after ≡ length before
  pub limits : (user : ℕ) → limit_of after user ≡ limit_of before user
  pub held : (user : ℕ) → is_user before user ≡ true
      → held_by after user + pinned_by old user ≡ held_by before user + pinned_by new user

-- the objects of these numbers can be pinned, one after another: the users' pages lie in the pool, all of theirs that
-- aren't pinned yet are there, and for them there are memory, room in the account and room for holds; and no object
-- gets more pins than areas
pub record CanPin (objects : List MemoryEntry) (numbers : List ℕ) (rows : List UserPage) (pool_holds : List ℕ)
    (accounts : List Account) : Type 0 where
  pub within : are_within rows pool_holds ≡ true
  pub present : all_pass (can_pin rows) objects numbers ≡ true
  pub memory : all_pass has_memory objects numbers ≡ true
  pub fits : Fits objects numbers accounts
  pub holds : may_hold pool_holds (new_pages objects numbers) ≡ true
  pub areas : have_areas numbers objects ≡ true
