-- The pages of a memory object that comes.
use Rattle.std.specs.Prelude.{ℕ, ◌≡◌, Bool, true, List, [], if◌then◌else◌}
use Rattle.iofd_words.specs.Frames.{frame_at, has_pages}
use Rattle.iofd_words.specs.Pages.{page_of}
use Rattle.iofd_words.specs.declared.numbers.FrameNo.{FrameNo}
use Rattle.iofd_words.specs.declared.rows.MemoryObject.{MemoryObject}
use Rattle.iofd_words.specs.declared.rows.UserPage.{UserPage}
use Rattle.frame_memory.specs.Pool.{may_hold}
use Rattle.frame_memory.specs.UserPages.{are_within}
use Rattle.mem_account.specs.Accounts.{charged, has_room, is_user}
use Rattle.mem_account.specs.declared.Account.{Account}
use Rattle.pinned_pages.specs.Pages.{ObjectPages, frames_now}

-- they can be pinned: they are there, their user may have them pinned, and the frames may have the holds
pub record MayPin (rows : List UserPage) (pool_holds : List ℕ) (accounts : List Account)
    (row : MemoryObject) : Type 0 where
  pub within : are_within rows pool_holds ≡ true
  pub holds : may_hold pool_holds row.count ≡ true
  pub user : is_user accounts row.user.0 ≡ true
  pub present : has_pages (frame_at rows) row.user (page_of row.va) row.count ≡ true
  pub room : has_room accounts row.user.0 row.count ≡ true

-- the frames that they are now
abbrev pub frames_of : List UserPage → MemoryObject → List FrameNo
frames_of rows row = frames_now rows row.user (page_of row.va) row.count

-- the pages, with a pin or none
abbrev pub pages_for : List UserPage → MemoryObject → Bool → ObjectPages
pages_for rows row pinned = record {
  user = row.user;
  va = row.va;
  count = row.count;
  writable = row.writable;
  table_pins = if pinned then 1 else 0;
  frames = if pinned then frames_of rows row else [];
  access = [];
}

-- their user's account after it
abbrev pub charged_for : List Account → MemoryObject → Bool → List Account
charged_for accounts row pinned = if pinned then charged accounts row.user.0 row.count else accounts
