-- Whose a frame is: a user's page, a pin's, a table's, or nobody's.
use Rattle.std.specs.Prelude.{◌≡◌, ◌≢◌, ◌<◌, ◌≤◌, ℕ, ◌+◌, ◌/◌, Bool, Contains}
use Rattle.iofd_words.specs.World.{World}
use Rattle.iofd_words.specs.declared.numbers.FrameNo.{FrameNo}
use Rattle.iofd_words.specs.declared.numbers.ObjId.{ObjId}
use Rattle.iofd_words.specs.declared.rows.MemoryObject.{MemoryObject}
use Rattle.iofd_words.specs.declared.rows.Object.{Object}
use Rattle.iofd_words.specs.declared.rows.ObjectKind.TheVariants as kind
use Rattle.iofd_words.specs.declared.rows.Pin.{Pin}
use Rattle.iofd_words.specs.declared.rows.TableFrame.{TableFrame}
use Rattle.iofd_words.specs.declared.rows.UserPage.{UserPage}
use Rattle.iofd_words.specs.declared.width.Width.{Width}
use Rattle.iofd_words.specs.declared.width.Width.TheVariants.{Bits39, Bits48, Bits57}

-- the pin's frame is that of page va / 4096 + index in the memory of the user of the pin's memory object
pub record IsUsersPage (w : World) (pin : Pin) : Type 0 where
  pub object : MemoryObject
  pub there : Contains w.memory object
  pub number : object.number ≡ pin.memory
  pub page : UserPage
  pub listed : Contains w.user_pages page
  pub of_user : page.user ≡ object.user
  pub of_page : page.page ≡ object.va / 4096 + pin.index
  pub of_frame : page.frame ≡ pin.frame

-- a frame of the pool that is no user's page, no pin's and no table's
pub record IsNobodys (w : World) (frame : FrameNo) : Type 0 where
  pub pool : frame.0 < w.settings.pool
  pub users : (page : UserPage) → Contains w.user_pages page → page.frame.0 ≢ frame.0
  pub pins : (pin : Pin) → Contains w.pins pin → pin.frame.0 ≢ frame.0
  pub tables : (table : TableFrame) → Contains w.table_frames table → table.frame.0 ≢ frame.0

-- how many levels the tables of a width have
abbrev pub deepest : Width → ℕ
deepest Bits39 = 3
deepest Bits48 = 4
deepest Bits57 = 5

-- the table is of a page table that is there, and of a level that tables of its width have
pub record HasPlace (w : World) (table : TableFrame) : Type 0 where
  pub object : Object
  pub there : Contains w.objects object
  pub of_file : object.file ≡ table.file
  pub of_id : object.id ≡ table.hwpt
  pub ioas : ObjId
  pub width : Width
  pub automatic : Bool
  pub is : object.kind ≡ kind.Hwpt ioas width automatic
  pub low : 1 ≤ table.level
  pub high : table.level ≤ deepest width
