-- Page tables that are there, that are tracked and that have marked pages, and the records by which pages are marked
-- and cleared.
use Rattle.std.specs.Prelude.{◌≡◌, ◌<◌, ◌≤◌, ℕ, ◌+◌, ◌*◌, ◌/◌, ◌%◌, ◌^◌, Bool, true, Some, List, ◌∷◌, ◌++◌, Contains}
use Rattle.std.specs.Prelude.{slice_get}
use Rattle.iofd_words.specs.Dirty.{TrackedTable}
use Rattle.iofd_steps.specs.Run.{world_of}
use Rattle.iofd_words.specs.Record.{Record}
use Rattle.iofd_words.specs.Settings.{Settings}
use Rattle.iofd_words.specs.World.{World}
use Rattle.iofd_words.specs.declared.event.DirtyRequest.{DirtyRequest}
use Rattle.iofd_words.specs.declared.event.Event.TheVariants as event
use Rattle.iofd_words.specs.declared.numbers.DeviceNo.{DeviceNo}
use Rattle.iofd_words.specs.declared.numbers.FileNo.{FileNo}
use Rattle.iofd_words.specs.declared.numbers.FrameNo.{FrameNo}
use Rattle.iofd_words.specs.declared.numbers.Iova.{Iova}
use Rattle.iofd_words.specs.declared.numbers.ObjId.{ObjId}
use Rattle.iofd_words.specs.declared.reply.Reply.TheVariants as reply
use Rattle.iofd_words.specs.declared.rows.Attachment.{Attachment}
use Rattle.iofd_words.specs.declared.rows.Object.{Object}
use Rattle.iofd_words.specs.declared.rows.ObjectKind.TheVariants as kind
use Rattle.iofd_words.specs.declared.width.Width.{Width}

-- ---- what a world has

-- the file has a page table of this id
pub record HasTable (w : World) (file : FileNo) (hwpt : ObjId) : Type 0 where
  pub table : Object
  pub there : Contains w.objects table
  pub of_file : table.file ≡ file
  pub of_id : table.id ≡ hwpt
  pub ioas : ObjId
  pub width : Width
  pub automatic : Bool
  pub is_table : table.kind ≡ kind.Hwpt ioas width automatic

-- it is tracked
pub record IsTracked (w : World) (file : FileNo) (hwpt : ObjId) : Type 0 where
  pub row : TrackedTable
  pub there : Contains w.tracked row
  pub of_file : row.file ≡ file
  pub of_table : row.hwpt ≡ hwpt

-- it is tracked, and this page is marked
pub record IsMarked (w : World) (file : FileNo) (hwpt : ObjId) (page : ℕ) : Type 0 where
  pub row : TrackedTable
  pub there : Contains w.tracked row
  pub of_file : row.file ≡ file
  pub of_table : row.hwpt ≡ hwpt
  pub marked : Contains row.pages page

-- ---- what a record does

-- a device wrote in the page, the write passed, and before it the device was attached to the page table
pub record Writes {A : Type 0} (before : World) (r : Record A) (file : FileNo) (hwpt : ObjId) (page : ℕ)
    : Type 0 where
  pub device : DeviceNo
  pub iova : Iova
  pub bytes : List ℕ
  pub frame : FrameNo
  pub asked : r.event ≡ event.DeviceWrite device iova bytes
  pub passed : r.reply ≡ reply.Passed frame
  pub first : 4096 * page ≤ iova.0
  pub last : iova.0 < 4096 * page + 4096
  pub attachment : Attachment
  pub attached : Contains before.attachments attachment
  pub of_device : attachment.device ≡ device
  pub of_file : attachment.file ≡ file
  pub of_table : attachment.hwpt ≡ hwpt

-- tracking of the page table is turned on or off
pub record Turns {A : Type 0} (r : Record A) (file : FileNo) (hwpt : ObjId) : Type 0 where
  pub on : Bool
  pub asked : r.event ≡ event.DirtyEnable file hwpt on
  pub done : r.reply ≡ reply.Done

-- the page is one of those that are asked for: its first address lies in the span
abbrev pub IsAskedFor : DirtyRequest → ℕ → Type 0
IsAskedFor request page = (request.iova.0 ≤ 4096 * page) × (4096 * page < request.iova.0 + request.length)

-- the four words of a report tell the page: it is 64 * word + bit places behind the first page of the span, and this
-- bit of this word is set
pub record IsTold (words : List ℕ) (request : DirtyRequest) (page : ℕ) : Type 0 where
  pub word : ℕ
  pub bit : ℕ
  pub place : 4096 * page ≡ request.iova.0 + 4096 * (64 * word + bit)
  pub below : bit < 64
  pub value : ℕ
  pub there : slice_get words word ≡ Some value
  pub set : value / 2 ^ bit % 2 ≡ 1

-- a report clears the page
pub record Clears {A : Type 0} (r : Record A) (file : FileNo) (hwpt : ObjId) (page : ℕ) : Type 0 where
  pub request : DirtyRequest
  pub words : List ℕ
  pub asked : r.event ≡ event.DirtyClear file request
  pub told : r.reply ≡ reply.Dirty words
  pub of_table : request.hwpt ≡ hwpt
  pub span : IsAskedFor request page

-- ---- what a run says

-- a record of the run wrote the page while the page table was tracked. Since then tracking was turned neither on nor
-- off, no report cleared the page, and the page table was there after each record
pub record IsWritten {A : Type 0} (settings : Settings) (records : List (Record A)) (file : FileNo) (hwpt : ObjId)
    (page : ℕ) : Type 0 where
  pub before : List (Record A)
  pub r : Record A
  pub later : List (Record A)
  pub parts : records ≡ before ++ r ∷ later
  pub tracked : IsTracked (world_of settings before) file hwpt
  pub writes : Writes (world_of settings before) r file hwpt page
  pub not_turned : (c : Record A) → Contains later c → Turns c file hwpt → ⊥
  pub not_cleared : (c : Record A) → Contains later c → Clears c file hwpt page → ⊥
  pub stands : (first rest : List (Record A)) → later ≡ first ++ rest
      → HasTable (world_of settings (before ++ r ∷ first)) file hwpt

-- a record of the run turned tracking on. Since then it was turned neither on nor off, and the page table was there
-- after each record
pub record IsTurnedOn {A : Type 0} (settings : Settings) (records : List (Record A)) (file : FileNo) (hwpt : ObjId)
    : Type 0 where
  pub before : List (Record A)
  pub r : Record A
  pub later : List (Record A)
  pub parts : records ≡ before ++ r ∷ later
  pub asked : r.event ≡ event.DirtyEnable file hwpt true
  pub done : r.reply ≡ reply.Done
  pub not_turned : (c : Record A) → Contains later c → Turns c file hwpt → ⊥
  pub stands : (first rest : List (Record A)) → later ≡ first ++ rest
      → HasTable (world_of settings (before ++ r ∷ first)) file hwpt
