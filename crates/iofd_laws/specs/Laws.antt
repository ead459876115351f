-- What is true of every run, in the subject's words.
use Rattle.std.specs.Prelude.{◌≡◌, ◌≢◌, ◌<◌, ◌≤◌, ℕ, Contains, IsTrue, Bool, true, false}
use Rattle.std.specs.Prelude.{nat_le, nat_lt, ◌||◌, ◌==◌}
use Rattle.std.specs.Prelude.{◌&&◌, not, Option, Some, None, List, [], ◌∷◌, filter, find}
use Rattle.std.specs.List.{list_all, list_any}
use Rattle.iofd_words.specs.Allowed.{AllowedRanges}
use Rattle.iofd_steps.specs.Answers.{Answers}
use Rattle.iofd_words.specs.Areas.{is_of}
use Rattle.iofd_words.specs.Dirty.{TrackedTable}
use Rattle.iofd_words.specs.Files.{limit_of, user_of}
use Rattle.iofd_words.specs.Frames.{is_reached}
use Rattle.iofd_words.specs.Levels.{first_address, levels_of}
use Rattle.iofd_words.specs.Objects.{binding_of, has_hwpt, kind_of, objects_of}
use Rattle.iofd_words.specs.Pages.{page_of}
use Rattle.iofd_words.specs.Pins.{ObjectPage, frame_now, held_by, pinned_frame}
use Rattle.iofd_words.specs.Rights.{is_fixed}
use Rattle.iofd_steps.specs.Run.{Lawful}
use Rattle.iofd_words.specs.Record.{Record}
use Rattle.iofd_words.specs.Span.{holds}
use Rattle.iofd_words.specs.TablePlaces.{has_table, is_live, root_place}
use Rattle.iofd_words.specs.Tables.{is_orphan}
use Rattle.iofd_words.specs.World.{World}
use Rattle.iofd_words.specs.declared.event.Event.{Event}
use Rattle.iofd_words.specs.declared.event.Event.TheVariants as event
use Rattle.iofd_words.specs.declared.numbers.DeviceNo.{DeviceNo}
use Rattle.iofd_words.specs.declared.numbers.FileNo.{FileNo}
use Rattle.iofd_words.specs.declared.numbers.FrameNo.{FrameNo}
use Rattle.iofd_words.specs.declared.numbers.ObjId.{ObjId}
use Rattle.iofd_words.specs.declared.numbers.UserNo.{UserNo}
use Rattle.iofd_words.specs.declared.rows.Area.{Area}
use Rattle.iofd_words.specs.declared.rows.Attachment.{Attachment}
use Rattle.iofd_words.specs.declared.rows.MemoryObject.{MemoryObject}
use Rattle.iofd_words.specs.declared.rows.Object.{Object}
use Rattle.iofd_words.specs.declared.rows.ObjectKind.TheVariants as kind
use Rattle.iofd_words.specs.declared.rows.Pin.{Pin}
use Rattle.iofd_words.specs.declared.rows.TableFrame.{TableFrame}
use Rattle.iofd_words.specs.declared.rows.UserPage.{UserPage}
use Rattle.iofd_words.specs.declared.width.Width.{Width}

-- ---- areas

-- the other begins no lower, where both are of one address space
abbrev pub begins_before : Area → Area → Bool
begins_before area other = not (is_of area.file area.ioas other) || nat_le area.span.first other.span.first

-- the areas of an address space stand by rising start
abbrev pub starts_rise : List Area → Bool
starts_rise [] = true
starts_rise (area ∷ areas) = list_all (begins_before area) areas && starts_rise areas

-- ---- frames

-- no frame is that of a later page too
abbrev pub have_own_frames : List UserPage → Bool
have_own_frames [] = true
have_own_frames (page ∷ pages) = not (list_any (λ p. p.frame.0 == page.frame.0) pages) && have_own_frames pages

-- a frame that a record gives out was a frame of the pool that no user, no pin and no page table had
abbrev pub WasFree : World → FrameNo → Type 0
WasFree w frame = (frame.0 < w.settings.pool) × (is_reached w.user_pages w.pins w.table_frames frame.0 ≡ false)

-- ---- tables

-- no frame is that of a later table too
abbrev pub tables_differ : List TableFrame → Bool
tables_differ [] = true
tables_differ (table ∷ tables) =
    not (list_any (λ other. other.frame.0 == table.frame.0) tables) && tables_differ tables

-- the table's frame is neither a user's page nor a pin's
abbrev pub is_alone : List UserPage → List Pin → TableFrame → Bool
is_alone pages pins table =
    not (list_any (λ p. p.frame.0 == table.frame.0) pages)
    && not (list_any (λ pin. pin.frame.0 == table.frame.0) pins)

pub record TablesAlone (w : World) : Type 0 where
  -- each table's frame is one of the pool
  pub pool : list_all (λ table. nat_lt table.frame.0 w.settings.pool) w.table_frames ≡ true
  pub differ : tables_differ w.table_frames ≡ true
  pub alone : list_all (is_alone w.user_pages w.pins) w.table_frames ≡ true

-- which tables the page tables have
pub record TablesServe (w : World) : Type 0 where
  -- each page table has its root
  pub roots : (file : FileNo) (id ioas : ObjId) (width : Width) (automatic : Bool)
      → kind_of w.objects file id ≡ Some (kind.Hwpt ioas width automatic)
      → IsTrue (has_table w.table_frames file id (root_place width))
  -- and on each level below it the table through which an address of a live area of its address space goes
  pub below : (file : FileNo) (id ioas : ObjId) (width : Width) (automatic : Bool) (area : Area) (address level : ℕ)
      → kind_of w.objects file id ≡ Some (kind.Hwpt ioas width automatic)
      → Contains w.areas area → IsTrue (is_of file ioas area && is_live area.phase) →
      IsTrue (holds area.span address)
      → 1 ≤ level → level < levels_of width
      → IsTrue (has_table w.table_frames file id (record {
        level = level;
        first = first_address level (page_of address);
      }))
  -- each row is of a page table that is there
  pub owned : list_all (λ table. not (is_orphan w.objects table)) w.table_frames ≡ true

-- ---- files

-- the file that a device is bound to
abbrev pub file_of_device : World → DeviceNo → Option FileNo
file_of_device w device = elim (binding_of w.objects device) [ Some bound ↦ Some bound.file | None ↦ None ]

-- the file that an event is of: the one that a command names, or to which the device is bound
abbrev pub file_of : {A : Type 0} → World → Event A → Option FileNo
file_of w (event.IoasAlloc file) = Some file
file_of w (event.AllowIovas file ioas ranges) = Some file
file_of w (event.Map file request) = Some file
file_of w (event.Copy file request) = Some file
file_of w (event.Unmap file request) = Some file
file_of w (event.HwptAlloc file request) = Some file
file_of w (event.Destroy file id) = Some file
file_of w (event.Close file) = Some file
file_of w (event.UserMap user va) = None
file_of w (event.UserUnmap user va) = None
file_of w (event.UserWrite user va bytes) = None
file_of w (event.Bind file device) = Some file
file_of w (event.Unbind file id) = Some file
file_of w (event.Attach device pt_id) = file_of_device w device
file_of w (event.Detach device) = file_of_device w device
file_of w (event.Flush device) = file_of_device w device
file_of w (event.DeviceWrite device iova bytes) = file_of_device w device
file_of w (event.AccessCreate file) = Some file
file_of w (event.AccessAttach file id ioas) = Some file
file_of w (event.AccessDetach file id) = Some file
file_of w (event.AccessPin file id request) = Some file
file_of w (event.AccessUnpin file id request) = Some file
file_of w (event.AccessWrite file id iova bytes) = Some file
file_of w (event.DirtyEnable file hwpt on) = Some file
file_of w (event.DirtyClear file request) = Some file

-- the event isn't of this file
abbrev pub IsOfAnother : {A : Type 0} → World → Event A → FileNo → Type 0
IsOfAnother w e file = (own : FileNo) → file_of w e ≡ Some own → own.0 ≢ file.0

-- what a file has: its objects, its areas and allowed ranges, its devices' attachments, which of its page tables are
-- tracked and their marks, and whether it is closed
pub record FileRows : Type 0 where
  pub objects : List Object
  pub areas : List Area
  pub allowed : List AllowedRanges
  pub attachments : List Attachment
  pub tracked : List TrackedTable
  pub closed : Bool

abbrev pub rows_of : FileNo → World → FileRows
rows_of file w =
    record {
      objects = objects_of w.objects file;
      areas = filter (λ area. area.file.0 == file.0) w.areas;
      allowed = filter (λ ranges. ranges.file.0 == file.0) w.allowed;
      attachments = filter (λ a. a.file.0 == file.0) w.attachments;
      tracked = filter (λ table. table.file.0 == file.0) w.tracked;
      closed = list_any (λ f. f.0 == file.0) w.closed;
    }

-- the rows for the tables of the file's page tables
abbrev pub tables_of : FileNo → World → List TableFrame
tables_of file w = filter (λ table. table.file.0 == file.0) w.table_frames

-- ---- the memory of files

-- an area of the file lies over the memory object of this number
abbrev pub has_memory : FileNo → World → ℕ → Bool
has_memory file w number = list_any (λ area. area.file.0 == file.0 && area.memory == number) w.areas

abbrev pub object_numbered : List MemoryObject → ℕ → Option MemoryObject
object_numbered memory number = find (λ m. m.number == number) memory

-- the memory object of this number is the same in both worlds, and each of its pages is pinned at the same frame or in
-- neither
pub record SameMemory (number : ℕ) (old new : World) : Type 0 where
  pub object : object_numbered new.memory number ≡ object_numbered old.memory number
  pub pins : (index : ℕ) → pinned_frame new.pins (record { memory = number; index = index })
      ≡ pinned_frame old.pins (record { memory = number; index = index })

-- the area is there in the new world too, as the same row, and its memory object; and where its address space has a
-- page table, each page of the object is pinned at the same frame
pub record Outlives (area : Area) (old new : World) : Type 0 where
  pub row : Contains new.areas area
  pub object : object_numbered new.memory area.memory ≡ object_numbered old.memory area.memory
  pub pins : IsTrue (has_hwpt old.objects area.file area.ioas) → SameMemory area.memory old new

-- ---- pins

-- what a step may make of a page's pin: one that stays keeps its frame, and one that comes has the frame that is the
-- page's in its user's memory then
abbrev pub PinMoves : Option FrameNo → Option FrameNo → Option FrameNo → Type 0
PinMoves (Some old) (Some new) now = new ≡ old
PinMoves None (Some new) now = now ≡ Some new
PinMoves old None now = Unit {0}

-- from one world to the next
abbrev pub pin_moves : ObjectPage → World → World → Type 0
pin_moves page old new =
    PinMoves (pinned_frame old.pins page) (pinned_frame new.pins page) (frame_now new.memory new.user_pages page)

-- how many pinned pages a user has
abbrev pub held_in : World → UserNo → ℕ
held_in w user = held_by (pinned_frame w.pins) w.memory user

-- the user of the event's file has more pinned pages in the world that is left than its limit allows
pub record PassesLimit {A : Type 0} (w left : World) (e : Event A) : Type 0 where
  pub file : FileNo
  pub user : UserNo
  pub limit : ℕ
  pub of_file : file_of w e ≡ Some file
  pub of_user : user_of w.settings file ≡ Some user
  pub allowed : limit_of w.settings user ≡ Some limit
  pub more : limit < held_in left user

-- ---- records

-- a record of this event may be made at this position: with an answer of the event, and with frames for the tables
-- that it needs
abbrev pub HasRecord : {A : Type 0} → ℕ → World → Event A → Type 0
HasRecord {A = A} at w e = (r : Record A) × (r.event ≡ e) × Answers w e r.reply × Lawful at w r

-- a MAP or a COPY that leaves its address to the server
abbrev pub chooses_address : {A : Type 0} → Event A → Bool
chooses_address (event.Map file request) = not (is_fixed request.flags)
chooses_address (event.Copy file request) = not (is_fixed request.flags)
chooses_address e = false
