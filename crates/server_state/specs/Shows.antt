-- When what is kept shows a world: each question of the world has its answer there. Eleven groups: the settings, the
-- limits of users, the lists of rows, and the page tables in their frames.
use Rattle.std.specs.Prelude.{◌≡◌, ℕ, true, List, map}
use Rattle.std.specs.List.{list_all}
use Rattle.iofd_words.specs.Allowed.{allowed_of}
use Rattle.iofd_words.specs.Areas.{areas_of}
use Rattle.iofd_words.specs.Dirty as dirty
use Rattle.iofd_words.specs.Dirty.{TrackedTable}
use Rattle.iofd_words.specs.Files as file
use Rattle.iofd_words.specs.Objects.{binding_of}
use Rattle.iofd_words.specs.Settings.{Settings}
use Rattle.iofd_words.specs.World.{World}
use Rattle.iofd_words.specs.declared.numbers.DeviceNo.{DeviceNo}
use Rattle.iofd_words.specs.declared.numbers.FileNo.{FileNo}
use Rattle.iofd_words.specs.declared.numbers.ObjId.{ObjId}
use Rattle.iofd_words.specs.declared.rows.Area.{Area}
use Rattle.iofd_words.specs.declared.rows.Attachment.{Attachment}
use Rattle.iofd_words.specs.declared.rows.Object.{Object}
use Rattle.server_state.specs.AccessPins.{AccessPinsShown}
use Rattle.server_state.specs.Devices.{are_bindings}
use Rattle.server_state.specs.Held.{object_of, areas_at}
use Rattle.server_state.specs.declared.held.Held.{Held}
use Rattle.server_state.specs.Leads.{leads_of}
use Rattle.server_state.specs.Tables.{has_own_width, page_tables_among}
use Rattle.server_state.specs.Users.{AccessSpaces, AreCounted}
use Rattle.server_state.specs.declared.state.State.{State}
use Rattle.dirty_bitmap.specs.Tracking.{Tables, is_dirty, is_tracked}
use Rattle.frame_memory.specs.Pool.{FramePool}
use Rattle.page_table_set.specs.PageTables.{AllStand, PageTables, objects_of}
use Rattle.user_memory_rows.specs.Shown.{FramesShown, PinsShown, UsersShown}
use Rattle.object_table.specs.Table.{Table, is_open}

-- the files, and the objects of each with the areas of its address spaces
pub record ObjectsShown {A : Type 0} (settings : Settings) (closed : List FileNo) (objects : List Object)
    (attachments : List Attachment) (areas : List Area) (table : Table (Held A)) : Type 0 where
  pub rows : objects ≡ map object_of table.rows
  -- each address space has its areas; no other object has any
  pub spaces : (f : FileNo) (ioas : ObjId) → areas_of areas f ioas ≡ areas_at table.rows f ioas
  pub files : (number : FileNo) → is_open table number ≡ file.is_open settings closed number
  -- each address space is counted as many users as page tables stand over it and access objects are attached to it, and
  -- each page table as many as devices translate by it; no other object has any
  pub counted : AreCounted objects attachments table.rows
  pub accesses : AccessSpaces objects

-- by which object a device is bound, and by which page table it translates
pub record DevicesShown (objects : List Object) (attachments : List Attachment) (kept_bindings : List Object)
    (kept_attachments : List Attachment) : Type 0 where
  pub bindings : (device : DeviceNo) → binding_of objects device ≡ binding_of kept_bindings device
  pub rising : are_bindings kept_bindings ≡ true
  pub attached : attachments ≡ kept_attachments

-- the page tables are those among the objects, of the widths that these have, and each stands in the pool with its
-- rows, and leads its pages as the world has it
pub record TablesShown (w : World) (kept : PageTables) (pool : FramePool) : Type 0 where
  pub tables : objects_of kept ≡ page_tables_among w.objects
  pub widths : list_all has_own_width kept.tables ≡ true
  pub stand : AllStand pool w.table_frames (leads_of w) kept.tables

-- which page tables are tracked, and which of their pages are marked
pub record DirtyShown (tracked : List TrackedTable) (kept : Tables) : Type 0 where
  pub tracks : (f : FileNo) (h : ObjId) → dirty.tracks tracked f h ≡ is_tracked kept f h
  pub marks : (f : FileNo) (h : ObjId) (page : ℕ) → dirty.is_marked tracked f h page ≡ is_dirty kept f h page

pub record Shows {A : Type 0} (w : World) (s : State A) : Type 0 where
  pub settings : w.settings ≡ s.config
  pub limits : s.memory.limits ≡ w.settings.users
  -- each address space has its allowed ranges
  pub allowed : (file : FileNo) (ioas : ObjId) → allowed_of w.allowed file ioas ≡ allowed_of s.allowed.rows file ioas
  pub objects : ObjectsShown w.settings w.closed w.objects w.attachments w.areas s.objects
  pub devices : DevicesShown w.objects w.attachments s.bindings.items s.attachments.items
  pub users : UsersShown w.user_pages s.memory.pages
  pub pins : PinsShown w.objects w.areas w.memory w.pins w.access_pins s.memory
  pub access_pins : AccessPinsShown w.objects w.access_pins s.access_pins
  pub dirty : DirtyShown w.tracked s.dirty
  pub frames : FramesShown w.settings.pool w.writes w.table_frames s.memory s.pool
  pub tables : TablesShown w s.page_tables s.pool
