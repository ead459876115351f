-- Page tables that go, and the frames that they give back.
use Rattle.std.specs.Prelude.{ℕ, ◌≤◌, ◌==◌, not, Option, Some, None, List, [], ◌∷◌}
use Rattle.std.specs.Prelude.{filter, length, if◌then◌else◌}
use Rattle.std.specs.List.{flat_map}
use Rattle.iofd_words.specs.Objects.{is_object}
use Rattle.iofd_words.specs.TablePlaces.{is_table_of}
use Rattle.iofd_words.specs.declared.numbers.FileNo.{FileNo}
use Rattle.iofd_words.specs.declared.numbers.ObjId.{ObjId}
use Rattle.iofd_words.specs.declared.rows.Object.{Object}
use Rattle.iofd_words.specs.declared.rows.TableFrame.{TableFrame}
use Rattle.frame_memory.specs.Pool.{FramePool}
use Rattle.page_table_words.specs.Rows.{MappedPage, TableRow}
use Rattle.page_table_set.specs.PageTables.{AllStand, Hwpt, hwpt_of, rows_of}

-- ---- one page table

-- the first with this file and id goes
abbrev pub without_hwpt : FileNo → ObjId → List Hwpt → List Hwpt
without_hwpt file id [] = []
without_hwpt file id (h ∷ tables) = if is_object file id h.object then tables else h ∷ without_hwpt file id tables

-- the rows but its own
abbrev pub without_tables : FileNo → ObjId → List TableFrame → List TableFrame
without_tables file id frames = filter (λ table. not (is_table_of file id table)) frames

-- its rows; none where there is no such page table
abbrev pub rows_found : List TableFrame → Option Hwpt → List TableRow
rows_found frames None = []
rows_found frames (Some h) = rows_of frames h.object

-- all stand, and there is room for its frames
pub record CanRemove (pool : FramePool) (tables : List Hwpt) (file : FileNo) (id : ObjId) (room : ℕ) : Type 0 where
  pub frames : List TableFrame
  pub leads : Object → ℕ → Option MappedPage
  pub stand : AllStand pool frames leads tables
  pub enough : length (rows_found frames (hwpt_of tables file id)) ≤ room

-- ---- all of a file

abbrev pub without_file : FileNo → List Hwpt → List Hwpt
without_file file tables = filter (λ h. not (h.object.file.0 == file.0)) tables

-- the rows but the file's
abbrev pub without_tables_of : FileNo → List TableFrame → List TableFrame
without_tables_of file frames = filter (λ table. not (table.file.0 == file.0)) frames

-- the rows of its page tables
abbrev pub rows_of_file : List TableFrame → FileNo → List Hwpt → List TableRow
rows_of_file frames file tables =
    flat_map (λ h. rows_of frames h.object) (filter (λ h. h.object.file.0 == file.0) tables)

-- the id of a page table that is found
abbrev pub id_of : Option Hwpt → Option ObjId
id_of None = None
id_of (Some h) = Some h.object.id

-- all stand, and there is room for the frames of these
pub record CanRemoveFile (pool : FramePool) (tables : List Hwpt) (file : FileNo) (room : ℕ) : Type 0 where
  pub frames : List TableFrame
  pub leads : Object → ℕ → Option MappedPage
  pub stand : AllStand pool frames leads tables
  pub enough : length (rows_of_file frames file tables) ≤ room
