-- The objects of all files, as contracts see them.
use Rattle.std.specs.Prelude.{◌≡◌, ◌≢◌, ℕ, ◌-◌, Bool, true, false, ◌&&◌, ◌||◌, not}
use Rattle.std.specs.Prelude.{◌==◌, nat_lt, nat_le, if◌then◌else◌}
use Rattle.std.specs.Prelude.{Option, Some, None, is_none, List, [], ◌∷◌, length, map, filter, find, replicate}
use Rattle.std.specs.Prelude.{slice_index_or, slice_set}
use Rattle.std.specs.List.{list_any}
use Rattle.std.specs.Option.{option_map_or}
use Rattle.iofd_words.specs.FirstTrue.{first_true}
use Rattle.iofd_words.specs.Sorted as sorted
use Rattle.iofd_words.specs.declared.numbers.FileNo.{FileNo}
use Rattle.iofd_words.specs.declared.numbers.ObjId.{ObjId}
use Rattle.iofd_words.specs.declared.refusal.Cause.{Cause}
use Rattle.iofd_words.specs.declared.refusal.Cause.TheVariants as cause
use Rattle.object_table.specs.declared.kind.Kind.{Kind}
use Rattle.object_table.specs.declared.kind.Kind.TheVariants.{Ioas, Hwpt, Device, Access}
use Rattle.iofd_words.specs.declared.call_error.CallError.{CallError}
use Rattle.iofd_words.specs.declared.call_error.CallError.TheVariants.{Refused, Memory}

abbrev pub is_same_kind : Kind → Kind → Bool
is_same_kind Ioas Ioas = true
is_same_kind Hwpt Hwpt = true
is_same_kind Device Device = true
is_same_kind Access Access = true
is_same_kind _ _ = false

-- a device or an access keeps its file from being closed
abbrev pub keeps_file_open : Kind → Bool
keeps_file_open Ioas = false
keeps_file_open Hwpt = false
keeps_file_open Device = true
keeps_file_open Access = true

-- an object: the file in whose table it stands, its id there, how many use it, what it holds
pub record Row (V : Type 0) : Type 0 where
  pub file : FileNo
  pub id : ObjId
  pub users : ℕ
  pub value : V

-- the objects of all files
pub record Table (V : Type 0) : Type 0 where
  -- for each file, from number 1 on: whether it is open
  pub files : List Bool
  -- for each file, from number 1 on: the id that the next object gets, where room for it is reserved
  pub reserved : List (Option ObjId)
  -- the objects by rising file and then rising id
  pub rows : List (Row V)

-- how many objects a file may have
abbrev pub greatest_count : ℕ
greatest_count = 65535

module _ {V : Type 0} where
  -- all files open and empty, and no room reserved
  abbrev pub fresh_table : ℕ → Table V
  fresh_table count = record { files = replicate count true; reserved = replicate count None; rows = [] }

  abbrev pub is_open : Table V → FileNo → Bool
  is_open t file = nat_lt 0 file.0 && slice_index_or t.files (file.0 - 1) false

  -- the id that the file's next object gets, where room for it is reserved
  abbrev pub reserved_id : Table V → FileNo → Option ObjId
  reserved_id t file = if nat_lt 0 file.0 then slice_index_or t.reserved (file.0 - 1) None else None

  abbrev pub is_of_file : FileNo → Row V → Bool
  is_of_file file row = row.file.0 == file.0

  abbrev pub is_at : FileNo → ObjId → Row V → Bool
  is_at file id row = is_of_file file row && (row.id.0 == id.0)

  -- the file's objects, by rising id
  abbrev pub rows_of : Table V → FileNo → List (Row V)
  rows_of t file = filter (is_of_file file) t.rows

  -- the object that has this id in the file
  abbrev pub row_at : Table V → FileNo → ObjId → Option (Row V)
  row_at t file id = find (is_at file id) t.rows

  -- the first stands before the second: in an earlier file, or in the same one with a smaller id
  abbrev pub stands_before : Row V → Row V → Bool
  stands_before row other =
      nat_lt row.file.0 other.file.0 || (row.file.0 == other.file.0) && nat_lt row.id.0 other.id.0

  -- the rows with one more, in its place
  abbrev pub inserted : Row V → List (Row V) → List (Row V)
  inserted = sorted.inserted stands_before

  -- the rows without the one at this file and id
  abbrev pub removed : FileNo → ObjId → List (Row V) → List (Row V)
  removed file id rows = filter (λ row. not (is_at file id row)) rows

  -- the rows, where the one at this file and id is changed
  abbrev pub changed_at : FileNo → ObjId → (Row V → Row V) → List (Row V) → List (Row V)
  changed_at file id change rows = map (λ row. if is_at file id row then change row else row) rows

  abbrev pub with_users : ℕ → Row V → Row V
  with_users users row = record row { users = users }

  abbrev pub with_value : V → Row V → Row V
  with_value value row = record row { value = value }

  -- why no object can be added to the file: the first reason that applies
  abbrev pub insert_refusal : Table V → FileNo → Option Cause
  insert_refusal t file = first_true (
      (cause.Id, not (is_open t file))
      ∷ (cause.Full, nat_le greatest_count (length (rows_of t file)))
      ∷ [])

  -- the table once the file is closed
  abbrev pub closed : Table V → FileNo → Table V
  closed t file = record {
    files = slice_set t.files (file.0 - 1) false;
    reserved = slice_set t.reserved (file.0 - 1) None;
    rows = filter (λ row. not (is_of_file file row)) t.rows;
  }

  -- every file but this one keeps its reserved room
  abbrev pub OthersKeepRoom : FileNo → Table V → Table V → Type 0
  OthersKeepRoom file old new =
      (other : FileNo) → other.0 ≢ file.0 → reserved_id new other ≡ reserved_id old other

-- where the kind of an object is this one of what it holds
module _ {V : Type 0} (kind_of : V → Kind) where
  abbrev pub is_own : FileNo → Kind → ObjId → Row V → Bool
  is_own file kind id row = is_at file id row && is_same_kind (kind_of row.value) kind

  -- the object of this kind that has this id in the file
  abbrev pub own : Table V → FileNo → Kind → ObjId → Option (Row V)
  own t file kind id = find (is_own file kind id) t.rows

  -- whether an object keeps the file from being closed
  abbrev pub is_held : Table V → FileNo → Bool
  is_held t file = list_any (λ row. keeps_file_open (kind_of row.value)) (rows_of t file)

  -- why the object can't be destroyed
  abbrev pub destroy_refusal : Table V → FileNo → Kind → ObjId → Option Cause
  destroy_refusal t file kind id = first_true (
      (cause.Id, is_none (own t file kind id))
      ∷ (cause.InUse, option_map_or (λ row. nat_lt 0 row.users) (own t file kind id) false)
      ∷ [])

  -- why the file can't be closed
  abbrev pub close_refusal : Table V → FileNo → Option Cause
  close_refusal t file = first_true ((cause.Id, not (is_open t file)) ∷ (cause.InUse, is_held t file) ∷ [])

-- want of memory comes only where nothing refuses
abbrev pub IsWhy : Option Cause → CallError → Type 0
IsWhy refusal (Refused r) = refusal ≡ Some r.cause
IsWhy refusal (Memory _) = refusal ≡ None
