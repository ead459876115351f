-- How a table lays out its rows. No public clause cites this module.
use Rattle.std.specs.Prelude.{ℕ, ◌+◌, ◌-◌, ◌<◌, ◌≤◌, Bool, ◌&&◌, not, nat_lt, nat_le}
use Rattle.std.specs.Prelude.{if◌then◌else◌, Option, Some, None}
use Rattle.std.specs.Prelude.{List, [], ◌∷◌, ◌++◌, map}
use Rattle.std.specs.List.{AllByRecursion}
use Rattle.slab.specs.Slab.{Slab, get, ContainsKey, entries, slab_len}
use Rattle.iofd_words.specs.FirstTrue.{first_true}
use Rattle.iofd_words.specs.declared.refusal.Cause.{Cause}
use Rattle.iofd_words.specs.declared.refusal.Cause.TheVariants as cause
use Rattle.iofd_words.specs.declared.numbers.FileNo.{FileNo}
use Rattle.iofd_words.specs.declared.numbers.ObjId.{ObjId}
use Rattle.object_table.specs.declared.file_objects.Entry.{Entry}
use Rattle.object_table.specs.declared.file_objects.FileObjects.{FileObjects}
use Rattle.object_table.specs.declared.kind.Kind.{Kind}
use Rattle.object_table.specs.Table.{Row, Table, greatest_count, is_same_kind}

-- keys below this have an id, which is one more
abbrev pub key_end : ℕ
key_end = 2147483647

module _ {V : Type 0} where
  abbrev pub row_of : FileNo → ObjId → Entry V → Row V
  row_of file id entry = record { file = file; id = id; users = entry.users; value = entry.value }

  -- the row of what a slab has under a key, in the file of this number
  abbrev pub keyed_row : ℕ → ℕ × Entry V → Row V
  keyed_row number entry = row_of (record { 0 = number }) (record { 0 = entry.0 + 1 }) entry.1

  -- what stands at an id of a file
  abbrev pub entry_at : {A : Type 0} → FileObjects V A → ObjId → Option (Entry V)
  entry_at file id = if file.is_open && nat_lt 0 id.0 then get file.objects (id.0 - 1) else None

  -- the row of an object that stands at an id of a file, if it is of that kind
  abbrev pub own_row : (V → Kind) → FileNo → Kind → ObjId → Option (Entry V) → Option (Row V)
  own_row kind_of file kind id None = None
  own_row kind_of file kind id (Some entry) =
      if is_same_kind (kind_of entry.value) kind then Some (row_of file id entry) else None

  -- a file has at most as many objects as it may have, each under a key that has an id
  pub record IsInLimits {A : Type 0} (file : FileObjects V A) : Type 0 where
    pub count : slab_len file.objects ≤ greatest_count
    pub keys : (key : ℕ) → ContainsKey file.objects key → key < key_end

  -- the same of every file
  abbrev pub AllInLimits : {A : Type 0} → List (FileObjects V A) → Type 0
  AllInLimits files = AllByRecursion IsInLimits files

  -- what an iterator has left stands under keys that have an id
  abbrev pub HaveIds : Option (List (ℕ × Entry V)) → Type 0
  HaveIds None = Unit {0}
  HaveIds (Some left) = AllByRecursion (λ e. e.0 < key_end) left

  -- one more object fits with no allocation and within the limit, and its id is in range
  abbrev pub has_room : Slab (Entry V) → Bool
  has_room s = nat_lt (slab_len s) greatest_count && nat_lt (slab_len s) s.capacity && nat_lt s.vacant_key key_end

  abbrev pub next_id : {A : Type 0} → FileObjects V A → Option ObjId
  next_id file =
      if file.is_open && has_room file.objects then Some (record { 0 = file.objects.vacant_key + 1 }) else None

  -- why no object can be added to the file: the first reason that applies
  abbrev pub file_refusal : {A : Type 0} → FileObjects V A → Option Cause
  file_refusal file = first_true (
      (cause.Id, not file.is_open)
      ∷ (cause.Full, nat_le greatest_count (slab_len file.objects))
      ∷ [])

  -- the rows of the file of this number
  abbrev pub file_rows : {A : Type 0} → ℕ → FileObjects V A → List (Row V)
  file_rows number file = if file.is_open then map (keyed_row number) (entries file.objects) else []

  -- the rows of what an iterator over the objects of a file has left
  abbrev pub rows_left : FileNo → Option (List (ℕ × Entry V)) → List (Row V)
  rows_left file None = []
  rows_left file (Some left) = map (keyed_row file.0) left

  -- the rows of these files, where the first has this number
  abbrev pub rows_from : {A : Type 0} → ℕ → List (FileObjects V A) → List (Row V)
  rows_from number [] = []
  rows_from number (file ∷ files) = file_rows number file ++ rows_from (number + 1) files

  -- what contracts see of these files
  abbrev pub table_of : {A : Type 0} → List (FileObjects V A) → Table V
  table_of files = record {
    files = map (λ file. file.is_open) files;
    reserved = map next_id files;
    rows = rows_from 1 files;
  }
