-- What the objects of a table are in the world.
use Rattle.std.specs.Prelude.{ℕ, Bool, Option, Some, None, List, [], find, map}
use Rattle.iofd_words.specs.Attachments.{ioas_of_attachment}
use Rattle.iofd_words.specs.declared.numbers.FileNo.{FileNo}
use Rattle.iofd_words.specs.declared.numbers.ObjId.{ObjId}
use Rattle.iofd_words.specs.declared.refusal.Cause.{Cause}
use Rattle.iofd_words.specs.declared.rows.Area.{Area}
use Rattle.iofd_words.specs.declared.rows.Attachment.{Attachment}
use Rattle.iofd_words.specs.declared.rows.Object.{Object}
use Rattle.iofd_words.specs.declared.rows.ObjectKind.{ObjectKind}
use Rattle.iofd_words.specs.declared.rows.ObjectKind.TheVariants as kind
use Rattle.server_state.specs.declared.held.Held.{Held}
use Rattle.server_state.specs.declared.held.Held.TheVariants as held
use Rattle.object_table.specs.Table as of_table
use Rattle.object_table.specs.Table.{Row, Table, is_at}
use Rattle.object_table.specs.declared.kind.Kind.{Kind}
use Rattle.object_table.specs.declared.kind.Kind.TheVariants as table

-- under which kind an object stands in the table
abbrev pub table_kind : ObjectKind → Kind
table_kind kind.Ioas = table.Ioas
table_kind (kind.Hwpt ioas width automatic) = table.Hwpt
table_kind (kind.Device device) = table.Device
table_kind (kind.Access attached) = table.Access

module _ {A : Type 0} where
  -- what the object is
  abbrev pub kind_in : Held A → ObjectKind
  kind_in (held.Ioas areas) = kind.Ioas
  kind_in (held.Hwpt ioas width automatic) = kind.Hwpt ioas width automatic
  kind_in (held.Device device) = kind.Device device
  kind_in (held.Access attached) = kind.Access attached

  -- under which kind the table finds it
  abbrev pub held_kind : Held A → Kind
  held_kind held = table_kind (kind_in held)

  -- the areas of an address space; no other object has any
  abbrev pub areas_in : Held A → List Area
  areas_in (held.Ioas areas) = areas.areas
  areas_in (held.Hwpt ioas width automatic) = []
  areas_in (held.Device device) = []
  areas_in (held.Access attached) = []

  -- for how many more areas it has room
  abbrev pub room_in : Held A → ℕ
  room_in (held.Ioas areas) = areas.room
  room_in (held.Hwpt ioas width automatic) = 0
  room_in (held.Device device) = 0
  room_in (held.Access attached) = 0

  abbrev pub object_of : Row (Held A) → Object
  object_of row = record { file = row.file; id = row.id; kind = kind_in row.value }

  -- the areas of the address space of this id; of another object none
  abbrev pub areas_at : List (Row (Held A)) → FileNo → ObjId → List Area
  areas_at rows file id = elim (find (is_at file id) rows) [ Some row ↦ areas_in row.value | None ↦ [] ]

  abbrev pub room_at : List (Row (Held A)) → FileNo → ObjId → ℕ
  room_at rows file id = elim (find (is_at file id) rows) [ Some row ↦ room_in row.value | None ↦ 0 ]

  -- the table's words by kind, where an object is of the kind of what it holds
  abbrev pub is_own : FileNo → Kind → ObjId → Row (Held A) → Bool
  is_own = of_table.is_own held_kind

  abbrev pub own : Table (Held A) → FileNo → Kind → ObjId → Option (Row (Held A))
  own = of_table.own held_kind

  abbrev pub destroy_refusal : Table (Held A) → FileNo → Kind → ObjId → Option Cause
  destroy_refusal = of_table.destroy_refusal held_kind

  abbrev pub close_refusal : Table (Held A) → FileNo → Option Cause
  close_refusal = of_table.close_refusal held_kind

  -- the objects of the world that the table has
  abbrev pub objects_in : Table (Held A) → List Object
  objects_in table = map object_of table.rows

-- the address space of an attachment's page table, with its file
abbrev pub space_of : List Object → Option Attachment → Option (FileNo × ObjId)
space_of objects None = None
space_of objects (Some a) = elim (ioas_of_attachment objects a) [ Some ioas ↦ Some (a.file, ioas) | None ↦ None ]
