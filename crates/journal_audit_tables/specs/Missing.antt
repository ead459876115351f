-- The tables that page tables lack to map pages of an address space.
use Rattle.std.specs.Prelude.{ℕ, ◌==◌, Option, Some, None, List, [], map, if◌then◌else◌}
use Rattle.std.specs.List.{flat_map}
use Rattle.iofd_words.specs.TablePlaces.{TablePlace, has_table, lacking, places_of}
use Rattle.iofd_words.specs.Tables.{MissingTable}
use Rattle.iofd_words.specs.declared.numbers.FileNo.{FileNo}
use Rattle.iofd_words.specs.declared.numbers.ObjId.{ObjId}
use Rattle.iofd_words.specs.declared.rows.Object.{Object}
use Rattle.iofd_words.specs.declared.rows.ObjectKind.{ObjectKind}
use Rattle.iofd_words.specs.declared.rows.ObjectKind.TheVariants as kind
use Rattle.iofd_words.specs.declared.rows.TableFrame.{TableFrame}
use Rattle.iofd_words.specs.declared.width.Width.{Width}

-- the table at this place of a page table
abbrev pub missing_at : FileNo → ObjId → TablePlace → MissingTable
missing_at file hwpt place = record { file = file; hwpt = hwpt; place = place }

-- those that a page table of this width lacks to map these pages
abbrev pub missing_in : List TableFrame → FileNo → ObjId → Width → List ℕ → List MissingTable
missing_in tables file hwpt width pages =
    map (missing_at file hwpt) (lacking (has_table tables file hwpt) (places_of width pages))

-- the width of an object that is a page table over the address space
abbrev pub width_in : ObjId → ObjectKind → Option Width
width_in ioas kind.Ioas = None
width_in ioas (kind.Hwpt over width automatic) = if over.0 == ioas.0 then Some width else None
width_in ioas (kind.Device device) = None
width_in ioas (kind.Access attached) = None

abbrev pub width_over : FileNo → ObjId → Object → Option Width
width_over file ioas object = if object.file.0 == file.0 then width_in ioas object.kind else None

-- those of an object that is one
abbrev pub missing_by : List TableFrame → FileNo → ObjId → List ℕ → Option Width → List MissingTable
missing_by tables file id pages None = []
missing_by tables file id pages (Some width) = missing_in tables file id width pages

abbrev pub missing_of_object : List TableFrame → FileNo → ObjId → List ℕ → Object → List MissingTable
missing_of_object tables file ioas pages object =
    missing_by tables file object.id pages (width_over file ioas object)

-- those of all page tables over the address space
abbrev pub missing_over : List TableFrame → FileNo → ObjId → List ℕ → List Object → List MissingTable
missing_over tables file ioas pages objects = flat_map (missing_of_object tables file ioas pages) objects
