-- The page tables, kept beside the other objects.
use Rattle.std.specs.Prelude.{Bool, false, ◌==◌, ◌&&◌, List, filter}
use Rattle.std.specs.List.{list_any}
use Rattle.page_table_set.specs.PageTables.{Hwpt}
use Rattle.iofd_words.specs.Objects.{is_hwpt, is_object}
use Rattle.iofd_words.specs.Width.{bits_of}
use Rattle.iofd_words.specs.declared.numbers.FileNo.{FileNo}
use Rattle.iofd_words.specs.declared.numbers.ObjId.{ObjId}
use Rattle.iofd_words.specs.declared.rows.Object.{Object}
use Rattle.iofd_words.specs.declared.rows.ObjectKind.{ObjectKind}
use Rattle.iofd_words.specs.declared.rows.ObjectKind.TheVariants as kind
use Rattle.iofd_words.specs.declared.width.Width.{Width}

-- those among the objects, in their order
abbrev pub page_tables_among : List Object → List Object
page_tables_among objects = filter (λ object. is_hwpt object.kind) objects

-- the file has a page table of this id
abbrev pub has_page_table : List Object → FileNo → ObjId → Bool
has_page_table objects file id = list_any (λ object. is_object file id object && is_hwpt object.kind) objects

-- the file has some page table
abbrev pub has_page_tables : List Object → FileNo → Bool
has_page_tables objects file = list_any (λ object. object.file.0 == file.0 && is_hwpt object.kind) objects

-- a page table of this width
abbrev pub is_hwpt_of : Width → ObjectKind → Bool
is_hwpt_of width kind.Ioas = false
is_hwpt_of width (kind.Hwpt ioas own automatic) = bits_of own == bits_of width
is_hwpt_of width (kind.Device device) = false
is_hwpt_of width (kind.Access attached) = false

-- its tables translate addresses of its object's width
abbrev pub has_own_width : Hwpt → Bool
has_own_width h = is_hwpt_of h.table.width h.object.kind
