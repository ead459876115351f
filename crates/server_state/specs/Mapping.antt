-- Words for MAP and UNMAP: the pins that come, and the areas of one address space.
use Rattle.std.specs.Prelude.{ℕ, Bool, false, Some, None, List, [], if◌then◌else◌}
use Rattle.std.specs.List.{list_any}
use Rattle.area_map_rows.specs.Areas.{areas_within}
use Rattle.page_table_set.specs.PageTables.{PageTables, objects_of}
use Rattle.iofd_words.specs.Areas.{is_held_back}
use Rattle.iofd_words.specs.Bounds.{Bounds}
use Rattle.iofd_words.specs.Objects.{kind_of, has_hwpt, is_hwpt_over}
use Rattle.iofd_words.specs.declared.numbers.FileNo.{FileNo}
use Rattle.iofd_words.specs.declared.numbers.ObjId.{ObjId}
use Rattle.iofd_words.specs.declared.rows.Area.{Area}
use Rattle.iofd_words.specs.declared.rows.Attachment.{Attachment}
use Rattle.iofd_words.specs.declared.rows.Object.{Object}
use Rattle.user_memory_rows.specs.Shown.{over}
use Rattle.server_state.specs.Held.{areas_in, own}
use Rattle.server_state.specs.declared.held.Held.{Held}
use Rattle.object_table.specs.Table.{Table}
use Rattle.object_table.specs.declared.kind.Kind.TheVariants.{Ioas}
use Rattle.user_memory.specs.Changes.{never}

-- ---- one address space

-- the attachment is by a page table over this address space
abbrev pub is_over : List Object → ObjId → Attachment → Bool
is_over objects ioas a = elim (kind_of objects a.file a.hwpt) [ Some kind ↦ is_hwpt_over ioas kind | None ↦ false ]

-- the areas of the object that is an address space and has this id
abbrev pub own_areas : {A : Type 0} → Table (Held A) → FileNo → ObjId → List Area
own_areas table file ioas = elim (own table file Ioas ioas) [ Some row ↦ areas_in row.value | None ↦ [] ]

-- how many pins on each memory object go where no page table is over the address space: one for each of its areas
abbrev pub untranslated_pins : {A : Type 0} → PageTables → Table (Held A) → FileNo → ObjId → ℕ → ℕ
untranslated_pins tables table file ioas =
    if has_hwpt (objects_of tables) file ioas then never else over (own_areas table file ioas)

-- some area that lies in the span may not go yet, where the devices that are attached and the pins are given
abbrev pub some_waits : Bounds → List ℕ → (Area → Bool) → List Area → Bool
some_waits span attached is_pinned areas = list_any (is_held_back attached is_pinned) (areas_within span areas)
