-- The tables of page tables, told by the words of the pool alone.
use Rattle.std.specs.Prelude.{ℕ, ◌-◌, ◌/◌, zero, suc, Bool, true, false, ◌==◌, ◌&&◌, nat_le, nat_lt}
use Rattle.std.specs.Prelude.{Some, None, List}
use Rattle.std.specs.Prelude.{if◌then◌else◌}
use Rattle.iofd_words.specs.Levels.{first_address, index_at, levels_of, number_at}
use Rattle.iofd_words.specs.Pages.{page_of}
use Rattle.iofd_words.specs.TablePlaces.{TablePlace}
use Rattle.iofd_words.specs.declared.numbers.FileNo.{FileNo}
use Rattle.iofd_words.specs.declared.numbers.ObjId.{ObjId}
use Rattle.frame_memory.specs.Pool.{FramePool}
use Rattle.page_table_words.specs.Entries.{entry_at}
use Rattle.page_table_words.specs.Stands.{TableRoot}
use Rattle.page_table_set.specs.PageTables.{Hwpt, hwpt_of}

-- from the table in this frame, one of this level, the page's entries name tables on so many levels below it
abbrev pub goes_down : FramePool → ℕ → ℕ → ℕ → ℕ → Bool
goes_down pool zero level frame page = true
goes_down pool (suc steps) level frame page =
    if entry_at pool frame (index_at level page) == 0 then false
    else goes_down pool steps (level - 1) (entry_at pool frame (index_at level page) / 4096) page

-- of so many levels, a table may be there: of one of these levels, from the address on where it begins, below the end
abbrev pub may_be : ℕ → TablePlace → Bool
may_be levels place =
    nat_lt 0 place.level && nat_le place.level levels
    && (place.first == first_address place.level (page_of place.first))
    && (number_at levels (page_of place.first) == 0)

-- the page table has a table there
abbrev pub keeps : FramePool → TableRoot → TablePlace → Bool
keeps pool table place =
    may_be (levels_of table.width) place
    && goes_down pool (levels_of table.width - place.level) (levels_of table.width) table.root.0 (page_of place.first)

-- the file's page table of this id does
abbrev pub has_kept : FramePool → List Hwpt → FileNo → ObjId → TablePlace → Bool
has_kept pool tables file id place =
    elim (hwpt_of tables file id) [ Some h ↦ keeps pool h.table place | None ↦ false ]
