-- The page tables whose pages are tracked, and which of their pages are marked.
use Rattle.std.specs.Prelude.{ℕ, Bool, false, ◌==◌, ◌&&◌, List, Option, Some, None, is_some}
use Rattle.std.specs.BTreeMap.{is_at}
use Rattle.std.specs.Map.{lookup}
use Rattle.std.specs.Ordering.{nat_cmp, ordering_then}
use Rattle.iofd_words.specs.declared.numbers.FileNo.{FileNo}
use Rattle.iofd_words.specs.declared.numbers.ObjId.{ObjId}
use Rattle.dirty_bitmap.specs.Marks.{Words, is_marked}

-- page tables by their file and id, each with its marks
abbrev pub Tables : Type 0
Tables = List ((ℕ × ℕ) × Words)

-- the marks of a page table that is tracked
abbrev pub marks_of : Tables → FileNo → ObjId → Option Words
marks_of tables file hwpt =
    lookup (is_at (λ (key : ℕ × ℕ). ordering_then (nat_cmp file.0 key.0) (nat_cmp hwpt.0 key.1))) tables

-- the page is marked, if there are any marks
abbrev pub is_marked_in : Option Words → ℕ → Bool
is_marked_in None page = false
is_marked_in (Some words) page = is_marked words page

-- the page table's pages are tracked
abbrev pub is_tracked : Tables → FileNo → ObjId → Bool
is_tracked tables file hwpt = is_some (marks_of tables file hwpt)

-- the page table is tracked, and the page marked
abbrev pub is_dirty : Tables → FileNo → ObjId → ℕ → Bool
is_dirty tables file hwpt page = is_marked_in (marks_of tables file hwpt) page

-- the second file is the first
abbrev pub is_file : FileNo → FileNo → Bool
is_file file f = file.0 == f.0

-- the second page table is the first
abbrev pub is_table : FileNo → ObjId → FileNo → ObjId → Bool
is_table file hwpt f h = file.0 == f.0 && hwpt.0 == h.0
