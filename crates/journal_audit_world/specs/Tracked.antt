-- A tracked page table after a page of it is written, and after a report that clears; the bits of a word.
use Rattle.std.specs.Prelude.{ℕ, ◌^◌, Bool, not, filter, map, ◌∷◌, if◌then◌else◌}
use Rattle.std.specs.List.{range_with_len, sum}
use Rattle.iofd_words.specs.Bounds.{Bounds}
use Rattle.iofd_words.specs.Dirty.{TrackedTable, is_tracked_as}
use Rattle.iofd_words.specs.DirtyWords.{is_page_of}
use Rattle.iofd_words.specs.declared.numbers.FileNo.{FileNo}
use Rattle.iofd_words.specs.declared.numbers.ObjId.{ObjId}

-- the page is marked, if the row is of this page table
abbrev pub with_page : FileNo → ObjId → ℕ → TrackedTable → TrackedTable
with_page file hwpt page table =
    if is_tracked_as file hwpt table then record table { pages = page ∷ table.pages } else table

-- those of the span aren't
abbrev pub without_pages : FileNo → ObjId → Bounds → TrackedTable → TrackedTable
without_pages file hwpt span table =
    if is_tracked_as file hwpt table
    then record table { pages = filter (λ page. not (is_page_of span page)) table.pages } else table

-- the word of which so many bits, from the lowest one on, are set where the test passes
unfoldable pub bits : (ℕ → Bool) → ℕ → ℕ
bits test n = sum (map (λ k. if test k then 2 ^ k else 0) (range_with_len 0 n))
