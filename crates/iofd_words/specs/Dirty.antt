-- Dirty tracking, by this project's own commands DIRTY_ENABLE and DIRTY_REPORT: which pages devices have written
-- through a page table since it is tracked, or since they were last cleared by a report.
use Rattle.std.specs.Prelude.{ℕ, Bool, true, false, ◌==◌, ◌&&◌, not, Option, Some, None, List, [], ◌∷◌, map, filter}
use Rattle.std.specs.Prelude.{if◌then◌else◌}
use Rattle.std.specs.List.{list_any}
use Rattle.iofd_words.specs.Bounds.{Bounds}
use Rattle.iofd_words.specs.DirtyWords.{dirty_words, is_page_of}
use Rattle.iofd_words.specs.Span.{span_from}
use Rattle.iofd_words.specs.declared.event.DirtyRequest.{DirtyRequest}
use Rattle.iofd_words.specs.declared.numbers.FileNo.{FileNo}
use Rattle.iofd_words.specs.declared.numbers.ObjId.{ObjId}
use Rattle.iofd_words.specs.declared.rows.Attachment.{Attachment}

-- a page table that is tracked, and the numbers of the pages that are marked, the newest first
pub record TrackedTable : Type 0 where
  pub file : FileNo
  pub hwpt : ObjId
  pub pages : List ℕ

abbrev pub is_tracked_as : FileNo → ObjId → TrackedTable → Bool
is_tracked_as file hwpt table = table.file.0 == file.0 && table.hwpt.0 == hwpt.0

-- the page table is tracked
abbrev pub tracks : List TrackedTable → FileNo → ObjId → Bool
tracks tables file hwpt = list_any (is_tracked_as file hwpt) tables

-- and this page is marked
abbrev pub has_mark : FileNo → ObjId → ℕ → TrackedTable → Bool
has_mark file hwpt page table = is_tracked_as file hwpt table && list_any (λ marked. marked == page) table.pages

abbrev pub is_marked : List TrackedTable → FileNo → ObjId → ℕ → Bool
is_marked tables file hwpt page = list_any (has_mark file hwpt page) tables

-- ---- how they change

-- the page table isn't tracked
abbrev pub without_tracked : FileNo → ObjId → List TrackedTable → List TrackedTable
without_tracked file hwpt tables = filter (λ table. not (is_tracked_as file hwpt table)) tables

-- it is from now on, and no page is marked, or it isn't
abbrev pub with_tracking : FileNo → ObjId → Bool → List TrackedTable → List TrackedTable
with_tracking file hwpt true tables =
    record { file = file; hwpt = hwpt; pages = [] } ∷ without_tracked file hwpt tables
with_tracking file hwpt false tables = without_tracked file hwpt tables

-- a page is written through it
abbrev pub with_mark : FileNo → ObjId → ℕ → List TrackedTable → List TrackedTable
with_mark file hwpt page tables =
    map (λ table. if is_tracked_as file hwpt table then record table { pages = page ∷ table.pages } else table) tables

-- by a device, where that is attached
abbrev pub marked_by : Option Attachment → ℕ → List TrackedTable → List TrackedTable
marked_by None page tables = tables
marked_by (Some a) page tables = with_mark a.file a.hwpt page tables

-- the marks of a span's pages go
abbrev pub without_marks : FileNo → ObjId → Bounds → List TrackedTable → List TrackedTable
without_marks file hwpt span tables =
    map (λ table. if is_tracked_as file hwpt table
    then record table { pages = filter (λ page. not (is_page_of span page)) table.pages }
    else table) tables

-- ---- a report

abbrev pub reported_span : DirtyRequest → Bounds
reported_span request = span_from request.iova.0 request.length

-- the words by which the pages of the span that are marked are told
abbrev pub reported_words : List TrackedTable → FileNo → DirtyRequest → List ℕ
reported_words tables file request = dirty_words (is_marked tables file request.hwpt) (reported_span request)
