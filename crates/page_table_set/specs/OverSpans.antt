-- Page tables over an address space, in which spans of pages are mapped or cleared.
use Rattle.std.specs.Prelude.{ℕ, ◌≡◌, ◌≤◌, ◌<◌, ◌⊎◌, ◌+◌, ◌*◌, ◌^◌, Bool, true}
use Rattle.std.specs.Prelude.{false, ◌==◌, ◌&&◌, Option, Some, None}
use Rattle.std.specs.Prelude.{List, [], ◌++◌, filter, length, map, slice_index_or, sum_by}
use Rattle.std.specs.List.{flat_map}
use Rattle.iofd_rows.proofs.Each.{IsIn}
use Rattle.iofd_words.specs.Bounds.{Bounds}
use Rattle.iofd_words.specs.Objects.{is_hwpt_over}
use Rattle.iofd_words.specs.TablePlaces.{TablePlace, has_table, lacking, pages_in, places_of}
use Rattle.iofd_words.specs.Tables.{MissingTable, in_frames}
use Rattle.iofd_words.specs.Width.{bits_of}
use Rattle.iofd_words.specs.declared.flags.Rights.{Rights}
use Rattle.iofd_words.specs.declared.numbers.FileNo.{FileNo}
use Rattle.iofd_words.specs.declared.numbers.FrameNo.{FrameNo}
use Rattle.iofd_words.specs.declared.numbers.ObjId.{ObjId}
use Rattle.iofd_words.specs.declared.rows.Object.{Object}
use Rattle.iofd_words.specs.declared.rows.TableFrame.{TableFrame}
use Rattle.frame_memory.specs.Pool.{FramePool, free_count}
use Rattle.page_table_spans.specs.Spans.{IsOfPages}
use Rattle.page_table_words.specs.Rows.{MappedPage}
use Rattle.page_table_words.specs.Taken.{least_frames}
use Rattle.page_table_set.specs.PageTables.{AllStand, Hwpt, hwpt_of}

-- the object is a page table over the file's address space
abbrev pub is_over : FileNo → ObjId → Object → Bool
is_over file ioas object = object.file.0 == file.0 && is_hwpt_over ioas object.kind

abbrev pub hwpts_over : FileNo → ObjId → List Hwpt → List Hwpt
hwpts_over file ioas tables = filter (λ h. is_over file ioas h.object) tables

-- the pages below this one lie below the end of each of them
abbrev pub AreBelow : FileNo → ObjId → ℕ → List Hwpt → Type 0
AreBelow file ioas end tables =
    (h : Hwpt) → IsIn tables h → is_over file ioas h.object ≡ true → end * 4096 ≤ 2 ^ bits_of h.table.width

-- the span is of whole pages, below the end of each of them
abbrev pub HaveSpan : FileNo → ObjId → Bounds → List Hwpt → Type 0
HaveSpan file ioas span tables =
    (h : Hwpt) → IsIn tables h → is_over file ioas h.object ≡ true → IsOfPages h.table.width span

-- from the first page on so many pages lead nowhere through a page table over the address space; every other page leads
-- where it did
pub record LeadsCleared (file : FileNo) (ioas : ObjId) (first count : ℕ)
    (old new : Object → ℕ → Option MappedPage) : Type 0 where
  pub inside : (object : Object) (page : ℕ) → is_over file ioas object ≡ true → first ≤ page →
      page < first + count →
      new object page ≡ None
  pub outside : (object : Object) (page : ℕ) → is_over file ioas object ≡ true →
      (page < first) ⊎ (first + count ≤ page) → new object page ≡ old object page
  pub others : (object : Object) (page : ℕ) → is_over file ioas object ≡ false →
      new object page ≡ old object page

-- through each page table of these objects the pages from the first on lead to these frames, in turn, with these
-- rights; every other page leads where it did
pub record LeadsMapped (is_one : Object → Bool) (first : ℕ) (frames : List FrameNo) (rights : Rights)
    (old new : Object → ℕ → Option MappedPage) : Type 0 where
  pub inside : (object : Object) (k : ℕ) (d : FrameNo) → is_one object ≡ true → k < length frames →
      new object (first + k) ≡ Some (record { page = first + k; frame = slice_index_or frames k d; rights = rights })
  pub outside : (object : Object) (page : ℕ) → is_one object ≡ true →
      (page < first) ⊎ (first + length frames ≤ page) →
      new object page ≡ old object page
  pub others : (object : Object) (page : ℕ) → is_one object ≡ false → new object page ≡ old object page

-- ---- which tables they lack

-- those that a page table lacks for the pages of the span
abbrev pub places_lacked : List TableFrame → Bounds → Hwpt → List TablePlace
places_lacked frames span h =
    lacking (has_table frames h.object.file h.object.id) (places_of h.table.width (pages_in span))

abbrev pub tables_lacked : List TableFrame → Bounds → Hwpt → ℕ
tables_lacked frames span h = length (places_lacked frames span h)

-- how many those over the address space lack together
abbrev pub tables_needed : List TableFrame → FileNo → ObjId → Bounds → List Hwpt → ℕ
tables_needed frames file ioas span tables = sum_by (tables_lacked frames span) (hwpts_over file ioas tables)

-- the missing tables of one page table, and those of each over the address space, by rising id
abbrev pub missing_in : List TableFrame → Bounds → Hwpt → List MissingTable
missing_in frames span h =
    map (λ place. record { file = h.object.file; hwpt = h.object.id; place = place }) (places_lacked frames span h)

abbrev pub tables_missing : List TableFrame → FileNo → ObjId → Bounds → List Hwpt → List MissingTable
tables_missing frames file ioas span tables = flat_map (missing_in frames span) (hwpts_over file ioas tables)

-- those of one that is found; none where there is no such page table
abbrev pub missing_found : List TableFrame → Bounds → Option Hwpt → List MissingTable
missing_found frames span None = []
missing_found frames span (Some h) = missing_in frames span h

-- the frames for these tables: so many of the least ones that are free by these holds
abbrev pub frames_for : List MissingTable → List ℕ → List FrameNo
frames_for missing holds = least_frames holds (length missing)

-- the rows, and then those of these tables in their frames
abbrev pub with_missing : List TableFrame → List MissingTable → List ℕ → List TableFrame
with_missing frames missing holds = frames ++ in_frames missing (frames_for missing holds)

-- ---- what it takes to map a span

-- all stand, and for the tables that those over the address space lack there are free frames, and room
pub record CanMap (pool : FramePool) (tables : List Hwpt) (file : FileNo) (ioas : ObjId) (span : Bounds)
    (room : ℕ) : Type 0 where
  pub frames : List TableFrame
  pub leads : Object → ℕ → Option MappedPage
  pub stand : AllStand pool frames leads tables
  pub free : tables_needed frames file ioas span tables ≤ free_count pool.holds
  pub enough : tables_needed frames file ioas span tables ≤ room

-- the same of the file's page table of this id
pub record CanMapIn (pool : FramePool) (tables : List Hwpt) (file : FileNo) (id : ObjId) (span : Bounds)
    (room : ℕ) : Type 0 where
  pub frames : List TableFrame
  pub leads : Object → ℕ → Option MappedPage
  pub stand : AllStand pool frames leads tables
  pub free : length (missing_found frames span (hwpt_of tables file id)) ≤ free_count pool.holds
  pub enough : length (missing_found frames span (hwpt_of tables file id)) ≤ room
