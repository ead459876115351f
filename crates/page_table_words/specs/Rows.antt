-- What a hardware page table holds: rows of table frames, and mapped pages.
use Rattle.std.specs.Prelude.{ℕ, Bool, ◌==◌, ◌&&◌, not, Option, List, [], ◌∷◌, ◌++◌, filter, find}
use Rattle.std.specs.Option.{option_map}
use Rattle.iofd_words.specs.declared.flags.Rights.{Rights}
use Rattle.iofd_words.specs.declared.numbers.FrameNo.{FrameNo}
use Rattle.iofd_words.specs.Levels.{first_address}

-- a table: its level, the first address that goes through it, and its frame
pub record TableRow : Type 0 where
  pub level : ℕ
  pub first : ℕ
  pub frame : FrameNo

-- a mapped page, by its number, and where it leads
pub record MappedPage : Type 0 where
  pub page : ℕ
  pub frame : FrameNo
  pub rights : Rights

-- the row is of the level's table through which the page goes
abbrev pub is_table : ℕ → ℕ → TableRow → Bool
is_table level page row = row.level == level && row.first == first_address level page

-- the frame of the level's table through which the page goes
unfoldable pub table_at : List TableRow → ℕ → ℕ → Option FrameNo
table_at rows level page = option_map (λ row. row.frame) (find (is_table level page) rows)

-- where the page leads
unfoldable pub page_at : List MappedPage → ℕ → Option MappedPage
page_at pages page = find (λ mapped. mapped.page == page) pages

-- the pages but this one
abbrev pub without_page : List MappedPage → ℕ → List MappedPage
without_page pages page = filter (λ mapped. not (mapped.page == page)) pages

-- the pages with this one, in place of what it was
abbrev pub with_page : List MappedPage → ℕ → FrameNo → Rights → List MappedPage
with_page pages page frame rights =
    without_page pages page ++ record { page = page; frame = frame; rights = rights } ∷ []
