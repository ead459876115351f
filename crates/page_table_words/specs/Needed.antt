-- How many tables spans of addresses need that aren't there.
use Rattle.std.specs.Prelude.{ℕ, ◌≡◌, ◌<◌, ◌+◌, ◌-◌, ◌*◌, ◌^◌, Bool, ◌&&◌, nat_le}
use Rattle.std.specs.Prelude.{true, is_none, List, length}
use Rattle.std.specs.Prelude.{slice_index_or}
use Rattle.std.specs.List.{All, count_by, list_any, range_with_len, sum_by}
use Rattle.iofd_words.specs.Bounds.{Bounds}
use Rattle.iofd_words.specs.Pages.{page_of}
use Rattle.iofd_words.specs.Width.{bits_of}
use Rattle.iofd_words.specs.declared.width.Width.{Width}
use Rattle.iofd_words.specs.Levels.{number_at}
use Rattle.page_table_words.specs.Rows.{TableRow, table_at}

-- the spans lie below the end of the width, and each before the next
pub record AreOrdered (width : Width) (spans : List Bounds) : Type 0 where
  pub below : All (λ span. span.last < 2 ^ bits_of width) spans
  pub rising : (k : ℕ) (d : Bounds) → k + 1 < length spans →
      (slice_index_or spans k d).last < (slice_index_or spans (k + 1) d).first

-- the first page of a level's table, by the table's number
abbrev pub first_page : ℕ → ℕ → ℕ
first_page level number = number * 2 ^ (9 * level)

-- some page of the span goes through the level's table of this number
abbrev pub goes_through : ℕ → ℕ → Bounds → Bool
goes_through level number span =
    nat_le (number_at level (page_of span.first)) number && nat_le number (number_at level (page_of span.last))

-- that table isn't there
abbrev pub is_absent : List TableRow → ℕ → ℕ → Bool
is_absent rows level number = is_none (table_at rows level (first_page level number))

-- how many of a level's tables the spans go through that aren't there, each counted once
unfoldable pub needed_at : List TableRow → ℕ → ℕ → List Bounds → ℕ
needed_at rows levels level spans =
    count_by (λ number. list_any (goes_through level number) spans && is_absent rows level number)
    (range_with_len 0 (2 ^ (9 * (levels - level))))

-- those of all levels below the root
abbrev pub needed : List TableRow → ℕ → List Bounds → ℕ
needed rows levels spans = sum_by (λ level. needed_at rows levels level spans) (range_with_len 1 (levels - 1))

-- one of the spans has the page
abbrev pub HasPage : List Bounds → ℕ → Type 0
HasPage spans page =
    list_any (λ span. nat_le (page_of span.first) page && nat_le page (page_of span.last)) spans ≡ true
