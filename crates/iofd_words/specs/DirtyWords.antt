-- The words by which it is told which pages of a span were written.
use Rattle.std.specs.Prelude.{ℕ, ◌+◌, ◌*◌, ◌/◌, ◌^◌, Bool, ◌&&◌, nat_le, nat_lt, if◌then◌else◌, List, [], ◌∷◌, map}
use Rattle.std.specs.List.{range_with_len, sum}
use Rattle.iofd_words.specs.Bounds.{Bounds}

-- the span, of addresses in bytes, has an address of the page
abbrev pub is_page_of : Bounds → ℕ → Bool
is_page_of span page = nat_le (span.first / 4096) page && nat_le page (span.last / 4096)

-- a report of the span tells the page: one of its first 256
abbrev pub is_told : Bounds → ℕ → Bool
is_told span page = is_page_of span page && nat_lt page (span.first / 4096 + 256)

-- the page is told as written: it is marked, and a page of the span
abbrev pub is_reported : (ℕ → Bool) → Bounds → ℕ → Bool
is_reported marked span page = marked page && is_page_of span page

-- a word has so many pages
unfoldable pub word_pages : ℕ
word_pages = 64

-- the word of the pages from this one on: bit k, of the value 2^k, is set where the page k places behind it is told
abbrev pub dirty_word : (ℕ → Bool) → Bounds → ℕ → ℕ
dirty_word marked span page =
    sum (map (λ k. if is_reported marked span (page + k) then 2 ^ k else 0) (range_with_len 0 word_pages))

-- the four words of a report, one behind the other from the span's first page on
abbrev pub dirty_words : (ℕ → Bool) → Bounds → List ℕ
dirty_words marked span = map (λ j. dirty_word marked span (span.first / 4096 + 64 * j)) (0 ∷ 1 ∷ 2 ∷ 3 ∷ [])
