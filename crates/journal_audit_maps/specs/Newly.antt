-- Pages that are to be pinned anew, gathered one after the other.
use Rattle.std.specs.Prelude.{◌≡◌, ◌≤◌, ◌<◌, ℕ, Bool, true, false, is_none, min, Option, Some, None, List, ◌++◌, filter, map}
use Rattle.std.specs.List.{filter_map, list_any, range_with_len}
use Rattle.iofd_words.specs.Accesses.{is_spanned}
use Rattle.iofd_words.specs.Areas.{areas_of}
use Rattle.iofd_words.specs.Bounds.{Bounds}
use Rattle.iofd_words.specs.Pins.{ObjectPage, frame_now, pin_now, pinned_frame}
use Rattle.iofd_words.specs.declared.numbers.FileNo.{FileNo}
use Rattle.iofd_words.specs.declared.numbers.ObjId.{ObjId}
use Rattle.iofd_words.specs.declared.rows.Area.{Area}
use Rattle.iofd_words.specs.declared.rows.MemoryObject.{MemoryObject}
use Rattle.iofd_words.specs.declared.rows.Pin.{Pin}
use Rattle.iofd_words.specs.declared.rows.UserPage.{UserPage}

-- one of these pages isn't in its user's memory; or all are, and the pins are those before and one for each of them, at
-- the frame that it has there now
abbrev pub Gathers : Bool → List MemoryObject → List UserPage → List ObjectPage → List Pin → List Pin → Type 0
Gathers false memory user_pages pages old new =
    list_any (λ page. is_none (frame_now memory user_pages page)) pages ≡ true
Gathers true memory user_pages pages old new =
    (list_any (λ page. is_none (frame_now memory user_pages page)) pages ≡ false)
    × (new ≡ old ++ filter_map (pin_now memory user_pages) pages)

-- the least number from this one on that passes the test; or none does
abbrev pub IsNext : (ℕ → Bool) → ℕ → Option ℕ → Type 0
IsNext passes from None = (n : ℕ) → from ≤ n → passes n ≡ false
IsNext passes from (Some least) =
    (from ≤ least) × (passes least ≡ true) × ((n : ℕ) → from ≤ n → n < least → passes n ≡ false)

-- those of the pages that aren't pinned
abbrev pub unpinned_of : List Pin → List ObjectPage → List ObjectPage
unpinned_of pins pages = filter (λ page. is_none (pinned_frame pins page)) pages

-- those that lie in the span, in some area of the address space
abbrev pub newly_spanned : List Pin → List Area → FileNo → ObjId → Bounds → List ObjectPage → List ObjectPage
newly_spanned pins areas file ioas span pages =
    filter (is_spanned span (areas_of areas file ioas)) (unpinned_of pins pages)

-- pages of the memory object of this number, from this one on, so many
abbrev pub pages_at : ℕ → ℕ → ℕ → List ObjectPage
pages_at number from count = map (λ i. record { memory = number; index = i }) (range_with_len from count)

-- the lesser of two numbers, where there are any
abbrev pub lesser : Option ℕ → Option ℕ → Option ℕ
lesser None b = b
lesser (Some a) None = Some a
lesser (Some a) (Some b) = Some (min a b)
