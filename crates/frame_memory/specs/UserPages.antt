-- The pages of the users' memory, and what each call makes of them.
use Rattle.std.specs.Prelude.{ℕ, ◌≡◌, ◌+◌, Bool, true, ◌==◌, ◌&&◌, ◌||◌, not, Option, Some}
use Rattle.std.specs.Prelude.{None, is_some, is_none}
use Rattle.std.specs.Prelude.{List, [], ◌∷◌, filter, length, nat_lt, if◌then◌else◌}
use Rattle.std.specs.List.{count_by, insert, list_all, prefix_len}
use Rattle.iofd_words.specs.FirstTrue.{first_true}
use Rattle.iofd_words.specs.Frames.{frame_at}
use Rattle.iofd_words.specs.declared.numbers.FrameNo.{FrameNo}
use Rattle.iofd_words.specs.declared.numbers.UserNo.{UserNo}
use Rattle.iofd_words.specs.declared.refusal.Cause.{Cause}
use Rattle.iofd_words.specs.declared.refusal.Cause.TheVariants as cause
use Rattle.iofd_words.specs.declared.rows.UserPage.{UserPage}
use Rattle.frame_memory.specs.Pool.{least_free}

-- the pages, by rising user and page, and how many more there is room for
pub record UserPages : Type 0 where
  pub pages : List UserPage
  pub room : ℕ

-- the row is of this page of the user
abbrev pub is_page : UserNo → ℕ → UserPage → Bool
is_page user page row = row.user.0 == user.0 && row.page == page

-- each page's frame is one of a pool with these holds
abbrev pub are_within : List UserPage → List ℕ → Bool
are_within pages holds = list_all (λ row. nat_lt row.frame.0 (length holds)) pages

-- the row stands before this page of the user
abbrev pub is_below : UserNo → ℕ → UserPage → Bool
is_below user page row = nat_lt row.user.0 user.0 || (row.user.0 == user.0 && nat_lt row.page page)

-- each page stands before those that follow it
abbrev pub are_rising : List UserPage → Bool
are_rising [] = true
are_rising (row ∷ rows) = list_all (λ next. is_below next.user next.page row) rows && are_rising rows

-- how many stand before this page of the user
abbrev pub count_below : List UserPage → UserNo → ℕ → ℕ
count_below pages user page = prefix_len (is_below user page) pages

-- the row of a user's page
abbrev pub user_page : UserNo → ℕ → FrameNo → UserPage
user_page user page frame = record { user = user; page = page; frame = frame }

-- the pages and this one, behind those that stand before it
abbrev pub with_page : List UserPage → UserNo → ℕ → FrameNo → List UserPage
with_page pages user page frame =
    insert pages (count_below pages user page) (user_page user page frame)

-- the pages but this one of the user
abbrev pub without_page : List UserPage → UserNo → ℕ → List UserPage
without_page pages user page = filter (λ row. not (is_page user page row)) pages

-- of two lists of pages the second has this row more: it is found at its own page, whose frame the first doesn't
-- tell, and counted once; every other page is the same in both, and so is every other count
pub record HasOneMore (less more : List UserPage) (row : UserPage) : Type 0 where
  pub absent : frame_at less row.user row.page ≡ None
  pub frames : (user : UserNo) (page : ℕ)
      → frame_at more user page ≡ (if is_page user page row then Some row.frame else frame_at less user page)
  pub counts : (test : UserPage → Bool) → count_by test more ≡ count_by test less + (if test row then 1 else 0)

-- why the user isn't given the page, over a pool with these holds: the first cause that applies
abbrev pub map_refusal : List UserPage → List ℕ → UserNo → ℕ → Option Cause
map_refusal pages holds user page = first_true (
    (cause.Overlap, is_some (frame_at pages user page))
    ∷ (cause.Frames, is_none (least_free holds))
    ∷ [])
