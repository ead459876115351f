-- The pages of the users' memory, as a map tells them.
use Rattle.std.specs.Prelude.{ℕ, Bool, ◌==◌, ◌&&◌, List, [], ◌∷◌}
use Rattle.iofd_words.specs.declared.numbers.FrameNo.{FrameNo}
use Rattle.iofd_words.specs.declared.rows.UserPage.{UserPage}
use Rattle.frame_memory.specs.UserPages.{with_page}

-- a user's number and one of the user's pages are the same as these
abbrev pub is_same : ℕ × ℕ → ℕ × ℕ → Bool
is_same first second = first.0 == second.0 && first.1 == second.1

-- the pages, by rising user and page, in whatever order the map has them
abbrev pub pages_of : List ((ℕ × ℕ) × FrameNo) → List UserPage
pages_of [] = []
pages_of (entry ∷ entries) = with_page (pages_of entries) (record { 0 = entry.0.0 }) entry.0.1 entry.1
