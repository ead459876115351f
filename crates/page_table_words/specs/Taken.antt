-- Which frames tables take, and what a call leaves of the pool.
use Rattle.std.specs.Prelude.{ℕ, ◌≡◌, ◌+◌, ◌-◌, zero, suc, Bool, false, ◌==◌, is_none, List, []}
use Rattle.std.specs.Prelude.{◌∷◌, ◌++◌, length}
use Rattle.std.specs.Prelude.{slice_index, slice_set}
use Rattle.std.specs.List.{count_by, list_any, range_with_len}
use Rattle.std.specs.Option.{option_map_or}
use Rattle.iofd_words.specs.declared.numbers.FrameNo.{FrameNo}
use Rattle.frame_memory.specs.Pool.{FramePool, bytes_of, least_free}
use Rattle.iofd_words.specs.Levels.{first_address}
use Rattle.page_table_words.specs.Rows.{TableRow, table_at}

-- so many of the least free frames, in order
unfoldable pub least_frames : List ℕ → ℕ → List FrameNo
least_frames holds zero = []
least_frames holds (suc count) =
    option_map_or (λ frame. record { 0 = frame }
    ∷ least_frames (slice_set holds frame 1) count) (least_free holds) []

-- how many tables a page lacks, of so many levels
abbrev pub missing : List TableRow → ℕ → ℕ → ℕ
missing rows levels page = count_by (λ level. is_none (table_at rows level page)) (range_with_len 1 (levels - 1))

-- these frames as tables of the levels below this one, from the upper one down, through which the page goes
abbrev pub rows_below : ℕ → ℕ → List FrameNo → List TableRow
rows_below level page [] = []
rows_below level page (frame ∷ frames) =
    record { level = level - 1; first = first_address (level - 1) page; frame = frame }
    ∷ rows_below (level - 1) page frames

-- the rows with those of the tables that the page lacks, which are the least frames free by these holds
abbrev pub with_tables : List TableRow → ℕ → ℕ → List ℕ → List TableRow
with_tables rows levels page holds =
    rows ++ rows_below (missing rows levels page + 1) page (least_frames holds (missing rows levels page))

-- the frame is a table's
abbrev pub names : List TableRow → ℕ → Bool
names rows frame = list_any (λ row. row.frame.0 == frame) rows

-- each frame that isn't one of these tables' has as many holds as before, and the same bytes
pub record LeavesOthers (rows : List TableRow) (old new : FramePool) : Type 0 where
  pub holds : (frame : ℕ) → names rows frame ≡ false →
      slice_index new.holds frame ≡ slice_index old.holds frame
  pub bytes : (frame : ℕ) → names rows frame ≡ false → bytes_of new frame ≡ bytes_of old frame
  pub count : length new.holds ≡ length old.holds
