-- What a change of other frames leaves as it was.
use Rattle.std.specs.Prelude.{ℕ, ◌≡◌, ◌<◌, true, List, slice_index}
use Rattle.frame_memory.specs.Pool.{FramePool, word_at}
use Rattle.page_table_words.specs.Rows.{TableRow}
use Rattle.page_table_words.specs.Taken.{names}

-- in both pools each table's frame has the same words, and as many holds
pub record SameTables (rows : List TableRow) (old new : FramePool) : Type 0 where
  pub words : (frame i : ℕ) → names rows frame ≡ true → i < 512 → word_at new frame i ≡ word_at old frame i
  pub holds : (frame : ℕ) → names rows frame ≡ true →
      slice_index new.holds frame ≡ slice_index old.holds frame
