-- What a change of other frames leaves of page tables.
use Rattle.std.specs.Prelude.{ℕ, ◌≡◌, ◌<◌, List, slice_index}
use Rattle.iofd_words.specs.declared.rows.TableFrame.{TableFrame}
use Rattle.frame_memory.specs.Pool.{FramePool, bytes_of}
use Rattle.page_table_set.specs.PageTables.{tables_in}

-- in both pools each frame in which a table is has the same bytes, and as many holds
pub record SameFrames (frames : List TableFrame) (old new : FramePool) : Type 0 where
  pub bytes : (frame : ℕ) → 0 < tables_in frames frame → bytes_of new frame ≡ bytes_of old frame
  pub holds : (frame : ℕ) → 0 < tables_in frames frame →
      slice_index new.holds frame ≡ slice_index old.holds frame
