-- The entries of tables (VT-d, "Second-Stage Paging Entries"): bit 0 read, bit 1 write, the number of a frame from bit
-- 12 on, and all other bits 0.
use Rattle.std.specs.Prelude.{ℕ, ◌≡◌, ◌≢◌, ◌⊎◌, ◌+◌, ◌*◌, Option, Some, None}
use Rattle.iofd_words.specs.declared.numbers.FrameNo.{FrameNo}
use Rattle.frame_memory.specs.Pool.{FramePool, bytes_of, word_at}
use Rattle.iofd_words.specs.Levels.{index_at}
use Rattle.page_table_words.specs.Rows.{MappedPage}

-- an entry of the table in this frame: a word of it, as the pool reads it
unfoldable pub entry_at : FramePool → ℕ → ℕ → ℕ
entry_at pool frame index = word_at pool frame index

-- an entry that names this table, with both rights; 0 where there is none
abbrev pub table_entry : Option FrameNo → ℕ
table_entry None = 0
table_entry (Some frame) = 4096 * frame.0 + 3

-- the entry of this page, with its rights; 0 where it isn't mapped
abbrev pub page_entry : Option MappedPage → ℕ
page_entry None = 0
page_entry (Some mapped) = 4096 * mapped.frame.0 + mapped.rights.0

-- the page's entry of the table in this frame, one of this level, is written; every other entry, byte and hold is as it
-- was
pub record WritesEntry (old new : FramePool) (frame level page value : ℕ) : Type 0 where
  pub holds : new.holds ≡ old.holds
  pub entry : entry_at new frame (index_at level page) ≡ value
  pub others : (f i : ℕ) → (f ≢ frame) ⊎ (i ≢ index_at level page) → entry_at new f i ≡ entry_at old f i
  pub bytes : (f : ℕ) → f ≢ frame → bytes_of new f ≡ bytes_of old f
