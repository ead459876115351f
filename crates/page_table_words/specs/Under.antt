-- The tables below a table, by the words of the pool.
use Rattle.std.specs.Prelude.{ℕ, ◌/◌, ◌%◌, zero, suc, ◌==◌, List, [], ◌∷◌, if◌then◌else◌}
use Rattle.std.specs.List.{flat_map, range_with_len}
use Rattle.iofd_words.specs.declared.numbers.FrameNo.{FrameNo}
use Rattle.frame_memory.specs.Pool.{FramePool}
use Rattle.page_table_words.specs.Entries.{entry_at}
use Rattle.page_table_words.specs.Reached.{GoesThrough}

-- a table has 512 entries
unfoldable pub entry_count : ℕ
entry_count = 512

-- the frames of the table in this frame, of so many levels above the last, and of all tables below it
unfoldable pub frames_under : FramePool → ℕ → FrameNo → List FrameNo
frames_under pool zero table = table ∷ []
frames_under pool (suc levels) table =
    table ∷ flat_map (λ i.
    if entry_at pool table.0 i % 4 == 0 then []
    else frames_under pool levels (record { 0 = entry_at pool table.0 i / 4096 }))
    (range_with_len 0 entry_count)

-- those of the table that an entry names, if it names one
unfoldable pub frames_of_entry : FramePool → ℕ → FrameNo → ℕ → List FrameNo
frames_of_entry pool levels table i =
    if entry_at pool table.0 i % 4 == 0 then []
    else frames_under pool levels (record { 0 = entry_at pool table.0 i / 4096 })

-- the frame is that of a table of this level, in some page table that stands in the pool
pub record HoldsTable (pool : FramePool) (level : ℕ) (table : FrameNo) : Type 0 where
  pub page : ℕ
  pub through : GoesThrough pool level page table
