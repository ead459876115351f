-- Page tables stay where the users' memory changes.
use Rattle.std.proofs.Common.{◌≡◌, ℕ, zero, suc, ◌<◌, ◌≤◌, true, Option, List, refl, arith}
use Rattle.std.specs.Prelude.{slice_index}
use Rattle.iofd_rows.proofs.Each.{IsIn}
use Rattle.iofd_words.specs.Frames.{FrameWrite}
use Rattle.iofd_words.specs.declared.rows.Object.{Object}
use Rattle.iofd_words.specs.declared.rows.TableFrame.{TableFrame}
use Rattle.frame_memory.specs.Pool.{FramePool, bytes_of, word_at}
use Rattle.page_table_set.proofs.Staying.{all_stay, named_within, table_held}
use Rattle.page_table_set.specs.PageTables.{AllStand, Hwpt, rows_of}
use Rattle.user_memory_rows.specs.Shown.{FramesShown, tables_in}
use Rattle.page_table_words.specs.Rows.{MappedPage}
use Rattle.page_table_words.specs.SameTables.{SameTables}
use Rattle.page_table_words.specs.Taken.{names}
use Rattle.user_memory.specs.Memory.{Memory, reached}

module _ (pool : ℕ) (writes others : List FrameWrite) (frames : List TableFrame) (leads : Object → ℕ
    → Option MappedPage) (tables : List Hwpt)
    (old new : Memory) (before after : FramePool)
    (stand : AllStand before frames leads tables)
    (shown : FramesShown pool writes frames old before)
    (shown_after : FramesShown pool others frames new after) where
  -- no page and no pin names the frame of a page table
  unreached : (h : Hwpt) → IsIn tables h → (frame : ℕ) → names (rows_of frames h.object) frame ≡ true
      → reached old frame ≡ 0
  unreached h within frame named =
      let one = table_held before frames (leads h.object) h (stand.each h within) frame named in
      let some = named_within frames h.object frame named in
      let holds = shown.holds frame in
      omega (arith, one, some, holds)

  -- where no frame is named that wasn't, and each frame that isn't named keeps its bytes, all page tables stand
  pub tables_follow : ((frame : ℕ) → 0 < slice_index before.holds frame → 0 < reached new frame → 0 < reached old frame)
      → ((frame : ℕ) → 0 < slice_index before.holds frame → reached old frame ≡ 0
      → bytes_of after frame ≡ bytes_of before frame)
      → AllStand after frames leads tables
  tables_follow named bytes = all_stay before after frames leads tables stand same held
    where
      held : (frame : ℕ) → tables_in frames frame ≤ slice_index after.holds frame
      held frame = let holds = shown_after.holds frame in omega (arith, holds)

      same : (h : Hwpt) → IsIn tables h → SameTables (rows_of frames h.object) before after
      same h within = record {
        words = λ frame i is below. words frame i (bytes frame (some frame is) (unreached h within frame is));
        holds = λ frame is. holds frame (table_held before frames (leads h.object) h (stand.each h within) frame is)
            (unreached h within frame is) (few frame is);
      }
        where
          words : (frame i : ℕ) → bytes_of after frame ≡ bytes_of before frame
              → word_at after frame i ≡ word_at before frame i
          words frame i is = rw is refl

          some : (frame : ℕ) → names (rows_of frames h.object) frame ≡ true → 0 < slice_index before.holds frame
          some frame is =
              let one = table_held before frames (leads h.object) h (stand.each h within) frame is in omega (arith, one)

          few : (frame : ℕ) → names (rows_of frames h.object) frame ≡ true → reached new frame ≡ 0
          few frame is = none (reached new frame) (named frame (some frame is)) (unreached h within frame is)
            where
              none : (n : ℕ) → (0 < n → 0 < reached old frame) → reached old frame ≡ 0 → n ≡ 0
              none zero more old_none = refl
              none (suc n) more old_none =
                  absurd (let some_old = more (omega arith) in omega (arith, some_old, old_none))

          holds : (frame : ℕ) → slice_index before.holds frame ≡ 1 → reached old frame ≡ 0 → reached new frame ≡ 0
              → slice_index after.holds frame ≡ slice_index before.holds frame
          holds frame one old_none new_none =
              let first = shown.holds frame in
              let last = shown_after.holds frame in
              omega (arith, one, old_none, new_none, first, last)
