-- The pages that a device writes are marked, told and cleared: a script worked by hand in pieces, with the whole world
-- after each. Device 2 is bound to file 1 as object 2, and translates by page table 3, over address space 1, which has
-- pages 1 and 2, at 0x1000 and 0x2000.
use Rattle.std.specs.Prelude.{true, false, List, [], ◌∷◌}
use Rattle.std.specs.declared.alloc.Global.{Global}
use Rattle.iofd_examples.specs.DirtyWords.{answers_dirty, dirty_clear, dirty_enable, dirty_look, told, tracked_row}
use Rattle.iofd_examples.specs.DirtyWords.{write_row}
use Rattle.iofd_examples.specs.Words.{Questions, answers_frame, answers_id, answers_iova, area_row, attach}
use Rattle.iofd_examples.specs.Words.{attachment_row, bind, destroy, detach, device_row, device_write, fault}
use Rattle.iofd_examples.specs.Words.{hwpt_alloc, hwpt_row, ioas_alloc, ioas_row, map_in, memory_row, moving}
use Rattle.iofd_examples.specs.Words.{page_row, passed, pin_row, refused, step, table_row, user_map, user_write}
use Rattle.iofd_words.specs.Record.{Record}
use Rattle.iofd_words.specs.Settings.{DeviceSettings, Settings}
use Rattle.iofd_words.specs.World.{World, opening}
use Rattle.iofd_words.specs.declared.fault.AccessKind.TheVariants.{Write}
use Rattle.iofd_words.specs.declared.fault.FaultReason.TheVariants.{WriteDenied}
use Rattle.iofd_words.specs.declared.refusal.Cause.TheVariants as cause
use Rattle.iofd_words.specs.declared.reply.Reply.TheVariants as reply
use Rattle.iofd_words.specs.declared.rows.Phase.TheVariants.{Live}
use Rattle.iofd_words.specs.declared.width.Width.TheVariants.{Bits39}

abbrev device_of : DeviceSettings
device_of = record { source = record { 0 = 0x08 }; width = Bits39; x86 = false; reserved = [] }

-- file 2 has nothing
abbrev pub settings : Settings
settings =
    record {
      pool = 8;
      users = 4 ∷ [];
      files = record { 0 = 1 } ∷ record { 0 = 1 } ∷ [];
      devices = device_of ∷ device_of ∷ [];
      passes = 1;
    }

abbrev pub beginning : List (Record Global)
beginning =
    step (ioas_alloc 1) (answers_id 1)
    ∷ step (user_map 1 0x10000) (answers_frame 0)
    ∷ step (user_map 1 0x11000) (answers_frame 1)
    ∷ step (map_in 1 7 1 0x10000 0x2000 0x1000) (answers_iova 0x1000)
    ∷ step (bind 1 2) (answers_id 2)
    ∷ moving (attach 2 1) (answers_id 3) (2 ∷ 3 ∷ 4 ∷ []) []
    ∷ []

abbrev pub ready : World
ready =
    record (opening settings) {
      objects = ioas_row 1 1 ∷ device_row 1 2 2 ∷ hwpt_row 1 3 1 Bits39 true ∷ [];
      memory = memory_row 3 1 0x10000 2 true ∷ [];
      areas = area_row 1 1 0x1000 0x2fff 3 3 Live ∷ [];
      user_pages = page_row 1 0x10 0 ∷ page_row 1 0x11 1 ∷ [];
      pins = pin_row 3 0 0 ∷ pin_row 3 1 1 ∷ [];
      attachments = attachment_row 2 1 3 ∷ [];
      table_frames = table_row 1 3 3 0 2 ∷ table_row 1 3 2 0 3 ∷ table_row 1 3 1 0 4 ∷ [];
    }

-- what is written before it is tracked is not marked
abbrev pub turning_on : List (Record Global)
turning_on =
    step (device_write 2 0x1000 (0x11 ∷ [])) (passed 0)
    ∷ step (dirty_enable 1 3 true) reply.Done
    ∷ []

abbrev pub tracked : World
tracked =
    record ready {
      tracked = tracked_row 1 3 [] ∷ [];
      writes = write_row 0 0 (0x11 ∷ []) ∷ [];
    }

abbrev pub looks_in_tracked : Questions
looks_in_tracked = (dirty_look 1 3 0x1000 0x2000, told 0 0 0 0) ∷ []

-- a device's write that passes marks its page. That of a user doesn't, nor one that is denied
abbrev pub writing : List (Record Global)
writing =
    step (device_write 2 0x2000 (0xaa ∷ [])) (passed 1)
    ∷ step (user_write 1 0x10000 (0xcc ∷ [])) reply.Done
    ∷ step (device_write 2 0x4000 (0xdd ∷ [])) (reply.Fault (fault 0x08 4 Write WriteDenied))
    ∷ []

abbrev pub written : World
written =
    record tracked {
      tracked = tracked_row 1 3 (2 ∷ []) ∷ [];
      writes = write_row 0 0 (0xcc ∷ []) ∷ write_row 1 0 (0xaa ∷ []) ∷ write_row 0 0 (0x11 ∷ []) ∷ [];
    }

-- page 2 is the second of the span, or the third, or the first, or none of it
abbrev pub looks_in_written : Questions
looks_in_written =
    (dirty_look 1 3 0x1000 0x2000, told 2 0 0 0)
    ∷ (dirty_look 1 3 0 0x10_0000, told 4 0 0 0)
    ∷ (dirty_look 1 3 0x2000 0x1000, told 1 0 0 0)
    ∷ (dirty_look 1 3 0x1000 0x1000, told 0 0 0 0)
    ∷ (dirty_look 1 3 0x3000 0x1000, told 0 0 0 0)
    ∷ []

-- it is told and cleared
abbrev pub clearing : List (Record Global)
clearing = step (dirty_clear 1 3 0x1000 0x2000) (answers_dirty 2 0 0 0) ∷ []

abbrev pub cleared : World
cleared = record written { tracked = tracked_row 1 3 [] ∷ [] }

abbrev pub looks_in_cleared : Questions
looks_in_cleared = (dirty_look 1 3 0x1000 0x2000, told 0 0 0 0) ∷ []

abbrev pub clearing_again : List (Record Global)
clearing_again = step (dirty_clear 1 3 0x1000 0x2000) (answers_dirty 0 0 0 0) ∷ []

-- ---- what else may come after the write

-- a span without the page leaves its mark
abbrev pub clearing_others : List (Record Global)
clearing_others =
    step (dirty_clear 1 3 0x1000 0x1000) (answers_dirty 0 0 0 0)
    ∷ step (dirty_clear 1 3 0x3000 0x1000) (answers_dirty 0 0 0 0)
    ∷ []

-- turned on anew, no page is marked
abbrev pub turning_on_anew : List (Record Global)
turning_on_anew = step (dirty_enable 1 3 true) reply.Done ∷ []

abbrev pub turning_off : List (Record Global)
turning_off = step (dirty_enable 1 3 false) reply.Done ∷ []

abbrev pub turned_off : World
turned_off = record written { tracked = [] }

-- the page table goes with its last device, and its tracking with it
abbrev pub detaching : List (Record Global)
detaching = moving (detach 2) reply.Done [] (2 ∷ 3 ∷ 4 ∷ []) ∷ []

abbrev pub detached : World
detached =
    record written {
      objects = ioas_row 1 1 ∷ device_row 1 2 2 ∷ [];
      pins = [];
      attachments = [];
      table_frames = [];
      tracked = [];
    }

-- ---- a second page table over the address space, which is tracked too, and by which the device doesn't translate

abbrev pub making_another : List (Record Global)
making_another =
    moving (hwpt_alloc 1 2 1) (answers_id 4) (5 ∷ 6 ∷ 7 ∷ []) []
    ∷ step (dirty_enable 1 3 true) reply.Done
    ∷ step (dirty_enable 1 4 true) reply.Done
    ∷ step (device_write 2 0x2000 (0xaa ∷ [])) (passed 1)
    ∷ []

abbrev pub both : World
both =
    record ready {
      objects = ioas_row 1 1 ∷ device_row 1 2 2 ∷ hwpt_row 1 3 1 Bits39 true ∷ hwpt_row 1 4 1 Bits39 false ∷ [];
      table_frames =
          table_row 1 3 3 0 2 ∷ table_row 1 3 2 0 3 ∷ table_row 1 3 1 0 4
          ∷ table_row 1 4 3 0 5 ∷ table_row 1 4 2 0 6 ∷ table_row 1 4 1 0 7
          ∷ [];
      tracked = tracked_row 1 4 [] ∷ tracked_row 1 3 (2 ∷ []) ∷ [];
      writes = write_row 1 0 (0xaa ∷ []) ∷ [];
    }

abbrev pub looks_in_both : Questions
looks_in_both =
    (dirty_look 1 3 0x1000 0x2000, told 2 0 0 0)
    ∷ (dirty_look 1 4 0x1000 0x2000, told 0 0 0 0)
    ∷ []

abbrev pub destroying : List (Record Global)
destroying = moving (destroy 1 4) reply.Done [] (5 ∷ 6 ∷ 7 ∷ []) ∷ []

abbrev pub one_left : World
one_left =
    record ready {
      tracked = tracked_row 1 3 (2 ∷ []) ∷ [];
      writes = write_row 1 0 (0xaa ∷ []) ∷ [];
    }

-- ---- pages of each word; no run leaves these marks here

abbrev pub marked : World
marked = record tracked { tracked = tracked_row 1 3 (257 ∷ 256 ∷ 130 ∷ 66 ∷ 64 ∷ 2 ∷ 0 ∷ []) ∷ [] }

-- pages 1 to 256, page 257 alone, pages 0 to 255
abbrev pub looks_in_marked : Questions
looks_in_marked =
    (dirty_look 1 3 0x1000 0x10_0000, told 0x8000_0000_0000_0002 2 2 0x8000_0000_0000_0000)
    ∷ (dirty_look 1 3 0x10_1000 0x1000, told 1 0 0 0)
    ∷ (dirty_look 1 3 0 0x10_0000, told 5 5 4 0)
    ∷ []

-- ---- records that differ in one place

-- in the world `written`: another word, no page, each other kind, and a refusal
abbrev pub other_words : List (Record Global)
other_words =
    step (dirty_clear 1 3 0x1000 0x2000) (answers_dirty 3 0 0 0)
    ∷ step (dirty_clear 1 3 0x1000 0x2000) (answers_dirty 0 0 0 0)
    ∷ []

abbrev pub other_kinds : List (Record Global)
other_kinds =
    step (dirty_clear 1 3 0x1000 0x2000) reply.Done
    ∷ step (dirty_clear 1 3 0x1000 0x2000) (refused cause.Tracking)
    ∷ step (dirty_enable 1 3 false) (answers_id 3)
    ∷ step (dirty_enable 1 3 true) (refused cause.Tracking)
    ∷ []

-- in the world `cleared`: a mark left
abbrev pub left_marks : List (Record Global)
left_marks = step (dirty_clear 1 3 0x1000 0x2000) (answers_dirty 2 0 0 0) ∷ []

-- in the world `turned_off`: a report that isn't refused, and one that is by another cause
abbrev pub not_refused : List (Record Global)
not_refused = step (dirty_clear 1 3 0x1000 0x2000) (answers_dirty 2 0 0 0) ∷ []

abbrev pub other_causes : List (Record Global)
other_causes = step (dirty_clear 1 3 0x1000 0x2000) (refused cause.Id) ∷ []

-- as it must be
abbrev pub refusals : List (Record Global)
refusals = step (dirty_clear 1 3 0x1000 0x2000) (refused cause.Tracking) ∷ []
