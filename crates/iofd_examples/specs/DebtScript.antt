-- A third script, worked by hand in pieces, of what devices owe: two devices of width 39 translate by one automatic
-- page table, one of width 48 by another. Two areas leave, one after the other, while devices come and go and flush;
-- the second is only written.
use Rattle.std.specs.Prelude.{ℕ, true, false, List, [], ◌∷◌}
use Rattle.std.specs.declared.alloc.Global.{Global}
use Rattle.iofd_examples.specs.Words.{Questions, Writes, answers_frame, answers_id, answers_iova, area_row, attach}
use Rattle.iofd_examples.specs.Words.{attachment_row, bind, bytes, count, detach, device_read, device_row, fault, flush}
use Rattle.iofd_examples.specs.Words.{hwpt_row, ioas_alloc, ioas_row, map_in, memory_row, moving, page_row, passed}
use Rattle.iofd_examples.specs.Words.{pin_row, step, table_row, unmap_in, user_map}
use Rattle.iofd_words.specs.Record.{Record}
use Rattle.iofd_words.specs.Settings.{DeviceSettings, Settings}
use Rattle.iofd_words.specs.World.{World}
use Rattle.iofd_words.specs.declared.fault.AccessKind.TheVariants.{Read, Write}
use Rattle.iofd_words.specs.declared.fault.FaultReason.TheVariants.{NoContext, ReadDenied, WriteDenied}
use Rattle.iofd_words.specs.declared.query.Answer.{Answer}
use Rattle.iofd_words.specs.declared.query.Answer.TheVariants as answer
use Rattle.iofd_words.specs.declared.query.Query.TheVariants.{FreeFrames}
use Rattle.iofd_words.specs.declared.refusal.Errno.TheVariants.{EAGAIN}
use Rattle.iofd_words.specs.declared.reply.Reply.{Reply}
use Rattle.iofd_words.specs.declared.reply.Reply.TheVariants as reply
use Rattle.iofd_words.specs.declared.rows.Phase.{Phase}
use Rattle.iofd_words.specs.declared.rows.Phase.TheVariants.{Live, Leaving}
use Rattle.iofd_words.specs.declared.width.Width.{Width}
use Rattle.iofd_words.specs.declared.width.Width.TheVariants.{Bits39, Bits48}

abbrev device_of : ℕ → Width → DeviceSettings
device_of source width = record { source = record { 0 = source }; width = width; x86 = false; reserved = [] }

abbrev pub settings : Settings
settings =
    record {
      pool = 13;
      users = 4 ∷ [];
      files = record { 0 = 1 } ∷ [];
      devices = device_of 0x08 Bits39 ∷ device_of 0x10 Bits39 ∷ device_of 0x18 Bits48 ∷ [];
      passes = 1;
    }

abbrev pub beginning : List (Record Global)
beginning =
    step (user_map 1 0x10000) (answers_frame 0)
    ∷ step (user_map 1 0x11000) (answers_frame 1)
    ∷ step (ioas_alloc 1) (answers_id 1)
    ∷ step (map_in 1 7 1 0x10000 0x1000 0x1000) (answers_iova 0x1000)
    ∷ step (map_in 1 3 1 0x11000 0x1000 0x3000) (answers_iova 0x3000)
    ∷ step (bind 1 1) (answers_id 2)
    ∷ step (bind 1 2) (answers_id 3)
    ∷ step (bind 1 3) (answers_id 4)
    ∷ moving (attach 1 1) (answers_id 5) (2 ∷ 3 ∷ 4 ∷ []) []
    ∷ step (attach 2 1) (answers_id 5)
    ∷ moving (attach 3 1) (answers_id 6) (5 ∷ 6 ∷ 7 ∷ 8 ∷ []) []
    ∷ []

-- the areas by their phases
abbrev pub with_phases : Phase → Phase → World
with_phases first second =
    record {
      settings = settings;
      closed = [];
      objects =
          ioas_row 1 1 ∷ device_row 1 2 1 ∷ device_row 1 3 2 ∷ device_row 1 4 3 ∷ hwpt_row 1 5 1 Bits39 true
          ∷ hwpt_row 1 6 1 Bits48 true
          ∷ [];
      memory = memory_row 3 1 0x10000 1 true ∷ memory_row 4 1 0x11000 1 true ∷ [];
      areas = area_row 1 1 0x1000 0x1fff 3 3 first ∷ area_row 1 1 0x3000 0x3fff 4 2 second ∷ [];
      allowed = [];
      user_pages = page_row 1 0x10 0 ∷ page_row 1 0x11 1 ∷ [];
      pins = pin_row 3 0 0 ∷ pin_row 4 0 1 ∷ [];
      attachments = attachment_row 1 1 5 ∷ attachment_row 2 1 5 ∷ attachment_row 3 1 6 ∷ [];
      access_pins = [];
      table_frames =
          table_row 1 5 3 0 2 ∷ table_row 1 5 2 0 3 ∷ table_row 1 5 1 0 4
          ∷ table_row 1 6 4 0 5 ∷ table_row 1 6 3 0 6 ∷ table_row 1 6 2 0 7 ∷ table_row 1 6 1 0 8
          ∷ [];
      tracked = [];
      writes = [];
    }

abbrev pub joined : World
joined = with_phases Live Live

-- instead of what comes below: the first device is detached, and the page table stays for the second
abbrev pub parting : List (Record Global)
parting = step (detach 1) reply.Done ∷ []

abbrev pub parted : World
parted = record joined { attachments = attachment_row 2 1 5 ∷ attachment_row 3 1 6 ∷ [] }

-- all three devices owe the first area a flush; a detachment pays
abbrev pub first_leaves : List (Record Global)
first_leaves =
    step (unmap_in 1 1 0x1000 0x1000) (reply.Pending EAGAIN)
    ∷ []

abbrev pub owing : World
owing = with_phases (Leaving (1 ∷ 2 ∷ 3 ∷ []) 1) Live

abbrev pub detaching : List (Record Global)
detaching = moving (detach 3) reply.Done [] (5 ∷ 6 ∷ 7 ∷ 8 ∷ []) ∷ []

-- the world without the third device's page table
abbrev without_third : Phase → Phase → World
without_third first second =
    record (with_phases first second) {
      objects = ioas_row 1 1 ∷ device_row 1 2 1 ∷ device_row 1 3 2 ∷ device_row 1 4 3
          ∷ hwpt_row 1 5 1 Bits39 true ∷ [];
      attachments = attachment_row 1 1 5 ∷ attachment_row 2 1 5 ∷ [];
      table_frames = table_row 1 5 3 0 2 ∷ table_row 1 5 2 0 3 ∷ table_row 1 5 1 0 4 ∷ [];
    }

abbrev pub detached : World
detached = without_third (Leaving (1 ∷ 2 ∷ []) 1) Live

-- the second area leaves too; both have seen one try more than the one that had seen most
abbrev pub both_leave : List (Record Global)
both_leave = step (unmap_in 1 1 0 0x4000) (reply.Pending EAGAIN) ∷ []

abbrev pub leaving : World
leaving = without_third (Leaving (1 ∷ 2 ∷ []) 2) (Leaving (1 ∷ 2 ∷ []) 2)

-- the second device pays. The third is attached again: it has nothing cached, and its page table has a root alone, as
-- no area is live. The UNMAP that is called again asks nothing new, and is counted
abbrev pub paying : List (Record Global)
paying =
    step (flush 2) reply.Done
    ∷ moving (attach 3 1) (answers_id 6) (5 ∷ []) []
    ∷ step (unmap_in 1 1 0 0x4000) (reply.Pending EAGAIN)
    ∷ []

abbrev with_root : Phase → Phase → World
with_root first second =
    record (with_phases first second) {
      table_frames = table_row 1 5 3 0 2 ∷ table_row 1 5 2 0 3 ∷ table_row 1 5 1 0 4 ∷ table_row 1 6 4 0 5 ∷ [];
    }

abbrev pub one_owes : World
one_owes = with_root (Leaving (1 ∷ []) 3) (Leaving (1 ∷ []) 3)

abbrev pub last_flush : List (Record Global)
last_flush = step (flush 1) reply.Done ∷ []

abbrev pub none_owes : World
none_owes = with_root (Leaving [] 3) (Leaving [] 3)

-- every address is named; tables below the root may go
abbrev pub everything_goes : List (Record Global)
everything_goes = moving (unmap_in 1 1 0 0xffff_ffff_ffff_ffff) (reply.Bytes 0x2000) [] (3 ∷ 4 ∷ []) ∷ []

abbrev pub gone : World
gone =
    record none_owes {
      memory = [];
      areas = [];
      pins = [];
      table_frames = table_row 1 5 3 0 2 ∷ table_row 1 6 4 0 5 ∷ [];
    }

-- ---- what devices read and write in between, at source 0008, 0010 and 0018

abbrev denied_read : ℕ → ℕ → Answer
denied_read source page = answer.Fault (fault source page Read ReadDenied)

abbrev denied_write : ℕ → ℕ → Reply
denied_write source page = reply.Fault (fault source page Write WriteDenied)

abbrev pub looks_in_joined : Questions
looks_in_joined =
    (device_read 1 0x1000 1, bytes (0 ∷ []))
    ∷ (device_read 3 0x1000 1, bytes (0 ∷ []))
    ∷ (device_read 2 0x3000 1, denied_read 0x10 3 ∷ [])
    ∷ (FreeFrames, count 4)
    ∷ []

abbrev pub writes_in_joined : Writes
writes_in_joined =
    (2, 0x3000, passed 1 ∷ []) ∷ (3, 0x3fff, passed 1 ∷ []) ∷ (3, 0x2000, denied_write 0x18 2 ∷ []) ∷ []

-- the third device isn't attached
abbrev pub looks_in_leaving : Questions
looks_in_leaving =
    (device_read 1 0x1000 1, answer.Read (0 ∷ []) ∷ denied_read 0x08 1 ∷ [])
    ∷ (device_read 2 0x1000 1, answer.Read (0 ∷ []) ∷ denied_read 0x10 1 ∷ [])
    ∷ (device_read 1 0x3000 1, denied_read 0x08 3 ∷ [])
    ∷ (device_read 3 0x1000 1, answer.Fault (fault 0x18 1 Read NoContext) ∷ [])
    ∷ (FreeFrames, count 8)
    ∷ []

abbrev pub writes_in_leaving : Writes
writes_in_leaving =
    (1, 0x3000, passed 1 ∷ denied_write 0x08 3 ∷ [])
    ∷ (3, 0x3000, reply.Fault (fault 0x18 3 Write NoContext) ∷ [])
    ∷ []

-- only the first device owes
abbrev pub writes_when_one_owes : Writes
writes_when_one_owes =
    (1, 0x1000, passed 0 ∷ denied_write 0x08 1 ∷ [])
    ∷ (2, 0x1000, denied_write 0x10 1 ∷ [])
    ∷ (3, 0x1000, denied_write 0x18 1 ∷ [])
    ∷ []

abbrev pub writes_when_none_owes : Writes
writes_when_none_owes = (1, 0x1000, denied_write 0x08 1 ∷ []) ∷ (1, 0x3000, denied_write 0x08 3 ∷ []) ∷ []

-- ---- a world that no run leaves: the first device isn't attached, and owes both areas a flush; an attachment pays

abbrev pub unattached_owes : World
unattached_owes =
    record one_owes { attachments = attachment_row 2 1 5 ∷ attachment_row 3 1 6 ∷ [] }

abbrev pub attaching : List (Record Global)
attaching = step (attach 1 1) (answers_id 5) ∷ []

-- so does one to the page table itself
abbrev pub joining : List (Record Global)
joining = step (attach 1 5) (answers_id 5) ∷ []
