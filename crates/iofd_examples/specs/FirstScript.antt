-- A whole script, worked by hand: two files, one device, a mapped page, a write, and an UNMAP that waits for
-- a flush. Its records are a run; a few that differ from them in one place are not. The device's page table, of width
-- 39 with one mapped page, has three tables: the root, one of level 2 and one of level 1.
use Rattle.std.specs.Prelude.{ℕ, false, List, [], ◌∷◌, ◌++◌, map}
use Rattle.std.specs.declared.alloc.Global.{Global}
use Rattle.iofd_words.specs.Record.{Record}
use Rattle.iofd_words.specs.Settings.{Settings}
use Rattle.iofd_words.specs.declared.event.Event.{Event}
use Rattle.iofd_words.specs.declared.event.Event.TheVariants as event
use Rattle.iofd_words.specs.declared.fault.AccessKind.TheVariants.{Read, Write}
use Rattle.iofd_words.specs.declared.fault.FaultReason.{FaultReason}
use Rattle.iofd_words.specs.declared.fault.FaultReason.TheVariants.{NoContext, BeyondWidth, ReadDenied}
use Rattle.iofd_words.specs.declared.numbers.DeviceNo.{DeviceNo}
use Rattle.iofd_words.specs.declared.numbers.FileNo.{FileNo}
use Rattle.iofd_words.specs.declared.numbers.FrameNo.{FrameNo}
use Rattle.iofd_words.specs.declared.numbers.ObjId.{ObjId}
use Rattle.iofd_words.specs.declared.query.Answer.{Answer}
use Rattle.iofd_words.specs.declared.query.Answer.TheVariants as answer
use Rattle.iofd_words.specs.declared.query.Query.{Query}
use Rattle.iofd_words.specs.declared.query.Query.TheVariants.{DeviceRead}
use Rattle.iofd_words.specs.declared.refusal.Cause.{Cause}
use Rattle.iofd_words.specs.declared.refusal.Cause.TheVariants as cause
use Rattle.iofd_words.specs.declared.refusal.Errno.TheVariants.{EAGAIN}
use Rattle.iofd_words.specs.declared.reply.Reply.{Reply}
use Rattle.iofd_words.specs.declared.reply.Reply.TheVariants as reply
use Rattle.iofd_words.specs.declared.width.Width.TheVariants.{Bits39}

-- ---- shorthands

abbrev file : ℕ → FileNo
file n = record { 0 = n }

abbrev id : ℕ → ObjId
id n = record { 0 = n }

abbrev device : DeviceNo
device = record { 0 = 1 }

abbrev frames : List ℕ → List FrameNo
frames numbers = map (λ n. record { 0 = n }) numbers

-- a record that takes frames for tables and gives frames of tables back
abbrev moving : Event Global → Reply → List ℕ → List ℕ → Record Global
moving e r taken given =
    record { pass = record { 0 = 0 }; event = e; reply = r; taken = frames taken; given = frames given }

abbrev step : Event Global → Reply → Record Global
step e r = moving e r [] []

abbrev refused : Cause → Reply
refused cause = reply.Refused (record { cause = cause })

-- ---- the script

-- a pool of 8 frames, a user, two files of that user, one device of width 39
abbrev pub settings : Settings
settings =
    record {
      pool = 8;
      users = 4 ∷ [];
      files = record { 0 = 1 } ∷ record { 0 = 1 } ∷ [];
      devices = record { source = record { 0 = 0x18 }; width = Bits39; x86 = false; reserved = [] } ∷ [];
      passes = 1;
    }

-- the page at 0x10000 is mapped at 0x1000, for reads and writes
abbrev map_page : Event Global
map_page = event.Map (file 1) (record {
  flags = record { 0 = 7 };
  ioas = id 1;
  user_va = 0x10000;
  length = 0x1000;
  iova = record { 0 = 0x1000 };
})

abbrev unmap_page : Event Global
unmap_page = event.Unmap (file 1) (record { ioas = id 1; iova = record { 0 = 0x1000 }; length = 0x1000 })

abbrev write : Event Global
write = event.DeviceWrite device (record { 0 = 0x1ffe }) (0xbe ∷ 0xef ∷ [])

-- up to the device's binding
abbrev pub bound : List (Record Global)
bound =
    step (event.IoasAlloc (file 1)) (reply.Id (id 1))
    ∷ step (event.IoasAlloc (file 2)) (reply.Id (id 1))
    ∷ step (event.UserMap (record { 0 = 1 }) 0x10000) (reply.Frame (record { 0 = 0 }))
    ∷ step map_page (reply.Iova (record { 0 = 0x1000 }))
    ∷ step (event.Bind (file 1) device) (reply.Id (id 2))
    ∷ []

-- the attachment makes a page table, whose tables lie in these frames
abbrev pub attach : List ℕ → Record Global
attach taken = moving (event.Attach device (id 1)) (reply.Id (id 3)) taken []

-- up to the device's write
abbrev pub beginning : List (Record Global)
beginning = bound ++ attach (1 ∷ 2 ∷ 3 ∷ []) ∷ step write (reply.Passed (record { 0 = 0 })) ∷ []

-- the UNMAP that waits for the flush
abbrev pub unmapping : List (Record Global)
unmapping =
    step unmap_page (reply.Pending EAGAIN)
    ∷ step (event.Flush device) reply.Done
    ∷ step unmap_page (reply.Bytes 0x1000)
    ∷ []

-- the device is detached; its page table goes, and its tables' frames with it
abbrev pub detach : List ℕ → Record Global
detach given = moving (event.Detach device) reply.Done [] given

-- each file may destroy what is its own and unused
abbrev pub ending : List (Record Global)
ending =
    step (event.Destroy (file 2) (id 2)) (refused cause.Id)
    ∷ step (event.Destroy (file 2) (id 1)) reply.Done
    ∷ step (event.Destroy (file 2) (id 1)) (refused cause.Id)
    ∷ step (event.Destroy (file 1) (id 1)) (refused cause.InUse)
    ∷ detach (1 ∷ 2 ∷ 3 ∷ [])
    ∷ step (event.Destroy (file 1) (id 1)) reply.Done
    ∷ []

abbrev pub whole : List (Record Global)
whole = beginning ++ unmapping ++ ending

-- ---- what the device reads in between

abbrev pub read : ℕ → ℕ → Query
read address len = DeviceRead device (record { 0 = address }) len

abbrev pub denied : ℕ → Answer
denied page = answer.Fault (record { source = record { 0 = 0x18 }; page = page; kind = Read; reason = ReadDenied })

-- the first address beyond the width, of an attached device and of one that isn't
abbrev pub beyond_width : Answer
beyond_width =
    answer.Fault (record { source = record { 0 = 0x18 }; page = 0x800_0000; kind = Read; reason = BeyondWidth })

abbrev pub no_context : Answer
no_context = answer.Fault (record { source = record { 0 = 0x18 }; page = 0x800_0000; kind = Read; reason = NoContext })

abbrev pub bytes_read : Answer
bytes_read = answer.Read (0xbe ∷ 0xef ∷ [])

abbrev pub refused_read : Answer
refused_read = answer.Refused (record { cause = cause.Cross })

-- ---- records that no run has in this place

-- the first frame is given out again, while it is a page of the user
abbrev pub frame_again : Record Global
frame_again = step (event.UserMap (record { 0 = 1 }) 0x11000) (reply.Frame (record { 0 = 0 }))

-- a frame that the pool doesn't have
abbrev pub frame_beyond : Record Global
frame_beyond = step (event.UserMap (record { 0 = 1 }) 0x11000) (reply.Frame (record { 0 = 8 }))

-- the UNMAP is called, and the device hasn't flushed
abbrev pub still_owed : List (Record Global)
still_owed = step unmap_page (reply.Pending EAGAIN) ∷ []

-- a write that is denied where the area is live, and one that is denied for another reason
abbrev pub write_denied : FaultReason → Record Global
write_denied reason =
    step write (reply.Fault (record { source = record { 0 = 0x18 }; page = 1; kind = Write; reason = reason }))

-- an id of the other file is found
abbrev pub other_file : Record Global
other_file = step (event.Destroy (file 2) (id 2)) reply.Done

-- the device has flushed
abbrev pub flushed : List (Record Global)
flushed = step (event.Flush device) reply.Done ∷ []

-- a write that passes
abbrev pub write_passed : Record Global
write_passed = step write (reply.Passed (record { 0 = 0 }))

-- the bytes are answered while the device owes its flush
abbrev pub too_early : Record Global
too_early = step unmap_page (reply.Bytes 0x1000)

-- two causes apply, an iova that is no multiple of a page and an unknown id, and the second is answered
abbrev pub wrong_cause : Record Global
wrong_cause =
    step
    (event.Map (file 1) (record {
      flags = record { 0 = 7 };
      ioas = id 9;
      user_va = 0x10000;
      length = 0x1000;
      iova = record { 0 = 0x1001 };
    }))
    (refused cause.Id)

-- ---- frames of tables

-- the UNMAP gives the two lower tables back, which no area needs any more, and the detachment the root
abbrev pub lower_first : List (Record Global)
lower_first =
    step unmap_page (reply.Pending EAGAIN)
    ∷ step (event.Flush device) reply.Done
    ∷ moving unmap_page (reply.Bytes 0x1000) [] (2 ∷ 3 ∷ [])
    ∷ detach (1 ∷ [])
    ∷ []

-- the UNMAP waits, and gives a table back already
abbrev pub given_early : Record Global
given_early = moving unmap_page (reply.Pending EAGAIN) [] (3 ∷ [])

-- the device is detached with its area mapped still: all three tables go; here one is kept
abbrev pub table_kept : Record Global
table_kept = detach (1 ∷ 2 ∷ [])
