-- What a device's turns are, what a walk finds, and what may be kept: in the worlds of the worked steps, by the phase
-- of their one area.
use Rattle.std.specs.Prelude.{ℕ, Some, None, List, [], ◌∷◌}
use Rattle.std.specs.declared.alloc.Global.{Global}
use Rattle.iofd_words.specs.Record.{Record}
use Rattle.iofd_words.specs.World.{World}
use Rattle.iofd_words.specs.declared.query.Answer.{Answer}
use Rattle.iofd_words.specs.declared.query.Answer.TheVariants as answer
use Rattle.iofd_words.specs.declared.query.Query.{Query}
use Rattle.iofd_words.specs.declared.query.Query.TheVariants.{AttachedTo, CachedRead, Turns, WalkFor}
use Rattle.iofd_words.specs.declared.refusal.Cause.TheVariants as cause
use Rattle.iofd_words.specs.declared.refusal.Errno.TheVariants.{EAGAIN}
use Rattle.iofd_words.specs.declared.reply.Reply.TheVariants as reply
use Rattle.iofd_words.specs.declared.rows.Phase.TheVariants.{Leaving, Live}
use Rattle.iofd_examples.specs.Words.{Questions, answers_id, attach, bind, bytes, destroy, detach, device}
use Rattle.iofd_examples.specs.Words.{device_write, flush, frame, hwpt_alloc, id, iova}
use Rattle.iofd_examples.specs.Words.{page_row, passed, pin_row, refused, refused_look, step, table_row, unbind}
use Rattle.iofd_examples.specs.Words.{unmap_in, user_read}
use Rattle.iofd_interleavings.specs.Caches.{Entry}
use Rattle.iofd_interleavings.specs.Steps.{Looked, Step, WriteHit}
use Rattle.iofd_interleavings_examples.specs.Worked.{entry, shared}

-- ---- turns

-- each of these is a turn of device 1, done or refused
abbrev pub turns_of_first : List (Record Global)
turns_of_first =
    step (attach 1 1) (answers_id 4)
    ∷ step (attach 1 1) (refused cause.Bound)
    ∷ step (flush 1) reply.Done
    ∷ step (flush 1) (refused cause.Id)
    ∷ step (detach 1) reply.Done
    ∷ step (detach 1) (refused cause.Unattached)
    ∷ []

-- and none of these: another device's, its own writes, and what is done to its file
abbrev pub turns_of_none : List (Record Global)
turns_of_none =
    step (bind 1 1) (answers_id 2)
    ∷ step (attach 2 1) (answers_id 4)
    ∷ step (flush 2) reply.Done
    ∷ step (detach 2) reply.Done
    ∷ step (device_write 1 0x1ffc (7 ∷ [])) (passed 0)
    ∷ step (unmap_in 1 1 0x1000 0x1000) (reply.Pending EAGAIN)
    ∷ step (unmap_in 1 1 0x1000 0x1000) (reply.Bytes 0x1000)
    ∷ step (hwpt_alloc 1 2 1) (answers_id 5)
    ∷ step (destroy 1 1) (refused cause.InUse)
    ∷ step (unbind 1 2) (refused cause.InUse)
    ∷ []

abbrev pub turns : ℕ → Query
turns d = Turns (device d)

-- ---- walks, and reads at a frame that was kept

abbrev walk : ℕ → ℕ → Query
walk d at = WalkFor (device d) (iova at)

abbrev cached_read : ℕ → ℕ → ℕ → Query
cached_read d at n = CachedRead (device d) (iova at) 2 (frame n)

abbrev found : List Answer
found = answer.Walk (Some (record { frame = frame 0; rights = record { 0 = 3 } })) ∷ []

abbrev nothing : List Answer
nothing = answer.Walk None ∷ []

-- at the page's first and last address, and beside it; a read at the page's frame, and at another one
abbrev pub questions_in_live : Questions
questions_in_live =
    (walk 1 0x1000, found)
    ∷ (walk 1 0x1fff, found)
    ∷ (walk 2 0x1fff, found)
    ∷ (walk 1 0xfff, nothing)
    ∷ (walk 1 0x2000, nothing)
    ∷ (walk 3 0x1000, refused_look cause.Id)
    ∷ (cached_read 1 0x1ffe 0, bytes (0 ∷ 0 ∷ []))
    ∷ (cached_read 1 0x1ffe 1, [])
    ∷ (cached_read 1 0x1fff 0, refused_look cause.Cross)
    ∷ (AttachedTo (device 1), answer.Attached (Some (id 4)) ∷ [])
    ∷ (AttachedTo (device 3), refused_look cause.Id)
    ∷ []

-- device 2 alone owes the area a flush
abbrev pub one_owes : World
one_owes = shared (Leaving (2 ∷ []) 1)

abbrev pub questions_in_one_owes : Questions
questions_in_one_owes =
    (walk 1 0x1000, nothing)
    ∷ (walk 2 0x1000, nothing)
    ∷ (cached_read 1 0x1ffe 0, [])
    ∷ (cached_read 2 0x1ffe 0, bytes (0 ∷ 0 ∷ []))
    ∷ []

-- device 1 isn't attached
abbrev pub unattached : World
unattached = record (shared Live) { attachments = [] }

abbrev pub questions_in_unattached : Questions
questions_in_unattached = (walk 1 0x1000, nothing) ∷ (AttachedTo (device 1), answer.Attached None ∷ []) ∷ []

-- ---- entries

-- one that gives less than the area
abbrev pub for_reads : Entry
for_reads = record entry { rights = record { 0 = 1 } }

-- of another page
abbrev pub next_page : Entry
next_page = record entry { page = 2 }

-- both devices owe it
abbrev pub both_owe : World
both_owe = shared (Leaving (1 ∷ 2 ∷ []) 1)

-- ---- steps

-- a caller of another pass writes by an entry, and makes this record
abbrev pub writes_of_another : Step Global
writes_of_another = WriteHit (record { 0 = 3 }) (device 1) (iova 0x1ffc) (7 ∷ []) entry

abbrev pub record_of_another : Record Global
record_of_another = record (step (device_write 1 0x1ffc (7 ∷ [])) (passed 0)) { pass = record { 0 = 3 } }

-- a device reads at a frame that was kept, and a user its own memory
abbrev pub cached_look : Step Global
cached_look = Looked (cached_read 1 0x1ffe 0) (answer.Read (0 ∷ 0 ∷ []))

abbrev pub look_of_user : Step Global
look_of_user = Looked (user_read 1 0x10000 1) (answer.Read (0 ∷ []))

-- ---- frames that two have

-- a page alone, which nobody has pinned, and a pin alone, of a page that was given up
abbrev pub page_alone : World
page_alone = record (shared Live) { pins = [] }

abbrev pub pin_alone : World
pin_alone = record (shared Live) { user_pages = [] }

-- pages of two users
abbrev pub two_pages : World
two_pages = record (shared Live) { user_pages = page_row 1 0x10 0 ∷ page_row 2 0x10 0 ∷ []; pins = [] }

-- the page of one user, and the pin of another's
abbrev pub page_and_pin : World
page_and_pin = record (shared Live) { user_pages = page_row 2 0x10 0 ∷ [] }

-- a pin and a table, and two tables
abbrev pub pin_and_table : World
pin_and_table = record (shared Live) { user_pages = []; pins = pin_row 2 0 1 ∷ [] }

abbrev pub two_tables : World
two_tables = record (shared Live) { table_frames = table_row 1 4 3 0 1 ∷ table_row 1 4 2 0 1 ∷ [] }
