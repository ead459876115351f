-- Steps worked by hand: two devices translate by one page table, and share the page of a user at 0x1000. The first
-- keeps its translation, and uses it until it flushes; then the frame goes to another user.
use Rattle.std.specs.Prelude.{ℕ, true, false, List, [], ◌∷◌, ◌++◌, map}
use Rattle.std.specs.declared.alloc.Global.{Global}
use Rattle.iofd_words.specs.Record.{Record}
use Rattle.iofd_words.specs.Settings.{DeviceSettings, Settings}
use Rattle.iofd_words.specs.World.{World}
use Rattle.iofd_words.specs.declared.query.Answer.TheVariants as answer
use Rattle.iofd_words.specs.declared.refusal.Errno.TheVariants.{EAGAIN}
use Rattle.iofd_words.specs.declared.reply.Reply.TheVariants as reply
use Rattle.iofd_words.specs.declared.rows.Phase.{Phase}
use Rattle.iofd_words.specs.declared.width.Width.TheVariants.{Bits39}
use Rattle.iofd_examples.specs.Words.{answers_frame, answers_id, answers_iova, area_row, attach, attachment_row, bind}
use Rattle.iofd_examples.specs.Words.{device, device_read, device_row, device_write, flush, frame, hwpt_row, ioas_alloc}
use Rattle.iofd_examples.specs.Words.{ioas_row, iova, map_in, memory_row, moving, page_row, passed, pin_row, step}
use Rattle.iofd_examples.specs.Words.{table_row, unmap_in, user_map, user_unmap}
use Rattle.iofd_interleavings.specs.Caches.{Entry}
use Rattle.iofd_interleavings.specs.Steps.{Dropped, Filled, Looked, Made, ReadHit, Step, WriteHit}

-- ---- where both devices are attached

abbrev device_of : ℕ → DeviceSettings
device_of source = record { source = record { 0 = source }; width = Bits39; x86 = false; reserved = [] }

abbrev pub settings : Settings
settings =
    record {
      pool = 5;
      users = 4 ∷ 4 ∷ [];
      files = record { 0 = 1 } ∷ [];
      devices = device_of 0x08 ∷ device_of 0x10 ∷ [];
      passes = 1;
    }

abbrev pub beginning : List (Record Global)
beginning =
    step (user_map 1 0x10000) (answers_frame 0)
    ∷ step (ioas_alloc 1) (answers_id 1)
    ∷ step (map_in 1 7 1 0x10000 0x1000 0x1000) (answers_iova 0x1000)
    ∷ step (bind 1 1) (answers_id 2)
    ∷ step (bind 1 2) (answers_id 3)
    ∷ moving (attach 1 1) (answers_id 4) (1 ∷ 2 ∷ 3 ∷ []) []
    ∷ step (attach 2 1) (answers_id 4)
    ∷ []

-- by the phase of the area
abbrev pub shared : Phase → World
shared phase =
    record {
      settings = settings;
      closed = [];
      objects = ioas_row 1 1 ∷ device_row 1 2 1 ∷ device_row 1 3 2 ∷ hwpt_row 1 4 1 Bits39 true ∷ [];
      memory = memory_row 2 1 0x10000 1 true ∷ [];
      areas = area_row 1 1 0x1000 0x1fff 2 3 phase ∷ [];
      allowed = [];
      user_pages = page_row 1 0x10 0 ∷ [];
      pins = pin_row 2 0 0 ∷ [];
      attachments = attachment_row 1 1 4 ∷ attachment_row 2 1 4 ∷ [];
      access_pins = [];
      table_frames = table_row 1 4 3 0 1 ∷ table_row 1 4 2 0 2 ∷ table_row 1 4 1 0 3 ∷ [];
      tracked = [];
      writes = [];
    }

-- the translation of the page at 0x1000, to read and to write
abbrev pub entry : Entry
entry = record { page = 1; frame = frame 0; rights = record { 0 = 3 } }

-- ---- steps

-- a device keeps the translation
abbrev pub fills : ℕ → Step Global
fills d = Filled (device d) entry

-- the UNMAP of the page waits, or takes it away
abbrev pub waits : Step Global
waits = Made (step (unmap_in 1 1 0x1000 0x1000) (reply.Pending EAGAIN))

abbrev pub takes : Step Global
takes = Made (step (unmap_in 1 1 0x1000 0x1000) (reply.Bytes 0x1000))

abbrev pub flushes : ℕ → Step Global
flushes d = Made (step (flush d) reply.Done)

-- the first user gives the page up, and the second gets its frame
abbrev pub gives_up : Step Global
gives_up = Made (step (user_unmap 1 0x10000) reply.Done)

abbrev pub gets : Step Global
gets = Made (step (user_map 2 0x10000) (answers_frame 0))

-- ---- a list of them

-- device 1 asks for the last four bytes of the page
abbrev pub looks : Step Global
looks = Looked (device_read 1 0x1ffc 4) (answer.Read (0 ∷ 0 ∷ 0 ∷ 0 ∷ []))

-- it writes them out of its cache
abbrev pub writes : Step Global
writes = WriteHit (record { 0 = 0 }) (device 1) (iova 0x1ffc) (7 ∷ 8 ∷ 9 ∷ 10 ∷ []) entry

-- and reads two of them so
abbrev pub reads : Step Global
reads = ReadHit (device 1) (iova 0x1ffe) 2 entry

abbrev pub until_read : List (Step Global)
until_read = map Made beginning ++ looks ∷ fills 1 ∷ writes ∷ []

-- device 2 keeps the page twice; a drop of another page takes nothing away
abbrev pub until_flush : List (Step Global)
until_flush =
    until_read
    ++ reads
    ∷ Looked (device_read 2 0x1ffc 4) (answer.Read (7 ∷ 8 ∷ 9 ∷ 10 ∷ []))
    ∷ fills 2
    ∷ fills 2
    ∷ waits
    ∷ Dropped (device 1) 2
    ∷ reads
    ∷ Dropped (device 1) 1
    ∷ []

abbrev pub worked : List (Step Global)
worked = until_flush ++ flushes 1 ∷ Dropped (device 2) 1 ∷ flushes 2 ∷ takes ∷ gives_up ∷ gets ∷ []

-- the records that it makes, that of the write hit among them
abbrev pub records : List (Record Global)
records =
    beginning
    ++ step (device_write 1 0x1ffc (7 ∷ 8 ∷ 9 ∷ 10 ∷ [])) (passed 0)
    ∷ step (unmap_in 1 1 0x1000 0x1000) (reply.Pending EAGAIN)
    ∷ step (flush 1) reply.Done
    ∷ step (flush 2) reply.Done
    ∷ step (unmap_in 1 1 0x1000 0x1000) (reply.Bytes 0x1000)
    ∷ step (user_unmap 1 0x10000) reply.Done
    ∷ step (user_map 2 0x10000) (answers_frame 0)
    ∷ []
