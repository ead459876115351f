-- What devices and users read in the worlds of the second script, what may come of devices' writes, and what is
-- counted.
use Rattle.std.specs.Prelude.{List, [], ◌∷◌}
use Rattle.iofd_examples.specs.Words.{Questions, RangeQuestions, Writes, bytes, count, device_read, fault, from_to}
use Rattle.iofd_examples.specs.Words.{held, passed, refused_look, user_read}
use Rattle.iofd_words.specs.Bounds.{Bounds}
use Rattle.iofd_words.specs.declared.fault.AccessKind.TheVariants.{Read, Write}
use Rattle.iofd_words.specs.declared.fault.FaultReason.TheVariants.{BeyondWidth, ReadDenied, WriteDenied}
use Rattle.iofd_words.specs.declared.query.Answer.TheVariants as answer
use Rattle.iofd_words.specs.declared.query.Query.TheVariants.{FreeFrames}
use Rattle.iofd_words.specs.declared.refusal.Cause.TheVariants as cause
use Rattle.iofd_words.specs.declared.reply.Reply.TheVariants as reply

-- no device is bound yet
abbrev pub in_mapped : Questions
in_mapped =
    (device_read 1 0x1000 1, refused_look cause.Id)
    ∷ (user_read 1 0x10000 2, bytes (0xaa ∷ 0xdd ∷ []))
    ∷ (FreeFrames, count 13)
    ∷ (held 1, count 0)
    ∷ []

abbrev pub in_attached : Questions
in_attached =
    -- of two writes the newer one, and zero where nothing was written
    (device_read 1 0x1000 3, bytes (0xaa ∷ 0xdd ∷ 0 ∷ []))
    -- the second page, and the other user's page at the same address
    ∷ (device_read 1 0x2000 1, bytes (0x11 ∷ []))
    ∷ (device_read 2 0x1000 1, bytes (0xcc ∷ []))
    -- beside the areas
    ∷ (device_read 1 0xfff 1, answer.Fault (fault 0x10 0 Read ReadDenied) ∷ [])
    ∷ (device_read 1 0x3000 1, answer.Fault (fault 0x10 3 Read ReadDenied) ∷ [])
    ∷ (device_read 2 0x2000 1, answer.Fault (fault 0x100 2 Read ReadDenied) ∷ [])
    -- at the widths
    ∷ (device_read 1 0x7f_ffff_ffff 1, answer.Fault (fault 0x10 0x7ff_ffff Read ReadDenied) ∷ [])
    ∷ (device_read 1 0x80_0000_0000 1, answer.Fault (fault 0x10 0x800_0000 Read BeyondWidth) ∷ [])
    ∷ (device_read 2 0x80_0000_0000 1, answer.Fault (fault 0x100 0x800_0000 Read ReadDenied) ∷ [])
    ∷ (device_read 2 0xffff_ffff_ffff 1, answer.Fault (fault 0x100 0xf_ffff_ffff Read ReadDenied) ∷ [])
    ∷ (device_read 2 0x1_0000_0000_0000 1, answer.Fault (fault 0x100 0x10_0000_0000 Read BeyondWidth) ∷ [])
    -- what is refused
    ∷ (device_read 3 0x1000 1, refused_look cause.Id)
    ∷ (device_read 1 0x1fff 2, refused_look cause.Cross)
    ∷ (device_read 1 0x1000 0, refused_look cause.Cross)
    ∷ (device_read 1 0x1000 65, refused_look cause.Cross)
    ∷ (device_read 1 0xfedf_ffff 1, answer.Fault (fault 0x10 0xf_edff Read ReadDenied) ∷ [])
    ∷ (device_read 1 0xfee0_0000 1, refused_look cause.InterruptRange)
    ∷ (device_read 1 0xfeef_ffff 1, refused_look cause.InterruptRange)
    ∷ (device_read 1 0xfef0_0000 1, answer.Fault (fault 0x10 0xf_ef00 Read ReadDenied) ∷ [])
    ∷ (device_read 2 0xfee0_0000 1, answer.Fault (fault 0x100 0xf_ee00 Read ReadDenied) ∷ [])
    ∷ (device_read 3 0xfff 2, refused_look cause.Id)
    ∷ (device_read 1 0xfeef_ffff 2, refused_look cause.Cross)
    -- users' own memory
    ∷ (user_read 2 0x10000 1, bytes (0xcc ∷ []))
    ∷ (user_read 2 0x20000 1, bytes (0 ∷ []))
    ∷ (user_read 1 0x20000 1, refused_look cause.Absent)
    ∷ (user_read 3 0x10000 1, refused_look cause.Id)
    ∷ (user_read 1 0x10fff 2, refused_look cause.Cross)
    ∷ (user_read 1 0x20fff 2, refused_look cause.Cross)
    ∷ (FreeFrames, count 6)
    ∷ (held 1, count 2)
    ∷ (held 2, count 1)
    ∷ (held 3, refused_look cause.Id)
    ∷ []

-- the area of device 2 is only read
abbrev pub writes_in_attached : Writes
writes_in_attached =
    (1, 0x1fff, passed 0 ∷ [])
    ∷ (1, 0x2000, passed 1 ∷ [])
    ∷ (1, 0x3000, reply.Fault (fault 0x10 3 Write WriteDenied) ∷ [])
    ∷ (1, 0x80_0000_0000, reply.Fault (fault 0x10 0x800_0000 Write BeyondWidth) ∷ [])
    ∷ (2, 0x1000, reply.Fault (fault 0x100 1 Write WriteDenied) ∷ [])
    ∷ []

-- the device has the page that was pinned, the user its new one
abbrev pub in_renewed : Questions
in_renewed =
    (device_read 1 0x1000 2, bytes (0xaa ∷ 0xdd ∷ []))
    ∷ (device_read 1 0x1fff 1, bytes (0xee ∷ []))
    ∷ (user_read 1 0x10000 1, bytes (0x99 ∷ []))
    ∷ (user_read 1 0x10fff 1, bytes (0 ∷ []))
    ∷ (FreeFrames, count 5)
    ∷ (held 1, count 2)
    ∷ []

abbrev pub in_rewritten : Questions
in_rewritten = (user_read 1 0x10000 3, bytes (0x66 ∷ 0x55 ∷ 0 ∷ [])) ∷ []

-- the copy isn't charged again, nor what nothing translates
abbrev pub in_shared : Questions
in_shared = (FreeFrames, count 2) ∷ (held 1, count 2) ∷ []

-- file 4 isn't there; ids of a page table, a device and nothing
abbrev pub ranges_in_shared : RangeQuestions
ranges_in_shared =
    (1, 1, [])
    ∷ (1, 5, [])
    ∷ (1, 2, cause.Id ∷ [])
    ∷ (1, 3, cause.Id ∷ [])
    ∷ (1, 9, cause.Id ∷ [])
    ∷ (2, 5, cause.Id ∷ [])
    ∷ (4, 1, cause.Id ∷ cause.Id ∷ [])
    ∷ []

-- the addresses that the first address space of file 1 can use: below 2^39, without those of interrupts; of file 2,
-- below 2^48, without the span that its device keeps; and all where no device is attached
abbrev pub usable_by_file_1 : List Bounds
usable_by_file_1 = from_to 0 0xfedf_ffff ∷ from_to 0xfef0_0000 0x7f_ffff_ffff ∷ []

abbrev pub usable_by_file_2 : List Bounds
usable_by_file_2 = from_to 0 0x7fff ∷ from_to 0x9000 0xffff_ffff_ffff ∷ []

abbrev pub all_usable : List Bounds
all_usable = from_to 0 0xffff_ffff_ffff_ffff ∷ []

-- both the pass and the denial are lawful for the device that owes
abbrev pub in_owing : Questions
in_owing =
    (device_read 1 0x1000 1, answer.Read (0x77 ∷ []) ∷ answer.Fault (fault 0x10 1 Read ReadDenied) ∷ [])
    ∷ (device_read 1 0x2000 1, answer.Read (0x11 ∷ []) ∷ answer.Fault (fault 0x10 2 Read ReadDenied) ∷ [])
    ∷ (device_read 2 0x1000 1, bytes (0xcc ∷ []))
    ∷ []

abbrev pub writes_in_owing : Writes
writes_in_owing =
    (1, 0x1000, passed 0 ∷ reply.Fault (fault 0x10 1 Write WriteDenied) ∷ [])
    ∷ (1, 0x2000, passed 1 ∷ reply.Fault (fault 0x10 2 Write WriteDenied) ∷ [])
    ∷ []

-- after its flush only the denial is
abbrev pub in_paid : Questions
in_paid = (device_read 1 0x1000 1, answer.Fault (fault 0x10 1 Read ReadDenied) ∷ []) ∷ (held 1, count 2) ∷ []

abbrev pub writes_in_paid : Writes
writes_in_paid = (1, 0x1000, reply.Fault (fault 0x10 1 Write WriteDenied) ∷ []) ∷ []

-- the frame that is given out again reads zero
abbrev pub in_ended : Questions
in_ended =
    (device_read 1 0x1000 1, answer.Fault (fault 0x10 1 Read ReadDenied) ∷ [])
    ∷ (user_read 2 0x30000 2, bytes (0 ∷ 0 ∷ []))
    ∷ (user_read 2 0x30fff 1, bytes (0 ∷ []))
    ∷ (user_read 1 0x10000 1, bytes (0x99 ∷ []))
    ∷ (FreeFrames, count 5)
    ∷ (held 1, count 0)
    ∷ (held 2, count 1)
    ∷ []

-- the copy's pages, which the user has now
abbrev pub in_copied : Questions
in_copied =
    (device_read 1 0x4000 1, bytes (0x99 ∷ []))
    ∷ (device_read 1 0x5000 1, bytes (0x11 ∷ []))
    ∷ (held 1, count 2)
    ∷ []

abbrev pub in_unbound : Questions
in_unbound = (device_read 1 0x1000 1, refused_look cause.Id) ∷ (held 1, count 1) ∷ []

abbrev pub in_parted : Questions
in_parted =
    (user_read 2 0x40000 1, bytes (0 ∷ [])) ∷ (FreeFrames, count 11) ∷ (held 1, count 0)
    ∷ (held 2, count 0) ∷ []
