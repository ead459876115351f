-- For which causes an attachment and a HWPT_ALLOC are refused, in the world that stands ready. Devices 1 and 3 of file
-- 1 have width 39, its device 2 width 48, and 3 keeps 5000 to 5fff; three frames are free, as many as a page table of
-- width 39 with one page takes. In file 2 the page table 4 is of width 39, over one area at 9000, which devices 6, of
-- width 48, and 8, of width 39, keep.
use Rattle.std.specs.Prelude.{[], ◌∷◌}
use Rattle.iofd_examples.specs.Words.{Refusals, attach, detach, flush, hwpt_alloc}
use Rattle.iofd_words.specs.declared.refusal.Cause.TheVariants as cause

abbrev pub attachments : Refusals
attachments =
    (attach 1 1, [])
    -- a device that isn't bound, and one that isn't there
    ∷ (attach 4 1, cause.Id ∷ [])
    ∷ (attach 11 1, cause.Id ∷ [])
    -- a device that is attached
    ∷ (attach 5 4, cause.Bound ∷ [])
    ∷ (attach 5 1, cause.Bound ∷ [])
    ∷ (attach 5 99, cause.Bound ∷ cause.Id ∷ [])
    -- to an unknown id, a device's, one of the other file
    ∷ (attach 1 99, cause.Id ∷ [])
    ∷ (attach 1 2, cause.Id ∷ [])
    ∷ (attach 9 11, cause.Id ∷ [])
    -- to a page table: of the same width, of another one, over an area in what the device keeps
    ∷ (attach 9 4, [])
    ∷ (attach 7 4, cause.Width ∷ [])
    ∷ (attach 6 4, cause.Width ∷ cause.Narrow ∷ [])
    ∷ (attach 8 4, cause.Narrow ∷ [])
    -- an area in what the device keeps, an allowed range that meets it, and the same for a device that keeps nothing
    ∷ (attach 3 1, [])
    ∷ (attach 3 6, cause.Narrow ∷ [])
    ∷ (attach 1 6, [])
    ∷ (attach 3 9, cause.Narrow ∷ [])
    ∷ (attach 1 9, [])
    -- an x86 device keeps both the addresses of interrupts and its own span
    ∷ (attach 1 14, cause.Narrow ∷ [])
    -- an area, and an allowed range, beyond the width
    ∷ (attach 1 5, cause.Narrow ∷ [])
    ∷ (attach 2 5, cause.Frames ∷ [])
    ∷ (attach 1 10, cause.Narrow ∷ [])
    ∷ (attach 2 10, [])
    ∷ (attach 1 13, cause.Narrow ∷ cause.Absent ∷ [])
    -- pages that the user doesn't have, and more than it may have pinned
    ∷ (attach 1 7, cause.Absent ∷ [])
    ∷ (attach 1 11, [])
    ∷ (attach 1 8, cause.Account ∷ [])
    ∷ (attach 1 12, cause.Absent ∷ cause.Account ∷ [])
    -- a page table of four levels
    ∷ (attach 2 8, cause.Account ∷ cause.Frames ∷ [])
    ∷ (attach 2 1, cause.Frames ∷ [])
    ∷ (attach 7 8, [])
    ∷ (attach 9 1, [])
    ∷ (attach 9 8, [])
    ∷ []

-- no frame is free: only an attachment that makes no page table is good
abbrev pub attachments_without_free : Refusals
attachments_without_free =
    (attach 1 9, cause.Frames ∷ [])
    ∷ (attach 9 1, cause.Frames ∷ [])
    ∷ (attach 9 8, [])
    ∷ (attach 9 4, [])
    -- the other file has an automatic page table over an address space of that number
    ∷ (attach 1 8, cause.Account ∷ cause.Frames ∷ [])
    ∷ (hwpt_alloc 1 2 9, cause.Frames ∷ [])
    ∷ []

-- pages that are pinned already ask for no more: those of address space 11, and not that of 1
abbrev pub attachments_with_pinned : Refusals
attachments_with_pinned = (attach 1 11, []) ∷ (attach 1 1, cause.Account ∷ []) ∷ []

-- an empty address space's page table has a root
abbrev pub attachments_with_one_free : Refusals
attachments_with_one_free = (attach 1 9, []) ∷ (hwpt_alloc 1 2 9, []) ∷ (attach 1 1, cause.Frames ∷ []) ∷ []

abbrev pub allocations : Refusals
allocations =
    (hwpt_alloc 1 2 1, [])
    -- file 4 isn't there
    ∷ (hwpt_alloc 4 2 1, cause.Id ∷ cause.Id ∷ cause.Id ∷ [])
    -- for an unknown id, an address space's; over an unknown id, a device's
    ∷ (hwpt_alloc 1 99 1, cause.Id ∷ [])
    ∷ (hwpt_alloc 1 1 1, cause.Id ∷ [])
    ∷ (hwpt_alloc 1 2 99, cause.Id ∷ [])
    ∷ (hwpt_alloc 1 2 2, cause.Id ∷ [])
    ∷ (hwpt_alloc 1 99 99, cause.Id ∷ cause.Id ∷ [])
    -- an area, and an allowed range, beyond the width; what a device keeps isn't kept before it is attached
    ∷ (hwpt_alloc 1 2 5, cause.Narrow ∷ [])
    ∷ (hwpt_alloc 1 2 10, cause.Narrow ∷ [])
    ∷ (hwpt_alloc 1 3 10, [])
    ∷ (hwpt_alloc 1 4 6, [])
    ∷ (hwpt_alloc 1 4 9, [])
    ∷ (hwpt_alloc 1 2 13, cause.Narrow ∷ cause.Absent ∷ [])
    -- pages that the user doesn't have, and more than it may have pinned
    ∷ (hwpt_alloc 1 2 7, cause.Absent ∷ [])
    ∷ (hwpt_alloc 1 2 11, [])
    ∷ (hwpt_alloc 1 2 8, cause.Account ∷ [])
    ∷ (hwpt_alloc 1 2 12, cause.Absent ∷ cause.Account ∷ [])
    -- four tables, and three beside others
    ∷ (hwpt_alloc 1 3 8, cause.Account ∷ cause.Frames ∷ [])
    ∷ (hwpt_alloc 1 3 1, cause.Frames ∷ [])
    ∷ (hwpt_alloc 2 2 1, [])
    ∷ []

abbrev pub detachments : Refusals
detachments =
    (detach 5, [])
    ∷ (detach 10, [])
    ∷ (detach 1, cause.Unattached ∷ [])
    ∷ (detach 4, cause.Id ∷ cause.Unattached ∷ [])
    ∷ (detach 11, cause.Id ∷ cause.Unattached ∷ [])
    ∷ []

-- a device need not be attached
abbrev pub flushes : Refusals
flushes = (flush 5, []) ∷ (flush 1, []) ∷ (flush 4, cause.Id ∷ []) ∷ (flush 11, cause.Id ∷ []) ∷ []
