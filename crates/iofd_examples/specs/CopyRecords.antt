-- For which causes a COPY is refused, in the world of the second script in which memory is shared. Address space 1 of
-- file 1 has two page tables and one area, 1000 to 2fff, over two pages that may be written and are pinned; its address
-- space 5 has none, a copy of these from 3000 on that is only read, and areas over memory that isn't writable: a page
-- at 7000, at b000 one that the user doesn't have, two pages at d000, and at 10000 two of which the user doesn't have
-- the second.
use Rattle.std.specs.Prelude.{[], ◌∷◌}
use Rattle.iofd_examples.specs.SecondScript.{shared}
use Rattle.iofd_examples.specs.Words.{Refusals, area_row, copy_in}
use Rattle.iofd_words.specs.World.{World}
use Rattle.iofd_words.specs.declared.refusal.Cause.TheVariants as cause
use Rattle.iofd_words.specs.declared.rows.Phase.TheVariants.{Live}

abbrev pub refusals : Refusals
refusals =
    (copy_in 1 7 5 1 0x2000 0x20000 0x1000, [])
    -- file 4 isn't there
    ∷ (
      copy_in 4 7 5 1 0x2000 0x20000 0x1000,
      cause.Id ∷ cause.Id ∷ cause.Id ∷ cause.Span
          ∷ cause.Rights ∷ [],
    )
    ∷ (
      copy_in 4 1 5 1 0x2000 0x20000 0x1000,
      cause.Id ∷ cause.NoRight ∷ cause.Id ∷ cause.Id
          ∷ cause.Span ∷ [],
    )
    -- fixed alone; to read, to write
    ∷ (copy_in 1 1 5 1 0x2000 0x20000 0x1000, cause.NoRight ∷ [])
    ∷ (copy_in 1 5 5 1 0x2000 0x20000 0x1000, [])
    ∷ (copy_in 1 3 5 1 0x2000 0x20000 0x1000, [])
    ∷ (copy_in 1 1 5 1 0x2000 0xffff_ffff_ffff_f000 0x1000, cause.NoRight ∷ cause.Sum ∷ [])
    -- of the address in the target, where it is fixed; 2^64 itself is good
    ∷ (copy_in 1 7 5 1 0x2000 0xffff_ffff_ffff_f000 0x1000, cause.Sum ∷ [])
    ∷ (copy_in 1 5 5 5 0x1000 0xffff_ffff_ffff_f000 0x7000, [])
    ∷ (copy_in 1 6 5 1 0x2000 0xffff_ffff_ffff_f000 0x1000, [])
    -- of that in the source
    ∷ (copy_in 1 5 5 1 0x2000 0x20000 0xffff_ffff_ffff_f000, cause.Sum ∷ cause.Span ∷ [])
    ∷ (copy_in 1 5 5 1 0x1000 0x20000 0xffff_ffff_ffff_f000, cause.Span ∷ [])
    ∷ (copy_in 1 5 5 1 0x1001 0xffff_ffff_ffff_f000 0x1000, cause.Sum ∷ cause.Align ∷ cause.Span ∷ [])
    -- the length, the address in the source, and then that in the target, where it is fixed
    ∷ (copy_in 1 5 5 1 0 0x20000 0x1000, cause.Align ∷ cause.Span ∷ [])
    ∷ (copy_in 1 5 5 1 0x2001 0x20000 0x1000, cause.Align ∷ cause.Span ∷ [])
    ∷ (copy_in 1 5 5 1 0x2000 0x20000 0x1001, cause.Align ∷ cause.Span ∷ [])
    ∷ (copy_in 1 5 5 1 0x2000 0x20001 0x1001, cause.Align ∷ cause.Align ∷ cause.Span ∷ [])
    ∷ (copy_in 1 5 5 1 0x2000 0x20001 0x1000, cause.Align ∷ [])
    ∷ (copy_in 1 4 5 1 0x2000 0x20001 0x1000, [])
    ∷ (copy_in 1 5 9 1 0x2000 0x20001 0x1000, cause.Align ∷ cause.Id ∷ [])
    -- the target: an unknown id, a device's, a page table's; and the source
    ∷ (copy_in 1 5 9 1 0x2000 0x20000 0x1000, cause.Id ∷ [])
    ∷ (copy_in 1 5 2 1 0x2000 0x20000 0x1000, cause.Id ∷ [])
    ∷ (copy_in 1 5 3 1 0x2000 0x20000 0x1000, cause.Id ∷ [])
    ∷ (copy_in 1 5 5 9 0x2000 0x20000 0x1000, cause.Id ∷ cause.Span ∷ [])
    ∷ (copy_in 1 5 5 2 0x2000 0x20000 0x1000, cause.Id ∷ cause.Span ∷ [])
    ∷ (copy_in 1 5 9 9 0x2000 0x20000 0x1000, cause.Id ∷ cause.Id ∷ cause.Span ∷ [])
    -- a part of an area, more than it, its second page, an area of the other file
    ∷ (copy_in 1 5 5 1 0x1000 0x20000 0x1000, cause.Span ∷ [])
    ∷ (copy_in 1 5 5 1 0x3000 0x20000 0x1000, cause.Span ∷ [])
    ∷ (copy_in 1 5 5 1 0x1000 0x20000 0x2000, cause.Span ∷ [])
    ∷ (copy_in 2 5 1 1 0x2000 0x4000 0x1000, cause.Span ∷ [])
    ∷ (copy_in 1 7 5 1 0x1000 0x20000 0x1000, cause.Span ∷ cause.Rights ∷ [])
    -- to write: whether the memory is writable, not whether the source's area is
    ∷ (copy_in 1 7 5 5 0x1000 0x20000 0x7000, cause.Rights ∷ [])
    ∷ (copy_in 1 5 5 5 0x1000 0x20000 0x7000, [])
    ∷ (copy_in 1 7 5 5 0x2000 0x20000 0x3000, [])
    ∷ (copy_in 1 7 1 5 0x1000 0xfee0_0000 0x7000, cause.Rights ∷ cause.Reserved ∷ cause.Frames ∷ [])
    -- device 2 keeps 8000 to 8fff
    ∷ (copy_in 2 5 1 1 0x1000 0x7000 0x1000, [])
    ∷ (copy_in 2 5 1 1 0x1000 0x8000 0x1000, cause.Reserved ∷ [])
    ∷ (copy_in 2 5 1 1 0x1000 0x9000 0x1000, [])
    ∷ (copy_in 1 5 1 1 0x2000 0xfedf_f000 0x1000, cause.Reserved ∷ cause.Frames ∷ [])
    -- areas
    ∷ (copy_in 1 5 5 1 0x2000 0x5000 0x1000, [])
    ∷ (copy_in 1 5 5 1 0x2000 0x6000 0x1000, cause.Overlap ∷ [])
    ∷ (copy_in 1 5 1 1 0x2000 0x2000 0x1000, cause.Overlap ∷ [])
    -- a chosen address: address space 5 has room for two pages, and 1 for none
    ∷ (copy_in 1 4 5 1 0x2000 0 0x1000, [])
    ∷ (copy_in 1 4 1 1 0x2000 0 0x1000, cause.Full ∷ [])
    ∷ (copy_in 1 4 1 5 0x1000 0 0xb000, cause.Full ∷ cause.Absent ∷ [])
    -- pages that weren't pinned are needed where the target is translated, and charged
    ∷ (copy_in 1 5 1 5 0x1000 0x4000 0xb000, cause.Absent ∷ [])
    ∷ (copy_in 1 5 5 5 0x1000 0x20000 0xb000, [])
    ∷ (copy_in 1 5 1 5 0x2000 0x4000 0x10000, cause.Absent ∷ cause.Account ∷ [])
    ∷ (copy_in 1 5 1 5 0x2000 0x4000 0xd000, cause.Account ∷ [])
    ∷ (copy_in 1 5 1 5 0x1000 0x4000 0x7000, [])
    ∷ (copy_in 1 5 1 1 0x2000 0x4000 0x1000, [])
    ∷ (copy_in 1 5 1 5 0x2000 0x4000_0000 0xd000, cause.Account ∷ cause.Frames ∷ [])
    -- a table for each of two page tables, and two
    ∷ (copy_in 1 5 1 1 0x2000 0x20_0000 0x1000, [])
    ∷ (copy_in 1 5 1 1 0x2000 0x4000_0000 0x1000, cause.Frames ∷ [])
    ∷ []

-- where the source leaves, it can't be copied any more; its copy can
abbrev pub refusals_of_leaving : Refusals
refusals_of_leaving =
    (copy_in 1 5 5 1 0x2000 0x20000 0x1000, cause.Span ∷ [])
    ∷ (copy_in 1 5 5 5 0x2000 0x20000 0x3000, [])
    ∷ []

-- the same with other areas in file 2, so that a copy of two pages meets both an area and what its device keeps
abbrev pub beside : World
beside = record shared { areas = area_row 2 1 0x1000 0x2fff 11 1 Live ∷ area_row 2 1 0x7000 0x7fff 11 1 Live ∷ [] }

abbrev pub refusals_beside : Refusals
refusals_beside = (copy_in 2 5 1 1 0x2000 0x7000 0x1000, cause.Reserved ∷ cause.Overlap ∷ []) ∷ []
