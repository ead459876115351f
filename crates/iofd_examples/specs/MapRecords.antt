-- For which causes a MAP is refused, in the world of the second script in which memory is shared. Address space 1 of
-- file 1 has two page tables of width 39, and no room for a chosen address; its address space 5 has none, and room for
-- two pages. User 1 has two pinned pages of three, and two frames are free.
use Rattle.std.specs.Prelude.{[], ◌∷◌}
use Rattle.iofd_examples.specs.SecondScript.{shared}
use Rattle.iofd_examples.specs.Words.{Refusals, file, from_to, id, map_in}
use Rattle.iofd_words.specs.World.{World}
use Rattle.iofd_words.specs.declared.refusal.Cause.TheVariants as cause

abbrev pub refusals : Refusals
refusals =
    (map_in 1 7 1 0x10000 0x1000 0x4000, [])
    -- file 4 isn't there
    ∷ (map_in 4 7 1 0x10000 0x1000 0x4000, cause.Id ∷ cause.Id ∷ [])
    ∷ (map_in 4 1 1 0x10000 0x1000 0x4000, cause.Id ∷ cause.NoRight ∷ cause.Id ∷ [])
    -- fixed alone; to read, to write
    ∷ (map_in 1 1 1 0x10000 0x1000 0x4000, cause.NoRight ∷ [])
    ∷ (map_in 1 0 5 0x10000 0x1000 0, cause.NoRight ∷ [])
    ∷ (map_in 1 5 1 0x10000 0x1000 0x4000, [])
    ∷ (map_in 1 3 1 0x10000 0x1000 0x4000, [])
    ∷ (map_in 1 1 5 0x10000 0x2000 0xffff_ffff_ffff_f000, cause.NoRight ∷ cause.Sum ∷ [])
    -- of the address, where it is fixed; 2^64 itself is good
    ∷ (map_in 1 7 5 0x10000 0x2000 0xffff_ffff_ffff_f000, cause.Sum ∷ [])
    ∷ (map_in 1 7 5 0x10000 0x1000 0xffff_ffff_ffff_f000, [])
    ∷ (map_in 1 6 5 0x10000 0x2000 0xffff_ffff_ffff_f000, [])
    -- of the user address
    ∷ (map_in 1 7 5 0xffff_ffff_ffff_f000 0x2000 0x20000, cause.Sum ∷ cause.Absent ∷ [])
    ∷ (map_in 1 7 5 0xffff_ffff_ffff_f000 0x1000 0x20000, cause.Absent ∷ [])
    ∷ (map_in 1 7 5 0x10000 0x1001 0xffff_ffff_ffff_f000, cause.Sum ∷ cause.Align ∷ [])
    -- the length, the user address, and then the address, where it is fixed
    ∷ (map_in 1 7 5 0x10000 0 0x20000, cause.Align ∷ [])
    ∷ (map_in 1 7 5 0x10000 0x1001 0x20000, cause.Align ∷ [])
    ∷ (map_in 1 7 5 0x10001 0x1000 0x20000, cause.Align ∷ [])
    ∷ (map_in 1 7 5 0x10800 0x1000 0x20000, cause.Align ∷ [])
    ∷ (map_in 1 7 5 0x10000 0x1800 0x20000, cause.Align ∷ [])
    ∷ (map_in 1 7 5 0x10000 0x1000 0x20001, cause.Align ∷ [])
    ∷ (map_in 1 7 5 0x10000 0x1001 0x20001, cause.Align ∷ cause.Align ∷ [])
    ∷ (map_in 1 6 5 0x10000 0x1000 0x20001, [])
    -- user addresses end at 2^48
    ∷ (map_in 1 7 5 0xffff_ffff_f000 0x1000 0x20000, [])
    ∷ (map_in 1 7 5 0xffff_ffff_f000 0x2000 0x20000, cause.Absent ∷ [])
    ∷ (map_in 1 7 5 0xffff_ffff_f000 0x2000 0x20001, cause.Align ∷ cause.Absent ∷ [])
    -- an unknown id, a device's, a page table's, one of another file
    ∷ (map_in 1 7 9 0x10000 0x1000 0x20000, cause.Id ∷ [])
    ∷ (map_in 1 7 2 0x10000 0x1000 0x20000, cause.Id ∷ [])
    ∷ (map_in 1 7 3 0x10000 0x1000 0x20000, cause.Id ∷ [])
    ∷ (map_in 3 7 5 0x10000 0x1000 0x20000, cause.Id ∷ [])
    ∷ (map_in 1 7 9 0xffff_ffff_f000 0x2000 0x20000, cause.Absent ∷ cause.Id ∷ [])
    -- device 2 keeps 8000 to 8fff; the width of device 1 ends at 2^39, and it keeps the addresses of interrupts
    ∷ (map_in 2 7 1 0x10000 0x1000 0x7000, [])
    ∷ (map_in 2 7 1 0x10000 0x1000 0x8000, cause.Reserved ∷ [])
    ∷ (map_in 2 7 1 0x10000 0x1000 0x9000, [])
    ∷ (map_in 1 7 1 0x10000 0x1000 0x7f_ffff_f000, cause.Frames ∷ [])
    ∷ (map_in 1 7 1 0x10000 0x1000 0x80_0000_0000, cause.Reserved ∷ cause.Frames ∷ [])
    ∷ (map_in 1 7 1 0x10000 0x1000 0xfedf_f000, cause.Frames ∷ [])
    ∷ (map_in 1 7 1 0x10000 0x1000 0xfee0_0000, cause.Reserved ∷ cause.Frames ∷ [])
    ∷ (map_in 1 7 1 0x10000 0x1000 0xfeef_f000, cause.Reserved ∷ cause.Frames ∷ [])
    ∷ (map_in 1 7 1 0x10000 0x1000 0xfef0_0000, cause.Frames ∷ [])
    -- nothing there is reserved where no device is attached
    ∷ (map_in 1 7 5 0x10000 0x1000 0x80_0000_0000, [])
    -- areas from 3000 to 4fff and from 7000 to 7fff
    ∷ (map_in 1 7 5 0x10000 0x1000 0x2000, [])
    ∷ (map_in 1 7 5 0x10000 0x2000 0x2000, cause.Overlap ∷ [])
    ∷ (map_in 1 7 5 0x10000 0x1000 0x4000, cause.Overlap ∷ [])
    ∷ (map_in 1 7 5 0x10000 0x2000 0x5000, [])
    ∷ (map_in 1 7 5 0x10000 0x3000 0x5000, cause.Overlap ∷ [])
    ∷ (map_in 2 7 1 0x10000 0x8000 0x1000, cause.Reserved ∷ cause.Overlap ∷ cause.Absent ∷ cause.Account ∷ [])
    -- a chosen address, with room for two pages
    ∷ (map_in 1 6 5 0x10000 0x2000 0, [])
    ∷ (map_in 1 6 5 0x10000 0x3000 0, cause.Full ∷ [])
    ∷ (map_in 1 7 5 0x10000 0x3000 0x20000, [])
    ∷ (map_in 1 6 1 0x10000 0x1000 0, cause.Full ∷ [])
    ∷ (map_in 1 6 1 0x12000 0x1000 0, cause.Full ∷ cause.Absent ∷ [])
    -- user 1 has no page at 12000, and user 2 has the one at 20000
    ∷ (map_in 1 7 1 0x12000 0x1000 0x4000, cause.Absent ∷ [])
    ∷ (map_in 1 7 1 0x20000 0x1000 0x4000, cause.Absent ∷ [])
    ∷ (map_in 2 7 1 0x20000 0x1000 0x4000, [])
    ∷ (map_in 1 7 1 0x11000 0x2000 0x4000, cause.Absent ∷ cause.Account ∷ [])
    ∷ (map_in 1 7 5 0x12000 0x1000 0x20000, [])
    -- a third pinned page is the last
    ∷ (map_in 1 7 1 0x10000 0x2000 0x4000, cause.Account ∷ [])
    ∷ (map_in 1 7 1 0x10000 0x2000 0x4000_0000, cause.Account ∷ cause.Frames ∷ [])
    -- one table for each of two page tables, and two; three for a page table of four levels, and two
    ∷ (map_in 1 7 1 0x10000 0x1000 0x20_0000, [])
    ∷ (map_in 1 7 1 0x10000 0x1000 0x4000_0000, cause.Frames ∷ [])
    ∷ (map_in 2 7 1 0x10000 0x1000 0x4000_0000, [])
    ∷ (map_in 2 7 1 0x10000 0x1000 0x80_0000_0000, cause.Frames ∷ [])
    ∷ []

-- in the world that stands ready address space 14 allows 7001 to 8fff, which has one whole page, from 8000 on
abbrev pub refusals_of_chosen : Refusals
refusals_of_chosen = (map_in 1 6 14 0x10000 0x1000 0, []) ∷ (map_in 1 6 14 0x10000 0x2000 0, cause.Full ∷ []) ∷ []

-- the same where file 2 allows a near page after a far range, and the far range alone: the least address asks for no
-- table, and the far one for three
abbrev pub near_and_far : World
near_and_far =
    record shared {
      allowed =
          record {
            file = file 2;
            ioas = id 1;
            spans = from_to 0x80_0000_0000 0x80_0000_ffff ∷ from_to 0x2000 0x2fff ∷ [];
          }
          ∷ [];
    }

abbrev pub far : World
far =
    record shared {
      allowed = record { file = file 2; ioas = id 1; spans = from_to 0x80_0000_0000 0x80_0000_ffff ∷ [] } ∷ [];
    }

abbrev pub refusals_near_and_far : Refusals
refusals_near_and_far =
    (map_in 2 6 1 0x10000 0x1000 0, [])
    -- an address that isn't fixed is never looked at, here one that device 2 keeps
    ∷ (map_in 2 6 1 0x10000 0x1000 0x8000, [])
    ∷ []

abbrev pub refusals_far : Refusals
refusals_far = (map_in 2 6 1 0x10000 0x1000 0, cause.Frames ∷ []) ∷ []

-- where no frame is free and user 2 has as many pinned pages as it may: the last page of a table that is there, and the
-- first of one that isn't
abbrev pub refusals_without_free : Refusals
refusals_without_free =
    (map_in 2 7 1 0x10000 0x1000 0x1f_f000, cause.Account ∷ [])
    ∷ (map_in 2 7 1 0x10000 0x1000 0x20_0000, cause.Account ∷ cause.Frames ∷ [])
    ∷ []
