-- No first page table is made as long as an area of the address space is leaving: refusals in the world that stands
-- ready, of which areas have begun to leave. Whoever was attached to file 1's then is detached since, so that nobody
-- owes. Its devices 1 and 3 have width 39, its device 2 width 48, and 3 keeps 5000 to 5fff. File 2 has a page table
-- over its address space 1, which device 5 is attached to and owes a flush, and none over 11; 9 isn't attached, and 8
-- keeps 9000 to 9fff.
use Rattle.std.specs.Prelude.{List, [], ◌∷◌, ◌++◌}
use Rattle.std.specs.declared.alloc.Global.{Global}
use Rattle.iofd_examples.specs.ReadyWorld.{ready}
use Rattle.iofd_examples.specs.Words.{Refusals, answers_id, area_row, attach, destroy, file, hwpt_alloc, ioas_row}
use Rattle.iofd_examples.specs.Words.{moving, refused, step}
use Rattle.iofd_words.specs.Record.{Record}
use Rattle.iofd_words.specs.World.{World}
use Rattle.iofd_words.specs.declared.refusal.Cause.TheVariants as cause
use Rattle.iofd_words.specs.declared.rows.Phase.TheVariants.{Leaving, Live}

abbrev pub leaving : World
leaving =
    record ready {
      objects = ready.objects ++ ioas_row 2 11 ∷ [];
      areas =
          area_row 1 1 0x1000 0x1fff 18 3 (Leaving [] 1)
          ∷ area_row 1 5 0x80_0000_0000 0x80_0000_0fff 19 3 (Leaving [] 1)
          ∷ area_row 1 6 0x5000 0x5fff 20 3 (Leaving [] 1)
          ∷ area_row 1 7 0x1000 0x2fff 21 3 (Leaving [] 1)
          ∷ area_row 1 8 0x1000 0x3fff 22 3 (Leaving [] 1)
          ∷ area_row 1 9 0x1000 0x1fff 18 3 Live
          ∷ area_row 1 9 0x3000 0x3fff 19 3 (Leaving [] 100)
          ∷ area_row 1 11 0x1000 0x2fff 25 3 Live
          ∷ area_row 2 1 0x9000 0x9fff 33 3 (Leaving (5 ∷ []) 1)
          ∷ area_row 2 11 0x1000 0x1fff 33 3 (Leaving [] 1)
          ∷ [];
    }

abbrev pub refusals : Refusals
refusals =
    -- an area alone, and one beside a live one; an address space whose areas are all live
    (attach 1 1, cause.Pending ∷ [])
    ∷ (attach 2 1, cause.Pending ∷ [])
    ∷ (attach 1 9, cause.Pending ∷ [])
    ∷ (attach 1 11, [])
    ∷ (hwpt_alloc 1 2 1, cause.Pending ∷ [])
    ∷ (hwpt_alloc 1 2 9, cause.Pending ∷ [])
    ∷ (hwpt_alloc 1 2 11, [])
    -- beyond the width, and in what the device keeps; of HWPT_ALLOC not before it is attached
    ∷ (attach 1 5, cause.Pending ∷ cause.Narrow ∷ [])
    ∷ (attach 2 5, cause.Pending ∷ [])
    ∷ (attach 3 6, cause.Pending ∷ cause.Narrow ∷ [])
    ∷ (attach 1 6, cause.Pending ∷ [])
    ∷ (hwpt_alloc 1 2 5, cause.Pending ∷ cause.Narrow ∷ [])
    ∷ (hwpt_alloc 1 4 6, cause.Pending ∷ [])
    -- pages that the user doesn't have, and more than it may have pinned
    ∷ (attach 1 7, cause.Pending ∷ cause.Absent ∷ [])
    ∷ (attach 1 8, cause.Pending ∷ cause.Account ∷ [])
    ∷ (hwpt_alloc 1 2 7, cause.Pending ∷ cause.Absent ∷ [])
    ∷ (hwpt_alloc 1 2 8, cause.Pending ∷ cause.Account ∷ [])
    -- an attached device; of no device
    ∷ (attach 5 11, cause.Bound ∷ cause.Pending ∷ [])
    ∷ (attach 9 11, cause.Pending ∷ [])
    ∷ (hwpt_alloc 1 99 1, cause.Id ∷ cause.Pending ∷ [])
    -- one that has a page table may get another one, and to it a device may be attached
    ∷ (attach 9 1, [])
    ∷ (attach 8 1, cause.Narrow ∷ [])
    ∷ (attach 9 4, [])
    ∷ (attach 7 4, cause.Width ∷ [])
    ∷ (hwpt_alloc 2 2 1, [])
    -- an address space goes with an area that is leaving
    ∷ (destroy 2 11, [])
    ∷ []

abbrev pub closed : World
closed = record leaving { closed = file 1 ∷ [] }

abbrev pub of_closed : Refusals
of_closed =
    (hwpt_alloc 1 2 1, cause.Id ∷ cause.Pending ∷ [])
    ∷ (hwpt_alloc 1 99 1, cause.Id ∷ cause.Id ∷ cause.Pending ∷ [])
    ∷ []

-- the refusal, and the page table that would have a root alone
abbrev pub refused_tables : List (Record Global)
refused_tables =
    step (attach 1 1) (refused cause.Pending) ∷ step (hwpt_alloc 1 2 1) (refused cause.Pending) ∷ []

abbrev pub made_tables : List (Record Global)
made_tables =
    moving (attach 1 1) (answers_id 15) (8 ∷ []) []
    ∷ moving (hwpt_alloc 1 2 1) (answers_id 15) (8 ∷ []) []
    ∷ []

-- a second page table has a root alone too, as no area is live
abbrev pub second_tables : List (Record Global)
second_tables =
    moving (attach 9 1) (answers_id 12) (8 ∷ []) []
    ∷ moving (hwpt_alloc 2 2 1) (answers_id 12) (8 ∷ []) []
    ∷ step (attach 9 4) (answers_id 4)
    ∷ []
