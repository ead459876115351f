-- Records that differ in what the server chooses or in what they answer: those that are lawful in a world, and some
-- beside each that aren't, by one thing each.
use Rattle.std.specs.Prelude.{true, List, [], ◌∷◌}
use Rattle.std.specs.declared.alloc.Global.{Global}
use Rattle.iofd_examples.specs.DebtScript.{gone, none_owes}
use Rattle.iofd_examples.specs.Words.{answers_frame, answers_id, answers_iova, area_row, attach, bind, copy_in, detach}
use Rattle.iofd_examples.specs.Words.{flush, hwpt_alloc, hwpt_row, ioas_alloc, ioas_row, map_in, memory_row, moving}
use Rattle.iofd_examples.specs.Words.{refused, step, table_row, unmap_in, user_map, user_unmap}
use Rattle.iofd_words.specs.Record.{Record}
use Rattle.iofd_words.specs.World.{World}
use Rattle.iofd_words.specs.declared.refusal.Cause.TheVariants as cause
use Rattle.iofd_words.specs.declared.refusal.Errno.TheVariants.{EAGAIN, EDEADLOCK}
use Rattle.iofd_words.specs.declared.reply.Reply.TheVariants as reply
use Rattle.iofd_words.specs.declared.rows.Phase.TheVariants.{Leaving, Live}
use Rattle.iofd_words.specs.declared.width.Width.TheVariants.{Bits39, Bits48}

-- ---- in the second script's world in which memory is shared

-- a frame that nobody reaches, an unused id, an address with room in the allowed ranges
abbrev pub choices : List (Record Global)
choices =
    step (user_map 1 0x30000) (answers_frame 15)
    ∷ step (user_map 1 0x30000) (answers_frame 16)
    ∷ step (ioas_alloc 1) (answers_id 6)
    ∷ step (ioas_alloc 1) (answers_id 0x7fff_ffff)
    ∷ step (ioas_alloc 3) (answers_id 3)
    ∷ step (map_in 1 4 5 0x11000 0x1000 0) (answers_iova 0x8000)
    ∷ step (map_in 1 4 5 0x11000 0x1000 0) (answers_iova 0x9000)
    ∷ step (copy_in 1 4 5 1 0x2000 0x20000 0x1000) (answers_iova 0x8000)
    ∷ []

-- a pin, a user's page and a table name the frame, and the pool doesn't have it
abbrev pub frames_that_are_reached : List (Record Global)
frames_that_are_reached =
    step (user_map 1 0x30000) (answers_frame 0)
    ∷ step (user_map 1 0x30000) (answers_frame 3)
    ∷ step (user_map 1 0x30000) (answers_frame 4)
    ∷ step (user_map 1 0x30000) (answers_frame 17)
    ∷ []

-- an id that is used, and ids that no object has
abbrev pub ids_that_are_used : List (Record Global)
ids_that_are_used =
    step (ioas_alloc 1) (answers_id 5)
    ∷ step (ioas_alloc 1) (answers_id 2)
    ∷ step (ioas_alloc 1) (answers_id 0)
    ∷ step (ioas_alloc 1) (answers_id 0x8000_0000)
    ∷ []

-- over an area, outside the allowed ranges, no multiple of a page; over an area's end
abbrev pub addresses_without_room : List (Record Global)
addresses_without_room =
    step (map_in 1 4 5 0x11000 0x1000 0) (answers_iova 0x7000)
    ∷ step (map_in 1 4 5 0x11000 0x1000 0) (answers_iova 0xa000)
    ∷ step (map_in 1 4 5 0x11000 0x1000 0) (answers_iova 0x8800)
    ∷ step (copy_in 1 4 5 1 0x2000 0x20000 0x1000) (answers_iova 0x7000)
    ∷ step (copy_in 1 4 5 1 0x2000 0x20000 0x1000) (answers_iova 0x9000)
    ∷ []

-- not at the fixed address
abbrev pub other_addresses : List (Record Global)
other_addresses =
    step (map_in 1 5 5 0x11000 0x1000 0x20000) (answers_iova 0x8000)
    ∷ step (copy_in 1 5 5 1 0x2000 0x20000 0x1000) (answers_iova 0x8000)
    ∷ []

-- an UNMAP of two areas, by which no device owes anything: the bytes of both
abbrev pub bytes_of_two : List (Record Global)
bytes_of_two = step (unmap_in 1 5 0x3000 0x5000) (reply.Bytes 0x3000) ∷ []

abbrev pub other_bytes : List (Record Global)
other_bytes =
    step (unmap_in 1 5 0x3000 0x5000) (reply.Bytes 0x2000)
    ∷ step (unmap_in 1 5 0x3000 0x5000) (reply.Bytes 0x5000)
    ∷ []

abbrev pub waits_for_nobody : List (Record Global)
waits_for_nobody = step (unmap_in 1 5 0x3000 0x5000) (reply.Pending EAGAIN) ∷ []

-- an UNMAP by which one owes, or two
abbrev pub waits : List (Record Global)
waits = step (unmap_in 1 1 0x1000 0x2000) (reply.Pending EAGAIN) ∷ []

abbrev pub bytes_too_early : List (Record Global)
bytes_too_early = step (unmap_in 1 1 0x1000 0x2000) (reply.Bytes 0x2000) ∷ []

abbrev pub another_errno : List (Record Global)
another_errno = step (unmap_in 1 1 0x1000 0x2000) (reply.Pending EDEADLOCK) ∷ []

-- answers of another kind
abbrev pub other_kinds : List (Record Global)
other_kinds =
    step (ioas_alloc 1) reply.Done
    ∷ step (user_map 1 0x30000) (answers_id 15)
    ∷ step (map_in 1 5 5 0x11000 0x1000 0x20000) reply.Done
    ∷ step (unmap_in 1 5 0x3000 0x5000) reply.Done
    ∷ step (flush 1) (answers_id 1)
    ∷ step (user_unmap 1 0x10000) (answers_frame 11)
    ∷ []

-- ---- in the world that stands ready: the tables of a page table

-- any frames that are free, in any order; an automatic page table that another device has, one that is named
abbrev pub tables : List (Record Global)
tables =
    moving (attach 1 1) (answers_id 15) (8 ∷ 9 ∷ 10 ∷ []) []
    ∷ moving (attach 1 1) (answers_id 0x7fff_ffff) (10 ∷ 8 ∷ 9 ∷ []) []
    ∷ step (attach 9 8) (answers_id 10)
    ∷ step (attach 9 4) (answers_id 4)
    ∷ moving (hwpt_alloc 1 2 1) (answers_id 15) (8 ∷ 9 ∷ 10 ∷ []) []
    ∷ step (bind 1 4) (answers_id 15)
    ∷ []

-- an id that is used
abbrev pub ids_of_tables : List (Record Global)
ids_of_tables =
    moving (attach 1 1) (answers_id 14) (8 ∷ 9 ∷ 10 ∷ []) []
    ∷ moving (hwpt_alloc 1 2 1) (answers_id 3) (8 ∷ 9 ∷ 10 ∷ []) []
    ∷ step (bind 1 4) (answers_id 1)
    ∷ []

-- not the page table that is there, not the one that was named
abbrev pub other_tables : List (Record Global)
other_tables =
    moving (attach 9 8) (answers_id 11) (8 ∷ []) []
    ∷ step (attach 9 4) (answers_id 10)
    ∷ []

-- too few, too many, and some where none is missing
abbrev pub numbers_of_frames : List (Record Global)
numbers_of_frames =
    moving (attach 1 1) (answers_id 15) (8 ∷ 9 ∷ []) []
    ∷ moving (attach 1 1) (answers_id 15) [] []
    ∷ moving (attach 1 9) (answers_id 15) (8 ∷ 9 ∷ []) []
    ∷ moving (attach 9 8) (answers_id 10) (8 ∷ []) []
    ∷ []

-- a pinned page's, a table's, one beyond the pool
abbrev pub frames_of_others : List (Record Global)
frames_of_others =
    moving (attach 1 1) (answers_id 15) (3 ∷ 8 ∷ 9 ∷ []) []
    ∷ moving (attach 1 1) (answers_id 15) (8 ∷ 9 ∷ 7 ∷ []) []
    ∷ moving (attach 1 1) (answers_id 15) (8 ∷ 9 ∷ 11 ∷ []) []
    ∷ []

abbrev pub frame_twice : List (Record Global)
frame_twice =
    moving (attach 1 1) (answers_id 15) (8 ∷ 9 ∷ 9 ∷ []) []
    ∷ moving (attach 1 1) (answers_id 15) (8 ∷ 9 ∷ 8 ∷ []) []
    ∷ []

-- a page table goes with its tables, if it is an automatic one
abbrev pub tables_go : List (Record Global)
tables_go =
    moving (detach 10) reply.Done [] (7 ∷ [])
    ∷ step (detach 5) reply.Done
    ∷ []

abbrev pub table_stays : List (Record Global)
table_stays = step (detach 10) reply.Done ∷ []

-- a table of another page table, a free frame, a user's page
abbrev pub others_go : List (Record Global)
others_go =
    moving (detach 10) reply.Done [] (6 ∷ 7 ∷ [])
    ∷ moving (detach 10) reply.Done [] (7 ∷ 8 ∷ [])
    ∷ moving (detach 5) reply.Done [] (6 ∷ [])
    ∷ moving (unmap_in 1 1 0x1000 0x1000) (reply.Bytes 0x1000) [] (6 ∷ [])
    ∷ moving (attach 1 1) (answers_id 15) (8 ∷ 9 ∷ 10 ∷ []) (3 ∷ [])
    ∷ []

-- ---- in the third script's worlds: tables that an UNMAP gives back

abbrev pub given_back : List (Record Global)
given_back =
    step (unmap_in 1 1 0 0x4000) (reply.Bytes 0x2000)
    ∷ moving (unmap_in 1 1 0 0x4000) (reply.Bytes 0x2000) [] (4 ∷ [])
    ∷ moving (unmap_in 1 1 0 0x4000) (reply.Bytes 0x2000) [] (3 ∷ 4 ∷ [])
    ∷ []

-- a root, and the other page table's
abbrev pub root_goes : List (Record Global)
root_goes =
    moving (unmap_in 1 1 0 0x4000) (reply.Bytes 0x2000) [] (2 ∷ [])
    ∷ moving (unmap_in 1 1 0 0x4000) (reply.Bytes 0x2000) [] (3 ∷ 4 ∷ 5 ∷ [])
    ∷ []

abbrev pub not_rising : List (Record Global)
not_rising = moving (unmap_in 1 1 0 0x4000) (reply.Bytes 0x2000) [] (4 ∷ 3 ∷ []) ∷ []

-- where the second area still leaves, its tables stay
abbrev pub second_leaves : World
second_leaves =
    record none_owes {
      areas =
          area_row 1 1 0x1000 0x1fff 3 3 (Leaving [] 3)
          ∷ area_row 1 1 0x3000 0x3fff 4 2 (Leaving (1 ∷ []) 3) ∷ [];
    }

abbrev pub first_goes : List (Record Global)
first_goes = step (unmap_in 1 1 0x1000 0x1000) (reply.Bytes 0x1000) ∷ []

abbrev pub table_of_second_goes : List (Record Global)
table_of_second_goes = moving (unmap_in 1 1 0x1000 0x1000) (reply.Bytes 0x1000) [] (4 ∷ []) ∷ []

-- both are named: the second's debt is waited for too
abbrev pub waits_for_second : List (Record Global)
waits_for_second = step (unmap_in 1 1 0 0x4000) (reply.Pending EAGAIN) ∷ []

abbrev pub second_forgotten : List (Record Global)
second_forgotten = step (unmap_in 1 1 0 0x4000) (reply.Bytes 0x2000) ∷ []

-- only an UNMAP gives tables of a page table that stays back; the world after it, where it gave none
abbrev pub idle : World
idle =
    record gone {
      table_frames = table_row 1 5 3 0 2 ∷ table_row 1 5 2 0 3 ∷ table_row 1 5 1 0 4 ∷ table_row 1 6 4 0 5 ∷ [];
    }

abbrev pub flush_gives : List (Record Global)
flush_gives = moving (flush 1) reply.Done [] (4 ∷ []) ∷ []

-- ---- refused records, in the world in which memory is shared

abbrev pub refusals : List (Record Global)
refusals = step (map_in 1 7 5 0x10000 0x1000 0x4000) (refused cause.Overlap) ∷ []

-- with another cause, with no refusal, and with one where nothing refuses
abbrev pub other_causes : List (Record Global)
other_causes =
    step (map_in 1 7 5 0x10000 0x1000 0x4000) (refused cause.Id)
    ∷ step (map_in 1 7 5 0x10000 0x1001 0x20001) (refused cause.Overlap)
    ∷ []

abbrev pub not_refused : List (Record Global)
not_refused = step (map_in 1 7 5 0x10000 0x1000 0x4000) (answers_iova 0x4000) ∷ []

abbrev pub not_to_be_refused : List (Record Global)
not_to_be_refused =
    step (map_in 1 7 5 0x10000 0x1000 0x20000) (refused cause.Overlap)
    ∷ step (flush 1) (refused cause.Id)
    ∷ []

-- which move tables
abbrev pub refused_takes : List (Record Global)
refused_takes = moving (map_in 1 7 5 0x10000 0x1000 0x4000) (refused cause.Overlap) (15 ∷ []) [] ∷ []

abbrev pub refused_gives : List (Record Global)
refused_gives = moving (map_in 1 7 5 0x10000 0x1000 0x4000) (refused cause.Overlap) [] (14 ∷ []) ∷ []

-- ---- a table in the frame of a page that only a pin names, where user 1 has a new page

abbrev pub table_in_a_pins_frame : List (Record Global)
table_in_a_pins_frame = moving (hwpt_alloc 1 2 1) (answers_id 4) (12 ∷ 13 ∷ 0 ∷ []) [] ∷ []

-- ---- an UNMAP of another address space than that of the idle tables

abbrev pub beside_idle : World
beside_idle =
    record idle {
      objects =
          ioas_row 1 1 ∷ hwpt_row 1 5 1 Bits39 true ∷ hwpt_row 1 6 1 Bits48 true ∷ ioas_row 1 7 ∷ [];
      memory = memory_row 3 1 0x10000 1 true ∷ [];
      areas = area_row 1 7 0x8000 0x8fff 3 3 Live ∷ [];
    }

abbrev pub other_space : List (Record Global)
other_space = step (unmap_in 1 7 0x8000 0x1000) (reply.Bytes 0x1000) ∷ []

abbrev pub idle_of_other_space : List (Record Global)
idle_of_other_space = moving (unmap_in 1 7 0x8000 0x1000) (reply.Bytes 0x1000) [] (4 ∷ []) ∷ []
