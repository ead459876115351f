-- Access objects pin pages, write through a pin and let go: a script worked by hand in pieces, with the whole world
-- after each. File 1 has two address spaces, each with an access object attached to it, one that is attached to none,
-- and a device; file 2 an address space with an access object of the same id as file 1's first. User 1 may have two
-- pinned pages.
use Rattle.std.specs.Prelude.{Some, None, true, false, List, [], ◌∷◌}
use Rattle.std.specs.declared.alloc.Global.{Global}
use Rattle.iofd_examples.specs.Words.{NoticeQuestions, Questions, access_attach, access_create, access_detach}
use Rattle.iofd_examples.specs.Words.{access_pin, access_pin_row, access_read, access_row, access_unpin}
use Rattle.iofd_examples.specs.Words.{access_write, answers_frame}
use Rattle.iofd_examples.specs.Words.{answers_id, answers_iova, area_row, bind, bytes, copy_in, count, destroy}
use Rattle.iofd_examples.specs.Words.{device_row, from_to, held, hwpt_alloc, hwpt_row, id, ioas_alloc, ioas_row, map_in}
use Rattle.iofd_examples.specs.Words.{memory_row, moving, page_row, passed, pin_row, refused, refused_look, step}
use Rattle.iofd_examples.specs.Words.{table_row, unmap_in, user_map, user_read, user_unmap, user_write}
use Rattle.iofd_words.specs.Record.{Record}
use Rattle.iofd_words.specs.Settings.{Settings}
use Rattle.iofd_words.specs.World.{World, opening}
use Rattle.iofd_words.specs.declared.query.Query.TheVariants.{FreeFrames}
use Rattle.iofd_words.specs.declared.refusal.Cause.TheVariants as cause
use Rattle.iofd_words.specs.declared.refusal.Errno.TheVariants.{EAGAIN}
use Rattle.iofd_words.specs.declared.reply.Reply.TheVariants as reply
use Rattle.iofd_words.specs.declared.rows.Area.{Area}
use Rattle.iofd_words.specs.declared.rows.Phase.TheVariants.{Leaving, Live}
use Rattle.iofd_words.specs.declared.width.Width.TheVariants.{Bits39}

abbrev pub settings : Settings
settings =
    record {
      pool = 12;
      users = 2 ∷ 1 ∷ [];
      files = record { 0 = 1 } ∷ record { 0 = 2 } ∷ record { 0 = 1 } ∷ [];
      devices = record { source = record { 0 = 0x08 }; width = Bits39; x86 = false; reserved = [] } ∷ [];
      passes = 1;
    }

-- two areas over one memory object; at the same addresses of the other address space one that may be read alone, one
-- that may be written alone, and one of which the user has no page; and one of the other file
abbrev pub beginning : List (Record Global)
beginning =
    step (ioas_alloc 1) (answers_id 1)
    ∷ step (ioas_alloc 1) (answers_id 2)
    ∷ step (access_create 1) (answers_id 3)
    ∷ step (access_create 1) (answers_id 4)
    ∷ step (access_create 1) (answers_id 5)
    ∷ step (bind 1 1) (answers_id 6)
    ∷ step (ioas_alloc 2) (answers_id 1)
    ∷ step (access_create 2) (answers_id 3)
    ∷ step (access_attach 1 3 1) reply.Done
    ∷ step (access_attach 1 4 2) reply.Done
    ∷ step (access_attach 2 3 1) reply.Done
    ∷ step (user_map 1 0x10000) (answers_frame 0)
    ∷ step (user_map 1 0x11000) (answers_frame 1)
    ∷ step (user_map 1 0x12000) (answers_frame 2)
    ∷ step (map_in 1 7 1 0x10000 0x2000 0x1000) (answers_iova 0x1000)
    ∷ step (copy_in 1 7 1 1 0x2000 0x3000 0x1000) (answers_iova 0x3000)
    ∷ step (map_in 1 5 2 0x12000 0x1000 0x2000) (answers_iova 0x2000)
    ∷ step (map_in 1 3 2 0x12000 0x1000 0x3000) (answers_iova 0x3000)
    ∷ step (map_in 1 7 2 0x13000 0x1000 0x4000) (answers_iova 0x4000)
    ∷ step (map_in 2 7 1 0x20000 0x1000 0x3000) (answers_iova 0x3000)
    ∷ []

abbrev other_areas : List Area
other_areas =
    area_row 1 2 0x2000 0x2fff 16 1 Live ∷ area_row 1 2 0x3000 0x3fff 17 2 Live
    ∷ area_row 1 2 0x4000 0x4fff 18 3 Live
    ∷ area_row 2 1 0x3000 0x3fff 19 3 Live
    ∷ []

abbrev pub ready : World
ready =
    record (opening settings) {
      objects =
          ioas_row 1 1 ∷ ioas_row 1 2 ∷ access_row 1 3 (Some (id 1)) ∷ access_row 1 4 (Some (id 2))
          ∷ access_row 1 5 None ∷ device_row 1 6 1
          ∷ ioas_row 2 1 ∷ access_row 2 3 (Some (id 1))
          ∷ [];
      memory =
          memory_row 14 1 0x10000 2 true ∷ memory_row 16 1 0x12000 1 false ∷ memory_row 17 1 0x12000 1 true
          ∷ memory_row 18 1 0x13000 1 true ∷ memory_row 19 2 0x20000 1 true
          ∷ [];
      areas =
          area_row 1 1 0x1000 0x2fff 14 3 Live ∷ area_row 1 1 0x3000 0x4fff 14 3 Live ∷ other_areas;
      user_pages = page_row 1 0x10 0 ∷ page_row 1 0x11 1 ∷ page_row 1 0x12 2 ∷ [];
    }

-- ---- a pin over both areas charges each of the two pages once; two equal pins beside it add none

abbrev pub pinning : List (Record Global)
pinning =
    step (access_pin 1 3 0x1000 0x4000 true) reply.Done
    ∷ step (access_pin 1 3 0x1000 0x1000 false) reply.Done
    ∷ step (access_pin 1 3 0x1000 0x1000 false) reply.Done
    ∷ []

abbrev pub pinned : World
pinned =
    record ready {
      pins = pin_row 14 0 0 ∷ pin_row 14 1 1 ∷ [];
      access_pins =
          access_pin_row 1 3 0x1000 0x4fff true ∷ access_pin_row 1 3 0x1000 0x1fff false
          ∷ access_pin_row 1 3 0x1000 0x1fff false
          ∷ [];
    }

abbrev pub looks_in_pinned : Questions
looks_in_pinned =
    (held 1, count 2)
    ∷ (FreeFrames, count 9)
    ∷ (access_read 1 3 0x1000 2, bytes (0 ∷ 0 ∷ []))
    ∷ (access_read 1 4 0x2000 1, refused_look cause.NotHeld)
    ∷ (access_read 2 3 0x1000 1, refused_look cause.NotHeld)
    ∷ []

-- ---- a page keeps its frame when its user gives it up, and what is written through a pin is written there

abbrev pub keeping : List (Record Global)
keeping =
    step (user_unmap 1 0x10000) reply.Done
    ∷ step (user_map 1 0x10000) (answers_frame 3)
    ∷ step (access_write 1 3 0x1010 (0xaa ∷ 0xbb ∷ [])) reply.Done
    ∷ step (user_write 1 0x10010 (0xcc ∷ [])) reply.Done
    ∷ []

abbrev pub kept : World
kept =
    record pinned {
      user_pages = page_row 1 0x11 1 ∷ page_row 1 0x12 2 ∷ page_row 1 0x10 3 ∷ [];
      writes =
          record { frame = 3; offset = 0x10; bytes = 0xcc ∷ [] }
          ∷ record { frame = 0; offset = 0x10; bytes = 0xaa ∷ 0xbb ∷ [] }
          ∷ [];
    }

-- in both areas the same page
abbrev pub looks_in_kept : Questions
looks_in_kept =
    (access_read 1 3 0x1010 2, bytes (0xaa ∷ 0xbb ∷ []))
    ∷ (access_read 1 3 0x3010 2, bytes (0xaa ∷ 0xbb ∷ []))
    ∷ (access_read 1 3 0x2010 1, bytes (0 ∷ []))
    ∷ (user_read 1 0x10010 1, bytes (0xcc ∷ []))
    ∷ (held 1, count 2)
    ∷ (FreeFrames, count 8)
    ∷ []

-- ---- the second page is let go with the wide pin, the first one with the last of the equal ones

abbrev pub unpinning : List (Record Global)
unpinning =
    step (access_unpin 1 3 0x1000 0x4000 true) reply.Done
    ∷ step (access_unpin 1 3 0x1000 0x1000 false) reply.Done
    ∷ []

abbrev pub one_left : World
one_left =
    record kept {
      pins = pin_row 14 0 0 ∷ [];
      access_pins = access_pin_row 1 3 0x1000 0x1fff false ∷ [];
    }

abbrev pub looks_in_one_left : Questions
looks_in_one_left =
    (access_read 1 3 0x1010 2, bytes (0xaa ∷ 0xbb ∷ []))
    ∷ (access_read 1 3 0x2010 1, refused_look cause.NotHeld)
    ∷ (access_read 1 3 0x3010 1, refused_look cause.NotHeld)
    ∷ (held 1, count 1)
    ∷ (FreeFrames, count 8)
    ∷ []

abbrev pub letting_go : List (Record Global)
letting_go = step (access_unpin 1 3 0x1000 0x1000 false) reply.Done ∷ []

abbrev pub let_go : World
let_go = record kept { pins = []; access_pins = [] }

abbrev pub looks_in_let_go : Questions
looks_in_let_go =
    (access_read 1 3 0x1010 1, refused_look cause.NotHeld) ∷ (held 1, count 0) ∷ (FreeFrames, count 9) ∷ []

-- a new pin takes the frame that the user has there now
abbrev pub pinning_anew : List (Record Global)
pinning_anew = step (access_pin 1 3 0x3000 0x1000 true) reply.Done ∷ []

abbrev pub pinned_anew : World
pinned_anew =
    record kept { pins = pin_row 14 0 3 ∷ []; access_pins = access_pin_row 1 3 0x3000 0x3fff true ∷ [] }

abbrev pub looks_in_pinned_anew : Questions
looks_in_pinned_anew =
    (access_read 1 3 0x3010 1, bytes (0xcc ∷ []))
    ∷ (access_read 1 3 0x1010 1, refused_look cause.NotHeld)
    ∷ (held 1, count 1)
    ∷ (FreeFrames, count 9)
    ∷ []

-- ---- instead of that, from `pinned` on: a page table pins the pages too, so they stay pinned when the pins go

abbrev pub translating : List (Record Global)
translating =
    moving (hwpt_alloc 1 6 1) (answers_id 7) (3 ∷ 4 ∷ 5 ∷ []) []
    ∷ step (access_unpin 1 3 0x1000 0x1000 false) reply.Done
    ∷ step (access_unpin 1 3 0x1000 0x4000 true) reply.Done
    ∷ step (access_unpin 1 3 0x1000 0x1000 false) reply.Done
    ∷ []

abbrev pub translated : World
translated =
    record ready {
      objects =
          ioas_row 1 1 ∷ ioas_row 1 2 ∷ access_row 1 3 (Some (id 1)) ∷ access_row 1 4 (Some (id 2))
          ∷ access_row 1 5 None ∷ device_row 1 6 1 ∷ hwpt_row 1 7 1 Bits39 false
          ∷ ioas_row 2 1 ∷ access_row 2 3 (Some (id 1))
          ∷ [];
      pins = pin_row 14 0 0 ∷ pin_row 14 1 1 ∷ [];
      table_frames = table_row 1 7 3 0 3 ∷ table_row 1 7 2 0 4 ∷ table_row 1 7 1 0 5 ∷ [];
    }

-- and go with the page table
abbrev pub parting : List (Record Global)
parting = moving (destroy 1 7) reply.Done [] (3 ∷ 4 ∷ 5 ∷ []) ∷ []

-- ---- or: UNMAPs wait for the pins, and the access object is told which spans are leaving

abbrev pub waiting : List (Record Global)
waiting =
    step (unmap_in 1 1 0x1000 0x2000) (reply.Pending EAGAIN)
    ∷ step (unmap_in 1 1 0x3000 0x2000) (reply.Pending EAGAIN)
    ∷ []

abbrev pub leaving : World
leaving =
    record pinned {
      areas =
          area_row 1 1 0x1000 0x2fff 14 3 (Leaving [] 1) ∷ area_row 1 1 0x3000 0x4fff 14 3 (Leaving [] 1)
          ∷ other_areas;
    }

-- the file, the access object, all causes, and the spans
abbrev pub notices_in_leaving : NoticeQuestions
notices_in_leaving =
    (1, 3, [], from_to 0x1000 0x2fff ∷ from_to 0x3000 0x4fff ∷ [])
    ∷ (1, 4, [], [])
    ∷ (1, 5, [], [])
    ∷ (2, 3, [], [])
    ∷ (1, 1, cause.Id ∷ [], [])
    ∷ (1, 9, cause.Id ∷ [], [])
    ∷ (5, 3, cause.Id ∷ cause.Id ∷ [], [])
    ∷ []

-- of areas that are live none is told
abbrev pub notices_in_pinned : NoticeQuestions
notices_in_pinned = (1, 3, [], []) ∷ []

-- who holds no pin in a leaving area is told of none: another access object that is attached there, and one of the
-- other file
abbrev pub others_leaving : World
others_leaving =
    record leaving {
      objects =
          ioas_row 1 1 ∷ access_row 1 3 (Some (id 1)) ∷ access_row 1 5 (Some (id 1))
          ∷ ioas_row 2 1 ∷ access_row 2 3 (Some (id 1))
          ∷ [];
      areas =
          area_row 1 1 0x1000 0x2fff 14 3 (Leaving [] 1) ∷ area_row 2 1 0x3000 0x3fff 19 3 (Leaving [] 1)
          ∷ [];
    }

abbrev pub notices_to_others : NoticeQuestions
notices_to_others = (1, 3, [], from_to 0x1000 0x2fff ∷ []) ∷ (1, 5, [], []) ∷ (2, 3, [], []) ∷ []

-- without the wide pin the second area is none of its, and may go
abbrev pub unpinning_wide : List (Record Global)
unpinning_wide = step (access_unpin 1 3 0x1000 0x4000 true) reply.Done ∷ []

abbrev pub narrow : World
narrow =
    record leaving {
      pins = pin_row 14 0 0 ∷ [];
      access_pins = access_pin_row 1 3 0x1000 0x1fff false ∷ access_pin_row 1 3 0x1000 0x1fff false ∷ [];
    }

abbrev pub notices_in_narrow : NoticeQuestions
notices_in_narrow = (1, 3, [], from_to 0x1000 0x2fff ∷ []) ∷ []

abbrev pub second_leaves : List (Record Global)
second_leaves = step (unmap_in 1 1 0x3000 0x2000) (reply.Bytes 0x2000) ∷ []

abbrev pub second_left : World
second_left = record narrow { areas = area_row 1 1 0x1000 0x2fff 14 3 (Leaving [] 1) ∷ other_areas }

-- and without the others the first, with the memory object
abbrev pub first_leaves : List (Record Global)
first_leaves =
    step (access_unpin 1 3 0x1000 0x1000 false) reply.Done
    ∷ step (unmap_in 1 1 0x1000 0x2000) (reply.Pending EAGAIN)
    ∷ step (access_unpin 1 3 0x1000 0x1000 false) reply.Done
    ∷ step (unmap_in 1 1 0x1000 0x2000) (reply.Bytes 0x2000)
    ∷ step (access_detach 1 3) reply.Done
    ∷ []

abbrev pub first_left : World
first_left =
    record ready {
      objects =
          ioas_row 1 1 ∷ ioas_row 1 2 ∷ access_row 1 3 None ∷ access_row 1 4 (Some (id 2))
          ∷ access_row 1 5 None ∷ device_row 1 6 1
          ∷ ioas_row 2 1 ∷ access_row 2 3 (Some (id 1))
          ∷ [];
      memory =
          memory_row 16 1 0x12000 1 false ∷ memory_row 17 1 0x12000 1 true ∷ memory_row 18 1 0x13000 1 true
          ∷ memory_row 19 2 0x20000 1 true
          ∷ [];
      areas = other_areas;
    }

-- ---- records that differ in one thing

-- in `pinned`: answers of another kind
abbrev pub other_kinds : List (Record Global)
other_kinds =
    step (access_pin 1 3 0x1000 0x1000 true) (answers_id 3)
    ∷ step (access_unpin 1 3 0x1000 0x4000 true) (reply.Bytes 0x4000)
    ∷ step (access_write 1 3 0x1000 (1 ∷ [])) (passed 0)
    ∷ []

abbrev pub refusals : List (Record Global)
refusals =
    step (access_pin 1 4 0x2000 0x1000 true) (refused cause.Rights)
    ∷ step (access_unpin 1 3 0x1000 0x4000 false) (refused cause.NotHeld)
    ∷ step (access_write 1 3 0x5000 (1 ∷ [])) (refused cause.NotHeld)
    ∷ step (access_detach 1 3) (refused cause.InUse)
    ∷ []

-- what is refused is done, or refused by another cause
abbrev pub not_refused : List (Record Global)
not_refused =
    step (access_pin 1 4 0x2000 0x1000 false) reply.Done
    ∷ step (access_unpin 1 3 0x1000 0x4000 false) reply.Done
    ∷ step (access_write 1 3 0x5000 (1 ∷ [])) reply.Done
    ∷ step (access_detach 1 3) reply.Done
    ∷ []

abbrev pub other_causes : List (Record Global)
other_causes =
    step (access_pin 1 4 0x2000 0x1000 true) (refused cause.Account)
    ∷ step (access_unpin 1 5 0x1000 0x4000 true) (refused cause.NotHeld)
    ∷ step (access_write 1 3 0x5000 (1 ∷ [])) (refused cause.Rights)
    ∷ []

-- what nothing refuses is refused
abbrev pub not_to_be_refused : List (Record Global)
not_to_be_refused =
    step (access_pin 1 3 0x3000 0x1000 true) (refused cause.Account)
    ∷ step (access_unpin 1 3 0x1000 0x1000 false) (refused cause.NotHeld)
    ∷ step (access_write 1 3 0x4fff (1 ∷ [])) (refused cause.Rights)
    ∷ []

-- a pin takes no frame for a table
abbrev pub moves_tables : List (Record Global)
moves_tables = moving (access_pin 1 3 0x1000 0x1000 true) reply.Done (4 ∷ []) [] ∷ []

-- in `kept`: a frame that is pinned is given out; it is free in `let_go`
abbrev pub given_out : List (Record Global)
given_out = step (user_map 1 0x14000) (answers_frame 0) ∷ []

-- in `pinned`: an UNMAP in the other address space, and one of the other file, don't wait for pins at these addresses
abbrev pub waits_for_others : List (Record Global)
waits_for_others =
    step (unmap_in 1 2 0x2000 0x1000) (reply.Pending EAGAIN)
    ∷ step (unmap_in 2 1 0x3000 0x1000) (reply.Pending EAGAIN)
    ∷ []

abbrev pub goes_at_once : List (Record Global)
goes_at_once =
    step (unmap_in 1 2 0x2000 0x1000) (reply.Bytes 0x1000)
    ∷ step (unmap_in 2 1 0x3000 0x1000) (reply.Bytes 0x1000)
    ∷ []

-- an UNMAP doesn't wait for pins in `leaving`, or waits for none in `let_go`
abbrev pub waits_for_none : List (Record Global)
waits_for_none = step (unmap_in 1 1 0x1000 0x2000) (reply.Pending EAGAIN) ∷ []

abbrev pub does_not_wait : List (Record Global)
does_not_wait = step (unmap_in 1 1 0x3000 0x2000) (reply.Bytes 0x2000) ∷ []
