-- Tables that begin above 0, tables of two page tables, and tables that are given back: a script worked by hand in
-- pieces. Two devices of width 39, each with a page table; an area lies over the border between two tables of level 1.
use Rattle.std.specs.Prelude.{true, false, List, [], ◌∷◌}
use Rattle.std.specs.declared.alloc.Global.{Global}
use Rattle.iofd_examples.specs.Words.{answers_frame, answers_id, answers_iova, area_row, attach, attachment_row, bind}
use Rattle.iofd_examples.specs.Words.{close, detach, device_row, file, flush, hwpt_alloc, hwpt_row, ioas_alloc}
use Rattle.iofd_examples.specs.Words.{map_in, memory_row, moving, page_row, pin_row, step, table_row, unbind, unmap_in}
use Rattle.iofd_examples.specs.Words.{ioas_row, user_map}
use Rattle.iofd_words.specs.Record.{Record}
use Rattle.iofd_words.specs.Settings.{DeviceSettings, Settings}
use Rattle.iofd_words.specs.World.{World, opening}
use Rattle.iofd_words.specs.declared.refusal.Errno.TheVariants.{EAGAIN}
use Rattle.iofd_words.specs.declared.reply.Reply.TheVariants as reply
use Rattle.iofd_words.specs.declared.rows.Phase.{Phase}
use Rattle.iofd_words.specs.declared.rows.Phase.TheVariants.{Leaving, Live}
use Rattle.iofd_words.specs.declared.width.Width.TheVariants.{Bits39}

-- ---- an area over two tables, which don't begin at 0

-- a table of level 1 has 20_0000 addresses, one of level 2 4000_0000
abbrev device_of : DeviceSettings
device_of = record { source = record { 0 = 0x08 }; width = Bits39; x86 = false; reserved = [] }

abbrev pub settings : Settings
settings =
    record {
      pool = 15;
      users = 4 ∷ [];
      files = record { 0 = 1 } ∷ [];
      devices = device_of ∷ device_of ∷ [];
      passes = 1;
    }

abbrev pub beginning : List (Record Global)
beginning =
    step (user_map 1 0x10000) (answers_frame 0)
    ∷ step (user_map 1 0x11000) (answers_frame 1)
    ∷ step (ioas_alloc 1) (answers_id 1)
    ∷ step (map_in 1 7 1 0x10000 0x2000 0x403f_f000) (answers_iova 0x403f_f000)
    ∷ step (bind 1 1) (answers_id 2)
    ∷ step (bind 1 2) (answers_id 3)
    ∷ moving (attach 1 1) (answers_id 4) (2 ∷ 3 ∷ 4 ∷ 5 ∷ []) []
    ∷ moving (hwpt_alloc 1 3 1) (answers_id 5) (6 ∷ 7 ∷ 8 ∷ 9 ∷ []) []
    ∷ []

-- by rising first address, and then from the root down
abbrev pub two_tables : World
two_tables =
    record (opening settings) {
      objects =
          ioas_row 1 1 ∷ device_row 1 2 1 ∷ device_row 1 3 2 ∷ hwpt_row 1 4 1 Bits39 true
          ∷ hwpt_row 1 5 1 Bits39 false
          ∷ [];
      memory = memory_row 3 1 0x10000 2 true ∷ [];
      areas = area_row 1 1 0x403f_f000 0x4040_0fff 3 3 Live ∷ [];
      user_pages = page_row 1 0x10 0 ∷ page_row 1 0x11 1 ∷ [];
      pins = pin_row 3 0 0 ∷ pin_row 3 1 1 ∷ [];
      attachments = attachment_row 1 1 4 ∷ [];
      table_frames =
          table_row 1 4 3 0 2 ∷ table_row 1 4 2 0x4000_0000 3 ∷ table_row 1 4 1 0x4020_0000 4
          ∷ table_row 1 4 1 0x4040_0000 5
          ∷ table_row 1 5 3 0 6 ∷ table_row 1 5 2 0x4000_0000 7 ∷ table_row 1 5 1 0x4020_0000 8
          ∷ table_row 1 5 1 0x4040_0000 9
          ∷ [];
    }

-- ---- a MAP takes frames for both page tables

abbrev pub mapping : List (Record Global)
mapping =
    moving (map_in 1 7 1 0x10000 0x1000 0x20_0000) (answers_iova 0x20_0000) (10 ∷ 11 ∷ 12 ∷ 13 ∷ []) []
    ∷ []

abbrev pub mapped : World
mapped =
    record two_tables {
      memory = memory_row 3 1 0x10000 2 true ∷ memory_row 8 1 0x10000 1 true ∷ [];
      areas =
          area_row 1 1 0x20_0000 0x20_0fff 8 3 Live ∷ area_row 1 1 0x403f_f000 0x4040_0fff 3 3 Live
          ∷ [];
      pins = pin_row 3 0 0 ∷ pin_row 3 1 1 ∷ pin_row 8 0 0 ∷ [];
      table_frames =
          table_row 1 4 3 0 2 ∷ table_row 1 4 2 0x4000_0000 3 ∷ table_row 1 4 1 0x4020_0000 4
          ∷ table_row 1 4 1 0x4040_0000 5
          ∷ table_row 1 5 3 0 6 ∷ table_row 1 5 2 0x4000_0000 7 ∷ table_row 1 5 1 0x4020_0000 8
          ∷ table_row 1 5 1 0x4040_0000 9
          ∷ table_row 1 4 2 0 10 ∷ table_row 1 4 1 0x20_0000 11
          ∷ table_row 1 5 2 0 12 ∷ table_row 1 5 1 0x20_0000 13
          ∷ [];
    }

-- in any free frames
abbrev pub mapping_elsewhere : List (Record Global)
mapping_elsewhere =
    moving (map_in 1 7 1 0x10000 0x1000 0x20_0000) (answers_iova 0x20_0000) (14 ∷ 11 ∷ 10 ∷ 12 ∷ []) []
    ∷ []

-- for one of the page tables alone
abbrev pub mapping_in_one : List (Record Global)
mapping_in_one =
    moving (map_in 1 7 1 0x10000 0x1000 0x20_0000) (answers_iova 0x20_0000) (10 ∷ 11 ∷ []) []
    ∷ []

-- a MAP gives none back, neither one with pages nor a root; not even where it takes another frame for it
abbrev pub mapping_gives : List (Record Global)
mapping_gives =
    moving (map_in 1 7 1 0x10000 0x1000 0x20_0000) (answers_iova 0x20_0000) (10 ∷ 11 ∷ 12 ∷ 13 ∷ 14 ∷ []) (5 ∷ [])
    ∷ moving (map_in 1 7 1 0x10000 0x1000 0x20_0000) (answers_iova 0x20_0000) (10 ∷ 11 ∷ 12 ∷ 13 ∷ []) (5 ∷ [])
    ∷ moving (map_in 1 7 1 0x10000 0x1000 0x20_0000) (answers_iova 0x20_0000) (10 ∷ 11 ∷ 12 ∷ 13 ∷ []) (2 ∷ [])
    ∷ []

-- ---- the first area goes, and three frames with it

abbrev pub unmapping : List (Record Global)
unmapping =
    step (unmap_in 1 1 0x403f_f000 0x2000) (reply.Pending EAGAIN)
    ∷ step (flush 1) reply.Done
    ∷ moving (unmap_in 1 1 0x403f_f000 0x2000) (reply.Bytes 0x2000) [] (3 ∷ 4 ∷ 5 ∷ [])
    ∷ []

abbrev pub unmapped : World
unmapped =
    record mapped {
      memory = memory_row 8 1 0x10000 1 true ∷ [];
      areas = area_row 1 1 0x20_0000 0x20_0fff 8 3 Live ∷ [];
      pins = pin_row 8 0 0 ∷ [];
      table_frames =
          table_row 1 4 3 0 2
          ∷ table_row 1 5 3 0 6 ∷ table_row 1 5 2 0x4000_0000 7 ∷ table_row 1 5 1 0x4020_0000 8
          ∷ table_row 1 5 1 0x4040_0000 9
          ∷ table_row 1 4 2 0 10 ∷ table_row 1 4 1 0x20_0000 11
          ∷ table_row 1 5 2 0 12 ∷ table_row 1 5 1 0x20_0000 13
          ∷ [];
    }

-- before the last of these records
abbrev pub paid : World
paid =
    record mapped {
      areas =
          area_row 1 1 0x20_0000 0x20_0fff 8 3 Live
          ∷ area_row 1 1 0x403f_f000 0x4040_0fff 3 3 (Leaving [] 1)
          ∷ [];
    }

-- none, one, and all of both page tables
abbrev pub given_back : List (Record Global)
given_back =
    step (unmap_in 1 1 0x403f_f000 0x2000) (reply.Bytes 0x2000)
    ∷ moving (unmap_in 1 1 0x403f_f000 0x2000) (reply.Bytes 0x2000) [] (9 ∷ [])
    ∷ moving (unmap_in 1 1 0x403f_f000 0x2000) (reply.Bytes 0x2000) [] (3 ∷ 4 ∷ 5 ∷ 7 ∷ 8 ∷ 9 ∷ [])
    ∷ []

-- a root, and tables through which the other area's page goes
abbrev pub not_given_back : List (Record Global)
not_given_back =
    moving (unmap_in 1 1 0x403f_f000 0x2000) (reply.Bytes 0x2000) [] (2 ∷ [])
    ∷ moving (unmap_in 1 1 0x403f_f000 0x2000) (reply.Bytes 0x2000) [] (3 ∷ 4 ∷ 5 ∷ 6 ∷ [])
    ∷ moving (unmap_in 1 1 0x403f_f000 0x2000) (reply.Bytes 0x2000) [] (3 ∷ 4 ∷ 5 ∷ 10 ∷ [])
    ∷ moving (unmap_in 1 1 0x403f_f000 0x2000) (reply.Bytes 0x2000) [] (3 ∷ 4 ∷ 5 ∷ 13 ∷ [])
    ∷ []

-- the same where another frame is taken for the table
abbrev pub given_and_taken : List (Record Global)
given_and_taken =
    moving (unmap_in 1 1 0x403f_f000 0x2000) (reply.Bytes 0x2000) (14 ∷ []) (2 ∷ [])
    ∷ moving (unmap_in 1 1 0x403f_f000 0x2000) (reply.Bytes 0x2000) (14 ∷ []) (3 ∷ 4 ∷ 5 ∷ 6 ∷ [])
    ∷ moving (unmap_in 1 1 0x403f_f000 0x2000) (reply.Bytes 0x2000) (14 ∷ []) (3 ∷ 4 ∷ 5 ∷ 10 ∷ [])
    ∷ moving (unmap_in 1 1 0x403f_f000 0x2000) (reply.Bytes 0x2000) (14 ∷ []) (3 ∷ 4 ∷ 5 ∷ 13 ∷ [])
    ∷ []

-- not by rising frame, and one twice
abbrev pub not_rising : List (Record Global)
not_rising =
    moving (unmap_in 1 1 0x403f_f000 0x2000) (reply.Bytes 0x2000) [] (3 ∷ 5 ∷ 4 ∷ [])
    ∷ moving (unmap_in 1 1 0x403f_f000 0x2000) (reply.Bytes 0x2000) [] (3 ∷ 4 ∷ 4 ∷ [])
    ∷ []

-- where the other area is leaving too: tables through which its page goes stay
abbrev pub both_leave : World
both_leave =
    record mapped {
      areas =
          area_row 1 1 0x20_0000 0x20_0fff 8 3 (Leaving (1 ∷ []) 1)
          ∷ area_row 1 1 0x403f_f000 0x4040_0fff 3 3 (Leaving [] 1)
          ∷ [];
    }

abbrev pub given_of_leaving : List (Record Global)
given_of_leaving =
    moving (unmap_in 1 1 0x403f_f000 0x2000) (reply.Bytes 0x2000) [] (3 ∷ 4 ∷ 5 ∷ 10 ∷ [])
    ∷ moving (unmap_in 1 1 0x403f_f000 0x2000) (reply.Bytes 0x2000) [] (3 ∷ 4 ∷ 5 ∷ 13 ∷ [])
    ∷ []

-- an UNMAP that waits gives none back, nor does another event, though three of the second page table are idle
abbrev pub gives_idle : List (Record Global)
gives_idle =
    moving (unmap_in 1 1 0x20_0000 0x1000) (reply.Pending EAGAIN) [] (7 ∷ [])
    ∷ moving (unmap_in 1 1 0x20_0000 0x1000) (reply.Pending EAGAIN) [] (7 ∷ 8 ∷ 9 ∷ [])
    ∷ moving (map_in 1 7 1 0x10000 0x1000 0x20_1000) (answers_iova 0x20_1000) [] (7 ∷ [])
    ∷ moving (flush 1) reply.Done [] (7 ∷ [])
    ∷ []

-- without them they may
abbrev pub gives_none : List (Record Global)
gives_none =
    step (unmap_in 1 1 0x20_0000 0x1000) (reply.Pending EAGAIN)
    ∷ step (map_in 1 7 1 0x10000 0x1000 0x20_1000) (answers_iova 0x20_1000)
    ∷ step (flush 1) reply.Done
    ∷ []

-- the second page table is of another address space, in which an area lies at the same addresses
abbrev pub apart : World
apart =
    record paid {
      objects =
          ioas_row 1 1 ∷ device_row 1 2 1 ∷ device_row 1 3 2 ∷ hwpt_row 1 4 1 Bits39 true
          ∷ hwpt_row 1 5 6 Bits39 false ∷ ioas_row 1 6
          ∷ [];
      areas =
          area_row 1 1 0x20_0000 0x20_0fff 8 3 Live
          ∷ area_row 1 1 0x403f_f000 0x4040_0fff 3 3 (Leaving [] 1)
          ∷ area_row 1 6 0x403f_f000 0x4040_0fff 3 3 Live
          ∷ [];
    }

-- with them, those that are idle there, too
abbrev pub given_of_others : List (Record Global)
given_of_others =
    moving (unmap_in 1 1 0x403f_f000 0x2000) (reply.Bytes 0x2000) (14 ∷ []) (3 ∷ 4 ∷ 5 ∷ 7 ∷ [])
    ∷ moving (unmap_in 1 1 0x403f_f000 0x2000) (reply.Bytes 0x2000) [] (3 ∷ 4 ∷ 5 ∷ 12 ∷ [])
    ∷ []

-- ---- an area on the last page of a table of level 1, and one on the first page of the next table

abbrev at_the_border : Phase → Phase → World
at_the_border first second =
    record two_tables {
      objects = ioas_row 1 1 ∷ device_row 1 2 1 ∷ device_row 1 3 2 ∷ hwpt_row 1 4 1 Bits39 true ∷ [];
      memory = memory_row 3 1 0x10000 1 true ∷ memory_row 8 1 0x11000 1 true ∷ [];
      areas = area_row 1 1 0x3f_f000 0x3f_ffff 3 3 first ∷ area_row 1 1 0x40_0000 0x40_0fff 8 3 second ∷ [];
      pins = pin_row 3 0 0 ∷ pin_row 8 0 1 ∷ [];
      table_frames =
          table_row 1 4 3 0 2 ∷ table_row 1 4 2 0 3 ∷ table_row 1 4 1 0x20_0000 4 ∷ table_row 1 4 1 0x40_0000 5 ∷ [];
    }

abbrev pub first_paid : World
first_paid = at_the_border (Leaving [] 1) Live

abbrev pub second_paid : World
second_paid = at_the_border Live (Leaving [] 1)

-- its own table may go with an area, and not that of the other one, nor the table above both
abbrev pub first_gives : List (Record Global)
first_gives = moving (unmap_in 1 1 0x3f_f000 0x1000) (reply.Bytes 0x1000) [] (4 ∷ []) ∷ []

abbrev pub first_gives_others : List (Record Global)
first_gives_others =
    moving (unmap_in 1 1 0x3f_f000 0x1000) (reply.Bytes 0x1000) (14 ∷ []) (5 ∷ [])
    ∷ moving (unmap_in 1 1 0x3f_f000 0x1000) (reply.Bytes 0x1000) (14 ∷ []) (3 ∷ [])
    ∷ []

abbrev pub second_gives : List (Record Global)
second_gives = moving (unmap_in 1 1 0x40_0000 0x1000) (reply.Bytes 0x1000) [] (5 ∷ []) ∷ []

abbrev pub second_gives_others : List (Record Global)
second_gives_others =
    moving (unmap_in 1 1 0x40_0000 0x1000) (reply.Bytes 0x1000) (14 ∷ []) (4 ∷ [])
    ∷ moving (unmap_in 1 1 0x40_0000 0x1000) (reply.Bytes 0x1000) (14 ∷ []) (3 ∷ [])
    ∷ []

-- ---- a file is closed while a page table stands: it goes with its tables, and so do the area and its pin

abbrev pub parting : List (Record Global)
parting =
    moving (detach 1) reply.Done [] (2 ∷ 10 ∷ 11 ∷ [])
    ∷ step (unbind 1 2) reply.Done
    ∷ step (unbind 1 3) reply.Done
    ∷ []

abbrev pub parted : World
parted =
    record unmapped {
      objects = ioas_row 1 1 ∷ hwpt_row 1 5 1 Bits39 false ∷ [];
      attachments = [];
      table_frames =
          table_row 1 5 3 0 6 ∷ table_row 1 5 2 0x4000_0000 7 ∷ table_row 1 5 1 0x4020_0000 8
          ∷ table_row 1 5 1 0x4040_0000 9
          ∷ table_row 1 5 2 0 12 ∷ table_row 1 5 1 0x20_0000 13
          ∷ [];
    }

abbrev pub closing : List (Record Global)
closing = moving (close 1) reply.Done [] (6 ∷ 7 ∷ 8 ∷ 9 ∷ 12 ∷ 13 ∷ []) ∷ []

abbrev pub closed : World
closed =
    record (opening settings) {
      closed = file 1 ∷ [];
      user_pages = page_row 1 0x10 0 ∷ page_row 1 0x11 1 ∷ [];
    }

-- it keeps its root
abbrev pub closing_keeps : List (Record Global)
closing_keeps = moving (close 1) reply.Done [] (7 ∷ 8 ∷ 9 ∷ 12 ∷ 13 ∷ []) ∷ []
