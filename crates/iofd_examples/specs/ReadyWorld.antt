-- A world in which much stands ready to be attached, and the records that lead there. File 1 has three bound devices
-- and address spaces with areas of several kinds, and no page table; file 2 has one page table of HWPT_ALLOC with a
-- device, an automatic one with another device, and four devices more; file 3 has nothing.
use Rattle.std.specs.Prelude.{ℕ, true, false, List, [], ◌∷◌, ◌++◌}
use Rattle.std.specs.declared.alloc.Global.{Global}
use Rattle.iofd_examples.specs.Words.{allow_iovas, answers_frame, answers_id, answers_iova, area_row, attach}
use Rattle.iofd_examples.specs.Words.{attachment_row, bind, device_row, file, from_to, hwpt_alloc, hwpt_row, id}
use Rattle.iofd_examples.specs.Words.{ioas_alloc, ioas_row, map_in, memory_row, moving, page_row, pin_row, step}
use Rattle.iofd_examples.specs.Words.{table_row, user_map}
use Rattle.iofd_words.specs.Bounds.{Bounds}
use Rattle.iofd_words.specs.Record.{Record}
use Rattle.iofd_words.specs.Settings.{DeviceSettings, Settings}
use Rattle.iofd_words.specs.World.{World, opening}
use Rattle.iofd_words.specs.declared.reply.Reply.TheVariants as reply
use Rattle.iofd_words.specs.declared.rows.Object.{Object}
use Rattle.iofd_words.specs.declared.rows.Phase.TheVariants.{Live}
use Rattle.iofd_words.specs.declared.width.Width.{Width}
use Rattle.iofd_words.specs.declared.width.Width.TheVariants.{Bits39, Bits48}

abbrev device_of : ℕ → Width → List Bounds → DeviceSettings
device_of source width reserved =
    record { source = record { 0 = source }; width = width; x86 = false; reserved = reserved }

-- user 1 may have two pinned pages, user 2 one
abbrev pub settings_of : ℕ → Settings
settings_of pool =
    record {
      pool = pool;
      users = 2 ∷ 1 ∷ [];
      files = record { 0 = 1 } ∷ record { 0 = 2 } ∷ record { 0 = 1 } ∷ [];
      devices =
          record {
            source = record { 0 = 0x08 };
            width = Bits39;
            x86 = true;
            reserved = from_to 0x8000 0x8fff ∷ [];
          }
          ∷ device_of 0x10 Bits48 []
          ∷ device_of 0x18 Bits39 (from_to 0x5000 0x5fff ∷ [])
          ∷ device_of 0x20 Bits39 []
          ∷ device_of 0x28 Bits39 []
          ∷ device_of 0x30 Bits48 (from_to 0x9000 0x9fff ∷ [])
          ∷ device_of 0x38 Bits48 []
          ∷ device_of 0x40 Bits39 (from_to 0x9000 0x9fff ∷ [])
          ∷ device_of 0x48 Bits39 []
          ∷ device_of 0x50 Bits39 []
          ∷ [];
      passes = 1;
    }

-- three frames are left in the end
abbrev pub settings : Settings
settings = settings_of 11

-- the users' pages, and the objects of file 1
abbrev pub pages_and_objects : List (Record Global)
pages_and_objects =
    step (user_map 1 0x10000) (answers_frame 0)
    ∷ step (user_map 1 0x11000) (answers_frame 1)
    ∷ step (user_map 1 0x12000) (answers_frame 2)
    ∷ step (user_map 2 0x10000) (answers_frame 3)
    ∷ step (ioas_alloc 1) (answers_id 1)
    ∷ step (bind 1 1) (answers_id 2)
    ∷ step (bind 1 2) (answers_id 3)
    ∷ step (bind 1 3) (answers_id 4)
    ∷ step (ioas_alloc 1) (answers_id 5)
    ∷ step (ioas_alloc 1) (answers_id 6)
    ∷ step (ioas_alloc 1) (answers_id 7)
    ∷ step (ioas_alloc 1) (answers_id 8)
    ∷ step (ioas_alloc 1) (answers_id 9)
    ∷ step (ioas_alloc 1) (answers_id 10)
    ∷ step (ioas_alloc 1) (answers_id 11)
    ∷ step (ioas_alloc 1) (answers_id 12)
    ∷ step (ioas_alloc 1) (answers_id 13)
    ∷ step (ioas_alloc 1) (answers_id 14)
    ∷ []

abbrev objects_of_1 : List Object
objects_of_1 =
    ioas_row 1 1 ∷ device_row 1 2 1 ∷ device_row 1 3 2 ∷ device_row 1 4 3 ∷ ioas_row 1 5 ∷ ioas_row 1 6
    ∷ ioas_row 1 7 ∷ ioas_row 1 8 ∷ ioas_row 1 9 ∷ ioas_row 1 10 ∷ ioas_row 1 11 ∷ ioas_row 1 12
    ∷ ioas_row 1 13 ∷ ioas_row 1 14
    ∷ []

abbrev pub with_objects : World
with_objects =
    record (opening settings) {
      objects = objects_of_1;
      user_pages = page_row 1 0x10 0 ∷ page_row 1 0x11 1 ∷ page_row 1 0x12 2 ∷ page_row 2 0x10 3 ∷ [];
    }

-- their areas and allowed ranges; user 1 has no page at 13000
abbrev pub areas_and_ranges : List (Record Global)
areas_and_ranges =
    step (map_in 1 7 1 0x10000 0x1000 0x1000) (answers_iova 0x1000)
    ∷ step (map_in 1 7 5 0x10000 0x1000 0x80_0000_0000) (answers_iova 0x80_0000_0000)
    ∷ step (map_in 1 7 6 0x10000 0x1000 0x5000) (answers_iova 0x5000)
    ∷ step (map_in 1 7 7 0x12000 0x2000 0x1000) (answers_iova 0x1000)
    ∷ step (map_in 1 7 8 0x10000 0x3000 0x1000) (answers_iova 0x1000)
    ∷ step (allow_iovas 1 9 (from_to 0x5000 0x6fff ∷ [])) reply.Done
    ∷ step (allow_iovas 1 10 (from_to 0x80_0000_0000 0x80_0000_0fff ∷ [])) reply.Done
    ∷ step (map_in 1 7 11 0x10000 0x2000 0x1000) (answers_iova 0x1000)
    ∷ step (map_in 1 7 12 0x11000 0x3000 0x1000) (answers_iova 0x1000)
    ∷ step (map_in 1 7 13 0x13000 0x1000 0x80_0000_0000) (answers_iova 0x80_0000_0000)
    ∷ step (allow_iovas 1 14 (from_to 0x7001 0x8fff ∷ [])) reply.Done
    ∷ []

abbrev pub with_areas : World
with_areas =
    record with_objects {
      memory =
          memory_row 18 1 0x10000 1 true ∷ memory_row 19 1 0x10000 1 true ∷ memory_row 20 1 0x10000 1 true
          ∷ memory_row 21 1 0x12000 2 true ∷ memory_row 22 1 0x10000 3 true ∷ memory_row 25 1 0x10000 2 true
          ∷ memory_row 26 1 0x11000 3 true ∷ memory_row 27 1 0x13000 1 true
          ∷ [];
      areas =
          area_row 1 1 0x1000 0x1fff 18 3 Live ∷ area_row 1 5 0x80_0000_0000 0x80_0000_0fff 19 3 Live
          ∷ area_row 1 6 0x5000 0x5fff 20 3 Live ∷ area_row 1 7 0x1000 0x2fff 21 3 Live
          ∷ area_row 1 8 0x1000 0x3fff 22 3 Live
          ∷ area_row 1 11 0x1000 0x2fff 25 3 Live ∷ area_row 1 12 0x1000 0x3fff 26 3 Live
          ∷ area_row 1 13 0x80_0000_0000 0x80_0000_0fff 27 3 Live
          ∷ [];
      allowed =
          record { file = file 1; ioas = id 14; spans = from_to 0x7001 0x8fff ∷ [] }
          ∷ record { file = file 1; ioas = id 10; spans = from_to 0x80_0000_0000 0x80_0000_0fff ∷ [] }
          ∷ record { file = file 1; ioas = id 9; spans = from_to 0x5000 0x6fff ∷ [] }
          ∷ [];
    }

-- file 2: the page table of HWPT_ALLOC has a root first, and takes two tables more by the MAP
abbrev pub page_tables : List (Record Global)
page_tables =
    step (ioas_alloc 2) (answers_id 1)
    ∷ step (bind 2 5) (answers_id 2)
    ∷ step (bind 2 6) (answers_id 3)
    ∷ moving (hwpt_alloc 2 2 1) (answers_id 4) (4 ∷ []) []
    ∷ moving (map_in 2 7 1 0x10000 0x1000 0x9000) (answers_iova 0x9000) (5 ∷ 6 ∷ []) []
    ∷ step (attach 5 4) (answers_id 4)
    ∷ step (bind 2 7) (answers_id 5)
    ∷ step (bind 2 8) (answers_id 6)
    ∷ step (bind 2 9) (answers_id 7)
    ∷ step (ioas_alloc 2) (answers_id 8)
    ∷ step (bind 2 10) (answers_id 9)
    ∷ moving (attach 10 8) (answers_id 10) (7 ∷ []) []
    ∷ []

abbrev pub ready : World
ready =
    record with_areas {
      objects =
          objects_of_1
          ++ ioas_row 2 1 ∷ device_row 2 2 5 ∷ device_row 2 3 6 ∷ hwpt_row 2 4 1 Bits39 false ∷ device_row 2 5 7
          ∷ device_row 2 6 8 ∷ device_row 2 7 9 ∷ ioas_row 2 8 ∷ device_row 2 9 10
          ∷ hwpt_row 2 10 8 Bits39 true
          ∷ [];
      memory =
          memory_row 18 1 0x10000 1 true ∷ memory_row 19 1 0x10000 1 true ∷ memory_row 20 1 0x10000 1 true
          ∷ memory_row 21 1 0x12000 2 true ∷ memory_row 22 1 0x10000 3 true ∷ memory_row 25 1 0x10000 2 true
          ∷ memory_row 26 1 0x11000 3 true ∷ memory_row 27 1 0x13000 1 true ∷ memory_row 33 2 0x10000 1 true
          ∷ [];
      areas =
          area_row 1 1 0x1000 0x1fff 18 3 Live ∷ area_row 1 5 0x80_0000_0000 0x80_0000_0fff 19 3 Live
          ∷ area_row 1 6 0x5000 0x5fff 20 3 Live ∷ area_row 1 7 0x1000 0x2fff 21 3 Live
          ∷ area_row 1 8 0x1000 0x3fff 22 3 Live
          ∷ area_row 1 11 0x1000 0x2fff 25 3 Live ∷ area_row 1 12 0x1000 0x3fff 26 3 Live
          ∷ area_row 1 13 0x80_0000_0000 0x80_0000_0fff 27 3 Live ∷ area_row 2 1 0x9000 0x9fff 33 3 Live
          ∷ [];
      pins = pin_row 33 0 3 ∷ [];
      attachments = attachment_row 5 2 4 ∷ attachment_row 10 2 10 ∷ [];
      table_frames =
          table_row 2 4 3 0 4 ∷ table_row 2 4 2 0 5 ∷ table_row 2 4 1 0 6 ∷ table_row 2 10 3 0 7 ∷ [];
    }

-- a first page table over an address space pins the pages of its areas
abbrev pub allocating : List (Record Global)
allocating = moving (hwpt_alloc 1 2 1) (answers_id 15) (8 ∷ 9 ∷ 10 ∷ []) [] ∷ []

abbrev pub allocated : World
allocated =
    record ready {
      objects =
          objects_of_1
          ++ hwpt_row 1 15 1 Bits39 false
          ∷ ioas_row 2 1 ∷ device_row 2 2 5 ∷ device_row 2 3 6 ∷ hwpt_row 2 4 1 Bits39 false
          ∷ device_row 2 5 7 ∷ device_row 2 6 8 ∷ device_row 2 7 9 ∷ ioas_row 2 8 ∷ device_row 2 9 10
          ∷ hwpt_row 2 10 8 Bits39 true
          ∷ [];
      pins = pin_row 33 0 3 ∷ pin_row 18 0 0 ∷ [];
      table_frames =
          table_row 2 4 3 0 4 ∷ table_row 2 4 2 0 5 ∷ table_row 2 4 1 0 6 ∷ table_row 2 10 3 0 7
          ∷ table_row 1 15 3 0 8 ∷ table_row 1 15 2 0 9 ∷ table_row 1 15 1 0 10
          ∷ [];
    }

-- the same where the pool has no free frame, and one
abbrev pub without_free : World
without_free = record ready { settings = settings_of 8 }

abbrev pub with_one_free : World
with_one_free = record ready { settings = settings_of 9 }

-- the same where the memory of address space 11 is pinned already, by a copy in address space 9, over which a page
-- table stands: user 1 has as many pinned pages as it may
abbrev pub with_pinned : World
with_pinned =
    record ready {
      objects =
          objects_of_1
          ++ hwpt_row 1 15 9 Bits39 false
          ∷ ioas_row 2 1 ∷ device_row 2 2 5 ∷ device_row 2 3 6 ∷ hwpt_row 2 4 1 Bits39 false
          ∷ device_row 2 5 7 ∷ device_row 2 6 8 ∷ device_row 2 7 9 ∷ ioas_row 2 8 ∷ device_row 2 9 10
          ∷ hwpt_row 2 10 8 Bits39 true
          ∷ [];
      areas =
          area_row 1 1 0x1000 0x1fff 18 3 Live ∷ area_row 1 9 0x1000 0x2fff 25 3 Live
          ∷ area_row 1 11 0x1000 0x2fff 25 3 Live ∷ area_row 2 1 0x9000 0x9fff 33 3 Live
          ∷ [];
      pins = pin_row 33 0 3 ∷ pin_row 25 0 0 ∷ pin_row 25 1 1 ∷ [];
    }

-- the same with closed files, which have nothing in a run
abbrev pub with_closed : World
with_closed = record ready { closed = file 1 ∷ file 2 ∷ [] }
