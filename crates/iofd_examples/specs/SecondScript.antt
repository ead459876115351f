-- A second script, worked by hand in pieces: what each piece of records leaves is written out as a world, and the next
-- piece begins there. Two users with two files, and a third file of the first user; a device of width 39 that keeps the
-- addresses of interrupts, one of width 48 that keeps a span; pages with different bytes, an area that is only read, a
-- page that its user gives up while it is pinned, a COPY, addresses that the server chooses, an area that leaves, and a
-- frame that is given out again.
use Rattle.std.specs.Prelude.{ℕ, true, false, List, [], ◌∷◌}
use Rattle.std.specs.declared.alloc.Global.{Global}
use Rattle.iofd_examples.specs.Words.{allow_iovas, answers_frame, answers_id, answers_iova, area_row, attach}
use Rattle.iofd_examples.specs.Words.{attachment_row, bind, close, copy_in, destroy, detach, device_row, device_write}
use Rattle.iofd_examples.specs.Words.{fault, file, flush, from_to, hwpt_alloc, hwpt_row, id, ioas_alloc, ioas_row}
use Rattle.iofd_examples.specs.Words.{map_in, memory_row, moving, page_row, passed, pin_row, step, table_row, unbind}
use Rattle.iofd_examples.specs.Words.{unmap_in, user_map, user_unmap, user_write}
use Rattle.iofd_words.specs.Record.{Record}
use Rattle.iofd_words.specs.Settings.{Settings}
use Rattle.iofd_words.specs.World.{World}
use Rattle.iofd_words.specs.declared.fault.AccessKind.TheVariants.{Write}
use Rattle.iofd_words.specs.declared.fault.FaultReason.TheVariants.{WriteDenied}
use Rattle.iofd_words.specs.declared.refusal.Errno.TheVariants.{EAGAIN}
use Rattle.iofd_words.specs.declared.reply.Reply.TheVariants as reply
use Rattle.iofd_words.specs.declared.rows.Phase.TheVariants.{Live, Leaving}
use Rattle.iofd_words.specs.declared.width.Width.TheVariants.{Bits39, Bits48}

-- a pool of 17 frames; users 1 and 2 may have 3 and 2 pinned pages; files 1 and 3 are user 1's, file 2 is user 2's
abbrev pub settings : Settings
settings =
    record {
      pool = 17;
      users = 3 ∷ 2 ∷ [];
      files = record { 0 = 1 } ∷ record { 0 = 2 } ∷ record { 0 = 1 } ∷ [];
      devices =
          record { source = record { 0 = 0x10 }; width = Bits39; x86 = true; reserved = [] }
          ∷ record {
            source = record { 0 = 0x100 };
            width = Bits48;
            x86 = false;
            reserved = from_to 0x8000 0x8fff ∷ [];
          }
          ∷ [];
      passes = 1;
    }

-- ---- two users' pages are mapped, at the same address of two files

abbrev pub beginning : List (Record Global)
beginning =
    step (user_map 1 0x10000) (answers_frame 0)
    ∷ step (user_map 1 0x11000) (answers_frame 1)
    ∷ step (user_map 2 0x10000) (answers_frame 2)
    ∷ step (user_map 2 0x20000) (answers_frame 3)
    ∷ step (user_write 1 0x10000 (0xaa ∷ 0xbb ∷ [])) reply.Done
    ∷ step (user_write 1 0x10001 (0xdd ∷ [])) reply.Done
    ∷ step (user_write 1 0x11000 (0x11 ∷ [])) reply.Done
    ∷ step (user_write 2 0x10000 (0xcc ∷ [])) reply.Done
    ∷ step (ioas_alloc 1) (answers_id 1)
    ∷ step (ioas_alloc 2) (answers_id 1)
    ∷ step (map_in 1 7 1 0x10000 0x2000 0x1000) (answers_iova 0x1000)
    ∷ step (map_in 2 5 1 0x10000 0x1000 0x1000) (answers_iova 0x1000)
    ∷ []

-- no device is attached, so nothing is pinned
abbrev pub mapped : World
mapped =
    record {
      settings = settings;
      closed = [];
      objects = ioas_row 1 1 ∷ ioas_row 2 1 ∷ [];
      memory = memory_row 10 1 0x10000 2 true ∷ memory_row 11 2 0x10000 1 false ∷ [];
      areas = area_row 1 1 0x1000 0x2fff 10 3 Live ∷ area_row 2 1 0x1000 0x1fff 11 1 Live ∷ [];
      allowed = [];
      user_pages = page_row 1 0x10 0 ∷ page_row 1 0x11 1 ∷ page_row 2 0x10 2 ∷ page_row 2 0x20 3 ∷ [];
      pins = [];
      attachments = [];
      access_pins = [];
      table_frames = [];
      tracked = [];
      writes =
          record { frame = 2; offset = 0; bytes = 0xcc ∷ [] }
          ∷ record { frame = 1; offset = 0; bytes = 0x11 ∷ [] }
          ∷ record { frame = 0; offset = 1; bytes = 0xdd ∷ [] }
          ∷ record { frame = 0; offset = 0; bytes = 0xaa ∷ 0xbb ∷ [] }
          ∷ [];
    }

-- ---- each device is attached, by tables of three levels and of four

abbrev pub attaching : List (Record Global)
attaching =
    step (bind 1 1) (answers_id 2)
    ∷ step (bind 2 2) (answers_id 2)
    ∷ moving (attach 1 1) (answers_id 3) (4 ∷ 5 ∷ 6 ∷ []) []
    ∷ moving (attach 2 1) (answers_id 3) (7 ∷ 8 ∷ 9 ∷ 10 ∷ []) []
    ∷ []

abbrev pub attached : World
attached =
    record mapped {
      objects =
          ioas_row 1 1 ∷ device_row 1 2 1 ∷ hwpt_row 1 3 1 Bits39 true
          ∷ ioas_row 2 1 ∷ device_row 2 2 2 ∷ hwpt_row 2 3 1 Bits48 true
          ∷ [];
      pins = pin_row 10 0 0 ∷ pin_row 10 1 1 ∷ pin_row 11 0 2 ∷ [];
      attachments = attachment_row 1 1 3 ∷ attachment_row 2 2 3 ∷ [];
      table_frames =
          table_row 1 3 3 0 4 ∷ table_row 1 3 2 0 5 ∷ table_row 1 3 1 0 6
          ∷ table_row 2 3 4 0 7 ∷ table_row 2 3 3 0 8 ∷ table_row 2 3 2 0 9 ∷ table_row 2 3 1 0 10
          ∷ [];
    }

-- ---- user 1 gives a pinned page up and gets another one there; the device keeps the old one

abbrev pub renewing : List (Record Global)
renewing =
    step (user_unmap 1 0x10000) reply.Done
    ∷ step (user_map 1 0x10000) (answers_frame 11)
    ∷ step (device_write 1 0x1fff (0xee ∷ [])) (passed 0)
    ∷ step (user_write 1 0x10000 (0x99 ∷ [])) reply.Done
    ∷ []

abbrev pub renewed : World
renewed =
    record attached {
      user_pages = page_row 1 0x11 1 ∷ page_row 2 0x10 2 ∷ page_row 2 0x20 3 ∷ page_row 1 0x10 11 ∷ [];
      writes =
          record { frame = 11; offset = 0; bytes = 0x99 ∷ [] }
          ∷ record { frame = 0; offset = 0xfff; bytes = 0xee ∷ [] }
          ∷ record { frame = 2; offset = 0; bytes = 0xcc ∷ [] }
          ∷ record { frame = 1; offset = 0; bytes = 0x11 ∷ [] }
          ∷ record { frame = 0; offset = 1; bytes = 0xdd ∷ [] }
          ∷ record { frame = 0; offset = 0; bytes = 0xaa ∷ 0xbb ∷ [] }
          ∷ [];
    }

-- ---- instead of what comes below: of bytes side by side the first was written last

abbrev pub rewriting : List (Record Global)
rewriting =
    step (user_write 1 0x10001 (0x55 ∷ [])) reply.Done
    ∷ step (user_write 1 0x10000 (0x66 ∷ [])) reply.Done
    ∷ []

abbrev pub rewritten : World
rewritten =
    record renewed {
      writes =
          record { frame = 11; offset = 0; bytes = 0x66 ∷ [] }
          ∷ record { frame = 11; offset = 1; bytes = 0x55 ∷ [] }
          ∷ renewed.writes;
    }

-- ---- a page table beside the automatic one, a second address space with allowed ranges, a copy there, and more
-- memory: its pages aren't asked for, as nothing translates it

abbrev pub sharing : List (Record Global)
sharing =
    moving (hwpt_alloc 1 2 1) (answers_id 4) (12 ∷ 13 ∷ 14 ∷ []) []
    ∷ step (ioas_alloc 1) (answers_id 5)
    ∷ step (allow_iovas 1 5 (from_to 0x7000 0x9fff ∷ from_to 0x3000 0x4fff ∷ [])) reply.Done
    ∷ step (copy_in 1 4 5 1 0x2000 0 0x1000) (answers_iova 0x3000)
    ∷ step (map_in 1 4 5 0x11000 0x1000 0) (answers_iova 0x7000)
    ∷ step (map_in 1 5 5 0x12000 0x1000 0xb000) (answers_iova 0xb000)
    ∷ step (map_in 1 5 5 0x10000 0x2000 0xd000) (answers_iova 0xd000)
    ∷ step (map_in 1 5 5 0x11000 0x2000 0x10000) (answers_iova 0x10000)
    ∷ step (allow_iovas 1 1 (from_to 0x1000 0x2fff ∷ [])) reply.Done
    ∷ step (ioas_alloc 3) (answers_id 1)
    ∷ []

abbrev pub shared : World
shared =
    record renewed {
      objects =
          ioas_row 1 1 ∷ device_row 1 2 1 ∷ hwpt_row 1 3 1 Bits39 true ∷ hwpt_row 1 4 1 Bits39 false
          ∷ ioas_row 1 5
          ∷ ioas_row 2 1 ∷ device_row 2 2 2 ∷ hwpt_row 2 3 1 Bits48 true
          ∷ ioas_row 3 1
          ∷ [];
      memory =
          memory_row 10 1 0x10000 2 true ∷ memory_row 11 2 0x10000 1 false ∷ memory_row 24 1 0x11000 1 false
          ∷ memory_row 25 1 0x12000 1 false ∷ memory_row 26 1 0x10000 2 false ∷ memory_row 27 1 0x11000 2 false
          ∷ [];
      areas =
          area_row 1 1 0x1000 0x2fff 10 3 Live ∷ area_row 2 1 0x1000 0x1fff 11 1 Live
          ∷ area_row 1 5 0x3000 0x4fff 10 1 Live ∷ area_row 1 5 0x7000 0x7fff 24 1 Live
          ∷ area_row 1 5 0xb000 0xbfff 25 1 Live
          ∷ area_row 1 5 0xd000 0xefff 26 1 Live ∷ area_row 1 5 0x10000 0x11fff 27 1 Live
          ∷ [];
      allowed =
          record { file = file 1; ioas = id 1; spans = from_to 0x1000 0x2fff ∷ [] }
          ∷ record { file = file 1; ioas = id 5; spans = from_to 0x7000 0x9fff ∷ from_to 0x3000 0x4fff ∷ [] }
          ∷ [];
      table_frames =
          table_row 1 3 3 0 4 ∷ table_row 1 3 2 0 5 ∷ table_row 1 3 1 0 6
          ∷ table_row 2 3 4 0 7 ∷ table_row 2 3 3 0 8 ∷ table_row 2 3 2 0 9 ∷ table_row 2 3 1 0 10
          ∷ table_row 1 4 3 0 12 ∷ table_row 1 4 2 0 13 ∷ table_row 1 4 1 0 14
          ∷ [];
    }

-- ---- the first area leaves; while device 1 owes its flush it may still write

abbrev pub unmapping : List (Record Global)
unmapping =
    step (unmap_in 1 1 0x1000 0x2000) (reply.Pending EAGAIN)
    ∷ step (device_write 1 0x1000 (0x77 ∷ [])) (passed 0)
    ∷ []

-- the areas, by what the first one owes; one UNMAP of it has waited
abbrev pub leaving_areas : List ℕ → World
leaving_areas owed =
    record shared {
      areas =
          area_row 1 1 0x1000 0x2fff 10 3 (Leaving owed 1) ∷ area_row 2 1 0x1000 0x1fff 11 1 Live
          ∷ area_row 1 5 0x3000 0x4fff 10 1 Live ∷ area_row 1 5 0x7000 0x7fff 24 1 Live
          ∷ area_row 1 5 0xb000 0xbfff 25 1 Live
          ∷ area_row 1 5 0xd000 0xefff 26 1 Live ∷ area_row 1 5 0x10000 0x11fff 27 1 Live
          ∷ [];
      writes =
          record { frame = 0; offset = 0; bytes = 0x77 ∷ [] }
          ∷ record { frame = 11; offset = 0; bytes = 0x99 ∷ [] }
          ∷ record { frame = 0; offset = 0xfff; bytes = 0xee ∷ [] }
          ∷ record { frame = 2; offset = 0; bytes = 0xcc ∷ [] }
          ∷ record { frame = 1; offset = 0; bytes = 0x11 ∷ [] }
          ∷ record { frame = 0; offset = 1; bytes = 0xdd ∷ [] }
          ∷ record { frame = 0; offset = 0; bytes = 0xaa ∷ 0xbb ∷ [] }
          ∷ [];
    }

abbrev pub owing : World
owing = leaving_areas (1 ∷ [])

-- instead of what comes below: the device's write is denied, and changes nothing
abbrev pub denying : List (Record Global)
denying =
    step (device_write 1 0x1000 (0x78 ∷ [])) (reply.Fault (fault 0x10 1 Write WriteDenied))
    ∷ step (device_write 1 0x3000 (0x79 ∷ [])) (reply.Fault (fault 0x10 3 Write WriteDenied))
    ∷ []

abbrev pub flushing : List (Record Global)
flushing = step (flush 1) reply.Done ∷ []

abbrev pub paid : World
paid = leaving_areas []

-- ---- it goes; its memory stays under the copy, but nothing translates it any more, and its first frame is given out
-- again: it reads zero. The device moves from the automatic page table, which goes with it, to the other one

abbrev pub ending : List (Record Global)
ending =
    step (unmap_in 1 1 0x1000 0x2000) (reply.Bytes 0x2000)
    ∷ step (user_map 2 0x30000) (answers_frame 0)
    ∷ moving (detach 1) reply.Done [] (4 ∷ 5 ∷ 6 ∷ [])
    ∷ step (attach 1 4) (answers_id 4)
    ∷ []

abbrev pub ended : World
ended =
    record shared {
      objects =
          ioas_row 1 1 ∷ device_row 1 2 1 ∷ hwpt_row 1 4 1 Bits39 false ∷ ioas_row 1 5
          ∷ ioas_row 2 1 ∷ device_row 2 2 2 ∷ hwpt_row 2 3 1 Bits48 true
          ∷ ioas_row 3 1
          ∷ [];
      areas =
          area_row 2 1 0x1000 0x1fff 11 1 Live
          ∷ area_row 1 5 0x3000 0x4fff 10 1 Live ∷ area_row 1 5 0x7000 0x7fff 24 1 Live
          ∷ area_row 1 5 0xb000 0xbfff 25 1 Live
          ∷ area_row 1 5 0xd000 0xefff 26 1 Live ∷ area_row 1 5 0x10000 0x11fff 27 1 Live
          ∷ [];
      user_pages =
          page_row 1 0x11 1 ∷ page_row 2 0x10 2 ∷ page_row 2 0x20 3 ∷ page_row 1 0x10 11
          ∷ page_row 2 0x30 0 ∷ [];
      pins = pin_row 11 0 2 ∷ [];
      attachments = attachment_row 1 1 4 ∷ attachment_row 2 2 3 ∷ [];
      table_frames =
          table_row 2 3 4 0 7 ∷ table_row 2 3 3 0 8 ∷ table_row 2 3 2 0 9 ∷ table_row 2 3 1 0 10
          ∷ table_row 1 4 3 0 12 ∷ table_row 1 4 2 0 13 ∷ table_row 1 4 1 0 14
          ∷ [];
      writes =
          record { frame = 11; offset = 0; bytes = 0x99 ∷ [] }
          ∷ record { frame = 2; offset = 0; bytes = 0xcc ∷ [] }
          ∷ record { frame = 1; offset = 0; bytes = 0x11 ∷ [] }
          ∷ [];
    }

-- ---- instead of what comes below: two pages that nothing has translated are copied to where a page table does, and
-- are pinned at the frames that their user has there now

abbrev pub copying : List (Record Global)
copying = step (copy_in 1 5 1 5 0x2000 0x4000 0xd000) (answers_iova 0x4000) ∷ []

abbrev pub copied : World
copied =
    record ended {
      areas =
          area_row 2 1 0x1000 0x1fff 11 1 Live
          ∷ area_row 1 5 0x3000 0x4fff 10 1 Live ∷ area_row 1 5 0x7000 0x7fff 24 1 Live
          ∷ area_row 1 5 0xb000 0xbfff 25 1 Live
          ∷ area_row 1 5 0xd000 0xefff 26 1 Live ∷ area_row 1 5 0x10000 0x11fff 27 1 Live
          ∷ area_row 1 1 0x4000 0x5fff 26 1 Live
          ∷ [];
      pins = pin_row 11 0 2 ∷ pin_row 26 0 11 ∷ pin_row 26 1 1 ∷ [];
    }

-- ---- of two areas that go at once only their own memory goes; the other address space is destroyed with all its
-- areas, the devices are taken away, and file 2 is closed with all that it had

abbrev pub closing : List (Record Global)
closing =
    step (unmap_in 1 5 0x3000 0x5000) (reply.Bytes 0x3000)
    ∷ step (map_in 1 7 1 0x10000 0x1000 0x1000) (answers_iova 0x1000)
    ∷ step (destroy 1 5) reply.Done
    ∷ step (detach 1) reply.Done
    ∷ step (unbind 1 2) reply.Done
    ∷ []

-- the page table that HWPT_ALLOC made stands without a device, and the new area's page is pinned at the frame that it
-- has now
abbrev pub unbound : World
unbound =
    record ended {
      objects =
          ioas_row 1 1 ∷ hwpt_row 1 4 1 Bits39 false
          ∷ ioas_row 2 1 ∷ device_row 2 2 2 ∷ hwpt_row 2 3 1 Bits48 true
          ∷ ioas_row 3 1
          ∷ [];
      memory = memory_row 11 2 0x10000 1 false ∷ memory_row 38 1 0x10000 1 true ∷ [];
      areas = area_row 2 1 0x1000 0x1fff 11 1 Live ∷ area_row 1 1 0x1000 0x1fff 38 3 Live ∷ [];
      allowed = record { file = file 1; ioas = id 1; spans = from_to 0x1000 0x2fff ∷ [] } ∷ [];
      pins = pin_row 11 0 2 ∷ pin_row 38 0 11 ∷ [];
      attachments = attachment_row 2 2 3 ∷ [];
    }

-- its end unpins the page
abbrev pub destroying : List (Record Global)
destroying = moving (destroy 1 4) reply.Done [] (12 ∷ 13 ∷ 14 ∷ []) ∷ []

abbrev pub destroyed : World
destroyed =
    record unbound {
      objects = ioas_row 1 1 ∷ ioas_row 2 1 ∷ device_row 2 2 2 ∷ hwpt_row 2 3 1 Bits48 true
          ∷ ioas_row 3 1 ∷ [];
      pins = pin_row 11 0 2 ∷ [];
      table_frames =
          table_row 2 3 4 0 7 ∷ table_row 2 3 3 0 8 ∷ table_row 2 3 2 0 9 ∷ table_row 2 3 1 0 10 ∷ [];
    }

abbrev pub parting : List (Record Global)
parting =
    moving (detach 2) reply.Done [] (7 ∷ 8 ∷ 9 ∷ 10 ∷ [])
    ∷ step (unbind 2 2) reply.Done
    ∷ step (allow_iovas 2 1 (from_to 0x1000 0x1fff ∷ [])) reply.Done
    ∷ step (close 2) reply.Done
    ∷ step (user_map 2 0x40000) (answers_frame 7)
    ∷ []

abbrev pub parted : World
parted =
    record unbound {
      closed = file 2 ∷ [];
      objects = ioas_row 1 1 ∷ ioas_row 3 1 ∷ [];
      memory = memory_row 38 1 0x10000 1 true ∷ [];
      areas = area_row 1 1 0x1000 0x1fff 38 3 Live ∷ [];
      user_pages =
          page_row 1 0x11 1 ∷ page_row 2 0x10 2 ∷ page_row 2 0x20 3 ∷ page_row 1 0x10 11 ∷ page_row 2 0x30 0
          ∷ page_row 2 0x40 7 ∷ [];
      pins = [];
      attachments = [];
      table_frames = [];
    }
