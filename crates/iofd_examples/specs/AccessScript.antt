-- Access objects come, are attached and detached, and go: a script worked by hand in pieces, with the whole world after
-- each. Files 1 to 4 are user 1's. File 1 has two access objects, of which one is attached, and a device; file 2 has
-- one that is attached, file 3 one that isn't, and file 4 has nothing.
use Rattle.std.specs.Prelude.{Some, None, false, true, List, [], ◌∷◌}
use Rattle.std.specs.declared.alloc.Global.{Global}
use Rattle.iofd_examples.specs.Words.{Questions, access_attach, access_create, access_detach, access_row}
use Rattle.iofd_examples.specs.Words.{answers_frame, answers_id, answers_iova, area_row, bind, close, count, destroy}
use Rattle.iofd_examples.specs.Words.{device_row, file, held, id, ioas_alloc, ioas_row, map_in, memory_row, moving}
use Rattle.iofd_examples.specs.Words.{page_row, refused, step, unmap_in, user_map}
use Rattle.iofd_words.specs.Record.{Record}
use Rattle.iofd_words.specs.Settings.{Settings}
use Rattle.iofd_words.specs.World.{World, opening}
use Rattle.iofd_words.specs.declared.query.Query.TheVariants.{FreeFrames}
use Rattle.iofd_words.specs.declared.refusal.Cause.TheVariants as cause
use Rattle.iofd_words.specs.declared.refusal.Errno.TheVariants.{EAGAIN}
use Rattle.iofd_words.specs.declared.reply.Reply.TheVariants as reply
use Rattle.iofd_words.specs.declared.rows.Phase.TheVariants.{Live}
use Rattle.iofd_words.specs.declared.width.Width.TheVariants.{Bits39}

abbrev pub settings : Settings
settings =
    record {
      pool = 8;
      users = 4 ∷ [];
      files =
          record { 0 = 1 } ∷ record { 0 = 1 } ∷ record { 0 = 1 } ∷ record { 0 = 1 }
          ∷ [];
      devices = record { source = record { 0 = 0x08 }; width = Bits39; x86 = false; reserved = [] } ∷ [];
      passes = 1;
    }

-- each file has ids of its own, files 1 and 3 of the same number; a new access object is attached to nothing
abbrev pub beginning : List (Record Global)
beginning =
    step (ioas_alloc 1) (answers_id 1)
    ∷ step (ioas_alloc 1) (answers_id 2)
    ∷ step (ioas_alloc 2) (answers_id 1)
    ∷ step (bind 1 1) (answers_id 3)
    ∷ step (access_create 1) (answers_id 4)
    ∷ step (access_create 1) (answers_id 5)
    ∷ step (access_create 2) (answers_id 2)
    ∷ step (access_create 3) (answers_id 4)
    ∷ step (access_attach 1 4 1) reply.Done
    ∷ step (access_attach 2 2 1) reply.Done
    ∷ []

abbrev pub attached : World
attached =
    record (opening settings) {
      objects =
          ioas_row 1 1 ∷ ioas_row 1 2 ∷ device_row 1 3 1 ∷ access_row 1 4 (Some (id 1)) ∷ access_row 1 5 None
          ∷ ioas_row 2 1 ∷ access_row 2 2 (Some (id 1)) ∷ access_row 3 4 None
          ∷ [];
    }

-- an access object that pins nothing asks for no page, and no UNMAP waits for it
abbrev pub mapping : List (Record Global)
mapping =
    step (user_map 1 0x10000) (answers_frame 0)
    ∷ step (map_in 1 7 1 0x10000 0x1000 0x1000) (answers_iova 0x1000)
    ∷ step (map_in 1 7 1 0x20000 0x1000 0x2000) (answers_iova 0x2000)
    ∷ []

abbrev pub mapped : World
mapped =
    record attached {
      memory = memory_row 11 1 0x10000 1 true ∷ memory_row 12 1 0x20000 1 true ∷ [];
      areas = area_row 1 1 0x1000 0x1fff 11 3 Live ∷ area_row 1 1 0x2000 0x2fff 12 3 Live ∷ [];
      user_pages = page_row 1 0x10 0 ∷ [];
    }

abbrev pub looks_in_mapped : Questions
looks_in_mapped = (held 1, count 0) ∷ (FreeFrames, count 7) ∷ []

abbrev pub unmapping : List (Record Global)
unmapping = step (unmap_in 1 1 0x1000 0x2000) (reply.Bytes 0x2000) ∷ []

abbrev pub unmapped : World
unmapped = record attached { user_pages = page_row 1 0x10 0 ∷ [] }

-- instead of these: the first one moves to the other address space, so that its old one can go, though file 2's is
-- attached to an address space of the same id; detached, and never attached, they go; then the files can be closed
abbrev pub changing : List (Record Global)
changing =
    step (access_detach 1 4) reply.Done
    ∷ step (access_attach 1 4 2) reply.Done
    ∷ step (destroy 1 1) reply.Done
    ∷ step (access_detach 2 2) reply.Done
    ∷ step (destroy 2 2) reply.Done
    ∷ step (destroy 3 4) reply.Done
    ∷ step (close 3) reply.Done
    ∷ step (close 2) reply.Done
    ∷ []

abbrev pub changed : World
changed =
    record attached {
      closed = file 3 ∷ file 2 ∷ [];
      objects =
          ioas_row 1 2 ∷ device_row 1 3 1 ∷ access_row 1 4 (Some (id 2)) ∷ access_row 1 5 None ∷ [];
    }

-- ---- records that differ in one thing, in the world `attached`

-- an id that is unused in the file
abbrev pub new_ids : List (Record Global)
new_ids =
    step (access_create 1) (answers_id 6)
    ∷ step (access_create 1) (answers_id 0x7fff_ffff)
    ∷ step (access_create 2) (answers_id 5)
    ∷ step (access_create 4) (answers_id 1)
    ∷ []

-- ids of a device, of an access object, and such as no object has
abbrev pub other_ids : List (Record Global)
other_ids =
    step (access_create 1) (answers_id 3)
    ∷ step (access_create 1) (answers_id 4)
    ∷ step (access_create 1) (answers_id 0)
    ∷ step (access_create 1) (answers_id 0x8000_0000)
    ∷ []

-- answers of another kind
abbrev pub other_kinds : List (Record Global)
other_kinds =
    step (access_create 1) reply.Done
    ∷ step (access_attach 1 5 1) (answers_id 5)
    ∷ step (access_detach 1 4) (answers_id 4)
    ∷ step (destroy 1 5) (answers_id 5)
    ∷ []

abbrev pub refusals : List (Record Global)
refusals =
    step (access_attach 1 4 2) (refused cause.Bound)
    ∷ step (access_attach 1 4 9) (refused cause.Id)
    ∷ step (access_detach 1 5) (refused cause.Unattached)
    ∷ step (destroy 1 4) (refused cause.InUse)
    ∷ []

-- what is refused is done, or refused by another cause
abbrev pub not_refused : List (Record Global)
not_refused =
    step (access_attach 1 4 2) reply.Done
    ∷ step (access_detach 1 5) reply.Done
    ∷ step (access_create 5) (answers_id 1)
    ∷ step (destroy 1 4) reply.Done
    ∷ step (close 3) reply.Done
    ∷ []

abbrev pub other_causes : List (Record Global)
other_causes =
    step (access_attach 1 4 9) (refused cause.Bound)
    ∷ step (access_detach 1 9) (refused cause.Unattached)
    ∷ step (destroy 1 4) (refused cause.Bound)
    ∷ []

-- what nothing refuses is refused
abbrev pub not_to_be_refused : List (Record Global)
not_to_be_refused =
    step (access_create 1) (refused cause.Full)
    ∷ step (access_attach 1 5 1) (refused cause.Bound)
    ∷ step (access_detach 1 4) (refused cause.InUse)
    ∷ step (destroy 1 5) (refused cause.InUse)
    ∷ []

-- an access object has no table
abbrev pub moves_tables : List (Record Global)
moves_tables = moving (access_attach 1 5 1) reply.Done (0 ∷ []) [] ∷ []

-- an UNMAP waits for an access object that pins nothing; in the world `mapped`
abbrev pub waits_for_nothing : List (Record Global)
waits_for_nothing = step (unmap_in 1 1 0x1000 0x2000) (reply.Pending EAGAIN) ∷ []
