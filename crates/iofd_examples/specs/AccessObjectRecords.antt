-- For which causes events are refused where access objects are. File 1 has the address spaces 1 and 2, the device 3 and
-- the access objects 4, attached to the first, and 5, attached to none; file 2 the address space 1 and the access
-- object 2, attached to it; file 3 the access object 4, attached to none. File 4 has nothing, and file 5 isn't there.
use Rattle.std.specs.Prelude.{Some, false, [], ◌∷◌}
use Rattle.iofd_examples.specs.AccessScript.{attached}
use Rattle.iofd_examples.specs.Words.{Refusals, access_attach, access_create, access_detach, access_row, allow_iovas}
use Rattle.iofd_examples.specs.Words.{attach, close, copy_in, destroy, file, hwpt_alloc, hwpt_row, id, ioas_row, map_in}
use Rattle.iofd_examples.specs.Words.{unbind, unmap_in}
use Rattle.iofd_words.specs.World.{World}
use Rattle.iofd_words.specs.declared.refusal.Cause.TheVariants as cause
use Rattle.iofd_words.specs.declared.width.Width.TheVariants.{Bits39}

abbrev pub creations : Refusals
creations =
    (access_create 1, [])
    ∷ (access_create 4, [])
    ∷ (access_create 5, cause.Id ∷ [])
    ∷ (access_create 0, cause.Id ∷ [])
    ∷ []

abbrev pub attachments : Refusals
attachments =
    (access_attach 1 5 1, [])
    ∷ (access_attach 1 5 2, [])
    -- file 5 isn't there
    ∷ (access_attach 5 5 1, cause.Id ∷ cause.Id ∷ cause.Id ∷ [])
    -- an unknown id, an address space's, a device's, one of the other file
    ∷ (access_attach 1 9 1, cause.Id ∷ [])
    ∷ (access_attach 1 1 1, cause.Id ∷ [])
    ∷ (access_attach 1 3 1, cause.Id ∷ [])
    ∷ (access_attach 2 4 1, cause.Id ∷ [])
    -- to an unknown id, a device's, an access object's, one of the other file
    ∷ (access_attach 1 5 9, cause.Id ∷ [])
    ∷ (access_attach 1 5 3, cause.Id ∷ [])
    ∷ (access_attach 1 5 4, cause.Id ∷ [])
    ∷ (access_attach 3 4 1, cause.Id ∷ [])
    ∷ (access_attach 1 9 9, cause.Id ∷ cause.Id ∷ [])
    -- one that is attached, to where it is, to another address space, to none
    ∷ (access_attach 1 4 1, cause.Bound ∷ [])
    ∷ (access_attach 1 4 2, cause.Bound ∷ [])
    ∷ (access_attach 1 4 9, cause.Id ∷ cause.Bound ∷ [])
    ∷ (access_attach 2 2 2, cause.Id ∷ cause.Bound ∷ [])
    ∷ []

-- what is no access object isn't attached either
abbrev pub detachments : Refusals
detachments =
    (access_detach 1 4, [])
    ∷ (access_detach 2 2, [])
    ∷ (access_detach 1 5, cause.Unattached ∷ [])
    ∷ (access_detach 3 4, cause.Unattached ∷ [])
    ∷ (access_detach 1 9, cause.Id ∷ cause.Unattached ∷ [])
    ∷ (access_detach 1 1, cause.Id ∷ cause.Unattached ∷ [])
    ∷ (access_detach 1 3, cause.Id ∷ cause.Unattached ∷ [])
    ∷ (access_detach 2 4, cause.Id ∷ cause.Unattached ∷ [])
    ∷ (access_detach 5 4, cause.Id ∷ cause.Id ∷ cause.Unattached ∷ [])
    ∷ []

-- an address space with an attached access object, and one without; attached and unattached access objects
abbrev pub ends : Refusals
ends =
    (destroy 1 1, cause.InUse ∷ [])
    ∷ (destroy 1 2, [])
    ∷ (destroy 1 3, cause.Bound ∷ [])
    ∷ (destroy 1 4, cause.InUse ∷ [])
    ∷ (destroy 1 5, [])
    ∷ (destroy 2 1, cause.InUse ∷ [])
    ∷ (destroy 2 2, cause.InUse ∷ [])
    ∷ (destroy 3 4, [])
    ∷ (destroy 5 1, cause.Id ∷ cause.Id ∷ [])
    -- a file with a device and access objects, with an attached one, with one that isn't, with none
    ∷ (close 1, cause.InUse ∷ [])
    ∷ (close 2, cause.InUse ∷ [])
    ∷ (close 3, cause.InUse ∷ [])
    ∷ (close 4, [])
    ∷ (close 5, cause.Id ∷ [])
    ∷ []

-- an access object is of no kind that other events take
abbrev pub of_other_kinds : Refusals
of_other_kinds =
    (attach 1 1, [])
    ∷ (attach 1 4, cause.Id ∷ [])
    ∷ (attach 1 5, cause.Id ∷ [])
    ∷ (unbind 1 4, cause.Id ∷ [])
    ∷ (hwpt_alloc 1 4 1, cause.Id ∷ [])
    ∷ (hwpt_alloc 1 3 4, cause.Id ∷ [])
    ∷ (map_in 1 7 4 0x10000 0x1000 0x1000, cause.Id ∷ [])
    ∷ (copy_in 1 5 4 1 0x1000 0x1000 0x1000, cause.Id ∷ cause.Span ∷ [])
    ∷ (unmap_in 1 4 0 0xffff_ffff_ffff_ffff, cause.Id ∷ [])
    ∷ (allow_iovas 1 4 [], cause.Id ∷ [])
    ∷ []

-- where files 1 and 3 are closed and have their objects still, which no run leaves
abbrev pub closed : World
closed = record attached { closed = file 1 ∷ file 3 ∷ [] }

abbrev pub of_closed : Refusals
of_closed =
    (access_create 1, cause.Id ∷ [])
    ∷ (access_create 2, [])
    ∷ (access_attach 1 5 1, cause.Id ∷ [])
    ∷ (access_attach 1 9 1, cause.Id ∷ cause.Id ∷ [])
    ∷ (access_attach 1 5 9, cause.Id ∷ cause.Id ∷ [])
    ∷ (access_attach 1 4 1, cause.Id ∷ cause.Bound ∷ [])
    ∷ (access_detach 1 4, cause.Id ∷ [])
    ∷ (access_detach 1 5, cause.Id ∷ cause.Unattached ∷ [])
    ∷ (destroy 1 1, cause.Id ∷ cause.InUse ∷ [])
    ∷ (destroy 1 4, cause.Id ∷ cause.InUse ∷ [])
    ∷ (close 3, cause.Id ∷ cause.InUse ∷ [])
    ∷ []

-- file 2's address space has a page table and no access object, a page table and an attached access object; the access
-- object of the same id in the other file is attached elsewhere
abbrev pub with_page_tables : World
with_page_tables =
    record attached {
      objects =
          ioas_row 1 1 ∷ ioas_row 1 2 ∷ access_row 1 4 (Some (id 2))
          ∷ ioas_row 2 1 ∷ ioas_row 2 2 ∷ hwpt_row 2 3 1 Bits39 false ∷ hwpt_row 2 4 2 Bits39 false
          ∷ access_row 2 5 (Some (id 2))
          ∷ [];
    }

abbrev pub ends_of_page_tables : Refusals
ends_of_page_tables =
    (destroy 1 1, [])
    ∷ (destroy 1 2, cause.InUse ∷ [])
    ∷ (destroy 2 1, cause.InUse ∷ [])
    ∷ (destroy 2 2, cause.InUse ∷ [])
    ∷ (destroy 2 3, [])
    ∷ (destroy 2 4, [])
    ∷ (access_attach 2 5 3, cause.Id ∷ cause.Bound ∷ [])
    ∷ (access_attach 2 3 1, cause.Id ∷ [])
    ∷ (close 2, cause.InUse ∷ [])
    ∷ []
