-- For which causes objects and files are refused, in the world that stands ready: file 1 has the address spaces 1 and 5
-- to 14 and the devices 2 to 4, none of them attached; file 2 has the page table 4 of device 5, which it has under 2,
-- and the automatic one 10 of device 10 over address space 8. File 3 is open, and file 4 isn't there.
use Rattle.std.specs.Prelude.{[], ◌∷◌}
use Rattle.iofd_examples.specs.Words.{Refusals, bind, close, destroy, ioas_alloc, unbind}
use Rattle.iofd_words.specs.declared.refusal.Cause.TheVariants as cause

abbrev pub refusals : Refusals
refusals =
    (ioas_alloc 1, [])
    ∷ (ioas_alloc 3, [])
    ∷ (ioas_alloc 4, cause.Id ∷ [])
    ∷ (ioas_alloc 0, cause.Id ∷ [])
    -- an address space, and one with a page table; a page table with a device; a device, attached or not
    ∷ (destroy 1 1, [])
    ∷ (destroy 1 5, [])
    ∷ (destroy 2 1, cause.InUse ∷ [])
    ∷ (destroy 2 8, cause.InUse ∷ [])
    ∷ (destroy 2 4, cause.InUse ∷ [])
    ∷ (destroy 2 10, cause.InUse ∷ [])
    ∷ (destroy 1 2, cause.Bound ∷ [])
    ∷ (destroy 2 2, cause.Bound ∷ [])
    -- an unknown id, and one of another file
    ∷ (destroy 1 99, cause.Id ∷ [])
    ∷ (destroy 2 11, cause.Id ∷ [])
    ∷ (destroy 3 1, cause.Id ∷ [])
    ∷ (destroy 4 1, cause.Id ∷ cause.Id ∷ [])
    ∷ (close 1, cause.InUse ∷ [])
    ∷ (close 2, cause.InUse ∷ [])
    ∷ (close 3, [])
    ∷ (close 4, cause.Id ∷ [])
    -- a device that is bound by this file, by another one, or isn't there
    ∷ (bind 1 4, [])
    ∷ (bind 1 1, cause.Bound ∷ [])
    ∷ (bind 2 1, cause.Bound ∷ [])
    ∷ (bind 1 11, cause.Id ∷ [])
    ∷ (bind 1 0, cause.Id ∷ [])
    ∷ (bind 4 4, cause.Id ∷ [])
    ∷ (bind 4 11, cause.Id ∷ cause.Id ∷ [])
    ∷ (bind 4 1, cause.Id ∷ cause.Bound ∷ [])
    -- by the device's id alone
    ∷ (unbind 1 2, [])
    ∷ (unbind 1 1, cause.Id ∷ [])
    ∷ (unbind 1 99, cause.Id ∷ [])
    ∷ (unbind 2 4, cause.Id ∷ [])
    ∷ (unbind 2 2, cause.InUse ∷ [])
    ∷ (unbind 2 9, cause.InUse ∷ [])
    ∷ (unbind 2 3, [])
    ∷ (unbind 4 2, cause.Id ∷ cause.Id ∷ [])
    ∷ []

-- where files 1 and 2 are closed and have their objects still, which no run leaves
abbrev pub refusals_of_closed : Refusals
refusals_of_closed =
    (ioas_alloc 1, cause.Id ∷ [])
    ∷ (ioas_alloc 3, [])
    ∷ (destroy 1 1, cause.Id ∷ [])
    ∷ (destroy 1 99, cause.Id ∷ cause.Id ∷ [])
    ∷ (destroy 2 1, cause.Id ∷ cause.InUse ∷ [])
    ∷ (destroy 1 2, cause.Id ∷ cause.Bound ∷ [])
    ∷ (close 1, cause.Id ∷ cause.InUse ∷ [])
    ∷ (bind 1 4, cause.Id ∷ [])
    ∷ (unbind 1 2, cause.Id ∷ [])
    ∷ (unbind 2 2, cause.Id ∷ cause.InUse ∷ [])
    ∷ []

-- the second script's last world, in which file 2 is closed, and its world in which memory is shared: there the page
-- table 4 has no device, and 3 has one
abbrev pub refusals_after_close : Refusals
refusals_after_close =
    (close 2, cause.Id ∷ [])
    ∷ (close 1, [])
    ∷ (ioas_alloc 2, cause.Id ∷ [])
    ∷ (ioas_alloc 1, [])
    ∷ (bind 2 2, cause.Id ∷ [])
    ∷ (bind 1 2, [])
    ∷ []

abbrev pub refusals_in_shared : Refusals
refusals_in_shared =
    (destroy 1 4, [])
    ∷ (destroy 1 3, cause.InUse ∷ [])
    ∷ (destroy 1 1, cause.InUse ∷ [])
    ∷ (destroy 1 5, [])
    ∷ []
