-- For which causes users' memory and accesses are refused, in the world that stands ready. User 1 has the pages 10000
-- to 12000, user 2 the page 10000. Device 4 isn't bound; device 1 is of an x86 machine, and isn't attached, which is no
-- refusal.
use Rattle.std.specs.Prelude.{List, ℕ, [], ◌∷◌, replicate}
use Rattle.iofd_examples.specs.Words.{Refusals, device_write, user_map, user_unmap, user_write}
use Rattle.iofd_words.specs.declared.refusal.Cause.TheVariants as cause

abbrev one : List ℕ
one = 7 ∷ []

abbrev two : List ℕ
two = 7 ∷ 8 ∷ []

abbrev pub of_users : Refusals
of_users =
    (user_map 1 0x20000, [])
    ∷ (user_map 1 0, [])
    -- of another user
    ∷ (user_map 2 0x11000, [])
    ∷ (user_map 3 0x20000, cause.Id ∷ [])
    ∷ (user_map 0 0x20000, cause.Id ∷ [])
    ∷ (user_map 3 0x20001, cause.Id ∷ cause.Align ∷ [])
    -- a multiple of a page, below 2^48
    ∷ (user_map 1 0x20001, cause.Align ∷ [])
    ∷ (user_map 1 0x1_0000_0000_0000, cause.Align ∷ [])
    ∷ (user_map 1 0xffff_ffff_f000, [])
    ∷ (user_map 1 0x12000, cause.Overlap ∷ [])
    ∷ (user_map 1 0x12001, cause.Align ∷ cause.Overlap ∷ [])
    ∷ (user_unmap 1 0x12000, [])
    ∷ (user_unmap 3 0x12000, cause.Id ∷ cause.Absent ∷ [])
    ∷ (user_unmap 3 0x12001, cause.Id ∷ cause.Align ∷ cause.Absent ∷ [])
    ∷ (user_unmap 1 0x12001, cause.Align ∷ [])
    ∷ (user_unmap 1 0x20001, cause.Align ∷ cause.Absent ∷ [])
    ∷ (user_unmap 1 0x1_0000_0000_0000, cause.Align ∷ cause.Absent ∷ [])
    ∷ (user_unmap 1 0xffff_ffff_f000, cause.Absent ∷ [])
    ∷ (user_unmap 2 0x12000, cause.Absent ∷ [])
    ∷ (user_write 1 0x10000 one, [])
    ∷ (user_write 3 0x10000 one, cause.Id ∷ cause.Absent ∷ [])
    ∷ (user_write 3 0x10fff two, cause.Id ∷ cause.Cross ∷ cause.Absent ∷ [])
    -- 1 to 64 bytes of one page
    ∷ (user_write 1 0x10fff one, [])
    ∷ (user_write 1 0x10fff two, cause.Cross ∷ [])
    ∷ (user_write 1 0x10ffe two, [])
    ∷ (user_write 1 0x10000 [], cause.Cross ∷ [])
    ∷ (user_write 1 0x10000 (replicate 64 0), [])
    ∷ (user_write 1 0x10000 (replicate 65 0), cause.Cross ∷ [])
    ∷ (user_write 1 0x20fff two, cause.Cross ∷ cause.Absent ∷ [])
    ∷ (user_write 1 0x20000 one, cause.Absent ∷ [])
    ∷ (user_write 2 0x11000 one, cause.Absent ∷ [])
    ∷ []

abbrev pub of_users_without_free : Refusals
of_users_without_free =
    (user_map 1 0x20000, cause.Frames ∷ [])
    ∷ (user_map 1 0x12000, cause.Overlap ∷ cause.Frames ∷ [])
    ∷ []

abbrev pub of_users_with_one_free : Refusals
of_users_with_one_free = (user_map 1 0x20000, []) ∷ []

abbrev pub of_devices : Refusals
of_devices =
    (device_write 5 0x9000 one, [])
    ∷ (device_write 1 0x9000 one, [])
    -- a device that isn't bound, and one that isn't there
    ∷ (device_write 4 0x9000 one, cause.Id ∷ [])
    ∷ (device_write 11 0x9000 one, cause.Id ∷ [])
    ∷ (device_write 4 0x9fff two, cause.Id ∷ cause.Cross ∷ [])
    -- 1 to 64 bytes of one page
    ∷ (device_write 5 0x9fff two, cause.Cross ∷ [])
    ∷ (device_write 5 0x9fff one, [])
    ∷ (device_write 5 0x9ffe two, [])
    ∷ (device_write 5 0x9000 [], cause.Cross ∷ [])
    ∷ (device_write 5 0x9000 (replicate 64 0), [])
    ∷ (device_write 5 0x9000 (replicate 65 0), cause.Cross ∷ [])
    -- the addresses of interrupts, of an x86 machine's device
    ∷ (device_write 1 0xfedf_ffff one, [])
    ∷ (device_write 1 0xfee0_0000 one, cause.InterruptRange ∷ [])
    ∷ (device_write 1 0xfeef_ffff one, cause.InterruptRange ∷ [])
    ∷ (device_write 1 0xfeef_ffff two, cause.Cross ∷ cause.InterruptRange ∷ [])
    ∷ (device_write 1 0xfef0_0000 one, [])
    ∷ (device_write 5 0xfee0_0000 one, [])
    ∷ []
