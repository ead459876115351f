-- For which causes an ALLOW_IOVAS is refused, in the world of the second script in which memory is shared. Device 2,
-- which is attached to address space 1 of file 2, keeps 8000 to 8fff, and device 1, attached to that of file 1, the
-- addresses of interrupts.
use Rattle.std.specs.Prelude.{[], ◌∷◌}
use Rattle.iofd_examples.specs.Words.{Refusals, allow_iovas, from_to}
use Rattle.iofd_words.specs.declared.refusal.Cause.TheVariants as cause

abbrev pub refusals : Refusals
refusals =
    (allow_iovas 1 5 (from_to 0x1000 0x1fff ∷ []), [])
    ∷ (allow_iovas 1 5 [], [])
    -- file 4 isn't there
    ∷ (allow_iovas 4 5 (from_to 0x1000 0x1fff ∷ []), cause.Id ∷ cause.Id ∷ [])
    -- an unknown id, a device's, a page table's
    ∷ (allow_iovas 1 9 (from_to 0x1000 0x1fff ∷ []), cause.Id ∷ [])
    ∷ (allow_iovas 1 2 (from_to 0x1000 0x1fff ∷ []), cause.Id ∷ [])
    ∷ (allow_iovas 1 3 [], cause.Id ∷ [])
    ∷ (allow_iovas 1 9 (from_to 0x1000 0x1000 ∷ []), cause.Id ∷ cause.List ∷ [])
    -- a range is of two addresses at least, and two ranges have none in common, whatever their order
    ∷ (allow_iovas 1 5 (from_to 0x1000 0x1000 ∷ []), cause.List ∷ [])
    ∷ (allow_iovas 1 5 (from_to 0x1000 0x1001 ∷ []), [])
    ∷ (allow_iovas 1 5 (from_to 0x2000 0x1fff ∷ []), cause.List ∷ [])
    ∷ (allow_iovas 1 5 (from_to 0x1000 0x1fff ∷ from_to 0x3000 0x3000 ∷ []), cause.List ∷ [])
    ∷ (allow_iovas 1 5 (from_to 0x1000 0x2000 ∷ from_to 0x2000 0x2fff ∷ []), cause.List ∷ [])
    ∷ (allow_iovas 1 5 (from_to 0x1000 0x1fff ∷ from_to 0x2000 0x2fff ∷ []), [])
    ∷ (allow_iovas 1 5 (from_to 0x5000 0x5fff ∷ from_to 0x4000 0x4fff ∷ []), [])
    ∷ (
      allow_iovas 1 5 (from_to 0x5000 0x5fff ∷ from_to 0x1000 0x1fff ∷ from_to 0x1800 0x27ff ∷ []),
      cause.List ∷ [],
    )
    ∷ (
      allow_iovas 1 5 (from_to 0x1000 0x1fff ∷ from_to 0x5000 0x5fff ∷ from_to 0x1800 0x27ff ∷ []),
      cause.List ∷ [],
    )
    -- what can't be used
    ∷ (allow_iovas 2 1 (from_to 0x7000 0x7fff ∷ from_to 0x9000 0x9fff ∷ []), [])
    ∷ (allow_iovas 2 1 (from_to 0x7000 0x8000 ∷ []), cause.Narrow ∷ [])
    ∷ (allow_iovas 2 1 (from_to 0x1000 0x1fff ∷ from_to 0x8fff 0x9fff ∷ []), cause.Narrow ∷ [])
    ∷ (allow_iovas 2 1 (from_to 0x8000 0x8000 ∷ []), cause.List ∷ cause.Narrow ∷ [])
    ∷ (allow_iovas 1 1 (from_to 0x8000 0xfedf_ffff ∷ from_to 0xfef0_0000 0x7f_ffff_ffff ∷ []), [])
    ∷ (allow_iovas 1 1 (from_to 0x8000 0xfee0_0000 ∷ []), cause.Narrow ∷ [])
    ∷ (allow_iovas 1 1 (from_to 0xfeef_ffff 0xff00_0000 ∷ []), cause.Narrow ∷ [])
    ∷ (allow_iovas 1 1 (from_to 0xff00_0000 0x80_0000_0000 ∷ []), cause.Narrow ∷ [])
    -- nothing is attached to address space 5
    ∷ (allow_iovas 1 5 (from_to 0 0xffff_ffff_ffff_ffff ∷ []), [])
    ∷ []
