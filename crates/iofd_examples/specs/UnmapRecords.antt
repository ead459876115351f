-- For which causes an UNMAP is refused, in the world of the second script in which memory is shared. Address space 5 of
-- file 1 has areas from 3000 to 4fff, 7000 to 7fff, b000 to bfff, d000 to efff and 10000 to 11fff; address space 1 of
-- file 3 has none.
use Rattle.std.specs.Prelude.{[], ◌∷◌}
use Rattle.iofd_examples.specs.Words.{Refusals, map_in, unmap_in}
use Rattle.iofd_words.specs.declared.refusal.Cause.TheVariants as cause

abbrev pub refusals : Refusals
refusals =
    (unmap_in 1 5 0x3000 0x2000, [])
    ∷ (unmap_in 1 1 0x1000 0x2000, [])
    -- file 4 isn't there
    ∷ (unmap_in 4 5 0x3000 0x2000, cause.Id ∷ cause.Id ∷ cause.Span ∷ [])
    ∷ (unmap_in 4 5 0x3000 0, cause.Id ∷ cause.Align ∷ cause.Id ∷ cause.Span ∷ [])
    ∷ (unmap_in 4 5 0x3000 0xffff_ffff_ffff_ffff, cause.Id ∷ cause.Sum ∷ cause.Id ∷ cause.Span ∷ [])
    -- 2^64 itself is good
    ∷ (unmap_in 1 5 1 0xffff_ffff_ffff_ffff, [])
    ∷ (unmap_in 1 5 2 0xffff_ffff_ffff_ffff, cause.Sum ∷ [])
    ∷ (unmap_in 1 9 2 0xffff_ffff_ffff_ffff, cause.Sum ∷ cause.Id ∷ cause.Span ∷ [])
    ∷ (unmap_in 1 5 0xffff_ffff_ffff_f000 0x1000, cause.Span ∷ [])
    ∷ (unmap_in 1 5 0xffff_ffff_ffff_f000 0x1001, cause.Sum ∷ cause.Span ∷ [])
    -- no length, behind an area and in it
    ∷ (unmap_in 1 5 0x5000 0, cause.Align ∷ cause.Span ∷ [])
    ∷ (unmap_in 1 5 0x3800 0, cause.Align ∷ cause.Span ∷ [])
    ∷ (unmap_in 1 9 0x5000 0, cause.Align ∷ cause.Id ∷ cause.Span ∷ [])
    -- an unknown id, a device's, a page table's
    ∷ (unmap_in 1 9 0x3000 0x2000, cause.Id ∷ cause.Span ∷ [])
    ∷ (unmap_in 1 2 0x3000 0x2000, cause.Id ∷ cause.Span ∷ [])
    ∷ (unmap_in 1 3 0x3000 0x2000, cause.Id ∷ cause.Span ∷ [])
    ∷ (unmap_in 1 9 0 0xffff_ffff_ffff_ffff, cause.Id ∷ [])
    -- no area, which is good where every address is named
    ∷ (unmap_in 1 5 0x5000 0x2000, cause.Span ∷ [])
    ∷ (unmap_in 3 1 0 0xffff_ffff_ffff_ffff, [])
    ∷ (unmap_in 3 1 0 0xffff_ffff_ffff_fffe, cause.Span ∷ [])
    ∷ (unmap_in 3 1 1 0xffff_ffff_ffff_ffff, cause.Span ∷ [])
    -- a part of an area
    ∷ (unmap_in 1 5 0x3000 0x1000, cause.Span ∷ [])
    ∷ (unmap_in 1 5 0x4000 0x1000, cause.Span ∷ [])
    ∷ (unmap_in 1 5 0x3001 0x2000, cause.Span ∷ [])
    ∷ (unmap_in 1 5 0x2fff 0x2000, cause.Span ∷ [])
    ∷ (unmap_in 1 5 0x2fff 0x2001, [])
    ∷ (unmap_in 1 5 0x4fff 1, cause.Span ∷ [])
    -- two areas, one and a part, all
    ∷ (unmap_in 1 5 0x3000 0x5000, [])
    ∷ (unmap_in 1 5 0x3000 0x4fff, cause.Span ∷ [])
    ∷ (unmap_in 1 5 0 0x12000, [])
    ∷ (unmap_in 1 5 0 0xffff_ffff_ffff_ffff, [])
    ∷ []

-- an area that leaves is named still, and what it covers can't be mapped
abbrev pub refusals_of_leaving : Refusals
refusals_of_leaving =
    (unmap_in 1 1 0x1000 0x2000, [])
    ∷ (unmap_in 1 1 0x1000 0x1000, cause.Span ∷ [])
    ∷ (map_in 1 7 1 0x10000 0x1000 0x2000, cause.Overlap ∷ [])
    ∷ []
