-- For which causes dirty tracking is refused. File 1 has the address space 1, the device 2 and the page tables 3, which
-- is tracked, and 5, which isn't. File 2 has nothing, and file 3 isn't there.
use Rattle.std.specs.Prelude.{true, false, [], ◌∷◌}
use Rattle.iofd_examples.specs.DirtyScript.{written}
use Rattle.iofd_examples.specs.DirtyWords.{dirty_clear, dirty_enable, dirty_look}
use Rattle.iofd_examples.specs.Words.{QuestionRefusals, Refusals, device_row, file, hwpt_row, ioas_row}
use Rattle.iofd_words.specs.World.{World}
use Rattle.iofd_words.specs.declared.refusal.Cause.TheVariants as cause
use Rattle.iofd_words.specs.declared.width.Width.TheVariants.{Bits39}

abbrev pub with_untracked : World
with_untracked =
    record written {
      objects = ioas_row 1 1 ∷ device_row 1 2 2 ∷ hwpt_row 1 3 1 Bits39 true ∷ hwpt_row 1 5 1 Bits39 false ∷ [];
    }

-- a page table may be turned on and off, whether it is tracked or not
abbrev pub enables : Refusals
enables =
    (dirty_enable 1 3 true, [])
    ∷ (dirty_enable 1 3 false, [])
    ∷ (dirty_enable 1 5 true, [])
    ∷ (dirty_enable 1 5 false, [])
    -- file 3 isn't there; an unknown id, an address space's, a device's, one of the other file
    ∷ (dirty_enable 3 3 true, cause.Id ∷ cause.Id ∷ [])
    ∷ (dirty_enable 1 9 true, cause.Id ∷ [])
    ∷ (dirty_enable 1 1 true, cause.Id ∷ [])
    ∷ (dirty_enable 1 2 false, cause.Id ∷ [])
    ∷ (dirty_enable 2 3 true, cause.Id ∷ [])
    ∷ []

abbrev pub clears : Refusals
clears =
    (dirty_clear 1 3 0x1000 0x2000, [])
    ∷ (dirty_clear 1 3 0x8000_0000 0x1000, [])
    -- 256 pages, and up to just 2^64
    ∷ (dirty_clear 1 3 0 0x10_0000, [])
    ∷ (dirty_clear 1 3 0xffff_ffff_ffff_f000 0x1000, [])
    -- what is no page table isn't tracked
    ∷ (dirty_clear 3 3 0x1000 0x2000, cause.Id ∷ cause.Id ∷ cause.Tracking ∷ [])
    ∷ (dirty_clear 1 9 0x1000 0x2000, cause.Id ∷ cause.Tracking ∷ [])
    ∷ (dirty_clear 1 1 0x1000 0x2000, cause.Id ∷ cause.Tracking ∷ [])
    ∷ (dirty_clear 1 2 0x1000 0x2000, cause.Id ∷ cause.Tracking ∷ [])
    ∷ (dirty_clear 2 3 0x1000 0x2000, cause.Id ∷ cause.Tracking ∷ [])
    -- beyond 2^64
    ∷ (dirty_clear 1 3 0xffff_ffff_ffff_f000 0x2000, cause.Sum ∷ [])
    -- nothing, an address within a page, a length with a part of one
    ∷ (dirty_clear 1 3 0x1000 0, cause.Align ∷ [])
    ∷ (dirty_clear 1 3 0x1800 0x1000, cause.Align ∷ [])
    ∷ (dirty_clear 1 3 0x1000 0x1800, cause.Align ∷ [])
    ∷ (dirty_clear 1 3 0 0x10_0800, cause.Align ∷ [])
    -- not tracked, and 257 pages
    ∷ (dirty_clear 1 5 0x1000 0x2000, cause.Tracking ∷ [])
    ∷ (dirty_clear 1 3 0 0x10_1000, cause.Tracking ∷ [])
    ∷ (dirty_clear 1 5 0 0x10_1000, cause.Tracking ∷ [])
    -- together
    ∷ (dirty_clear 1 3 0xffff_ffff_ffff_f800 0x1800, cause.Sum ∷ cause.Align ∷ [])
    ∷ (dirty_clear 1 5 0xffff_ffff_ffff_f800 0x1800, cause.Sum ∷ cause.Align ∷ cause.Tracking ∷ [])
    ∷ (
      dirty_clear 3 9 0xffff_ffff_ffff_f800 0x10_1800,
      cause.Id ∷ cause.Id ∷ cause.Sum ∷ cause.Align ∷ cause.Tracking ∷ [],
    )
    ∷ []

-- questions are refused as reports that clear are
abbrev pub looks : QuestionRefusals
looks =
    (dirty_look 1 3 0x1000 0x2000, [])
    ∷ (dirty_look 1 3 0 0x10_0000, [])
    ∷ (dirty_look 3 3 0x1000 0x2000, cause.Id ∷ cause.Id ∷ cause.Tracking ∷ [])
    ∷ (dirty_look 1 1 0x1000 0x2000, cause.Id ∷ cause.Tracking ∷ [])
    ∷ (dirty_look 1 3 0xffff_ffff_ffff_f000 0x2000, cause.Sum ∷ [])
    ∷ (dirty_look 1 3 0x1000 0, cause.Align ∷ [])
    ∷ (dirty_look 1 3 0x1800 0x1000, cause.Align ∷ [])
    ∷ (dirty_look 1 5 0x1000 0x2000, cause.Tracking ∷ [])
    ∷ (dirty_look 1 3 0 0x10_1000, cause.Tracking ∷ [])
    ∷ (
      dirty_look 3 9 0xffff_ffff_ffff_f800 0x10_1800,
      cause.Id ∷ cause.Id ∷ cause.Sum ∷ cause.Align ∷ cause.Tracking ∷ [],
    )
    ∷ []

-- where file 1 is closed and has its objects still, which no run leaves
abbrev pub closed : World
closed = record with_untracked { closed = file 1 ∷ [] }

abbrev pub of_closed : Refusals
of_closed =
    (dirty_enable 1 3 true, cause.Id ∷ [])
    ∷ (dirty_enable 1 9 true, cause.Id ∷ cause.Id ∷ [])
    ∷ (dirty_clear 1 3 0x1000 0x2000, cause.Id ∷ [])
    ∷ (dirty_clear 1 3 0x1000 0, cause.Id ∷ cause.Align ∷ [])
    ∷ []
