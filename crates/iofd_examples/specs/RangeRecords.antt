-- Addresses that the server may choose, and that can be used, at their ends.
use Rattle.std.specs.Prelude.{ℕ, false, true, List, [], ◌∷◌}
use Rattle.std.specs.declared.alloc.Global.{Global}
use Rattle.iofd_examples.specs.ReadyWorld.{ready}
use Rattle.iofd_examples.specs.SecondScript.{shared}
use Rattle.iofd_examples.specs.Words.{Refusals, allow_iovas, answers_iova, area_row, file, from_to, id, map_in, step}
use Rattle.iofd_examples.specs.Words.{unmap_in}
use Rattle.iofd_words.specs.Bounds.{Bounds}
use Rattle.iofd_words.specs.Record.{Record}
use Rattle.iofd_words.specs.Settings.{Settings}
use Rattle.iofd_words.specs.World.{World}
use Rattle.iofd_words.specs.declared.refusal.Cause.TheVariants as cause
use Rattle.iofd_words.specs.declared.reply.Reply.TheVariants as reply
use Rattle.iofd_words.specs.declared.rows.Phase.TheVariants.{Live}
use Rattle.iofd_words.specs.declared.width.Width.TheVariants.{Bits39, Bits48}

-- ---- in the world that stands ready, where address space 9 of file 1 allows 5000 to 6fff and has no area

-- no ranges in place of these: every address may be chosen
abbrev pub lifting : List (Record Global)
lifting = step (allow_iovas 1 9 []) reply.Done ∷ []

abbrev pub lifted : World
lifted =
    record ready {
      allowed =
          record { file = file 1; ioas = id 9; spans = [] }
          ∷ record { file = file 1; ioas = id 14; spans = from_to 0x7001 0x8fff ∷ [] }
          ∷ record { file = file 1; ioas = id 10; spans = from_to 0x80_0000_0000 0x80_0000_0fff ∷ [] }
          ∷ [];
    }

abbrev pub outside_the_list : List (Record Global)
outside_the_list =
    step (map_in 1 6 9 0x10000 0x1000 0) (answers_iova 0)
    ∷ step (map_in 1 6 9 0x10000 0x1000 0) (answers_iova 0xffff_ffff_ffff_f000)
    ∷ []

abbrev pub in_the_list : List (Record Global)
in_the_list =
    step (map_in 1 6 9 0x10000 0x1000 0) (answers_iova 0x5000)
    ∷ step (map_in 1 6 9 0x10000 0x2000 0) (answers_iova 0x5000)
    ∷ []

-- ---- two pages are mapped where ranges have a gap between them, and where they touch

abbrev allowing : List Bounds → World
allowing spans = record ready { allowed = record { file = file 1; ioas = id 9; spans = spans } ∷ [] }

abbrev pub gapped : World
gapped = allowing (from_to 0x3000 0x3fff ∷ from_to 0x5000 0x5fff ∷ from_to 0x8000 0x9fff ∷ [])

abbrev pub touching : World
touching = allowing (from_to 0x4000 0x4fff ∷ from_to 0x3000 0x3fff ∷ [])

abbrev pub over_the_border : List (Record Global)
over_the_border = step (map_in 1 6 9 0x10000 0x2000 0) (answers_iova 0x3000) ∷ []

abbrev pub beside_the_gap : List (Record Global)
beside_the_gap = step (map_in 1 6 9 0x10000 0x2000 0) (answers_iova 0x8000) ∷ []

-- three pages fit in neither
abbrev pub refusals_of_three : Refusals
refusals_of_three = (map_in 1 6 9 0x10000 0x3000 0, cause.Full ∷ []) ∷ []

-- ---- the least address lies behind what a device keeps. In the second script's world in which memory is shared, with
-- no frame free, file 2 has an area from 0 to 1e_ffff; from 20_0000 on its page table lacks a table

abbrev keeping : ℕ → ℕ → Settings
keeping first last =
    record shared.settings {
      pool = 15;
      devices =
          record { source = record { 0 = 0x10 }; width = Bits39; x86 = true; reserved = [] }
          ∷ record {
            source = record { 0 = 0x100 };
            width = Bits48;
            x86 = false;
            reserved = from_to first last ∷ [];
          }
          ∷ [];
    }

abbrev filled : ℕ → ℕ → World
filled first last =
    record shared {
      settings = keeping first last;
      areas = area_row 2 1 0 0x1e_ffff 11 1 Live ∷ [];
    }

abbrev pub kept_to_the_border : World
kept_to_the_border = filled 0x1f_0000 0x1f_ffff

abbrev pub kept_elsewhere : World
kept_elsewhere = filled 0x1f_1000 0x1f_ffff

-- 1f_0000 is free in the one, and the least in the other is 20_0000
abbrev pub refusals_behind : Refusals
refusals_behind = (map_in 2 6 1 0x10000 0x1000 0, cause.Frames ∷ []) ∷ []

abbrev pub refusals_before : Refusals
refusals_before = (map_in 2 6 1 0x10000 0x1000 0, []) ∷ []

-- ---- every address is named, the last page too

abbrev pub at_the_top : World
at_the_top =
    record shared {
      areas = area_row 1 5 0xffff_ffff_ffff_f000 0xffff_ffff_ffff_ffff 24 1 Live ∷ [];
    }

abbrev pub all_of_it : List (Record Global)
all_of_it =
    step (unmap_in 1 5 0 0xffff_ffff_ffff_ffff) (reply.Bytes 0x1000)
    ∷ step (unmap_in 1 5 1 0xffff_ffff_ffff_ffff) (reply.Bytes 0x1000)
    ∷ []

abbrev pub none_of_it : List (Record Global)
none_of_it = step (unmap_in 1 5 0 0xffff_ffff_ffff_ffff) (reply.Bytes 0) ∷ []

abbrev pub refusals_at_the_top : Refusals
refusals_at_the_top =
    (unmap_in 1 5 0 0xffff_ffff_ffff_fffe, cause.Span ∷ [])
    ∷ (unmap_in 1 5 0 0xffff_ffff_ffff_ffff, [])
    ∷ []

-- ---- no usable ranges: two that adjoin or overlap, and one beside a span whose first is above its last, though all
-- have the right numbers; and a number too few

abbrev pub adjoining : List Bounds
adjoining = from_to 0 0xfff ∷ from_to 0x1000 0xffff_ffff_ffff_ffff ∷ []

abbrev pub overlapping : List Bounds
overlapping = from_to 0 0x1fff ∷ from_to 0x1000 0xffff_ffff_ffff_ffff ∷ []

abbrev pub turned : List Bounds
turned =
    from_to 0 0xffff_ffff_ffff_ffff ∷ from_to 0x1_0000_0000_0000_0002 0x1_0000_0000_0000_0001
    ∷ []

abbrev pub one_too_few : List Bounds
one_too_few = from_to 0 0xffff_ffff_ffff_fffe ∷ []
