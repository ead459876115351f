-- The limits of rows: a file has at most 65,535 objects, and an address space as many areas. The world that stands
-- ready, with so many objects of file 1 more, or so many areas in its first address space, in turn one short of the
-- limit and at it.
use Rattle.std.specs.Prelude.{ℕ, ◌+◌, ◌*◌, [], ◌∷◌, ◌++◌, map}
use Rattle.std.specs.List.{range_with_len}
use Rattle.iofd_examples.specs.ReadyWorld.{ready}
use Rattle.iofd_examples.specs.Words.{Refusals, access_create, area_row, attach, bind, copy_in, file, hwpt_alloc}
use Rattle.iofd_examples.specs.Words.{ioas_alloc, ioas_row, map_in}
use Rattle.iofd_words.specs.World.{World}
use Rattle.iofd_words.specs.declared.refusal.Cause.TheVariants as cause
use Rattle.iofd_words.specs.declared.rows.Phase.TheVariants.{Live}

-- file 1 has 14 objects
abbrev pub with_objects_more : ℕ → World
with_objects_more more =
    record ready { objects = ready.objects ++ map (λ n. ioas_row 1 (n + 1000)) (range_with_len 0 more) }

abbrev pub objects_at_limit : Refusals
objects_at_limit =
    (ioas_alloc 1, cause.Full ∷ [])
    ∷ (ioas_alloc 2, [])
    ∷ (bind 1 4, cause.Full ∷ [])
    ∷ (bind 1 1, cause.Bound ∷ cause.Full ∷ [])
    ∷ (hwpt_alloc 1 2 1, cause.Full ∷ [])
    ∷ (hwpt_alloc 1 2 5, cause.Narrow ∷ cause.Full ∷ [])
    ∷ (hwpt_alloc 1 2 7, cause.Full ∷ cause.Absent ∷ [])
    ∷ (attach 1 1, cause.Full ∷ [])
    ∷ (attach 1 5, cause.Narrow ∷ cause.Full ∷ [])
    ∷ (attach 1 7, cause.Full ∷ cause.Absent ∷ [])
    ∷ (attach 9 8, [])
    ∷ (access_create 1, cause.Full ∷ [])
    ∷ (access_create 2, [])
    ∷ []

-- where the file is closed too, which no run leaves
abbrev pub closed_at_limit : World
closed_at_limit = record (with_objects_more 65521) { closed = file 1 ∷ [] }

abbrev pub of_closed : Refusals
of_closed = (ioas_alloc 1, cause.Id ∷ cause.Full ∷ []) ∷ (access_create 1, cause.Id ∷ cause.Full ∷ []) ∷ []

abbrev pub objects_below_limit : Refusals
objects_below_limit =
    (ioas_alloc 1, [])
    ∷ (bind 1 4, [])
    ∷ (hwpt_alloc 1 2 1, [])
    ∷ (attach 1 1, [])
    ∷ (access_create 1, [])
    ∷ []

-- address space 1 of file 1 has one area
abbrev pub with_areas_more : ℕ → World
with_areas_more more =
    record ready {
      areas =
          ready.areas
          ++ map
          (λ n. area_row 1 1 (0x1_0000_0000 + 4096 * n) (0x1_0000_0fff + 4096 * n) 18 3 Live)
          (range_with_len 0 more);
    }

abbrev pub maps_at_limit : Refusals
maps_at_limit =
    (map_in 1 7 1 0x10000 0x1000 0x4000, cause.Full ∷ [])
    ∷ (map_in 1 7 1 0x10000 0x1000 0x1000, cause.Overlap ∷ cause.Full ∷ [])
    ∷ []

abbrev pub copies_at_limit : Refusals
copies_at_limit =
    (copy_in 1 7 1 5 0x1000 0x4000 0x80_0000_0000, cause.Full ∷ [])
    ∷ (copy_in 1 7 1 5 0x1000 0x1000 0x80_0000_0000, cause.Overlap ∷ cause.Full ∷ [])
    ∷ []

abbrev pub areas_below_limit : Refusals
areas_below_limit =
    (map_in 1 7 1 0x10000 0x1000 0x4000, []) ∷ (copy_in 1 7 1 5 0x1000 0x4000 0x80_0000_0000, []) ∷ []
