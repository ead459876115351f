use Rattle.std.specs.List.{filter_map, range_with_len, slice_get}
use Rattle.pinned_pages.specs.Access.{frame_in, row_at}
use Rattle.pinned_pages.specs.Holds.{HasMoreHolds}
use Rattle.pinned_pages.specs.Pages.{unless}
use Rattle.pinned_pages.proofs.frames.release_others.Given as goal

-- the frames so far have a hold less for each time
abbrev pub invariant-loop-index : goal.invariant-loop-index
invariant-loop-index g l = HasMoreHolds l.pool l.initial.pool (filter_map
    (λ index. unless (frame_in (row_at l.access.rows index)) (slice_get l.frames index)) (range_with_len 0 l.index))
