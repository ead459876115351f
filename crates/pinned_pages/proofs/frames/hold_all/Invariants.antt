use Rattle.std.proofs.Common.{◌≡◌, ◌≤◌, ◌+◌, ◌++◌, vec_len, vec_capacity}
use Rattle.std.specs.List.{filter_map, range_with_len}
use Rattle.iofd_words.specs.Frames.{frame_at}
use Rattle.iofd_words.specs.Pages.{page_of}
use Rattle.pinned_pages.specs.Access.{frame_in, row_at}
use Rattle.pinned_pages.specs.Holds.{HasMoreHolds}
use Rattle.pinned_pages.specs.Pages.{or_else, unless}
use Rattle.pinned_pages.proofs.frames.hold_all.Given as goal

-- the frames so far are there, and those of pages that no access pins are held
abbrev pub invariant-loop-index : goal.invariant-loop-index
invariant-loop-index g l = record {
  items : l.frames.items ≡ l.initial.frames.items ++ filter_map (λ index. or_else (frame_in (row_at l.access.rows
      index))
      (frame_at l.users.pages l.user (page_of l.va + index))) (range_with_len 0 l.index);
  held : HasMoreHolds l.initial.pool l.pool (filter_map (λ index. unless (frame_in (row_at l.access.rows index))
      (frame_at l.users.pages l.user (page_of l.va + index))) (range_with_len 0 l.index));
  len : vec_len l.frames ≤ vec_len l.initial.frames + l.index;
  capacity : vec_capacity l.frames ≡ vec_capacity l.initial.frames;
}
