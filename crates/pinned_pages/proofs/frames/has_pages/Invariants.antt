use Rattle.std.proofs.Common.{◌≡◌, ◌+◌, true}
use Rattle.std.specs.Prelude.{is_some}
use Rattle.std.specs.List.{list_all, range_with_len}
use Rattle.iofd_words.specs.Frames.{frame_at}
use Rattle.iofd_words.specs.Pages.{page_of}
use Rattle.pinned_pages.specs.Access.{frame_in, row_at}
use Rattle.pinned_pages.specs.Pages.{or_else}
use Rattle.pinned_pages.proofs.frames.has_pages.Given as goal

-- the pages before this one are there
abbrev pub invariant-loop-index : goal.invariant-loop-index
invariant-loop-index g l = list_all (λ index. is_some (or_else (frame_in (row_at l.access.rows index))
    (frame_at l.users.pages l.user (page_of l.va + index)))) (range_with_len 0 l.index) ≡ true
