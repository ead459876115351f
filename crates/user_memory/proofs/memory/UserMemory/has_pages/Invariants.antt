use Rattle.std.proofs.Common.{◌≡◌, true}
use Rattle.iofd_words.specs.Frames.{frame_at, has_pages}
use Rattle.iofd_words.specs.Pages.{page_of}
use Rattle.user_memory.proofs.memory.UserMemory.has_pages.Given as goal

-- the pages before this one are there
abbrev pub invariant-loop-index : goal.invariant-loop-index
invariant-loop-index g l = has_pages (frame_at l.self.pages) l.user (page_of l.va) l.index ≡ true
