-- Shorthands for dirty tracking, by their plain numbers, beside those of `iofd_examples`.
use Rattle.std.specs.Prelude.{ℕ, Bool, List, [], ◌∷◌}
use Rattle.std.specs.declared.alloc.Global.{Global}
use Rattle.iofd_examples.specs.Words.{file, id, iova}
use Rattle.iofd_words.specs.Dirty.{TrackedTable}
use Rattle.iofd_words.specs.Frames.{FrameWrite}
use Rattle.iofd_words.specs.declared.event.DirtyRequest.{DirtyRequest}
use Rattle.iofd_words.specs.declared.event.Event.{Event}
use Rattle.iofd_words.specs.declared.event.Event.TheVariants as event
use Rattle.iofd_words.specs.declared.query.Answer.{Answer}
use Rattle.iofd_words.specs.declared.query.Answer.TheVariants as answer
use Rattle.iofd_words.specs.declared.query.Query.{Query}
use Rattle.iofd_words.specs.declared.query.Query.TheVariants as query
use Rattle.iofd_words.specs.declared.reply.Reply.{Reply}
use Rattle.iofd_words.specs.declared.reply.Reply.TheVariants as reply

-- the page table's id, where, and how long
abbrev pub dirty_request : ℕ → ℕ → ℕ → DirtyRequest
dirty_request hwpt at size = record { hwpt = id hwpt; iova = iova at; length = size }

abbrev pub dirty_enable : ℕ → ℕ → Bool → Event Global
dirty_enable f hwpt on = event.DirtyEnable (file f) (id hwpt) on

abbrev pub dirty_clear : ℕ → ℕ → ℕ → ℕ → Event Global
dirty_clear f hwpt at size = event.DirtyClear (file f) (dirty_request hwpt at size)

abbrev pub dirty_look : ℕ → ℕ → ℕ → ℕ → Query
dirty_look f hwpt at size = query.Dirty (file f) (dirty_request hwpt at size)

-- the four words
abbrev pub answers_dirty : ℕ → ℕ → ℕ → ℕ → Reply
answers_dirty a b c d = reply.Dirty (a ∷ b ∷ c ∷ d ∷ [])

abbrev pub told : ℕ → ℕ → ℕ → ℕ → List Answer
told a b c d = answer.Dirty (a ∷ b ∷ c ∷ d ∷ []) ∷ []

-- the marked pages, the newest first
abbrev pub tracked_row : ℕ → ℕ → List ℕ → TrackedTable
tracked_row f hwpt pages = record { file = file f; hwpt = id hwpt; pages = pages }

abbrev pub write_row : ℕ → ℕ → List ℕ → FrameWrite
write_row frame offset bytes = record { frame = frame; offset = offset; bytes = bytes }
