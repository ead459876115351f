-- When memory may be taken for the mark of a device's write. Marks are kept in words: a page's word is for the 64 pages
-- whose numbers, divided by 64, are the same, and one in which a page is marked has a place for each of them.
use Rattle.std.specs.Prelude.{ℕ, ◌/◌, ◌==◌, ◌&&◌, not, Bool, true, false, Option, Some, None, List}
use Rattle.std.specs.List.{list_any}
use Rattle.iofd_words.specs.Attachments.{attachment_of}
use Rattle.iofd_words.specs.Dirty.{TrackedTable, is_tracked_as, tracks}
use Rattle.iofd_words.specs.Pages.{page_of}
use Rattle.iofd_words.specs.Policy.{Outcome, Passes, Denied, outcomes}
use Rattle.iofd_words.specs.World.{World}
use Rattle.iofd_words.specs.declared.fault.AccessKind.TheVariants.{Write}
use Rattle.iofd_words.specs.declared.numbers.DeviceNo.{DeviceNo}
use Rattle.iofd_words.specs.declared.numbers.FileNo.{FileNo}
use Rattle.iofd_words.specs.declared.numbers.FrameNo.{FrameNo}
use Rattle.iofd_words.specs.declared.numbers.ObjId.{ObjId}
use Rattle.iofd_words.specs.declared.rows.Attachment.{Attachment}
use Rattle.event_device_access.specs.Outcomes.{chosen_outcome}

-- it passes, at whichever frame
abbrev pub is_pass : Outcome → Bool
is_pass (Passes frame) = true
is_pass (Denied reason) = false

-- some page of the same word is marked in this page table
abbrev pub has_mark_beside : FileNo → ObjId → ℕ → TrackedTable → Bool
has_mark_beside file hwpt page table =
    is_tracked_as file hwpt table && list_any (λ marked. marked / 64 == page / 64) table.pages

-- a device that is attached so translates by a page table that is tracked, and no page of the same word is marked there
abbrev pub is_first_mark : Option Attachment → ℕ → List TrackedTable → Bool
is_first_mark None page tables = false
is_first_mark (Some a) page tables =
    tracks tables a.file a.hwpt && not (list_any (has_mark_beside a.file a.hwpt page) tables)

-- the device's write to this address passes, by its cached frame or where without one no denial is lawful, and the mark
-- that it leaves is the first of its word
abbrev pub takes_mark : World → DeviceNo → ℕ → Option FrameNo → Bool
takes_mark w device address via =
    is_pass (chosen_outcome via (outcomes w device address Write))
    && is_first_mark (attachment_of w.attachments device) (page_of address) w.tracked
