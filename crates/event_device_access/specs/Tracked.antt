-- Whether a device's writes are tracked.
use Rattle.std.specs.Prelude.{Bool, false, Some, None}
use Rattle.iofd_words.specs.Attachments.{attachment_of}
use Rattle.iofd_words.specs.View.{View}
use Rattle.iofd_words.specs.declared.numbers.DeviceNo.{DeviceNo}

-- the page table by which the device translates is tracked
abbrev pub tracks_writes_of : View → DeviceNo → Bool
tracks_writes_of v device =
    elim (attachment_of v.attachments device) [ Some a ↦ v.tracks a.file a.hwpt | None ↦ false ]
