-- What a core is seen as.
use Rattle.std.specs.Prelude.{◌≡◌, ◌<◌, ◌≤◌, ◌+◌, ◌⊎◌, ℕ, Bool, true, false, ◌&&◌, not, Option, None, IsTrue}
use Rattle.std.specs.Prelude.{length, nat_lt}
use Rattle.iofd_words.specs.Accesses.{pin_of}
use Rattle.iofd_words.specs.Allowed.{ranges_of}
use Rattle.iofd_refusals.specs.Checks.{refusal}
use Rattle.iofd_steps.specs.Answers.{waits}
use Rattle.iofd_words.specs.Objects.{has_hwpt}
use Rattle.iofd_words.specs.View.{View, view}
use Rattle.iofd_words.specs.World.{World}
use Rattle.iofd_words.specs.declared.event.Act.{Act}
use Rattle.iofd_words.specs.declared.event.Event.{Event}
use Rattle.iofd_words.specs.declared.event.Event.TheVariants as event
use Rattle.iofd_words.specs.declared.numbers.FrameNo.{FrameNo}
use Rattle.event_device_access.specs.FirstMark.{takes_mark}
use Rattle.event_device_access.specs.Tracked.{tracks_writes_of}
use Rattle.event_unmap.specs.Lost.{loses_table}
use Rattle.hwpt_device.specs.Attaching.{takes_its_table}
use Rattle.iommufd_core.specs.History.{History, world}
use Rattle.server_state.specs.Tables.{has_page_table, has_page_tables}

-- its history, and for how many more records there is memory
pub record Server (A : Type 0) : Type 0 where
  pub history : History A
  pub room : ℕ

-- it lets no memory for records go: records and room together are no fewer
abbrev pub KeepsRoom : {A : Type 0} → Server A → Server A → Type 0
KeepsRoom old new = length old.history.records + old.room ≤ length new.history.records + new.room

-- where it had none it has it for as many records as there were, the new one among them: so a record's place is seldom
-- lacking
abbrev pub DoublesRoom : {A : Type 0} → Server A → Server A → Type 0
DoublesRoom old new = old.room ≡ 0 → length old.history.records ≤ new.room + 1

-- the events that may take memory beside their record's, by what the refusals read: those by which something comes, of
-- pins those that no held one is equal to, those by which page tables or their tables go, for the list of the frames
-- that they give back, and a device's write, for its mark, where the device's page table is tracked
abbrev pub takes_memory : {A : Type 0} → View → Event A → Bool
takes_memory v (event.IoasAlloc file) = true
takes_memory v (event.AllowIovas file ioas ranges) = nat_lt 0 (length ranges)
takes_memory v (event.Map file request) = true
takes_memory v (event.Copy file request) = true
takes_memory v (event.Unmap file request) = has_hwpt v.objects file request.ioas
takes_memory v (event.HwptAlloc file request) = true
takes_memory v (event.Destroy file id) = has_page_table v.objects file id
takes_memory v (event.Close file) = has_page_tables v.objects file
takes_memory v (event.UserMap user va) = true
takes_memory v (event.UserUnmap user va) = false
takes_memory v (event.UserWrite user va bytes) = false
takes_memory v (event.Bind file device) = true
takes_memory v (event.Unbind file id) = false
takes_memory v (event.Attach device pt_id) = true
takes_memory v (event.Detach device) = takes_its_table v.objects v.attachments device
takes_memory v (event.Flush device) = false
takes_memory v (event.DeviceWrite device iova bytes) = tracks_writes_of v device
takes_memory v (event.AccessCreate file) = true
takes_memory v (event.AccessAttach file id ioas) = false
takes_memory v (event.AccessDetach file id) = false
takes_memory v (event.AccessPin file id request) = not (v.is_held (pin_of file id request))
takes_memory v (event.AccessUnpin file id request) = false
takes_memory v (event.AccessWrite file id iova bytes) = false
takes_memory v (event.DirtyEnable file hwpt on) = on
takes_memory v (event.DirtyClear file request) = false

-- and of UNMAPs those alone that don't wait and by which some table goes: no other one has frames to list; of devices'
-- writes, with a cached frame or without one, those alone that pass and whose mark is the first of its word: no other
-- one makes a place for marks
abbrev pub may_lack : {A : Type 0} → World → Event A → Option FrameNo → Bool
may_lack w (event.Unmap file request) via = not (waits w file request) && loses_table w file request
may_lack w (event.DeviceWrite device iova bytes) via = takes_mark w device iova.0 via
may_lack w e via = true

-- the events of which none ever does
abbrev pub is_in_place : {A : Type 0} → Event A → Bool
is_in_place (event.UserUnmap user va) = true
is_in_place (event.UserWrite user va bytes) = true
is_in_place (event.Unbind file id) = true
is_in_place (event.Flush device) = true
is_in_place (event.AccessAttach file id ioas) = true
is_in_place (event.AccessDetach file id) = true
is_in_place (event.AccessUnpin file id request) = true
is_in_place (event.AccessWrite file id iova bytes) = true
is_in_place (event.DirtyClear file request) = true
is_in_place e = false

-- the only time at which memory may be wanting: there is no place for the record, or for the list that the event
-- carries, or nothing refuses the event and it is one that may take memory, in this world too: an UNMAP by which some
-- table goes, say, or a device's write that passes and whose mark is the first of its word
abbrev pub MayWant : {A : Type 0} → Server A → Act A → Type 0
MayWant s act =
    ((s.room ≡ 0) ⊎ (0 < length (ranges_of act.event)))
    ⊎ ((refusal (world s.history) act.event ≡ None)
    × IsTrue (takes_memory (view (world s.history)) act.event)
    × IsTrue (may_lack (world s.history) act.event act.via))
