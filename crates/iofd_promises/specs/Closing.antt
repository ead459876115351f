-- Files that are gone: closed, or never there; and the commands that name a file.
use Rattle.std.specs.Prelude.{◌≡◌, ◌≢◌, ◌<◌, ◌⊎◌, Option, Some, None, Contains, length}
use Rattle.iofd_words.specs.Allowed.{AllowedRanges}
use Rattle.iofd_words.specs.World.{World}
use Rattle.iofd_words.specs.declared.event.Event.{Event}
use Rattle.iofd_words.specs.declared.event.Event.TheVariants as event
use Rattle.iofd_words.specs.declared.numbers.FileNo.{FileNo}
use Rattle.iofd_words.specs.declared.rows.AccessPin.{AccessPin}
use Rattle.iofd_words.specs.declared.rows.Area.{Area}
use Rattle.iofd_words.specs.declared.rows.Attachment.{Attachment}
use Rattle.iofd_words.specs.declared.rows.Object.{Object}

-- no row is of the file
pub record HasNothing (w : World) (file : FileNo) : Type 0 where
  pub objects : (object : Object) → Contains w.objects object → object.file.0 ≢ file.0
  pub areas : (area : Area) → Contains w.areas area → area.file.0 ≢ file.0
  pub attachments : (a : Attachment) → Contains w.attachments a → a.file.0 ≢ file.0
  pub allowed : (ranges : AllowedRanges) → Contains w.allowed ranges → ranges.file.0 ≢ file.0
  pub access_pins : (pin : AccessPin) → Contains w.access_pins pin → pin.file.0 ≢ file.0

-- it was closed, or there is none of its number: files are numbered from 1
abbrev pub IsGone : World → FileNo → Type 0
IsGone w file = Contains w.closed file ⊎ ((file.0 ≡ 0) ⊎ (length w.settings.files < file.0))

-- the file that a command names; a step of a user or of a device names none
abbrev pub file_named : {A : Type 0} → Event A → Option FileNo
file_named (event.IoasAlloc file) = Some file
file_named (event.AllowIovas file ioas ranges) = Some file
file_named (event.Map file request) = Some file
file_named (event.Copy file request) = Some file
file_named (event.Unmap file request) = Some file
file_named (event.HwptAlloc file request) = Some file
file_named (event.Destroy file id) = Some file
file_named (event.Close file) = Some file
file_named (event.UserMap user va) = None
file_named (event.UserUnmap user va) = None
file_named (event.UserWrite user va bytes) = None
file_named (event.Bind file device) = Some file
file_named (event.Unbind file id) = Some file
file_named (event.Attach device pt_id) = None
file_named (event.Detach device) = None
file_named (event.Flush device) = None
file_named (event.DeviceWrite device iova bytes) = None
file_named (event.AccessCreate file) = Some file
file_named (event.AccessAttach file id ioas) = Some file
file_named (event.AccessDetach file id) = Some file
file_named (event.AccessPin file id request) = Some file
file_named (event.AccessUnpin file id request) = Some file
file_named (event.AccessWrite file id iova bytes) = Some file
file_named (event.DirtyEnable file hwpt on) = Some file
file_named (event.DirtyClear file request) = Some file
