-- The world after an event that nothing refused, by the answer that the record has.
use Rattle.std.specs.Prelude.{ℕ, ◌/◌, Bool, true, false, ◌==◌, ◌&&◌, not, Option, Some, None, List, []}
use Rattle.std.specs.Prelude.{◌∷◌, ◌++◌, if◌then◌else◌}
use Rattle.std.specs.Prelude.{filter}
use Rattle.std.specs.List.{list_any}
use Rattle.iofd_words.specs.Accesses.{accessed_frame, pin_of}
use Rattle.iofd_words.specs.Allowed.{with_allowed, without_allowed}
use Rattle.iofd_words.specs.Areas.{areas_of, is_of, is_touched, with_area, with_leaving, all_paid}
use Rattle.iofd_words.specs.Attachments.{attachment_of, has_device_on, devices_of, with_attachment, without_attachment}
use Rattle.iofd_words.specs.Bounds.{Bounds}
use Rattle.iofd_words.specs.Copies.{placed_as, source_in}
use Rattle.iofd_words.specs.Dirty.{TrackedTable, marked_by, reported_span, with_tracking, without_marks}
use Rattle.iofd_words.specs.Dirty.{without_tracked}
use Rattle.iofd_words.specs.Files.{user_of, device_of}
use Rattle.iofd_words.specs.Frames.{frame_at, with_write, without_frame, without_page}
use Rattle.iofd_words.specs.Objects.{automatic_hwpt, binding_of, is_automatic, is_object, kind_of, settings_under}
use Rattle.iofd_words.specs.Objects.{with_access, with_object, without_device_object, without_object}
use Rattle.iofd_words.specs.Pages.{page_of, offset_of}
use Rattle.iofd_words.specs.Pins.{pinned_pages, settled, without_pin}
use Rattle.iofd_words.specs.Rights.{is_writeable, rights_of}
use Rattle.iofd_words.specs.Settings.{DeviceSettings}
use Rattle.iofd_words.specs.Span.{span_from}
use Rattle.iofd_words.specs.View.{view}
use Rattle.iofd_words.specs.World.{World}
use Rattle.iofd_words.specs.declared.event.CopyRequest.{CopyRequest}
use Rattle.iofd_words.specs.declared.event.DirtyRequest.{DirtyRequest}
use Rattle.iofd_words.specs.declared.event.Event.{Event}
use Rattle.iofd_words.specs.declared.event.Event.TheVariants as event
use Rattle.iofd_words.specs.declared.event.HwptRequest.{HwptRequest}
use Rattle.iofd_words.specs.declared.event.MapRequest.{MapRequest}
use Rattle.iofd_words.specs.declared.event.PinRequest.{PinRequest}
use Rattle.iofd_words.specs.declared.event.UnmapRequest.{UnmapRequest}
use Rattle.iofd_words.specs.declared.numbers.DeviceNo.{DeviceNo}
use Rattle.iofd_words.specs.declared.numbers.FileNo.{FileNo}
use Rattle.iofd_words.specs.declared.numbers.Iova.{Iova}
use Rattle.iofd_words.specs.declared.numbers.ObjId.{ObjId}
use Rattle.iofd_words.specs.declared.numbers.UserNo.{UserNo}
use Rattle.iofd_words.specs.declared.reply.Reply.{Reply}
use Rattle.iofd_words.specs.declared.reply.Reply.TheVariants as reply
use Rattle.iofd_words.specs.declared.rows.Area.{Area}
use Rattle.iofd_words.specs.declared.rows.Attachment.{Attachment}
use Rattle.iofd_words.specs.declared.rows.MemoryObject.{MemoryObject}
use Rattle.iofd_words.specs.declared.rows.Object.{Object}
use Rattle.iofd_words.specs.declared.rows.ObjectKind.{ObjectKind}
use Rattle.iofd_words.specs.declared.rows.ObjectKind.TheVariants as kind
use Rattle.iofd_words.specs.declared.rows.Phase.TheVariants.{Live}
use Rattle.iofd_words.specs.declared.width.Width.{Width}

-- ---- pins follow the areas and the page tables

-- the new world with its pins: a page that stays pinned keeps its pin, a newly pinned one takes the frame that its user
-- has there now
unfoldable pub settle : World → World → World
settle old new =
    record new {
      pins =
          settled
          (pinned_pages old.objects old.areas old.memory old.access_pins)
          (pinned_pages new.objects new.areas new.memory new.access_pins)
          new.memory
          new.user_pages
          old.pins;
    }

-- ---- areas come and go

-- the memory object that a MAP makes; the position of its record is its number
abbrev pub memory_object : ℕ → UserNo → MapRequest → MemoryObject
memory_object at user request =
    record {
      number = at;
      user = user;
      va = request.user_va;
      count = request.length / 4096;
      writable = is_writeable request.flags;
    }

-- the area lies at the address that was answered, over the memory object of this number
abbrev pub mapped_area : ℕ → FileNo → MapRequest → Iova → Area
mapped_area at file request iova =
    record {
      file = file;
      ioas = request.ioas;
      span = span_from iova.0 request.length;
      memory = at;
      rights = rights_of request.flags;
      phase = Live;
    }

-- the areas that pass the test go, and with its last area a memory object
unfoldable pub without_areas : (Area → Bool) → World → World
without_areas goes w =
    record w {
      areas = filter (λ area. not (goes area)) w.areas;
      memory = filter (λ m. list_any (λ area. area.memory == m.number && not (goes area)) w.areas) w.memory;
    }

-- a MAP of a file's user; each file has one
abbrev pub map_changes : ℕ → World → FileNo → MapRequest → Iova → Option UserNo → World
map_changes at w file request iova None = w
map_changes at w file request iova (Some user) =
    settle w (record w {
      memory = w.memory ++ memory_object at user request ∷ [];
      areas = with_area (mapped_area at file request iova) w.areas;
    })

-- a COPY makes another area over the memory object of its source
abbrev pub copy_changes : World → FileNo → CopyRequest → Iova → Option Area → World
copy_changes w file request iova None = w
copy_changes w file request iova (Some source) =
    settle w (record w { areas = with_area (mapped_area source.memory file (placed_as request) iova) w.areas })

-- ---- devices come and go

-- the device translates by this page table of its file, which is made where there is no automatic one yet
abbrev pub with_hwpt : FileNo → ObjId → ObjId → Width → Option Object → List Object → List Object
with_hwpt file ioas id width (Some object) objects = objects
with_hwpt file ioas id width None objects =
    with_object (record { file = file; id = id; kind = kind.Hwpt ioas width true }) objects

unfoldable pub attached : World → DeviceNo → ObjId → ObjId → Object → DeviceSettings → World
attached w device ioas id bound settings =
    record w {
      objects = with_hwpt bound.file ioas id settings.width
          (automatic_hwpt w.objects bound.file ioas settings.width) w.objects;
      attachments = with_attachment (record { device = device; file = bound.file; hwpt = id }) w.attachments;
      areas = all_paid device w.areas;
    }

-- the page table of an attachment that ends, if it is an automatic one that no other device uses
abbrev pub goes_with : List Attachment → Attachment → Object → Bool
goes_with others a object =
    is_object a.file a.hwpt object && is_automatic object.kind && not (has_device_on others a.file a.hwpt)

-- it is tracked no longer then
abbrev pub tracked_without : List Attachment → Attachment → World → List TrackedTable
tracked_without others a w =
    if list_any (goes_with others a) w.objects then without_tracked a.file a.hwpt w.tracked else w.tracked

unfoldable pub detached : World → DeviceNo → Attachment → World
detached w device a =
    record w {
      objects = filter (λ object. not (goes_with (without_attachment device w.attachments) a object)) w.objects;
      attachments = without_attachment device w.attachments;
      areas = all_paid device w.areas;
      tracked = tracked_without (without_attachment device w.attachments) a w;
    }

-- the device translates by a page table that is there
unfoldable pub joined : World → DeviceNo → ObjId → Object → World
joined w device id bound =
    record w {
      attachments = with_attachment (record { device = device; file = bound.file; hwpt = id }) w.attachments;
      areas = all_paid device w.areas;
    }

-- a device is attached to what its file has under the id: an address space, or a page table
abbrev pub target_changes : World → DeviceNo → ObjId → ObjId → Object → DeviceSettings →
    Option ObjectKind → World
target_changes w device pt_id id bound settings (Some kind.Ioas) = settle w (attached w device pt_id id bound settings)
target_changes w device pt_id id bound settings (Some (kind.Hwpt ioas width automatic)) = joined w device id bound
target_changes w device pt_id id bound settings (Some (kind.Device other)) = w
target_changes w device pt_id id bound settings (Some (kind.Access attached)) = w
target_changes w device pt_id id bound settings None = w

-- a device that is bound, and so is one of the settings, is attached; one that is attached is detached
abbrev pub attach_changes : World → DeviceNo → ObjId → ObjId → Option Object → Option DeviceSettings → World
attach_changes w device pt_id id None settings = w
attach_changes w device pt_id id (Some bound) None = w
attach_changes w device pt_id id (Some bound) (Some settings) =
    target_changes w device pt_id id bound settings (kind_of w.objects bound.file pt_id)

abbrev pub detach_changes : World → DeviceNo → Option Attachment → World
detach_changes w device None = w
detach_changes w device (Some a) = settle w (detached w device a)

-- a page table of the device's width over the address space, which stays until it is destroyed
abbrev pub made_hwpt : FileNo → ObjId → ObjId → DeviceSettings → Object
made_hwpt file ioas id settings = record { file = file; id = id; kind = kind.Hwpt ioas settings.width false }

-- a HWPT_ALLOC names a device of its file, and so one of the settings
abbrev pub hwpt_changes : World → FileNo → ObjId → ObjId → Option DeviceSettings → World
hwpt_changes w file ioas id None = w
hwpt_changes w file ioas id (Some settings) =
    settle w (record w { objects = with_object (made_hwpt file ioas id settings) w.objects })

-- ---- the world after each event, by the kind of its answer; each other kind is no answer of it, and leaves the world

abbrev pub allocated : World → FileNo → Reply → World
allocated w file (reply.Id id) =
    record w { objects = with_object (record { file = file; id = id; kind = kind.Ioas }) w.objects }
allocated w file answer = w

abbrev pub ranges_allowed : World → FileNo → ObjId → List Bounds → Reply → World
ranges_allowed w file ioas ranges reply.Done = record w { allowed = with_allowed file ioas ranges w.allowed }
ranges_allowed w file ioas ranges answer = w

abbrev pub mapped : ℕ → World → FileNo → MapRequest → Reply → World
mapped at w file request (reply.Iova iova) = map_changes at w file request iova (user_of w.settings file)
mapped at w file request answer = w

abbrev pub copied : World → FileNo → CopyRequest → Reply → World
copied w file request (reply.Iova iova) =
    copy_changes w file request iova (source_in (areas_of w.areas file request.src_ioas) request)
copied w file request answer = w

abbrev pub unmapped : World → FileNo → UnmapRequest → Reply → World
unmapped w file request (reply.Bytes count) = settle w (without_areas (is_touched file request) w)
unmapped w file request (reply.Pending errno) =
    record w { areas = with_leaving w.areas (devices_of w.objects w.attachments file request.ioas) file request }
unmapped w file request answer = w

abbrev pub hwpt_allocated : World → FileNo → HwptRequest → Reply → World
hwpt_allocated w file request (reply.Id id) =
    hwpt_changes w file request.ioas id (settings_under w.settings w.objects file request.device)
hwpt_allocated w file request answer = w

abbrev pub destroyed : World → FileNo → ObjId → Reply → World
destroyed w file id reply.Done =
    settle w (record (without_areas (is_of file id) w) {
      objects = without_object file id w.objects;
      allowed = without_allowed file id w.allowed;
      tracked = without_tracked file id w.tracked;
    })
destroyed w file id answer = w

abbrev pub file_closed : World → FileNo → Reply → World
file_closed w file reply.Done =
    settle w (record (without_areas (λ area. area.file.0 == file.0) w) {
      objects = filter (λ object. not (object.file.0 == file.0)) w.objects;
      attachments = filter (λ a. not (a.file.0 == file.0)) w.attachments;
      allowed = filter (λ ranges. not (ranges.file.0 == file.0)) w.allowed;
      tracked = filter (λ table. not (table.file.0 == file.0)) w.tracked;
      closed = w.closed ++ file ∷ [];
    })
file_closed w file answer = w

-- the user's new page reads zero: what was written into its frame before is gone
abbrev pub user_mapped : World → UserNo → ℕ → Reply → World
user_mapped w user va (reply.Frame frame) =
    record w {
      user_pages = w.user_pages ++ record { user = user; page = page_of va; frame = frame } ∷ [];
      writes = without_frame frame.0 w.writes;
    }
user_mapped w user va answer = w

-- what devices reach of the page they reach still: a pin outlives it
abbrev pub user_unmapped : World → UserNo → ℕ → Reply → World
user_unmapped w user va reply.Done = record w { user_pages = without_page w.user_pages user (page_of va) }
user_unmapped w user va answer = w

abbrev pub user_written : World → UserNo → ℕ → List ℕ → Reply → World
user_written w user va bytes reply.Done =
    record w { writes = with_write (frame_at w.user_pages user (page_of va)) (offset_of va) bytes w.writes }
user_written w user va bytes answer = w

abbrev pub device_bound : World → FileNo → DeviceNo → Reply → World
device_bound w file device (reply.Id id) =
    record w { objects = with_object (record { file = file; id = id; kind = kind.Device device }) w.objects }
device_bound w file device answer = w

abbrev pub device_unbound : World → FileNo → ObjId → Reply → World
device_unbound w file id reply.Done = record w { objects = without_device_object file id w.objects }
device_unbound w file id answer = w

abbrev pub device_attached : World → DeviceNo → ObjId → Reply → World
device_attached w device pt_id (reply.Id id) =
    attach_changes w device pt_id id (binding_of w.objects device) (device_of w.settings device)
device_attached w device pt_id answer = w

abbrev pub device_detached : World → DeviceNo → Reply → World
device_detached w device reply.Done = detach_changes w device (attachment_of w.attachments device)
device_detached w device answer = w

abbrev pub device_flushed : World → DeviceNo → Reply → World
device_flushed w device reply.Done = record w { areas = all_paid device w.areas }
device_flushed w device answer = w

-- the page is marked, where the device's page table is tracked; a write that was denied leaves the world as it was
abbrev pub device_written : World → DeviceNo → Iova → List ℕ → Reply → World
device_written w device iova bytes (reply.Passed frame) =
    record w {
      tracked = marked_by (attachment_of w.attachments device) (page_of iova.0) w.tracked;
      writes = record { frame = frame.0; offset = offset_of iova.0; bytes = bytes } ∷ w.writes;
    }
device_written w device iova bytes answer = w

-- a new access object is attached to nothing
abbrev pub access_created : World → FileNo → Reply → World
access_created w file (reply.Id id) =
    record w { objects = with_object (record { file = file; id = id; kind = kind.Access None }) w.objects }
access_created w file answer = w

abbrev pub access_attached : World → FileNo → ObjId → ObjId → Reply → World
access_attached w file id ioas reply.Done = record w { objects = with_access file id (Some ioas) w.objects }
access_attached w file id ioas answer = w

abbrev pub access_detached : World → FileNo → ObjId → Reply → World
access_detached w file id reply.Done = record w { objects = with_access file id None w.objects }
access_detached w file id answer = w

-- its pages are pinned from then on, if they weren't
abbrev pub access_pinned : World → FileNo → ObjId → PinRequest → Reply → World
access_pinned w file id request reply.Done =
    settle w (record w { access_pins = w.access_pins ++ pin_of file id request ∷ [] })
access_pinned w file id request answer = w

-- pages that nothing else pins aren't any more
abbrev pub access_unpinned : World → FileNo → ObjId → PinRequest → Reply → World
access_unpinned w file id request reply.Done =
    settle w (record w { access_pins = without_pin (pin_of file id request) w.access_pins })
access_unpinned w file id request answer = w

abbrev pub access_written : World → FileNo → ObjId → Iova → List ℕ → Reply → World
access_written w file id iova bytes reply.Done =
    record w { writes = with_write (accessed_frame (view w) file id iova.0) (offset_of iova.0) bytes w.writes }
access_written w file id iova bytes answer = w

-- from now on it is tracked, with no page marked, or it isn't
abbrev pub tracking_set : World → FileNo → ObjId → Bool → Reply → World
tracking_set w file hwpt on reply.Done = record w { tracked = with_tracking file hwpt on w.tracked }
tracking_set w file hwpt on answer = w

-- what was reported isn't marked any more
abbrev pub marks_cleared : World → FileNo → DirtyRequest → Reply → World
marks_cleared w file request (reply.Dirty words) =
    record w { tracked = without_marks file request.hwpt (reported_span request) w.tracked }
marks_cleared w file request answer = w

-- the world after an event, at the record's position
unfoldable pub changed : {A : Type 0} → ℕ → World → Event A → Reply → World
changed at w (event.IoasAlloc file) answer = allocated w file answer
changed at w (event.AllowIovas file ioas ranges) answer = ranges_allowed w file ioas ranges answer
changed at w (event.Map file request) answer = mapped at w file request answer
changed at w (event.Copy file request) answer = copied w file request answer
changed at w (event.Unmap file request) answer = unmapped w file request answer
changed at w (event.HwptAlloc file request) answer = hwpt_allocated w file request answer
changed at w (event.Destroy file id) answer = destroyed w file id answer
changed at w (event.Close file) answer = file_closed w file answer
changed at w (event.UserMap user va) answer = user_mapped w user va answer
changed at w (event.UserUnmap user va) answer = user_unmapped w user va answer
changed at w (event.UserWrite user va bytes) answer = user_written w user va bytes answer
changed at w (event.Bind file device) answer = device_bound w file device answer
changed at w (event.Unbind file id) answer = device_unbound w file id answer
changed at w (event.Attach device pt_id) answer = device_attached w device pt_id answer
changed at w (event.Detach device) answer = device_detached w device answer
changed at w (event.Flush device) answer = device_flushed w device answer
changed at w (event.DeviceWrite device iova bytes) answer = device_written w device iova bytes answer
changed at w (event.AccessCreate file) answer = access_created w file answer
changed at w (event.AccessAttach file id ioas) answer = access_attached w file id ioas answer
changed at w (event.AccessDetach file id) answer = access_detached w file id answer
changed at w (event.AccessPin file id request) answer = access_pinned w file id request answer
changed at w (event.AccessUnpin file id request) answer = access_unpinned w file id request answer
changed at w (event.AccessWrite file id iova bytes) answer = access_written w file id iova bytes answer
changed at w (event.DirtyEnable file hwpt on) answer = tracking_set w file hwpt on answer
changed at w (event.DirtyClear file request) answer = marks_cleared w file request answer
