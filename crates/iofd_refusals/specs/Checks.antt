-- The refusals of each event, in their order, by what they read of a world: the first test that is true gives the
-- cause. A closed or unknown file comes before all.
use Rattle.std.specs.Prelude.{ℕ, ◌+◌, ◌/◌, ◌^◌, Bool, true, false, ◌==◌, ◌&&◌, ◌||◌, not}
use Rattle.std.specs.Prelude.{nat_le, nat_lt, Option, Some}
use Rattle.std.specs.Prelude.{None, is_some, is_none, List, [], ◌∷◌, ◌++◌, filter, length}
use Rattle.std.specs.Prelude.{map, sum_by, if◌then◌else◌}
use Rattle.std.specs.List.{list_any}
use Rattle.iofd_words.specs.Accesses.{has_gap, lacks_accessed_page, meets_leaving, meets_without_right}
use Rattle.iofd_words.specs.Accesses.{newly_accessed, pin_of, pinned_span}
use Rattle.iofd_words.specs.Allowed.{are_ranges}
use Rattle.iofd_words.specs.Areas.{areas_meet, has_no_room, is_cut, is_everything, unmapped_span}
use Rattle.iofd_words.specs.Attachments.{attachment_of, has_device_on}
use Rattle.iofd_words.specs.Files.{is_user, is_device, limit_of, user_of, device_of}
use Rattle.iofd_words.specs.Bounds.{Bounds}
use Rattle.iofd_words.specs.Copies.{is_writable, placed_as, source_in}
use Rattle.iofd_words.specs.FirstTrue.{first_true}
use Rattle.iofd_words.specs.Frames.{has_pages}
use Rattle.iofd_words.specs.Objects.{kind_of, has_ioas, has_hwpt, automatic_hwpt, is_full, is_hwpt_over, objects_of}
use Rattle.iofd_words.specs.Objects.{access_ioas_of, device_in, device_under, has_access, has_access_to, is_access}
use Rattle.iofd_words.specs.Objects.{is_bound_device, is_hwpt_under, settings_under}
use Rattle.iofd_words.specs.Pages.{is_whole, page_of, is_above_sum, is_above_user, crosses}
use Rattle.iofd_words.specs.Pins.{ObjectPage, unpinned_pages}
use Rattle.iofd_words.specs.Ranges.{meets_some}
use Rattle.iofd_words.specs.Rights.{is_fixed, is_readable, is_writeable}
use Rattle.iofd_words.specs.Room.{fits, starts_to_try}
use Rattle.iofd_words.specs.Settings.{DeviceSettings}
use Rattle.iofd_words.specs.Span.{holds, span_from}
use Rattle.iofd_words.specs.TablePlaces.{is_live, lacking, live_pages, pages_in, places_of}
use Rattle.iofd_words.specs.Usable.{allowed_spans, beyond, interrupt_range, occupied, reserved_by, unusable}
use Rattle.iofd_words.specs.View.{View, view}
use Rattle.iofd_words.specs.Width.{bits_of}
use Rattle.iofd_words.specs.World.{World}
use Rattle.iofd_words.specs.declared.event.CopyRequest.{CopyRequest}
use Rattle.iofd_words.specs.declared.event.DirtyRequest.{DirtyRequest}
use Rattle.iofd_words.specs.declared.event.Event.{Event}
use Rattle.iofd_words.specs.declared.event.Event.TheVariants as event
use Rattle.iofd_words.specs.declared.event.HwptRequest.{HwptRequest}
use Rattle.iofd_words.specs.declared.event.MapRequest.{MapRequest}
use Rattle.iofd_words.specs.declared.event.PinRequest.{PinRequest}
use Rattle.iofd_words.specs.declared.event.UnmapRequest.{UnmapRequest}
use Rattle.iofd_words.specs.declared.fault.AccessKind.{AccessKind}
use Rattle.iofd_words.specs.declared.fault.AccessKind.TheVariants.{Read, Write}
use Rattle.iofd_words.specs.declared.numbers.DeviceNo.{DeviceNo}
use Rattle.iofd_words.specs.declared.numbers.FileNo.{FileNo}
use Rattle.iofd_words.specs.declared.numbers.Iova.{Iova}
use Rattle.iofd_words.specs.declared.numbers.ObjId.{ObjId}
use Rattle.iofd_words.specs.declared.numbers.UserNo.{UserNo}
use Rattle.iofd_words.specs.declared.refusal.Cause.{Cause}
use Rattle.iofd_words.specs.declared.refusal.Cause.TheVariants as cause
use Rattle.iofd_words.specs.declared.rows.Area.{Area}
use Rattle.iofd_words.specs.declared.rows.ObjectKind.{ObjectKind}
use Rattle.iofd_words.specs.declared.rows.ObjectKind.TheVariants as kind
use Rattle.iofd_words.specs.declared.width.Width.{Width}

-- ---- parts of the tests

-- the spans of an address space that can't be used
abbrev pub unusable_in : View → FileNo → ObjId → List Bounds
unusable_in v file ioas = unusable v.settings v.objects v.attachments file ioas

-- a MAP's fixed address, or none where the server chooses; sums and multiples of a fixed address are checked, and its
-- span must be free and usable
abbrev pub mapped_span : MapRequest → Bounds
mapped_span request = span_from request.iova.0 request.length

abbrev pub is_outside_usable : View → FileNo → MapRequest → Bool
is_outside_usable v file request =
    is_fixed request.flags && meets_some (unusable_in v file request.ioas) (mapped_span request)

abbrev pub overlaps : View → FileNo → MapRequest → Bool
overlaps v file request = is_fixed request.flags && areas_meet (mapped_span request) (v.areas_of file request.ioas)

-- the ranges to which a chosen address is bounded, and what can't be mapped in them
abbrev pub choices : View → FileNo → MapRequest → List Bounds
choices v file request = allowed_spans (v.allowed_of file request.ioas)

abbrev pub taken_spans : View → FileNo → MapRequest → List Bounds
taken_spans v file request = occupied (unusable_in v file request.ioas) (v.areas_of file request.ioas)

-- the server may choose this address for a MAP: a multiple of a page, from which on the span lies in the allowed
-- ranges, can be used and meets no area
abbrev pub may_choose : View → FileNo → MapRequest → ℕ → Bool
may_choose v file request start =
    not (is_above_sum start request.length) && fits request.length (choices v file request)
    (taken_spans v file request) start

-- there is such an address: where one may be chosen, one may that has nothing before it
abbrev pub has_choice : View → FileNo → MapRequest → Bool
has_choice v file request =
    list_any (may_choose v file request) (starts_to_try (choices v file request) (taken_spans v file request))

-- an address is to be chosen, and there is none
abbrev pub lacks_choice : View → FileNo → MapRequest → Bool
lacks_choice v file request = not (is_fixed request.flags) && not (has_choice v file request)

-- a MAP into an address space with a page table pins its pages, and needs them
abbrev pub lacks_mapped_page : View → FileNo → MapRequest → Bool
lacks_mapped_page v file request =
    has_hwpt v.objects file request.ioas
    && elim (user_of v.settings file) [
      | Some user ↦ not
          (has_pages v.frame_at user (page_of request.user_va) (request.length / 4096))
      | None ↦ true
    ]

-- the pages that the first page table of an address space pins: of the memory objects of all its areas, those that
-- aren't pinned yet
abbrev pub newly_pinned : View → FileNo → ObjId → List ObjectPage
newly_pinned v file ioas =
    unpinned_pages v.pinned_frame (filter (λ m. list_any (λ area. area.memory == m.number) (v.areas_of file ioas))
    v.memory)

-- they are needed
abbrev pub lacks_attached_page : View → FileNo → ObjId → Bool
lacks_attached_page v file ioas =
    not (has_hwpt v.objects file ioas) && list_any (λ page. is_none (v.frame_now page)) (newly_pinned v file ioas)

-- with so many pinned pages more the user would have more than the limit allows
abbrev pub passes_limit : View → Option UserNo → ℕ → Bool
passes_limit v None count = false
passes_limit v (Some user) count =
    elim (limit_of v.settings user) [ Some limit ↦ nat_lt limit (v.held_by user + count) | None ↦ false ]

-- by a MAP into an address space with a page table
abbrev pub passes_limit_mapped : View → FileNo → MapRequest → Bool
passes_limit_mapped v file request =
    has_hwpt v.objects file request.ioas && passes_limit v (user_of v.settings file) (request.length / 4096)

-- by the first page table of an address space
abbrev pub passes_limit_attached : View → FileNo → ObjId → Bool
passes_limit_attached v file ioas =
    not (has_hwpt v.objects file ioas)
    && passes_limit v (user_of v.settings file) (length (newly_pinned v file ioas))

-- the live area whose span is exactly the source range of a COPY
abbrev pub source_of : View → FileNo → CopyRequest → Option Area
source_of v file request = source_in (v.areas_of file request.src_ioas) request

-- its memory may be written by devices
abbrev pub is_source_writable : View → FileNo → CopyRequest → Bool
is_source_writable v file request =
    elim (source_of v file request) [ Some source ↦ is_writable v.memory source.memory | None ↦ false ]

-- the pages that a COPY into an address space with a page table pins: those of the source's memory object that aren't
-- pinned yet
abbrev pub newly_copied : View → FileNo → CopyRequest → List ObjectPage
newly_copied v file request =
    elim (source_of v file request) [
      | Some source ↦ unpinned_pages v.pinned_frame (filter (λ m. m.number == source.memory) v.memory)
      | None ↦ []
    ]

-- they are needed
abbrev pub lacks_copied_page : View → FileNo → CopyRequest → Bool
lacks_copied_page v file request =
    has_hwpt v.objects file request.dst_ioas
    && list_any (λ page. is_none (v.frame_now page)) (newly_copied v file request)

-- with them the user would have more than the limit allows
abbrev pub passes_limit_copied : View → FileNo → CopyRequest → Bool
passes_limit_copied v file request =
    has_hwpt v.objects file request.dst_ioas
    && passes_limit v (user_of v.settings file) (length (newly_copied v file request))

-- how many tables an object lacks to map these pages, where it is a page table over the address space
abbrev pub tables_lacked : View → FileNo → ObjId → List ℕ → ObjectKind → ℕ
tables_lacked v file id pages kind.Ioas = 0
tables_lacked v file id pages (kind.Hwpt ioas width automatic) =
    length (lacking (v.has_table file id) (places_of width pages))
tables_lacked v file id pages (kind.Device device) = 0
tables_lacked v file id pages (kind.Access attached) = 0

-- all page tables of the address space together
abbrev pub tables_to_map : View → FileNo → ObjId → Bounds → ℕ
tables_to_map v file ioas span =
    sum_by (λ object. tables_lacked v file object.id (pages_in span) object.kind)
    (filter (λ object. object.file.0 == file.0 && is_hwpt_over ioas object.kind) v.objects)

-- where a MAP's area comes to lie: at the fixed address, or at the least that may be chosen
abbrev pub least : List ℕ → Option ℕ
least [] = None
least (n ∷ numbers) =
    elim (least numbers) [ Some other ↦ Some (if nat_lt other n then other else n) | None ↦ Some n ]

abbrev pub mapped_start : View → FileNo → MapRequest → Option ℕ
mapped_start v file request =
    if is_fixed request.flags then Some request.iova.0
    else least (filter (may_choose v file request)
    (starts_to_try (choices v file request) (taken_spans v file request)))

-- fewer frames are free than the page tables lack tables to map the area there
abbrev pub lacks_mapped_frames : View → FileNo → MapRequest → Bool
lacks_mapped_frames v file request =
    elim (mapped_start v file request) [
      | Some start ↦ nat_lt v.free_count (tables_to_map v file request.ioas (span_from start request.length))
      | None ↦ false
    ]

-- or than a new page table of this width has, which maps all live areas of the address space
abbrev pub lacks_new_tables : View → FileNo → ObjId → Option DeviceSettings → Bool
lacks_new_tables v file ioas None = false
lacks_new_tables v file ioas (Some device) =
    nat_lt v.free_count
    (length (lacking (λ place. false) (places_of device.width (live_pages (v.areas_of file ioas)))))

-- or than the page table has that an attachment would make
abbrev pub lacks_attached_frames : View → FileNo → ObjId → Option DeviceSettings → Bool
lacks_attached_frames v file ioas None = false
lacks_attached_frames v file ioas (Some device) =
    is_none (automatic_hwpt v.objects file ioas device.width) && lacks_new_tables v file ioas (Some device)

-- with the pages that a pin pins the user would have more than the limit allows
abbrev pub passes_limit_accessed : View → FileNo → ObjId → Bounds → Bool
passes_limit_accessed v file ioas span =
    passes_limit v (user_of v.settings file) (length (newly_accessed v file ioas span))

-- others stand on the object: page tables and access objects on an address space, devices on a page table; an access
-- object is in use as long as it is attached
abbrev pub is_used : View → FileNo → ObjId → Option ObjectKind → Bool
is_used v file id None = false
is_used v file id (Some kind.Ioas) = has_hwpt v.objects file id || has_access_to v.objects file id
is_used v file id (Some (kind.Hwpt ioas width automatic)) = has_device_on v.attachments file id
is_used v file id (Some (kind.Device device)) = false
is_used v file id (Some (kind.Access attached)) = is_some attached

-- the device that the object binds is attached
abbrev pub is_attached : View → Option ObjectKind → Bool
is_attached v None = false
is_attached v (Some kind) =
    elim (device_in kind) [ Some device ↦ is_some (attachment_of v.attachments device) | None ↦ false ]

abbrev pub is_device_object : Option ObjectKind → Bool
is_device_object None = false
is_device_object (Some kind) = is_bound_device kind

-- without these spans an area or an allowed range of the address space would lie outside what can be used
abbrev pub narrows_without : View → FileNo → ObjId → List Bounds → Bool
narrows_without v file ioas spans =
    list_any (meets_some (spans ++ unusable_in v file ioas))
    (map (λ area. area.span) (v.areas_of file ioas) ++ v.allowed_of file ioas)

-- with the device attached, one would
abbrev pub narrows : View → FileNo → ObjId → Option DeviceSettings → Bool
narrows v file ioas None = false
narrows v file ioas (Some device) = narrows_without v file ioas (beyond device.width ∷ reserved_by device)

-- with a page table of the device's width one would: what the device reserves isn't kept before it is attached
abbrev pub narrows_by_width : View → FileNo → ObjId → Option DeviceSettings → Bool
narrows_by_width v file ioas None = false
narrows_by_width v file ioas (Some device) = narrows_without v file ioas (beyond device.width ∷ [])

-- the address space gets no first page table as long as an area of it is leaving
abbrev pub waits_for_leaving : View → FileNo → ObjId → Bool
waits_for_leaving v file ioas =
    not (has_hwpt v.objects file ioas) && list_any (λ area. not (is_live area.phase)) (v.areas_of file ioas)

-- an attachment would have to make a page table, and the file has no room for it
abbrev pub lacks_room_for_hwpt : View → FileNo → ObjId → Option DeviceSettings → Bool
lacks_room_for_hwpt v file ioas None = false
lacks_room_for_hwpt v file ioas (Some device) =
    is_none (automatic_hwpt v.objects file ioas device.width) && is_full v.objects file

-- the device's tables don't have this width
abbrev pub has_other_width : Option DeviceSettings → Width → Bool
has_other_width None width = false
has_other_width (Some device) width = not (bits_of device.width == bits_of width)

-- an x86 device's address of interrupts
abbrev pub is_interrupt : Option DeviceSettings → ℕ → Bool
is_interrupt None address = false
is_interrupt (Some device) address = device.x86 && holds interrupt_range address

-- ---- the refusals

-- those of a device's access to so many bytes, for reads and writes alike
abbrev pub access_checks : View → DeviceNo → Iova → ℕ → List (Cause × Bool)
access_checks v device iova len =
    (cause.Id, is_none (v.binding_of device))
    ∷ (cause.Cross, crosses iova.0 len)
    ∷ (cause.InterruptRange, is_interrupt (device_of v.settings device) iova.0)
    ∷ []

-- those of a user's access to so many bytes of its own memory, for reads and writes alike
abbrev pub user_access_checks : View → UserNo → ℕ → ℕ → List (Cause × Bool)
user_access_checks v user va len =
    (cause.Id, not (is_user v.settings user))
    ∷ (cause.Cross, crosses va len)
    ∷ (cause.Absent, is_none (v.frame_at user (page_of va)))
    ∷ []

-- those of Attach, of a device that isn't attached, by what its file has under the id: an address space, or a page
-- table
abbrev pub target_checks : View → DeviceNo → ObjId → FileNo → Option ObjectKind → List (Cause × Bool)
target_checks v device pt_id file (Some kind.Ioas) =
    (cause.Pending, waits_for_leaving v file pt_id)
    ∷ (cause.Narrow, narrows v file pt_id (device_of v.settings device))
    ∷ (cause.Full, lacks_room_for_hwpt v file pt_id (device_of v.settings device))
    ∷ (cause.Absent, lacks_attached_page v file pt_id)
    ∷ (cause.Account, passes_limit_attached v file pt_id)
    ∷ (cause.Frames, lacks_attached_frames v file pt_id (device_of v.settings device))
    ∷ []
target_checks v device pt_id file (Some (kind.Hwpt ioas width automatic)) =
    (cause.Width, has_other_width (device_of v.settings device) width)
    ∷ (cause.Narrow, narrows v file ioas (device_of v.settings device))
    ∷ []
target_checks v device pt_id file (Some (kind.Device bound)) = (cause.Id, true) ∷ []
target_checks v device pt_id file (Some (kind.Access attached)) = (cause.Id, true) ∷ []
target_checks v device pt_id file None = (cause.Id, true) ∷ []

-- those of Attach, of a device that is bound to the file
abbrev pub bound_attach_checks : View → DeviceNo → ObjId → FileNo → List (Cause × Bool)
bound_attach_checks v device pt_id file =
    (cause.Bound, is_some (attachment_of v.attachments device))
    ∷ target_checks v device pt_id file (kind_of v.objects file pt_id)

unfoldable pub ioas_alloc_checks : View → FileNo → List (Cause × Bool)
ioas_alloc_checks v file =
    (cause.Id, not (v.is_open file))
    ∷ (cause.Full, is_full v.objects file)
    ∷ []

unfoldable pub allow_iovas_checks : View → FileNo → ObjId → List Bounds → List (Cause × Bool)
allow_iovas_checks v file ioas ranges =
    (cause.Id, not (v.is_open file))
    ∷ (cause.Id, not (has_ioas v.objects file ioas))
    ∷ (cause.List, not (are_ranges ranges))
    ∷ (cause.Narrow, list_any (meets_some (unusable_in v file ioas)) ranges)
    ∷ []

unfoldable pub map_checks : View → FileNo → MapRequest → List (Cause × Bool)
map_checks v file request =
    (cause.Id, not (v.is_open file))
    ∷ (cause.NoRight, not (is_readable request.flags || is_writeable request.flags))
    ∷ (
      cause.Sum,
      is_above_sum request.user_va request.length
          || (is_fixed request.flags && is_above_sum request.iova.0 request.length),
    )
    ∷ (cause.Align, request.length == 0 || not (is_whole request.length && is_whole request.user_va))
    ∷ (cause.Align, is_fixed request.flags && not (is_whole request.iova.0))
    ∷ (cause.Absent, is_above_user request.user_va request.length)
    ∷ (cause.Id, not (has_ioas v.objects file request.ioas))
    ∷ (cause.Reserved, is_outside_usable v file request)
    ∷ (cause.Overlap, overlaps v file request)
    ∷ (cause.Full, has_no_room (v.areas_of file request.ioas) || lacks_choice v file request)
    ∷ (cause.Absent, lacks_mapped_page v file request)
    ∷ (cause.Account, passes_limit_mapped v file request)
    ∷ (cause.Frames, lacks_mapped_frames v file request)
    ∷ []

unfoldable pub copy_checks : View → FileNo → CopyRequest → List (Cause × Bool)
copy_checks v file request =
    (cause.Id, not (v.is_open file))
    ∷ (cause.NoRight, not (is_readable request.flags || is_writeable request.flags))
    ∷ (
      cause.Sum,
      is_above_sum request.src_iova.0 request.length
          || (is_fixed request.flags && is_above_sum request.dst_iova.0 request.length),
    )
    ∷ (cause.Align, request.length == 0 || not (is_whole request.length && is_whole request.src_iova.0))
    ∷ (cause.Align, is_fixed request.flags && not (is_whole request.dst_iova.0))
    ∷ (cause.Id, not (has_ioas v.objects file request.dst_ioas))
    ∷ (cause.Id, not (has_ioas v.objects file request.src_ioas))
    ∷ (cause.Span, is_none (source_of v file request))
    ∷ (cause.Rights, is_writeable request.flags && not (is_source_writable v file request))
    ∷ (cause.Reserved, is_outside_usable v file (placed_as request))
    ∷ (cause.Overlap, overlaps v file (placed_as request))
    ∷ (cause.Full, has_no_room (v.areas_of file request.dst_ioas) || lacks_choice v file (placed_as request))
    ∷ (cause.Absent, lacks_copied_page v file request)
    ∷ (cause.Account, passes_limit_copied v file request)
    ∷ (cause.Frames, lacks_mapped_frames v file (placed_as request))
    ∷ []

unfoldable pub unmap_checks : View → FileNo → UnmapRequest → List (Cause × Bool)
unmap_checks v file request =
    (cause.Id, not (v.is_open file))
    ∷ (cause.Sum, is_above_sum request.iova.0 request.length)
    ∷ (cause.Align, request.length == 0)
    ∷ (cause.Id, not (has_ioas v.objects file request.ioas))
    ∷ (
      cause.Span,
      not (is_everything request)
          && not (areas_meet (unmapped_span request) (v.areas_of file request.ioas)),
    )
    ∷ (cause.Span, is_cut (unmapped_span request) (v.areas_of file request.ioas))
    ∷ []

unfoldable pub hwpt_alloc_checks : View → FileNo → HwptRequest → List (Cause × Bool)
hwpt_alloc_checks v file request =
    (cause.Id, not (v.is_open file))
    ∷ (cause.Id, is_none (device_under v.objects file request.device))
    ∷ (cause.Id, not (has_ioas v.objects file request.ioas))
    ∷ (cause.Pending, waits_for_leaving v file request.ioas)
    ∷ (cause.Narrow, narrows_by_width v file request.ioas (settings_under v.settings v.objects file request.device))
    ∷ (cause.Full, is_full v.objects file)
    ∷ (cause.Absent, lacks_attached_page v file request.ioas)
    ∷ (cause.Account, passes_limit_attached v file request.ioas)
    ∷ (cause.Frames, lacks_new_tables v file request.ioas (settings_under v.settings v.objects file request.device))
    ∷ []

unfoldable pub destroy_checks : View → FileNo → ObjId → List (Cause × Bool)
destroy_checks v file id =
    (cause.Id, not (v.is_open file))
    ∷ (cause.Id, is_none (kind_of v.objects file id))
    ∷ (cause.InUse, is_used v file id (kind_of v.objects file id))
    ∷ (cause.Bound, is_device_object (kind_of v.objects file id))
    ∷ []

unfoldable pub close_checks : View → FileNo → List (Cause × Bool)
close_checks v file =
    (cause.Id, not (v.is_open file))
    ∷ (
      cause.InUse,
      list_any (λ object. is_bound_device object.kind || is_access object.kind) (objects_of v.objects file),
    )
    ∷ []

unfoldable pub user_map_checks : View → UserNo → ℕ → List (Cause × Bool)
user_map_checks v user va =
    (cause.Id, not (is_user v.settings user))
    ∷ (cause.Align, not (is_whole va) || nat_le (2 ^ 48) va)
    ∷ (cause.Overlap, is_some (v.frame_at user (page_of va)))
    ∷ (cause.Frames, v.free_count == 0)
    ∷ []

unfoldable pub user_unmap_checks : View → UserNo → ℕ → List (Cause × Bool)
user_unmap_checks v user va =
    (cause.Id, not (is_user v.settings user))
    ∷ (cause.Align, not (is_whole va) || nat_le (2 ^ 48) va)
    ∷ (cause.Absent, is_none (v.frame_at user (page_of va)))
    ∷ []

unfoldable pub user_write_checks : View → UserNo → ℕ → List ℕ → List (Cause × Bool)
user_write_checks v user va bytes = user_access_checks v user va (length bytes)

unfoldable pub bind_checks : View → FileNo → DeviceNo → List (Cause × Bool)
bind_checks v file device =
    (cause.Id, not (v.is_open file))
    ∷ (cause.Id, not (is_device v.settings device))
    ∷ (cause.Bound, is_some (v.binding_of device))
    ∷ (cause.Full, is_full v.objects file)
    ∷ []

unfoldable pub unbind_checks : View → FileNo → ObjId → List (Cause × Bool)
unbind_checks v file id =
    (cause.Id, not (v.is_open file))
    ∷ (cause.Id, not (is_device_object (kind_of v.objects file id)))
    ∷ (cause.InUse, is_attached v (kind_of v.objects file id))
    ∷ []

unfoldable pub attach_checks : View → DeviceNo → ObjId → List (Cause × Bool)
attach_checks v device pt_id =
    elim (v.binding_of device) [
      | None ↦ (cause.Id, true) ∷ []
      | Some bound ↦ bound_attach_checks v device pt_id bound.file
    ]

unfoldable pub detach_checks : View → DeviceNo → List (Cause × Bool)
detach_checks v device =
    (cause.Id, is_none (v.binding_of device))
    ∷ (cause.Unattached, is_none (attachment_of v.attachments device))
    ∷ []

unfoldable pub flush_checks : View → DeviceNo → List (Cause × Bool)
flush_checks v device =
    (cause.Id, is_none (v.binding_of device))
    ∷ []

unfoldable pub device_write_checks : View → DeviceNo → Iova → List ℕ → List (Cause × Bool)
device_write_checks v device iova bytes = access_checks v device iova (length bytes)

unfoldable pub access_create_checks : View → FileNo → List (Cause × Bool)
access_create_checks v file =
    (cause.Id, not (v.is_open file))
    ∷ (cause.Full, is_full v.objects file)
    ∷ []

unfoldable pub access_attach_checks : View → FileNo → ObjId → ObjId → List (Cause × Bool)
access_attach_checks v file id ioas =
    (cause.Id, not (v.is_open file))
    ∷ (cause.Id, not (has_access v.objects file id))
    ∷ (cause.Id, not (has_ioas v.objects file ioas))
    ∷ (cause.Bound, is_some (access_ioas_of v.objects file id))
    ∷ []

unfoldable pub access_detach_checks : View → FileNo → ObjId → List (Cause × Bool)
access_detach_checks v file id =
    (cause.Id, not (v.is_open file))
    ∷ (cause.Id, not (has_access v.objects file id))
    ∷ (cause.Unattached, is_none (access_ioas_of v.objects file id))
    ∷ (cause.InUse, v.holds_pin file id)
    ∷ []

-- those of a pin in the address space to which the access object is attached
abbrev pub pin_checks_in : View → FileNo → ObjId → PinRequest → Option ObjId → List (Cause × Bool)
pin_checks_in v file id request None = (cause.Unattached, true) ∷ []
pin_checks_in v file id request (Some ioas) =
    (cause.Sum, is_above_sum request.iova.0 request.length)
    ∷ (cause.Align, request.length == 0 || not (is_whole request.length && is_whole request.iova.0))
    ∷ (cause.Span, has_gap (pinned_span request) (v.areas_of file ioas))
    ∷ (cause.Leaving, meets_leaving (pinned_span request) (v.areas_of file ioas))
    ∷ (cause.Rights, meets_without_right (pinned_span request) request.write (v.areas_of file ioas))
    ∷ (cause.Full, v.has_most_pins file id)
    ∷ (cause.Absent, lacks_accessed_page v file ioas (pinned_span request))
    ∷ (cause.Account, passes_limit_accessed v file ioas (pinned_span request))
    ∷ []

unfoldable pub access_pin_checks : View → FileNo → ObjId → PinRequest → List (Cause × Bool)
access_pin_checks v file id request =
    (cause.Id, not (v.is_open file))
    ∷ (cause.Id, not (has_access v.objects file id))
    ∷ pin_checks_in v file id request (access_ioas_of v.objects file id)

unfoldable pub access_unpin_checks : View → FileNo → ObjId → PinRequest → List (Cause × Bool)
access_unpin_checks v file id request =
    (cause.Id, not (v.is_open file))
    ∷ (cause.Id, not (has_access v.objects file id))
    ∷ (cause.Unattached, is_none (access_ioas_of v.objects file id))
    ∷ (cause.NotHeld, not (v.is_held (pin_of file id request)))
    ∷ []

-- those of an access object's access to so many bytes, for reads and writes alike
abbrev pub held_access_checks : View → FileNo → ObjId → Iova → ℕ → AccessKind → List (Cause × Bool)
held_access_checks v file id iova len kind =
    (cause.Id, not (v.is_open file))
    ∷ (cause.Id, not (has_access v.objects file id))
    ∷ (cause.Unattached, is_none (access_ioas_of v.objects file id))
    ∷ (cause.Cross, crosses iova.0 len)
    ∷ (cause.NotHeld, not (v.is_covered file id iova.0 Read))
    ∷ (cause.Rights, not (v.is_covered file id iova.0 kind))
    ∷ []

unfoldable pub access_write_checks : View → FileNo → ObjId → Iova → List ℕ → List (Cause × Bool)
access_write_checks v file id iova bytes = held_access_checks v file id iova (length bytes) Write

unfoldable pub dirty_enable_checks : View → FileNo → ObjId → List (Cause × Bool)
dirty_enable_checks v file hwpt =
    (cause.Id, not (v.is_open file))
    ∷ (cause.Id, not (is_hwpt_under v.objects file hwpt))
    ∷ []

-- those of a report of written pages, whether it clears them or not
unfoldable pub dirty_checks : View → FileNo → DirtyRequest → List (Cause × Bool)
dirty_checks v file request =
    (cause.Id, not (v.is_open file))
    ∷ (cause.Id, not (is_hwpt_under v.objects file request.hwpt))
    ∷ (cause.Sum, is_above_sum request.iova.0 request.length)
    ∷ (cause.Align, request.length == 0 || not (is_whole request.length && is_whole request.iova.0))
    ∷ (cause.Tracking, not (v.tracks file request.hwpt) || nat_lt 256 (request.length / 4096))
    ∷ []

-- the refusals of each event
abbrev pub checks : {A : Type 0} → View → Event A → List (Cause × Bool)
checks v (event.IoasAlloc file) = ioas_alloc_checks v file
checks v (event.AllowIovas file ioas ranges) = allow_iovas_checks v file ioas ranges
checks v (event.Map file request) = map_checks v file request
checks v (event.Copy file request) = copy_checks v file request
checks v (event.Unmap file request) = unmap_checks v file request
checks v (event.HwptAlloc file request) = hwpt_alloc_checks v file request
checks v (event.Destroy file id) = destroy_checks v file id
checks v (event.Close file) = close_checks v file
checks v (event.UserMap user va) = user_map_checks v user va
checks v (event.UserUnmap user va) = user_unmap_checks v user va
checks v (event.UserWrite user va bytes) = user_write_checks v user va bytes
checks v (event.Bind file device) = bind_checks v file device
checks v (event.Unbind file id) = unbind_checks v file id
checks v (event.Attach device pt_id) = attach_checks v device pt_id
checks v (event.Detach device) = detach_checks v device
checks v (event.Flush device) = flush_checks v device
checks v (event.DeviceWrite device iova bytes) = device_write_checks v device iova bytes
checks v (event.AccessCreate file) = access_create_checks v file
checks v (event.AccessAttach file id ioas) = access_attach_checks v file id ioas
checks v (event.AccessDetach file id) = access_detach_checks v file id
checks v (event.AccessPin file id request) = access_pin_checks v file id request
checks v (event.AccessUnpin file id request) = access_unpin_checks v file id request
checks v (event.AccessWrite file id iova bytes) = access_write_checks v file id iova bytes
checks v (event.DirtyEnable file hwpt on) = dirty_enable_checks v file hwpt
checks v (event.DirtyClear file request) = dirty_checks v file request

-- the cause for which an event is refused, if any
abbrev pub refusal : {A : Type 0} → World → Event A → Option Cause
refusal w event = first_true (checks (view w) event)
