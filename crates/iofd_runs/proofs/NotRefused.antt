-- What it says of a world, or of what a server shows of one, that nothing refuses an event: a fact for each row of the
-- event's table, by a name of its own.
use Rattle.std.proofs.Common.{◌≡◌, ℕ, ◌^◌, ◌/◌, ltb, Bool, true, false, ◌&&◌, ◌||◌, not, eqb, leb, is_none, is_some, Option, Some}
use Rattle.std.proofs.Common.{None, List, ◌∷◌, length, refl, subst}
use Rattle.std.specs.List.{list_any}
use Rattle.iofd_words.specs.Allowed.{are_ranges}
use Rattle.iofd_words.specs.Areas.{areas_meet, has_no_room, is_cut, is_everything, unmapped_span}
use Rattle.iofd_words.specs.Attachments.{attachment_of}
use Rattle.iofd_words.specs.Bounds.{Bounds}
use Rattle.iofd_refusals.specs.Checks.{allow_iovas_checks, attach_checks, bind_checks, bound_attach_checks, checks}
use Rattle.iofd_refusals.specs.Checks.{close_checks, copy_checks, destroy_checks, detach_checks, device_write_checks}
use Rattle.iofd_refusals.specs.Checks.{flush_checks, has_other_width, hwpt_alloc_checks, ioas_alloc_checks, is_attached}
use Rattle.iofd_refusals.specs.Checks.{is_device_object, is_interrupt, is_outside_usable, is_source_writable, is_used}
use Rattle.iofd_refusals.specs.Checks.{lacks_attached_frames, lacks_attached_page, lacks_choice, lacks_copied_page}
use Rattle.iofd_refusals.specs.Checks.{lacks_mapped_frames, lacks_mapped_page, lacks_new_tables, lacks_room_for_hwpt}
use Rattle.iofd_refusals.specs.Checks.{map_checks, narrows, narrows_by_width, overlaps, passes_limit_attached}
use Rattle.iofd_refusals.specs.Checks.{passes_limit_copied, passes_limit_mapped, refusal, source_of, target_checks}
use Rattle.iofd_refusals.specs.Checks.{unbind_checks, unmap_checks, unusable_in, user_access_checks, user_map_checks}
use Rattle.iofd_refusals.specs.Checks.{user_unmap_checks, user_write_checks}
use Rattle.iofd_refusals.specs.Checks.{access_attach_checks, access_create_checks, access_detach_checks}
use Rattle.iofd_refusals.specs.Checks.{waits_for_leaving}
use Rattle.iofd_refusals.specs.Checks.{dirty_checks, dirty_enable_checks}
use Rattle.iofd_words.specs.Copies.{placed_as}
use Rattle.iofd_words.specs.Files.{device_of, is_device, is_user}
use Rattle.iofd_words.specs.FirstTrue.{first_true}
use Rattle.iofd_words.specs.Objects.{device_under, has_ioas, is_bound_device, is_full, kind_of, objects_of}
use Rattle.iofd_words.specs.Objects.{settings_under, access_ioas_of, has_access, is_access, is_hwpt_under}
use Rattle.iofd_words.specs.Pages.{crosses, is_above_sum, is_above_user, is_whole, page_of}
use Rattle.iofd_words.specs.Ranges.{meets_some}
use Rattle.iofd_words.specs.Rights.{is_fixed, is_readable, is_writeable}
use Rattle.iofd_words.specs.View.{View, view}
use Rattle.iofd_words.specs.World.{World}
use Rattle.iofd_words.specs.declared.event.CopyRequest.{CopyRequest}
use Rattle.iofd_words.specs.declared.event.DirtyRequest.{DirtyRequest}
use Rattle.iofd_words.specs.declared.event.Event.{Event}
use Rattle.iofd_words.specs.declared.event.HwptRequest.{HwptRequest}
use Rattle.iofd_words.specs.declared.event.MapRequest.{MapRequest}
use Rattle.iofd_words.specs.declared.event.UnmapRequest.{UnmapRequest}
use Rattle.iofd_words.specs.declared.numbers.DeviceNo.{DeviceNo}
use Rattle.iofd_words.specs.declared.numbers.FileNo.{FileNo}
use Rattle.iofd_words.specs.declared.numbers.Iova.{Iova}
use Rattle.iofd_words.specs.declared.numbers.ObjId.{ObjId}
use Rattle.iofd_words.specs.declared.numbers.UserNo.{UserNo}
use Rattle.iofd_words.specs.declared.refusal.Cause.TheVariants as cause
use Rattle.iofd_words.specs.declared.rows.Object.{Object}
use Rattle.iofd_words.specs.declared.rows.ObjectKind.{ObjectKind}
use Rattle.iofd_words.specs.declared.rows.ObjectKind.TheVariants as kind
use Rattle.iofd_words.specs.declared.width.Width.{Width}
use Rattle.iofd_rows.proofs.Bools.{and_true, or_false}
use Rattle.iofd_rows.proofs.ListTests.{none_stronger, or_left, or_right}
use Rattle.iofd_runs.proofs.Runs.{tests_false}

-- nothing refuses the event in the world: no test of its table is true
pub passes : {A : Type 0} → (w : World) (e : Event A) → refusal w e ≡ None → first_true (checks (view w) e) ≡ None
passes w e none = none

pub not_not : (b : Bool) → not b ≡ false → b ≡ true
not_not true is = refl
not_not false is = cc

-- ---- files and objects

pub record AllocPassed (v : View) (file : FileNo) : Type 0 where
  pub opened : v.is_open file ≡ true
  pub roomy : is_full v.objects file ≡ false

pub alloc_passed : (v : View) (file : FileNo) → first_true (ioas_alloc_checks v file) ≡ None → AllocPassed v file
unfolding ioas_alloc_checks
alloc_passed v file none = let rows =
    ioas_alloc_checks v file in record { opened = not_not _ (tests_false rows 0 none); roomy = tests_false rows 1 none }

pub record DestroyPassed (v : View) (file : FileNo) (id : ObjId) : Type 0 where
  pub opened : v.is_open file ≡ true
  pub there : is_none (kind_of v.objects file id) ≡ false
  pub unused : is_used v file id (kind_of v.objects file id) ≡ false
  pub no_device : is_device_object (kind_of v.objects file id) ≡ false

pub destroy_passed : (v : View) (file : FileNo) (id : ObjId) → first_true (destroy_checks v file id) ≡ None
    → DestroyPassed v file id
unfolding destroy_checks
destroy_passed v file id none =
    let rows = destroy_checks v file id in
    record {
      opened = not_not _ (tests_false rows 0 none);
      there = tests_false rows 1 none;
      unused = tests_false rows 2 none;
      no_device = tests_false rows 3 none;
    }

pub record ClosePassed (v : View) (file : FileNo) : Type 0 where
  pub opened : v.is_open file ≡ true
  pub no_device : list_any (λ (o : Object). is_bound_device o.kind) (objects_of v.objects file) ≡ false
  pub no_access : list_any (λ (o : Object). is_access o.kind) (objects_of v.objects file) ≡ false

pub close_passed : (v : View) (file : FileNo) → first_true (close_checks v file) ≡ None → ClosePassed v file
unfolding close_checks
close_passed v file none =
    let rows = close_checks v file in
    let left = objects_of v.objects file in
    let held = λ (o : Object). is_bound_device o.kind || is_access o.kind in
    record {
      opened = not_not _ (tests_false rows 0 none);
      no_device = none_stronger (λ (o : Object). is_bound_device o.kind) held left
          (λ o is. or_left _ _ is) (tests_false rows 1 none);
      no_access = none_stronger (λ (o : Object). is_access o.kind) held left
          (λ o is. or_right _ _ is) (tests_false rows 1 none);
    }

-- ---- page tables

pub record HwptPassed (v : View) (file : FileNo) (request : HwptRequest) : Type 0 where
  pub opened : v.is_open file ≡ true
  pub device : is_none (device_under v.objects file request.device) ≡ false
  pub space : has_ioas v.objects file request.ioas ≡ true
  pub settled : waits_for_leaving v file request.ioas ≡ false
  pub wide : narrows_by_width v file request.ioas (settings_under v.settings v.objects file request.device) ≡ false
  pub roomy : is_full v.objects file ≡ false
  pub present : lacks_attached_page v file request.ioas ≡ false
  pub within_limit : passes_limit_attached v file request.ioas ≡ false
  pub frames : lacks_new_tables v file request.ioas (settings_under v.settings v.objects file request.device) ≡ false

pub hwpt_passed : (v : View) (file : FileNo) (request : HwptRequest)
    → first_true (hwpt_alloc_checks v file request) ≡ None → HwptPassed v file request
unfolding hwpt_alloc_checks
hwpt_passed v file request none =
    let rows = hwpt_alloc_checks v file request in
    record {
      opened = not_not _ (tests_false rows 0 none);
      device = tests_false rows 1 none;
      space = not_not _ (tests_false rows 2 none);
      settled = tests_false rows 3 none;
      wide = tests_false rows 4 none;
      roomy = tests_false rows 5 none;
      present = tests_false rows 6 none;
      within_limit = tests_false rows 7 none;
      frames = tests_false rows 8 none;
    }

-- ---- allowed ranges

pub record AllowPassed (v : View) (file : FileNo) (ioas : ObjId) (ranges : List Bounds) : Type 0 where
  pub opened : v.is_open file ≡ true
  pub space : has_ioas v.objects file ioas ≡ true
  pub good : are_ranges ranges ≡ true
  pub usable : list_any (meets_some (unusable_in v file ioas)) ranges ≡ false

pub allow_passed : (v : View) (file : FileNo) (ioas : ObjId) (ranges : List Bounds)
    → first_true (allow_iovas_checks v file ioas ranges) ≡ None → AllowPassed v file ioas ranges
unfolding allow_iovas_checks
allow_passed v file ioas ranges none =
    let rows = allow_iovas_checks v file ioas ranges in
    record {
      opened = not_not _ (tests_false rows 0 none);
      space = not_not _ (tests_false rows 1 none);
      good = not_not _ (tests_false rows 2 none);
      usable = tests_false rows 3 none;
    }

-- ---- areas

pub record MapPassed (v : View) (file : FileNo) (request : MapRequest) : Type 0 where
  pub opened : v.is_open file ≡ true
  pub right : not (is_readable request.flags || is_writeable request.flags) ≡ false
  pub user_sum : is_above_sum request.user_va request.length ≡ false
  pub sum : (is_fixed request.flags && is_above_sum request.iova.0 request.length) ≡ false
  pub some : eqb request.length 0 ≡ false
  pub whole : is_whole request.length ≡ true
  pub whole_user : is_whole request.user_va ≡ true
  pub whole_iova : (is_fixed request.flags && not (is_whole request.iova.0)) ≡ false
  pub in_user : is_above_user request.user_va request.length ≡ false
  pub space : has_ioas v.objects file request.ioas ≡ true
  pub usable : is_outside_usable v file request ≡ false
  pub apart : overlaps v file request ≡ false
  pub roomy : has_no_room (v.areas_of file request.ioas) ≡ false
  pub chosen : lacks_choice v file request ≡ false
  pub present : lacks_mapped_page v file request ≡ false
  pub within_limit : passes_limit_mapped v file request ≡ false
  pub frames : lacks_mapped_frames v file request ≡ false

pub map_passed : (v : View) (file : FileNo) (request : MapRequest) → first_true (map_checks v file request) ≡ None
    → MapPassed v file request
unfolding map_checks
map_passed v file request none =
    let rows = map_checks v file request in
    let sums = or_false (is_above_sum request.user_va request.length) (is_fixed request.flags
    && is_above_sum request.iova.0 request.length) (tests_false rows 2 none) in
    let aligned = or_false (eqb request.length 0) (not (is_whole request.length && is_whole request.user_va))
    (tests_false rows 3 none) in
    let wholes = and_true (is_whole request.length) (is_whole request.user_va) (not_not _ aligned.1) in
    let places =
    or_false (has_no_room (v.areas_of file request.ioas)) (lacks_choice v file request) (tests_false rows 9 none) in
    record {
      opened = not_not _ (tests_false rows 0 none);
      right = tests_false rows 1 none;
      user_sum = sums.0;
      sum = sums.1;
      some = aligned.0;
      whole = wholes.0;
      whole_user = wholes.1;
      whole_iova = tests_false rows 4 none;
      in_user = tests_false rows 5 none;
      space = not_not _ (tests_false rows 6 none);
      usable = tests_false rows 7 none;
      apart = tests_false rows 8 none;
      roomy = places.0;
      chosen = places.1;
      present = tests_false rows 10 none;
      within_limit = tests_false rows 11 none;
      frames = tests_false rows 12 none;
    }

-- a COPY places its area where a MAP of that length would
pub record CopyPassed (v : View) (file : FileNo) (request : CopyRequest) : Type 0 where
  pub opened : v.is_open file ≡ true
  pub right : not (is_readable request.flags || is_writeable request.flags) ≡ false
  pub source_sum : is_above_sum request.src_iova.0 request.length ≡ false
  pub sum : (is_fixed request.flags && is_above_sum request.dst_iova.0 request.length) ≡ false
  pub some : eqb request.length 0 ≡ false
  pub whole : is_whole request.length ≡ true
  pub whole_source : is_whole request.src_iova.0 ≡ true
  pub whole_iova : (is_fixed request.flags && not (is_whole request.dst_iova.0)) ≡ false
  pub space : has_ioas v.objects file request.dst_ioas ≡ true
  pub source_space : has_ioas v.objects file request.src_ioas ≡ true
  pub found : is_none (source_of v file request) ≡ false
  pub writable : (is_writeable request.flags && not (is_source_writable v file request)) ≡ false
  pub usable : is_outside_usable v file (placed_as request) ≡ false
  pub apart : overlaps v file (placed_as request) ≡ false
  pub roomy : has_no_room (v.areas_of file request.dst_ioas) ≡ false
  pub chosen : lacks_choice v file (placed_as request) ≡ false
  pub present : lacks_copied_page v file request ≡ false
  pub within_limit : passes_limit_copied v file request ≡ false
  pub frames : lacks_mapped_frames v file (placed_as request) ≡ false

pub copy_passed : (v : View) (file : FileNo) (request : CopyRequest) → first_true (copy_checks v file request) ≡ None
    → CopyPassed v file request
unfolding copy_checks
copy_passed v file request none =
    let rows = copy_checks v file request in
    let sums = or_false (is_above_sum request.src_iova.0 request.length) (is_fixed request.flags
    && is_above_sum request.dst_iova.0 request.length) (tests_false rows 2 none) in
    let aligned = or_false (eqb request.length 0) (not (is_whole request.length && is_whole request.src_iova.0))
    (tests_false rows 3 none) in
    let wholes = and_true (is_whole request.length) (is_whole request.src_iova.0) (not_not _ aligned.1) in
    let places = or_false (has_no_room (v.areas_of file request.dst_ioas)) (lacks_choice v file (placed_as request))
    (tests_false rows 11 none) in
    record {
      opened = not_not _ (tests_false rows 0 none);
      right = tests_false rows 1 none;
      source_sum = sums.0;
      sum = sums.1;
      some = aligned.0;
      whole = wholes.0;
      whole_source = wholes.1;
      whole_iova = tests_false rows 4 none;
      space = not_not _ (tests_false rows 5 none);
      source_space = not_not _ (tests_false rows 6 none);
      found = tests_false rows 7 none;
      writable = tests_false rows 8 none;
      usable = tests_false rows 9 none;
      apart = tests_false rows 10 none;
      roomy = places.0;
      chosen = places.1;
      present = tests_false rows 12 none;
      within_limit = tests_false rows 13 none;
      frames = tests_false rows 14 none;
    }

-- what a MAP and a COPY that nothing refuses have in common: of the place of their area, asked for as a MAP asks
pub record PlacePassed (v : View) (file : FileNo) (request : MapRequest) : Type 0 where
  pub opened : v.is_open file ≡ true
  pub right : not (is_readable request.flags || is_writeable request.flags) ≡ false
  pub sum : (is_fixed request.flags && is_above_sum request.iova.0 request.length) ≡ false
  pub some : eqb request.length 0 ≡ false
  pub whole : is_whole request.length ≡ true
  pub whole_iova : (is_fixed request.flags && not (is_whole request.iova.0)) ≡ false
  pub space : has_ioas v.objects file request.ioas ≡ true
  pub usable : is_outside_usable v file request ≡ false
  pub apart : overlaps v file request ≡ false
  pub roomy : has_no_room (v.areas_of file request.ioas) ≡ false
  pub chosen : lacks_choice v file request ≡ false
  pub frames : lacks_mapped_frames v file request ≡ false

pub map_place : (v : View) (file : FileNo) (request : MapRequest) → first_true (map_checks v file request) ≡ None
    → PlacePassed v file request
map_place v file request none =
    let passed = map_passed v file request none in
    record {
      opened = passed.opened;
      right = passed.right;
      sum = passed.sum;
      some = passed.some;
      whole = passed.whole;
      whole_iova = passed.whole_iova;
      space = passed.space;
      usable = passed.usable;
      apart = passed.apart;
      roomy = passed.roomy;
      chosen = passed.chosen;
      frames = passed.frames;
    }

pub copy_place : (v : View) (file : FileNo) (request : CopyRequest) → first_true (copy_checks v file request) ≡ None
    → PlacePassed v file (placed_as request)
copy_place v file request none =
    let passed = copy_passed v file request none in
    record {
      opened = passed.opened;
      right = passed.right;
      sum = passed.sum;
      some = passed.some;
      whole = passed.whole;
      whole_iova = passed.whole_iova;
      space = passed.space;
      usable = passed.usable;
      apart = passed.apart;
      roomy = passed.roomy;
      chosen = passed.chosen;
      frames = passed.frames;
    }

pub record UnmapPassed (v : View) (file : FileNo) (request : UnmapRequest) : Type 0 where
  pub opened : v.is_open file ≡ true
  pub sum : is_above_sum request.iova.0 request.length ≡ false
  pub some : eqb request.length 0 ≡ false
  pub space : has_ioas v.objects file request.ioas ≡ true
  pub touches : (not (is_everything request)
      && not (areas_meet (unmapped_span request) (v.areas_of file request.ioas))) ≡ false
  pub uncut : is_cut (unmapped_span request) (v.areas_of file request.ioas) ≡ false

pub unmap_passed : (v : View) (file : FileNo) (request : UnmapRequest) → first_true (unmap_checks v file request) ≡ None
    → UnmapPassed v file request
unfolding unmap_checks
unmap_passed v file request none =
    let rows = unmap_checks v file request in
    record {
      opened = not_not _ (tests_false rows 0 none);
      sum = tests_false rows 1 none;
      some = tests_false rows 2 none;
      space = not_not _ (tests_false rows 3 none);
      touches = tests_false rows 4 none;
      uncut = tests_false rows 5 none;
    }

-- ---- users' memory

pub record UserMapPassed (v : View) (user : UserNo) (va : ℕ) : Type 0 where
  pub known : is_user v.settings user ≡ true
  pub aligned : (not (is_whole va) || leb (2 ^ 48) va) ≡ false
  pub unmapped : is_some (v.frame_at user (page_of va)) ≡ false
  pub roomy : eqb v.free_count 0 ≡ false

pub user_map_passed : (v : View) (user : UserNo) (va : ℕ) → first_true (user_map_checks v user va) ≡ None
    → UserMapPassed v user va
unfolding user_map_checks
user_map_passed v user va none =
    let rows = user_map_checks v user va in
    record {
      known = not_not _ (tests_false rows 0 none);
      aligned = tests_false rows 1 none;
      unmapped = tests_false rows 2 none;
      roomy = tests_false rows 3 none;
    }

pub record UserUnmapPassed (v : View) (user : UserNo) (va : ℕ) : Type 0 where
  pub known : is_user v.settings user ≡ true
  pub aligned : (not (is_whole va) || leb (2 ^ 48) va) ≡ false
  pub mapped : is_none (v.frame_at user (page_of va)) ≡ false

pub user_unmap_passed : (v : View) (user : UserNo) (va : ℕ) → first_true (user_unmap_checks v user va) ≡ None
    → UserUnmapPassed v user va
unfolding user_unmap_checks
user_unmap_passed v user va none =
    let rows = user_unmap_checks v user va in
    record {
      known = not_not _ (tests_false rows 0 none);
      aligned = tests_false rows 1 none;
      mapped = tests_false rows 2 none;
    }

-- of an access to so many bytes of the user's own memory
pub record UserAccessPassed (v : View) (user : UserNo) (va len : ℕ) : Type 0 where
  pub known : is_user v.settings user ≡ true
  pub short : crosses va len ≡ false
  pub mapped : is_none (v.frame_at user (page_of va)) ≡ false

pub user_access_passed : (v : View) (user : UserNo) (va len : ℕ) → first_true (user_access_checks v user va len) ≡ None
    → UserAccessPassed v user va len
user_access_passed v user va len none =
    let rows = user_access_checks v user va len in
    record {
      known = not_not _ (tests_false rows 0 none);
      short = tests_false rows 1 none;
      mapped = tests_false rows 2 none;
    }

pub user_write_passed : (v : View) (user : UserNo) (va : ℕ) (bytes : List ℕ)
    → first_true (user_write_checks v user va bytes) ≡ None → UserAccessPassed v user va (length bytes)
unfolding user_write_checks
user_write_passed v user va bytes none = user_access_passed v user va (length bytes) none

-- ---- devices

pub record BindPassed (v : View) (file : FileNo) (device : DeviceNo) : Type 0 where
  pub opened : v.is_open file ≡ true
  pub known : is_device v.settings device ≡ true
  pub unbound : is_some (v.binding_of device) ≡ false
  pub roomy : is_full v.objects file ≡ false

pub bind_passed : (v : View) (file : FileNo) (device : DeviceNo) → first_true (bind_checks v file device) ≡ None
    → BindPassed v file device
unfolding bind_checks
bind_passed v file device none =
    let rows = bind_checks v file device in
    record {
      opened = not_not _ (tests_false rows 0 none);
      known = not_not _ (tests_false rows 1 none);
      unbound = tests_false rows 2 none;
      roomy = tests_false rows 3 none;
    }

pub record UnbindPassed (v : View) (file : FileNo) (id : ObjId) : Type 0 where
  pub opened : v.is_open file ≡ true
  pub device : is_device_object (kind_of v.objects file id) ≡ true
  pub unattached : is_attached v (kind_of v.objects file id) ≡ false

pub unbind_passed : (v : View) (file : FileNo) (id : ObjId) → first_true (unbind_checks v file id) ≡ None
    → UnbindPassed v file id
unfolding unbind_checks
unbind_passed v file id none =
    let rows = unbind_checks v file id in
    record {
      opened = not_not _ (tests_false rows 0 none);
      device = not_not _ (tests_false rows 1 none);
      unattached = tests_false rows 2 none;
    }

-- of a device that is bound to the object's file, to an address space
pub record AttachPassed (v : View) (device : DeviceNo) (pt_id : ObjId) (bound : Object) : Type 0 where
  pub unattached : is_some (attachment_of v.attachments device) ≡ false
  pub settled : waits_for_leaving v bound.file pt_id ≡ false
  pub wide : narrows v bound.file pt_id (device_of v.settings device) ≡ false
  pub roomy : lacks_room_for_hwpt v bound.file pt_id (device_of v.settings device) ≡ false
  pub present : lacks_attached_page v bound.file pt_id ≡ false
  pub within_limit : passes_limit_attached v bound.file pt_id ≡ false
  pub frames : lacks_attached_frames v bound.file pt_id (device_of v.settings device) ≡ false

-- to a page table
pub record JoinPassed (v : View) (device : DeviceNo) (ioas : ObjId) (width : Width) (bound : Object) : Type 0 where
  pub unattached : is_some (attachment_of v.attachments device) ≡ false
  pub same_width : has_other_width (device_of v.settings device) width ≡ false
  pub wide : narrows v bound.file ioas (device_of v.settings device) ≡ false

-- the tests of what is named, and that the device isn't attached
pub target_passed : (v : View) (device : DeviceNo) (pt_id : ObjId) (bound : Object) (k : Option ObjectKind)
    → v.binding_of device ≡ Some bound → kind_of v.objects bound.file pt_id ≡ k
    → first_true (attach_checks v device pt_id) ≡ None
    → (is_some (attachment_of v.attachments device) ≡ false)
    × (first_true (target_checks v device pt_id bound.file k) ≡ None)
unfolding attach_checks
target_passed v device pt_id bound k is named none =
    let passed : first_true (bound_attach_checks v device pt_id bound.file) ≡ None = rw (is, attach_checks) at none in
    let unattached = tests_false (bound_attach_checks v device pt_id bound.file) 0 passed in (
      unattached,
      subst (λ k. first_true (target_checks v device pt_id bound.file k) ≡ None) named
          (others (is_some (attachment_of v.attachments device)) unattached passed),
    )
  where
    others : (first : Bool) → first ≡ false → first_true
        ((cause.Bound, first) ∷ target_checks v device pt_id bound.file (kind_of v.objects bound.file pt_id)) ≡ None
        → first_true (target_checks v device pt_id bound.file (kind_of v.objects bound.file pt_id)) ≡ None
    others true is passed = cc
    others false is passed = passed

pub attach_passed : (v : View) (device : DeviceNo) (pt_id : ObjId) (bound : Object) → v.binding_of device ≡ Some bound
    → kind_of v.objects bound.file pt_id ≡ Some kind.Ioas → first_true (attach_checks v device pt_id) ≡ None
    → AttachPassed v device pt_id bound
attach_passed v device pt_id bound is space none =
    let parts = target_passed v device pt_id bound (Some kind.Ioas) is space none in
    let rows = target_checks v device pt_id bound.file (Some kind.Ioas) in
    record {
      unattached = parts.0;
      settled = tests_false rows 0 parts.1;
      wide = tests_false rows 1 parts.1;
      roomy = tests_false rows 2 parts.1;
      present = tests_false rows 3 parts.1;
      within_limit = tests_false rows 4 parts.1;
      frames = tests_false rows 5 parts.1;
    }

pub join_passed : (v : View) (device : DeviceNo) (pt_id ioas : ObjId) (width : Width) (automatic : Bool)
    (bound : Object) → v.binding_of device ≡ Some bound
    → kind_of v.objects bound.file pt_id ≡ Some (kind.Hwpt ioas width automatic)
    → first_true (attach_checks v device pt_id) ≡ None → JoinPassed v device ioas width bound
join_passed v device pt_id ioas width automatic bound is table none =
    let parts = target_passed v device pt_id bound (Some (kind.Hwpt ioas width automatic)) is table none in
    let rows = target_checks v device pt_id bound.file (Some (kind.Hwpt ioas width automatic)) in
    record { unattached = parts.0; same_width = tests_false rows 0 parts.1; wide = tests_false rows 1 parts.1 }

pub record DetachPassed (v : View) (device : DeviceNo) : Type 0 where
  pub bound : is_none (v.binding_of device) ≡ false
  pub attached : is_none (attachment_of v.attachments device) ≡ false

pub detach_passed : (v : View) (device : DeviceNo) → first_true (detach_checks v device) ≡ None → DetachPassed v device
unfolding detach_checks
detach_passed v device none =
    let rows = detach_checks v device in record { bound = tests_false rows 0 none; attached = tests_false rows 1 none }

pub flush_passed : (v : View) (device : DeviceNo) → first_true (flush_checks v device) ≡ None
    → is_none (v.binding_of device) ≡ false
unfolding flush_checks
flush_passed v device none = tests_false (flush_checks v device) 0 none

-- of an access to so many bytes
pub record AccessPassed (v : View) (device : DeviceNo) (iova : Iova) (len : ℕ) : Type 0 where
  pub bound : is_none (v.binding_of device) ≡ false
  pub short : crosses iova.0 len ≡ false
  pub outside : is_interrupt (device_of v.settings device) iova.0 ≡ false

pub write_passed : (v : View) (device : DeviceNo) (iova : Iova) (bytes : List ℕ)
    → first_true (device_write_checks v device iova bytes) ≡ None → AccessPassed v device iova (length bytes)
unfolding device_write_checks
write_passed v device iova bytes none = let rows =
    device_write_checks v device iova bytes in record {
      bound = tests_false rows 0 none;
      short = tests_false rows 1 none;
      outside = tests_false rows 2 none;
    }

-- ---- access objects

pub record AccessCreatePassed (v : View) (file : FileNo) : Type 0 where
  pub opened : v.is_open file ≡ true
  pub roomy : is_full v.objects file ≡ false

pub access_create_passed : (v : View) (file : FileNo) → first_true (access_create_checks v file) ≡ None
    → AccessCreatePassed v file
unfolding access_create_checks
access_create_passed v file none =
    let rows = access_create_checks v file in
    record { opened = not_not _ (tests_false rows 0 none); roomy = tests_false rows 1 none }

pub record AccessAttachPassed (v : View) (file : FileNo) (id ioas : ObjId) : Type 0 where
  pub opened : v.is_open file ≡ true
  pub there : has_access v.objects file id ≡ true
  pub space : has_ioas v.objects file ioas ≡ true
  pub unattached : is_some (access_ioas_of v.objects file id) ≡ false

pub access_attach_passed : (v : View) (file : FileNo) (id ioas : ObjId)
    → first_true (access_attach_checks v file id ioas) ≡ None → AccessAttachPassed v file id ioas
unfolding access_attach_checks
access_attach_passed v file id ioas none =
    let rows = access_attach_checks v file id ioas in
    record {
      opened = not_not _ (tests_false rows 0 none);
      there = not_not _ (tests_false rows 1 none);
      space = not_not _ (tests_false rows 2 none);
      unattached = tests_false rows 3 none;
    }

pub record AccessDetachPassed (v : View) (file : FileNo) (id : ObjId) : Type 0 where
  pub opened : v.is_open file ≡ true
  pub there : has_access v.objects file id ≡ true
  pub attached : is_none (access_ioas_of v.objects file id) ≡ false
  pub unpinned : v.holds_pin file id ≡ false

pub access_detach_passed : (v : View) (file : FileNo) (id : ObjId)
    → first_true (access_detach_checks v file id) ≡ None → AccessDetachPassed v file id
unfolding access_detach_checks
access_detach_passed v file id none =
    let rows = access_detach_checks v file id in
    record {
      opened = not_not _ (tests_false rows 0 none);
      there = not_not _ (tests_false rows 1 none);
      attached = tests_false rows 2 none;
      unpinned = tests_false rows 3 none;
    }

-- ---- tracking

pub record DirtyEnablePassed (v : View) (file : FileNo) (hwpt : ObjId) : Type 0 where
  pub opened : v.is_open file ≡ true
  pub there : is_hwpt_under v.objects file hwpt ≡ true

pub dirty_enable_passed : (v : View) (file : FileNo) (hwpt : ObjId) → first_true (dirty_enable_checks v file hwpt) ≡ None
    → DirtyEnablePassed v file hwpt
unfolding dirty_enable_checks
dirty_enable_passed v file hwpt none =
    let rows = dirty_enable_checks v file hwpt in
    record {
      opened = not_not _ (tests_false rows 0 none);
      there = not_not _ (tests_false rows 1 none);
    }

pub record DirtyPassed (v : View) (file : FileNo) (request : DirtyRequest) : Type 0 where
  pub opened : v.is_open file ≡ true
  pub there : is_hwpt_under v.objects file request.hwpt ≡ true
  pub sum : is_above_sum request.iova.0 request.length ≡ false
  pub some : eqb request.length 0 ≡ false
  pub whole : (is_whole request.length && is_whole request.iova.0) ≡ true
  pub tracked : v.tracks file request.hwpt ≡ true
  pub few : ltb 256 (request.length / 4096) ≡ false

pub dirty_passed : (v : View) (file : FileNo) (request : DirtyRequest) → first_true (dirty_checks v file request) ≡ None
    → DirtyPassed v file request
unfolding dirty_checks
dirty_passed v file request none =
    let rows = dirty_checks v file request in
    let aligned = or_false (eqb request.length 0) (not (is_whole request.length && is_whole request.iova.0))
    (tests_false rows 3 none) in
    let asked = or_false (not (v.tracks file request.hwpt)) (ltb 256 (request.length / 4096)) (tests_false rows 4 none) in
    record {
      opened = not_not _ (tests_false rows 0 none);
      there = not_not _ (tests_false rows 1 none);
      sum = tests_false rows 2 none;
      some = aligned.0;
      whole = not_not _ aligned.1;
      tracked = not_not _ asked.0;
      few = asked.1;
    }
