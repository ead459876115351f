-- How each event moves the rows of the world, said once for each: what holds of rows is then proved by group, and not
-- by event. In a group rows stay, or some go, or one comes, with what is known of that one. What is known only where
-- nothing refuses the event, or of a lawful answer alone, is said so: each group holds of every event and answer.
use Rattle.std.proofs.Common.{Bool, List, None, cond, Option, Some, [], ap, eqb, false, is_none, is_some, map, not}
use Rattle.std.proofs.Common.{refl, subst, sym, true, ℕ, ◌&&◌, ◌++◌, ◌/◌, ◌∙◌, ◌∷◌, ◌≡◌}
use Rattle.std.specs.List.{filter, list_all, list_any}
use Rattle.std.proofs.lemmas.Bool.{eqb-true}
use Rattle.iofd_rows.proofs.Allowed.{allowed_without, allowed_closed}
use Rattle.iofd_rows.proofs.Bools.{and_true, both_true, clash}
use Rattle.iofd_rows.proofs.Each.{IsIn}
use Rattle.iofd_rows.specs.Ids.{have_own_ids}
use Rattle.iofd_runs.proofs.Branches.{by_attachment, by_found, by_target}
use Rattle.iofd_runs.proofs.CopySource.{copied_size, source_area, source_is}
use Rattle.iofd_runs.proofs.Known.{bound_known, is_known}
use Rattle.iofd_runs.proofs.MappedAt.{LiesAt, copy_lies_at, lies_at}
use Rattle.iofd_runs.proofs.NotRefused.{AllowPassed, PlacePassed, UserMapPassed, alloc_passed, allow_passed}
use Rattle.iofd_runs.proofs.NotRefused.{attach_passed, bind_passed, copy_place, hwpt_passed, join_passed, map_passed}
use Rattle.iofd_runs.proofs.NotRefused.{map_place, user_map_passed, close_passed, destroy_passed, unbind_passed}
use Rattle.iofd_runs.proofs.NotRefused.{access_create_passed, access_attach_passed, access_detach_passed}
use Rattle.iofd_runs.proofs.TableEvents.{HwptsStay, MakesNone, TakesNone, closed_stay, destroyed_stay, detached_stay}
use Rattle.iofd_runs.proofs.TableEvents.{finds_table, leaving_live, paid_live, unbound_stay}
use Rattle.iofd_runs.proofs.Served.{IsServed, joined_served, made_served}
use Rattle.iofd_steps.specs.After.{attached, changed, copy_changes, detached, hwpt_changes, joined, made_hwpt}
use Rattle.iofd_steps.specs.After.{map_changes, mapped_area, memory_object, settle, with_hwpt, without_areas}
use Rattle.iofd_steps.specs.After.{device_flushed, unmapped}
use Rattle.iofd_words.specs.Allowed.{AllowedRanges, allowed_of, with_allowed}
use Rattle.iofd_steps.specs.Answers.{Answers, IsHwptFor, IsHwptOf}
use Rattle.iofd_words.specs.Areas.{is_of, is_touched, with_area, with_phase, all_paid, paid}
use Rattle.iofd_words.specs.Attachments.{attachment_of, with_attachment, without_attachment}
use Rattle.iofd_words.specs.Bounds.{Bounds}
use Rattle.iofd_refusals.specs.Checks.{lacks_room_for_hwpt, narrows, narrows_by_width, narrows_without, refusal}
use Rattle.iofd_words.specs.Usable.{beyond, reserved_by}
use Rattle.iofd_words.specs.Pages.{is_above_user}
use Rattle.iofd_words.specs.Copies.{placed_as}
use Rattle.iofd_words.specs.Dirty.{TrackedTable}
use Rattle.iofd_words.specs.Files.{device_of, user_of}
use Rattle.iofd_words.specs.Frames.{is_free, without_frame, FrameWrite}
use Rattle.iofd_words.specs.Objects.{automatic_hwpt, binding_of, is_bound_as, is_bound_device, is_fresh, is_full}
use Rattle.iofd_words.specs.Objects.{is_hwpt, kind_of, settings_under, with_object, has_hwpt, with_access}
use Rattle.iofd_words.specs.Settings.{DeviceSettings}
use Rattle.iofd_words.specs.Span.{size_of, span_from}
use Rattle.iofd_words.specs.TablePlaces.{is_live}
use Rattle.iofd_words.specs.View.{view}
use Rattle.iofd_words.specs.World.{World}
use Rattle.iofd_words.specs.declared.event.Event.{Event}
use Rattle.iofd_words.specs.declared.event.Event.TheVariants as event
use Rattle.iofd_words.specs.declared.event.MapRequest.{MapRequest}
use Rattle.iofd_words.specs.declared.numbers.DeviceNo.{DeviceNo}
use Rattle.iofd_words.specs.declared.numbers.FileNo.{FileNo}
use Rattle.iofd_words.specs.declared.numbers.FrameNo.{FrameNo}
use Rattle.iofd_words.specs.declared.numbers.Iova.{Iova}
use Rattle.iofd_words.specs.declared.numbers.ObjId.{ObjId}
use Rattle.iofd_words.specs.declared.numbers.UserNo.{UserNo}
use Rattle.iofd_words.specs.declared.reply.Reply.{Reply}
use Rattle.iofd_words.specs.declared.reply.Reply.TheVariants as reply
use Rattle.iofd_words.specs.declared.rows.Area.{Area}
use Rattle.iofd_words.specs.declared.rows.Attachment.{Attachment}
use Rattle.iofd_words.specs.declared.rows.MemoryObject.{MemoryObject}
use Rattle.iofd_words.specs.declared.rows.Object.{Object}
use Rattle.iofd_words.specs.declared.rows.ObjectKind.{ObjectKind}
use Rattle.iofd_words.specs.declared.rows.ObjectKind.TheVariants as kind
use Rattle.iofd_words.specs.declared.rows.Phase.{Phase}
use Rattle.iofd_words.specs.declared.rows.UserPage.{UserPage}
use Rattle.iofd_rows.proofs.Found.{all_filter, all_map, find-with_object}
use Rattle.iofd_rows.proofs.OwnMemory.{all-with_area}
use Rattle.iofd_runs.proofs.PagesToPin.{ArePresent, alike_objects, alike_paid, alike_phases, moved_new}
use Rattle.iofd_runs.proofs.PagesToPin.{none_comes, none_over, AccessedAlike, TranslatedAlike}
use Rattle.iofd_runs.proofs.AttachedPages.{attached_present, none_new, table_present}
use Rattle.iofd_runs.proofs.CopiedPages.{added_page, copied_present}
use Rattle.iofd_runs.proofs.MappedPages.{mapped_present}
use Rattle.iofd_rows.proofs.PageTables.{hwpt-filter, hwpt-unbound, same_hwpt}
use Rattle.iofd_rows.specs.Pinned.{ArePinned}
use Rattle.iofd_runs.proofs.BoundStay.{BoundStay, closed_bound, destroyed_bound, detached_bound}
use Rattle.iofd_runs.proofs.HoldersStay.{NoPinGoes, closed_accesses, closed_free, destroyed_accesses, destroyed_free}
use Rattle.iofd_runs.proofs.HoldersStay.{AccessesStay, detached_accesses, more_accesses, reattached_accesses}
use Rattle.iofd_runs.proofs.HoldersStay.{same_accesses, unattached_other, unbound_accesses, unmapped_free}
use Rattle.iofd_runs.proofs.HoldersStay.{unpinned_other}
use Rattle.iofd_runs.proofs.Accessed.{EachHeld}
use Rattle.iofd_runs.proofs.AccessPins.{comes_by_pin, none_by_unpin, pin_fits, pin_held, pinned_present}
use Rattle.iofd_runs.specs.PinsFit.{is_fitting_pin}
use Rattle.iofd_runs.proofs.AccessesPassed.{access_unpin_passed, pin_passed}
use Rattle.iofd_rows.specs.AccessPins.{IsHeld, are_in_spaces}
use Rattle.iofd_words.specs.Accesses.{pin_of}
use Rattle.iofd_words.specs.Pins.{has_most_pins, is_held, without_pin}
use Rattle.iofd_words.specs.declared.rows.AccessPin.{AccessPin}
use Rattle.iofd_rows.proofs.Bound.{attachments-unbound}
use Rattle.iofd_rows.proofs.Accesses.{hwpt-reattached}
use Rattle.iofd_rows.proofs.ObjectPages.{translated-map}
use Rattle.iofd_words.specs.declared.width.Width.{Width}

-- ---- what an event may make of the rows

-- a page table that comes narrows nothing that stands, nor does it with what the device that it comes with keeps
abbrev pub IsWide : World → FileNo → ObjectKind → Type 0
IsWide w file kind.Ioas = Unit {0}
IsWide w file (kind.Hwpt ioas width automatic) =
    (spans : List Bounds) × (narrows_without (view w) file ioas (beyond width ∷ spans) ≡ false)
IsWide w file (kind.Device device) = Unit {0}
IsWide w file (kind.Access attached) = Unit {0}

-- what the refusals leave of an object that comes: there is room for it, its file is open, its device is one of the
-- settings and isn't bound, if it binds one, and it is wide
pub record IsAdmitted (w : World) (object : Object) : Type 0 where
  pub roomy : is_full w.objects object.file ≡ false
  pub known : list_all (is_known w.settings w.closed) w.objects ≡ true → is_known w.settings w.closed object ≡ true
  pub unbound : (device : DeviceNo) → is_bound_as device object.kind ≡ true → binding_of w.objects device ≡ None
  pub wide : IsWide w object.file object.kind

-- objects: the same, fewer, by which no attached device is unbound, one more, under a fresh id, or the same, where an
-- access object is attached or detached
pub data ObjectsMove {A : Type 0} (w : World) (e : Event A) (answer : Reply) (new : World) : Type 0 where
  Same : new.objects ≡ w.objects → ObjectsMove w e answer new
  Fewer : (stays : Object → Bool) → (TakesNone w e → HwptsStay w.objects (filter stays w.objects))
      → (refusal w e ≡ None → BoundStay w (filter stays w.objects))
      → new.objects ≡ filter stays w.objects → ObjectsMove w e answer new
  More : (object : Object) → (Answers w e answer → is_fresh w.objects object.file object.id ≡ true)
      → (refusal w e ≡ None → IsAdmitted w object) → (MakesNone w e → is_hwpt object.kind ≡ false)
      → new.objects ≡ with_object object w.objects → ObjectsMove w e answer new
  Reattached : (file : FileNo) (id : ObjId) (attached : Option ObjId)
      → new.objects ≡ with_access file id attached w.objects → ObjectsMove w e answer new

-- the memory object under a new area: a new one of the file's user, as a MAP makes it, or that of an area that a COPY
-- names
pub data MemoryUnder {A : Type 0} (at : ℕ) (w : World) (e : Event A) (file : FileNo) (request : MapRequest)
    (iova : Iova) (number : ℕ) (memory : List MemoryObject) : Type 0 where
  NewMemory : (user : UserNo) → user_of w.settings file ≡ Some user
      → (refusal w e ≡ None → is_above_user request.user_va request.length ≡ false) → number ≡ at
      → memory ≡ w.memory ++ memory_object at user request ∷ [] → MemoryUnder at w e file request iova number memory
  SharedMemory : (source : Area) → IsIn w.areas source → source.file ≡ file
      → (refusal w e ≡ None → size_of source.span ≡ size_of (span_from iova.0 request.length))
      → source.memory ≡ number → memory ≡ w.memory → MemoryUnder at w e file request iova number memory

-- the page tables and the devices that translate by them are the same
pub record SameTranslations (w new : World) : Type 0 where
  pub objects : new.objects ≡ w.objects
  pub attachments : new.attachments ≡ w.attachments

-- the event takes the area away, if it takes areas away: an UNMAP that answers bytes those of an address space that it
-- names, DESTROY those of the address space that goes, and Close those of the file
abbrev pub takes_area : {A : Type 0} → Event A → Reply → Area → Bool
takes_area (event.Unmap file request) (reply.Bytes count) area = is_of file request.ioas area
takes_area (event.Destroy file id) answer area = is_of file id area
takes_area (event.Close file) answer area = eqb area.file.0 file.0
takes_area e answer area = false

-- areas with their memory objects: the same, fewer, the same areas in other phases, of which none becomes live, or one
-- more, placed as a MAP or a COPY that nothing refuses places it
pub data AreasMove {A : Type 0} (at : ℕ) (w : World) (e : Event A) (answer : Reply) (new : World) : Type 0 where
  SameAreas : new.areas ≡ w.areas → new.memory ≡ w.memory → AreasMove at w e answer new
  FewerAreas : (goes : Area → Bool) → ((a : Area) → goes a ≡ true → takes_area e answer a ≡ true)
      → new.areas ≡ filter (λ (a : Area). not (goes a)) w.areas
      → new.memory ≡ filter (λ m. list_any (λ (a : Area). eqb a.memory m.number && not (goes a)) w.areas) w.memory
      → (refusal w e ≡ None → Answers w e answer → EachHeld w.objects w.areas w.access_pins → NoPinGoes w goes)
      → AreasMove at w e answer new
  OtherPhases : (phase : Area → Phase) → ((a : Area) → is_live (phase a) ≡ true → is_live a.phase ≡ true)
      → new.areas ≡ map (λ (a : Area). with_phase (phase a) a) w.areas → new.memory ≡ w.memory
      → AreasMove at w e answer new
  OneArea : (number : ℕ) (file : FileNo) (request : MapRequest) (iova : Iova)
      → (refusal w e ≡ None → PlacePassed (view w) file request)
      → (refusal w e ≡ None → Answers w e answer → LiesAt (view w) file request iova.0) → (MakesNone w e → ⊥)
      → SameTranslations w new → new.areas ≡ with_area (mapped_area number file request iova) w.areas
      → MemoryUnder at w e file request iova number new.memory → AreasMove at w e answer new

-- attachments: the same, fewer, or one more, of a device that is bound to its file, and stays so, and wasn't attached
pub data AttachmentsMove {A : Type 0} (w : World) (e : Event A) (answer : Reply) (new : World) : Type 0 where
  SameAttachments : new.attachments ≡ w.attachments → AttachmentsMove w e answer new
  FewerAttachments : (stays : Attachment → Bool) → new.attachments ≡ filter stays w.attachments
      → AttachmentsMove w e answer new
  OneAttachment : (a : Attachment) (bound : Object) → binding_of w.objects a.device ≡ Some bound
      → binding_of new.objects a.device ≡ Some bound → bound.file ≡ a.file
      → (refusal w e ≡ None → is_some (attachment_of w.attachments a.device) ≡ false)
      → (refusal w e ≡ None → Answers w e answer → have_own_ids w.objects ≡ true → IsServed w new.objects a)
      → new.attachments ≡ with_attachment a w.attachments → AttachmentsMove w e answer new

-- a write that is carried out: a user's, an access object's, and a device's that passes
abbrev pub Writes : {A : Type 0} → Event A → Reply → Type 0
Writes (event.UserWrite user va bytes) reply.Done = Unit {0}
Writes (event.DeviceWrite device iova bytes) (reply.Passed frame) = Unit {0}
Writes (event.AccessWrite file id iova bytes) reply.Done = Unit {0}
Writes e answer = ⊥

-- users' pages and what was written: the same, one page more in a free frame without its writes, fewer pages, or the
-- same pages where bytes are written
pub data MemoryMoves {A : Type 0} (w : World) (e : Event A) (answer : Reply) (new : World) : Type 0 where
  SameMemory : new.user_pages ≡ w.user_pages → new.writes ≡ w.writes → MemoryMoves w e answer new
  OnePage : (user : UserNo) (va : ℕ) (frame : FrameNo) → (refusal w e ≡ None → UserMapPassed (view w) user va)
      → (Answers w e answer → is_free w.settings.pool w.user_pages w.pins w.table_frames frame.0 ≡ true)
      → answer ≡ reply.Frame frame
      → new.user_pages ≡ w.user_pages ++ record { user = user; page = va / 4096; frame = frame } ∷ []
      → new.writes ≡ without_frame frame.0 w.writes → MemoryMoves w e answer new
  FewerPages : (stays : UserPage → Bool) → new.user_pages ≡ filter stays w.user_pages → new.writes ≡ w.writes
      → MemoryMoves w e answer new
  Written : Writes e answer → new.user_pages ≡ w.user_pages → MemoryMoves w e answer new

-- the access pin that an event makes, and the one that it takes away
abbrev pub MakesPin : {A : Type 0} → Event A → AccessPin → Type 0
MakesPin (event.AccessPin file id request) pin = pin_of file id request ≡ pin
MakesPin e pin = ⊥

abbrev pub TakesPin : {A : Type 0} → Event A → AccessPin → Type 0
TakesPin (event.AccessUnpin file id request) pin = pin_of file id request ≡ pin
TakesPin e pin = ⊥

-- objects and areas are the same
pub record SameSpaces (w new : World) : Type 0 where
  pub objects : new.objects ≡ w.objects
  pub areas : new.areas ≡ w.areas
  pub memory : new.memory ≡ w.memory

-- what the refusals leave of an access pin that comes: it is of whole pages, at least one, below 2^64, its access
-- object holds fewer than it may, and it is held, where access objects are attached to address spaces of their file
pub record IsPinAdmitted (w : World) (pin : AccessPin) : Type 0 where
  pub fits : is_fitting_pin pin ≡ true
  pub roomy : has_most_pins w.access_pins pin.file pin.access ≡ false
  pub held : are_in_spaces w.objects ≡ true → IsHeld w.objects w.areas pin

-- access pins: the same, or one more or one less, where objects and areas stay
pub data AccessPinsMove {A : Type 0} (w : World) (e : Event A) (new : World) : Type 0 where
  SameAccessPins : new.access_pins ≡ w.access_pins → AccessPinsMove w e new
  OneAccessPin : (pin : AccessPin) → MakesPin e pin → SameSpaces w new
      → (refusal w e ≡ None → IsPinAdmitted w pin)
      → new.access_pins ≡ w.access_pins ++ pin ∷ [] → AccessPinsMove w e new
  LessAccessPin : (pin : AccessPin) → TakesPin e pin → SameSpaces w new
      → (refusal w e ≡ None → is_held w.access_pins pin ≡ true)
      → new.access_pins ≡ without_pin pin w.access_pins → AccessPinsMove w e new

-- pins: the same, where page tables translate the same memory objects and access pins are the same, or those that
-- follow the areas, the page tables and the access pins of the world after the event; which pages access pins cover is
-- told by the other groups
pub data PinsMove {A : Type 0} (at : ℕ) (w : World) (e : Event A) (new : World) : Type 0 where
  SamePins : new.pins ≡ w.pins → TranslatedAlike w new → PinsMove at w e new
  Settled : new.pins ≡ (settle w new).pins
      → (refusal w e ≡ None → ArePinned at w → AccessedAlike w new → ArePresent w new) → PinsMove at w e new

-- allowed ranges: the same, fewer, all of an address space or none of them, or those that an address space is given
pub data AllowedMove {A : Type 0} (w : World) (e : Event A) (new : World) : Type 0 where
  SameAllowed : new.allowed ≡ w.allowed → AllowedMove w e new
  FewerAllowed : (stays : AllowedRanges → Bool) → ((file : FileNo) (ioas : ObjId) → (gone : Bool)
      × (allowed_of (filter stays w.allowed) file ioas ≡ cond gone [] (allowed_of w.allowed file ioas)))
      → new.allowed ≡ filter stays w.allowed → AllowedMove w e new
  Allows : (file : FileNo) (ioas : ObjId) (ranges : List Bounds)
      → (refusal w e ≡ None → AllowPassed (view w) file ioas ranges) → SameTranslations w new
      → new.allowed ≡ with_allowed file ioas ranges w.allowed → AllowedMove w e new

-- files: none is closed, or one is, without its objects and allowed ranges
pub data FilesMove (w new : World) : Type 0 where
  StayOpen : new.closed ≡ w.closed → FilesMove w new
  Closes : (file : FileNo) → new.closed ≡ w.closed ++ file ∷ []
      → new.objects ≡ filter (λ (object : Object). not (eqb object.file.0 file.0)) w.objects
      → new.allowed ≡ filter (λ (row : AllowedRanges). not (eqb row.file.0 file.0)) w.allowed → FilesMove w new

pub record Moves {A : Type 0} (at : ℕ) (w : World) (e : Event A) (answer : Reply) (new : World) : Type 0 where
  pub objects : ObjectsMove w e answer new
  pub areas : AreasMove at w e answer new
  pub attachments : AttachmentsMove w e answer new
  pub memory : MemoryMoves w e answer new
  pub pins : PinsMove at w e new
  pub allowed : AllowedMove w e new
  pub files : FilesMove w new
  -- no event changes what the server was opened with, nor rows of tables: the frames that its record takes and gives do
  pub settings : new.settings ≡ w.settings
  pub tables : new.table_frames ≡ w.table_frames
  pub accesses : AccessPinsMove w e new
  -- who holds an access pin stays attached, and who is attached has an address space
  pub holders : refusal w e ≡ None → Answers w e answer → AccessesStay w.objects new.objects w.access_pins

-- ---- what is known of rows that come

-- an object that binds no device
no_device : (w : World) (k : ObjectKind) → is_bound_device k ≡ false → (device : DeviceNo)
    → is_bound_as device k ≡ true → binding_of w.objects device ≡ None
no_device w kind.Ioas other device binds = cc
no_device w (kind.Hwpt ioas width automatic) other device binds = cc
no_device w (kind.Device bound) other device binds = cc
no_device w (kind.Access attached) other device binds = cc

-- the device that is bound anew wasn't bound
unbound_before : (w : World) (device other : DeviceNo) → is_some (binding_of w.objects device) ≡ false
    → eqb device.0 other.0 ≡ true → binding_of w.objects other ≡ None
unbound_before w device other free same =
    ap (λ n. let of_number : DeviceNo = record { 0 = n } in binding_of w.objects of_number)
    (sym (eqb-true device.0 other.0 same)) ∙ absent (binding_of w.objects device) free
  where
    absent : (o : Option Object) → is_some o ≡ false → o ≡ None
    absent None is = refl
    absent (Some object) is = cc

-- the page table that an attachment to an address space makes, where there is no automatic one of the device's width
hwpt_moves : {A : Type 0} (w : World) (device : DeviceNo) (ioas id : ObjId) (object : Object) (d : DeviceSettings)
    → binding_of w.objects device ≡ Some object → device_of w.settings device ≡ Some d
    → kind_of w.objects object.file ioas ≡ Some kind.Ioas → (o : Option Object)
    → automatic_hwpt w.objects object.file ioas d.width ≡ o
    → (IsHwptOf w ioas id (binding_of w.objects device) (device_of w.settings device)
    → IsHwptFor w object.file id o)
    → (new : World) → new.objects ≡ with_hwpt object.file ioas id d.width o w.objects
    → ObjectsMove {A = A} w (event.Attach device ioas) (reply.Id id) new
unfolding Answers
hwpt_moves w device ioas id object d bound known named (Some automatic) is answers new same = Same same
hwpt_moves w device ioas id object d bound known named None is answers new same =
    More (record { file = object.file; id = id; kind = kind.Hwpt ioas d.width true }) answers
    (λ none.
    let room = subst (λ (o : Option DeviceSettings). lacks_room_for_hwpt (view w) object.file ioas o ≡ false) known
    (attach_passed (view w) device ioas object bound named none).roomy in
    record {
      roomy = sym (ap (λ (o : Option Object). is_none o && is_full w.objects object.file) is) ∙ room;
      known = λ all. both_true _ _ (bound_known w.settings w.closed w.objects device object all bound).0 refl;
      unbound = no_device w (kind.Hwpt ioas d.width true) refl;
      wide = (
        reserved_by d,
        sym (ap (narrows (view w) object.file ioas) known)
            ∙ (attach_passed (view w) device ioas object bound named none).wide,
      );
    })
    (λ finds. absurd (no_table finds)) same
  where
    no_table : finds_table w.objects ioas (binding_of w.objects device) (device_of w.settings device) ≡ true → ⊥
    no_table finds = let found = rw (bound, known, named, is) at finds in cc

-- it binds no device
hwpt_binds : (device : DeviceNo) (file : FileNo) (ioas id : ObjId) (width : Width) (o : Option Object)
    (objects : List Object)
    → binding_of (with_hwpt file ioas id width o objects) device ≡ binding_of objects device
hwpt_binds device file ioas id width (Some automatic) objects = refl
hwpt_binds device file ioas id width None objects =
    find-with_object (λ o. is_bound_as device o.kind)
    (record { file = file; id = id; kind = kind.Hwpt ioas width true }) objects refl

-- ---- each event

module _ {A : Type 0} (at : ℕ) (w : World) (e : Event A) (answer : Reply) (new : World) where
  moves : ObjectsMove w e answer new → AreasMove at w e answer new → AttachmentsMove w e answer new
      → MemoryMoves w e answer new → PinsMove at w e new → AllowedMove w e new → FilesMove w new
      → new.settings ≡ w.settings → new.table_frames ≡ w.table_frames → AccessPinsMove w e new
      → (refusal w e ≡ None → Answers w e answer → AccessesStay w.objects new.objects w.access_pins)
      → Moves at w e answer new
  moves objects areas attachments memory pins allowed files settings tables accesses holders =
      record {
        objects = objects;
        areas = areas;
        attachments = attachments;
        memory = memory;
        pins = pins;
        allowed = allowed;
        files = files;
        settings = settings;
        tables = tables;
        accesses = accesses;
        holders = holders;
      }

-- a page table comes with an attachment, or there is one
table_accesses : (w : World) (file : FileNo) (ioas id : ObjId) (width : Width) (o : Option Object)
    → IsHwptFor w file id o → AccessesStay w.objects (with_hwpt file ioas id width o w.objects) w.access_pins
table_accesses w file ioas id width (Some automatic) made = same_accesses w
table_accesses w file ioas id width None made =
    more_accesses w (record { file = file; id = id; kind = kind.Hwpt ioas width true }) made refl

-- the world stays
stays : {A : Type 0} (at : ℕ) (w : World) (e : Event A) (answer : Reply) → Moves at w e answer w
stays at w e answer = moves at w e answer w (Same refl) (SameAreas refl refl) (SameAttachments refl)
    (SameMemory refl refl) (SamePins refl (record { memory = refl; accesses = refl; same = λ number. refl }))
    (SameAllowed refl) (StayOpen refl) refl refl (SameAccessPins refl)
    (λ none answers. same_accesses w)

-- objects come or go, none of them a page table
object_moves : {A : Type 0} (at : ℕ) (w : World) (e : Event A) (answer : Reply) (objects : List Object)
    → ObjectsMove w e answer (record w { objects = objects })
    → ((file : FileNo) (ioas : ObjId) → has_hwpt objects file ioas ≡ has_hwpt w.objects file ioas)
    → (refusal w e ≡ None → Answers w e answer → AccessesStay w.objects objects w.access_pins)
    → Moves at w e answer (record w { objects = objects })
object_moves at w e answer objects move same holders =
    moves at w e answer (record w { objects = objects }) move (SameAreas refl refl) (SameAttachments refl)
    (SameMemory refl refl) (SamePins refl (alike_objects w objects same)) (SameAllowed refl) (StayOpen refl) refl refl
    (SameAccessPins refl) holders

-- users' pages and what is written change, and which pages were written by devices
memory_moves : {A : Type 0} (at : ℕ) (w : World) (e : Event A) (answer : Reply) (pages : List UserPage)
    (tracked : List TrackedTable) (writes : List FrameWrite)
    → MemoryMoves w e answer (record w { user_pages = pages; tracked = tracked; writes = writes })
    → Moves at w e answer (record w { user_pages = pages; tracked = tracked; writes = writes })
memory_moves at w e answer pages tracked writes move =
    moves at w e answer (record w { user_pages = pages; tracked = tracked; writes = writes }) (Same refl)
    (SameAreas refl refl) (SameAttachments refl) move
    (SamePins refl (record { memory = refl; accesses = refl; same = λ number. refl }))
    (SameAllowed refl) (StayOpen refl) refl refl (SameAccessPins refl)
    (λ none answers. same_accesses w)

-- which pages were written by devices alone
tracked_moves : {A : Type 0} (at : ℕ) (w : World) (e : Event A) (answer : Reply) (tracked : List TrackedTable)
    → Moves at w e answer (record w { tracked = tracked })
tracked_moves at w e answer tracked = memory_moves at w e answer w.user_pages tracked w.writes (SameMemory refl refl)

-- access pins come or go, and pins follow
access_moves : {A : Type 0} (at : ℕ) (w : World) (e : Event A) (answer : Reply) (access_pins : List AccessPin)
    → (let new : World = record w { access_pins = access_pins } in
    refusal w e ≡ None → ArePinned at w → ArePresent w new)
    → AccessPinsMove w e (settle w (record w { access_pins = access_pins }))
    → Moves at w e answer (settle w (record w { access_pins = access_pins }))
unfolding settle
access_moves at w e answer access_pins present accesses =
    moves at w e answer (settle w (record w { access_pins = access_pins })) (Same refl) (SameAreas refl refl)
    (SameAttachments refl) (SameMemory refl refl) (Settled refl (λ none p accessed. present none p)) (SameAllowed refl)
    (StayOpen refl) refl refl accesses (λ none answers. same_accesses w)

-- what devices reach changes, and pins follow or stay
abbrev same_rest : World → World → World
same_rest w new = record w {
  objects = new.objects;
  memory = new.memory;
  areas = new.areas;
  pins = new.pins;
  attachments = new.attachments;
  tracked = new.tracked;
}

reach_moves : {A : Type 0} (at : ℕ) (w : World) (e : Event A) (answer : Reply) (new : World) → new ≡ same_rest w new
    → ObjectsMove w e answer new → AreasMove at w e answer new → AttachmentsMove w e answer new → PinsMove at w e new
    → (refusal w e ≡ None → Answers w e answer → AccessesStay w.objects new.objects w.access_pins)
    → Moves at w e answer new
reach_moves at w e answer new is objects areas attachments pins holders =
    moves at w e answer new objects areas attachments
    (SameMemory (ap (λ (x : World). x.user_pages) is) (ap (λ (x : World). x.writes) is)) pins
    (SameAllowed (ap (λ (x : World). x.allowed) is)) (StayOpen (ap (λ (x : World). x.closed) is))
    (ap (λ (x : World). x.settings) is) (ap (λ (x : World). x.table_frames) is)
    (SameAccessPins (ap (λ (x : World). x.access_pins) is)) holders

pub changed_moves : {A : Type 0} → (at : ℕ) (w : World) (e : Event A) (answer : Reply)
    → Moves at w e answer (changed at w e answer)
unfolding changed settle without_areas attached detached joined Answers
changed_moves at w (event.IoasAlloc file) (reply.Id id) =
    object_moves at w (event.IoasAlloc file) (reply.Id id) _
    (More (record { file = file; id = id; kind = kind.Ioas }) (λ answers. answers)
    (λ none. let passed = alloc_passed (view w) file none in
    record {
      roomy = passed.roomy;
      known = λ all. both_true _ _ passed.opened refl;
      unbound = no_device w kind.Ioas refl;
      wide = tt;
    })
    (λ makes. refl) refl) (λ own ioas. same_hwpt _ w.objects own ioas refl)
    (λ none answers. more_accesses w _ answers refl)
changed_moves at w (event.AllowIovas file ioas ranges) reply.Done =
    moves at w _ _ _ (Same refl) (SameAreas refl refl) (SameAttachments refl) (SameMemory refl refl)
    (SamePins refl (record { memory = refl; accesses = refl; same = λ number. refl }))
    (Allows file ioas ranges (λ none. allow_passed (view w) file ioas ranges none)
    (record { objects = refl; attachments = refl }) refl) (StayOpen refl) refl refl (SameAccessPins refl)
    (λ none answers. same_accesses w)
changed_moves {A = A} at w (event.Map file request) (reply.Iova iova) =
    let e : Event A = event.Map file request in
    by_found (λ user. Moves at w e (reply.Iova iova) (map_changes at w file request iova user))
    (user_of w.settings file) (stays at w e (reply.Iova iova)) (λ user is.
    reach_moves at w e (reply.Iova iova) (map_changes at w file request iova (Some user)) refl (Same refl)
    (OneArea at file request iova (λ none. map_place (view w) file request none)
    (λ none answers. lies_at w file request iova none answers) (λ makes. makes)
    (record { objects = refl; attachments = refl }) refl
    (NewMemory user is (λ none. (map_passed (view w) file request none).in_user) refl refl))
    (SameAttachments refl)
    (Settled refl (λ none p accessed page within before. mapped_present at w file request iova user page none is p.made
    (none_over at w.areas w.memory p.made p.sizes) (accessed page) within before))
    (λ none answers. same_accesses w))
changed_moves {A = A} at w (event.Copy file request) (reply.Iova iova) =
    let e : Event A = event.Copy file request in
    by_found (λ source. Moves at w e (reply.Iova iova) (copy_changes w file request iova source))
    (source_area w file request) (stays at w e (reply.Iova iova)) (λ source is.
    let source_of = source_is w file request source is in
    reach_moves at w e (reply.Iova iova) (copy_changes w file request iova (Some source)) refl (Same refl)
    (OneArea source.memory file (placed_as request) iova (λ none. copy_place (view w) file request none)
    (λ none answers. copy_lies_at w file request iova none answers) (λ makes. makes)
    (record { objects = refl; attachments = refl }) refl
    (SharedMemory source source_of.within source_of.of_file
    (λ none. copied_size w file request iova source none source_of) refl refl))
    (SameAttachments refl)
    (Settled refl (λ none p accessed page within before. copied_present at w file request iova source page p none is
    (added_page w (mapped_area source.memory file (placed_as request) iova) page (accessed page) within before)))
    (λ none answers. same_accesses w))
changed_moves at w (event.Unmap file request) (reply.Bytes count) =
    reach_moves at w (event.Unmap file request) (reply.Bytes count)
    (settle w (without_areas (is_touched file request) w)) refl (Same refl)
    (FewerAreas (is_touched file request) (λ a goes. (and_true (is_of file request.ioas a) _ goes).0) refl refl (λ none answers held. unmapped_free w file request answers.0))
    (SameAttachments refl)
    (Settled refl (λ none p accessed page within before. absurd (none_comes w (is_touched file request) w.objects page
    (λ own ioas has. has) (accessed page) within before)))
    (λ none answers. same_accesses w)
changed_moves at w (event.Unmap file request) (reply.Pending errno) =
    reach_moves at w (event.Unmap file request) (reply.Pending errno)
    (unmapped w file request (reply.Pending errno)) refl (Same refl)
    (OtherPhases _ (λ a live. leaving_live (is_touched file request a) _ _ a.phase live) refl refl)
    (SameAttachments refl) (SamePins refl (alike_phases w _)) (λ none answers. same_accesses w)
changed_moves {A = A} at w (event.HwptAlloc file request) (reply.Id id) =
    let e : Event A = event.HwptAlloc file request in
    by_found (λ settings. Moves at w e (reply.Id id) (hwpt_changes w file request.ioas id settings))
    (settings_under w.settings w.objects file request.device) (stays at w e (reply.Id id)) (λ settings is.
    reach_moves at w e (reply.Id id) (hwpt_changes w file request.ioas id (Some settings)) refl
    (More (made_hwpt file request.ioas id settings) (λ answers. answers)
    (λ none. let passed = hwpt_passed (view w) file request none in
    record {
      roomy = passed.roomy;
      known = λ all. both_true _ _ passed.opened refl;
      unbound = no_device w (kind.Hwpt request.ioas settings.width false) refl;
      wide = ([], sym (ap (narrows_by_width (view w) file request.ioas) is) ∙ passed.wide);
    })
    (λ makes. absurd makes) refl)
    (SameAreas refl refl) (SameAttachments refl)
    (Settled refl (λ none p accessed page within before. table_present at w file request.ioas id settings.width false
    page p (hwpt_passed (view w) file request none).present
    (moved_new w w.areas _ page (λ objects number. refl) (accessed page) within before)))
    (λ none answers. more_accesses w _ answers refl))
changed_moves at w (event.Destroy file id) reply.Done =
    moves at w _ _ _ (Fewer _ (λ takes. destroyed_stay w file id takes)
    (λ none. destroyed_bound w file id (destroy_passed (view w) file id none).no_device) refl)
    (FewerAreas (is_of file id) (λ a goes. goes) refl refl (λ none answers held. destroyed_free w file id
    (destroy_passed (view w) file id none).unused held)) (SameAttachments refl) (SameMemory refl refl)
    (Settled refl (λ none p accessed page within before. absurd (none_comes w (is_of file id) _ page
    (λ own ioas has. hwpt-filter _ w.objects own ioas has) (accessed page) within before)))
    (FewerAllowed _ (λ f i. (_, allowed_without file id w.allowed f i)) refl) (StayOpen refl) refl refl
    (SameAccessPins refl) (λ none answers. destroyed_accesses w file id (destroy_passed (view w) file id none).unused)
changed_moves at w (event.Close file) reply.Done =
    moves at w _ _ _ (Fewer _ (λ takes. closed_stay w file takes)
    (λ none. closed_bound w file (close_passed (view w) file none).no_device) refl)
    (FewerAreas (λ (a : Area). eqb a.file.0 file.0) (λ a goes. goes) refl refl
    (λ none answers held. closed_free w file (close_passed (view w) file none).no_access held))
    (FewerAttachments _ refl) (SameMemory refl refl)
    (Settled refl (λ none p accessed page within before. absurd (none_comes w (λ (a : Area). eqb a.file.0 file.0) _ page
    (λ own ioas has. hwpt-filter _ w.objects own ioas has) (accessed page) within before)))
    (FewerAllowed _ (λ f i. (_, allowed_closed file w.allowed f i)) refl) (Closes file refl refl refl) refl refl
    (SameAccessPins refl) (λ none answers. closed_accesses w file (close_passed (view w) file none).no_access)
changed_moves at w (event.UserMap user va) (reply.Frame frame) =
    memory_moves at w (event.UserMap user va) (reply.Frame frame) _ _ _
    (OnePage user va frame (λ none. user_map_passed (view w) user va none) (λ answers. answers) refl refl refl)
changed_moves at w (event.UserUnmap user va) reply.Done =
    memory_moves at w (event.UserUnmap user va) reply.Done _ _ _ (FewerPages _ refl refl)
changed_moves at w (event.UserWrite user va bytes) reply.Done =
    memory_moves at w (event.UserWrite user va bytes) reply.Done _ _ _ (Written tt refl)
changed_moves at w (event.Bind file device) (reply.Id id) =
    object_moves at w (event.Bind file device) (reply.Id id) _
    (More (record { file = file; id = id; kind = kind.Device device }) (λ answers. answers)
    (λ none. let passed = bind_passed (view w) file device none in
    record {
      roomy = passed.roomy;
      known = λ all. both_true _ _ passed.opened passed.known;
      unbound = λ other same. unbound_before w device other passed.unbound same;
      wide = tt;
    })
    (λ makes. refl) refl) (λ own ioas. same_hwpt _ w.objects own ioas refl)
    (λ none answers. more_accesses w _ answers refl)
changed_moves at w (event.Unbind file id) reply.Done =
    object_moves at w (event.Unbind file id) reply.Done _ (Fewer _ (λ takes. unbound_stay w file id)
    (λ none own once bound. attachments-unbound w file id own once (unbind_passed (view w) file id none).unattached
    bound) refl)
    (hwpt-unbound w.objects file id) (λ none answers. unbound_accesses w file id)
changed_moves {A = A} at w (event.Attach device pt_id) (reply.Id id) =
    let e : Event A = event.Attach device pt_id in
    by_target w device pt_id id (Moves at w e (reply.Id id)) (λ nowhere. stays at w e (reply.Id id))
    (λ object d bound known space made.
    let automatic = automatic_hwpt w.objects object.file pt_id d.width in
    reach_moves at w e (reply.Id id) (settle w (attached w device pt_id id object d)) refl
    (hwpt_moves w device pt_id id object d bound known space automatic refl made _ refl)
    (OtherPhases _ (λ a live. paid_live device a.phase live) refl refl)
    (OneAttachment (record { device = device; file = object.file; hwpt = id }) object bound
    (hwpt_binds device object.file pt_id id d.width automatic w.objects ∙ bound) refl
    (λ none. (attach_passed (view w) device pt_id object bound space none).unattached)
    (λ none answers own. made_served w device object.file pt_id id d automatic own known refl (made answers)
    (sym (ap (narrows (view w) object.file pt_id) known)
    ∙ (attach_passed (view w) device pt_id object bound space none).wide)) refl)
    (Settled refl (λ none p accessed page within before. attached_present at w device pt_id id object d.width automatic
    page p none bound space
    (moved_new w (all_paid device w.areas) _ page (alike_paid w device) (accessed page) within before)))
    (λ none answers. table_accesses w object.file pt_id id d.width automatic (made answers)))
    (λ object d ioas width automatic bound known table same.
    reach_moves at w e (reply.Id id) (joined w device id object) refl (Same refl)
    (OtherPhases _ (λ a live. paid_live device a.phase live) refl refl)
    (OneAttachment (record { device = device; file = object.file; hwpt = id }) object bound bound refl
    (λ none. (join_passed (view w) device pt_id ioas width automatic object bound table none).unattached)
    (λ none answers own. joined_served w device object ioas id d width automatic known (rw (same answers) table)
    (join_passed (view w) device pt_id ioas width automatic object bound table none)) refl)
    (SamePins refl (record {
      memory = refl;
      accesses = refl;
      same = translated-map w.objects (λ a. paid device a.phase) w.areas;
    }))
    (λ none answers. same_accesses w))
changed_moves {A = A} at w (event.Detach device) reply.Done =
    let e : Event A = event.Detach device in
    by_attachment w device (Moves at w e reply.Done) (stays at w e reply.Done) (λ a is.
    reach_moves at w e reply.Done (settle w (detached w device a)) refl
    (Fewer _ (λ takes. detached_stay w device a is takes)
    (λ none. detached_bound w a (without_attachment device w.attachments)) refl)
    (OtherPhases _ (λ area live. paid_live device area.phase live) refl refl) (FewerAttachments _ refl)
    (Settled refl (λ none p accessed page within before. absurd (none_new w _ page
    (λ own ioas has. hwpt-filter _ w.objects own ioas has)
    (moved_new w (all_paid device w.areas) _ page (alike_paid w device) (accessed page) within before))))
    (λ none answers. detached_accesses w (without_attachment device w.attachments) a))
changed_moves at w (event.Flush device) reply.Done =
    reach_moves at w (event.Flush device) reply.Done (device_flushed w device reply.Done) refl (Same refl)
    (OtherPhases _ (λ a live. paid_live device a.phase live) refl refl) (SameAttachments refl)
    (SamePins refl (alike_phases w (λ a. paid device a.phase)))
    (λ none answers. same_accesses w)
changed_moves at w (event.DeviceWrite device iova bytes) (reply.Passed frame) =
    memory_moves at w (event.DeviceWrite device iova bytes) (reply.Passed frame) _ _ _ (Written tt refl)
changed_moves at w (event.AccessCreate file) (reply.Id id) =
    object_moves at w (event.AccessCreate file) (reply.Id id) _
    (More (record { file = file; id = id; kind = kind.Access None }) (λ answers. answers)
    (λ none. let passed = access_create_passed (view w) file none in
    record {
      roomy = passed.roomy;
      known = λ all. both_true _ _ passed.opened refl;
      unbound = no_device w (kind.Access None) refl;
      wide = tt;
    })
    (λ makes. refl) refl) (λ own ioas. same_hwpt _ w.objects own ioas refl)
    (λ none answers. more_accesses w _ answers refl)
changed_moves at w (event.AccessAttach file id ioas) reply.Done =
    object_moves at w (event.AccessAttach file id ioas) reply.Done _ (Reattached file id (Some ioas) refl)
    (hwpt-reattached file id (Some ioas) w.objects)
    (λ none answers. let passed = access_attach_passed (view w) file id ioas none in
    reattached_accesses w file id (Some ioas) passed.space
    (λ pin among over is. unattached_other w file id passed.unattached pin.file pin.access over is))
changed_moves at w (event.AccessDetach file id) reply.Done =
    object_moves at w (event.AccessDetach file id) reply.Done _ (Reattached file id None refl)
    (hwpt-reattached file id None w.objects)
    (λ none answers. reattached_accesses w file id None tt (λ pin among over is. unpinned_other w file id
    (access_detach_passed (view w) file id none).unpinned pin among))
changed_moves at w (event.AccessPin file id request) reply.Done =
    let pin = pin_of file id request in
    access_moves at w (event.AccessPin file id request) reply.Done (w.access_pins ++ pin ∷ [])
    (λ none p page within before.
    let (listed, covers, old) = comes_by_pin w pin page within before in
    let (ioas, passed) = pin_passed (view w) file id request none in
    pinned_present at w file id ioas request page p passed listed covers old)
    (OneAccessPin pin refl (record { objects = refl; areas = refl; memory = refl })
    (λ none. let (ioas, passed) = pin_passed (view w) file id request none in
    record {
      fits = pin_fits (view w) file id ioas request passed;
      roomy = passed.roomy;
      held = pin_held w file id ioas request passed;
    }) refl)
changed_moves at w (event.AccessUnpin file id request) reply.Done =
    let pin = pin_of file id request in
    access_moves at w (event.AccessUnpin file id request) reply.Done (without_pin pin w.access_pins)
    (λ none p page within before. absurd (clash _ before (none_by_unpin w pin page within)))
    (LessAccessPin pin refl (record { objects = refl; areas = refl; memory = refl })
    (λ none. (access_unpin_passed (view w) file id request none).held) refl)
changed_moves at w (event.AccessWrite file id iova bytes) reply.Done =
    memory_moves at w (event.AccessWrite file id iova bytes) reply.Done _ _ _ (Written tt refl)
changed_moves at w (event.DirtyEnable file hwpt on) reply.Done = tracked_moves at w _ reply.Done _
changed_moves at w (event.DirtyClear file request) (reply.Dirty words) = tracked_moves at w _ (reply.Dirty words) _
changed_moves at w e answer = stays at w e answer

-- ---- all areas

-- what holds of areas whatever their phase, and of the one that comes
pub all_areas : {A : Type 0} (p : Area → Bool)
    → ((phase : Phase) (a : Area) → p a ≡ true → p (with_phase phase a) ≡ true)
    → (at : ℕ) (w : World) (e : Event A) (answer : Reply) (new : World) → AreasMove at w e answer new
    → ((number : ℕ) (file : FileNo) (request : MapRequest) (iova : Iova)
    → (refusal w e ≡ None → PlacePassed (view w) file request)
    → (refusal w e ≡ None → Answers w e answer → LiesAt (view w) file request iova.0) → SameTranslations w new
    → MemoryUnder at w e file request iova number new.memory → p (mapped_area number file request iova) ≡ true)
    → list_all p w.areas ≡ true → list_all p new.areas ≡ true
all_areas p phases at w e answer new (SameAreas is same) one all = rw is all
all_areas p phases at w e answer new (FewerAreas goes by is left free) one all = rw is (all_filter p _ w.areas all)
all_areas p phases at w e answer new (OtherPhases phase lives is same) one all =
    rw is (all_map p p _ w.areas (λ a here. phases (phase a) a here) all)
all_areas p phases at w e answer new (OneArea number file request iova passed lies makes alike is under) one all =
    rw is (all-with_area p (mapped_area number file request iova) w.areas
    (one number file request iova passed lies alike under) all)
