-- A device stays attached to an address space where the event is no turn of it.
use Rattle.std.proofs.Common.{◌≡◌, ℕ, Bool, true, false, not, eqb, cond, Option, Some, None, List, [], ◌∷◌, refl, sym}
use Rattle.std.proofs.Common.{ap, ◌∙◌, subst, arith, inl, inr}
use Rattle.std.specs.List.{filter, list_any}
use Rattle.std.proofs.lemmas.Bool.Decides.{nat_tests}
use Rattle.iofd_steps.specs.After.{attached, changed, copy_changes, detached}
use Rattle.iofd_steps.specs.After.{hwpt_changes, joined, made_hwpt, map_changes, settle, with_hwpt}
use Rattle.iofd_steps.specs.After.{without_areas}
use Rattle.iofd_steps.specs.Answers.{Answers}
use Rattle.iofd_words.specs.Areas.{all_paid, areas_of, is_of}
use Rattle.iofd_refusals.specs.Checks.{is_used, refusal}
use Rattle.iofd_words.specs.Copies.{source_in}
use Rattle.iofd_words.specs.Files.{user_of}
use Rattle.iofd_words.specs.Objects.{automatic_hwpt, binding_of, has_hwpt, is_bound_as, is_bound_device, kind_of}
use Rattle.iofd_words.specs.Objects.{objects_of, settings_under, has_access_to}
use Rattle.iofd_words.specs.Turns.{is_turn_of}
use Rattle.iofd_words.specs.View.{view}
use Rattle.iofd_words.specs.World.{World}
use Rattle.iofd_words.specs.declared.event.Event.{Event}
use Rattle.iofd_words.specs.declared.event.Event.TheVariants as event
use Rattle.iofd_words.specs.declared.numbers.DeviceNo.{DeviceNo}
use Rattle.iofd_words.specs.declared.numbers.FileNo.{FileNo}
use Rattle.iofd_words.specs.declared.numbers.ObjId.{ObjId}
use Rattle.iofd_words.specs.declared.reply.Reply.{Reply}
use Rattle.iofd_words.specs.declared.reply.Reply.TheVariants as reply
use Rattle.iofd_words.specs.declared.rows.Area.{Area}
use Rattle.iofd_words.specs.declared.rows.Attachment.{Attachment}
use Rattle.iofd_words.specs.declared.rows.Object.{Object}
use Rattle.iofd_words.specs.declared.rows.ObjectKind.{ObjectKind}
use Rattle.iofd_words.specs.declared.rows.ObjectKind.TheVariants as kind
use Rattle.iofd_words.specs.declared.rows.Phase.TheVariants.{Leaving}
use Rattle.iofd_rows.specs.Debts.{debtors_of}
use Rattle.iofd_rows.proofs.Bools.{and_true, clash, not_false, or_false}
use Rattle.iofd_rows.proofs.Each.{IsIn, in_found, of_any, of_each}
use Rattle.iofd_rows.proofs.ListTests.{false_else}
use Rattle.iofd_rows.proofs.Moves.{owed_object, owed_reattached}
use Rattle.iofd_rows.proofs.Named.{file_is, id_is}
use Rattle.iofd_rows.proofs.Owed.{EachOwed, IsDebtor, IsSpace, each_owed, space_of}
use Rattle.iofd_runs.proofs.AttachMoves.{is_made, is_there, owed_attached, owed_detached}
use Rattle.iofd_runs.proofs.Branches.{by_attachment, by_found, by_target}
use Rattle.iofd_runs.proofs.NotRefused.{attach_passed, close_passed, destroy_passed, hwpt_passed, join_passed}
use Rattle.iofd_runs.proofs.ObjectsGo.{owed_closed, owed_destroyed, owed_unbound}
use Rattle.iofd_runs.proofs.OwnIds.{unused}
use Rattle.iofd_runs.proofs.PinnedAccess.{attached_hwpt}
use Rattle.iofd_runs.proofs.StillTabled.{in_kept}
use Rattle.iofd_rows.proofs.Bound.{attachments_bound, is_bound_to, is_of_file}
use Rattle.iofd_laws.proofs.KeepsBound.{IsTidy}

-- ---- an area that only this device owes a flush: what the law of debts says of it is that the device is attached

abbrev pub owed_one : FileNo → ObjId → ℕ → Area
owed_one file ioas device =
    record {
      file = file;
      ioas = ioas;
      span = record { first = 0; last = 0 };
      memory = 0;
      rights = record { 0 = 0 };
      phase = Leaving (device ∷ []) 0;
    }

one_owed : (w : World) (file : FileNo) (ioas : ObjId) (device : ℕ) → EachOwed w.objects w.attachments w.areas
    → IsSpace w.objects file ioas → IsDebtor w.objects w.attachments file ioas device
    → EachOwed w.objects w.attachments (owed_one file ioas device ∷ [])
one_owed w file ioas device each space is = record {
  once = each.once;
  debtors = λ area within d owes. debtors area within d owes;
  tables = each.tables;
  spaces = each.spaces;
  in_spaces = λ area within. spaces area within;
}
  where
    debtors : (area : Area) → IsIn (owed_one file ioas device ∷ []) area → (d : ℕ) → IsIn (debtors_of area.phase) d
        → IsDebtor w.objects w.attachments area.file area.ioas d
    debtors area (inl same) =
        subst (λ (x : Area). (d : ℕ) → IsIn (debtors_of x.phase) d → IsDebtor w.objects w.attachments x.file x.ioas d)
        same (λ d owes. by_device d owes)
      where
        by_device : (d : ℕ) → IsIn (device ∷ []) d → IsDebtor w.objects w.attachments file ioas d
        by_device d (inl one) = subst (IsDebtor w.objects w.attachments file ioas) one is
        by_device d (inr none) = absurd none
    debtors area (inr none) = absurd none

    spaces : (area : Area) → IsIn (owed_one file ioas device ∷ []) area → IsSpace w.objects area.file area.ioas
    spaces area (inl same) = subst (λ (x : Area). IsSpace w.objects x.file x.ioas) same space
    spaces area (inr none) = absurd none

-- it is still, where the area is still there and still owed
the_one : (objects : List Object) (attachments : List Attachment) (file : FileNo) (ioas : ObjId) (device : ℕ)
    → EachOwed objects attachments (owed_one file ioas device ∷ []) → IsDebtor objects attachments file ioas device
the_one objects attachments file ioas device each =
    each.debtors (owed_one file ioas device) (inl refl) device (inl refl)

-- kept by a filter
the_one_kept : (objects : List Object) (attachments : List Attachment) (file : FileNo) (ioas : ObjId) (device : ℕ)
    (q : Area → Bool) → q (owed_one file ioas device) ≡ true
    → EachOwed objects attachments (filter q (owed_one file ioas device ∷ []))
    → IsDebtor objects attachments file ioas device
the_one_kept objects attachments file ioas device q kept each =
    the_one objects attachments file ioas device
    (subst (λ (b : Bool). EachOwed objects attachments (cond b (owed_one file ioas device ∷ []) [])) kept each)

-- another device flushes
the_one_paid : (objects : List Object) (attachments : List Attachment) (file : FileNo) (ioas : ObjId)
    (device other : DeviceNo) → eqb other.0 device.0 ≡ false
    → EachOwed objects attachments (all_paid other (owed_one file ioas device.0 ∷ []))
    → IsDebtor objects attachments file ioas device.0
the_one_paid objects attachments file ioas device other differ each =
    each.debtors (record (owed_one file ioas device.0) {
      phase = Leaving (filter (λ (d : ℕ). not (eqb d other.0)) (device.0 ∷ [])) 0;
    }) (inl refl) device.0 owes
  where
    unlike : eqb device.0 other.0 ≡ false
    unlike = search (differ, arith, nat_tests)

    owes : IsIn (cond (not (eqb device.0 other.0)) (device.0 ∷ []) []) device.0
    owes = subst (λ (b : Bool). IsIn (cond b (device.0 ∷ []) []) device.0) (sym (not_false _ unlike)) (inl refl)

-- ---- where the device is attached

-- a page table is over the address space
pub has_table : (objects : List Object) (attachments : List Attachment) (file : FileNo) (ioas : ObjId) (device : ℕ)
    → IsDebtor objects attachments file ioas device → has_hwpt objects file ioas ≡ true
has_table objects attachments file ioas device is =
    subst (λ (f : FileNo). has_hwpt objects f ioas ≡ true) is.of_file
    (attached_hwpt objects is.a ioas
    (ap (λ (o : Option ObjectKind). elim o [
      | Some kind.Ioas ↦ None
      | Some (kind.Hwpt ioas width automatic) ↦ Some ioas
      | Some (kind.Device d) ↦ None
      | Some (kind.Access attached) ↦ None
      | None ↦ None
    ]) is.table))

-- so that it isn't destroyed
pub not_destroyed : (w : World) (file own : FileNo) (ioas id : ObjId) (device : ℕ)
    → is_used (view w) own id (kind_of w.objects own id) ≡ false → IsSpace w.objects file ioas
    → IsDebtor w.objects w.attachments file ioas device → (eqb file.0 own.0 ≡ true) × (eqb ioas.0 id.0 ≡ true) → ⊥
not_destroyed w file own ioas id device none space is names =
    let files = file_is file own names.0 in
    let spaces = id_is ioas id names.1 in
    let here : kind_of w.objects own id ≡ Some kind.Ioas = rw (← files, ← spaces) space in
    let used : has_hwpt w.objects own id ≡ true =
    rw (← files, ← spaces) (has_table w.objects w.attachments file ioas device is) in
    clash _ (or_false _ (has_access_to w.objects own id) (sym (ap (is_used (view w) own id) here) ∙ none)).0 used

-- its file has a bound device, and so isn't closed
pub not_closed : (w : World) (file own : FileNo) (ioas : ObjId) (device : ℕ)
    → attachments_bound w.objects w.attachments ≡ true
    → list_any (λ (o : Object). is_bound_device o.kind) (objects_of w.objects own) ≡ false
    → IsDebtor w.objects w.attachments file ioas device → eqb file.0 own.0 ≡ false
not_closed w file own ioas device bound none is = false_else (eqb file.0 own.0) (λ same. never same)
  where
    a_in : IsIn w.attachments is.a
    a_in = (in_found (λ (b : Attachment). eqb b.device.0 device) w.attachments is.a is.found).0

    binds : (d : DeviceNo) (k : ObjectKind) → is_bound_as d k ≡ true → is_bound_device k ≡ true
    binds d kind.Ioas by = cc
    binds d (kind.Hwpt over width automatic) by = cc
    binds d (kind.Device other) by = refl
    binds d (kind.Access attached) by = cc

    never : eqb file.0 own.0 ≡ true → ⊥
    never same = by_object (binding_of w.objects (record { 0 = is.a.device.0 })) refl
        (of_each (λ (b : Attachment). is_bound_to w.objects b.file b.device.0) w.attachments is.a bound a_in)
      where
        by_object : (o : Option Object) → binding_of w.objects (record { 0 = is.a.device.0 }) ≡ o
            → is_of_file is.a.file o ≡ true → ⊥
        by_object None found of_file = cc
        by_object (Some object) found of_file =
            let (among, by) = in_found (λ (o : Object). is_bound_as (record { 0 = is.a.device.0 }) o.kind) w.objects
            object found in
            let files = ap (λ (f : FileNo). f.0) is.of_file in
            let here : eqb object.file.0 own.0 ≡ true = search (of_file, files, same, arith, nat_tests) in
            let in_file = in_kept (λ (o : Object). eqb o.file.0 own.0) w.objects object among here in
            clash _ none (of_any (λ (o : Object). is_bound_device o.kind) (objects_of w.objects own) object in_file
            (binds (record { 0 = is.a.device.0 }) object.kind by))

-- ---- each event

module _ (w : World) (device : DeviceNo) (file : FileNo) (ioas : ObjId) (tidy : IsTidy w)
    (space : IsSpace w.objects file ioas) (is : IsDebtor w.objects w.attachments file ioas device.0) where
  one : EachOwed w.objects w.attachments (owed_one file ioas device.0 ∷ [])
  one = one_owed w file ioas device.0 (each_owed w tidy.sound.debts) space is

  abbrev Attached : World → Type 0
  Attached new = IsDebtor new.objects new.attachments file ioas device.0

  pub stays_attached : {A : Type 0} → (at : ℕ) (e : Event A) (answer : Reply) → refusal w e ≡ None → Answers w e answer
      → is_turn_of device e ≡ false → Attached (changed at w e answer)
  unfolding changed settle without_areas attached detached joined Answers
  stays_attached at (event.IoasAlloc own) (reply.Id id) none answers other =
      the_one _ _ file ioas device.0 (owed_object w.objects w.attachments (owed_one file ioas device.0 ∷ []) (record {
        file = own;
        id = id;
        kind = kind.Ioas;
      }) (unused w.objects own id answers) (λ over is. cc) one)
  stays_attached at (event.Map own request) (reply.Iova iova) none answers other =
      by_found (λ user. Attached (map_changes at w own request iova user)) (user_of w.settings own) is (λ user of. is)
  stays_attached at (event.Copy own request) (reply.Iova iova) none answers other =
      by_found (λ source. Attached (copy_changes w own request iova source))
      (source_in (areas_of w.areas own request.src_ioas) request) is (λ source of. is)
  stays_attached at (event.Unmap own request) (reply.Bytes count) none answers other = is
  stays_attached at (event.Unmap own request) (reply.Pending errno) none answers other = is
  stays_attached at (event.HwptAlloc own request) (reply.Id id) none answers other =
      by_found (λ settings. Attached (hwpt_changes w own request.ioas id settings))
      (settings_under w.settings w.objects own request.device) is
      (λ settings of.
      let over_space = space_of w.objects own request.ioas (hwpt_passed (view w) own request none).space in
      the_one _ _ file ioas device.0 (owed_object w.objects w.attachments (owed_one file ioas device.0 ∷ [])
      (made_hwpt own request.ioas id settings) (unused w.objects own id answers)
      (λ over is. let same : request.ioas ≡ over = cc in rw (← same) over_space) one))
  stays_attached at (event.Destroy own id) reply.Done none answers other =
      let unused_one = (destroy_passed (view w) own id none).unused in
      let stays = false_else (is_of own id (owed_one file ioas device.0)) (λ names. not_destroyed w file own ioas id
      device.0 unused_one space is (and_true (eqb file.0 own.0) (eqb ioas.0 id.0) names)) in
      the_one_kept _ _ file ioas device.0 (λ (area : Area). not (is_of own id area)) (not_false _ stays)
      (owed_destroyed (record w { areas = owed_one file ioas device.0 ∷ [] }) own id unused_one one)
  stays_attached at (event.Close own) reply.Done none answers other =
      let stays = not_closed w file own ioas device.0 tidy.attachments (close_passed (view w) own none).no_device is in
      the_one_kept _ _ file ioas device.0 (λ (area : Area). not (eqb area.file.0 own.0)) (not_false _ stays)
      (owed_closed w.objects w.attachments (owed_one file ioas device.0 ∷ []) own one)
  stays_attached at (event.UserMap user va) (reply.Frame frame) none answers other = is
  stays_attached at (event.AllowIovas own over ranges) reply.Done none answers other = is
  stays_attached at (event.UserUnmap user va) reply.Done none answers other = is
  stays_attached at (event.UserWrite user va bytes) reply.Done none answers other = is
  stays_attached at (event.Bind own bound) (reply.Id id) none answers other =
      the_one _ _ file ioas device.0 (owed_object w.objects w.attachments (owed_one file ioas device.0 ∷ []) (record {
        file = own;
        id = id;
        kind = kind.Device bound;
      }) (unused w.objects own id answers) (λ over is. cc) one)
  stays_attached at (event.Unbind own id) reply.Done none answers other =
      the_one _ _ file ioas device.0
      (owed_unbound w.objects w.attachments (owed_one file ioas device.0 ∷ []) own id one)
  stays_attached at (event.Attach d pt_id) (reply.Id id) none answers other =
      by_target w d pt_id id Attached (λ nowhere. is)
      (λ object settings bound known over made.
      let automatic = automatic_hwpt w.objects object.file pt_id settings.width in
      let table = is_made w object.file pt_id id settings.width automatic tidy.sound.own_ids refl (made answers) over
      one.spaces in
      let objects = with_hwpt object.file pt_id id settings.width automatic w.objects in
      let free = (attach_passed (view w) d pt_id object bound over none).unattached in
      the_one_paid _ _ file ioas device d other
      (owed_attached w.objects objects w.attachments (owed_one file ioas device.0 ∷ []) d object.file pt_id id free
      table one))
      (λ object settings over width automatic bound known named same.
      let table = is_there w.objects object.file over id width automatic (rw (same answers) named) one.spaces in
      let free = (join_passed (view w) d pt_id over width automatic object bound named none).unattached in
      the_one_paid _ _ file ioas device d other
      (owed_attached w.objects w.objects w.attachments (owed_one file ioas device.0 ∷ []) d object.file over id free
      table one))
  stays_attached at (event.Detach d) reply.Done none answers other =
      by_attachment w d Attached is
      (λ a of. the_one_paid _ _ file ioas device d other
      (owed_detached w.objects w.attachments (owed_one file ioas device.0 ∷ []) d a one))
  stays_attached at (event.Flush d) reply.Done none answers other = is
  stays_attached at (event.DeviceWrite d iova bytes) (reply.Passed frame) none answers other = is
  stays_attached at (event.AccessCreate own) (reply.Id id) none answers other =
      the_one _ _ file ioas device.0 (owed_object w.objects w.attachments (owed_one file ioas device.0 ∷ []) (record {
        file = own;
        id = id;
        kind = kind.Access None;
      }) (unused w.objects own id answers) (λ over is. cc) one)
  stays_attached at (event.AccessAttach own id to) reply.Done none answers other =
      the_one _ _ file ioas device.0
      (owed_reattached w.objects w.attachments (owed_one file ioas device.0 ∷ []) own id (Some to) one)
  stays_attached at (event.AccessDetach own id) reply.Done none answers other =
      the_one _ _ file ioas device.0
      (owed_reattached w.objects w.attachments (owed_one file ioas device.0 ∷ []) own id None one)
  stays_attached at (event.AccessPin own id request) reply.Done none answers other = is
  stays_attached at (event.AccessUnpin own id request) reply.Done none answers other = is
  stays_attached at (event.AccessWrite own id iova bytes) reply.Done none answers other = is
  stays_attached at (event.DirtyEnable own hwpt on) reply.Done none answers other = is
  stays_attached at (event.DirtyClear own request) (reply.Dirty words) none answers other = is
  stays_attached at e answer none answers other = is
