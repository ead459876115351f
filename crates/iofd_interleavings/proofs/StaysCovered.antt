-- An area that an attached device may use stays, and the device may use it still, where the event is no turn of it.
use Rattle.std.proofs.Common.{◌≡◌, ℕ, Bool, true, false, not, eqb, cond, ◌&&◌, Option, Some, None, List, [], ◌∷◌}
use Rattle.std.proofs.Common.{length, refl, sym, ap, ◌∙◌, subst, arith, ◌+◌, ltb}
use Rattle.std.specs.List.{filter}
use Rattle.std.proofs.lemmas.Bool.Decides.{nat_tests}
use Rattle.iofd_steps.specs.After.{attached, changed, copy_changes, detached}
use Rattle.iofd_steps.specs.After.{hwpt_changes, joined, map_changes, mapped_area, settle}
use Rattle.iofd_steps.specs.After.{without_areas}
use Rattle.iofd_steps.specs.Answers.{Answers, waits}
use Rattle.iofd_words.specs.Areas.{all_paid, areas_of, is_of, is_touched, leaving, owed_by, paid, touched}
use Rattle.iofd_words.specs.Areas.{with_area, with_phase, tried, touched_tries, with_tries, is_held_back}
use Rattle.iofd_words.specs.Attachments.{devices_of, is_attached_to}
use Rattle.iofd_refusals.specs.Checks.{refusal}
use Rattle.iofd_words.specs.Copies.{placed_as, source_in}
use Rattle.iofd_words.specs.DeviceSet.{has_device}
use Rattle.iofd_words.specs.Files.{user_of}
use Rattle.iofd_words.specs.Objects.{is_hwpt_over, settings_under}
use Rattle.iofd_words.specs.Turns.{is_turn_of}
use Rattle.iofd_words.specs.View.{view}
use Rattle.iofd_words.specs.World.{World}
use Rattle.iofd_words.specs.declared.event.Event.{Event}
use Rattle.iofd_words.specs.declared.event.Event.TheVariants as event
use Rattle.iofd_words.specs.declared.event.UnmapRequest.{UnmapRequest}
use Rattle.iofd_words.specs.declared.numbers.DeviceNo.{DeviceNo}
use Rattle.iofd_words.specs.declared.numbers.FileNo.{FileNo}
use Rattle.iofd_words.specs.declared.numbers.ObjId.{ObjId}
use Rattle.iofd_words.specs.declared.reply.Reply.{Reply}
use Rattle.iofd_words.specs.declared.reply.Reply.TheVariants as reply
use Rattle.iofd_words.specs.declared.rows.Area.{Area}
use Rattle.iofd_words.specs.declared.rows.Attachment.{Attachment}
use Rattle.iofd_words.specs.declared.rows.ObjectKind.{ObjectKind}
use Rattle.iofd_words.specs.declared.rows.Phase.{Phase}
use Rattle.iofd_words.specs.declared.rows.Phase.TheVariants.{Live, Leaving}
use Rattle.iofd_words.specs.Pins.{has_pin_in}
use Rattle.iofd_rows.proofs.Bools.{and_true, both_true, clash, not_false, not_true}
use Rattle.iofd_rows.proofs.Each.{IsIn, in_found, of_any}
use Rattle.iofd_rows.proofs.ListTests.{any-filter, any_weaker, false_else, or_left}
use Rattle.iofd_rows.proofs.Named.{file_is, id_is}
use Rattle.iofd_rows.proofs.Owed.{IsDebtor, IsSpace}
use Rattle.iofd_runs.proofs.Branches.{by_attachment, by_found, by_target}
use Rattle.iofd_runs.proofs.NotRefused.{close_passed, destroy_passed}
use Rattle.iofd_runs.proofs.StillTabled.{in_kept}
use Rattle.iofd_laws.proofs.KeepsBound.{IsTidy}
use Rattle.iofd_promises.proofs.NewAreas.{stays_in}
use Rattle.iofd_promises.proofs.Spaces.{in_mapped}
use Rattle.iofd_interleavings.specs.Caches.{may_use}
use Rattle.iofd_interleavings.proofs.StaysAttached.{not_closed, not_destroyed}

-- ---- the area, in other lists

-- the same area in another list, in a phase in which the device may use it
pub record IsKept (device : DeviceNo) (area : Area) (areas : List Area) : Type 0 where
  pub phase : Phase
  pub among : IsIn areas (with_phase phase area)
  pub may : may_use device phase ≡ true

kept : (device : DeviceNo) (area : Area) (areas : List Area) → IsIn areas area → may_use device area.phase ≡ true
    → IsKept device area areas
kept device area areas among may = record { phase = area.phase; among = among; may = may }

-- ---- debts

-- what another device pays, this one owes still
paid_by_another : (device other : DeviceNo) (phase : Phase) → eqb other.0 device.0 ≡ false
    → may_use device phase ≡ true → may_use device (paid other phase) ≡ true
paid_by_another device other Live differ may = refl
paid_by_another device other (Leaving owed tries) differ may =
    any-filter (λ (d : ℕ). eqb d device.0) (λ (d : ℕ). not (eqb d other.0)) owed
    ∙ any_weaker (λ (d : ℕ). eqb d device.0) (λ (d : ℕ). not (eqb d other.0) && eqb d device.0) owed
    (λ d is. both_true _ _ (not_false _ (unlike d is)) is) may
  where
    unlike : (d : ℕ) → eqb d device.0 ≡ true → eqb d other.0 ≡ false
    unlike d is = search (is, differ, arith, nat_tests)

kept_paid : (device other : DeviceNo) (area : Area) (areas : List Area) → eqb other.0 device.0 ≡ false
    → IsIn areas area → may_use device area.phase ≡ true → IsKept device area (all_paid other areas)
kept_paid device other area areas differ among may = record {
  phase = paid other area.phase;
  among = in_mapped (λ (a : Area). with_phase (paid other a.phase) a) areas area among;
  may = paid_by_another device other area.phase differ may;
}

-- an attached device is one of those of its address space
attached_among : (w : World) (file : FileNo) (ioas : ObjId) (device : ℕ)
    → IsDebtor w.objects w.attachments file ioas device
    → has_device (devices_of w.objects w.attachments file ioas) device ≡ true
attached_among w file ioas device is =
    of_any (λ (d : ℕ). eqb d device) (devices_of w.objects w.attachments file ioas) is.a.device.0
    (in_mapped (λ (a : Attachment). a.device.0) _ is.a (in_kept (is_attached_to w.objects file ioas) w.attachments is.a
    found.0 to)) found.1
  where
    found : IsIn w.attachments is.a × (eqb is.a.device.0 device ≡ true)
    found = in_found (λ (a : Attachment). eqb a.device.0 device) w.attachments is.a is.found

    itself : eqb ioas.0 ioas.0 ≡ true
    itself = search (arith, nat_tests)

    to : is_attached_to w.objects file ioas is.a ≡ true
    to =
        let files = ap (λ (f : FileNo). f.0) is.of_file in
        let same : eqb is.a.file.0 file.0 ≡ true = search (files, arith, nat_tests) in
        both_true _ _ same (subst (λ (o : Option ObjectKind). elim o [
          | Some k ↦ is_hwpt_over ioas k
          | None ↦ false
        ] ≡ true) (sym is.table) itself)

-- a list that has a device isn't empty
not_none : (devices : List ℕ) (device : ℕ) → has_device devices device ≡ true → not (eqb (length devices) 0) ≡ true
not_none [] device has = cc
not_none (d ∷ devices) device has = search (arith, nat_tests)

-- an UNMAP waits where it touches the area
owes : (attached : List ℕ) (device : DeviceNo) (phase : Phase) → has_device attached device.0 ≡ true
    → may_use device phase ≡ true → not (eqb (length (owed_by attached phase)) 0) ≡ true
owes attached device Live has may = not_none attached device.0 has
owes attached device (Leaving owed tries) has may = not_none owed device.0 may

untouched : (w : World) (own : FileNo) (request : UnmapRequest) (device : DeviceNo) (area : Area) → IsIn w.areas area
    → may_use device area.phase ≡ true → IsDebtor w.objects w.attachments area.file area.ioas device.0
    → not (waits w own request) ≡ true
    → is_touched own request area ≡ false
untouched w own request device area among may is done =
    false_else (is_touched own request area) (λ touches. never touches)
  where
    never : is_touched own request area ≡ true → ⊥
    never touches =
        let names = and_true (eqb area.file.0 own.0) (eqb area.ioas.0 request.ioas.0)
        (and_true (is_of own request.ioas area) _ touches).0 in
        let has : has_device (devices_of w.objects w.attachments own request.ioas) device.0 ≡ true =
        subst (λ (f : FileNo). has_device (devices_of w.objects w.attachments f request.ioas) device.0 ≡ true)
        (file_is area.file own names.0)
        (subst (λ (i : ObjId). has_device (devices_of w.objects w.attachments area.file i) device.0 ≡ true)
        (id_is area.ioas request.ioas names.1) (attached_among w area.file area.ioas device.0 is)) in
        clash _ (not_true _ done) (of_any (is_held_back (devices_of w.objects w.attachments own request.ioas)
        (has_pin_in w.objects w.access_pins)) (touched w.areas own request) area
        (in_kept (is_touched own request) w.areas area among touches)
        (or_left _ _ (owes (devices_of w.objects w.attachments own request.ioas) device area.phase has may)))

-- an UNMAP that is pending leaves the area to the devices that are attached
may_tried : (device : DeviceNo) (most : ℕ) (phase : Phase)
    → may_use device (tried most phase) ≡ may_use device phase
may_tried device most phase = by_count (ltb most 100)
  where
    with_same : (tries : ℕ) (phase : Phase) → may_use device (with_tries tries phase) ≡ may_use device phase
    with_same tries Live = refl
    with_same tries (Leaving owed before) = refl

    by_count : (b : Bool) → may_use device (cond b (with_tries (most + 1) phase) phase) ≡ may_use device phase
    by_count true = with_same (most + 1) phase
    by_count false = refl

left_to : (w : World) (own : FileNo) (request : UnmapRequest) (device : DeviceNo) (area : Area)
    → may_use device area.phase ≡ true → IsDebtor w.objects w.attachments area.file area.ioas device.0
    → may_use device (cond (is_touched own request area) (tried (touched_tries w.areas own request)
    (leaving (devices_of w.objects w.attachments own request.ioas) area.phase)) area.phase) ≡ true
left_to w own request device area may is = by_test (is_touched own request area) refl area.phase may
  where
    most : ℕ
    most = touched_tries w.areas own request

    attached : List ℕ
    attached = devices_of w.objects w.attachments own request.ioas

    by_test : (b : Bool) → is_touched own request area ≡ b → (phase : Phase) → may_use device phase ≡ true
        → may_use device (cond b (tried most (leaving attached phase)) phase) ≡ true
    by_test false touches phase may = may
    by_test true touches (Leaving owed tries) may = may_tried device most (Leaving owed tries) ∙ may
    by_test true touches Live may =
        may_tried device most (Leaving attached 0) ∙
        let names = and_true (eqb area.file.0 own.0) (eqb area.ioas.0 request.ioas.0)
        (and_true (is_of own request.ioas area) _ touches).0 in
        subst (λ (f : FileNo). has_device (devices_of w.objects w.attachments f request.ioas) device.0 ≡ true)
        (file_is area.file own names.0)
        (subst (λ (i : ObjId). has_device (devices_of w.objects w.attachments area.file i) device.0 ≡ true)
        (id_is area.ioas request.ioas names.1) (attached_among w area.file area.ioas device.0 is))

-- ---- each event

module _ (w : World) (device : DeviceNo) (area : Area) (tidy : IsTidy w) (among : IsIn w.areas area)
    (may : may_use device area.phase ≡ true) (space : IsSpace w.objects area.file area.ioas)
    (is : IsDebtor w.objects w.attachments area.file area.ioas device.0) where
  abbrev Kept : World → Type 0
  Kept new = IsKept device area new.areas

  same : Kept w
  same = kept device area w.areas among may

  -- areas go, and this one stays
  left : (goes : Area → Bool) → goes area ≡ false → IsKept device area (filter (λ (a : Area). not (goes a)) w.areas)
  left goes stays = kept device area (filter (λ (a : Area). not (goes a)) w.areas)
      (in_kept (λ (a : Area). not (goes a)) w.areas area among (not_false _ stays)) may

  -- one area comes
  one_more : (new : Area) → IsKept device area (with_area new w.areas)
  one_more new = kept device area (with_area new w.areas) (stays_in new w.areas area among) may

  pub stays_covered : {A : Type 0} → (at : ℕ) (e : Event A) (answer : Reply) → refusal w e ≡ None → Answers w e answer
      → is_turn_of device e ≡ false → Kept (changed at w e answer)
  unfolding changed settle without_areas attached detached joined Answers
  stays_covered at (event.IoasAlloc own) (reply.Id id) none answers other = same
  stays_covered at (event.Map own request) (reply.Iova iova) none answers other =
      by_found (λ user. Kept (map_changes at w own request iova user)) (user_of w.settings own) same
      (λ user is. one_more (mapped_area at own request iova))
  stays_covered at (event.Copy own request) (reply.Iova iova) none answers other =
      by_found (λ source. Kept (copy_changes w own request iova source))
      (source_in (areas_of w.areas own request.src_ioas) request) same
      (λ source is. one_more (mapped_area source.memory own (placed_as request) iova))
  stays_covered at (event.Unmap own request) (reply.Bytes count) none answers other =
      left (is_touched own request) (untouched w own request device area among may is answers.0)
  stays_covered at (event.Unmap own request) (reply.Pending errno) none answers other = record {
    phase = cond (is_touched own request area) (tried (touched_tries w.areas own request)
        (leaving (devices_of w.objects w.attachments own request.ioas) area.phase)) area.phase;
    among = in_mapped (λ (a : Area). with_phase (cond (is_touched own request a)
        (tried (touched_tries w.areas own request)
        (leaving (devices_of w.objects w.attachments own request.ioas) a.phase)) a.phase) a) w.areas area among;
    may = left_to w own request device area may is;
  }
  stays_covered at (event.HwptAlloc own request) (reply.Id id) none answers other =
      by_found (λ settings. Kept (hwpt_changes w own request.ioas id settings))
      (settings_under w.settings w.objects own request.device) same (λ settings is. same)
  stays_covered at (event.Destroy own id) reply.Done none answers other =
      left (is_of own id) (false_else (is_of own id area) (λ names. not_destroyed w area.file own area.ioas id device.0
      (destroy_passed (view w) own id none).unused space is
      (and_true (eqb area.file.0 own.0) (eqb area.ioas.0 id.0) names)))
  stays_covered at (event.Close own) reply.Done none answers other =
      left (λ (a : Area). eqb a.file.0 own.0) (not_closed w area.file own area.ioas device.0 tidy.attachments
      (close_passed (view w) own none).no_device is)
  stays_covered at (event.UserMap user va) (reply.Frame frame) none answers other = same
  stays_covered at (event.AllowIovas own over ranges) reply.Done none answers other = same
  stays_covered at (event.UserUnmap user va) reply.Done none answers other = same
  stays_covered at (event.UserWrite user va bytes) reply.Done none answers other = same
  stays_covered at (event.Bind own bound) (reply.Id id) none answers other = same
  stays_covered at (event.Unbind own id) reply.Done none answers other = same
  stays_covered at (event.Attach d pt_id) (reply.Id id) none answers other =
      by_target w d pt_id id Kept (λ nowhere. same)
      (λ object settings bound known space made. kept_paid device d area w.areas other among may)
      (λ object settings over width automatic bound known named is. kept_paid device d area w.areas other among may)
  stays_covered at (event.Detach d) reply.Done none answers other =
      by_attachment w d Kept same (λ a is. kept_paid device d area w.areas other among may)
  stays_covered at (event.Flush d) reply.Done none answers other = kept_paid device d area w.areas other among may
  stays_covered at (event.DeviceWrite d iova bytes) (reply.Passed frame) none answers other = same
  stays_covered at (event.AccessCreate own) (reply.Id id) none answers other = same
  stays_covered at (event.AccessAttach own id to) reply.Done none answers other = same
  stays_covered at (event.AccessDetach own id) reply.Done none answers other = same
  stays_covered at (event.AccessPin own id request) reply.Done none answers other = same
  stays_covered at (event.AccessUnpin own id request) reply.Done none answers other = same
  stays_covered at (event.AccessWrite own id iova bytes) reply.Done none answers other = same
  stays_covered at (event.DirtyEnable own hwpt on) reply.Done none answers other = same
  stays_covered at (event.DirtyClear own request) (reply.Dirty words) none answers other = same
  stays_covered at e answer none answers other = same
