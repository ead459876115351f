-- Every event that nothing refuses has a lawful answer.
use Rattle.std.proofs.Common.{◌≡◌, ℕ, ◌+◌, Bool, true, false, cond, ◌&&◌, not, eqb, ltb, inl, inr, subst, is_some}
use Rattle.std.proofs.Common.{is_none, Option, Some, None, List, [], ◌∷◌, map, Contains, refl, sym, ◌∙◌, ap, arith}
use Rattle.std.specs.List.{count_by, filter, list_any, range_with_len}
use Rattle.std.proofs.lemmas.Bool.{not-false}
use Rattle.std.proofs.lemmas.List.Sums.{sum_by-cons}
use Rattle.iofd_runs.specs.Fits.{RowsFit}
use Rattle.iofd_rows.specs.Pinned.{ArePinned}
use Rattle.iofd_rows.proofs.Bools.{clash, not_false}
use Rattle.iofd_rows.proofs.Each.{IsIn, in_filter}
use Rattle.iofd_rows.proofs.ListTests.{false_else}
use Rattle.iofd_rows.proofs.Unusable.{none_of}
use Rattle.iofd_laws.proofs.FreshIds.{fresh_id}
use Rattle.iofd_runs.proofs.Known.{bound_known}
use Rattle.iofd_runs.proofs.NotRefused.{alloc_passed, attach_passed, bind_passed, copy_passed, hwpt_passed, map_passed}
use Rattle.iofd_runs.proofs.NotRefused.{target_passed, user_map_passed, access_create_passed}
use Rattle.iofd_runs.proofs.StillTabled.{in_kept}
use Rattle.iofd_runs.proofs.PinnedAccess.{some_outcome}
use Rattle.iofd_steps.specs.Answers.{Answers, IsHwptFor, IsHwptOf, IsMappedAt, IsTarget, UnmapAnswers, write_reply}
use Rattle.iofd_words.specs.Dirty.{reported_words}
use Rattle.iofd_steps.specs.Answers.{waits}
use Rattle.iofd_words.specs.Areas.{touched_bytes, pending_errno, touched_tries}
use Rattle.iofd_refusals.specs.Checks.{attach_checks, choices, has_choice, lacks_choice, lacks_room_for_hwpt, least}
use Rattle.iofd_refusals.specs.Checks.{mapped_start, may_choose, refusal, taken_spans}
use Rattle.iofd_words.specs.Copies.{placed_as}
use Rattle.iofd_words.specs.Files.{device_of}
use Rattle.iofd_words.specs.FirstTrue.{first_true}
use Rattle.iofd_words.specs.Frames.{is_free}
use Rattle.iofd_words.specs.Objects.{automatic_hwpt, binding_of, is_full, kind_of}
use Rattle.iofd_words.specs.Policy.{outcomes}
use Rattle.iofd_words.specs.Rights.{is_fixed}
use Rattle.iofd_words.specs.Room.{starts_to_try}
use Rattle.iofd_words.specs.Settings.{DeviceSettings}
use Rattle.iofd_words.specs.View.{view}
use Rattle.iofd_words.specs.World.{World}
use Rattle.iofd_words.specs.declared.event.Event.{Event}
use Rattle.iofd_words.specs.declared.event.Event.TheVariants as event
use Rattle.iofd_words.specs.declared.event.MapRequest.{MapRequest}
use Rattle.iofd_words.specs.declared.event.UnmapRequest.{UnmapRequest}
use Rattle.iofd_words.specs.declared.fault.AccessKind.TheVariants.{Write}
use Rattle.iofd_words.specs.declared.numbers.DeviceNo.{DeviceNo}
use Rattle.iofd_words.specs.declared.numbers.FileNo.{FileNo}
use Rattle.iofd_words.specs.declared.numbers.Iova.{Iova}
use Rattle.iofd_words.specs.declared.numbers.ObjId.{ObjId}
use Rattle.iofd_words.specs.declared.reply.Reply.{Reply}
use Rattle.iofd_words.specs.declared.reply.Reply.TheVariants as reply
use Rattle.iofd_words.specs.declared.rows.Object.{Object}
use Rattle.iofd_words.specs.declared.rows.ObjectKind.{ObjectKind}
use Rattle.iofd_words.specs.declared.rows.ObjectKind.TheVariants as kind

-- something that passes is there, where so many pass
counted : {X : Type 0} (p : X → Bool) (xs : List X) → eqb (count_by p xs) 0 ≡ false → (x : X) × (p x ≡ true)
counted p [] some = cc
counted {X = X} p (x ∷ xs) some = by_test (p x) refl (ap (λ n. eqb n 0) (sym (sum_by-cons (λ y. cond (p y) 1 0) x xs))
    ∙ some) (λ later. counted p xs later)
  where
    by_test : (b : Bool) → p x ≡ b → eqb (cond b 1 0 + count_by p xs) 0 ≡ false
        → (eqb (count_by p xs) 0 ≡ false → (x : X) × (p x ≡ true)) → (x : X) × (p x ≡ true)
    by_test true is some later = (x, is)
    by_test false is some later =
        let same : 0 + count_by p xs ≡ count_by p xs = omega arith in later (ap (λ n. eqb n 0) (sym same) ∙ some)

-- the least of some numbers is one of them
least_in : (n : ℕ) (numbers : List ℕ) → (m : ℕ) × (least (n ∷ numbers) ≡ Some m) × IsIn (n ∷ numbers) m
least_in n [] = (n, refl, inl refl)
least_in n (x ∷ numbers) = let (m, is, within) = least_in x numbers in by_order m is within (ltb m n) refl
  where
    of_rest : (m : ℕ) → least (x ∷ numbers) ≡ Some m → (b : Bool) → ltb m n ≡ b
        → least (n ∷ x ∷ numbers) ≡ Some (cond b m n)
    of_rest m is b less = ap (λ (o : Option ℕ). elim o [
      | Some other ↦ Some (cond (ltb other n) other n)
      | None ↦ Some n
    ]) is ∙ ap (λ b. Some (cond b m n)) less

    by_order : (m : ℕ) → least (x ∷ numbers) ≡ Some m → IsIn (x ∷ numbers) m → (b : Bool) → ltb m n ≡ b
        → (k : ℕ) × (least (n ∷ x ∷ numbers) ≡ Some k) × IsIn (n ∷ x ∷ numbers) k
    by_order m is within true less = (m, of_rest m is true less, inr within)
    by_order m is within false less = (n, of_rest m is false less, inl refl)

-- the least that passes, where some do
least_one : (p : ℕ → Bool) (numbers : List ℕ) → list_any p numbers ≡ true
    → (n : ℕ) × (least (filter p numbers) ≡ Some n) × (p n ≡ true)
least_one p numbers some = by_list (filter p numbers) refl
  where
    by_list : (passing : List ℕ) → filter p numbers ≡ passing
        → (n : ℕ) × (least (filter p numbers) ≡ Some n) × (p n ≡ true)
    by_list [] is = absurd (clash _ (any_none is) some)
      where
        any_none : filter p numbers ≡ [] → list_any p numbers ≡ false
        any_none none = none_of p numbers (λ n within. false_else (p n)
            (λ passes. subst (λ list. IsIn list n) none (in_kept p numbers n within passes)))
    by_list (x ∷ passing) is =
        let (n, least_is, within) = least_in x passing in
        (n, ap least is ∙ least_is, (in_filter p numbers n (subst (λ list. IsIn list n) (sym is) within)).1)

first_of_map : {X Y : Type 0} (f : X → Y) (xs : List X) → (xs ≡ [] → ⊥) → (y : Y) × Contains (map f xs) y
first_of_map f [] some = absurd (some refl)
first_of_map f (x ∷ xs) some = (f x, (0, omega arith, refl))

-- a device that isn't bound is refused
unbound : (w : World) (device : DeviceNo) (pt_id : ObjId) → first_true (attach_checks (view w) device pt_id) ≡ None
    → binding_of w.objects device ≡ None → ⊥
unfolding attach_checks
unbound w device pt_id none is = let refused = rw (is, attach_checks) at none in cc

module _ (at : ℕ) (w : World) (pins : ArePinned at w) (fits : RowsFit w) where
  -- an UNMAP waits, or it answers how many bytes go
  unmap_answer : (file : FileNo) (request : UnmapRequest) → (answer : Reply) × UnmapAnswers w file request answer
  unmap_answer file request =
      by_test (waits w file request) refl
    where
      by_test : (b : Bool) → waits w file request ≡ b
          → (answer : Reply) × UnmapAnswers w file request answer
      by_test true waits = (reply.Pending (pending_errno (touched_tries w.areas file request)), (waits, refl))
      by_test false waits = (reply.Bytes (touched_bytes w.areas file request), (not_false _ waits, refl))

  -- the fixed address, or the least that may be chosen
  pub map_answer : (file : FileNo) (request : MapRequest) → lacks_choice (view w) file request ≡ false
      → (iova : Iova) × IsMappedAt w file request (is_fixed request.flags) iova
      × (mapped_start (view w) file request ≡ Some iova.0)
  map_answer file request chosen = by_flag (is_fixed request.flags) chosen
    where
      by_flag : (fixed : Bool) → (not fixed && not (has_choice (view w) file request)) ≡ false
          → (iova : Iova) × IsMappedAt w file request fixed iova
          × (cond fixed (Some request.iova.0) (least
          (filter (may_choose (view w) file request)
          (starts_to_try (choices (view w) file request) (taken_spans (view w) file request)))) ≡ Some
          iova.0)
      by_flag true chosen = (request.iova, refl, refl)
      by_flag false chosen =
          let (start, is, may) = least_one (may_choose (view w) file request)
          (starts_to_try (choices (view w) file request) (taken_spans (view w) file request))
          (not-false (has_choice (view w) file request) chosen) in
          (record { 0 = start }, may, is)

  -- a page table over the address space: the automatic one that is there, or a new one
  table_id : (file : FileNo) (o : Option Object) → (is_none o ≡ true → is_full w.objects file ≡ false)
      → (id : ObjId) × IsHwptFor w file id o
  table_id file (Some automatic) roomy = (automatic.id, refl)
  table_id file None roomy = fresh_id w.objects file (roomy refl)

  attach_answer : (device : DeviceNo) (pt_id : ObjId) → first_true (attach_checks (view w) device pt_id) ≡ None
      → (id : ObjId) × IsHwptOf w pt_id id (binding_of w.objects device) (device_of w.settings device)
  attach_answer device pt_id none = by_binding (binding_of w.objects device) refl
    where
      other : (a b : Bool) → a ≡ true → (a && b) ≡ false → b ≡ false
      other true b is none = none
      other false b is none = cc

      roomy : (bound : Object) (d : DeviceSettings) → lacks_room_for_hwpt (view w) bound.file pt_id (Some d) ≡ false
          → is_none (automatic_hwpt w.objects bound.file pt_id d.width) ≡ true → is_full w.objects bound.file ≡ false
      roomy bound d lacks new =
          other (is_none (automatic_hwpt w.objects bound.file pt_id d.width)) (is_full w.objects bound.file) new lacks

      by_kind : (bound : Object) (d : DeviceSettings) (k : Option ObjectKind) → binding_of w.objects device ≡ Some bound
          → device_of w.settings device ≡ Some d → kind_of w.objects bound.file pt_id ≡ k
          → (id : ObjId) × IsTarget w bound.file pt_id id d.width k
      by_kind bound d (Some kind.Ioas) is known space =
          let passed = attach_passed (view w) device pt_id bound is space none in
          table_id bound.file (automatic_hwpt w.objects bound.file pt_id d.width)
          (roomy bound d (rw known at passed.roomy))
      by_kind bound d (Some (kind.Hwpt ioas width automatic)) is known table = (pt_id, refl)
      by_kind bound d (Some (kind.Device other)) is known named =
          let rest = (target_passed (view w) device pt_id bound (Some (kind.Device other)) is named none).1 in cc
      by_kind bound d (Some (kind.Access attached)) is known named =
          let rest = (target_passed (view w) device pt_id bound (Some (kind.Access attached)) is named none).1 in cc
      by_kind bound d None is known named =
          let rest = (target_passed (view w) device pt_id bound None is named none).1 in cc

      by_device : (bound : Object) (o : Option DeviceSettings) → binding_of w.objects device ≡ Some bound
          → device_of w.settings device ≡ o → is_some o ≡ true → (id : ObjId) × IsHwptOf w pt_id id (Some bound) o
      by_device bound None is known some = cc
      by_device bound (Some d) is known some = by_kind bound d (kind_of w.objects bound.file pt_id) is known refl

      by_binding : (o : Option Object) → binding_of w.objects device ≡ o
          → (id : ObjId) × IsHwptOf w pt_id id o (device_of w.settings device)
      by_binding None is = absurd (unbound w device pt_id none is)
      by_binding (Some bound) is = by_device bound (device_of w.settings device) is refl
          (bound_known w.settings w.closed w.objects device bound fits.known is).1

  pub some_answer : {A : Type 0} → (e : Event A) → refusal w e ≡ None → (answer : Reply) × Answers w e answer
  unfolding Answers
  some_answer (event.IoasAlloc file) none =
      let (id, fresh) = fresh_id w.objects file (alloc_passed (view w) file none).roomy in
      (reply.Id id, fresh)
  some_answer (event.Map file request) none =
      let (iova, at, is) = map_answer file request (map_passed (view w) file request none).chosen in
      (reply.Iova iova, at)
  some_answer (event.Copy file request) none =
      let (iova, at, is) = map_answer file (placed_as request) (copy_passed (view w) file request none).chosen in
      (reply.Iova iova, at)
  some_answer (event.Unmap file request) none = unmap_answer file request
  some_answer (event.HwptAlloc file request) none =
      let (id, fresh) = fresh_id w.objects file (hwpt_passed (view w) file request none).roomy in
      (reply.Id id, fresh)
  some_answer (event.Destroy file id) none = (reply.Done, tt)
  some_answer (event.Close file) none = (reply.Done, tt)
  some_answer (event.UserMap user va) none =
      let (frame, free) = counted (is_free w.settings.pool w.user_pages w.pins w.table_frames)
      (range_with_len 0 w.settings.pool) (user_map_passed (view w) user va none).roomy in
      (reply.Frame (record { 0 = frame }), free)
  some_answer (event.AllowIovas file ioas ranges) none = (reply.Done, tt)
  some_answer (event.UserUnmap user va) none = (reply.Done, tt)
  some_answer (event.UserWrite user va bytes) none = (reply.Done, tt)
  some_answer (event.Bind file device) none =
      let (id, fresh) = fresh_id w.objects file (bind_passed (view w) file device none).roomy in
      (reply.Id id, fresh)
  some_answer (event.Unbind file id) none = (reply.Done, tt)
  some_answer (event.Attach device pt_id) none =
      let (id, target) = attach_answer device pt_id none in
      (reply.Id id, target)
  some_answer (event.Detach device) none = (reply.Done, tt)
  some_answer (event.Flush device) none = (reply.Done, tt)
  some_answer (event.DeviceWrite device iova bytes) none =
      first_of_map (write_reply w device iova.0) (outcomes w device iova.0 Write)
      (some_outcome at w device iova.0 Write pins fits)
  some_answer (event.AccessCreate file) none =
      let (id, fresh) = fresh_id w.objects file (access_create_passed (view w) file none).roomy in
      (reply.Id id, fresh)
  some_answer (event.AccessAttach file id ioas) none = (reply.Done, tt)
  some_answer (event.AccessDetach file id) none = (reply.Done, tt)
  some_answer (event.AccessPin file id request) none = (reply.Done, tt)
  some_answer (event.AccessUnpin file id request) none = (reply.Done, tt)
  some_answer (event.AccessWrite file id iova bytes) none = (reply.Done, tt)
  some_answer (event.DirtyEnable file hwpt on) none = (reply.Done, tt)
  some_answer (event.DirtyClear file request) none = (reply.Dirty (reported_words w.tracked file request), refl)
