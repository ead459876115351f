-- How each event moves the rows of tracked page tables, said once for each, with what becomes of the page tables.
use Rattle.std.proofs.Common.{◌≡◌, ℕ, Bool, true, false, cond, ◌&&◌, not, eqb, Option, Some, List, refl, ap}
use Rattle.std.proofs.Common.{sym, ◌∙◌, subst}
use Rattle.std.specs.List.{filter, list_any}
use Rattle.iofd_steps.specs.After.{changed, copy_changes, detached, goes_with, hwpt_changes, map_changes, settle}
use Rattle.iofd_steps.specs.After.{attached, joined, without_areas}
use Rattle.iofd_steps.specs.Answers.{Answers}
use Rattle.iofd_words.specs.Areas.{areas_of}
use Rattle.iofd_words.specs.Attachments.{attachment_of, without_attachment}
use Rattle.iofd_words.specs.Copies.{source_in}
use Rattle.iofd_words.specs.Dirty.{TrackedTable, marked_by, reported_span, with_tracking, without_marks}
use Rattle.iofd_words.specs.Files.{user_of}
use Rattle.iofd_words.specs.Objects.{is_object, settings_under}
use Rattle.iofd_words.specs.Pages.{page_of}
use Rattle.iofd_words.specs.World.{World}
use Rattle.iofd_words.specs.declared.event.DirtyRequest.{DirtyRequest}
use Rattle.iofd_words.specs.declared.event.Event.{Event}
use Rattle.iofd_words.specs.declared.event.Event.TheVariants as event
use Rattle.iofd_words.specs.declared.numbers.DeviceNo.{DeviceNo}
use Rattle.iofd_words.specs.declared.numbers.FileNo.{FileNo}
use Rattle.iofd_words.specs.declared.numbers.FrameNo.{FrameNo}
use Rattle.iofd_words.specs.declared.numbers.Iova.{Iova}
use Rattle.iofd_words.specs.declared.numbers.ObjId.{ObjId}
use Rattle.iofd_words.specs.declared.reply.Reply.{Reply}
use Rattle.iofd_words.specs.declared.reply.Reply.TheVariants as reply
use Rattle.iofd_words.specs.declared.rows.Attachment.{Attachment}
use Rattle.iofd_words.specs.declared.rows.Object.{Object}
use Rattle.iofd_words.specs.declared.rows.ObjectKind.{ObjectKind}
use Rattle.iofd_rows.proofs.Bools.{and_true, not_false}
use Rattle.iofd_rows.proofs.Each.{IsIn}
use Rattle.iofd_rows.proofs.ListTests.{filter_all}
use Rattle.iofd_rows.proofs.Named.{file_is, id_is, row_kind}
use Rattle.iofd_rows.specs.Ids.{have_own_ids}
use Rattle.iofd_laws.proofs.OwnTables.{none_all}
use Rattle.iofd_runs.proofs.Accessed.{some_in}
use Rattle.iofd_runs.proofs.Branches.{by_attachment, by_found, by_target}
use Rattle.iofd_runs.proofs.Moves.{Fewer, More, ObjectsMove, Reattached, Same, changed_moves}
use Rattle.iofd_runs.proofs.OwnIds.{unused}
use Rattle.iofd_runs.proofs.TableEvents.{HwptsStay, TakesNone, stay_reattached, stay_same, stay_with}

-- the event turns no tracking on or off, and clears nothing
abbrev pub Quiet : {A : Type 0} → Event A → Reply → Type 0
Quiet (event.DirtyEnable file hwpt on) reply.Done = ⊥
Quiet (event.DirtyClear file request) (reply.Dirty words) = ⊥
Quiet e answer = Unit {0}

-- the rows are the same, and so is each page table; some go with their page tables; or page tables stay, and one is
-- turned on or off, written or cleared
pub data TrackedMove {A : Type 0} (w : World) (e : Event A) (answer : Reply) (new : World) : Type 0 where
  SameTracked : new.tracked ≡ w.tracked → Quiet e answer → (Answers w e answer → HwptsStay w.objects new.objects)
      → TrackedMove w e answer new
  SomeGo : (gone : FileNo → ObjId → Bool) (stays : Object → Bool) → Quiet e answer
      → new.tracked ≡ filter (λ (t : TrackedTable). not (gone t.file t.hwpt)) w.tracked
      → new.objects ≡ filter stays w.objects
      → (have_own_ids w.objects ≡ true → (o : Object) → IsIn w.objects o → gone o.file o.id ≡ true
      → stays o ≡ false)
      → ((o : Object) → gone o.file o.id ≡ false → stays o ≡ true) → TrackedMove w e answer new
  IsTurned : (file : FileNo) (hwpt : ObjId) (on : Bool) → e ≡ event.DirtyEnable file hwpt on → answer ≡ reply.Done
      → new.tracked ≡ with_tracking file hwpt on w.tracked → new.objects ≡ w.objects → TrackedMove w e answer new
  IsWrittenBy : (device : DeviceNo) (iova : Iova) (bytes : List ℕ) (frame : FrameNo)
      → e ≡ event.DeviceWrite device iova bytes → answer ≡ reply.Passed frame
      → new.tracked ≡ marked_by (attachment_of w.attachments device) (page_of iova.0) w.tracked
      → new.objects ≡ w.objects → TrackedMove w e answer new
  IsCleared : (file : FileNo) (request : DirtyRequest) (words : List ℕ) → e ≡ event.DirtyClear file request
      → answer ≡ reply.Dirty words
      → new.tracked ≡ without_marks file request.hwpt (reported_span request) w.tracked → new.objects ≡ w.objects
      → TrackedMove w e answer new

-- ---- events that leave the rows

-- each page table stays where the event takes none
tables_stay : {A : Type 0} (at : ℕ) (w : World) (e : Event A) (answer : Reply) → TakesNone w e → Answers w e answer
    → HwptsStay w.objects (changed at w e answer).objects
tables_stay at w e answer takes answers = by_move (changed at w e answer) (changed_moves at w e answer).objects
  where
    by_move : (new : World) → ObjectsMove w e answer new → HwptsStay w.objects new.objects
    by_move new (Same is) = rw is (stay_same w.objects)
    by_move new (Fewer stays stay bound is) = rw is (stay takes)
    by_move new (Reattached file id attached is) = rw is (stay_reattached file id attached w.objects)
    by_move new (More object fresh admitted other is) =
        rw is (stay_with object w.objects (unused w.objects object.file object.id (fresh answers)))

steady : {A : Type 0} (at : ℕ) (w : World) (e : Event A) (answer : Reply) → TakesNone w e → Quiet e answer
    → (changed at w e answer).tracked ≡ w.tracked → TrackedMove w e answer (changed at w e answer)
steady at w e answer takes quiet same = SameTracked same quiet (tables_stay at w e answer takes)

-- ---- the end of an attachment

-- two objects of one name are of one kind
one_kind : (objects : List Object) (file : FileNo) (id : ObjId) (a b : Object) → have_own_ids objects ≡ true
    → IsIn objects a → IsIn objects b → is_object file id a ≡ true → is_object file id b ≡ true → a.kind ≡ b.kind
one_kind objects file id a b own a_in b_in a_named b_named =
    let a_names = and_true (eqb a.file.0 file.0) (eqb a.id.0 id.0) a_named in
    let b_names = and_true (eqb b.file.0 file.0) (eqb b.id.0 id.0) b_named in
    let first = row_kind objects a file id a.kind own a_in (file_is a.file file a_names.0) (id_is a.id id a_names.1)
    refl in
    let second = row_kind objects b file id b.kind own b_in (file_is b.file file b_names.0) (id_is b.id id b_names.1)
    refl in
    let same : (let o : Option ObjectKind = Some a.kind in o) ≡ Some b.kind = sym first ∙ second in
    cc

module _ (w : World) (device : DeviceNo) (a : Attachment) where
  abbrev goes : Object → Bool
  goes = goes_with (without_attachment device w.attachments) a

  abbrev gone : FileNo → ObjId → Bool
  gone file hwpt = eqb file.0 a.file.0 && eqb hwpt.0 a.hwpt.0

  detach_moves : {A : Type 0} → TrackedMove {A = A} w (event.Detach device) reply.Done (settle w (detached w device a))
  unfolding settle detached
  detach_moves {A = A} = by_test (list_any goes w.objects) refl
    where
      e : Event A
      e = event.Detach device

      new : World
      new = settle w (detached w device a)

      left_alone : (o : Object) → gone o.file o.id ≡ false → not (goes o) ≡ true
      left_alone o other = rw other refl

      by_test : (b : Bool) → list_any goes w.objects ≡ b → TrackedMove w e reply.Done new
      by_test true some =
          let (x, x_in, x_goes) = some_in goes w.objects some in
          SomeGo gone (λ o. not (goes o)) tt
          (ap (λ (b : Bool). cond b (filter (λ (t : TrackedTable). not (gone t.file t.hwpt)) w.tracked) w.tracked)
          some) refl
          (λ own o o_in is.
          let x_named = (and_true (is_object a.file a.hwpt x) _ (and_true _ _ x_goes).0).0 in
          let kinds = one_kind w.objects a.file a.hwpt x o own x_in o_in x_named is in
          let goes_too : goes o ≡ true = rw (is, ← kinds) (rw x_named at x_goes) in
          ap not goes_too)
          left_alone
      by_test false none =
          SameTracked
          (ap (λ (b : Bool). cond b (filter (λ (t : TrackedTable). not (gone t.file t.hwpt)) w.tracked) w.tracked)
          none) tt
          (λ answers. subst (HwptsStay w.objects)
          (sym (filter_all (λ o. not (goes o)) w.objects (none_all goes w.objects (not_false _ none))))
          (stay_same w.objects))

-- ---- each event

pub tracked_moves : {A : Type 0} (at : ℕ) (w : World) (e : Event A) (answer : Reply)
    → TrackedMove w e answer (changed at w e answer)
unfolding changed settle without_areas attached joined
tracked_moves at w (event.IoasAlloc file) (reply.Id id) = steady at w (event.IoasAlloc file) (reply.Id id) tt tt refl
tracked_moves at w (event.AllowIovas file ioas ranges) reply.Done =
    steady at w (event.AllowIovas file ioas ranges) reply.Done tt tt refl
tracked_moves at w (event.Map file request) (reply.Iova iova) =
    steady at w (event.Map file request) (reply.Iova iova) tt tt
    (by_found (λ user. (map_changes at w file request iova user).tracked ≡ w.tracked) (user_of w.settings file) refl
    (λ user is. refl))
tracked_moves at w (event.Copy file request) (reply.Iova iova) =
    steady at w (event.Copy file request) (reply.Iova iova) tt tt
    (by_found (λ source. (copy_changes w file request iova source).tracked ≡ w.tracked)
    (source_in (areas_of w.areas file request.src_ioas) request) refl (λ source is. refl))
tracked_moves at w (event.Unmap file request) (reply.Bytes count) =
    steady at w (event.Unmap file request) (reply.Bytes count) tt tt refl
tracked_moves at w (event.Unmap file request) (reply.Pending errno) =
    steady at w (event.Unmap file request) (reply.Pending errno) tt tt refl
tracked_moves at w (event.HwptAlloc file request) (reply.Id id) =
    steady at w (event.HwptAlloc file request) (reply.Id id) tt tt
    (by_found (λ settings. (hwpt_changes w file request.ioas id settings).tracked ≡ w.tracked)
    (settings_under w.settings w.objects file request.device) refl (λ settings is. refl))
tracked_moves at w (event.Destroy file id) reply.Done =
    SomeGo (λ f i. eqb f.0 file.0 && eqb i.0 id.0) (λ o. not (is_object file id o)) tt refl refl
    (λ own o there is. ap not is) (λ o other. ap not other)
tracked_moves at w (event.Close file) reply.Done =
    SomeGo (λ f i. eqb f.0 file.0) (λ o. not (eqb o.file.0 file.0)) tt refl refl
    (λ own o there is. ap not is) (λ o other. ap not other)
tracked_moves at w (event.UserMap user va) (reply.Frame frame) =
    steady at w (event.UserMap user va) (reply.Frame frame) tt tt refl
tracked_moves at w (event.UserUnmap user va) reply.Done =
    steady at w (event.UserUnmap user va) reply.Done tt tt refl
tracked_moves at w (event.UserWrite user va bytes) reply.Done =
    steady at w (event.UserWrite user va bytes) reply.Done tt tt refl
tracked_moves at w (event.Bind file device) (reply.Id id) =
    steady at w (event.Bind file device) (reply.Id id) tt tt refl
tracked_moves at w (event.Unbind file id) reply.Done = steady at w (event.Unbind file id) reply.Done tt tt refl
tracked_moves at w (event.Attach device pt_id) (reply.Id id) =
    steady at w (event.Attach device pt_id) (reply.Id id) tt tt
    (by_target w device pt_id id (λ new. new.tracked ≡ w.tracked) (λ nowhere. refl)
    (λ bound d is known space here. refl) (λ bound d ioas width automatic is known table here. refl))
tracked_moves {A = A} at w (event.Detach device) reply.Done =
    let e : Event A = event.Detach device in
    by_attachment w device (TrackedMove w e reply.Done)
    (SameTracked refl tt (λ answers. stay_same w.objects)) (λ a is. detach_moves w device a)
tracked_moves at w (event.Flush device) reply.Done = steady at w (event.Flush device) reply.Done tt tt refl
tracked_moves at w (event.DeviceWrite device iova bytes) (reply.Passed frame) =
    IsWrittenBy device iova bytes frame refl refl refl refl
tracked_moves at w (event.AccessCreate file) (reply.Id id) =
    steady at w (event.AccessCreate file) (reply.Id id) tt tt refl
tracked_moves at w (event.AccessAttach file id ioas) reply.Done =
    steady at w (event.AccessAttach file id ioas) reply.Done tt tt refl
tracked_moves at w (event.AccessDetach file id) reply.Done =
    steady at w (event.AccessDetach file id) reply.Done tt tt refl
tracked_moves at w (event.AccessPin file id request) reply.Done =
    steady at w (event.AccessPin file id request) reply.Done tt tt refl
tracked_moves at w (event.AccessUnpin file id request) reply.Done =
    steady at w (event.AccessUnpin file id request) reply.Done tt tt refl
tracked_moves at w (event.AccessWrite file id iova bytes) reply.Done =
    steady at w (event.AccessWrite file id iova bytes) reply.Done tt tt refl
tracked_moves at w (event.DirtyEnable file hwpt on) reply.Done = IsTurned file hwpt on refl refl refl refl
tracked_moves at w (event.DirtyClear file request) (reply.Dirty words) =
    IsCleared file request words refl refl refl refl
tracked_moves at w e answer = SameTracked refl tt (λ answers. stay_same w.objects)
