-- Which rows of tables are of no page table after an event: those that go with it.
use Rattle.std.proofs.Common.{◌≡◌, ℕ, Bool, true, false, ◌&&◌, not, eqb, Option, Some, None, List, refl, sym, ap, ◌∙◌}
use Rattle.std.proofs.Common.{cond}
use Rattle.std.specs.List.{filter, find}
use Rattle.iofd_rows.proofs.Bools.{and_true, both_true, clash, not_true}
use Rattle.iofd_rows.proofs.Each.{IsIn, in_filter, in_found, of_all, of_each}
use Rattle.iofd_rows.proofs.ListTests.{filter_all}
use Rattle.iofd_rows.proofs.Named.{file_is, id_is, kind_kept, kind_only}
use Rattle.iofd_rows.specs.Ids.{have_own_ids}
use Rattle.iofd_runs.proofs.MissingTables.{is_owned}
use Rattle.iofd_runs.proofs.StillTabled.{owned_after}
use Rattle.iofd_steps.specs.After.{changed, detach_changes, detached, goes_with, settle, without_areas}
use Rattle.iofd_steps.specs.Answers.{Answers}
use Rattle.iofd_words.specs.Attachments.{attachment_of, has_device_on, without_attachment}
use Rattle.iofd_words.specs.Objects.{is_automatic, is_hwpt, is_object, kind_of}
use Rattle.iofd_words.specs.TablePlaces.{is_table_of}
use Rattle.iofd_words.specs.Tables.{is_orphan}
use Rattle.iofd_words.specs.World.{World}
use Rattle.iofd_words.specs.declared.event.Event.{Event}
use Rattle.iofd_words.specs.declared.event.Event.TheVariants as event
use Rattle.iofd_words.specs.declared.numbers.DeviceNo.{DeviceNo}
use Rattle.iofd_words.specs.declared.numbers.FileNo.{FileNo}
use Rattle.iofd_words.specs.declared.numbers.ObjId.{ObjId}
use Rattle.iofd_words.specs.declared.reply.Reply.{Reply}
use Rattle.iofd_words.specs.declared.reply.Reply.TheVariants as reply
use Rattle.iofd_words.specs.declared.rows.Attachment.{Attachment}
use Rattle.iofd_words.specs.declared.rows.Object.{Object}
use Rattle.iofd_words.specs.declared.rows.ObjectKind.{ObjectKind}
use Rattle.iofd_words.specs.declared.rows.TableFrame.{TableFrame}
use Rattle.journal_audit_events.specs.Gone.{gone_with, gone_with_attachment, is_automatic_kind, is_gone}
use Rattle.journal_audit_events.specs.Served.{is_served}
use Rattle.journal_audit_events.specs.declared.gone.Gone.TheVariants as gone
use Rattle.journal_audit_world.specs.Kept.{IsKept}

-- ---- a row where objects go

-- its page table goes where each object of its name does, and stays where each does
row_left : (objects : List Object) (stays : Object → Bool) (t : TableFrame) (g : Bool) → is_owned objects t ≡ true
    → (g ≡ true → (o : Object) → IsIn objects o → is_object t.file t.hwpt o ≡ true → stays o ≡ false)
    → (g ≡ false → (o : Object) → o.file ≡ t.file → o.id ≡ t.hwpt → stays o ≡ true)
    → is_orphan (filter stays objects) t ≡ g
row_left objects stays t true owned goes keeps = by_found (find (is_object t.file t.hwpt) (filter stays objects)) refl
  where
    by_found : (o : Option Object) → find (is_object t.file t.hwpt) (filter stays objects) ≡ o
        → is_orphan (filter stays objects) t ≡ true
    by_found None found = ap (λ (o : Option Object). elim (elim o as (λ _. Option ObjectKind)
        [ Some object ↦ Some object.kind | None ↦ None ]) [ Some kind ↦ not (is_hwpt kind) | None ↦ true ]) found
    by_found (Some object) found =
        let here = in_found (is_object t.file t.hwpt) (filter stays objects) object found in
        let both = in_filter stays objects object here.0 in
        absurd (clash _ (goes refl object both.0 here.1) both.1)
row_left objects stays t false owned goes keeps = by_kind (kind_of objects t.file t.hwpt) refl owned
  where
    not_not : (b : Bool) → not (not b) ≡ true → not b ≡ false
    not_not true is = refl
    not_not false is = cc

    by_kind : (o : Option ObjectKind) → kind_of objects t.file t.hwpt ≡ o
        → not (elim o [ Some kind ↦ not (is_hwpt kind) | None ↦ true ]) ≡ true
        → is_orphan (filter stays objects) t ≡ false
    by_kind None is own = cc
    by_kind (Some k) is own =
        let still = kind_kept stays objects t.file t.hwpt k (λ o of_file of_id of_kind. keeps refl o of_file of_id) is
        in
        ap (λ (o : Option ObjectKind). elim o [ Some kind ↦ not (is_hwpt kind) | None ↦ true ]) still ∙ not_not _ own

-- an object of the row's name
named_so : (t : TableFrame) (file : FileNo) (id : ObjId) (o : Object) → is_table_of file id t ≡ true
    → is_object t.file t.hwpt o ≡ true → is_object file id o ≡ true
named_so t file id o of named =
    let names = and_true (eqb t.file.0 file.0) (eqb t.hwpt.0 id.0) of in
    rw (← file_is t.file file names.0, ← id_is t.hwpt id names.1) named

not_named : (t : TableFrame) (file : FileNo) (id : ObjId) (o : Object) → is_table_of file id t ≡ false
    → o.file ≡ t.file → o.id ≡ t.hwpt → is_object file id o ≡ false
not_named t file id o other of_file of_id = rw (of_file, of_id) other

-- ---- by event

destroyed_rows : (objects : List Object) (file : FileNo) (id : ObjId) (t : TableFrame) → is_owned objects t ≡ true
    → is_orphan (filter (λ o. not (is_object file id o)) objects) t ≡ is_table_of file id t
destroyed_rows objects file id t owned =
    row_left objects (λ o. not (is_object file id o)) t (is_table_of file id t) owned
    (λ of o within named. ap not (named_so t file id o of named))
    (λ other o of_file of_id. ap not (not_named t file id o other of_file of_id))

closed_rows : (objects : List Object) (file : FileNo) (t : TableFrame) → is_owned objects t ≡ true
    → is_orphan (filter (λ (o : Object). not (eqb o.file.0 file.0)) objects) t ≡ eqb t.file.0 file.0
closed_rows objects file t owned =
    row_left objects (λ o. not (eqb o.file.0 file.0)) t (eqb t.file.0 file.0) owned
    (λ of o within named. ap not (ap (λ (f : FileNo). eqb f.0 file.0)
    (file_is o.file t.file (and_true (eqb o.file.0 t.file.0) (eqb o.id.0 t.hwpt.0) named).0) ∙ of))
    (λ other o of_file of_id. ap not (ap (λ (f : FileNo). eqb f.0 file.0) of_file ∙ other))

-- a page table that goes with a device's attachment
module _ (objects : List Object) (own : have_own_ids objects ≡ true) (others : List Attachment) (a : Attachment) where
  abbrev stays : Object → Bool
  stays o = not (goes_with others a o)

  kind_here : (o : Object) → IsIn objects o → is_object a.file a.hwpt o ≡ true
      → is_automatic o.kind ≡ is_automatic_kind (kind_of objects a.file a.hwpt)
  kind_here o within named =
      let names = and_true (eqb o.file.0 a.file.0) (eqb o.id.0 a.hwpt.0) named in
      let here : kind_of objects a.file a.hwpt ≡ Some o.kind =
      rw (← file_is o.file a.file names.0, ← id_is o.id a.hwpt names.1) (kind_only objects o own within) in
      sym (ap is_automatic_kind here)

  last_rows : (t : TableFrame) → is_owned objects t ≡ true
      → (is_automatic_kind (kind_of objects a.file a.hwpt) && not (has_device_on others a.file a.hwpt)) ≡ true
      → is_orphan (filter stays objects) t ≡ is_table_of a.file a.hwpt t
  last_rows t owned last =
      let parts = and_true (is_automatic_kind (kind_of objects a.file a.hwpt))
      (not (has_device_on others a.file a.hwpt)) last in
      row_left objects stays t (is_table_of a.file a.hwpt t) owned
      (λ of o within named.
      let here = named_so t a.file a.hwpt o of named in
      ap not (both_true _ _ (both_true _ _ here (kind_here o within here ∙ parts.0)) parts.1))
      (λ other o of_file of_id. ap (λ b. not (b && is_automatic o.kind && not (has_device_on others a.file a.hwpt)))
      (not_named t a.file a.hwpt o other of_file of_id))

  none_rows : (t : TableFrame) → is_owned objects t ≡ true
      → (is_automatic_kind (kind_of objects a.file a.hwpt) && not (has_device_on others a.file a.hwpt)) ≡ false
      → is_orphan (filter stays objects) t ≡ false
  none_rows t owned last =
      ap (λ (os : List Object). is_orphan os t) (all_stay objects (λ o within. stay o within (is_object a.file a.hwpt
      o) refl))
      ∙ not_true _ owned
    where
      stay : (o : Object) → IsIn objects o → (b : Bool) → is_object a.file a.hwpt o ≡ b → stays o ≡ true
      stay o within false named =
          ap (λ b. not (b && is_automatic o.kind && not (has_device_on others a.file a.hwpt))) named
      stay o within true named =
          ap (λ b. not (b && is_automatic o.kind && not (has_device_on others a.file a.hwpt))) named
          ∙ ap (λ b. not (b && not (has_device_on others a.file a.hwpt))) (kind_here o within named)
          ∙ ap not last

      all_stay : (rows : List Object) → ((o : Object) → IsIn rows o → stays o ≡ true) → filter stays rows ≡ rows
      all_stay rows each = filter_all stays rows (of_all stays rows each)

-- ---- after an event

detached_rows : (at : ℕ) (w : World) (device : DeviceNo) (found : Option Attachment) → IsKept at w
    → (t : TableFrame) → IsIn w.table_frames t
    → is_orphan (detach_changes w device found).objects t ≡ is_gone (gone_with_attachment w device found) t
unfolding settle detached
detached_rows at w device None kept t within =
    not_true _ (of_each (is_owned w.objects) w.table_frames t kept.tabled.owned within)
detached_rows at w device (Some a) kept t within = by_last _ refl
  where
    owned : is_owned w.objects t ≡ true
    owned = of_each (is_owned w.objects) w.table_frames t kept.tabled.owned within

    by_last : (b : Bool) → (is_automatic_kind (kind_of w.objects a.file a.hwpt)
        && not (has_device_on (without_attachment device w.attachments) a.file a.hwpt)) ≡ b
        → is_orphan (filter (λ o. not (goes_with (without_attachment device w.attachments) a o)) w.objects) t
        ≡ is_gone (cond b (gone.PageTable a.file a.hwpt) gone.Nothing) t
    by_last true last = last_rows w.objects kept.own_ids (without_attachment device w.attachments) a t owned last
    by_last false last = none_rows w.objects kept.own_ids (without_attachment device w.attachments) a t owned last

pub rows_after : {A : Type 0} (at : ℕ) (w : World) (e : Event A) (answer : Reply) → is_served e ≡ true → IsKept at w
    → Answers w e answer → (t : TableFrame) → IsIn w.table_frames t
    → is_orphan (changed at w e answer).objects t ≡ is_gone (gone_with w e) t
unfolding changed settle without_areas Answers
rows_after at w (event.Map file request) answer served kept answers t within = cc
rows_after at w (event.Copy file request) answer served kept answers t within = cc
rows_after at w (event.Unmap file request) answer served kept answers t within = cc
rows_after at w (event.HwptAlloc file request) answer served kept answers t within = cc
rows_after at w (event.Attach device pt_id) answer served kept answers t within = cc
rows_after at w (event.AccessPin file id request) answer served kept answers t within = cc
rows_after at w (event.Destroy file id) reply.Done served kept answers t within =
    destroyed_rows w.objects file id t (of_each (is_owned w.objects) w.table_frames t kept.tabled.owned within)
rows_after at w (event.Destroy file id) answer served kept answers t within = absurd answers
rows_after at w (event.Close file) reply.Done served kept answers t within =
    closed_rows w.objects file t (of_each (is_owned w.objects) w.table_frames t kept.tabled.owned within)
rows_after at w (event.Close file) answer served kept answers t within = absurd answers
rows_after at w (event.Detach device) reply.Done served kept answers t within =
    detached_rows at w device (attachment_of w.attachments device) kept t within
rows_after at w (event.Detach device) answer served kept answers t within = absurd answers
rows_after at w e answer served kept answers t within =
    not_true _ (of_each (is_owned (changed at w e answer).objects) w.table_frames t
    (owned_after at w e answer answers tt kept.tabled.owned) within)
