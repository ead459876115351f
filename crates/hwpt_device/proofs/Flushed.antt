-- A device that has flushed: the areas of the address space to which it is attached are paid, and so all are.
use Rattle.std.proofs.Common.{◌≡◌, ℕ, Bool, true, false, ◌&&◌, eqb, Option, Some, None, List, refl, sym, ◌∙◌, ap, arith}
use Rattle.std.proofs.lemmas.Bool.Decides.{nat_tests}
use Rattle.iofd_words.specs.Areas.{all_paid, areas_of, paid, with_phase}
use Rattle.iofd_words.specs.Attachments.{attachment_of, ioas_of, ioas_of_attachment}
use Rattle.iofd_rows.specs.Debts.{DebtsAttached}
use Rattle.iofd_words.specs.World.{World}
use Rattle.iofd_words.specs.declared.numbers.DeviceNo.{DeviceNo}
use Rattle.iofd_words.specs.declared.numbers.FileNo.{FileNo}
use Rattle.iofd_words.specs.declared.numbers.ObjId.{ObjId}
use Rattle.iofd_words.specs.declared.rows.Area.{Area}
use Rattle.iofd_words.specs.declared.rows.Attachment.{Attachment}
use Rattle.iofd_words.specs.declared.rows.Object.{Object}
use Rattle.iofd_words.specs.declared.rows.ObjectKind.{ObjectKind}
use Rattle.iofd_rows.proofs.Bools.{and_true, both_true}
use Rattle.iofd_rows.proofs.Each.{in_found}
use Rattle.iofd_rows.proofs.Named.{file_is, id_is}
use Rattle.iofd_rows.proofs.Owed.{each_owed}
use Rattle.iofd_rows.proofs.Paid.{paid_areas_of, pays_none, pays_own}
use Rattle.hwpt_device.proofs.PaidLeads.{paid_leads}
use Rattle.user_memory_rows.proofs.AccessCounts.{counted_phases}
use Rattle.server_state.proofs.LeadsStay.{spaces_alike}
use Rattle.server_state.proofs.MemoryReleased.{pins_changed}
use Rattle.server_state.specs.Held.{areas_at, objects_in, space_of}
use Rattle.server_state.specs.Shows.{Shows}
use Rattle.server_state.specs.Spaces.{HasAreas, IsOrderly, is_space}
use Rattle.server_state.specs.Step.{IsTidy}
use Rattle.server_state.specs.declared.held.Held.{Held}
use Rattle.server_state.specs.declared.state.State.{State}
use Rattle.object_table.specs.Table.{Table}
use Rattle.server_state.proofs.Orderly.{orderly}

-- ---- the address space of a device

-- the device's attachment, and whose address space it is to
pub record IsAttachedTo (objects : List Object) (o : Option Attachment) (file : FileNo) (ioas : ObjId) : Type 0 where
  pub a : Attachment
  pub found : o ≡ Some a
  pub of_file : a.file ≡ file
  pub over : ioas_of_attachment objects a ≡ Some ioas

pub attached_to : (objects : List Object) (o : Option Attachment) (file : FileNo) (ioas : ObjId)
    → space_of objects o ≡ Some (file, ioas) → IsAttachedTo objects o file ioas
attached_to objects None file ioas is = cc
attached_to objects (Some a) file ioas is = by_space (ioas_of_attachment objects a) refl is
  where
    by_space : (o : Option ObjId) → ioas_of_attachment objects a ≡ o
        → elim o as (λ _. Option (FileNo × ObjId)) [ Some i ↦ Some (a.file, i) | None ↦ None ] ≡ Some (file, ioas)
        → IsAttachedTo objects (Some a) file ioas
    by_space None over is = cc
    by_space (Some i) over is =
        let pair : (a.file, i) ≡ (file, ioas) = cc in
        let same : i ≡ ioas = ap (λ (p : FileNo × ObjId). p.1) pair in
        record { a = a; found = refl; of_file = ap (λ (p : FileNo × ObjId). p.0) pair; over = over ∙ ap Some same }

-- a bound device that is to no address space isn't attached
pub unattached : (w : World) (device : DeviceNo) → DebtsAttached w
    → space_of w.objects (attachment_of w.attachments device) ≡ None → attachment_of w.attachments device ≡ None
unattached w device debts is = by_attachment (attachment_of w.attachments device) refl is
  where
    by_attachment : (o : Option Attachment) → attachment_of w.attachments device ≡ o → space_of w.objects o ≡ None
        → o ≡ None
    by_attachment None found is = refl
    by_attachment (Some a) found is =
        let table = (each_owed w debts).tables a
        (in_found (λ (b : Attachment). eqb b.device.0 device.0) w.attachments a found).0 in
        let over : ioas_of_attachment w.objects a ≡ Some table.ioas =
        ap (λ (o : Option ObjectKind). elim o [ Some k ↦ ioas_of k | None ↦ None ]) table.table in
        absurd (never (rw (over, space_of) at is))
      where
        never : {X : Type 0} {x : X} → Some x ≡ None → ⊥
        never is = cc

module _ {A : Type 0} where
  -- the areas of the device's address space are paid: so are all areas
  pub areas_paid : (w : World) (s : State A) (device : DeviceNo) (file : FileNo) (ioas : ObjId) (table : Table (Held A))
      → DebtsAttached w → Shows w s
      → space_of (objects_in s.objects) (attachment_of s.attachments.items device) ≡ Some (file, ioas)
      → HasAreas file ioas (all_paid device (areas_at s.objects.rows file ioas)) s.objects table
      → (f : FileNo) (i : ObjId) → areas_of (all_paid device w.areas) f i ≡ areas_at table.rows f i
  areas_paid w s device file ioas table debts shows space has f i =
      let space_of_w : space_of w.objects (attachment_of w.attachments device) ≡ Some (file, ioas) =
      rw (shows.objects.rows, shows.devices.attached) space in
      let to = attached_to w.objects (attachment_of w.attachments device) file ioas space_of_w in
      by_test (is_space file ioas f i) refl to
    where
      by_test : (b : Bool) → is_space file ioas f i ≡ b
          → IsAttachedTo w.objects (attachment_of w.attachments device) file ioas
          → areas_of (all_paid device w.areas) f i ≡ areas_at table.rows f i
      by_test true is to =
          let parts = and_true (eqb f.0 file.0) (eqb i.0 ioas.0) is in
          let of_file = file_is f file parts.0 in
          let of_id = id_is i ioas parts.1 in
          rw (of_file, of_id) (paid_areas_of device w.areas file ioas
          ∙ ap (all_paid device) (shows.objects.spaces file ioas) ∙ sym has.here)
      by_test false is to =
          pays_own w device to.a ioas debts to.found to.over f i
          (λ same other. differ (eqb f.0 file.0) (eqb i.0 ioas.0) is
          (eqb_is f.0 file.0 (same ∙ ap (λ (n : FileNo). n.0) to.of_file)) (eqb_is i.0 ioas.0 other))
          ∙ shows.objects.spaces f i ∙ sym (has.others f i is)
        where
          eqb_is : (a b : ℕ) → a ≡ b → eqb a b ≡ true
          eqb_is a b is = grind (arith, nat_tests)

          differ : (p q : Bool) → (p && q) ≡ false → p ≡ true → q ≡ true → ⊥
          differ p q fails a b = let both = both_true p q a b in cc

  -- the address space that is to be paid is, and nothing else is changed
  pub shows_paid : (at : ℕ) (w : World) (s : State A) (device : DeviceNo) (file : FileNo) (ioas : ObjId)
      (table : Table (Held A)) → IsTidy at w → Shows w s
      → space_of (objects_in s.objects) (attachment_of s.attachments.items device) ≡ Some (file, ioas)
      → (IsOrderly s.objects → HasAreas file ioas (all_paid device (areas_at s.objects.rows file ioas)) s.objects table)
      → Shows (record w { areas = all_paid device w.areas }) (record s { objects = table })
  shows_paid at w s device file ioas table tidy shows space pays =
      let has = pays (orderly at w s tidy shows) in
      record {
        settings = shows.settings;
        objects = record {
          rows = shows.objects.rows ∙ sym has.objects;
          spaces = areas_paid w s device file ioas table tidy.debts shows space has;
          files = λ number. rw has.files (shows.objects.files number);
          counted = λ f i. has.users f i ∙ shows.objects.counted f i;
          accesses = shows.objects.accesses;
        };
        devices = shows.devices;
        limits = shows.limits;
        dirty = shows.dirty;
        allowed = shows.allowed;
        users = shows.users;
        pins = pins_changed w.objects w.areas w.memory w.pins w.access_pins s.memory
            (λ (area : Area). with_phase (paid device area.phase) area) (λ area. refl) (λ area. refl) (λ area. refl)
            (λ page there.
            counted_phases w.objects (λ (area : Area). paid device area.phase) w.areas w.access_pins page) shows.pins;
        access_pins = shows.access_pins;
        frames = shows.frames;
        tables = record {
          tables = shows.tables.tables;
          widths = shows.tables.widths;
          stand =
              spaces_alike w (record w { areas = all_paid device w.areas }) w.objects s.page_tables.tables s.pool
              w.table_frames shows.tables.tables
              (λ f i page has. paid_leads w.pins device w.areas f i page) shows.tables.stand;
        };
      }

  -- a device that isn't attached owes nothing
  pub shows_unattached : (at : ℕ) (w : World) (s : State A) (device : DeviceNo) → IsTidy at w → Shows w s
      → space_of (objects_in s.objects) (attachment_of s.attachments.items device) ≡ None
      → Shows (record w { areas = all_paid device w.areas }) s
  shows_unattached at w s device tidy shows none =
      let alone : space_of w.objects (attachment_of w.attachments device) ≡ None =
      rw (shows.objects.rows, shows.devices.attached) none in
      let same = pays_none w device tidy.debts (unattached w device tidy.debts alone) in
      rw same shows
