-- The objects by which devices are bound, after objects came or went.
use Rattle.std.proofs.Common.{◌≡◌, ℕ, Bool, true, false, eqb, is_some, Option, Some, None, List}
use Rattle.std.proofs.Common.{subst, refl, sym, ◌∙◌, ap}
use Rattle.std.specs.List.{find, list_any}
use Rattle.std.proofs.lemmas.Bool.{eqb-true}
use Rattle.iofd_words.specs.Objects.{binding_of, comes_before, is_bound_as, is_fresh, with_object}
use Rattle.iofd_words.specs.declared.numbers.DeviceNo.{DeviceNo}
use Rattle.iofd_words.specs.declared.numbers.FileNo.{FileNo}
use Rattle.iofd_words.specs.declared.numbers.ObjId.{ObjId}
use Rattle.iofd_words.specs.declared.rows.Object.{Object}
use Rattle.iofd_words.specs.declared.rows.ObjectKind.TheVariants as kind
use Rattle.iofd_rows.proofs.Found.{find-with_object}
use Rattle.iofd_rows.proofs.Inserted.{find-inserted, found-inserted}
use Rattle.iofd_runs.proofs.Accessed.{each_held}
use Rattle.iofd_runs.proofs.HoldersStay.{more_accesses}
use Rattle.iofd_runs.proofs.OwnIds.{any_found}
use Rattle.std.proofs.Common.{Vec}
use Rattle.iofd_words.specs.World.{World}
use Rattle.server_state.proofs.Bindings.{are_with}
use Rattle.server_state.specs.Devices.{are_bindings, binds_lower, with_binding}
use Rattle.server_state.specs.Shows.{Shows}
use Rattle.server_state.specs.Step.{IsTidy}
use Rattle.server_state.specs.declared.held.Held.{Held}
use Rattle.server_state.specs.declared.held.Held.TheVariants as held
use Rattle.server_state.specs.declared.state.State.{State}
use Rattle.object_table.specs.Table.{Table, inserted, is_at}
use Rattle.server_state.proofs.ObjectsMoved.{shows_inserted}

same_device : (a b : DeviceNo) → eqb a.0 b.0 ≡ true → a ≡ b
same_device a b same = let numbers = eqb-true a.0 b.0 same in ap (λ n. let d : DeviceNo = record { 0 = n } in d) numbers

none_any : (p : Object → Bool) (xs : List Object) → is_some (find p xs) ≡ false
    → (find p xs ≡ None) × (list_any p xs ≡ false)
none_any p xs none = by_found (find p xs) refl none
  where
    by_found : (o : Option Object) → find p xs ≡ o → is_some o ≡ false → (find p xs ≡ None) × (list_any p xs ≡ false)
    by_found None is none = (is, any_found p xs ∙ ap (λ (o : Option Object). is_some o) is)
    by_found (Some x) is none = cc

-- a device that wasn't bound is bound by the object that came
pub bound_by : (objects bindings : List Object) (file : FileNo) (id : ObjId) (device : DeviceNo)
    → ((d : DeviceNo) → binding_of objects d ≡ find (λ object. is_bound_as d object.kind) bindings)
    → is_some (binding_of objects device) ≡ false
    → (d : DeviceNo) → binding_of (with_object (record { file = file; id = id; kind = kind.Device device }) objects)
    d ≡ find (λ object. is_bound_as d object.kind)
    (with_binding (record { file = file; id = id; kind = kind.Device device }) bindings)
bound_by objects bindings file id device same free d =
    let object : Object = record { file = file; id = id; kind = kind.Device device } in
    by_device (eqb device.0 d.0) refl
  where
    by_device : (b : Bool) → eqb device.0 d.0 ≡ b
        → binding_of (with_object (record { file = file; id = id; kind = kind.Device device }) objects) d ≡ find
        (λ object. is_bound_as d object.kind)
        (with_binding (record { file = file; id = id; kind = kind.Device device }) bindings)
    by_device true is =
        let object : Object = record { file = file; id = id; kind = kind.Device device } in
        let free_d = subst (λ (e : DeviceNo). is_some (binding_of objects e) ≡ false) (same_device device d is) free in
        let none = none_any (λ (o : Object). is_bound_as d o.kind) objects free_d in
        let unbound : list_any (λ (o : Object). is_bound_as d o.kind) bindings ≡ false =
        any_found (λ (o : Object). is_bound_as d o.kind) bindings
        ∙ ap (λ (o : Option Object). is_some o) (sym (same d) ∙ none.0) in
        found-inserted comes_before (λ (o : Object). is_bound_as d o.kind) object objects is none.1
        ∙ sym (found-inserted binds_lower (λ (o : Object). is_bound_as d o.kind) object bindings is unbound)
    by_device false is =
        let object : Object = record { file = file; id = id; kind = kind.Device device } in
        find-with_object (λ (o : Object). is_bound_as d o.kind) object objects is ∙ same d
        ∙ sym (find-inserted binds_lower (λ (o : Object). is_bound_as d o.kind) object bindings is)

module _ {A : Type 0} where
  -- by which a device is bound that wasn't
  pub shows_bound : (at : ℕ) (w : World) (s : State A) (file : FileNo) (id : ObjId) (device : DeviceNo)
      (table : Table (Held A)) (bindings : Vec Object A) → IsTidy at w → Shows w s
      → is_some (binding_of w.objects device) ≡ false → is_fresh w.objects file id ≡ true
      → find (is_at file id) s.objects.rows ≡ None
      → table.rows ≡ inserted (record {
        file = file;
        id = id;
        users = 0;
        value = held.Device device;
      }) s.objects.rows → table.files ≡ s.objects.files
      → bindings.items
      ≡ with_binding (record { file = file; id = id; kind = kind.Device device }) s.bindings.items
      → Shows (record w {
        objects = with_object (record { file = file; id = id; kind = kind.Device device }) w.objects;
      }) (record s { objects = table; bindings = bindings })
  shows_bound at w s file id device table bindings tidy shows free fresh unused rows files came =
      shows_inserted w s (record {
        file = file;
        id = id;
        users = 0;
        value =
            held.Device device;
      }) table bindings shows refl refl unused refl refl rows files
      (λ d. bound_by w.objects s.bindings.items file id device shows.devices.bindings free d
      ∙ ap (find (λ (object : Object). is_bound_as d object.kind)) (sym came))
      (ap are_bindings came
      ∙ are_with (record { file = file; id = id; kind = kind.Device device }) s.bindings.items refl
      shows.devices.rising)
      (more_accesses w (record { file = file; id = id; kind = kind.Device device }) fresh refl).holders
      (each_held w.objects w.areas w.access_pins tidy.pins.held)
