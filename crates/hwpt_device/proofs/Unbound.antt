-- A device that is bound no more: its object goes, and by which object it is bound.
use Rattle.std.proofs.Common.{◌≡◌, ℕ, Bool, true, false, cond, ◌&&◌, ◌||◌, not, eqb, Option, Some, None, List, [], ◌∷◌}
use Rattle.std.proofs.Common.{leb, map, refl, subst, sym, ◌∙◌, ap, Vec, arith}
use Rattle.std.specs.List.{filter, find, list_all}
use Rattle.std.proofs.lemmas.Bool.{and_parts}
use Rattle.std.proofs.lemmas.Bool.Decides.{nat_tests}
use Rattle.iofd_words.specs.Areas.{areas_of}
use Rattle.iofd_refusals.specs.Checks.{is_device_object, unbind_checks}
use Rattle.iofd_words.specs.FirstTrue.{first_true}
use Rattle.iofd_words.specs.Objects.{binding_of, has_ioas, is_bound_as, is_bound_device, is_hwpt, is_ioas, is_object}
use Rattle.iofd_words.specs.Objects.{kind_of, without_device_object, without_object}
use Rattle.iofd_words.specs.View.{view}
use Rattle.iofd_words.specs.World.{World}
use Rattle.iofd_words.specs.declared.numbers.DeviceNo.{DeviceNo}
use Rattle.iofd_words.specs.declared.numbers.FileNo.{FileNo}
use Rattle.iofd_words.specs.declared.numbers.ObjId.{ObjId}
use Rattle.iofd_words.specs.declared.rows.Object.{Object}
use Rattle.iofd_words.specs.declared.rows.ObjectKind.{ObjectKind}
use Rattle.iofd_words.specs.declared.rows.ObjectKind.TheVariants as kind
use Rattle.iofd_rows.proofs.Bools.{and_true, clash}
use Rattle.iofd_rows.proofs.BoundOnce.{unbound_after}
use Rattle.iofd_rows.proofs.Each.{IsIn, of_all}
use Rattle.iofd_rows.proofs.Found.{find-filter, none_both}
use Rattle.iofd_rows.proofs.ListTests.{filter_alike_on}
use Rattle.iofd_rows.proofs.Moves.{device_is}
use Rattle.iofd_rows.proofs.Named.{file_is, id_is, kind_only}
use Rattle.iofd_rows.proofs.PageTables.{hwpt-unbound}
use Rattle.iofd_rows.specs.Ids.{AreBoundOnce, have_own_ids}
use Rattle.iofd_runs.proofs.Accessed.{HoldersStay, each_held}
use Rattle.iofd_runs.proofs.HoldersStay.{unbound_accesses}
use Rattle.iofd_runs.proofs.NotRefused.{unbind_passed}
use Rattle.user_memory_rows.proofs.FramesFollow.{pins_moved, translated_same}
use Rattle.server_state.proofs.SpacesGone.{areas-removed, areas_stay, found_without, other_goes}
use Rattle.object_table.specs.Table.{Row, Table, removed}
use Rattle.object_table.specs.declared.kind.Kind.TheVariants as of_kind
use Rattle.server_state.proofs.Bindings.{are_parts}
use Rattle.server_state.proofs.ObjectsGone.{may_go, objects-removed}
use Rattle.server_state.proofs.TablesAmong.{among_stay}
use Rattle.server_state.proofs.AccessPinsStay.{covered_still, shown_still}
use Rattle.server_state.proofs.AccessSpaces.{spaces-without}
use Rattle.server_state.proofs.Counted.{counts_of, over_spaces}
use Rattle.server_state.proofs.DevicesOn.{on_tables}
use Rattle.server_state.proofs.TableRows.{areas_of_other}
use Rattle.server_state.specs.Devices.{are_bindings, bound_number}
use Rattle.server_state.specs.Held.{areas_at, destroy_refusal, object_of, objects_in}
use Rattle.server_state.specs.Shows.{Shows}
use Rattle.server_state.specs.Step.{IsTidy}
use Rattle.server_state.specs.Users.{AccessSpaces, users_at}
use Rattle.server_state.specs.declared.held.Held.{Held}
use Rattle.server_state.specs.declared.state.State.{State}

-- ---- the objects by which devices are bound

all_left : (q keeps : Object → Bool) (bindings : List Object) → list_all q bindings ≡ true
    → list_all q (filter keeps bindings) ≡ true
all_left q keeps [] all = refl
all_left q keeps (c ∷ bindings) all =
    let both = and_parts (q c) (list_all q bindings) all in
    by_test (keeps c) both.0 (all_left q keeps bindings both.1)
  where
    by_test : (b : Bool) → q c ≡ true → list_all q (filter keeps bindings) ≡ true
        → list_all q (cond b (c ∷ filter keeps bindings) (filter keeps bindings)) ≡ true
    by_test true here rest = rw (here, rest) refl
    by_test false here rest = rest

are_left : (keeps : Object → Bool) (bindings : List Object) → are_bindings bindings ≡ true
    → are_bindings (filter keeps bindings) ≡ true
are_left keeps [] are = refl
are_left keeps (c ∷ bindings) are =
    let parts = are_parts c bindings are in
    by_test (keeps c) parts (are_left keeps bindings parts.2)
  where
    by_test : (b : Bool)
        → (is_bound_device c.kind ≡ true)
        × (list_all (λ d. leb (bound_number c.kind) (bound_number d.kind)) bindings ≡ true)
        × (are_bindings bindings ≡ true)
        → are_bindings (filter keeps bindings) ≡ true
        → are_bindings (cond b (c ∷ filter keeps bindings) (filter keeps bindings)) ≡ true
    by_test true parts rest =
        rw (parts.0, all_left (λ d. leb (bound_number c.kind) (bound_number d.kind)) keeps bindings parts.1, rest)
        refl
    by_test false parts rest = rest

-- ---- the objects

-- the file's device is the only object of its id
only_device : (objects : List Object) (file : FileNo) (id : ObjId) (device : DeviceNo) → have_own_ids objects ≡ true
    → kind_of objects file id ≡ Some (kind.Device device)
    → without_device_object file id objects ≡ without_object file id objects
only_device objects file id device own is_kind =
    filter_alike_on is_device (λ o. not (is_object file id o && is_bound_device o.kind))
    (λ o. not (is_object file id o)) objects
    (of_all is_device objects (λ o within. by_name o within (is_object file id o) refl))
    (λ o device. same (is_object file id o) (is_bound_device o.kind) device)
  where
    is_device : Object → Bool
    is_device o = not (is_object file id o) || is_bound_device o.kind

    same : (a b : Bool) → (not a || b) ≡ true → not (a && b) ≡ not a
    same true true device = refl
    same true false device = cc
    same false b device = refl

    by_name : (o : Object) → IsIn objects o → (b : Bool) → is_object file id o ≡ b
        → (not b || is_bound_device o.kind) ≡ true
    by_name o within true is =
        let names = and_true (eqb o.file.0 file.0) (eqb o.id.0 id.0) is in
        let here : kind_of objects file id ≡ Some o.kind =
        rw (← file_is o.file file names.0, ← id_is o.id id names.1) (kind_only objects o own within) in
        let bound : o.kind ≡ kind.Device device = cc in
        rw bound refl
    by_name o within false is = refl

-- no page table goes
stay_tables : (file : FileNo) (id : ObjId) (object : Object) → is_hwpt object.kind ≡ true
    → not (is_object file id object && is_bound_device object.kind) ≡ true
stay_tables file id object table = by_kind object.kind (is_object file id object) table
  where
    by_kind : (k : ObjectKind) (named : Bool) → is_hwpt k ≡ true → not (named && is_bound_device k) ≡ true
    by_kind k false table = refl
    by_kind kind.Ioas true table = refl
    by_kind (kind.Hwpt ioas width automatic) true table = refl
    by_kind (kind.Device device) true table = cc
    by_kind (kind.Access attached) true table = refl

-- ---- by which object a device is bound

abbrev without_binding : DeviceNo → List Object → List Object
without_binding device bindings = filter (λ object. not (is_bound_as device object.kind)) bindings

none_kept : {X : Type 0} (p : X → Bool) (xs : List X) → find p (filter (λ x. not (p x)) xs) ≡ None
none_kept p [] = refl
none_kept p (x ∷ xs) = by_test (p x) refl (none_kept p xs)
  where
    by_test : (b : Bool) → p x ≡ b → find p (filter (λ x. not (p x)) xs) ≡ None
        → find p (cond (not b) (x ∷ filter (λ x. not (p x)) xs) (filter (λ x. not (p x)) xs)) ≡ None
    by_test true is rest = rest
    by_test false is rest = rw is rest

-- another device stays bound
others_kept : (device d : DeviceNo) (bindings : List Object) → eqb device.0 d.0 ≡ false
    → binding_of (without_binding device bindings) d ≡ binding_of bindings d
others_kept device d bindings other =
    find-filter (λ (o : Object). is_bound_as d o.kind) (λ o. not (is_bound_as device o.kind)) bindings
    (none_both (λ (o : Object). is_bound_as d o.kind) (λ o. not (is_bound_as device o.kind)) bindings
    (λ o. apart o.kind))
  where
    apart : (k : ObjectKind) → is_bound_as d k ≡ true → not (is_bound_as device k) ≡ true
    apart kind.Ioas bound = cc
    apart (kind.Hwpt ioas width automatic) bound = cc
    apart (kind.Device own) bound = grind (arith, nat_tests)
    apart (kind.Access attached) bound = cc

-- and the device of the object that goes isn't
unbound : (objects bindings : List Object) (file : FileNo) (id : ObjId) (device : DeviceNo)
    → have_own_ids objects ≡ true → AreBoundOnce objects → kind_of objects file id ≡ Some (kind.Device device)
    → ((d : DeviceNo) → binding_of objects d ≡ binding_of bindings d)
    → (d : DeviceNo)
    → binding_of (without_device_object file id objects) d ≡ binding_of (without_binding device bindings) d
unbound objects bindings file id device own once is_kind same d = by_device (eqb device.0 d.0) refl
  where
    by_device : (b : Bool) → eqb device.0 d.0 ≡ b
        → binding_of (without_device_object file id objects) d ≡ binding_of (without_binding device bindings) d
    by_device true is =
        rw (← device_is device d is)
        (unbound_after objects file id device is_kind once
        ∙ sym (none_kept (λ (o : Object). is_bound_as device o.kind) bindings))
    by_device false is =
        ap (λ (l : List Object). binding_of l d) (only_device objects file id device own is_kind)
        ∙ found_without (λ (o : Object). is_bound_as d o.kind) objects file id (kind.Device device) own is_kind
        (λ object of_file kind_is. rw kind_is is)
        ∙ same d
        ∙ sym (others_kept device d bindings is)

module _ {A : Type 0} where
  -- the object's kind, in the world that is shown
  in_world : (w : World) (s : State A) (file : FileNo) (id : ObjId) (o : Option ObjectKind) → Shows w s
      → kind_of (objects_in s.objects) file id ≡ o → kind_of w.objects file id ≡ o
  in_world w s file id o shows is_kind = ap (λ (l : List Object). kind_of l file id) shows.objects.rows ∙ is_kind

  -- the object goes, and the device's binding
  pub shows_unbound : (at : ℕ) (w : World) (s : State A) (file : FileNo) (id : ObjId) (device : DeviceNo)
      (table : Table (Held A)) (bindings : Vec Object A) → IsTidy at w → Shows w s
      → kind_of (objects_in s.objects) file id ≡ Some (kind.Device device)
      → (destroy_refusal s.objects file of_kind.Device id ≡ None → table.rows ≡ removed file id s.objects.rows)
      → table.files ≡ s.objects.files → bindings.items ≡ without_binding device s.bindings.items
      → Shows (record w { objects = without_device_object file id w.objects })
      (record s { objects = table; bindings = bindings })
  shows_unbound at w s file id device table bindings tidy shows is_kind goes files left =
      let of_world = in_world w s file id (Some (kind.Device device)) shows is_kind in
      let left_objects = without_device_object file id w.objects in
      let stay : HoldersStay w.objects left_objects w.access_pins = (unbound_accesses w file id).holders in
      let no_space = ap (λ (o : Option ObjectKind). elim o [ Some k ↦ is_ioas k | None ↦ false ]) is_kind in
      let no_space_w : has_ioas w.objects file id ≡ false =
      ap (λ (o : Option ObjectKind). elim o [ Some k ↦ is_ioas k | None ↦ false ]) of_world in
      let none_over = over_spaces w.objects file id tidy.debts.spaces no_space_w in
      let none_on = on_tables w.objects w.attachments file id tidy.debts.tables
      (ap (λ (o : Option ObjectKind). elim o [ Some k ↦ is_hwpt k | None ↦ false ]) of_world) in
      let counted = shows.objects.counted file id in
      let none_to = shows.objects.accesses file id no_space_w in
      let rows = goes (may_go s.objects file id (kind.Device device) is_kind
      (omega (arith, counted, none_over, none_to, none_on))) in
      let empty = shows.objects.spaces file id ∙ areas_of_other s.objects.rows file id no_space in
      record {
        settings = shows.settings;
        objects = record {
          rows =
              only_device w.objects file id device tidy.ids of_world
              ∙ ap (without_object file id) shows.objects.rows
              ∙ sym (objects-removed s.objects.rows file id)
              ∙ ap (map object_of) (sym rows);
          spaces =
              λ f i. ap (λ l. areas_of l f i) (sym (areas_stay w.areas file id empty))
              ∙ areas-removed w.areas s.objects.rows file id shows.objects.spaces f i
              ∙ ap (λ l. areas_at l f i) (sym rows);
          files = λ number. rw files (shows.objects.files number);
          counted = λ f i. ap (λ (l : List (Row (Held A))). users_at l f i) rows
              ∙ other_goes w.objects w.attachments s.objects.rows shows.objects.counted file id (kind.Device device)
              tidy.ids of_world refl refl none_over none_to none_on f i
              ∙ ap (λ (l : List Object). counts_of l w.attachments f i)
              (sym (only_device w.objects file id device tidy.ids of_world));
          accesses = subst AccessSpaces (sym (only_device w.objects file id device tidy.ids of_world))
              (spaces-without w.objects file id (kind.Device device) tidy.ids of_world none_to shows.objects.accesses);
        };
        devices = record {
          bindings =
              λ d. unbound w.objects s.bindings.items file id device
              tidy.ids tidy.once of_world shows.devices.bindings d
              ∙ ap (λ (l : List Object). binding_of l d) (sym left);
          rising = ap are_bindings left
              ∙ are_left (λ (o : Object). not (is_bound_as device o.kind)) s.bindings.items shows.devices.rising;
          attached = shows.devices.attached;
        };
        limits = shows.limits;
        dirty = shows.dirty;
        allowed = shows.allowed;
        users = shows.users;
        pins =
            pins_moved w.objects left_objects w.areas w.areas w.memory w.pins w.access_pins s.memory shows.pins
            (λ number. refl) (translated_same w.objects left_objects w.areas (hwpt-unbound w.objects file id))
            (covered_still w left_objects tidy.pins stay);
        access_pins =
            shown_still w.objects left_objects w.areas w.access_pins s.access_pins stay
            (each_held w.objects w.areas w.access_pins tidy.pins.held) shows.access_pins;
        frames = shows.frames;
        tables = record {
          tables =
              shows.tables.tables
              ∙ sym (among_stay (λ o. not (is_object file id o && is_bound_device o.kind))
              w.objects (stay_tables file id));
          widths = shows.tables.widths;
          stand = shows.tables.stand;
        };
      }

  -- what is no device was refused
  pub never_other : {X : Type 0} (w : World) (s : State A) (file : FileNo) (id : ObjId) (o : Option ObjectKind)
      → Shows w s → first_true (unbind_checks (view w) file id) ≡ None
      → kind_of (objects_in s.objects) file id ≡ o → is_device_object o ≡ false → X
  never_other w s file id o shows none is_kind other =
      let of_world = in_world w s file id o shows is_kind in
      let passed = unbind_passed (view w) file id none in
      absurd (clash true (sym passed.device ∙ ap is_device_object of_world ∙ other) refl)
