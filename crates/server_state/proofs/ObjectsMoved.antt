-- What objects that come or go leave of what is kept.
use Rattle.std.proofs.Common.{ℕ, ◌+◌}
use Rattle.std.proofs.Common.{◌≡◌, ◌<◌, ◌^◌, is_some, Vec, true, false, leb, Option, Some, None, List, []}
use Rattle.std.proofs.Common.{◌∷◌, map, refl, sym, ◌∙◌, ap, arith}
use Rattle.std.specs.List.{find, list_any}
use Rattle.std.specs.Option.{option_map}
use Rattle.std.proofs.lemmas.Bool.Decides.{nat_tests}
use Rattle.iofd_words.specs.Objects.{access_ioas, binding_of, comes_before, is_bound_as, is_fresh, is_hwpt, is_object}
use Rattle.iofd_words.specs.Objects.{kind_of, with_object}
use Rattle.iofd_words.specs.World.{World}
use Rattle.iofd_words.specs.declared.numbers.DeviceNo.{DeviceNo}
use Rattle.iofd_words.specs.declared.numbers.FileNo.{FileNo}
use Rattle.iofd_words.specs.declared.numbers.ObjId.{ObjId}
use Rattle.iofd_words.specs.declared.rows.Object.{Object}
use Rattle.iofd_words.specs.declared.rows.ObjectKind.{ObjectKind}
use Rattle.iofd_rows.proofs.Inserted.{filter-inserted, map-inserted}
use Rattle.iofd_rows.proofs.PageTables.{same_hwpt}
use Rattle.user_memory_rows.proofs.FramesFollow.{pins_moved, translated_same}
use Rattle.server_state.proofs.Objects.{kind_at, kind_of_rows}
use Rattle.server_state.proofs.PageTables.{over_no_other}
use Rattle.server_state.proofs.AccessSpaces.{spaces-with, unnamed}
use Rattle.server_state.proofs.Counted.{over-beside, to-beside, users-inserted}
use Rattle.server_state.specs.Devices.{are_bindings}
use Rattle.server_state.specs.Held.{areas_at, areas_in, object_of}
use Rattle.server_state.specs.Shows.{Shows}
use Rattle.server_state.specs.Tables.{page_tables_among}
use Rattle.server_state.specs.Users.{accesses_to, devices_on, tables_over, users_at}
use Rattle.server_state.specs.declared.held.Held.{Held}
use Rattle.server_state.specs.declared.state.State.{State}
use Rattle.object_table.specs.Table.{Row, Table, inserted, is_at}
use Rattle.iofd_runs.proofs.Accessed.{EachHeld, HoldersStay}
use Rattle.server_state.proofs.AccessPinsStay.{shown_still}
use Rattle.user_memory_rows.proofs.AccessCounts.{counted_objects}

-- an object that is no page table comes among page tables
pub tables_beside : (object : Object) (objects : List Object) → is_hwpt object.kind ≡ false
    → page_tables_among (with_object object objects) ≡ page_tables_among objects
tables_beside object objects = filter-inserted comes_before (λ (o : Object). is_hwpt o.kind) object objects

module _ {A : Type 0} where
  -- ---- an object comes

  pub objects-inserted : (row : Row (Held A)) (rows : List (Row (Held A)))
      → map object_of (inserted row rows) ≡ with_object (object_of row) (map object_of rows)
  objects-inserted row rows = map-inserted object_of comes_before row rows

  -- an object that has no areas, under an unused id
  pub areas-inserted : (row : Row (Held A)) (rows : List (Row (Held A))) (file : FileNo) (id : ObjId)
      → areas_in row.value ≡ [] → find (is_at row.file row.id) rows ≡ None
      → areas_at (inserted row rows) file id ≡ areas_at rows file id
  areas-inserted row [] file id none unused = grind (arith, nat_tests)
  areas-inserted row (next ∷ rows) file id none unused =
      let rest = areas-inserted row rows file id none in grind (arith, nat_tests)

  -- one that no other id is like, in its file
  pub shows_inserted : (w : World) (s : State A) (row : Row (Held A)) (table : Table (Held A)) (bindings : Vec Object A)
      → Shows w s → row.users ≡ 0 → areas_in row.value ≡ []
      → find (is_at row.file row.id) s.objects.rows ≡ None
      → is_hwpt (object_of row).kind ≡ false → access_ioas (object_of row).kind ≡ None
      → table.rows ≡ inserted row s.objects.rows → table.files ≡ s.objects.files
      → ((device : DeviceNo) → binding_of (with_object (object_of row) w.objects) device ≡ find
      (λ object. is_bound_as device object.kind) bindings.items)
      → are_bindings bindings.items ≡ true
      → HoldersStay w.objects (with_object (object_of row) w.objects) w.access_pins
      → EachHeld w.objects w.areas w.access_pins
      → Shows (record w { objects = with_object (object_of row) w.objects })
      (record s { objects = table; bindings = bindings })
  shows_inserted w s row table bindings shows no_users none unused no_table unattached rows files bound rising
      stay held =
      record {
        settings = shows.settings;
        objects = record {
          rows = ap (with_object (object_of row)) shows.objects.rows ∙ sym (objects-inserted row s.objects.rows)
              ∙ ap (map object_of) (sym rows);
          spaces = λ file id. shows.objects.spaces file id ∙ sym (areas-inserted row s.objects.rows file id none unused)
              ∙ ap (λ l. areas_at l file id) (sym rows);
          files = λ number. rw files (shows.objects.files number);
          counted = λ f i. ap (λ l. users_at l f i) rows ∙ users-inserted row s.objects.rows f i no_users unused
              ∙ shows.objects.counted f i
              ∙ sym (ap (λ (n : ℕ). n + accesses_to (with_object (object_of row) w.objects) f i
              + devices_on w.attachments f i) (over-beside (object_of row) w.objects f i no_table)
              ∙ ap (λ (n : ℕ). tables_over w.objects f i + n + devices_on w.attachments f i)
              (to-beside (object_of row) w.objects f i unattached));
          accesses = spaces-with (object_of row) w.objects
              (ap (list_any (is_object row.file row.id)) shows.objects.rows
              ∙ unnamed s.objects.rows row.file row.id unused)
              unattached shows.objects.accesses;
        };
        devices = record { bindings = bound; rising = rising; attached = shows.devices.attached };
        limits = shows.limits;
        dirty = shows.dirty;
        allowed = shows.allowed;
        users = shows.users;
        pins = pins_moved w.objects (with_object (object_of row) w.objects) w.areas w.areas w.memory w.pins
            w.access_pins s.memory shows.pins (λ number. refl)
            (translated_same w.objects (with_object (object_of row) w.objects) w.areas
            (λ file ioas. same_hwpt (object_of row) w.objects file ioas
            (over_no_other ioas (object_of row).kind no_table)))
            (λ page there. counted_objects w.objects (with_object (object_of row) w.objects) w.areas w.areas
            w.access_pins page stay held);
        access_pins = shown_still w.objects (with_object (object_of row) w.objects) w.areas w.access_pins s.access_pins
            stay held shows.access_pins;
        frames = shows.frames;
        tables = record {
          tables = shows.tables.tables ∙ sym (tables_beside (object_of row) w.objects no_table);
          widths = shows.tables.widths;
          stand = shows.tables.stand;
        };
      }

  no_kind : (o : Option (Row (Held A))) → o ≡ None
      → is_some (kind_at (option_map (λ (row : Row (Held A)). row.value) o)) ≡ false
  no_kind None is = refl
  no_kind (Some row) is = cc

  -- an unused id in range may be given out
  pub fresh_id : (rows : List (Row (Held A))) (file : FileNo) (id : ObjId) → 0 < id.0 → id.0 < 2 ^ 31
      → find (is_at file id) rows ≡ None → is_fresh (map object_of rows) file id ≡ true
  fresh_id rows file id above below unused =
      let no : is_some (kind_of (map object_of rows) file id) ≡ false =
      ap (λ (o : Option ObjectKind). is_some o) (kind_of_rows rows file id)
      ∙ no_kind (find (is_at file id) rows) unused in
      let low : leb 1 id.0 ≡ true = search (above, arith, nat_tests) in
      let high : leb id.0 2147483647 ≡ true = search (below, arith, nat_tests) in
      rw (low, high, no) refl
