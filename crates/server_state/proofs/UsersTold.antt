-- Whether page tables stand over an address space or access objects are attached to it is told by its users, and
-- whether devices translate by a page table by those that it has.
use Rattle.std.proofs.Common.{◌≡◌, ℕ, ◌+◌, Bool, false, ◌||◌, ltb, Option, Some, None, List, refl, sym, ◌∙◌}
use Rattle.std.proofs.Common.{ap}
use Rattle.std.proofs.Common.{arith}
use Rattle.std.specs.Option.{option_map}
use Rattle.std.proofs.lemmas.Bool.Decides.{nat_tests}
use Rattle.iofd_rows.proofs.ListTests.{false_else}
use Rattle.iofd_words.specs.Attachments.{has_device_on}
use Rattle.iofd_words.specs.Objects.{has_access_to, has_hwpt, has_ioas, is_hwpt, is_ioas, kind_of}
use Rattle.iofd_words.specs.declared.numbers.FileNo.{FileNo}
use Rattle.iofd_words.specs.declared.numbers.ObjId.{ObjId}
use Rattle.iofd_words.specs.declared.rows.Attachment.{Attachment}
use Rattle.iofd_words.specs.declared.rows.Object.{Object}
use Rattle.iofd_words.specs.declared.rows.ObjectKind.{ObjectKind}
use Rattle.iofd_words.specs.declared.rows.ObjectKind.TheVariants as kind
use Rattle.object_table.specs.Table.{Row}
use Rattle.object_table.specs.declared.kind.Kind.{Kind}
use Rattle.object_table.specs.declared.kind.Kind.TheVariants as of_kind
use Rattle.server_state.proofs.AreasHeld.{space_absent}
use Rattle.server_state.proofs.Counted.{counts_of, has_over, has_to, own_kind, own_row, over_spaces, users_of_row}
use Rattle.server_state.proofs.DevicesOn.{has_devices, on_tables}
use Rattle.server_state.proofs.Orderly.{orderly}
use Rattle.server_state.specs.Held.{kind_in, objects_in, own, table_kind}
use Rattle.server_state.specs.Step.{IsKnown}
use Rattle.server_state.specs.Users.{accesses_to, devices_on, tables_over}
use Rattle.server_state.specs.declared.held.Held.{Held}
use Rattle.server_state.specs.declared.state.State.{State}

-- what an object's place in the table says of its kind
space_is_no_table : (k : ObjectKind) → table_kind k ≡ of_kind.Ioas → is_hwpt k ≡ false
space_is_no_table kind.Ioas is = refl
space_is_no_table (kind.Hwpt ioas width automatic) is = cc
space_is_no_table (kind.Device device) is = cc
space_is_no_table (kind.Access attached) is = cc

table_is_no_space : (k : ObjectKind) → table_kind k ≡ of_kind.Hwpt → is_ioas k ≡ false
table_is_no_space kind.Ioas is = cc
table_is_no_space (kind.Hwpt ioas width automatic) is = refl
table_is_no_space (kind.Device device) is = cc
table_is_no_space (kind.Access attached) is = cc

either : (a b : ℕ) → ltb 0 (a + b) ≡ (ltb 0 a || ltb 0 b)
either a b = grind (arith, nat_tests)

module _ {A : Type 0} (s : State A) (file : FileNo) (id : ObjId) (known : IsKnown s) where
  kind_shown : kind_of known.world.objects file id ≡ kind_of (objects_in s.objects) file id
  kind_shown = ap (λ (l : List Object). kind_of l file id) known.shows.objects.rows

  -- the users of an object that is found, and its kind
  users_found : (k : Kind) (n : ℕ)
      → option_map (λ (row : Row (Held A)). row.users) (own s.objects file k id) ≡ Some n
      → (n ≡ counts_of known.world.objects known.world.attachments file id)
      × (of : ObjectKind) × (kind_of known.world.objects file id ≡ Some of) × (table_kind of ≡ k)
  users_found k n is = by_row (own s.objects file k id) refl is
    where
      by_row : (o : Option (Row (Held A))) → own s.objects file k id ≡ o
          → option_map (λ (row : Row (Held A)). row.users) o ≡ Some n
          → (n ≡ counts_of known.world.objects known.world.attachments file id)
          × (of : ObjectKind) × (kind_of known.world.objects file id ≡ Some of) × (table_kind of ≡ k)
      by_row None found is = cc
      by_row (Some row) found is =
          let (there, of_row, stands) = own_kind s.objects.rows file id k row
          (orderly known.at known.world s known.tidy known.shows).ids found in
          let was = users_of_row known.world.objects known.world.attachments s.objects.rows
          known.shows.objects.counted file id row there in
          let same : row.users ≡ n = cc in
          (sym same ∙ was, kind_in row.value, kind_shown ∙ of_row, stands)

  abbrev has_users : List Object → Bool
  has_users objects = has_hwpt objects file id || has_access_to objects file id

  counted_users : ltb 0 (tables_over known.world.objects file id + accesses_to known.world.objects file id)
      ≡ has_users (objects_in s.objects)
  counted_users =
      either (tables_over known.world.objects file id) (accesses_to known.world.objects file id)
      ∙ ap (λ b. b || ltb 0 (accesses_to known.world.objects file id)) (sym (has_over known.world.objects file id))
      ∙ ap (λ b. has_hwpt known.world.objects file id || b) (sym (has_to known.world.objects file id))
      ∙ ap has_users known.shows.objects.rows

  pub users_told : (n : ℕ)
      → option_map (λ (row : Row (Held A)). row.users) (own s.objects file of_kind.Ioas id) ≡ Some n
      → ltb 0 n ≡ (has_hwpt (objects_in s.objects) file id || has_access_to (objects_in s.objects) file id)
  users_told n is =
      let (many, of, of_world, stands) = users_found of_kind.Ioas n is in
      let no_device = on_tables known.world.objects known.world.attachments file id known.tidy.debts.tables
      (ap (λ (o : Option ObjectKind). elim o as (λ _. Bool) [ Some k ↦ is_hwpt k | None ↦ false ]) of_world
      ∙ space_is_no_table of stands) in
      let on : n ≡ tables_over known.world.objects file id + accesses_to known.world.objects file id =
      omega (arith, many, no_device) in
      ap (ltb 0) on ∙ counted_users

  pub none_told : own s.objects file of_kind.Ioas id ≡ None
      → false ≡ (has_hwpt (objects_in s.objects) file id || has_access_to (objects_in s.objects) file id)
  none_told none =
      let no_space : has_ioas known.world.objects file id ≡ false =
      ap (λ (l : List Object). has_ioas l file id) known.shows.objects.rows
      ∙ false_else (has_ioas (objects_in s.objects) file id)
      (space_absent s.objects file id none) in
      let none_over = over_spaces known.world.objects file id known.tidy.debts.spaces no_space in
      let none_to = known.shows.objects.accesses file id no_space in
      let on : 0 ≡ tables_over known.world.objects file id + accesses_to known.world.objects file id =
      omega (arith, none_over, none_to) in
      ap (ltb 0) on ∙ counted_users

  on_world : (b : Bool) → b ≡ has_device_on known.world.attachments file id
      → b ≡ has_device_on s.attachments.items file id
  on_world b is = is ∙ ap (λ (l : List Attachment). has_device_on l file id) known.shows.devices.attached

  pub devices_told : (n : ℕ)
      → option_map (λ (row : Row (Held A)). row.users) (own s.objects file of_kind.Hwpt id) ≡ Some n
      → ltb 0 n ≡ has_device_on s.attachments.items file id
  devices_told n is =
      let (many, of, of_world, stands) = users_found of_kind.Hwpt n is in
      let no_space : has_ioas known.world.objects file id ≡ false =
      ap (λ (o : Option ObjectKind). elim o as (λ _. Bool) [ Some k ↦ is_ioas k | None ↦ false ]) of_world
      ∙ table_is_no_space of stands in
      let none_over = over_spaces known.world.objects file id known.tidy.debts.spaces no_space in
      let none_to = known.shows.objects.accesses file id no_space in
      let on : n ≡ devices_on known.world.attachments file id = omega (arith, many, none_over, none_to) in
      on_world (ltb 0 n) (ap (ltb 0) on ∙ sym (has_devices known.world.attachments file id))

  pub no_device_told : own s.objects file of_kind.Hwpt id ≡ None → false ≡ has_device_on s.attachments.items file id
  no_device_told none =
      on_world false
      (sym (has_devices known.world.attachments file id
      ∙ ap (ltb 0) (on_tables known.world.objects known.world.attachments file id known.tidy.debts.tables
      (by_kind (kind_of known.world.objects file id) refl))))
    where
      by_kind : (o : Option ObjectKind) → kind_of known.world.objects file id ≡ o
          → elim o as (λ _. Bool) [ Some k ↦ is_hwpt k | None ↦ false ] ≡ false
      by_kind None is = refl
      by_kind (Some kind.Ioas) is = refl
      by_kind (Some (kind.Device device)) is = refl
      by_kind (Some (kind.Access attached)) is = refl
      by_kind (Some (kind.Hwpt ioas width automatic)) is =
          let (row, found, there) = own_row s.objects.rows file id (kind.Hwpt ioas width automatic)
          (sym kind_shown ∙ is) in
          cc
