-- What is kept after an attachment came shows the world after it.
use Rattle.std.proofs.Common.{◌≡◌, ℕ, ◌+◌, Bool, true, false, ◌&&◌, ◌||◌, not, is_none, is_some, Option, Some, None}
use Rattle.std.proofs.Common.{List, [], length, Vec, refl, sym, ◌∙◌, ap, subst, arith, cond, eqb, ◌<◌, ◌≤◌, IfSome}
use Rattle.std.specs.List.{find}
use Rattle.std.specs.Prelude.{IsTrue}
use Rattle.std.specs.Option.{option_map}
use Rattle.iofd_steps.specs.After.{attach_changes, attached, changed, device_attached, joined, settle, target_changes}
use Rattle.iofd_steps.specs.After.{with_hwpt}
use Rattle.iofd_steps.specs.Answers.{Answers, IsHwptFor, IsHwptOf, IsTarget}
use Rattle.iofd_words.specs.Areas.{all_paid}
use Rattle.iofd_words.specs.Attachments.{attachment_of, with_attachment}
use Rattle.iofd_refusals.specs.Checks.{attach_checks, lacks_attached_frames, lacks_room_for_hwpt}
use Rattle.iofd_words.specs.Files.{device_of}
use Rattle.iofd_words.specs.FirstTrue.{first_true}
use Rattle.iofd_words.specs.Objects.{automatic_hwpt, binding_of, is_bound_as, is_fresh, is_full, is_ioas, kind_of}
use Rattle.iofd_words.specs.Pins.{pinned_pages, settled}
use Rattle.iofd_words.specs.Settings.{DeviceSettings}
use Rattle.iofd_words.specs.View.{view}
use Rattle.iofd_words.specs.World.{World}
use Rattle.iofd_words.specs.declared.event.Event.TheVariants as event
use Rattle.iofd_words.specs.declared.numbers.DeviceNo.{DeviceNo}
use Rattle.iofd_words.specs.declared.numbers.FileNo.{FileNo}
use Rattle.iofd_words.specs.declared.numbers.ObjId.{ObjId}
use Rattle.iofd_words.specs.declared.reply.Reply.TheVariants as reply
use Rattle.iofd_words.specs.declared.rows.Area.{Area}
use Rattle.iofd_words.specs.declared.rows.Attachment.{Attachment}
use Rattle.iofd_words.specs.declared.rows.Object.{Object}
use Rattle.iofd_words.specs.declared.rows.ObjectKind.{ObjectKind}
use Rattle.iofd_words.specs.declared.rows.ObjectKind.TheVariants as kind
use Rattle.iofd_words.specs.declared.width.Width.{Width}
use Rattle.iofd_rows.specs.Pinned.{ArePinned}
use Rattle.iofd_rows.proofs.Paid.{pays_none}
use Rattle.iofd_runs.proofs.KeepsPins.{keeps_pins}
use Rattle.iofd_runs.proofs.Known.{bound_known}
use Rattle.iofd_runs.proofs.NotRefused.{attach_passed, target_passed}
use Rattle.user_memory_rows.proofs.PinsFollow.{only_kept, pins_follow}
use Rattle.user_memory_rows.proofs.Released.{settles_none}
use Rattle.hwpt_device.specs.Making.{IsRoomy, MayCome, lacks_tables, made_object, missing_with, named_table}
use Rattle.hwpt_device.specs.Making.{table_there, width_of, with_table}
use Rattle.iofd_runs.proofs.StillTabled.{finds_table, owned_after}
use Rattle.iofd_words.specs.Tables.{MovesTables, with_tables}
use Rattle.iofd_words.specs.declared.numbers.FrameNo.{FrameNo}
use Rattle.hwpt_device.proofs.MovesMade.{moves_made}
use Rattle.hwpt_device.proofs.Narrowed.{wide_attached}
use Rattle.server_state.proofs.LeadsStay.{leads_alike, spaces_alike}
use Rattle.server_state.proofs.Still.{still}
use Rattle.server_state.specs.Choice.{AreFramesChosen, IsChosen, least_free}
use Rattle.server_state.specs.Held.{objects_in, own}
use Rattle.server_state.specs.Leads.{object_page}
use Rattle.iofd_rows.proofs.Bools.{and_true}
use Rattle.iofd_rows.proofs.Each.{in_found}
use Rattle.iofd_rows.proofs.Named.{file_is, kind_new, kind_only}
use Rattle.iofd_rows.specs.Ids.{have_own_ids}
use Rattle.iofd_runs.proofs.OwnIds.{unused}
use Rattle.iofd_words.specs.Limits.{first_outside}
use Rattle.iofd_words.specs.Settings.{Settings}
use Rattle.object_table.specs.Table.{Table, changed_at, with_users}
use Rattle.object_table.specs.declared.kind.Kind.TheVariants as of_kind
use Rattle.server_state.proofs.AccessSpaces.{none_to}
use Rattle.server_state.proofs.Counted.{few_standing, over-with, over_spaces}
use Rattle.server_state.proofs.CountsShown.{device_joins}
use Rattle.server_state.proofs.DevicesOn.{few_on}
use Rattle.server_state.specs.Users.{devices_on}
use Rattle.server_state.specs.declared.held.Held.{Held}
use Rattle.iofd_words.specs.Objects.{has_ioas, is_automatic_over, is_hwpt_over, with_object}
use Rattle.server_state.specs.Shows.{ObjectsShown, Shows}
use Rattle.server_state.specs.Step.{IsGrantedAt, IsTidy}
use Rattle.server_state.specs.declared.state.State.{State}

-- ---- what was refused

-- a device that isn't bound
pub never_unbound : {X : Type 0} (w : World) (device : DeviceNo) (pt_id : ObjId)
    → first_true (attach_checks (view w) device pt_id) ≡ None → binding_of w.objects device ≡ None → X
unfolding attach_checks
never_unbound w device pt_id none is = let refused = rw (is, attach_checks) at none in absurd (some_none refused)
  where
    some_none : {Y : Type 0} {y : Y} → Some y ≡ None → ⊥
    some_none is = cc

-- one that is attached: so it owes nothing
unpaid : (at : ℕ) (w : World) (device : DeviceNo) (pt_id : ObjId) (bound : Object) → IsTidy at w
    → first_true (attach_checks (view w) device pt_id) ≡ None → binding_of w.objects device ≡ Some bound
    → all_paid device w.areas ≡ w.areas
unpaid at w device pt_id bound tidy none is =
    pays_none w device tidy.debts (absent (attachment_of w.attachments device)
    (target_passed (view w) device pt_id bound (kind_of w.objects bound.file pt_id) is refl none).0)
  where
    absent : (o : Option Attachment) → is_some o ≡ false → o ≡ None
    absent None is = refl
    absent (Some a) is = cc

-- ---- the device's settings

width_found : (o : Option DeviceSettings) (width : Width) → elim o [ Some d ↦ Some d.width | None ↦ None ] ≡ Some width
    → (d : DeviceSettings) × (o ≡ Some d) × (d.width ≡ width)
width_found None width is = cc
width_found (Some d) width is = (d, refl, cc)

id_found : (o : Option Object) (id : ObjId) → option_map (λ (object : Object). object.id) o ≡ Some id
    → (object : Object) × (o ≡ Some object) × (object.id ≡ id)
id_found None id is = cc
id_found (Some object) id is = (object, refl, cc)

none_found : (o : Option Object) → option_map (λ (object : Object). object.id) o ≡ None → o ≡ None
none_found None is = refl
none_found (Some object) is = cc

-- ---- the world after it

-- by what the id names
is_target : (w : World) (device : DeviceNo) (pt_id id : ObjId) (bound : Object) (d : DeviceSettings)
    (k : Option ObjectKind) → binding_of w.objects device ≡ Some bound → device_of w.settings device ≡ Some d
    → kind_of w.objects bound.file pt_id ≡ k
    → IsTarget w bound.file pt_id id d.width k
    → IsHwptOf w pt_id id (binding_of w.objects device) (device_of w.settings device)
    × (device_attached w device pt_id (reply.Id id) ≡ target_changes w device pt_id id bound d k)
is_target w device pt_id id bound d k binding known named target =
    let v : World = target_changes w device pt_id id bound d k in
    let Of_kind = λ (k : Option ObjectKind). IsTarget w bound.file pt_id id d.width k
    × (target_changes w device pt_id id bound d k ≡ v) in
    let of_kind : Of_kind (kind_of w.objects bound.file pt_id) = subst Of_kind (sym named) (target, refl) in
    let Of_device = λ (o : Option DeviceSettings). IsHwptOf w pt_id id (Some bound) o
    × (attach_changes w device pt_id id (Some bound) o ≡ v) in
    let of_device : Of_device (device_of w.settings device) = subst Of_device (sym known) of_kind in
    let Of_binding = λ (b : Option Object). IsHwptOf w pt_id id b (device_of w.settings device)
    × (attach_changes w device pt_id id b (device_of w.settings device) ≡ v) in
    subst Of_binding (sym binding) of_device

-- the device translates by the page table of this id, which is made where there is none yet
abbrev grown : World → DeviceNo → FileNo → ObjId → ObjId → Width → Option Object → List Area → World
grown w device file ioas id width o areas =
    record w {
      objects = with_hwpt file ioas id width o w.objects;
      attachments = with_attachment (record { device = device; file = file; hwpt = id }) w.attachments;
      areas = areas;
      pins =
          settled
          (pinned_pages w.objects w.areas w.memory w.access_pins)
          (pinned_pages (with_hwpt file ioas id width o w.objects) areas w.memory w.access_pins)
          w.memory
          w.user_pages
          w.pins;
    }

is_grown : (w : World) (device : DeviceNo) (pt_id id : ObjId) (bound : Object) (d : DeviceSettings)
    → settle w (attached w device pt_id id bound d) ≡ grown w device bound.file pt_id id d.width
    (automatic_hwpt w.objects bound.file pt_id d.width) (all_paid device w.areas)
unfolding attached settle
is_grown w device pt_id id bound d = refl

-- where none is there an address space is named
space_named : (w : World) (device : DeviceNo) (pt_id : ObjId) (bound : Object) (width : Width)
    → first_true (attach_checks (view w) device pt_id) ≡ None → binding_of w.objects device ≡ Some bound
    → table_there w.objects bound.file pt_id width ≡ None
    → (kind_of w.objects bound.file pt_id ≡ Some kind.Ioas) × (automatic_hwpt w.objects bound.file pt_id width ≡ None)
space_named w device pt_id bound width none binding absent = by_kind (kind_of w.objects bound.file pt_id) refl absent
  where
    by_kind : (k : Option ObjectKind) → kind_of w.objects bound.file pt_id ≡ k
        → named_table w.objects bound.file pt_id width k ≡ None
        → (k ≡ Some kind.Ioas) × (automatic_hwpt w.objects bound.file pt_id width ≡ None)
    by_kind (Some (kind.Hwpt ioas of automatic)) named absent = cc
    by_kind (Some kind.Ioas) named absent = (refl, none_found (automatic_hwpt w.objects bound.file pt_id width) absent)
    by_kind (Some (kind.Device other)) named absent =
        absurd (never (target_passed (view w) device pt_id bound (Some (kind.Device other)) binding named none).1)
      where
        never : {X : Type 0} {x : X} → Some x ≡ None → ⊥
        never is = cc
    by_kind (Some (kind.Access other)) named absent =
        absurd (never (target_passed (view w) device pt_id bound (Some (kind.Access other)) binding named none).1)
      where
        never : {X : Type 0} {x : X} → Some x ≡ None → ⊥
        never is = cc
    by_kind None named absent = absurd (never (target_passed (view w) device pt_id bound None binding named none).1)
      where
        never : {X : Type 0} {x : X} → Some x ≡ None → ⊥
        never is = cc

-- the page table is found
finds : (w : World) (pt_id id : ObjId) (bound : Object) (d : DeviceSettings) (k : Option ObjectKind)
    → named_table w.objects bound.file pt_id d.width k ≡ Some id
    → (not (elim k [ Some kind ↦ is_ioas kind | None ↦ false ])
    || is_some (automatic_hwpt w.objects bound.file pt_id d.width)) ≡ true
finds w pt_id id bound d (Some (kind.Hwpt ioas of automatic)) found = refl
finds w pt_id id bound d (Some kind.Ioas) found = by_found (automatic_hwpt w.objects bound.file pt_id d.width) found
  where
    by_found : (o : Option Object) → option_map (λ (object : Object). object.id) o ≡ Some id → is_some o ≡ true
    by_found None is = cc
    by_found (Some object) is = refl
finds w pt_id id bound d (Some (kind.Device other)) found = refl
finds w pt_id id bound d (Some (kind.Access other)) found = refl
finds w pt_id id bound d None found = refl

-- an automatic page table that is found is one
automatic_is : (objects : List Object) (file : FileNo) (ioas id : ObjId) (width : Width)
    → have_own_ids objects ≡ true
    → option_map (λ (object : Object). object.id) (automatic_hwpt objects file ioas width) ≡ Some id
    → (over : ObjId) × (of : Width) × (automatic : Bool)
    × (kind_of objects file id ≡ Some (kind.Hwpt over of automatic))
automatic_is objects file ioas id width ids is =
    let (object, found, of_id) = id_found (automatic_hwpt objects file ioas width) id is in
    let within = in_found (λ (o : Object). eqb o.file.0 file.0 && is_automatic_over ioas width o.kind) objects object
    found in
    let parts = and_true (eqb object.file.0 file.0) (is_automatic_over ioas width object.kind) within.1 in
    let (over, of, automatic, of_kind) = by_kind object.kind parts.1 in (
      over,
      of,
      automatic,
      ap (λ (f : FileNo). kind_of objects f id) (sym (file_is object.file file parts.0))
          ∙ ap (λ (i : ObjId). kind_of objects object.file i) (sym of_id)
          ∙ kind_only objects object ids within.0
          ∙ ap (λ (k : ObjectKind). let o : Option ObjectKind = Some k in o) of_kind,
    )
  where
    by_kind : (k : ObjectKind) → is_automatic_over ioas width k ≡ true
        → (over : ObjId) × (of : Width) × (automatic : Bool) × (k ≡ kind.Hwpt over of automatic)
    by_kind kind.Ioas is = cc
    by_kind (kind.Hwpt over of automatic) is = (over, of, automatic, refl)
    by_kind (kind.Device device) is = cc
    by_kind (kind.Access attached) is = cc

-- the page table that is there for an attachment is one
there_is : (objects : List Object) (file : FileNo) (pt_id id : ObjId) (width : Width) (k : Option ObjectKind)
    → have_own_ids objects ≡ true → kind_of objects file pt_id ≡ k → named_table objects file pt_id width k ≡ Some id
    → (ioas : ObjId) × (of : Width) × (automatic : Bool)
    × (kind_of objects file id ≡ Some (kind.Hwpt ioas of automatic))
there_is objects file pt_id id width (Some (kind.Hwpt ioas of automatic)) ids is found =
    let same : pt_id ≡ id = cc in
    (ioas, of, automatic, ap (λ (i : ObjId). kind_of objects file i) (sym same) ∙ is)
there_is objects file pt_id id width (Some kind.Ioas) ids is found = automatic_is objects file pt_id id width ids found
there_is objects file pt_id id width (Some (kind.Device device)) ids is found =
    automatic_is objects file pt_id id width ids found
there_is objects file pt_id id width (Some (kind.Access attached)) ids is found =
    automatic_is objects file pt_id id width ids found
there_is objects file pt_id id width None ids is found = automatic_is objects file pt_id id width ids found

-- a page table's tables, accesses and devices, counted: one that was there, and a new one
few_joined : (tables accesses devices : ℕ) → tables ≡ 0 → accesses ≡ 0 → devices ≤ 256
    → tables + accesses + devices < 4294967295
few_joined tables accesses devices none_over none_attached few = omega arith

few_counted : (new own tables was accesses devices : ℕ) → new ≡ own + tables → accesses ≡ 0 → tables + was < 65535
    → own ≤ 1 → devices ≤ 256 → new + accesses + devices < 4294967295
few_counted new own tables was accesses devices over none few one few_devices = omega arith

at_most_one : (b : Bool) → cond b 1 0 ≤ 1
at_most_one true = omega arith
at_most_one false = omega arith

module _ {A : Type 0} where
  -- it is shown, where the world after is by what the id names
  attached_by : (at : ℕ) (w : World) (s : State A) (device : DeviceNo) (pt_id id : ObjId) (bound : Object)
      (d : DeviceSettings) (k : Option ObjectKind) → IsTidy at w
      → first_true (attach_checks (view w) device pt_id) ≡ None
      → binding_of w.objects device ≡ Some bound → device_of w.settings device ≡ Some d
      → kind_of w.objects bound.file pt_id ≡ k → IsTarget w bound.file pt_id id d.width k
      → (ArePinned (at + 1) (target_changes w device pt_id id bound d k)
      → Shows (target_changes w device pt_id id bound d k) s)
      → Answers {A = A} w (event.Attach device pt_id) (reply.Id id)
      × Shows (changed {A = A} at w (event.Attach device pt_id) (reply.Id id)) s
  unfolding changed Answers
  attached_by at w s device pt_id id bound d k tidy none binding known named target shown =
      let (answers, is) = is_target w device pt_id id bound d k binding known named target in
      let next = keeps_pins {A = A} at w (event.Attach device pt_id) (reply.Id id) none answers tidy.pins in
      (answers, subst (λ v. Shows v s) (sym is) (shown (subst (ArePinned (at + 1)) is next)))

  -- one more attachment is shown
  more_attached : (v : World) (s : State A) (table : Table (Held A)) (attachments : Vec Attachment A) (a : Attachment)
      → Shows v s
      → ObjectsShown v.settings v.closed v.objects (with_attachment a v.attachments) v.areas table
      → attachments.items ≡ with_attachment a s.attachments.items
      → Shows (record v { attachments = with_attachment a v.attachments })
      (record s { objects = table; attachments = attachments })
  more_attached v s table attachments a shows objects added = record {
    settings = shows.settings;
    limits = shows.limits;
    dirty = shows.dirty;
    allowed = shows.allowed;
    objects = objects;
    devices = record {
      bindings = shows.devices.bindings;
      rising = shows.devices.rising;
      attached = ap (with_attachment a) shows.devices.attached ∙ sym added;
    };
    users = shows.users;
    pins = shows.pins;
    access_pins = shows.access_pins;
    frames = shows.frames;
    tables = record { tables = shows.tables.tables; widths = shows.tables.widths; stand = shows.tables.stand };
  }

  -- room for one more is not seen
  pub room_unseen : (w : World) (s : State A) (attachments : Vec Attachment A) → attachments.items ≡ s.attachments.items
      → Shows w s → Shows w (record s { attachments = attachments })
  room_unseen w s attachments same shows = record {
    settings = shows.settings;
    limits = shows.limits;
    dirty = shows.dirty;
    allowed = shows.allowed;
    objects = shows.objects;
    devices = record {
      bindings = shows.devices.bindings;
      rising = shows.devices.rising;
      attached = shows.devices.attached ∙ sym same;
    };
    users = shows.users;
    pins = shows.pins;
    access_pins = shows.access_pins;
    frames = shows.frames;
    tables = shows.tables;
  }

  -- ---- its count

  -- there are few devices
  devices_few : (at : ℕ) (w : World) (s : State A) (file : FileNo) (id : ObjId) → IsTidy at w → Shows w s
      → first_outside s.config ≡ None → devices_on w.attachments file id ≤ 256
  devices_few at w s file id tidy shows inside =
      few_on w.settings w.attachments file id (ap (λ (settings : Settings). first_outside settings) shows.settings
      ∙ inside) tidy.fit.rise tidy.fit.attached

  -- a page table that is there is counted one user more
  joins_there : (at : ℕ) (w : World) (s : State A) (table : Table (Held A)) (device : DeviceNo) (pt_id id : ObjId)
      (file : FileNo) (width : Width) → IsTidy at w → Shows w s → table_there w.objects file pt_id width ≡ Some id
      → first_outside s.config ≡ None
      → IfSome (own s.objects file of_kind.Hwpt id) (λ row. row.users < 4294967295
      → table.rows ≡ changed_at file id (with_users (row.users + 1)) s.objects.rows)
      → table ≡ record s.objects { rows = table.rows }
      → ObjectsShown w.settings w.closed w.objects
      (with_attachment (record { device = device; file = file; hwpt = id }) w.attachments) w.areas table
  joins_there at w s table device pt_id id file width tidy shows there inside counts others =
      let (ioas, of, automatic, is_kind) = there_is w.objects file pt_id id width
      (kind_of w.objects file pt_id) tidy.ids refl there in
      let no_space : has_ioas w.objects file id ≡ false =
      ap (λ (o : Option ObjectKind). elim o as (λ _. Bool) [ Some k ↦ is_ioas k | None ↦ false ]) is_kind in
      let none_over = over_spaces w.objects file id tidy.debts.spaces no_space in
      let none_attached = shows.objects.accesses file id no_space in
      let few = devices_few at w s file id tidy shows inside in
      device_joins w.settings w.closed w.objects w.attachments w.areas s.objects table shows.objects
      (record { device = device; file = file; hwpt = id }) ioas of automatic is_kind others
      (few_joined _ _ _ none_over none_attached few) counts

  -- ---- by a page table that is there

  -- the objects are shown where the device translates by the page table of this id
  abbrev JoinsObjects : World → DeviceNo → FileNo → ObjId → Table (Held A) → Type 0
  JoinsObjects w device file id table =
      ObjectsShown w.settings w.closed w.objects
      (with_attachment (record { device = device; file = file; hwpt = id }) w.attachments) w.areas table

  joined_shown : (at : ℕ) (w : World) (s : State A) (table : Table (Held A)) (attachments : Vec Attachment A)
      (device : DeviceNo)
      (pt_id id : ObjId) (bound : Object) → IsTidy at w → Shows w s
      → first_true (attach_checks (view w) device pt_id) ≡ None
      → binding_of w.objects device ≡ Some bound
      → JoinsObjects w device bound.file id table
      → attachments.items ≡ with_attachment (record {
        device = device;
        file = bound.file;
        hwpt = id;
      }) s.attachments.items
      → Shows (joined w device id bound) (record s { objects = table; attachments = attachments })
  unfolding joined
  joined_shown at w s table attachments device pt_id id bound tidy shows none binding objects added =
      let a : Attachment = record { device = device; file = bound.file; hwpt = id } in
      let is : joined w device id bound ≡ record w { attachments = with_attachment a w.attachments } =
      ap (λ (areas : List Area). let v : World = record w {
        attachments = with_attachment a w.attachments;
        areas = areas;
      } in v) (unpaid at w device pt_id bound tidy none binding) in
      subst (λ v. Shows v (record s { objects = table; attachments = attachments })) (sym is)
      (more_attached w s table attachments a shows objects added)

  automatic_shown : (at : ℕ) (w : World) (s : State A) (table : Table (Held A)) (attachments : Vec Attachment A)
      (device : DeviceNo)
      (pt_id id : ObjId) (bound object : Object) (width : Width) → IsTidy at w → Shows w s
      → first_true (attach_checks (view w) device pt_id) ≡ None
      → binding_of w.objects device ≡ Some bound
      → JoinsObjects w device bound.file id table
      → attachments.items ≡ with_attachment (record {
        device = device;
        file = bound.file;
        hwpt = id;
      }) s.attachments.items
      → ArePinned (at + 1) (grown w device bound.file pt_id id width (Some object) w.areas)
      → Shows (grown w device bound.file pt_id id width (Some object) w.areas)
      (record s { objects = table; attachments = attachments })
  automatic_shown at w s table attachments device pt_id id bound object width tidy shows none binding objects added
      next =
      let seen = more_attached w s table attachments (record { device = device; file = bound.file; hwpt = id }) shows
      objects added in
      let left = grown w device bound.file pt_id id width (Some object) w.areas in
      let pins = pins_follow at (at + 1) w left s.memory s.memory s.pool s.pool tidy.pins next shows.pins refl
      shows.users.pages shows.pins.rows shows.pins.areas shows.pins.tables shows.pins.access
      (settles_none s.memory s.pool shows.pins.invariant (only_kept at w s.memory tidy.pins shows.pins)) in
      record {
        settings = seen.settings;
        limits = seen.limits;
        dirty = seen.dirty;
        allowed = seen.allowed;
        objects = seen.objects;
        devices = seen.devices;
        users = seen.users;
        pins = pins;
        access_pins = seen.access_pins;
        frames = seen.frames;
        tables = record {
          tables = shows.tables.tables;
          widths = shows.tables.widths;
          stand = spaces_alike w left w.objects s.page_tables.tables s.pool w.table_frames shows.tables.tables
              (λ f i page has. leads_alike w left f i page refl (λ a found. pins.frames (object_page page a)
              ∙ sym (shows.pins.frames (object_page page a))))
              shows.tables.stand;
        };
      }

  there_shown : (at : ℕ) (w : World) (s : State A) (table : Table (Held A)) (attachments : Vec Attachment A)
      (device : DeviceNo)
      (pt_id id : ObjId) (bound : Object) (width : Width) → IsTidy at w → Shows w s
      → first_true (attach_checks (view w) device pt_id) ≡ None
      → find (λ object. is_bound_as device object.kind) s.bindings.items ≡ Some bound
      → width_of s.config device ≡ Some width
      → table_there (objects_in s.objects) bound.file pt_id width ≡ Some id
      → JoinsObjects w device bound.file id table
      → attachments.items ≡ with_attachment (record {
        device = device;
        file = bound.file;
        hwpt = id;
      }) s.attachments.items
      → Answers {A = A} w (event.Attach device pt_id) (reply.Id id)
      × Shows (changed {A = A} at w (event.Attach device pt_id) (reply.Id id))
      (record s { objects = table; attachments = attachments })
  there_shown at w s table attachments device pt_id id bound width tidy shows none binding wide there objects added =
      let binding_w : binding_of w.objects device ≡ Some bound = shows.devices.bindings device ∙ binding in
      let (d, known, same) = width_found (device_of w.settings device) width
      (ap (λ settings. width_of settings device) shows.settings ∙ wide) in
      let there_w : table_there w.objects bound.file pt_id d.width ≡ Some id =
      ap (table_there w.objects bound.file pt_id) same
      ∙ ap (λ (objects : List Object). table_there objects bound.file pt_id width) shows.objects.rows ∙ there in
      by_kind d known binding_w (kind_of w.objects bound.file pt_id) refl there_w
    where
      by_kind : (d : DeviceSettings) → device_of w.settings device ≡ Some d → binding_of w.objects device ≡ Some bound
          → (k : Option ObjectKind) → kind_of w.objects bound.file pt_id ≡ k
          → named_table w.objects bound.file pt_id d.width k ≡ Some id
          → Answers {A = A} w (event.Attach device pt_id) (reply.Id id)
          × Shows (changed {A = A} at w (event.Attach device pt_id) (reply.Id id))
          (record s { objects = table; attachments = attachments })
      by_kind d known binding_w (Some (kind.Hwpt ioas of automatic)) named found =
          let same : id ≡ pt_id = cc in
          attached_by at w (record s { objects = table; attachments = attachments }) device pt_id id bound d
          (Some (kind.Hwpt ioas of automatic)) tidy none binding_w known named same
          (λ next. joined_shown at w s table attachments device pt_id id bound tidy shows none binding_w objects added)
      by_kind d known binding_w (Some kind.Ioas) named found =
          let (object, automatic, of_id) = id_found (automatic_hwpt w.objects bound.file pt_id d.width) id found in
          let is : settle w (attached w device pt_id id bound d) ≡ grown w device bound.file pt_id id
          d.width (Some object) w.areas =
          is_grown w device pt_id id bound d
          ∙ ap (λ (o : Option Object). grown w device bound.file pt_id id d.width o (all_paid device w.areas)) automatic
          ∙ ap (grown w device bound.file pt_id id d.width (Some object))
          (unpaid at w device pt_id bound tidy none binding_w) in
          attached_by at w (record s { objects = table; attachments = attachments }) device pt_id id bound d
          (Some kind.Ioas) tidy none
          binding_w known named (subst (IsHwptFor w bound.file id) (sym automatic) (sym of_id))
          (λ next. subst (λ v. Shows v (record s { objects = table; attachments = attachments })) (sym is)
          (automatic_shown at w s table attachments device pt_id id bound object d.width tidy shows none binding_w
          objects added (subst (ArePinned (at + 1)) is next)))
      by_kind d known binding_w (Some (kind.Device other)) named found =
          absurd (never (target_passed (view w) device pt_id bound (Some (kind.Device other)) binding_w named none).1)
        where
          never : {X : Type 0} {x : X} → Some x ≡ None → ⊥
          never is = cc
      by_kind d known binding_w (Some (kind.Access other)) named found =
          absurd (never (target_passed (view w) device pt_id bound (Some (kind.Access other)) binding_w named none).1)
        where
          never : {X : Type 0} {x : X} → Some x ≡ None → ⊥
          never is = cc
      by_kind d known binding_w None named found =
          absurd (never (target_passed (view w) device pt_id bound None binding_w named none).1)
        where
          never : {X : Type 0} {x : X} → Some x ≡ None → ⊥
          never is = cc

  -- so none is made, and no frame moves
  pub shows_there : (at : ℕ) (w : World) (s : State A) (table : Table (Held A)) (attachments : Vec Attachment A)
      (device : DeviceNo)
      (pt_id id : ObjId) (bound : Object) (width : Width) (via : Option FrameNo) → IsTidy at w → Shows w s
      → first_true (attach_checks (view w) device pt_id) ≡ None
      → find (λ object. is_bound_as device object.kind) s.bindings.items ≡ Some bound
      → width_of s.config device ≡ Some width
      → table_there (objects_in s.objects) bound.file pt_id width ≡ Some id
      → first_outside s.config ≡ None
      → IfSome (own s.objects bound.file of_kind.Hwpt id) (λ row. row.users < 4294967295
      → table.rows ≡ changed_at bound.file id (with_users (row.users + 1)) s.objects.rows)
      → table ≡ record s.objects { rows = table.rows }
      → attachments.items ≡ with_attachment (record {
        device = device;
        file = bound.file;
        hwpt = id;
      }) s.attachments.items
      → Answers {A = A} w (event.Attach device pt_id) (reply.Id id)
      × IsChosen {A = A} w (event.Attach device pt_id) via (reply.Id id)
      × MovesTables {A = A} w (changed {A = A} at w (event.Attach device pt_id) (reply.Id id))
      (event.Attach device pt_id) (reply.Id id) [] []
      × AreFramesChosen {A = A} w (changed {A = A} at w (event.Attach device pt_id) (reply.Id id))
      (event.Attach device pt_id) (reply.Id id) [] []
      × Shows (with_tables [] [] (changed {A = A} at w (event.Attach device pt_id) (reply.Id id)))
      (record s { objects = table; attachments = attachments })
  shows_there at w s table attachments device pt_id id bound width via tidy shows none binding wide there inside counts
      others added =
      let there_of : table_there w.objects bound.file pt_id width ≡ Some id =
      ap (λ (objects : List Object). table_there objects bound.file pt_id width) shows.objects.rows ∙ there in
      let objects =
      joins_there at w s table device pt_id id bound.file width tidy shows there_of inside counts others in
      let (answers, shown) =
      there_shown at w s table attachments device pt_id id bound width tidy shows none binding wide there objects
      added in
      let binding_w : binding_of w.objects device ≡ Some bound = shows.devices.bindings device ∙ binding in
      let (d, known, same) = width_found (device_of w.settings device) width
      (ap (λ settings. width_of settings device) shows.settings ∙ wide) in
      let there_w : table_there w.objects bound.file pt_id d.width ≡ Some id =
      ap (table_there w.objects bound.file pt_id) same
      ∙ ap (λ (objects : List Object). table_there objects bound.file pt_id width) shows.objects.rows ∙ there in
      let makes : finds_table w.objects pt_id (binding_of w.objects device) (device_of w.settings device) ≡ true =
      ap (λ (o : Option Object). finds_table w.objects pt_id o (device_of w.settings device)) binding_w
      ∙ ap (finds_table w.objects pt_id (Some bound)) known
      ∙ finds w pt_id id bound d (kind_of w.objects bound.file pt_id) there_w in
      still {A = A} at (event.Attach device pt_id) via (reply.Id id)
      (record s { objects = table; attachments = attachments }) (λ gone t. refl) w tidy
      answers tt shown makes tt

  -- ---- by a new page table

  -- one may come there
  pub attach_roomy : (at : ℕ) (w : World) (s : State A) (device : DeviceNo) (pt_id : ObjId) (bound : Object)
      (width : Width) → IsTidy at w → Shows w s → first_true (attach_checks (view w) device pt_id) ≡ None
      → find (λ object. is_bound_as device object.kind) s.bindings.items ≡ Some bound
      → width_of s.config device ≡ Some width
      → table_there (objects_in s.objects) bound.file pt_id width ≡ None
      → IsRoomy (view w) bound.file pt_id width
  attach_roomy at w s device pt_id bound width tidy shows none binding wide absent =
      let binding_w : binding_of w.objects device ≡ Some bound = shows.devices.bindings device ∙ binding in
      let (d, known, same) = width_found (device_of w.settings device) width
      (ap (λ settings. width_of settings device) shows.settings ∙ wide) in
      let (space, lacking) = space_named w device pt_id bound width none binding_w
      (ap (λ (objects : List Object). table_there objects bound.file pt_id width) shows.objects.rows ∙ absent) in
      let passed = attach_passed (view w) device pt_id bound binding_w space none in
      record {
        opened = (bound_known w.settings w.closed w.objects device bound tidy.fit.known binding_w).0;
        space = ap (λ (k : Option ObjectKind). elim k [ Some kind ↦ is_ioas kind | None ↦ false ]) space;
        wide = wide_attached (view w) bound.file pt_id width (device_of w.settings device)
            (ap (λ settings. width_of settings device) shows.settings ∙ wide) passed.wide;
        roomy = by_device d known same lacking passed.roomy;
        present = passed.present;
        within_limit = passed.within_limit;
        frames = by_frames d known same lacking passed.frames;
      }
    where
      by_device : (d : DeviceSettings) → device_of w.settings device ≡ Some d → d.width ≡ width
          → automatic_hwpt w.objects bound.file pt_id width ≡ None
          → lacks_room_for_hwpt (view w) bound.file pt_id (device_of w.settings device) ≡ false
          → is_full w.objects bound.file ≡ false
      by_device d known same lacking room =
          let here : lacks_room_for_hwpt (view w) bound.file pt_id (Some d) ≡ false =
          sym (ap (lacks_room_for_hwpt (view w) bound.file pt_id) known) ∙ room in
          rw (same, lacking) at here

      by_frames : (d : DeviceSettings) → device_of w.settings device ≡ Some d → d.width ≡ width
          → automatic_hwpt w.objects bound.file pt_id width ≡ None
          → lacks_attached_frames (view w) bound.file pt_id (device_of w.settings device) ≡ false
          → lacks_tables (view w) bound.file pt_id width ≡ false
      by_frames d known same lacking frames =
          let here : lacks_attached_frames (view w) bound.file pt_id (Some d) ≡ false =
          sym (ap (lacks_attached_frames (view w) bound.file pt_id) known) ∙ frames in
          let makes : is_none (automatic_hwpt w.objects bound.file pt_id d.width) ≡ true =
          ap (λ (o : Option Object). is_none o) (ap (automatic_hwpt w.objects bound.file pt_id) same ∙ lacking) in
          ap (lacks_tables (view w) bound.file pt_id) (sym same)
          ∙ of_both (is_none (automatic_hwpt w.objects bound.file pt_id d.width))
          (lacks_tables (view w) bound.file pt_id d.width) makes here
        where
          of_both : (b c : Bool) → b ≡ true → (b && c) ≡ false → c ≡ false
          of_both true c is both = both
          of_both false c is both = cc

  pub may_come : (at : ℕ) (s : State A) (attachments : Vec Attachment A) (device : DeviceNo) (pt_id : ObjId)
      (bound : Object) (width : Width) → IsGrantedAt at (event.Attach device pt_id) s
      → find (λ object. is_bound_as device object.kind) s.bindings.items ≡ Some bound
      → width_of s.config device ≡ Some width
      → table_there (objects_in s.objects) bound.file pt_id width ≡ None
      → attachments.items ≡ s.attachments.items
      → MayCome bound.file pt_id width (record s { attachments = attachments })
  may_come at s attachments device pt_id bound width granted binding wide absent same = record {
    at = at;
    world = granted.world;
    tidy = granted.tidy;
    shows = room_unseen granted.world s attachments same granted.shows;
    may = attach_roomy at granted.world s device pt_id bound width granted.tidy granted.shows
        granted.none binding wide absent;
  }

  pub shows_new : (at : ℕ) (w : World) (s made : State A) (new : Table (Held A)) (attachments : Vec Attachment A)
      (device : DeviceNo) (pt_id id : ObjId) (bound : Object) (width : Width) (via : Option FrameNo)
      (taken : List FrameNo) → IsTidy at w
      → Shows w s → first_true (attach_checks (view w) device pt_id) ≡ None
      → find (λ object. is_bound_as device object.kind) s.bindings.items ≡ Some bound
      → width_of s.config device ≡ Some width
      → table_there (objects_in s.objects) bound.file pt_id width ≡ None
      → IsTrue (is_fresh w.objects bound.file id) × (taken ≡ least_free w (length taken))
      × (length taken ≡ length (missing_with w (made_object bound.file pt_id id width true)))
      × Shows (with_tables taken [] (with_table w (made_object bound.file pt_id id width true))) made
      → first_outside s.config ≡ None
      → IfSome (own made.objects bound.file of_kind.Hwpt id) (λ row. row.users < 4294967295
      → new.rows ≡ changed_at bound.file id (with_users (row.users + 1)) made.objects.rows)
      → new ≡ record made.objects { rows = new.rows }
      → attachments.items ≡ with_attachment (record {
        device = device;
        file = bound.file;
        hwpt = id;
      }) made.attachments.items
      → Answers {A = A} w (event.Attach device pt_id) (reply.Id id)
      × IsChosen {A = A} w (event.Attach device pt_id) via (reply.Id id)
      × MovesTables {A = A} w (changed {A = A} at w (event.Attach device pt_id) (reply.Id id))
      (event.Attach device pt_id) (reply.Id id) taken []
      × AreFramesChosen {A = A} w (changed {A = A} at w (event.Attach device pt_id) (reply.Id id))
      (event.Attach device pt_id) (reply.Id id) taken []
      × Shows (with_tables taken [] (changed {A = A} at w (event.Attach device pt_id) (reply.Id id)))
      (record made { objects = new; attachments = attachments })
  unfolding settle changed Answers with_tables
  shows_new at w s made new attachments device pt_id id bound width via taken tidy shows none binding wide absent (
    fresh,
    chosen,
    many,
    with,
  ) inside counts others added =
      let binding_w : binding_of w.objects device ≡ Some bound = shows.devices.bindings device ∙ binding in
      let (d, known, same) = width_found (device_of w.settings device) width
      (ap (λ settings. width_of settings device) shows.settings ∙ wide) in
      let (space, lacking) = space_named w device pt_id bound width none binding_w
      (ap (λ (objects : List Object). table_there objects bound.file pt_id width) shows.objects.rows ∙ absent) in
      let lacking_d : automatic_hwpt w.objects bound.file pt_id d.width ≡ None =
      ap (automatic_hwpt w.objects bound.file pt_id) same ∙ lacking in
      let roomy = attach_roomy at w s device pt_id bound width tidy shows none binding wide absent in
      let a : Attachment = record { device = device; file = bound.file; hwpt = id } in
      let table : World = with_table w (made_object bound.file pt_id id width true) in
      let is : settle w (attached w device pt_id id bound d)
      ≡ record table { attachments = with_attachment a w.attachments } =
      is_grown w device pt_id id bound d
      ∙ ap (λ (o : Option Object). grown w device bound.file pt_id id d.width o (all_paid device w.areas)) lacking_d
      ∙ ap (λ (v : Width). grown w device bound.file pt_id id v None (all_paid device w.areas)) same
      ∙ ap (grown w device bound.file pt_id id width None) (unpaid at w device pt_id bound tidy none binding_w) in
      let target : IsTarget w bound.file pt_id id d.width (Some kind.Ioas) =
      subst (IsHwptFor w bound.file id) (sym lacking_d) fresh in
      let (answers, to) = is_target w device pt_id id bound d (Some kind.Ioas) binding_w known space target in
      let object = made_object bound.file pt_id id width true in
      let over = over-with object w.objects bound.file id in
      let few_tables = few_standing w.objects bound.file id roomy.roomy in
      let one = at_most_one (eqb bound.file.0 bound.file.0 && is_hwpt_over id object.kind) in
      let few_devices = devices_few at w s bound.file id tidy shows inside in
      let is_new = kind_new object w.objects (unused w.objects bound.file id fresh) in
      let none_attached =
      none_to (with_object object w.objects) bound.file id object.kind with.objects.accesses is_new refl in
      let objects =
      device_joins w.settings w.closed (with_object object w.objects) w.attachments w.areas made.objects new
      with.objects a pt_id width true is_new others
      (few_counted _ _ _ _ _ _ over none_attached few_tables one few_devices) counts in
      let left : World = device_attached w device pt_id (reply.Id id) in
      let left_is : left ≡ record table { attachments = with_attachment a w.attachments } = to ∙ is in
      let owned = owned_after {A = A} at w (event.Attach device pt_id) (reply.Id id) answers tt tidy.tabled.owned in
      let moves = moves_made {A = A} at w s tidy shows bound.file pt_id id width true roomy fresh taken chosen many left
      (event.Attach device pt_id) (reply.Id id)
      (ap (λ (v : World). v.objects) left_is) (ap (λ (v : World). v.areas) left_is)
      (ap (λ (v : World). v.table_frames) left_is) owned (λ t. refl) in
      let shown = more_attached (with_tables taken [] table) made new attachments a with objects added in (
        answers,
        tt,
        moves.0,
        moves.1,
        subst (λ v. Shows (with_tables taken [] v)
            (record made { objects = new; attachments = attachments })) (sym left_is) shown,
      )

  -- a device that isn't bound was refused
  pub never_loose : {X : Type 0} (w : World) (s : State A) (device : DeviceNo) (pt_id : ObjId) → Shows w s
      → first_true (attach_checks (view w) device pt_id) ≡ None
      → find (λ object. is_bound_as device object.kind) s.bindings.items ≡ None → X
  never_loose w s device pt_id shows none is = never_unbound w device pt_id none (shows.devices.bindings device ∙ is)
