-- A count changes as a device comes to its page table or leaves it, or as a page table goes: all else of the objects is
-- shown as before.
use Rattle.std.proofs.Common.{◌≡◌, ℕ, ◌+◌, ◌-◌, ◌<◌, Bool, true, false, eqb, Option, Some, None, List, map, IfSome}
use Rattle.std.proofs.Common.{refl, sym, ◌∙◌, ap, arith}
use Rattle.std.specs.List.{find, list_all}
use Rattle.std.proofs.lemmas.Bool.Decides.{nat_tests}
use Rattle.iofd_rows.specs.Debts.{attach_once, is_over_space}
use Rattle.iofd_rows.specs.Ids.{have_own_ids}
use Rattle.iofd_words.specs.Attachments.{attachment_of, with_attachment, without_attachment}
use Rattle.iofd_words.specs.Objects.{has_ioas, is_ioas, kind_of, without_object}
use Rattle.iofd_words.specs.Settings.{Settings}
use Rattle.iofd_words.specs.declared.numbers.DeviceNo.{DeviceNo}
use Rattle.iofd_words.specs.declared.numbers.FileNo.{FileNo}
use Rattle.iofd_words.specs.declared.numbers.ObjId.{ObjId}
use Rattle.iofd_words.specs.declared.rows.Area.{Area}
use Rattle.iofd_words.specs.declared.rows.Attachment.{Attachment}
use Rattle.iofd_words.specs.declared.rows.Object.{Object}
use Rattle.iofd_words.specs.declared.rows.ObjectKind.{ObjectKind}
use Rattle.iofd_words.specs.declared.rows.ObjectKind.TheVariants as kind
use Rattle.iofd_words.specs.declared.width.Width.{Width}
use Rattle.object_table.specs.Table.{Row, Table, changed_at, is_at, removed, with_users}
use Rattle.object_table.specs.declared.kind.Kind.TheVariants as of_kind
use Rattle.server_state.proofs.AccessSpaces.{none_to, spaces-without}
use Rattle.server_state.proofs.Counted.{areas-counted, counts_of, device_comes, device_goes, objects-counted}
use Rattle.server_state.proofs.Counted.{over_spaces, own_row, some_over, space_row, space_under}
use Rattle.server_state.proofs.Counted.{still_none, table_goes, users-removed, users_of_row, where_found}
use Rattle.server_state.proofs.DevicesOn.{devices-without, on_by}
use Rattle.server_state.proofs.ObjectsGone.{may_go, objects-removed}
use Rattle.server_state.proofs.TableRows.{areas_removed}
use Rattle.server_state.specs.Held.{areas_at, destroy_refusal, is_own, object_of, objects_in, own}
use Rattle.server_state.specs.Shows.{ObjectsShown}
use Rattle.server_state.specs.Users.{AreCounted, accesses_to, devices_on, users_at}
use Rattle.server_state.specs.declared.held.Held.{Held}

pub on_own : (a : Attachment) → on_by a a.file a.hwpt ≡ 1
on_own a = rw (itself a.file.0, itself a.hwpt.0) refl
  where
    itself : (n : ℕ) → eqb n n ≡ true
    itself n = grind (arith, nat_tests)

module _ {A : Type 0} (settings : Settings) (closed : List FileNo) (objects : List Object)
    (attachments : List Attachment) (areas : List Area) (table new : Table (Held A))
    (shown : ObjectsShown settings closed objects attachments areas table) where
  -- the users of one object are others
  shown_counted : (others : List Attachment) (file : FileNo) (id : ObjId) (n : ℕ)
      → new.rows ≡ changed_at file id (with_users n) table.rows → new.files ≡ table.files
      → AreCounted objects others new.rows → ObjectsShown settings closed objects others areas new
  shown_counted others file id n rows files counted = record {
    rows = shown.rows ∙ sym (ap (map object_of) rows ∙ objects-counted table.rows file id n);
    spaces = λ f i. shown.spaces f i
        ∙ sym (ap (λ (l : List (Row (Held A))). areas_at l f i) rows ∙ areas-counted table.rows file id n f i);
    files = λ number. rw files (shown.files number);
    counted = counted;
    accesses = shown.accesses;
  }

  module _ (a : Attachment) (ioas : ObjId) (width : Width) (automatic : Bool)
      (is_kind : kind_of objects a.file a.hwpt ≡ Some (kind.Hwpt ioas width automatic))
      (others_same : new ≡ record table { rows = new.rows }) where
    -- a device comes to the page table
    pub device_joins : counts_of objects attachments a.file a.hwpt < 4294967295
        → IfSome (own table a.file of_kind.Hwpt a.hwpt) (λ row. row.users < 4294967295
        → new.rows ≡ changed_at a.file a.hwpt (with_users (row.users + 1)) table.rows)
        → ObjectsShown settings closed objects (with_attachment a attachments) areas new
    device_joins few counts =
        let (row, found, there) = own_row table.rows a.file a.hwpt (kind.Hwpt ioas width automatic)
        (ap (λ (l : List Object). kind_of l a.file a.hwpt) (sym shown.rows) ∙ is_kind) in
        let many = users_of_row objects attachments table.rows shown.counted a.file a.hwpt row there in
        let rows : new.rows ≡ changed_at a.file a.hwpt (with_users (row.users + 1)) table.rows =
        where_found (λ (r : Row (Held A)). r.users < 4294967295
        → new.rows ≡ changed_at a.file a.hwpt (with_users (r.users + 1)) table.rows)
        (own table a.file of_kind.Hwpt a.hwpt) row found counts (omega (arith, many, few)) in
        shown_counted (with_attachment a attachments) a.file a.hwpt (row.users + 1) rows
        (ap (λ (t : Table (Held A)). t.files) others_same)
        (λ f i. ap (λ (l : List (Row (Held A))). users_at l f i) rows
        ∙ device_comes objects attachments table.rows shown.counted a row there f i)

    -- it leaves the page table
    pub device_leaves : (device : DeviceNo) → attach_once attachments ≡ true
        → attachment_of attachments device ≡ Some a
        → IfSome (own table a.file of_kind.Hwpt a.hwpt) (λ row. 0 < row.users
        → new.rows ≡ changed_at a.file a.hwpt (with_users (row.users - 1)) table.rows)
        → ObjectsShown settings closed objects (without_attachment device attachments) areas new
    device_leaves device once is counts =
        let (row, found, there) = own_row table.rows a.file a.hwpt (kind.Hwpt ioas width automatic)
        (ap (λ (l : List Object). kind_of l a.file a.hwpt) (sym shown.rows) ∙ is_kind) in
        let many = users_of_row objects attachments table.rows shown.counted a.file a.hwpt row there in
        let all = devices-without attachments device a a.file a.hwpt once is in
        let one = on_own a in
        let rows : new.rows ≡ changed_at a.file a.hwpt (with_users (row.users - 1)) table.rows =
        where_found (λ (r : Row (Held A)). 0 < r.users
        → new.rows ≡ changed_at a.file a.hwpt (with_users (r.users - 1)) table.rows)
        (own table a.file of_kind.Hwpt a.hwpt) row found counts (omega (arith, many, all, one)) in
        shown_counted (without_attachment device attachments) a.file a.hwpt (row.users - 1) rows
        (ap (λ (t : Table (Held A)). t.files) others_same)
        (λ f i. ap (λ (l : List (Row (Held A))). users_at l f i) rows
        ∙ device_goes objects attachments table.rows shown.counted device a row once is there f i)

  -- a page table goes by which no device translates, and its address space has one user fewer
  module _ (file : FileNo) (id ioas : ObjId) (width : Width) (automatic : Bool) (base : Table (Held A))
      (ids : have_own_ids objects ≡ true) (over : list_all (is_over_space objects) objects ≡ true)
      (is_kind : kind_of objects file id ≡ Some (kind.Hwpt ioas width automatic))
      (unused : devices_on attachments file id ≡ 0)
      (counts : IfSome (own table file of_kind.Ioas ioas) (λ row. 0 < row.users
      → base.rows ≡ changed_at file ioas (with_users (row.users - 1)) table.rows))
      (others_same : base ≡ record table { rows = base.rows })
      (goes : destroy_refusal base file of_kind.Hwpt id ≡ None → new.rows ≡ removed file id base.rows)
      (files : new.files ≡ base.files) where
    its_space : (row : Row (Held A)) × (find (is_own file of_kind.Ioas ioas) table.rows ≡ Some row)
        × (find (is_at file ioas) table.rows ≡ Some row)
    its_space = space_row table.rows file ioas
        (ap (λ (l : List Object). has_ioas l file ioas) (sym shown.rows)
        ∙ space_under objects file id ioas width automatic over is_kind)

    base_rows : base.rows ≡ changed_at file ioas (with_users (its_space.0.users - 1)) table.rows
    base_rows =
        let many = users_of_row objects attachments table.rows shown.counted file ioas its_space.0 its_space.2 in
        let some = some_over objects file id ioas width automatic ids is_kind in
        where_found (λ (r : Row (Held A)). 0 < r.users
        → base.rows ≡ changed_at file ioas (with_users (r.users - 1)) table.rows)
        (own table file of_kind.Ioas ioas) its_space.0 its_space.1 counts (omega (arith, many, some))

    objects_base : objects ≡ objects_in base
    objects_base = shown.rows ∙ sym (ap (map object_of) base_rows
        ∙ objects-counted table.rows file ioas (its_space.0.users - 1))

    kind_base : kind_of (objects_in base) file id ≡ Some (kind.Hwpt ioas width automatic)
    kind_base = ap (λ (l : List Object). kind_of l file id) (sym objects_base) ∙ is_kind

    none_attached : accesses_to objects file id ≡ 0
    none_attached = none_to objects file id (kind.Hwpt ioas width automatic) shown.accesses is_kind refl

    -- nobody uses the page table
    none_base : users_at base.rows file id ≡ 0
    none_base =
        let here = shown.counted file id in
        let above = over_spaces objects file id over
        (ap (λ (o : Option ObjectKind). elim o [ Some k ↦ is_ioas k | None ↦ false ]) is_kind) in
        ap (λ (l : List (Row (Held A))). users_at l file id) base_rows
        ∙ still_none table.rows file id ioas its_space.0 its_space.2
        (omega (arith, here, above, none_attached, unused))

    rows : new.rows ≡ removed file id base.rows
    rows = goes (may_go base file id (kind.Hwpt ioas width automatic) kind_base none_base)

    pub table_leaves : ObjectsShown settings closed (without_object file id objects) attachments areas new
    table_leaves = record {
      rows = ap (without_object file id) objects_base ∙ sym (objects-removed base.rows file id)
          ∙ ap (map object_of) (sym rows);
      spaces = λ f i. shown.spaces f i
          ∙ sym (ap (λ (l : List (Row (Held A))). areas_at l f i) rows
          ∙ areas_removed base.rows file id ioas width automatic kind_base f i
          ∙ ap (λ (l : List (Row (Held A))). areas_at l f i) base_rows
          ∙ areas-counted table.rows file ioas (its_space.0.users - 1) f i);
      files = λ number. rw (files, ap (λ (t : Table (Held A)). t.files) others_same) (shown.files number);
      counted = λ f i. ap (λ (l : List (Row (Held A))). users_at l f i) rows
          ∙ users-removed base.rows file id none_base f i
          ∙ ap (λ (l : List (Row (Held A))). users_at l f i) base_rows
          ∙ table_goes objects attachments table.rows shown.counted file ioas id width automatic its_space.0 ids is_kind
          its_space.2 f i;
      accesses = spaces-without objects file id (kind.Hwpt ioas width automatic) ids is_kind none_attached
          shown.accesses;
    }
