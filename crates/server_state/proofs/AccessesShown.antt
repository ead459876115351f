-- What is kept goes on to show the world as an access object is attached or detached.
use Rattle.std.proofs.Common.{◌≡◌, ℕ, ◌+◌, ◌-◌, ◌<◌, Bool, true, false, cond, ◌&&◌, not, eqb, Option, Some}
use Rattle.std.proofs.Common.{None, List, [], ◌∷◌, refl, sym, ◌∙◌, ap, arith}
use Rattle.std.specs.List.{count_by, find, list_any}
use Rattle.std.proofs.lemmas.Bool.Decides.{nat_tests}
use Rattle.iofd_rows.proofs.Accesses.{IsReattached, Stays, Attaches, count_reattached, found_reattached}
use Rattle.iofd_rows.proofs.Accesses.{hwpt-reattached, reattached, reattached_is, test_reattached}
use Rattle.iofd_rows.proofs.Bools.{and_true, clash, not_true}
use Rattle.iofd_rows.proofs.Named.{file_is, id_is}
use Rattle.iofd_rows.specs.Ids.{have_own_ids}
use Rattle.iofd_words.specs.Objects.{has_ioas, is_access, is_access_to, is_bound_as, is_hwpt, is_hwpt_over}
use Rattle.iofd_words.specs.Objects.{is_ioas, is_object, kind_of, with_access}
use Rattle.iofd_words.specs.World.{World}
use Rattle.iofd_words.specs.declared.numbers.FileNo.{FileNo}
use Rattle.iofd_words.specs.declared.numbers.ObjId.{ObjId}
use Rattle.iofd_words.specs.declared.rows.Object.{Object}
use Rattle.iofd_words.specs.declared.rows.ObjectKind.{ObjectKind}
use Rattle.iofd_words.specs.declared.rows.ObjectKind.TheVariants as kind
use Rattle.object_table.specs.Table.{Table}
use Rattle.user_memory_rows.proofs.FramesFollow.{pins_moved, translated_same}
use Rattle.user_memory_rows.proofs.CountBy.{count-cons}
use Rattle.server_state.proofs.AccessesHeld.{unattached_there}
use Rattle.server_state.proofs.Counted.{counts_of, same_named, to_by}
use Rattle.server_state.specs.Accesses.{HasAccess, one_at}
use Rattle.server_state.specs.Shows.{Shows}
use Rattle.server_state.specs.Spaces.{is_space}
use Rattle.server_state.specs.Step.{IsTidy}
use Rattle.server_state.specs.Tables.{page_tables_among}
use Rattle.server_state.specs.Users.{accesses_to, tables_over, users_at}
use Rattle.server_state.specs.declared.held.Held.{Held}
use Rattle.server_state.specs.declared.state.State.{State}
use Rattle.iofd_runs.proofs.Accessed.{HoldersStay, each_held}
use Rattle.server_state.proofs.AccessPinsStay.{covered_still, shown_still}

-- ---- objects

-- the page tables stay
same_tables : (objects : List Object) (file : FileNo) (id : ObjId) (attached : Option ObjId)
    → page_tables_among (with_access file id attached objects) ≡ page_tables_among objects
same_tables [] file id attached = refl
same_tables (o ∷ objects) file id attached =
    by_change (reattached file id attached o) (reattached_is file id attached o) (same_tables objects file id attached)
  where
    by_change : (new : Object) → IsReattached attached o new
        → page_tables_among (with_access file id attached objects) ≡ page_tables_among objects
        → cond (is_hwpt new.kind) (new ∷ page_tables_among (with_access file id attached objects))
        (page_tables_among (with_access file id attached objects))
        ≡ cond (is_hwpt o.kind) (o ∷ page_tables_among objects) (page_tables_among objects)
    by_change new (Stays is) rest = rw (is, rest) refl
    by_change new (Attaches before is made) rest = rw (made, is) rest

-- ---- users

tables_same : (objects : List Object) (file : FileNo) (id : ObjId) (attached : Option ObjId) (f : FileNo) (i : ObjId)
    → tables_over (with_access file id attached objects) f i ≡ tables_over objects f i
tables_same objects file id attached f i =
    count_reattached file id attached (λ o. eqb o.file.0 f.0 && is_hwpt_over i o.kind)
    (λ o before after is. ap (λ k. eqb o.file.0 f.0 && is_hwpt_over i k) (sym is)) objects

-- an attachment comes in place of another
accesses_changed : (objects : List Object) (file : FileNo) (id : ObjId) (before attached : Option ObjId) (f : FileNo)
    (i : ObjId) → have_own_ids objects ≡ true → kind_of objects file id ≡ Some (kind.Access before)
    → accesses_to (with_access file id attached objects) f i + to_by file (kind.Access before) f i
    ≡ to_by file (kind.Access attached) f i + accesses_to objects f i
accesses_changed [] file id before attached f i ids is = cc
accesses_changed (o ∷ objects) file id before attached f i ids is =
    let owns = and_true (not (list_any (is_object o.file o.id) objects)) (have_own_ids objects) ids in
    by_test (is_object file id o) refl (not_true _ owns.0) is
    (λ later. accesses_changed objects file id before attached f i owns.1 later)
  where
    passes : Object → Bool
    passes o = eqb o.file.0 f.0 && is_access_to i o.kind

    new : Object
    new = record o { kind = kind.Access attached }

    turned : Bool → Object
    turned b = cond (b && is_access o.kind) new o

    rest : List Object
    rest = with_access file id attached objects

    by_test : (b : Bool) → is_object file id o ≡ b → list_any (is_object o.file o.id) objects ≡ false
        → elim (cond b (Some o) (find (is_object file id) objects)) as (λ _. Option ObjectKind)
        [ Some x ↦ Some x.kind | None ↦ None ] ≡ Some (kind.Access before)
        → (kind_of objects file id ≡ Some (kind.Access before)
        → count_by passes rest + to_by file (kind.Access before) f i
        ≡ to_by file (kind.Access attached) f i + count_by passes objects)
        → count_by passes (turned b ∷ rest) + to_by file (kind.Access before) f i
        ≡ to_by file (kind.Access attached) f i + count_by passes (o ∷ objects)
    by_test true named none is later =
        let names = and_true (eqb o.file.0 file.0) (eqb o.id.0 id.0) named in
        let of_file = file_is o.file file names.0 in
        let was : o.kind ≡ kind.Access before = cc in
        let gone : rest ≡ objects =
        unattached_there objects file id attached (sym (same_named o file id objects named) ∙ none) in
        let first : turned true ≡ new = ap (λ (k : ObjectKind). cond (is_access k) new o) was in
        let now : count_by passes (turned true ∷ rest) ≡ count_by passes (new ∷ objects) =
        ap (λ (x : Object). count_by passes (x ∷ rest)) first
        ∙ ap (λ (l : List Object). count_by passes (new ∷ l)) gone in
        let all = count-cons passes o objects in
        let left = count-cons passes new objects in
        let old_one : cond (passes o) 1 0 ≡ to_by file (kind.Access before) f i =
        ap (λ (x : FileNo). to_by x o.kind f i) of_file ∙ ap (λ (k : ObjectKind). to_by file k f i) was in
        let new_one : cond (passes new) 1 0 ≡ to_by file (kind.Access attached) f i =
        ap (λ (x : FileNo). to_by x (kind.Access attached) f i) of_file in
        omega (arith, now, all, left, old_one, new_one)
    by_test false named none is later =
        let same = later is in
        let all = count-cons passes o objects in
        let left = count-cons passes o rest in
        omega (arith, same, all, left)

-- one that is attached to this address space
to_one : (file : FileNo) (ioas : ObjId) (f : FileNo) (i : ObjId)
    → to_by file (kind.Access (Some ioas)) f i ≡ one_at file ioas f i
to_one file ioas f i = same file.0 f.0 ioas.0 i.0
  where
    same : (a b c d : ℕ) → ◌≡◌ {A = ℕ} (cond (eqb a b && eqb c d) 1 0) (cond (eqb b a && eqb d c) 1 0)
    same a b c d = grind (arith, nat_tests)

to_none : (file : FileNo) (f : FileNo) (i : ObjId) → to_by file (kind.Access None) f i ≡ 0
to_none file f i = by_file (eqb file.0 f.0)
  where
    by_file : (b : Bool) → ◌≡◌ {A = ℕ} (cond (b && false) 1 0) 0
    by_file true = refl
    by_file false = refl

-- ---- the whole

module _ {A : Type 0} (at : ℕ) (w : World) (s : State A) (file : FileNo) (id : ObjId) (before : Option ObjId)
    (table : Table (Held A)) (tidy : IsTidy at w) (shows : Shows w s)
    (is : kind_of w.objects file id ≡ Some (kind.Access before)) where
  reattached_shown : (attached : Option ObjId) (counts : FileNo → ObjId → ℕ)
      → HasAccess file id attached counts s.objects table
      → ((f : FileNo) (i : ObjId)
      → counts f i ≡ counts_of (with_access file id attached w.objects) w.attachments f i)
      → ((f : FileNo) (i : ObjId) → has_ioas w.objects f i ≡ false
      → accesses_to (with_access file id attached w.objects) f i ≡ 0)
      → HoldersStay w.objects (with_access file id attached w.objects) w.access_pins
      → Shows (record w { objects = with_access file id attached w.objects }) (record s { objects = table })
  reattached_shown attached counts has counted spaces stay =
      record {
        settings = shows.settings;
        limits = shows.limits;
        dirty = shows.dirty;
        allowed = shows.allowed;
        objects = record {
          rows = ap (with_access file id attached) shows.objects.rows ∙ sym has.objects;
          spaces = λ f i. shows.objects.spaces f i ∙ sym (has.areas f i);
          files = λ number. rw has.files (shows.objects.files number);
          counted = λ f i. has.users f i ∙ counted f i;
          accesses = λ f i none. spaces f i
              (sym (test_reattached file id attached is_ioas (λ a b. refl) w.objects f i) ∙ none);
        };
        devices = record {
          bindings = λ device.
              found_reattached file id attached (λ object. is_bound_as device object.kind)
              (λ o was is. ap (is_bound_as device) is) w.objects
              ∙ shows.devices.bindings device;
          rising = shows.devices.rising;
          attached = shows.devices.attached;
        };
        users = shows.users;
        pins = pins_moved w.objects (with_access file id attached w.objects) w.areas w.areas w.memory w.pins
            w.access_pins s.memory shows.pins (λ number. refl)
            (translated_same w.objects (with_access file id attached w.objects) w.areas
            (λ own ioas. hwpt-reattached file id attached w.objects own ioas))
            (covered_still w (with_access file id attached w.objects) tidy.pins stay);
        access_pins = shown_still w.objects (with_access file id attached w.objects) w.areas w.access_pins s.access_pins
            stay (each_held w.objects w.areas w.access_pins tidy.pins.held) shows.access_pins;
        frames = shows.frames;
        tables = record {
          tables = shows.tables.tables ∙ sym (same_tables w.objects file id attached);
          widths = shows.tables.widths;
          stand = shows.tables.stand;
        };
      }

  -- an object that was attached to nothing is attached to an address space
  pub attached_shown : (ioas : ObjId) → before ≡ None → has_ioas w.objects file ioas ≡ true
      → HasAccess file id (Some ioas) (λ f i. one_at file ioas f i + users_at s.objects.rows f i) s.objects table
      → HoldersStay w.objects (with_access file id (Some ioas) w.objects) w.access_pins
      → Shows (record w { objects = with_access file id (Some ioas) w.objects }) (record s { objects = table })
  attached_shown ioas none space has stay =
      reattached_shown (Some ioas) (λ f i. one_at file ioas f i + users_at s.objects.rows f i) has
      (λ f i.
      let same = tables_same w.objects file id (Some ioas) f i in
      let all = more f i in
      let was = shows.objects.counted f i in
      omega (arith, same, all, was))
      (λ f i other.
      let all = more f i in
      let was = shows.objects.accesses f i other in
      let away = elsewhere f i other in
      omega (arith, all, was, away)) stay
    where
      more : (f : FileNo) (i : ObjId) → accesses_to (with_access file id (Some ioas) w.objects) f i
          ≡ one_at file ioas f i + accesses_to w.objects f i
      more f i =
          let all = accesses_changed w.objects file id before (Some ioas) f i tidy.ids is in
          let one = to_one file ioas f i in
          let old : to_by file (kind.Access before) f i ≡ 0 =
          ap (λ (o : Option ObjId). to_by file (kind.Access o) f i) none ∙ to_none file f i in
          omega (arith, all, one, old)

      elsewhere : (f : FileNo) (i : ObjId) → has_ioas w.objects f i ≡ false → one_at file ioas f i ≡ 0
      elsewhere f i other = by_name (is_space file ioas f i) refl
        where
          by_name : (b : Bool) → is_space file ioas f i ≡ b → ◌≡◌ {A = ℕ} (cond b 1 0) 0
          by_name true here =
              let names = and_true (eqb f.0 file.0) (eqb i.0 ioas.0) here in
              let there : has_ioas w.objects f i ≡ true =
              rw (file_is f file names.0, id_is i ioas names.1) space in
              absurd (clash _ other there)
          by_name false here = refl

  -- one that was attached to an address space is attached to nothing
  pub detached_shown : (ioas : ObjId) → before ≡ Some ioas
      → HasAccess file id None (λ f i. users_at s.objects.rows f i - one_at file ioas f i) s.objects table
      → HoldersStay w.objects (with_access file id None w.objects) w.access_pins
      → Shows (record w { objects = with_access file id None w.objects }) (record s { objects = table })
  detached_shown ioas some has stay =
      reattached_shown None (λ f i. users_at s.objects.rows f i - one_at file ioas f i) has
      (λ f i.
      let same = tables_same w.objects file id None f i in
      let all = fewer f i in
      let was = shows.objects.counted f i in
      omega (arith, same, all, was))
      (λ f i other.
      let all = fewer f i in
      let was = shows.objects.accesses f i other in
      omega (arith, all, was)) stay
    where
      fewer : (f : FileNo) (i : ObjId) → accesses_to (with_access file id None w.objects) f i + one_at file ioas f i
          ≡ accesses_to w.objects f i
      fewer f i =
          let all = accesses_changed w.objects file id before None f i tidy.ids is in
          let none = to_none file f i in
          let old : to_by file (kind.Access before) f i ≡ one_at file ioas f i =
          ap (λ (o : Option ObjId). to_by file (kind.Access o) f i) some ∙ to_one file ioas f i in
          omega (arith, all, none, old)

  -- its address space is there, and has it as a user
  pub attached_space : (ioas : ObjId) → before ≡ Some ioas
      → (has_ioas w.objects file ioas ≡ true) × (0 < users_at s.objects.rows file ioas)
  attached_space ioas some = (by_space (has_ioas w.objects file ioas) refl, counted)
    where
      itself : one_at file ioas file ioas ≡ 1
      itself = ap (λ (b : Bool). let n : ℕ = cond b 1 0 in n) here
        where
          here : is_space file ioas file ioas ≡ true
          here = grind (arith, nat_tests)

      positive : 0 < accesses_to w.objects file ioas
      positive =
          let all = accesses_changed w.objects file id before None file ioas tidy.ids is in
          let none = to_none file file ioas in
          let old : to_by file (kind.Access before) file ioas ≡ one_at file ioas file ioas =
          ap (λ (o : Option ObjId). to_by file (kind.Access o) file ioas) some ∙ to_one file ioas file ioas in
          omega (arith, all, none, old, itself)

      counted : 0 < users_at s.objects.rows file ioas
      counted = let was = shows.objects.counted file ioas in omega (arith, was, positive)

      by_space : (b : Bool) → has_ioas w.objects file ioas ≡ b → has_ioas w.objects file ioas ≡ true
      by_space true has = has
      by_space false has = let none = shows.objects.accesses file ioas has in absurd (omega (arith, none, positive))
