-- Which address spaces have a page table, after objects came or went.
use Rattle.std.proofs.Common.{◌≡◌, Bool, true, false, ◌&&◌, ◌||◌, not, eqb, List, refl, ap, sym, ◌∙◌}
use Rattle.std.specs.List.{filter}
use Rattle.std.proofs.lemmas.Bool.{eqb-true}
use Rattle.iofd_words.specs.Objects.{comes_before, has_hwpt, is_bound_device, is_hwpt_over, is_object, with_object}
use Rattle.iofd_words.specs.Objects.{without_device_object}
use Rattle.iofd_words.specs.declared.numbers.FileNo.{FileNo}
use Rattle.iofd_words.specs.declared.numbers.ObjId.{ObjId}
use Rattle.iofd_words.specs.declared.rows.Object.{Object}
use Rattle.iofd_words.specs.declared.rows.ObjectKind.{ObjectKind}
use Rattle.iofd_words.specs.declared.rows.ObjectKind.TheVariants as kind
use Rattle.iofd_rows.proofs.Bools.{and_true, both_true}
use Rattle.iofd_rows.proofs.Inserted.{any-inserted}
use Rattle.iofd_rows.proofs.ListTests.{alike, any-filter, any_weaker}

-- one more object
pub hwpt-with_object : (x : Object) (objects : List Object) (file : FileNo) (ioas : ObjId)
    → has_hwpt (with_object x objects) file ioas ≡ ((eqb x.file.0 file.0 && is_hwpt_over ioas x.kind)
    || has_hwpt objects file ioas)
hwpt-with_object x objects file ioas =
    any-inserted comes_before (λ (o : Object). eqb o.file.0 file.0 && is_hwpt_over ioas o.kind) x objects

-- one that is no page table
pub same_hwpt : (x : Object) (objects : List Object) (file : FileNo) (ioas : ObjId) → is_hwpt_over ioas x.kind ≡ false
    → has_hwpt (with_object x objects) file ioas ≡ has_hwpt objects file ioas
same_hwpt x objects file ioas none = hwpt-with_object x objects file ioas ∙ rw none (by_file (eqb x.file.0 file.0))
  where
    by_file : (b : Bool) → ((b && false) || has_hwpt objects file ioas) ≡ has_hwpt objects file ioas
    by_file true = refl
    by_file false = refl

-- fewer objects
pub hwpt-filter : (q : Object → Bool) (objects : List Object) (file : FileNo) (ioas : ObjId)
    → has_hwpt (filter q objects) file ioas ≡ true → has_hwpt objects file ioas ≡ true
hwpt-filter q objects file ioas has =
    any_weaker (λ o. q o && (eqb o.file.0 file.0 && is_hwpt_over ioas o.kind)) (λ (o : Object). eqb o.file.0 file.0
    && is_hwpt_over ioas o.kind) objects (λ o both.
    (and_true (q o) (eqb o.file.0 file.0 && is_hwpt_over ioas o.kind) both).1)
    (sym (any-filter (λ (o : Object). eqb o.file.0 file.0 && is_hwpt_over ioas o.kind) q objects) ∙ has)

-- without a device's object
pub hwpt-unbound : (objects : List Object) (device_file : FileNo) (id : ObjId) (file : FileNo) (ioas : ObjId)
    → has_hwpt (without_device_object device_file id objects) file ioas ≡ has_hwpt objects file ioas
hwpt-unbound objects device_file id file ioas =
    alike _ _ (hwpt-filter stays objects file ioas)
    (λ has. any-filter is_table stays objects
    ∙ any_weaker is_table (λ o. stays o && is_table o) objects
    (λ o table. both_true _ _ (no_device o.kind (is_object device_file id o)
    (and_true (eqb o.file.0 file.0) (is_hwpt_over ioas o.kind) table).1) table) has)
  where
    stays : Object → Bool
    stays o = not (is_object device_file id o && is_bound_device o.kind)

    is_table : Object → Bool
    is_table o = eqb o.file.0 file.0 && is_hwpt_over ioas o.kind

    no_device : (k : ObjectKind) (named : Bool) → is_hwpt_over ioas k ≡ true → not (named && is_bound_device k) ≡ true
    no_device (kind.Hwpt over width automatic) true table = refl
    no_device k false table = refl
    no_device kind.Ioas true table = cc
    no_device (kind.Device device) true table = cc
    no_device (kind.Access attached) true table = cc

-- the same address spaces, by the numbers that name them
pub hwpt_alike : (objects : List Object) (file own : FileNo) (ioas over : ObjId) → eqb file.0 own.0 ≡ true
    → eqb ioas.0 over.0 ≡ true → has_hwpt objects own over ≡ has_hwpt objects file ioas
hwpt_alike objects file own ioas over file_is ioas_is =
    let files : file.0 ≡ own.0 = eqb-true file.0 own.0 file_is in
    let spaces : ioas.0 ≡ over.0 = eqb-true ioas.0 over.0 ioas_is in
    let same_file : record { 0 = own.0 } ≡ record { 0 = file.0 } =
    ap (λ n. let f : FileNo = record { 0 = n } in f) (sym files) in
    let same_space : record { 0 = over.0 } ≡ record { 0 = ioas.0 } =
    ap (λ n. let i : ObjId = record { 0 = n } in i) (sym spaces) in
    ap (λ f. has_hwpt objects f over) same_file ∙ ap (has_hwpt objects file) same_space
