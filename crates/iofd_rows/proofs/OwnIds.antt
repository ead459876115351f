-- An id that is fresh is no object's, and ids stay those of one object each where objects come with fresh ids, and go.
use Rattle.std.proofs.Common.{◌≡◌, Bool, true, false, cond, ◌||◌, not, Option, Some, None, List, [], ◌∷◌, refl, sym}
use Rattle.std.proofs.Common.{◌∙◌, arith, is_some}
use Rattle.std.specs.List.{filter, find, list_any}
use Rattle.std.proofs.lemmas.Bool.Decides.{nat_tests}
use Rattle.iofd_rows.specs.Ids.{have_own_ids}
use Rattle.iofd_words.specs.Objects.{comes_before, is_fresh, is_object, kind_of, with_object}
use Rattle.iofd_words.specs.Settings.{is_between}
use Rattle.iofd_words.specs.declared.numbers.FileNo.{FileNo}
use Rattle.iofd_words.specs.declared.numbers.ObjId.{ObjId}
use Rattle.iofd_words.specs.declared.rows.Object.{Object}
use Rattle.iofd_words.specs.declared.rows.ObjectKind.{ObjectKind}
use Rattle.iofd_rows.proofs.Bools.{or_false, and_true, both_false, not_true}
use Rattle.iofd_rows.proofs.Inserted.{any-inserted}

-- ---- an unused id

pub any_found : {X : Type 0} (p : X → Bool) (xs : List X) → list_any p xs ≡ is_some (find p xs)
any_found p [] = refl
any_found p (x ∷ xs) = by_test (p x) (any_found p xs)
  where
    by_test : (b : Bool) → list_any p xs ≡ is_some (find p xs)
        → (b || list_any p xs) ≡ is_some (cond b (Some x) (find p xs))
    by_test true rest = refl
    by_test false rest = rest

kind_found : (o : Option Object) → is_some {T = ObjectKind}
    (elim o [ Some object ↦ Some object.kind | None ↦ None ]) ≡ is_some o
kind_found (Some object) = refl
kind_found None = refl

pub unused : (objects : List Object) (file : FileNo) (id : ObjId) → is_fresh objects file id ≡ true
    → list_any (is_object file id) objects ≡ false
unused objects file id fresh =
    let parts = and_true (is_between 1 0x7fff_ffff id.0) (not (is_some (kind_of objects file id))) fresh in
    any_found (is_object file id) objects ∙ sym (kind_found (find (is_object file id) objects)) ∙ not_true _ parts.1

-- ---- one more object

same_both : (a b : Object) → is_object a.file a.id b ≡ is_object b.file b.id a
same_both a b = grind (arith, nat_tests)

pub own_ids-with_object : (x : Object) (objects : List Object) → list_any (is_object x.file x.id) objects ≡ false
    → have_own_ids objects ≡ true → have_own_ids (with_object x objects) ≡ true
own_ids-with_object x [] free own = refl
own_ids-with_object x (o ∷ objects) free own =
    let frees = or_false (is_object x.file x.id o) (list_any (is_object x.file x.id) objects) free in
    let owns = and_true (not (list_any (is_object o.file o.id) objects)) (have_own_ids objects) own in
    let others : list_any (is_object o.file o.id) (with_object x objects) ≡ false =
    any-inserted comes_before (is_object o.file o.id) x objects
    ∙ both_false _ _ (same_both o x ∙ frees.0) (not_true _ owns.0) in
    added (comes_before x o) (rw (free, own) refl) (rw (others, own_ids-with_object x objects frees.1 owns.1) refl)
  where
    added : (b : Bool) → have_own_ids (x ∷ o ∷ objects) ≡ true → have_own_ids (o ∷ with_object x objects) ≡ true
        → have_own_ids (cond b (x ∷ o ∷ objects) (o ∷ with_object x objects)) ≡ true
    added true first later = first
    added false first later = later

-- ---- fewer objects

any-filter : (q : Object → Bool) (objects : List Object) (file : FileNo) (id : ObjId)
    → list_any (is_object file id) objects ≡ false → list_any (is_object file id) (filter q objects) ≡ false
any-filter q [] file id free = refl
any-filter q (o ∷ objects) file id free =
    let frees = or_false (is_object file id o) (list_any (is_object file id) objects) free in
    kept (q o) frees.0 (any-filter q objects file id frees.1)
  where
    kept : (b : Bool) → is_object file id o ≡ false → list_any (is_object file id) (filter q objects) ≡ false
        → list_any (is_object file id) (cond b (o ∷ filter q objects) (filter q objects)) ≡ false
    kept true here rest = rw here rest
    kept false here rest = rest

pub own_ids-filter : (q : Object → Bool) (objects : List Object) → have_own_ids objects ≡ true
    → have_own_ids (filter q objects) ≡ true
own_ids-filter q [] own = refl
own_ids-filter q (o ∷ objects) own =
    let owns = and_true (not (list_any (is_object o.file o.id) objects)) (have_own_ids objects) own in
    kept (q o) (any-filter q objects o.file o.id (not_true _ owns.0)) (own_ids-filter q objects owns.1)
  where
    kept : (b : Bool) → list_any (is_object o.file o.id) (filter q objects) ≡ false
        → have_own_ids (filter q objects) ≡ true
        → have_own_ids (cond b (o ∷ filter q objects) (filter q objects)) ≡ true
    kept true here rest = rw (here, rest) refl
    kept false here rest = rest
