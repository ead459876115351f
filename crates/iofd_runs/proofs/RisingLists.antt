-- Objects that stand by rising file and id: after one more or fewer, and what a filter keeps of one more.
use Rattle.std.proofs.Common.{◌≡◌, Bool, true, false, cond, List, [], ◌∷◌, refl, sym, arith, Option, ◌∙◌}
use Rattle.std.specs.List.{filter, list_all, list_any}
use Rattle.std.proofs.lemmas.Bool.Decides.{nat_tests}
use Rattle.iofd_words.specs.Objects.{comes_before, is_object, with_object, with_access}
use Rattle.iofd_words.specs.declared.rows.Object.{Object}
use Rattle.iofd_rows.proofs.Bools.{or_false, and_true, both_true}
use Rattle.iofd_rows.proofs.Found.{all_filter, all_weaker}
use Rattle.iofd_rows.proofs.Inserted.{all-inserted}
use Rattle.iofd_rows.proofs.Accesses.{Attaches, IsReattached, Stays, all_reattached, reattached, reattached_is}
use Rattle.iofd_runs.specs.Rising.{objects_rise}
use Rattle.iofd_words.specs.declared.numbers.FileNo.{FileNo}
use Rattle.iofd_words.specs.declared.numbers.ObjId.{ObjId}

-- ---- the order of two objects

-- what comes after a later one comes after it
pub before_through : (a b c : Object) → comes_before a b ≡ true → comes_before b c ≡ true → comes_before a c ≡ true
before_through a b c first then = grind (arith, nat_tests)

-- one of two objects comes before the other, unless they have one file and one id
pub before_or_after : (a b : Object) → is_object a.file a.id b ≡ false → comes_before a b ≡ false
    → comes_before b a ≡ true
before_or_after a b other after = grind (arith, nat_tests)

-- what comes before the first object comes before all
all_after : (object first : Object) (objects : List Object) → comes_before object first ≡ true
    → list_all (comes_before first) objects ≡ true → list_all (comes_before object) objects ≡ true
all_after object first objects before above =
    all_weaker (comes_before first) (comes_before object) objects
    (λ later after. before_through object first later before after) above

-- ---- one more object

-- one that comes before all is the first
pub with_first : (object : Object) (objects : List Object) → list_all (comes_before object) objects ≡ true
    → with_object object objects ≡ object ∷ objects
with_first object [] before = refl
with_first object (o ∷ objects) before =
    rw (and_true (comes_before object o) (list_all (comes_before object) objects) before).0 refl

-- one whose id its file doesn't have
pub rise-with_object : (object : Object) (objects : List Object)
    → list_any (is_object object.file object.id) objects ≡ false → objects_rise objects ≡ true
    → objects_rise (with_object object objects) ≡ true
rise-with_object object [] free rise = refl
rise-with_object object (o ∷ objects) free rise =
    let frees =
    or_false (is_object object.file object.id o) (list_any (is_object object.file object.id) objects) free in
    let rises = and_true (list_all (comes_before o) objects) (objects_rise objects) rise in
    by_order (comes_before object o) refl frees.0 rises.0 (rise-with_object object objects frees.1 rises.1)
  where
    by_order : (b : Bool) → comes_before object o ≡ b → is_object object.file object.id o ≡ false
        → list_all (comes_before o) objects ≡ true → objects_rise (with_object object objects) ≡ true
        → objects_rise (cond b (object ∷ o ∷ objects) (o ∷ with_object object objects)) ≡ true
    by_order true before other above rest =
        both_true _ _ (both_true _ _ before (all_after object o objects before above)) rise
    by_order false after other above rest =
        both_true _ _ (all-inserted comes_before (comes_before o) object objects (before_or_after object o other after)
        above) rest

-- ---- an access object is attached or detached

pub rise-reattached : (file : FileNo) (id : ObjId) (attached : Option ObjId) (objects : List Object)
    → objects_rise objects ≡ true → objects_rise (with_access file id attached objects) ≡ true
rise-reattached file id attached objects rise = same objects ∙ rise
  where
    as_before : (o new : Object) (others : List Object) → IsReattached attached o new
        → list_all (comes_before new) others ≡ list_all (comes_before o) others
    as_before o new others (Stays is) = rw is refl
    as_before o new others (Attaches before is made) = rw made refl

    same : (xs : List Object) → objects_rise (with_access file id attached xs) ≡ objects_rise xs
    same [] = refl
    same (o ∷ xs) =
        rw (
          as_before o (reattached file id attached o) (with_access file id attached xs)
              (reattached_is file id attached o),
          all_reattached file id attached (comes_before o) (λ x before after is. refl) xs,
          same xs,
        ) refl

-- ---- fewer objects

pub rise-filter : (keeps : Object → Bool) (objects : List Object) → objects_rise objects ≡ true
    → objects_rise (filter keeps objects) ≡ true
rise-filter keeps [] rise = refl
rise-filter keeps (o ∷ objects) rise =
    let rises = and_true (list_all (comes_before o) objects) (objects_rise objects) rise in
    by_test (keeps o) (all_filter (comes_before o) keeps objects rises.0) (rise-filter keeps objects rises.1)
  where
    by_test : (b : Bool) → list_all (comes_before o) (filter keeps objects) ≡ true
        → objects_rise (filter keeps objects) ≡ true
        → objects_rise (cond b (o ∷ filter keeps objects) (filter keeps objects)) ≡ true
    by_test true above rest = both_true _ _ above rest
    by_test false above rest = rest

-- ---- what a filter keeps of one more object

-- one that passes is one more of those that pass
pub filter-with_object : (test : Object → Bool) (object : Object) (objects : List Object) → test object ≡ true
    → objects_rise objects ≡ true → filter test (with_object object objects) ≡ with_object object (filter test objects)
filter-with_object test object [] passes rise = rw passes refl
filter-with_object test object (o ∷ objects) passes rise =
    let rises = and_true (list_all (comes_before o) objects) (objects_rise objects) rise in
    by_order (comes_before object o) refl rises.0 (filter-with_object test object objects passes rises.1)
  where
    -- it comes first
    first : comes_before object o ≡ true → list_all (comes_before o) objects ≡ true
        → with_object object (filter test (o ∷ objects)) ≡ object ∷ filter test (o ∷ objects)
    first before above = with_first object (filter test (o ∷ objects))
        (all_filter (comes_before object) test (o ∷ objects)
        (both_true _ _ before (all_after object o objects before above)))

    -- it comes later
    by_test : (b : Bool) → comes_before object o ≡ false
        → filter test (with_object object objects) ≡ with_object object (filter test objects)
        → cond b (o ∷ filter test (with_object object objects)) (filter test (with_object object objects)) ≡ with_object
        object (cond b (o ∷ filter test objects) (filter test objects))
    by_test true after rest = rw (after, rest) refl
    by_test false after rest = rest

    by_order : (b : Bool) → comes_before object o ≡ b → list_all (comes_before o) objects ≡ true
        → filter test (with_object object objects) ≡ with_object object (filter test objects)
        → filter test (cond b (object ∷ o ∷ objects) (o ∷ with_object object objects)) ≡ with_object object
        (filter test (o ∷ objects))
    by_order true before above rest = rw passes (sym (first before above))
    by_order false after above rest = by_test (test o) after rest
