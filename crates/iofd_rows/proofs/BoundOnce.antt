-- How many objects bind a device, after objects came or went.
use Rattle.std.proofs.Common.{◌≡◌, ℕ, ◌+◌, ◌≤◌, Bool, true, false, cond, ◌&&◌, eqb, not, Option, Some, None, List, []}
use Rattle.std.proofs.Common.{◌∷◌, refl, sym, ◌∙◌, arith}
use Rattle.std.specs.List.{count_by, filter, find}
use Rattle.std.proofs.lemmas.Bool.Decides.{nat_tests}
use Rattle.iofd_words.specs.Objects.{binding_of, comes_before, is_bound_as, is_bound_device, is_object, kind_of}
use Rattle.iofd_words.specs.Objects.{with_object, without_device_object}
use Rattle.iofd_words.specs.declared.numbers.DeviceNo.{DeviceNo}
use Rattle.iofd_words.specs.declared.numbers.FileNo.{FileNo}
use Rattle.iofd_words.specs.declared.numbers.ObjId.{ObjId}
use Rattle.iofd_words.specs.declared.rows.Object.{Object}
use Rattle.iofd_words.specs.declared.rows.ObjectKind.{ObjectKind}
use Rattle.iofd_words.specs.declared.rows.ObjectKind.TheVariants as kind
use Rattle.iofd_rows.specs.Ids.{AreBoundOnce}
use Rattle.iofd_rows.proofs.Inserted.{count-inserted}
use Rattle.iofd_rows.proofs.PageCounts.{count-cons}

count-filter : {X : Type 0} (p q : X → Bool) (xs : List X) → count_by p (filter q xs) ≤ count_by p xs
count-filter p q [] = omega arith
count-filter p q (x ∷ xs) = rw (count-cons p x xs) (by_test (q x) (count-filter p q xs))
  where
    by_test : (b : Bool) → count_by p (filter q xs) ≤ count_by p xs
        → count_by p (cond b (x ∷ filter q xs) (filter q xs)) ≤ cond (p x) 1 0 + count_by p xs
    by_test true rest = rw (count-cons p x (filter q xs)) (omega (arith, rest))
    by_test false rest = omega (arith, rest)

-- none is found just where none is counted
pub none_counted : {X : Type 0} (p : X → Bool) (xs : List X) → find p xs ≡ None → count_by p xs ≡ 0
none_counted p [] none = refl
none_counted p (x ∷ xs) none = rw (count-cons p x xs) (by_test (p x) none (none_counted p xs))
  where
    by_test : (b : Bool) → cond b (Some x) (find p xs) ≡ None → (find p xs ≡ None → count_by p xs ≡ 0)
        → cond b 1 0 + count_by p xs ≡ 0
    by_test true none later = cc
    by_test false none later = let rest = later none in omega (arith, rest)

pub counted_none : {X : Type 0} (p : X → Bool) (xs : List X) → count_by p xs ≡ 0 → find p xs ≡ None
counted_none p [] none = refl
counted_none p (x ∷ xs) none = by_test (p x) (sym (count-cons p x xs) ∙ none) (counted_none p xs)
  where
    by_test : (b : Bool) → cond b 1 0 + count_by p xs ≡ 0 → (count_by p xs ≡ 0 → find p xs ≡ None)
        → cond b (Some x) (find p xs) ≡ None
    by_test true none later = absurd (more none)
      where
        more : 1 + count_by p xs ≡ 0 → ⊥
        more is = omega (arith, is)
    by_test false none later = later (omega (arith, none))

-- ---- objects come and go

pub once-filter : (keeps : Object → Bool) (objects : List Object) → AreBoundOnce objects
    → AreBoundOnce (filter keeps objects)
once-filter keeps objects once device = let fewer =
    count-filter (λ object. is_bound_as device object.kind) keeps objects in let before =
    once device in omega (arith, fewer, before)

-- one that binds no device that was bound
pub once-with_object : (object : Object) (objects : List Object)
    → ((device : DeviceNo) → is_bound_as device object.kind ≡ true → binding_of objects device ≡ None)
    → AreBoundOnce objects → AreBoundOnce (with_object object objects)
once-with_object object objects free once device =
    rw (count-inserted comes_before (λ (o : Object). is_bound_as device o.kind) object objects)
    (by_test (is_bound_as device object.kind) refl)
  where
    by_test : (b : Bool) → is_bound_as device object.kind ≡ b
        → cond b 1 0 + count_by (λ o. is_bound_as device o.kind) objects ≤ 1
    by_test true binds = let none =
        none_counted (λ (o : Object). is_bound_as device o.kind) objects (free device binds) in rw none (omega arith)
    by_test false other = let before = once device in omega (arith, before)

-- ---- the device of an object that goes is bound no more

pub unbound_after : (objects : List Object) (file : FileNo) (id : ObjId) (device : DeviceNo)
    → kind_of objects file id ≡ Some (kind.Device device) → AreBoundOnce objects
    → binding_of (without_device_object file id objects) device ≡ None
unbound_after objects file id device is once = last_goes objects is (once device)
  where
    binds : Object → Bool
    binds o = is_bound_as device o.kind

    goes : Object → Bool
    goes o = is_object file id o && is_bound_device o.kind

    kind_binds : (k : ObjectKind) → k ≡ kind.Device device → (is_bound_as device k ≡ true) × (is_bound_device k ≡ true)
    kind_binds k is = rw is (eqb_same device.0, refl)
      where
        eqb_same : (n : ℕ) → eqb n n ≡ true
        eqb_same n = grind (arith, nat_tests)

    -- it is among these
    counted : (xs : List Object) → kind_of xs file id ≡ Some (kind.Device device) → 1 ≤ count_by binds xs
    counted [] is = cc
    counted (o ∷ xs) is = rw (count-cons binds o xs) (by_name (is_object file id o) is (counted xs))
      where
        by_name : (b : Bool) → elim (cond b (Some o) (find (is_object file id) xs)) as (λ _. Option ObjectKind)
            [ Some x ↦ Some x.kind | None ↦ None ] ≡ Some (kind.Device device)
            → (kind_of xs file id ≡ Some (kind.Device device) → 1 ≤ count_by binds xs)
            → 1 ≤ cond (binds o) 1 0 + count_by binds xs
        by_name true is later =
            let same : o.kind ≡ kind.Device device = cc in rw (kind_binds o.kind same).0 (omega arith)
        by_name false is later = let rest = later is in omega (arith, rest)

    last_goes : (xs : List Object) → kind_of xs file id ≡ Some (kind.Device device) → count_by binds xs ≤ 1
        → find binds (filter (λ o. not (goes o)) xs) ≡ None
    last_goes [] is few = cc
    last_goes (o ∷ xs) is few = by_name (is_object file id o) refl is (rw (count-cons binds o xs) at few) (last_goes xs)
      where
        none_left : count_by binds xs ≡ 0 → find binds (filter (λ o. not (goes o)) xs) ≡ None
        none_left none =
            let fewer = count-filter binds (λ o. not (goes o)) xs in
            let zero : count_by binds (filter (λ o. not (goes o)) xs) ≡ 0 = omega (arith, fewer, none) in
            counted_none binds (filter (λ o. not (goes o)) xs) zero

        by_name : (b : Bool) → is_object file id o ≡ b
            → elim (cond b (Some o) (find (is_object file id) xs)) as (λ _. Option ObjectKind) [
              | Some x ↦ Some x.kind
              | None ↦ None
            ] ≡ Some (kind.Device device)
            → cond (binds o) 1 0 + count_by binds xs ≤ 1
            → (kind_of xs file id ≡ Some (kind.Device device) → count_by binds xs ≤ 1
            → find binds (filter (λ o. not (goes o)) xs) ≡ None)
            → find binds (cond (not (b && is_bound_device o.kind)) (o ∷ filter (λ o. not (goes o)) xs)
            (filter (λ o. not (goes o)) xs)) ≡ None
        by_name true here is few later =
            let same : o.kind ≡ kind.Device device = cc in
            let parts = kind_binds o.kind same in
            rw parts.1 (none_left (below (rw parts.0 at few)))
          where
            below : 1 + count_by binds xs ≤ 1 → count_by binds xs ≡ 0
            below few = omega (arith, few)
        by_name false here is few later = by_test (binds o) few (counted xs is)
          where
            by_test : (b : Bool) → cond b 1 0 + count_by binds xs ≤ 1 → 1 ≤ count_by binds xs
                → cond b (Some o) (find binds (filter (λ o. not (goes o)) xs)) ≡ None
            by_test true few some = absurd (clash few some)
              where
                clash : 1 + count_by binds xs ≤ 1 → 1 ≤ count_by binds xs → ⊥
                clash few some = omega (arith, few, some)
            by_test false few some = later is (omega (arith, few))
