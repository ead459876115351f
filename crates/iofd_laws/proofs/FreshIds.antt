-- A file that isn't full has an id that may be given out: so many numbers can't all be taken.
use Rattle.std.proofs.Common.{◌≡◌, ℕ, zero, suc, ◌+◌, ◌<◌, ◌≤◌, Bool, true, false, cond, ◌||◌, ◌&&◌, not, eqb, Option}
use Rattle.std.proofs.Common.{Some, None, List, [], ◌∷◌, map, length, is_some, refl, ap, arith}
use Rattle.std.specs.List.{filter, find, list_any}
use Rattle.std.proofs.lemmas.Bool.Decides.{nat_tests}
use Rattle.iofd_rows.proofs.Bools.{both_true, not_false, or_false}
use Rattle.iofd_words.specs.Objects.{is_fresh, is_full, is_object, kind_of, objects_of}
use Rattle.iofd_words.specs.Settings.{is_between}
use Rattle.iofd_words.specs.declared.numbers.FileNo.{FileNo}
use Rattle.iofd_words.specs.declared.numbers.ObjId.{ObjId}
use Rattle.iofd_words.specs.declared.rows.Object.{Object}
use Rattle.iofd_words.specs.declared.rows.ObjectKind.{ObjectKind}

-- ---- a number that isn't taken

abbrev without : ℕ → List ℕ → List ℕ
without n taken = filter (λ i. not (eqb i n)) taken

shorter : (p : ℕ → Bool) (xs : List ℕ) → length (filter p xs) ≤ length xs
shorter p [] = omega arith
shorter p (x ∷ xs) = by_test (p x) (shorter p xs)
  where
    by_test : (b : Bool) → length (filter p xs) ≤ length xs
        → length (cond b (x ∷ filter p xs) (filter p xs)) ≤ length (x ∷ xs)
    by_test true rest = omega (arith, rest)
    by_test false rest = omega (arith, rest)

-- one that is there goes
fewer : (n : ℕ) (taken : List ℕ) → list_any (λ i. eqb i n) taken ≡ true → length (without n taken) + 1 ≤ length taken
fewer n [] has = cc
fewer n (i ∷ taken) has = by_test (eqb i n) has (λ later. fewer n taken later)
  where
    by_test : (b : Bool) → (b || list_any (λ i. eqb i n) taken) ≡ true
        → (list_any (λ i. eqb i n) taken ≡ true → length (without n taken) + 1 ≤ length taken)
        → length (cond (not b) (i ∷ without n taken) (without n taken)) + 1 ≤ length (i ∷ taken)
    by_test true has later = let most = shorter (λ i. not (eqb i n)) taken in omega (arith, most)
    by_test false has later = let rest = later has in omega (arith, rest)

-- another one is among what is left, if it was there
not_taken : (n k : ℕ) (taken : List ℕ) → n < k → list_any (λ i. eqb i k) (without n taken) ≡ false
    → list_any (λ i. eqb i k) taken ≡ false
not_taken n k [] less none = refl
not_taken n k (i ∷ taken) less none = by_test (eqb i n) refl none (λ later. not_taken n k taken less later)
  where
    by_test : (b : Bool) → eqb i n ≡ b → list_any (λ i. eqb i k) (cond (not b) (i ∷ without n taken) (without n taken))
        ≡ false → (list_any (λ i. eqb i k) (without n taken) ≡ false → list_any (λ i. eqb i k) taken ≡ false)
        → (eqb i k || list_any (λ i. eqb i k) taken) ≡ false
    by_test true is none later = let other : eqb i k ≡ false = grind (arith, nat_tests) in rw (other, later none) refl
    by_test false is none later = let parts =
        or_false (eqb i k) (list_any (λ i. eqb i k) (without n taken)) none in rw (parts.0, later parts.1) refl

record IsLeft (from count : ℕ) (taken : List ℕ) : Type 0 where
  number : ℕ
  low : from ≤ number
  high : number < from + count
  none : list_any (λ i. eqb i number) taken ≡ false

-- of more numbers than are taken one is left
left : (from count : ℕ) (taken : List ℕ) → length taken < count → IsLeft from count taken
left from zero taken few = absurd (omega (arith, few))
left from (suc count) taken few =
    by_test (list_any (λ i. eqb i from) taken) refl (λ others less. left (from + 1) count others less)
  where
    by_test : (b : Bool) → list_any (λ i. eqb i from) taken ≡ b
        → ((others : List ℕ) → length others < count → IsLeft (from + 1) count others) → IsLeft from (suc count) taken
    by_test false none next = record { number = from; low = omega arith; high = omega arith; none = none }
    by_test true has next =
        let fewer_left = fewer from taken has in
        let rest = next (without from taken) (omega (arith, few, fewer_left)) in
        record {
          number = rest.number;
          low = omega (arith, rest.low);
          high = omega (arith, rest.high);
          none = not_taken from rest.number taken (omega (arith, rest.low)) rest.none;
        }

-- ---- an id

-- the file has no object of an id that isn't among those of its objects
no_object : (objects : List Object) (file : FileNo) (id : ObjId)
    → list_any (λ i. eqb i id.0) (map (λ (o : Object). o.id.0) (objects_of objects file)) ≡ false
    → find (is_object file id) objects ≡ None
no_object [] file id none = refl
no_object (o ∷ objects) file id none = by_test (eqb o.file.0 file.0) none (λ later. no_object objects file id later)
  where
    by_test : (b : Bool) → list_any (λ i. eqb i id.0)
        (map (λ (x : Object). x.id.0) (cond b (o ∷ objects_of objects file) (objects_of objects file))) ≡ false
        → (list_any (λ i. eqb i id.0) (map (λ (x : Object). x.id.0) (objects_of objects file)) ≡ false
        → find (is_object file id) objects ≡ None)
        → cond (b && eqb o.id.0 id.0) (Some o) (find (is_object file id) objects) ≡ None
    by_test true none later = let parts = or_false (eqb o.id.0 id.0)
        (list_any (λ i. eqb i id.0) (map (λ (x : Object). x.id.0) (objects_of objects file))) none in
        rw parts.0 (later parts.1)
    by_test false none later = later none

length_ids : (objects : List Object) → length (map (λ (o : Object). o.id.0) objects) ≡ length objects
length_ids [] = refl
length_ids (o ∷ objects) = rw (length_ids objects) refl

no_kind : (objects : List Object) (file : FileNo) (id : ObjId)
    → list_any (λ i. eqb i id.0) (map (λ (o : Object). o.id.0) (objects_of objects file)) ≡ false
    → is_some (kind_of objects file id) ≡ false
no_kind objects file id none = ap (λ (o : Option Object). is_some
    (elim o as (λ _. Option ObjectKind) [ Some object ↦ Some object.kind | None ↦ None ]))
    (no_object objects file id none)

in_range : (n : ℕ) → 1 ≤ n → n < 65536 → is_between 1 2147483647 n ≡ true
in_range n low high = grind (arith, nat_tests)

pub fresh_id : (objects : List Object) (file : FileNo) → is_full objects file ≡ false
    → (id : ObjId) × (is_fresh objects file id ≡ true)
fresh_id objects file roomy =
    let few : length (objects_of objects file) < 65535 = search (roomy, arith, nat_tests) in
    let same = length_ids (objects_of objects file) in
    fresh (left 1 65535 (map (λ (o : Object). o.id.0) (objects_of objects file)) (omega (arith, few, same)))
  where
    fresh : IsLeft 1 65535 (map (λ (o : Object). o.id.0) (objects_of objects file))
        → (id : ObjId) × (is_fresh objects file id ≡ true)
    fresh one =
        let id : ObjId = record { 0 = one.number } in
        (id, both_true _ _ (in_range one.number one.low one.high) (not_false _ (no_kind objects file id one.none)))
