-- Memory objects by rising number: where one of them stands.
use Rattle.std.proofs.Common.{◌≡◌, ℕ, zero, suc, ◌+◌, ◌≤◌, Bool, true, false, cond, eqb, ltb, Option, Some, None, List}
use Rattle.std.proofs.Common.{[], ◌∷◌, length, refl, ap, ◌∙◌, arith, ⊎_elim}
use Rattle.std.specs.List.{AllWithin, find, list_all, prefix_len, slice_get}
use Rattle.std.specs.List.Sorted.{IsPartitionedBy}
use Rattle.std.proofs.lemmas.Bool.{and_parts, cases_Bool}
use Rattle.std.proofs.lemmas.Bool.Decides.{nat_tests}
use Rattle.std.proofs.lemmas.List.Sums.{AllPass-from_list_all}
use Rattle.memory_objects.specs.Objects.{MemoryEntry, are_rising, is_numbered, object_at}

pub rising_parts : (x : MemoryEntry) (objects : List MemoryEntry) → are_rising (x ∷ objects) ≡ true
    → (list_all (λ next. ltb x.number next.number) objects ≡ true) × (are_rising objects ≡ true)
rising_parts x objects rising =
    and_parts (list_all (λ next. ltb x.number next.number) objects) (are_rising objects) rising

pub partitioned : (number : ℕ) (objects : List MemoryEntry) → are_rising objects ≡ true
    → IsPartitionedBy (λ (o : MemoryEntry). ltb o.number number) objects
partitioned number [] rising i j d up within holds = absurd (omega (arith, within))
partitioned number (x ∷ objects) rising zero zero d up within holds = holds
partitioned number (x ∷ objects) rising zero (suc j) d up within holds =
    let later = AllPass-from_list_all (λ (next : MemoryEntry). ltb x.number next.number) objects
    (rising_parts x objects rising).0 j d (omega (arith, within)) in
    grind (arith, nat_tests)
partitioned number (x ∷ objects) rising (suc i) zero d up within holds = absurd (omega (arith, up))
partitioned number (x ∷ objects) rising (suc i) (suc j) d up within holds =
    partitioned number objects (rising_parts x objects rising).1 i j d (omega (arith, up)) (omega (arith, within)) holds

pub prefix_len-from_within : (p : MemoryEntry → Bool) (objects : List MemoryEntry) (i : ℕ) → i ≤ length objects
    → AllWithin (λ y. p y ≡ true) objects 0 i → AllWithin (λ y. p y ≡ false) objects i (length objects)
    → i ≡ prefix_len p objects
prefix_len-from_within p [] i within passing failing = omega arith
prefix_len-from_within p (x ∷ objects) zero within passing failing =
    let here : p x ≡ false = failing 0 x (omega arith) (omega arith) in
    grind (arith, nat_tests)
prefix_len-from_within p (x ∷ objects) (suc i) within passing failing =
    let here : p x ≡ true = passing 0 x (omega arith) (omega arith) in
    let rest = prefix_len-from_within p objects i (omega arith)
    (λ k d low high. passing (suc k) d (omega arith) (omega arith))
    (λ k d low high. failing (suc k) d (omega arith) (omega arith)) in
    grind (arith, nat_tests)

-- behind an object whose number isn't lower there is none of that number
pub none_after : (number : ℕ) (x : MemoryEntry) (objects : List MemoryEntry)
    → list_all (λ next. ltb x.number next.number) objects ≡ true → number ≤ x.number
    → find (is_numbered number) objects ≡ None
none_after number x [] after reached = refl
none_after number x (next ∷ objects) after reached =
    let parts = and_parts (ltb x.number next.number) (list_all (λ other. ltb x.number other.number) objects) after in
    let other : eqb next.number number ≡ false = grind (arith, nat_tests) in
    rw other (none_after number x objects parts.1 reached)

-- the object at the place, if it has the number
abbrev if_numbered : ℕ → Option MemoryEntry → Option MemoryEntry
if_numbered number None = None
if_numbered number (Some object) = cond (eqb object.number number) (Some object) None

found_at_place : (number : ℕ) (objects : List MemoryEntry) → are_rising objects ≡ true
    → object_at objects number ≡ if_numbered number (slice_get objects (prefix_len (λ o. ltb o.number number) objects))
found_at_place number [] rising = refl
found_at_place number (x ∷ objects) rising =
    let parts = rising_parts x objects rising in
    ⊎_elim
    (λ (below : ltb x.number number ≡ true).
    let other : eqb x.number number ≡ false = grind (arith, nat_tests) in
    let next : 1 + prefix_len (λ (o : MemoryEntry). ltb o.number number) objects ≡ suc
    (prefix_len (λ (o : MemoryEntry). ltb o.number number) objects) = omega arith in
    rw (below, other, next) (found_at_place number objects parts.1))
    (λ (reached : ltb x.number number ≡ false).
    let high : number ≤ x.number = grind (arith, nat_tests) in
    let none = none_after number x objects parts.0 high in
    rw (reached, none) refl)
    (cases_Bool (ltb x.number number))

module _ (number : ℕ) (objects : List MemoryEntry) (rising : are_rising objects ≡ true) where
  pub found_there : (x : MemoryEntry) → slice_get objects (prefix_len (λ o. ltb o.number number) objects) ≡ Some x
      → object_at objects number ≡ cond (eqb x.number number) (Some x) None
  found_there x is = found_at_place number objects rising ∙ ap (if_numbered number) is

  pub not_found_past : slice_get objects (prefix_len (λ o. ltb o.number number) objects) ≡ None
      → object_at objects number ≡ None
  not_found_past is = found_at_place number objects rising ∙ ap (if_numbered number) is
