-- One memory object of a list: the list with a change of it, and sums over the list.
use Rattle.std.proofs.Common.{◌≡◌, ℕ, zero, suc, ◌+◌, ◌<◌, ◌≤◌, Bool, true, false, cond, eqb, ltb, Option, Some, None}
use Rattle.std.proofs.Common.{List, [], ◌∷◌, length, get_or, set, map, refl, ap, subst, arith, ⊎_elim}
use Rattle.std.specs.List.{list_all, slice_get, sum_by}
use Rattle.std.proofs.lemmas.Bool.{and_parts, cases_Bool}
use Rattle.std.proofs.lemmas.Bool.Decides.{nat_tests}
use Rattle.std.proofs.lemmas.List.Folds.{fold-map}
use Rattle.std.proofs.lemmas.List.Sums.{sum_by-cons}
use Rattle.memory_objects.specs.Objects.{MemoryEntry, all_pass, are_rising, object_at, passes, times_of}
use Rattle.memory_objects.proofs.Numbered.{rising_parts}

-- ---- a change by number

-- a change that leaves each object of another number leaves those behind this one's
same_behind : (n : ℕ) (G : MemoryEntry → MemoryEntry) (keeps : (o : MemoryEntry) → eqb o.number n ≡ false
    → G o ≡ o) (x : MemoryEntry) (objects : List MemoryEntry) → n ≤ x.number
    → list_all (λ next. ltb x.number next.number) objects ≡ true → objects ≡ map G objects
same_behind n G keeps x [] high after = refl
same_behind n G keeps x (o ∷ objects) high after =
    let parts = and_parts (ltb x.number o.number) (list_all (λ next. ltb x.number next.number) objects) after in
    let other : eqb o.number n ≡ false = grind (arith, nat_tests) in
    rw (keeps o other) (ap (λ rest. o ∷ rest) (same_behind n G keeps x objects high parts.1))

lower_first : (x : MemoryEntry) (objects : List MemoryEntry) (p : ℕ) (y : MemoryEntry)
    → list_all (λ next. ltb x.number next.number) objects ≡ true → slice_get objects p ≡ Some y → x.number < y.number
lower_first x [] p y after there = cc
lower_first x (o ∷ objects) zero y after there =
    let parts = and_parts (ltb x.number o.number) (list_all (λ next. ltb x.number next.number) objects) after in
    let same : o ≡ y = cc in
    let here : x.number < o.number = grind (arith, nat_tests) in
    rw same at here
lower_first x (o ∷ objects) (suc p) y after there =
    let parts = and_parts (ltb x.number o.number) (list_all (λ next. ltb x.number next.number) objects) after in
    lower_first x objects p y parts.1 there

-- an object that stands at some place is the one of its number
pub found_by_number : (objects : List MemoryEntry) (p n : ℕ) (x : MemoryEntry) → are_rising objects ≡ true
    → slice_get objects p ≡ Some x → x.number ≡ n → object_at objects n ≡ Some x
found_by_number [] p n x rising there is = cc
found_by_number (o ∷ objects) zero n x rising there is =
    let same : o ≡ x = cc in
    let here : o.number ≡ n = rw same is in
    let equal : eqb o.number n ≡ true = grind (arith, nat_tests) in
    rw equal there
found_by_number (o ∷ objects) (suc p) n x rising there is =
    let parts = rising_parts o objects rising in
    let low = lower_first o objects p x parts.0 there in
    let other : eqb o.number n ≡ false = grind (arith, nat_tests) in
    rw other (found_by_number objects p n x parts.1 there is)

-- an object changed at its place is each object of its number changed
pub set_by_number : (n : ℕ) (G : MemoryEntry → MemoryEntry) → ((o : MemoryEntry) → eqb o.number n ≡ false → G o ≡ o)
    → (objects : List MemoryEntry) (p : ℕ) (x : MemoryEntry) → are_rising objects ≡ true → slice_get objects p ≡ Some x
    → x.number ≡ n → set objects p (G x) ≡ map G objects
set_by_number n G keeps [] p x rising there is = cc
set_by_number n G keeps (o ∷ objects) zero x rising there is =
    let same : o ≡ x = cc in
    let parts = rising_parts o objects rising in
    let high : n ≤ o.number = rw same (omega arith) in
    rw (← same) (ap (λ rest. G o ∷ rest) (same_behind n G keeps o objects high parts.0))
set_by_number n G keeps (o ∷ objects) (suc p) x rising there is =
    let parts = rising_parts o objects rising in
    let low = lower_first o objects p x parts.0 there in
    let other : eqb o.number n ≡ false = grind (arith, nat_tests) in
    rw (keeps o other) (ap (λ rest. o ∷ rest) (set_by_number n G keeps objects p x parts.1 there is))

-- a change that changes no object
pub map_none : (G : MemoryEntry → MemoryEntry) (n : ℕ) → ((o : MemoryEntry) → eqb o.number n ≡ false → G o ≡ o)
    → (objects : List MemoryEntry) → object_at objects n ≡ None → map G objects ≡ objects
map_none G n keeps [] none = refl
map_none G n keeps (o ∷ objects) none =
    ⊎_elim
    (λ (here : eqb o.number n ≡ true). let some : Some o ≡ None = rw here at none in cc)
    (λ (other : eqb o.number n ≡ false).
    let later : object_at objects n ≡ None = rw other at none in
    rw (keeps o other) (ap (λ rest. o ∷ rest) (map_none G n keeps objects later)))
    (cases_Bool (eqb o.number n))

pub at_place : (objects : List MemoryEntry) (p : ℕ) (x d : MemoryEntry) → slice_get objects p ≡ Some x
    → (p < length objects) × (get_or objects p d ≡ x)
at_place [] p x d there = cc
at_place (o ∷ objects) zero x d there = (omega arith, cc)
at_place (o ∷ objects) (suc p) x d there = let rest = at_place objects p x d there in (omega (arith, rest.0), rest.1)

-- ---- sums

pub sum_by-map : {X Y : Type 0} (f : Y → ℕ) (F : X → Y) (xs : List X) → sum_by f (map F xs) ≡ sum_by (λ x. f (F x)) xs
sum_by-map f F xs = fold-map (λ a x. a + f x) F 0 xs

pub sum_le : {X : Type 0} (f g h : X → ℕ) (xs : List X) → ((x : X) → f x ≤ g x + h x)
    → sum_by f xs ≤ sum_by g xs + sum_by h xs
sum_le f g h [] le = omega arith
sum_le f g h (x ∷ xs) le =
    let rest = sum_le f g h xs le in
    let here = le x in
    let a = sum_by-cons f x xs in
    let b = sum_by-cons g x xs in
    let c = sum_by-cons h x xs in
    omega (arith, rest, here, a, b, c)

pub sum_pair : {X : Type 0} (f g h : X → ℕ) (xs : List X) → ((x : X) → f x + g x ≤ h x)
    → sum_by f xs + sum_by g xs ≤ sum_by h xs
sum_pair f g h [] le = omega arith
sum_pair f g h (x ∷ xs) le =
    let rest = sum_pair f g h xs le in
    let here = le x in
    let a = sum_by-cons f x xs in
    let b = sum_by-cons g x xs in
    let c = sum_by-cons h x xs in
    omega (arith, rest, here, a, b, c)

-- ---- numbers

pub times_one : (number n : ℕ) → times_of number (n ∷ []) ≡ cond (eqb n number) 1 0
times_one number n = omega (arith, sum_by-cons (λ m. cond (eqb m number) 1 0) n [])

pub times_more : (number n : ℕ) (ns : List ℕ) → times_of number (n ∷ ns) ≡ cond (eqb n number) 1 0 + times_of number ns
times_more number n ns = sum_by-cons (λ m. cond (eqb m number) 1 0) n ns

-- ---- objects of numbers

pub passes_at : (test : MemoryEntry → Bool) (objects : List MemoryEntry) (n : ℕ) (x : MemoryEntry)
    → all_pass test objects (n ∷ []) ≡ true → object_at objects n ≡ Some x → test x ≡ true
passes_at test objects n x all is =
    let parts = and_parts (passes test (object_at objects n)) true all in
    let P : Option MemoryEntry → Type 0 = λ o. passes test o ≡ true in
    subst P is parts.0

pub pass_parts : (test : MemoryEntry → Bool) (objects : List MemoryEntry) (n : ℕ) (ns : List ℕ)
    → all_pass test objects (n ∷ ns) ≡ true → (all_pass test objects (n ∷ []) ≡ true)
    × (all_pass test objects ns ≡ true)
pass_parts test objects n ns all =
    let parts = and_parts (passes test (object_at objects n)) (all_pass test objects ns) all in
    (rw parts.0 refl, parts.1)

-- the object of a number after a change that keeps numbers
pub changed_at : (G : MemoryEntry → MemoryEntry) → ((o : MemoryEntry) → (G o).number ≡ o.number)
    → (test : MemoryEntry → Bool) → ((o : MemoryEntry) → test o ≡ true → test (G o) ≡ true)
    → (objects : List MemoryEntry) (n : ℕ) → passes test (object_at objects n) ≡ true
    → passes test (object_at (map G objects) n) ≡ true
changed_at G numbers test keeps [] n pass = refl
changed_at G numbers test keeps (o ∷ objects) n pass =
    ⊎_elim
    (λ (here : eqb o.number n ≡ true).
    let one : test o ≡ true = rw here at pass in
    let there : eqb (G o).number n ≡ true = rw (numbers o) here in
    rw there (keeps o one))
    (λ (other : eqb o.number n ≡ false).
    let later : passes test (object_at objects n) ≡ true = rw other at pass in
    let there : eqb (G o).number n ≡ false = rw (numbers o) other in
    rw there (changed_at G numbers test keeps objects n later))
    (cases_Bool (eqb o.number n))

pub all_changed : (G : MemoryEntry → MemoryEntry) → ((o : MemoryEntry) → (G o).number ≡ o.number)
    → (test : MemoryEntry → Bool) → ((o : MemoryEntry) → test o ≡ true → test (G o) ≡ true)
    → (objects : List MemoryEntry) (ns : List ℕ) → all_pass test objects ns ≡ true
    → all_pass test (map G objects) ns ≡ true
all_changed G numbers test keeps objects [] all = refl
all_changed G numbers test keeps objects (n ∷ ns) all =
    let parts = and_parts (passes test (object_at objects n)) (all_pass test objects ns) all in
    let here = changed_at G numbers test keeps objects n parts.0 in
    let rest = all_changed G numbers test keeps objects ns parts.1 in
    rw (here, rest) refl

-- a change that keeps numbers keeps their order
all_higher : (G : MemoryEntry → MemoryEntry) → ((o : MemoryEntry) → (G o).number ≡ o.number)
    → (number : ℕ) (objects : List MemoryEntry) → list_all (λ next. ltb number next.number) objects ≡ true
    → list_all (λ next. ltb number next.number) (map G objects) ≡ true
all_higher G numbers number [] all = refl
all_higher G numbers number (o ∷ objects) all =
    let parts = and_parts (ltb number o.number) (list_all (λ next. ltb number next.number) objects) all in
    rw (numbers o, parts.0) (all_higher G numbers number objects parts.1)

pub rising_changed : (G : MemoryEntry → MemoryEntry) → ((o : MemoryEntry) → (G o).number ≡ o.number)
    → (objects : List MemoryEntry) → are_rising objects ≡ true → are_rising (map G objects) ≡ true
rising_changed G numbers [] rising = refl
rising_changed G numbers (o ∷ objects) rising =
    let parts = rising_parts o objects rising in
    let after = all_higher G numbers o.number objects parts.0 in
    rw (numbers o, after) (rising_changed G numbers objects parts.1)
