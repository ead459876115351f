-- One area more or some less over memory objects.
use Rattle.std.proofs.Common.{◌≡◌, ℕ, ◌+◌, ◌-◌, Bool, true, false, cond, eqb, ltb, not, Some, None, List, [], ◌∷◌, set}
use Rattle.std.proofs.Common.{refl, sym, ap, ◌∙◌, arith, ⊎_elim}
use Rattle.std.specs.List.{filter, list_all, slice_get}
use Rattle.std.proofs.lemmas.Bool.{and_parts, cases_Bool}
use Rattle.std.proofs.lemmas.Bool.Decides.{nat_tests}
use Rattle.memory_objects.specs.Objects.{MemoryEntry, all_less, are_rising, object_at, times_of, with_area, with_areas}
use Rattle.memory_objects.specs.Objects.{without_areas}
use Rattle.memory_objects.proofs.Numbered.{rising_parts}
use Rattle.memory_objects.proofs.OneObject.{map_none, rising_changed, set_by_number}
use Rattle.memory_objects.proofs.PinOne.{found_number, times_here, times_none}

same_areas : (o : MemoryEntry) (areas : ℕ) → areas ≡ o.areas → with_areas areas o ≡ o
same_areas o areas same = λ i. record o { areas = same i }

-- ---- one more

abbrev pub more_at : ℕ → MemoryEntry → MemoryEntry
more_at n o = with_areas (o.areas + cond (eqb o.number n) 1 0) o

more_other : (n : ℕ) (o : MemoryEntry) → eqb o.number n ≡ false → more_at n o ≡ o
more_other n o other = rw other (same_areas o (o.areas + 0) (omega arith))

pub area_added : (objects : List MemoryEntry) (n p : ℕ) (x : MemoryEntry) → are_rising objects ≡ true
    → slice_get objects p ≡ Some x → object_at objects n ≡ Some x
    → set objects p (with_areas (x.areas + 1) x) ≡ with_area n objects
area_added objects n p x rising there found =
    let number = found_number objects n x found in
    let here : eqb x.number n ≡ true = grind (arith, nat_tests) in
    let entry : with_areas (x.areas + 1) x ≡ more_at n x = rw here refl in
    ap (set objects p) entry ∙ set_by_number n (more_at n) (more_other n) objects p x rising there number

pub no_area_added : (objects : List MemoryEntry) (n : ℕ) → object_at objects n ≡ None → objects ≡ with_area n objects
no_area_added objects n none = sym (map_none (more_at n) n (more_other n) objects none)

-- ---- one less

abbrev pub less_at : ℕ → MemoryEntry → MemoryEntry
less_at n o = with_areas (o.areas - times_of o.number (n ∷ [])) o

less_other : (n : ℕ) (o : MemoryEntry) → eqb o.number n ≡ false → less_at n o ≡ o
less_other n o other = rw (times_none o.number n other) (same_areas o (o.areas - 0) (omega arith))

pub area_dropped : (objects : List MemoryEntry) (n p : ℕ) (x : MemoryEntry) → are_rising objects ≡ true
    → slice_get objects p ≡ Some x → object_at objects n ≡ Some x
    → set objects p (with_areas (x.areas - 1) x) ≡ all_less (n ∷ []) objects
area_dropped objects n p x rising there found =
    let number = found_number objects n x found in
    let one = times_here x.number n number in
    let entry : with_areas (x.areas - 1) x ≡ less_at n x = rw one refl in
    ap (set objects p) entry ∙ set_by_number n (less_at n) (less_other n) objects p x rising there number

pub no_area_dropped : (objects : List MemoryEntry) (n : ℕ) → object_at objects n ≡ None
    → objects ≡ all_less (n ∷ []) objects
no_area_dropped objects n none = sym (map_none (less_at n) n (less_other n) objects none)

-- ---- what stays

all_left : (p q : MemoryEntry → Bool) (objects : List MemoryEntry) → list_all p objects ≡ true
    → list_all p (filter q objects) ≡ true
all_left p q [] all = refl
all_left p q (o ∷ objects) all =
    let parts = and_parts (p o) (list_all p objects) all in
    let rest = all_left p q objects parts.1 in
    ⊎_elim (λ (kept : q o ≡ true). rw (kept, parts.0) rest) (λ (gone : q o ≡ false). rw gone rest) (cases_Bool (q o))

pub rising_left : (q : MemoryEntry → Bool) (objects : List MemoryEntry) → are_rising objects ≡ true
    → are_rising (filter q objects) ≡ true
rising_left q [] rising = refl
rising_left q (o ∷ objects) rising =
    let parts = rising_parts o objects rising in
    let rest = rising_left q objects parts.1 in
    let after = all_left (λ next. ltb o.number next.number) q objects parts.0 in
    ⊎_elim (λ (kept : q o ≡ true). rw (kept, after) rest) (λ (gone : q o ≡ false). rw gone rest) (cases_Bool (q o))

pub rising_without : (numbers : List ℕ) (objects : List MemoryEntry) → are_rising objects ≡ true
    → are_rising (without_areas numbers objects) ≡ true
rising_without numbers objects rising =
    rising_left (λ o. not (eqb o.areas 0)) (all_less numbers objects)
    (rising_changed (λ o. with_areas (o.areas - times_of o.number numbers) o) (λ o. refl) objects rising)
