-- Entries of objects that are gone: how many there are, and that they keep no memory.
use Rattle.std.proofs.Common.{◌≡◌, ℕ, zero, suc, ◌+◌, ◌-◌, Bool, true, false, eqb, leb, Some, List, [], ◌∷◌, ◌++◌}
use Rattle.std.proofs.Common.{length, set, refl, ap, arith, ⊎_elim}
use Rattle.std.specs.List.{list_all, slice_get}
use Rattle.std.proofs.lemmas.Bool.{and_parts, cases_Bool}
use Rattle.std.proofs.lemmas.Bool.Decides.{nat_tests}
use Rattle.std.proofs.lemmas.List.Filters.{length-filter_both}
use Rattle.memory_objects.specs.Invariant.{AreEntries, GoneAreFew}
use Rattle.memory_objects.specs.Objects.{MemoryEntry, are_freed, gone_among, have_areas, is_freed}
use Rattle.memory_objects.specs.Objects.{object_at, standing, times_of}
use Rattle.memory_objects.proofs.PinOne.{found_number, times_here}
use Rattle.memory_objects.proofs.Standing.{stands}

abbrev is_gone : MemoryEntry → Bool
is_gone o = eqb o.areas 0

not_gone : (o : MemoryEntry) → stands o ≡ true → is_gone o ≡ false
not_gone o is = grind (arith, nat_tests)

pub gone_set : (entries : List MemoryEntry) (p : ℕ) (x y : MemoryEntry) → slice_get entries p ≡ Some x
    → stands x ≡ true → stands y ≡ true → gone_among (set entries p y) ≡ gone_among entries
gone_set [] p x y there is still = cc
gone_set (o ∷ entries) zero x y there is still =
    let same : o ≡ x = cc in
    let here : is_gone o ≡ false = rw same (not_gone x is) in
    rw (here, not_gone y still) refl
gone_set (o ∷ entries) (suc p) x y there is still =
    let rest = gone_set entries p x y there is still in
    ⊎_elim (λ (gone : is_gone o ≡ true). rw gone (ap (λ os. o ∷ os) rest))
    (λ (here : is_gone o ≡ false). rw here rest) (cases_Bool (is_gone o))

-- one that goes gives its memory back
pub freed_set : (entries : List MemoryEntry) (p : ℕ) (x y : MemoryEntry) → slice_get entries p ≡ Some x
    → stands x ≡ true → is_freed y ≡ true → are_freed entries ≡ true → are_freed (set entries p y) ≡ true
freed_set [] p x y there is freed all = cc
freed_set (o ∷ entries) zero x y there is freed all =
    let same : o ≡ x = cc in
    let here : is_gone o ≡ false = rw same (not_gone x is) in
    let rest : are_freed entries ≡ true = rw here at all in
    ⊎_elim (λ (gone : is_gone y ≡ true). rw (gone, freed) rest)
    (λ (still : is_gone y ≡ false). rw still rest) (cases_Bool (is_gone y))
freed_set (o ∷ entries) (suc p) x y there is freed all =
    ⊎_elim
    (λ (gone : is_gone o ≡ true).
    let whole : list_all is_freed (o ∷ gone_among entries) ≡ true = rw gone at all in
    let parts = and_parts (is_freed o) (are_freed entries) whole in
    rw (gone, parts.0) (freed_set entries p x y there is freed parts.1))
    (λ (here : is_gone o ≡ false).
    let rest : are_freed entries ≡ true = rw here at all in
    rw here (freed_set entries p x y there is freed rest))
    (cases_Bool (is_gone o))

pub none_gone : (entries : List MemoryEntry) → gone_among (standing entries) ≡ []
none_gone [] = refl
none_gone (o ∷ entries) =
    ⊎_elim (λ (gone : is_gone o ≡ true). rw gone (none_gone entries))
    (λ (here : is_gone o ≡ false). rw (here, here) (none_gone entries)) (cases_Bool (is_gone o))

pub gone_push : (entries : List MemoryEntry) (x : MemoryEntry) → stands x ≡ true
    → gone_among (entries ++ x ∷ []) ≡ gone_among entries
gone_push [] x is = rw (not_gone x is) refl
gone_push (o ∷ entries) x is =
    let rest = gone_push entries x is in
    ⊎_elim (λ (gone : is_gone o ≡ true). rw gone (ap (λ os. o ∷ os) rest))
    (λ (here : is_gone o ≡ false). rw here rest) (cases_Bool (is_gone o))

all_found : (test : MemoryEntry → Bool) (objects : List MemoryEntry) (n : ℕ) (x : MemoryEntry)
    → list_all test objects ≡ true → object_at objects n ≡ Some x → test x ≡ true
all_found test [] n x all found = cc
all_found test (o ∷ objects) n x all found =
    let parts = and_parts (test o) (list_all test objects) all in
    ⊎_elim
    (λ (here : eqb o.number n ≡ true).
    let one : Some o ≡ Some x = rw here at found in
    let same : o ≡ x = cc in
    rw (← same) parts.0)
    (λ (other : eqb o.number n ≡ false). all_found test objects n x parts.1 (rw other at found))
    (cases_Bool (eqb o.number n))

-- no pin is left where the last area goes
pub last_pins : (objects : List MemoryEntry) (n : ℕ) (x : MemoryEntry) → have_areas (n ∷ []) objects ≡ true
    → object_at objects n ≡ Some x → eqb (x.areas - 1) 0 ≡ true → x.pages.pages.table_pins ≡ 0
last_pins objects n x room found last =
    let fits = all_found (λ o. leb (o.pages.pages.table_pins + times_of o.number (n ∷ [])) o.areas) objects n x room
    found in
    let one = times_here x.number n (found_number objects n x found) in
    grind (arith, nat_tests)

-- what callers see of it
pub gone_are_few : (entries : List MemoryEntry) (all gone : ℕ) → all ≡ length entries → AreEntries entries all gone
    → GoneAreFew (standing entries) (gone_among entries)
gone_are_few entries all gone len are =
    let both = length-filter_both is_gone stands (λ o. refl) entries in
    record { few = omega (arith, both, len, are.count, are.few); freed = are.freed }
