-- Entries over which an area lies, among entries of which some are gone.
use Rattle.std.proofs.Common.{◌≡◌, ℕ, zero, suc, ◌+◌, ◌≤◌, Bool, true, false, cond, eqb, not, Some, None, List, [], ◌∷◌}
use Rattle.std.proofs.Common.{◌++◌, ◌<◌, get_or, length, set, take, refl, sym, ap, subst, ◌∙◌, arith, ⊎_elim}
use Rattle.std.specs.List.{list_all, prefix_len, slice_get}
use Rattle.std.proofs.lemmas.Bool.{cases_Bool}
use Rattle.std.proofs.lemmas.Bool.Decides.{nat_tests}
use Rattle.std.proofs.lemmas.Option.{slice_get_read}
use Rattle.memory_objects.specs.Objects.{MemoryEntry, are_rising, object_at, standing}
use Rattle.memory_objects.proofs.Numbered.{none_after, rising_parts}
use Rattle.memory_objects.proofs.OneObject.{rising_changed, set_by_number}

abbrev pub stands : MemoryEntry → Bool
stands o = not (eqb o.areas 0)

-- ---- one entry

abbrev pub place_in : List MemoryEntry → ℕ → ℕ
place_in entries p = length (standing (take p entries))

pub standing_at : (entries : List MemoryEntry) (p : ℕ) (x : MemoryEntry) → slice_get entries p ≡ Some x
    → stands x ≡ true → slice_get (standing entries) (place_in entries p) ≡ Some x
standing_at [] p x there is = cc
standing_at (o ∷ entries) zero x there is =
    let same : o ≡ x = cc in
    let here : stands o ≡ true = rw same is in
    rw here (ap (λ e. Some e) same)
standing_at (o ∷ entries) (suc p) x there is =
    let rest = standing_at entries p x there is in
    ⊎_elim (λ (here : stands o ≡ true). rw here rest)
    (λ (gone : stands o ≡ false). rw gone rest) (cases_Bool (stands o))

pub standing_set : (entries : List MemoryEntry) (p : ℕ) (x y : MemoryEntry) → slice_get entries p ≡ Some x
    → stands x ≡ true → stands y ≡ true → standing (set entries p y) ≡ set (standing entries) (place_in entries p) y
standing_set [] p x y there is still = cc
standing_set (o ∷ entries) zero x y there is still =
    let same : o ≡ x = cc in
    let here : stands o ≡ true = rw same is in
    rw (here, still) refl
standing_set (o ∷ entries) (suc p) x y there is still =
    let rest = standing_set entries p x y there is still in
    ⊎_elim (λ (here : stands o ≡ true). rw here (ap (λ os. o ∷ os) rest))
    (λ (gone : stands o ≡ false). rw gone rest) (cases_Bool (stands o))

pub standing_twice : (entries : List MemoryEntry) → standing (standing entries) ≡ standing entries
standing_twice [] = refl
standing_twice (o ∷ entries) =
    ⊎_elim (λ (here : stands o ≡ true). rw (here, here) (ap (λ os. o ∷ os) (standing_twice entries)))
    (λ (gone : stands o ≡ false). rw gone (standing_twice entries)) (cases_Bool (stands o))

-- one that goes, whatever is left of it
pub standing_gone : (entries : List MemoryEntry) (p : ℕ) (x y z : MemoryEntry) → slice_get entries p ≡ Some x
    → stands x ≡ true → stands y ≡ false → stands z ≡ false
    → standing (set entries p y) ≡ standing (set (standing entries) (place_in entries p) z)
standing_gone [] p x y z there is gone too = cc
standing_gone (o ∷ entries) zero x y z there is gone too =
    let eq : o ≡ x = cc in
    let here : stands o ≡ true = rw eq is in
    rw (here, gone, too) (sym (standing_twice entries))
standing_gone (o ∷ entries) (suc p) x y z there is gone too =
    let rest = standing_gone entries p x y z there is gone too in
    ⊎_elim (λ (here : stands o ≡ true). rw (here, here) (ap (λ os. o ∷ os) rest))
    (λ (left : stands o ≡ false). rw left rest) (cases_Bool (stands o))

pub fewer_standing : (entries : List MemoryEntry) (p : ℕ) (x y : MemoryEntry) → slice_get entries p ≡ Some x
    → stands x ≡ true → stands y ≡ false → length (standing entries) ≡ length (standing (set entries p y)) + 1
fewer_standing [] p x y there is gone = cc
fewer_standing (o ∷ entries) zero x y there is gone =
    let eq : o ≡ x = cc in
    let here : stands o ≡ true = rw eq is in
    rw (here, gone) (omega arith)
fewer_standing (o ∷ entries) (suc p) x y there is gone =
    let rest = fewer_standing entries p x y there is gone in
    ⊎_elim (λ (here : stands o ≡ true). rw here (omega (arith, rest)))
    (λ (left : stands o ≡ false). rw left rest) (cases_Bool (stands o))

-- one that comes
pub standing_push : (entries : List MemoryEntry) (x : MemoryEntry) → stands x ≡ true
    → standing (entries ++ x ∷ []) ≡ standing entries ++ x ∷ []
standing_push [] x is = rw is refl
standing_push (o ∷ entries) x is =
    let rest = standing_push entries x is in
    ⊎_elim (λ (here : stands o ≡ true). rw here (ap (λ os. o ∷ os) rest))
    (λ (gone : stands o ≡ false). rw gone rest) (cases_Bool (stands o))

-- ---- by number

pub found_stands : (entries : List MemoryEntry) (n : ℕ) (x : MemoryEntry) → object_at (standing entries) n ≡ Some x
    → stands x ≡ true
found_stands [] n x found = cc
found_stands (o ∷ entries) n x found =
    ⊎_elim
    (λ (here : stands o ≡ true).
    ⊎_elim
    (λ (is : eqb o.number n ≡ true).
    let some : Some o ≡ Some x = rw (here, is) at found in
    let same : o ≡ x = cc in
    rw (← same) here)
    (λ (other : eqb o.number n ≡ false). found_stands entries n x (rw (here, other) at found))
    (cases_Bool (eqb o.number n)))
    (λ (gone : stands o ≡ false). found_stands entries n x (rw gone at found))
    (cases_Bool (stands o))

pub none_stands : (entries : List MemoryEntry) (n : ℕ) → object_at entries n ≡ None
    → object_at (standing entries) n ≡ None
none_stands [] n none = refl
none_stands (o ∷ entries) n none =
    ⊎_elim
    (λ (is : eqb o.number n ≡ true). let some : Some o ≡ None = rw is at none in cc)
    (λ (other : eqb o.number n ≡ false).
    let rest = none_stands entries n (rw other at none) in
    ⊎_elim (λ (here : stands o ≡ true). rw (here, other) rest) (λ (gone : stands o ≡ false). rw gone rest)
    (cases_Bool (stands o)))
    (cases_Bool (eqb o.number n))

pub one_stands : (entries : List MemoryEntry) (n : ℕ) (x : MemoryEntry) → object_at entries n ≡ Some x → stands x ≡ true
    → object_at (standing entries) n ≡ Some x
one_stands [] n x found is = cc
one_stands (o ∷ entries) n x found is =
    ⊎_elim
    (λ (equal : eqb o.number n ≡ true).
    let some : Some o ≡ Some x = rw equal at found in
    let same : o ≡ x = cc in
    let here : stands o ≡ true = rw same is in
    rw (here, equal) some)
    (λ (other : eqb o.number n ≡ false).
    let rest = one_stands entries n x (rw other at found) is in
    ⊎_elim (λ (here : stands o ≡ true). rw (here, other) rest) (λ (gone : stands o ≡ false). rw gone rest)
    (cases_Bool (stands o)))
    (cases_Bool (eqb o.number n))

pub gone_stands : (entries : List MemoryEntry) (n : ℕ) (x : MemoryEntry) → are_rising entries ≡ true
    → object_at entries n ≡ Some x → stands x ≡ false → object_at (standing entries) n ≡ None
gone_stands [] n x rising found gone = cc
gone_stands (o ∷ entries) n x rising found gone =
    let parts = rising_parts o entries rising in
    ⊎_elim
    (λ (equal : eqb o.number n ≡ true).
    let some : Some o ≡ Some x = rw equal at found in
    let same : o ≡ x = cc in
    let left : stands o ≡ false = rw same gone in
    let low : n ≤ o.number = grind (arith, nat_tests) in
    rw left (none_stands entries n (none_after n o entries parts.0 low)))
    (λ (other : eqb o.number n ≡ false).
    let rest = gone_stands entries n x parts.1 (rw other at found) gone in
    ⊎_elim (λ (here : stands o ≡ true). rw (here, other) rest) (λ (left : stands o ≡ false). rw left rest)
    (cases_Bool (stands o)))
    (cases_Bool (eqb o.number n))

pub rising_set : (entries : List MemoryEntry) (p : ℕ) (x y : MemoryEntry) → are_rising entries ≡ true
    → slice_get entries p ≡ Some x → y.number ≡ x.number → are_rising (set entries p y) ≡ true
rising_set entries p x y rising there same =
    let R : List MemoryEntry → Type 0 = λ xs. are_rising xs ≡ true in
    let here : eqb x.number x.number ≡ true = grind (arith, nat_tests) in
    let at_x : changed x ≡ y = rw here refl in
    subst R (sym (set_by_number x.number changed other entries p x rising there refl) ∙ ap (set entries p) at_x)
    (rising_changed changed numbers entries rising)
  where
    changed : MemoryEntry → MemoryEntry
    changed o = cond (eqb o.number x.number) y o

    other : (o : MemoryEntry) → eqb o.number x.number ≡ false → changed o ≡ o
    other o differ = rw differ refl

    numbers : (o : MemoryEntry) → (changed o).number ≡ o.number
    numbers o =
        ⊎_elim
        (λ (equal : eqb o.number x.number ≡ true). let is : o.number ≡ x.number = grind (arith, nat_tests) in
        rw equal (same ∙ sym is))
        (λ (differ : eqb o.number x.number ≡ false). rw differ refl)
        (cases_Bool (eqb o.number x.number))

-- ---- those below a number

next_too : (a b : ℕ) → eqb (suc a) (suc b) ≡ eqb a b
next_too a b =
    ⊎_elim
    (λ (is : eqb a b ≡ true). let same : a ≡ b = grind (arith, nat_tests) in let up : eqb (suc a) (suc b) ≡ true =
    grind (arith, nat_tests) in up ∙ sym is)
    (λ (other : eqb a b ≡ false). let up : eqb (suc a) (suc b) ≡ false = grind (arith, nat_tests) in up ∙ sym other)
    (cases_Bool (eqb a b))

pub prefix_all : (p : MemoryEntry → Bool) (entries : List MemoryEntry) → (prefix_len p entries ≤ length entries)
    × (eqb (prefix_len p entries) (length entries) ≡ list_all p entries)
prefix_all p [] = (omega arith, refl)
prefix_all p (o ∷ entries) =
    let rest = prefix_all p entries in
    ⊎_elim
    (λ (here : p o ≡ true).
    let next : 1 + prefix_len p entries ≡ suc (prefix_len p entries) = omega arith in
    rw (here, next) (omega (arith, rest.0), next_too (prefix_len p entries) (length entries) ∙ rest.1))
    (λ (not_here : p o ≡ false).
    let more : eqb 0 (suc (length entries)) ≡ false = grind (arith, nat_tests) in
    rw not_here (omega arith, more))
    (cases_Bool (p o))

-- ---- loops over all entries

-- ---- the entry that is read at a place, and the object of a number that was found there

pub read_at : (all : List MemoryEntry) (p : ℕ) (x : MemoryEntry) → p < length all → x ≡ get_or all p x
    → slice_get all p ≡ Some x
read_at all p x within is = slice_get_read all (length all) p x refl within is

pub found_at : (all : List MemoryEntry) (p n : ℕ) (x : MemoryEntry) → p < length all → x ≡ get_or all p x
    → slice_get all p ≡ object_at (standing all) n → object_at (standing all) n ≡ Some x
found_at all p n x within is some = sym some ∙ read_at all p x within is
