-- How many pages are pinned anew, number by number.
use Rattle.std.proofs.Common.{◌≡◌, ◌≢◌, ℕ, ◌+◌, ◌-◌, ◌<◌, ◌≤◌, Bool, true, false, cond, eqb, ltb, ◌||◌, List, [], ◌∷◌}
use Rattle.std.proofs.Common.{◌++◌, length, get_or, take, refl, ap, ◌∙◌, arith, ⊎_elim}
use Rattle.std.specs.List.{list_all, list_any}
use Rattle.std.specs.List.Sorted.{IsNonDecreasing}
use Rattle.std.proofs.lemmas.Bool.{and_parts, cases_Bool, eqb-true}
use Rattle.std.proofs.lemmas.Bool.Decides.{nat_tests}
use Rattle.std.proofs.lemmas.List.{get_or-take, get_or_default, length-take-le}
use Rattle.std.proofs.lemmas.List.Folds.{list_any-append, list_any_at, list_any_none}
use Rattle.std.proofs.lemmas.List.Sums.{sum_by-cons}
use Rattle.memory_objects.specs.Objects.{MemoryEntry, are_rising, new_count_in, new_pages, object_at}
use Rattle.pinned_pages.specs.Pages.{new_count}
use Rattle.memory_objects.proofs.Numbered.{rising_parts}
use Rattle.memory_objects.proofs.PinAll.{counted}

-- ---- numbers that rise or stay

pub repeated : (numbers : List ℕ) (at : ℕ) → at < length numbers → 0 < at
    → get_or numbers (at - 1) 0 ≡ get_or numbers at 0
    → list_any (λ n. eqb n (get_or numbers at 0)) (take at numbers) ≡ true
repeated numbers at within some same =
    let long = length-take-le at numbers (omega (arith, within)) in
    let there = get_or-take at numbers (at - 1) 0 (omega (arith, some)) in
    list_any_at (λ n. eqb n (get_or numbers at 0)) (take at numbers) (at - 1) 0 (omega (arith, long, some))
    (rw (there, same) (grind (arith, nat_tests)))

pub first_time : (numbers : List ℕ) (at : ℕ) → IsNonDecreasing numbers → at < length numbers
    → (0 < at → get_or numbers (at - 1) 0 ≢ get_or numbers at 0)
    → list_any (λ n. eqb n (get_or numbers at 0)) (take at numbers) ≡ false
first_time numbers at sorted within differ =
    let long = length-take-le at numbers (omega (arith, within)) in
    list_any_none (λ n. eqb n (get_or numbers at 0)) (take at numbers)
    (λ k d below.
    let there = get_or-take at numbers k d (omega (arith, below, long)) in
    let low = sorted k (at - 1) d (omega (arith, below, long)) (omega (arith, within)) in
    let last = get_or_default numbers (at - 1) d 0 (omega (arith, within)) in
    let up = sorted (at - 1) at 0 (omega arith) within in
    let apart = differ (omega (arith, below, long)) in
    rw there (grind (arith, nat_tests)))

-- ---- one number more

not_this : (before after here : Bool) (k : ℕ) → after ≡ (before || (here || false)) → here ≡ false
    → cond after k 0 ≡ cond before k 0
not_this true after here k is other = rw is refl
not_this false after here k is other = rw (is, other) refl

higher_same : (done : List ℕ) (n : ℕ) (x : MemoryEntry) (objects : List MemoryEntry) → n ≤ x.number
    → list_all (λ next. ltb x.number next.number) objects ≡ true
    → new_pages objects (done ++ n ∷ []) ≡ new_pages objects done
higher_same done n x [] high after = refl
higher_same done n x (o ∷ objects) high after =
    let parts = and_parts (ltb x.number o.number) (list_all (λ next. ltb x.number next.number) objects) after in
    let other : eqb n o.number ≡ false = grind (arith, nat_tests) in
    let rest = higher_same done n x objects high parts.1 in
    let old = sum_by-cons (counted done) o objects in
    let new = sum_by-cons (counted (done ++ n ∷ [])) o objects in
    let any = list_any-append (λ m. eqb m o.number) done (n ∷ []) in
    let same : counted (done ++ n ∷ []) o ≡ counted done o =
    not_this (list_any (λ m. eqb m o.number) done) (list_any (λ m. eqb m o.number) (done ++ n ∷ []))
    (eqb n o.number) (new_count o.pages.pages) any other in
    omega (arith, rest, old, new, same)

this_one : (before after here : Bool) (k old new rest : ℕ) → after ≡ (before || (here || false)) → here ≡ true
    → new ≡ cond after k 0 + rest → old ≡ cond before k 0 + rest → new ≡ old + cond before 0 k
this_one true after here k old new rest is one now then =
    let now_k : new ≡ k + rest = rw is at now in omega (arith, now_k, then)
this_one false after here k old new rest is one now then =
    let yes_after : after ≡ true = is ∙ rw one refl in
    let now_k : new ≡ k + rest = rw yes_after at now in omega (arith, now_k, then)

pub one_number_more : (done : List ℕ) (n : ℕ) (objects : List MemoryEntry) → are_rising objects ≡ true
    → new_pages objects (done ++ n ∷ []) ≡ new_pages objects done
    + cond (list_any (λ m. eqb m n) done) 0 (new_count_in (object_at objects n))
one_number_more done n [] rising = none_there (list_any (λ m. eqb m n) done)
  where
    none_there : (b : Bool) → 0 ≡ 0 + cond b 0 0
    none_there true = refl
    none_there false = refl
one_number_more done n (o ∷ objects) rising =
    let parts = rising_parts o objects rising in
    let old = sum_by-cons (counted done) o objects in
    let new = sum_by-cons (counted (done ++ n ∷ [])) o objects in
    let any = list_any-append (λ m. eqb m o.number) done (n ∷ []) in
    ⊎_elim
    (λ (here : eqb o.number n ≡ true).
    let number = eqb-true o.number n here in
    let flipped : eqb n o.number ≡ true = grind (arith, nat_tests) in
    let rest = higher_same done n o objects (omega (arith, number)) parts.0 in
    let now : new_pages (o ∷ objects) (done ++ n ∷ []) ≡ counted (done ++ n ∷ []) o + new_pages objects done =
    omega (arith, new, rest) in
    let sums = this_one (list_any (λ m. eqb m o.number) done) (list_any (λ m. eqb m o.number) (done ++ n ∷ []))
    (eqb n o.number) (new_count o.pages.pages) (new_pages (o ∷ objects) done)
    (new_pages (o ∷ objects) (done ++ n ∷ [])) (new_pages objects done) any flipped now old in
    rw here (sums ∙ ap (λ m. new_pages (o ∷ objects) done
    + cond (list_any (λ k. eqb k m) done) 0 (new_count o.pages.pages)) number))
    (λ (other : eqb o.number n ≡ false).
    let flipped : eqb n o.number ≡ false = grind (arith, nat_tests) in
    let rest = one_number_more done n objects parts.1 in
    let same : counted (done ++ n ∷ []) o ≡ counted done o =
    not_this (list_any (λ m. eqb m o.number) done) (list_any (λ m. eqb m o.number) (done ++ n ∷ []))
    (eqb n o.number) (new_count o.pages.pages) any flipped in
    rw other (omega (arith, rest, old, new, same)))
    (cases_Bool (eqb o.number n))

pub no_numbers : (objects : List MemoryEntry) → new_pages objects [] ≡ 0
no_numbers [] = refl
no_numbers (o ∷ objects) = omega (arith, sum_by-cons (counted []) o objects, no_numbers objects)
