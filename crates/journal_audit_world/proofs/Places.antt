-- Where memory objects stand, by rising number.
use Rattle.std.proofs.Common.{◌≡◌, ◌≤◌, ◌<◌, ℕ, zero, suc, Bool, true, false, cond, ◌||◌, eqb, ltb, Option, Some, None}
use Rattle.std.proofs.Common.{List}
use Rattle.std.proofs.Common.{[], ◌∷◌, length, get_or, find, refl, sym, ap, ◌∙◌, arith, Less, Equal, Greater}
use Rattle.std.proofs.lemmas.Bool.{eqb-true}
use Rattle.std.proofs.lemmas.Bool.Decides.{nat_tests}
use Rattle.std.specs.List.{HoldsAt, list_all, list_any}
use Rattle.std.specs.List.Sorted.{IsNonDecreasingBy, IsPartitionPoint}
use Rattle.std.specs.Ordering.{nat_cmp, ordering_index}
use Rattle.std.specs.declared.cmp.Ordering.{Ordering}
use Rattle.iofd_rows.proofs.Bools.{and_true, both_false, or_false}
use Rattle.iofd_rows.proofs.ListTests.{false_else}
use Rattle.iofd_words.specs.declared.rows.MemoryObject.{MemoryObject}
use Rattle.journal_audit_world.specs.Kept.{numbers_rise}

-- each is below those that follow
all_at : (p : MemoryObject → Bool) (memory : List MemoryObject) (i : ℕ) (d : MemoryObject) → list_all p memory ≡ true
    → i < length memory → p (get_or memory i d) ≡ true
all_at p [] i d all within = absurd (omega arith)
all_at p (m ∷ memory) zero d all within = (and_true (p m) (list_all p memory) all).0
all_at p (m ∷ memory) (suc i) d all within =
    all_at p memory i d (and_true (p m) (list_all p memory) all).1 (omega (arith, within))

pub rises : (memory : List MemoryObject) (i j : ℕ) (d : MemoryObject) → numbers_rise memory ≡ true → i < j
    → j < length memory → (get_or memory i d).number < (get_or memory j d).number
rises [] i j d rise less within = absurd (omega arith)
rises (m ∷ memory) i zero d rise less within = absurd (omega arith)
rises (m ∷ memory) zero (suc j) d rise less within =
    let parts = and_true (list_all (λ (o : MemoryObject). ltb m.number o.number) memory) (numbers_rise memory) rise in
    let below = all_at (λ (o : MemoryObject). ltb m.number o.number) memory j d parts.0 (omega (arith, within)) in
    search (below, arith, nat_tests)
rises (m ∷ memory) (suc i) (suc j) d rise less within =
    rises memory i j d (and_true (list_all (λ (o : MemoryObject). ltb m.number o.number) memory) (numbers_rise memory)
    rise).1 (omega (arith, less)) (omega (arith, within))

rises_to : (memory : List MemoryObject) (i j : ℕ) (d : MemoryObject) → numbers_rise memory ≡ true → i ≤ j
    → j < length memory → (get_or memory i d).number ≤ (get_or memory j d).number
rises_to memory i j d rise order within = by_test (ltb i j) refl
  where
    by_test : (b : Bool) → ltb i j ≡ b → (get_or memory i d).number ≤ (get_or memory j d).number
    by_test true less =
        let below : i < j = search (less, arith, nat_tests) in
        let less = rises memory i j d rise below within in omega (arith, less)
    by_test false least =
        let above : j ≤ i = search (least, arith, nat_tests) in
        let same : i ≡ j = omega (arith, above, order) in
        rw same (omega arith)

-- so a search goes by their numbers
compared : (a b n : ℕ) → a ≤ b → ordering_index (nat_cmp a n) ≤ ordering_index (nat_cmp b n)
compared a b n order = by_tests (ltb a n) (eqb a n) (ltb b n) (eqb b n) refl refl refl refl
  where
    by_tests : (p q r s : Bool) → ltb a n ≡ p → eqb a n ≡ q → ltb b n ≡ r → eqb b n ≡ s
        → ordering_index (cond p Less (cond q Equal Greater)) ≤ ordering_index (cond r Less (cond s Equal Greater))
    by_tests true q r s x y z w = omega arith
    by_tests false true true s x y z w = let never : ⊥ = grind (arith, nat_tests) in absurd never
    by_tests false true false true x y z w = omega arith
    by_tests false true false false x y z w = omega arith
    by_tests false false true s x y z w = let never : ⊥ = grind (arith, nat_tests) in absurd never
    by_tests false false false true x y z w = let never : ⊥ = grind (arith, nat_tests) in absurd never
    by_tests false false false false x y z w = omega arith

pub searched : (memory : List MemoryObject) (number : ℕ) → numbers_rise memory ≡ true
    → IsNonDecreasingBy (λ (m : MemoryObject). ordering_index (nat_cmp m.number number)) memory
searched memory number rise i j d order within =
    compared (get_or memory i d).number (get_or memory j d).number number (rises_to memory i j d rise order within)

-- none is where each differs
none_at : (p : MemoryObject → Bool) (memory : List MemoryObject)
    → ((k : ℕ) (d : MemoryObject) → k < length memory → p (get_or memory k d) ≡ false) → list_any p memory ≡ false
none_at p [] each = refl
none_at p (m ∷ memory) each =
    both_false _ _ (each zero m (omega arith))
    (none_at p memory (λ k d within. each (suc k) d (omega (arith, within))))

other_number : (a n : ℕ) (o : Ordering) → nat_cmp a n ≡ o → (o ≡ Equal → ⊥) → eqb a n ≡ false
other_number a n o is differs = by_tests (ltb a n) (eqb a n) refl refl is
  where
    by_tests : (p q : Bool) → ltb a n ≡ p → eqb a n ≡ q → cond p Less (cond q Equal Greater) ≡ o → q ≡ false
    by_tests true true x y z = let never : ⊥ = grind (arith, nat_tests) in absurd never
    by_tests true false x y z = refl
    by_tests false true x y z = absurd (differs (sym z))
    by_tests false false x y z = refl

less_differs : Less ≡ Equal → ⊥
less_differs is = cc

greater_differs : Greater ≡ Equal → ⊥
greater_differs is = cc

pub not_found : (memory : List MemoryObject) (number i : ℕ)
    → IsPartitionPoint (λ (m : MemoryObject). nat_cmp m.number number ≡ Less)
    (λ (m : MemoryObject). nat_cmp m.number number ≡ Greater) memory i
    → list_any (λ (m : MemoryObject). eqb m.number number) memory ≡ false
not_found memory number i parts = none_at (λ (m : MemoryObject). eqb m.number number) memory
    (λ k d within. by_test k d within (ltb k i) refl)
  where
    by_test : (k : ℕ) (d : MemoryObject) → k < length memory → (b : Bool) → ltb k i ≡ b
        → eqb (get_or memory k d).number number ≡ false
    by_test k d within true is =
        let below : k < i = search (is, arith, nat_tests) in
        other_number (get_or memory k d).number number Less (parts.0 k d (omega arith) below) less_differs
    by_test k d within false is =
        let above : i ≤ k = search (is, arith, nat_tests) in
        other_number (get_or memory k d).number number Greater (parts.1 k d above within) greater_differs

-- one that is equal has the number
pub found_number : (memory : List MemoryObject) (number i : ℕ)
    → HoldsAt (λ (m : MemoryObject). nat_cmp m.number number ≡ Equal) memory i
    → HoldsAt (λ (m : MemoryObject). m.number ≡ number) memory i
found_number memory number i holds d = equal (get_or memory i d).number number (holds d)
  where
    equal : (a n : ℕ) → nat_cmp a n ≡ Equal → a ≡ n
    equal a n is = by_tests (ltb a n) (eqb a n) refl is
      where
        by_tests : (p q : Bool) → eqb a n ≡ q → cond p Less (cond q Equal Greater) ≡ Equal → a ≡ n
        by_tests true q x y = cc
        by_tests false true x y = eqb-true a n x
        by_tests false false x y = cc

-- ---- the one of a number

-- it is what is found
pub found_at : (memory : List MemoryObject) (number i : ℕ) (m : MemoryObject) → numbers_rise memory ≡ true
    → i < length memory → m ≡ get_or memory i m → m.number ≡ number
    → find (λ (o : MemoryObject). eqb o.number number) memory ≡ Some m
found_at [] number i m rise within is named = absurd (omega arith)
found_at (o ∷ memory) number zero m rise within is named =
    let here : eqb o.number number ≡ true =
    let same : o.number ≡ number = ap (λ (x : MemoryObject). x.number) (sym is) ∙ named in search (same, arith, nat_tests) in
    rw here (ap (λ (x : MemoryObject). let s : Option MemoryObject = Some x in s) (sym is))
found_at (o ∷ memory) number (suc i) m rise within is named =
    let parts = and_true (list_all (λ (x : MemoryObject). ltb o.number x.number) memory) (numbers_rise memory) rise in
    let below = all_at (λ (x : MemoryObject). ltb o.number x.number) memory i m parts.0 (omega (arith, within)) in
    let number_is : (get_or memory i m).number ≡ number = ap (λ (x : MemoryObject). x.number) (sym is) ∙ named in
    let other : eqb o.number number ≡ false = unlike o.number (get_or memory i m).number number below number_is in
    rw other (found_at memory number i m parts.1 (omega (arith, within)) is named)
  where
    unlike : (a b n : ℕ) → ltb a b ≡ true → b ≡ n → eqb a n ≡ false
    unlike a b n less same = grind (arith, nat_tests)

-- a test of objects of that number is that of the one
pub any_at : (memory : List MemoryObject) (number i : ℕ) (m : MemoryObject) (p : MemoryObject → Bool)
    → numbers_rise memory ≡ true → i < length memory → m ≡ get_or memory i m → m.number ≡ number
    → ((o : MemoryObject) → p o ≡ true → eqb o.number number ≡ true) → list_any p memory ≡ p m
any_at [] number i m p rise within is named only = absurd (omega arith)
any_at (o ∷ memory) number zero m p rise within is named only =
    let parts = and_true (list_all (λ (x : MemoryObject). ltb o.number x.number) memory) (numbers_rise memory) rise in
    ap (λ b. p o || b) (none_of_those memory parts.0) ∙ last (p o) ∙ ap p (sym is)
  where
    last : (b : Bool) → (b || false) ≡ b
    last true = refl
    last false = refl

    above : (x : MemoryObject) → ltb o.number x.number ≡ true → p x ≡ false
    above x less = false_else (p x) (λ passes. never x less (only x passes))
      where
        never : (x : MemoryObject) → ltb o.number x.number ≡ true → eqb x.number number ≡ true → ⊥
        never x less same =
            let here : o.number ≡ number = ap (λ (y : MemoryObject). y.number) (sym is) ∙ named in grind (arith, nat_tests)

    none_of_those : (rows : List MemoryObject) → list_all (λ (x : MemoryObject). ltb o.number x.number) rows ≡ true
        → list_any p rows ≡ false
    none_of_those [] all = refl
    none_of_those (x ∷ rows) all =
        let parts = and_true (ltb o.number x.number) (list_all (λ (y : MemoryObject). ltb o.number y.number) rows) all in
        both_false _ _ (above x parts.0) (none_of_those rows parts.1)
any_at (o ∷ memory) number (suc i) m p rise within is named only =
    let parts = and_true (list_all (λ (x : MemoryObject). ltb o.number x.number) memory) (numbers_rise memory) rise in
    let below = all_at (λ (x : MemoryObject). ltb o.number x.number) memory i m parts.0 (omega (arith, within)) in
    let number_is : (get_or memory i m).number ≡ number = ap (λ (x : MemoryObject). x.number) (sym is) ∙ named in
    let other : p o ≡ false = false_else (p o) (λ passes. unlike below number_is (only o passes)) in
    rw other (any_at memory number i m p parts.1 (omega (arith, within)) is named only)
  where
    unlike : ltb o.number (get_or memory i m).number ≡ true → (get_or memory i m).number ≡ number
        → eqb o.number number ≡ true → ⊥
    unlike less same here = grind (arith, nat_tests)

-- where there is none of a number, none is found
pub none_found : (memory : List MemoryObject) (number : ℕ)
    → list_any (λ (m : MemoryObject). eqb m.number number) memory ≡ false
    → find (λ (m : MemoryObject). eqb m.number number) memory ≡ None
none_found [] number none = refl
none_found (m ∷ memory) number none =
    let parts = or_false (eqb m.number number) (list_any (λ (o : MemoryObject). eqb o.number number) memory) none in
    rw parts.0 (none_found memory number parts.1)
