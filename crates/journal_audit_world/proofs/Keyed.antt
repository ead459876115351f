-- Numbers and pairs among the keys of a set.
use Rattle.std.proofs.Common.{◌≡◌, ◌≤◌, ℕ, Bool, true, false, cond, ◌&&◌, ◌||◌, eqb, ltb, List, [], ◌∷◌, min, max}
use Rattle.std.proofs.Common.{Less, Equal, Greater, refl, sym, ap, ◌∙◌, arith}
use Rattle.std.proofs.lemmas.Bool.{eqb-true}
use Rattle.std.proofs.lemmas.Bool.Decides.{nat_tests}
use Rattle.std.specs.BTreeMap.{is_at}
use Rattle.std.specs.List.{list_any}
use Rattle.std.specs.Ordering.{is_eq, nat_cmp, ordering_then}
use Rattle.journal_audit_world.specs.Keys.{AreWithin, has_number, has_pair}

flipped : (a b : Bool) → cond a true b ≡ (b || a)
flipped true true = refl
flipped true false = refl
flipped false true = refl
flipped false false = refl

apart : (m n : ℕ) → ltb m n ≡ true → eqb m n ≡ false
apart m n is = grind (arith, nat_tests)

-- ---- numbers

same_number : (n key : ℕ) → is_at (nat_cmp n) key ≡ eqb n key
same_number n key = by_tests (ltb n key) (eqb n key) (apart n key)
  where
    by_tests : (a b : Bool) → (a ≡ true → b ≡ false) → is_eq (cond a Less (cond b Equal Greater)) ≡ b
    by_tests true true x = let never = x refl in cc
    by_tests true false x = refl
    by_tests false true x = refl
    by_tests false false x = refl

pub number_is : (n : ℕ) (keys : List ℕ) → list_any (is_at (nat_cmp n)) keys ≡ has_number keys n
number_is n [] = refl
number_is n (key ∷ keys) = rw (same_number n key, number_is n keys) refl

pub number_added : (old new : List ℕ) (number : ℕ)
    → ((q : ℕ) → list_any (is_at (nat_cmp q)) new
    ≡ cond (is_at (nat_cmp number) q) true (list_any (is_at (nat_cmp q)) old))
    → (other : ℕ) → has_number new other ≡ (has_number old other || eqb number other)
number_added old new number more other =
    sym (number_is other new) ∙ more other
    ∙ ap (λ b. cond b true (list_any (is_at (nat_cmp other)) old)) (same_number number other)
    ∙ ap (λ b. cond (eqb number other) true b) (number_is other old)
    ∙ flipped (eqb number other) (has_number old other)

-- the bounds with one number more
pub more_within : (old new : List ℕ) (low high number : ℕ) → AreWithin low high old
    → ((other : ℕ) → has_number new other ≡ (has_number old other || eqb number other))
    → AreWithin (min low number) (max high number) new
more_within old new low high number within more n has =
    by_test (has_number old n) refl (sym (more n) ∙ has)
  where
    by_test : (b : Bool) → has_number old n ≡ b → (b || eqb number n) ≡ true
        → (min low number ≤ n) × (n ≤ max high number)
    by_test true is one = let parts = within n is in (omega arith, omega arith)
    by_test false is one = let same : number ≡ n = eqb-true number n one in (omega arith, omega arith)

-- ---- pairs

pub same_pair : (a b : ℕ) (key : ℕ × ℕ)
    → is_at (λ (x : ℕ × ℕ). ordering_then (nat_cmp a x.0) (nat_cmp b x.1)) key ≡ (eqb a key.0 && eqb b key.1)
same_pair a b key = by_tests (ltb a key.0) (eqb a key.0) (ltb b key.1) (eqb b key.1) (apart a key.0) (apart b key.1)
  where
    by_tests : (p q r s : Bool) → (p ≡ true → q ≡ false) → (r ≡ true → s ≡ false)
        → is_eq (ordering_then (cond p Less (cond q Equal Greater)) (cond r Less (cond s Equal Greater))) ≡ (q && s)
    by_tests true true r s x y = let never = x refl in cc
    by_tests true false r s x y = refl
    by_tests false true true true x y = let never = y refl in cc
    by_tests false true true false x y = refl
    by_tests false true false true x y = refl
    by_tests false true false false x y = refl
    by_tests false false r s x y = refl

pub pair_is : (a b : ℕ) (keys : List (ℕ × ℕ))
    → list_any (is_at (λ (x : ℕ × ℕ). ordering_then (nat_cmp a x.0) (nat_cmp b x.1))) keys ≡ has_pair keys a b
pair_is a b [] = refl
pair_is a b (key ∷ keys) = rw (same_pair a b key, pair_is a b keys) refl

pub pair_added : (old new : List (ℕ × ℕ)) (a b : ℕ)
    → ((q : ℕ × ℕ) → list_any (is_at (λ (x : ℕ × ℕ). ordering_then (nat_cmp q.0 x.0) (nat_cmp q.1 x.1))) new
    ≡ cond (is_at (λ (x : ℕ × ℕ). ordering_then (nat_cmp a x.0) (nat_cmp b x.1)) q) true
    (list_any (is_at (λ (x : ℕ × ℕ). ordering_then (nat_cmp q.0 x.0) (nat_cmp q.1 x.1))) old))
    → (c d : ℕ) → has_pair new c d ≡ (has_pair old c d || (eqb a c && eqb b d))
pair_added old new a b more c d =
    sym (pair_is c d new) ∙ more (c, d)
    ∙ ap (λ t. cond t true (list_any (is_at (λ (x : ℕ × ℕ). ordering_then (nat_cmp c x.0) (nat_cmp d x.1))) old))
    (same_pair a b (c, d))
    ∙ ap (λ t. cond (eqb a c && eqb b d) true t) (pair_is c d old)
    ∙ flipped (eqb a c && eqb b d) (has_pair old c d)
