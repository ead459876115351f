-- How many pages of memory objects pass a test.
use Rattle.std.proofs.Common.{◌≡◌, ℕ, ◌+◌, ◌≤◌, Bool, true, false, cond, List, [], ◌∷◌, ◌++◌, refl, ◌∙◌, arith, inl}
use Rattle.std.proofs.Common.{inr}
use Rattle.std.specs.List.{count_by, filter, flat_map}
use Rattle.std.proofs.lemmas.List.Sums.{sum_by-append, sum_by-cons}
use Rattle.iofd_words.specs.Pins.{ObjectPage, pages_of}
use Rattle.iofd_words.specs.declared.rows.MemoryObject.{MemoryObject}
use Rattle.iofd_rows.proofs.Each.{IsIn}

-- ---- any rows

pub count-cons : {X : Type 0} (p : X → Bool) (x : X) (xs : List X)
    → count_by p (x ∷ xs) ≡ cond (p x) 1 0 + count_by p xs
count-cons p x xs = sum_by-cons (λ x. cond (p x) 1 0) x xs

-- what passes one test passes one of two others
pub count_either : {X : Type 0} (p q r : X → Bool) (xs : List X)
    → ((x : X) → IsIn xs x → p x ≡ true → q x ≡ false → r x ≡ true) → count_by p xs ≤ count_by q xs + count_by r xs
count_either p q r [] either = omega arith
count_either p q r (x ∷ xs) either =
    let rest = count_either p q r xs (λ y later. either y (inr later)) in
    rw (count-cons p x xs, count-cons q x xs, count-cons r x xs) (by_tests (p x) (q x) (r x) (either x (inl refl)) rest)
  where
    by_tests : (a b c : Bool) → (a ≡ true → b ≡ false → c ≡ true) → count_by p xs ≤ count_by q xs + count_by r xs
        → cond a 1 0 + count_by p xs ≤ (cond b 1 0 + count_by q xs) + (cond c 1 0 + count_by r xs)
    by_tests true true c is rest = omega (arith, rest)
    by_tests true false true is rest = omega (arith, rest)
    by_tests true false false is rest = let never = is refl refl in cc
    by_tests false b c is rest = omega (arith, rest)

pub count_none : {X : Type 0} (p : X → Bool) (xs : List X) → ((x : X) → IsIn xs x → p x ≡ false) → count_by p xs ≡ 0
count_none p [] fails = refl
count_none p (x ∷ xs) fails =
    rw (count-cons p x xs, fails x (inl refl), count_none p xs (λ y later. fails y (inr later))) refl

pub count_weaker : {X : Type 0} (p q : X → Bool) (xs : List X) → ((x : X) → IsIn xs x → p x ≡ true → q x ≡ true)
    → count_by p xs ≤ count_by q xs
count_weaker p q xs weaker =
    let two = count_either p (λ x. false) q xs (λ x within passes none. weaker x within passes) in
    let none = count_none (λ x. false) xs (λ x within. refl) in
    omega (arith, two, none)

-- ---- pages of memory objects

-- how many pages of the memory objects that pass a test pass another one
abbrev pub page_count : (ObjectPage → Bool) → (MemoryObject → Bool) → List MemoryObject → ℕ
page_count p t memory = count_by p (flat_map pages_of (filter t memory))

pub page_count-cons : (p : ObjectPage → Bool) (t : MemoryObject → Bool) (m : MemoryObject) (memory : List MemoryObject)
    → page_count p t (m ∷ memory) ≡ cond (t m) (count_by p (pages_of m)) 0 + page_count p t memory
page_count-cons p t m memory = by_test (t m)
  where
    by_test : (b : Bool) → count_by p (flat_map pages_of (cond b (m ∷ filter t memory) (filter t memory))) ≡ cond b
        (count_by p (pages_of m)) 0 + page_count p t memory
    by_test true = sum_by-append (λ page. cond (p page) 1 0) (pages_of m) (flat_map pages_of (filter t memory))
    by_test false = omega arith

-- one more memory object
pub page_count_last : (p : ObjectPage → Bool) (t : MemoryObject → Bool) (memory : List MemoryObject) (m : MemoryObject)
    → page_count p t (memory ++ m ∷ []) ≡ page_count p t memory + cond (t m) (count_by p (pages_of m)) 0
page_count_last p t [] m = page_count-cons p t m [] ∙ omega arith
page_count_last p t (o ∷ memory) m =
    let rest = page_count_last p t memory m in
    let here = page_count-cons p t o (memory ++ m ∷ []) in
    let before = page_count-cons p t o memory in
    omega (arith, rest, here, before)

-- the bound of each memory object
pub page_count_bound : (p q : ObjectPage → Bool) (t s : MemoryObject → Bool) (memory : List MemoryObject)
    → ((m : MemoryObject) → IsIn memory m → cond (t m) (count_by p (pages_of m)) 0 ≤ cond (s m)
    (count_by q (pages_of m)) 0) → page_count p t memory ≤ page_count q s memory
page_count_bound p q t s [] bound = omega arith
page_count_bound p q t s (m ∷ memory) bound =
    let rest = page_count_bound p q t s memory (λ o later. bound o (inr later)) in
    let here = bound m (inl refl) in
    rw (page_count-cons p t m memory, page_count-cons q s m memory) (omega (arith, rest, here))

-- no page of those passes
pub page_count_none : (p : ObjectPage → Bool) (t : MemoryObject → Bool) (memory : List MemoryObject)
    → ((m : MemoryObject) → IsIn memory m → t m ≡ true → (page : ObjectPage) → IsIn (pages_of m) page → p page ≡ false)
    → page_count p t memory ≡ 0
page_count_none p t [] fails = refl
page_count_none p t (m ∷ memory) fails =
    page_count-cons p t m memory ∙ rw (page_count_none p t memory (λ o later. fails o (inr later)))
    (by_test (t m) (fails m (inl refl)))
  where
    by_test : (b : Bool) → (b ≡ true → (page : ObjectPage) → IsIn (pages_of m) page → p page ≡ false)
        → cond b (count_by p (pages_of m)) 0 + 0 ≡ 0
    by_test true fails = rw (count_none p (pages_of m) (fails refl)) refl
    by_test false fails = refl

-- memory objects go
pub page_count_filter : (p : ObjectPage → Bool) (t q : MemoryObject → Bool) (memory : List MemoryObject)
    → page_count p t (filter q memory) ≤ page_count p t memory
page_count_filter p t q [] = omega arith
page_count_filter p t q (m ∷ memory) =
    let rest = page_count_filter p t q memory in
    rw (page_count-cons p t m memory) (by_test (q m) rest)
  where
    by_test : (b : Bool) → page_count p t (filter q memory) ≤ page_count p t memory
        → page_count p t (cond b (m ∷ filter q memory) (filter q memory)) ≤ cond (t m) (count_by p (pages_of m))
        0 + page_count p t memory
    by_test true rest = rw (page_count-cons p t m (filter q memory)) (omega (arith, rest))
    by_test false rest = omega (arith, rest)
