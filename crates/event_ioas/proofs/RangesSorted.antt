-- Whether ranges stand apart doesn't hang on their order, and those that do rise once they are sorted.
use Rattle.std.proofs.Common.{◌≡◌, ◌∙◌, ℕ, suc, ◌+◌, ◌≤◌, Bool, true, false, ◌&&◌, ◌||◌, not, cond, ltb, leb, List, []}
use Rattle.std.proofs.Common.{◌∷◌, refl, sym, arith}
use Rattle.std.proofs.lemmas.Bool.Decides.{nat_tests}
use Rattle.std.proofs.lemmas.List.Sorted.{IsPermutation-sym, list_any-IsPermutation, sum_by-IsPermutation}
use Rattle.std.specs.List.{count_by, list_any}
use Rattle.std.specs.List.Sorted.{IsNonDecreasingBy, IsPermutation}
use Rattle.iofd_rows.proofs.Bools.{and_true, both_false, not_true, or_false}
use Rattle.iofd_rows.proofs.ListTests.{alike, or_right}
use Rattle.iofd_rows.proofs.PageCounts.{count-cons}
use Rattle.iofd_words.specs.Allowed.{are_ranges}
use Rattle.iofd_words.specs.Bounds.{Bounds}
use Rattle.iofd_refusals.specs.Checks.{unusable_in}
use Rattle.iofd_words.specs.Ranges.{in_spans, meets_some}
use Rattle.iofd_words.specs.Span.{holds, meets}
use Rattle.iofd_words.specs.View.{View}
use Rattle.iofd_words.specs.declared.numbers.FileNo.{FileNo}
use Rattle.iofd_words.specs.declared.numbers.ObjId.{ObjId}
use Rattle.user_memory_rows.proofs.CountBy.{any_count}
use Rattle.event_ioas.proofs.AreRising.{rising_are_ranges}
use Rattle.event_ioas.specs.RangeChecks.{range_checks}
use Rattle.event_ioas.specs.Rising.{are_rising, ends_below}

-- one of them doesn't begin below its last address
abbrev some_bad : List Bounds → Bool
some_bad ranges = list_any (λ r. not (ltb r.first r.last)) ranges

-- how many of them hold the number
abbrev holders : ℕ → List Bounds → ℕ
holders n ranges = count_by (λ r. holds r n) ranges

-- what meets none of them has no number of theirs
no_holder : (n : ℕ) (range : Bounds) (ranges : List Bounds) → meets_some ranges range ≡ false → holds range n ≡ true
    → in_spans ranges n ≡ false
no_holder n range [] clear in_it = refl
no_holder n range (r ∷ ranges) clear in_it =
    let parts = or_false (meets r range) (meets_some ranges range) clear in
    both_false _ _ (apart r.first r.last range.first range.last parts.0 in_it) (no_holder n range ranges parts.1 in_it)
  where
    apart : (a b c d : ℕ) → (leb a d && leb c b) ≡ false → (leb c n && leb n d) ≡ true → (leb a n && leb n b) ≡ false
    apart a b c d clear in_it = grind (arith, nat_tests)

-- one range more that meets none of them
one_more : (n : ℕ) (range : Bounds) (ranges : List Bounds) → meets_some ranges range ≡ false → holders n ranges ≤ 1
    → holders n (range ∷ ranges) ≤ 1
one_more n range ranges clear few = rw (count-cons (λ r. holds r n) range ranges) (by_test (holds range n) refl)
  where
    by_test : (b : Bool) → holds range n ≡ b → cond b 1 0 + holders n ranges ≤ 1
    by_test true in_it =
        let none = sym (any_count (λ r. holds r n) ranges) ∙ no_holder n range ranges clear in_it in
        grind (arith, nat_tests)
    by_test false out = omega arith

-- of ranges that stand apart at most one holds a number
one_holder : (n : ℕ) (ranges : List Bounds) → are_ranges ranges ≡ true → holders n ranges ≤ 1
one_holder n [] good = search arith
one_holder n (r ∷ ranges) good =
    let parts = and_true (ltb r.first r.last && not (meets_some ranges r)) (are_ranges ranges) good in
    let own = and_true (ltb r.first r.last) (not (meets_some ranges r)) parts.0 in
    one_more n r ranges (not_true (meets_some ranges r) own.1) (one_holder n ranges parts.1)

none_bad : (ranges : List Bounds) → are_ranges ranges ≡ true → some_bad ranges ≡ false
none_bad [] good = refl
none_bad (r ∷ ranges) good =
    let parts = and_true (ltb r.first r.last && not (meets_some ranges r)) (are_ranges ranges) good in
    let own = and_true (ltb r.first r.last) (not (meets_some ranges r)) parts.0 in
    both_false _ _ (rw own.0 refl) (none_bad ranges parts.1)

-- a number that the range and one of the others hold
abbrev BothHold : Bounds → List Bounds → Type 0
BothHold range ranges = (n : ℕ) × (holds range n ≡ true) × (in_spans ranges n ≡ true)

either : {P : Type 0} (a b : Bool) → (a || b) ≡ true → (a ≡ true → P) → (b ≡ true → P) → P
either true b is first second = first refl
either false b is first second = second is

not_bad : (a : Bool) → not a ≡ false → a ≡ true
not_bad true is = refl
not_bad false is = cc

met_first : (range r : Bounds) (ranges : List Bounds) → ltb range.first range.last ≡ true → ltb r.first r.last ≡ true
    → meets r range ≡ true → BothHold range (r ∷ ranges)
met_first range r ranges own good met = at (leb r.first range.first) refl
  where
    at : (b : Bool) → leb r.first range.first ≡ b → BothHold range (r ∷ ranges)
    at true low =
        (range.first, grind (arith, nat_tests), rw (inside r.first r.last range.first range.last low met) refl)
      where
        inside : (a b c d : ℕ) → leb a c ≡ true → (leb a d && leb c b) ≡ true → (leb a c && leb c b) ≡ true
        inside a b c d low met = grind (arith, nat_tests)
    at false high = (r.first, grind (arith, nat_tests), rw (inside r.first r.last good) refl)
      where
        inside : (a b : ℕ) → ltb a b ≡ true → (leb a a && leb a b) ≡ true
        inside a b good = grind (arith, nat_tests)

met_at : (range : Bounds) (ranges : List Bounds) → ltb range.first range.last ≡ true → some_bad ranges ≡ false
    → meets_some ranges range ≡ true → BothHold range ranges
met_at range [] own good met = absurd cc
met_at range (r ∷ ranges) own good met =
    let parts = or_false (not (ltb r.first r.last)) (some_bad ranges) good in
    either (meets r range) (meets_some ranges range) met
    (λ first. met_first range r ranges own (not_bad (ltb r.first r.last) parts.0) first)
    (λ later.
    let both = met_at range ranges own parts.1 later in
    (both.0, both.1, or_right (holds r both.0) (in_spans ranges both.0) both.2))

clear_of : (range : Bounds) (ranges : List Bounds) → ltb range.first range.last ≡ true → some_bad ranges ≡ false
    → ((n : ℕ) → holders n (range ∷ ranges) ≤ 1) → meets_some ranges range ≡ false
clear_of range ranges own good few = alike (meets_some ranges range) false
    (λ met.
    let both = met_at range ranges own good met in
    let count = rw (count-cons (λ r. holds r both.0) range ranges, both.1) at (few both.0) in
    let some = sym (any_count (λ r. holds r both.0) ranges) ∙ both.2 in
    grind (arith, nat_tests))
    (λ is. cc)

-- ranges of which at most one holds a number stand apart
ranges_by_holders : (ranges : List Bounds) → some_bad ranges ≡ false → ((n : ℕ) → holders n ranges ≤ 1)
    → are_ranges ranges ≡ true
ranges_by_holders [] good few = refl
ranges_by_holders (r ∷ ranges) good few =
    let parts = or_false (not (ltb r.first r.last)) (some_bad ranges) good in
    let own = not_bad (ltb r.first r.last) parts.0 in
    let clear = clear_of r ranges own parts.1 few in
    let rest = ranges_by_holders ranges parts.1
    (λ n. let sum = rw (count-cons (λ s. holds s n) r ranges) at (few n) in omega arith) in
    rw (own, clear, rest) refl

permuted : (xs ys : List Bounds) → IsPermutation xs ys → are_ranges xs ≡ true → are_ranges ys ≡ true
permuted xs ys same good =
    ranges_by_holders ys
    (sym (list_any-IsPermutation (λ r. not (ltb r.first r.last)) xs ys same) ∙ none_bad xs good)
    (λ n. rw (sum_by-IsPermutation (λ r. cond (holds r n) 1 0) xs ys same) (one_holder n xs good))

-- ranges that stand apart rise where their starts do
starts_rise : (ranges : List Bounds) → IsNonDecreasingBy (λ r. r.first) ranges → are_ranges ranges ≡ true
    → are_rising ranges ≡ true
starts_rise [] up good = refl
starts_rise (r ∷ []) up good =
    let parts = and_true (ltb r.first r.last && true) true good in
    let own = and_true (ltb r.first r.last) true parts.0 in
    rw own.0 refl
starts_rise (r ∷ next ∷ ranges) up good =
    let parts = and_true (ltb r.first r.last && not (meets_some (next ∷ ranges) r)) (are_ranges (next ∷ ranges)) good in
    let own = and_true (ltb r.first r.last) (not (meets_some (next ∷ ranges) r)) parts.0 in
    let clear = not_true (meets_some (next ∷ ranges) r) own.1 in
    let first = or_false (meets next r) (meets_some ranges r) clear in
    let rest =
    starts_rise (next ∷ ranges) (λ i j d low high. up (suc i) (suc j) d (omega arith) (omega arith)) parts.1 in
    let others = and_true (ltb next.first next.last && ends_below next ranges) (are_rising ranges) rest in
    let second = and_true (ltb next.first next.last) (ends_below next ranges) others.0 in
    let below : ltb r.last next.first ≡ true =
    behind r.first r.last next.first next.last (up 0 1 r (search arith) (omega arith)) first.0 second.0 in
    rw (own.0, below, rest) refl
  where
    behind : (a b c d : ℕ) → a ≤ c → (leb c b && leb a d) ≡ false → ltb c d ≡ true → ltb b c ≡ true
    behind a b c d low clear own = grind (arith, nat_tests)

-- those by rising start do where they stand apart
pub sorted_are_ranges : (ranges : List Bounds) → IsNonDecreasingBy (λ r. r.first) ranges
    → are_rising ranges ≡ are_ranges ranges
sorted_are_ranges ranges up =
    alike (are_rising ranges) (are_ranges ranges) (rising_are_ranges ranges) (starts_rise ranges up)

-- in any other order they are refused for the same reasons
pub same_checks : (v : View) (file : FileNo) (ioas : ObjId) (xs ys : List Bounds) → IsPermutation xs ys
    → range_checks v file ioas ys ≡ range_checks v file ioas xs
same_checks v file ioas xs ys same =
    rw (apart, sym (list_any-IsPermutation (meets_some (unusable_in v file ioas)) xs ys same)) refl
  where
    apart : are_ranges ys ≡ are_ranges xs
    apart = alike (are_ranges ys) (are_ranges xs) (permuted ys xs (IsPermutation-sym xs ys same)) (permuted xs ys same)
