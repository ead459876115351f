-- Merged spans: where each of them stands.
use Rattle.std.proofs.Common.{◌≡◌, ℕ, suc, zero, ◌+◌, ◌<◌, ◌≤◌, Bool, true, false, List, [], ◌∷◌, length, get_or, refl}
use Rattle.std.proofs.Common.{arith}
use Rattle.std.specs.List.{prefix_len, AllWithin}
use Rattle.std.specs.List.Sorted.{IsNonDecreasingBy}
use Rattle.std.proofs.lemmas.Bool.Decides.{nat_tests}
use Rattle.iofd_words.specs.Bounds.{Bounds}
use Rattle.iofd_words.specs.Ranges.{AreMergedFrom, in_spans}

pub begins-from : (low : ℕ) (xs : List Bounds) → AreMergedFrom low xs → (j : ℕ) (d : Bounds) → j < length xs
    → low ≤ (get_or xs j d).first
begins-from low [] merged j d within = absurd (omega arith)
begins-from low (x ∷ xs) merged zero d within = merged.0
begins-from low (x ∷ xs) merged (suc j) d within =
    let later = begins-from (x.last + 2) xs merged.2 j d (omega arith) in
    omega (arith, merged.0, merged.1, later)

pub is_ordered : (low : ℕ) (xs : List Bounds) → AreMergedFrom low xs → (j : ℕ) (d : Bounds) → j < length xs
    → (get_or xs j d).first ≤ (get_or xs j d).last
is_ordered low [] merged j d within = absurd (omega arith)
is_ordered low (x ∷ xs) merged zero d within = merged.1
is_ordered low (x ∷ xs) merged (suc j) d within = is_ordered (x.last + 2) xs merged.2 j d (omega arith)

-- their ends rise
pub ends_rise : (low : ℕ) (xs : List Bounds) → AreMergedFrom low xs → IsNonDecreasingBy (λ (x : Bounds). x.last) xs
ends_rise low [] merged i j d up within = absurd (omega arith)
ends_rise low (x ∷ xs) merged zero zero d up within = omega arith
ends_rise low (x ∷ xs) merged zero (suc j) d up within =
    let begins = begins-from (x.last + 2) xs merged.2 j d (omega arith) in
    let ordered = is_ordered (x.last + 2) xs merged.2 j d (omega arith) in
    omega (arith, begins, ordered)
ends_rise low (x ∷ xs) merged (suc i) zero d up within = absurd (omega arith)
ends_rise low (x ∷ xs) merged (suc i) (suc j) d up within =
    ends_rise (x.last + 2) xs merged.2 i j d (omega arith) (omega arith)

pub ends_rise_by : (xs : List Bounds) → AreMergedFrom 0 xs → IsNonDecreasingBy (λ (x : Bounds). x.last + 1) xs
ends_rise_by xs merged i j d up within =
    let less = ends_rise 0 xs merged i j d up within in
    omega (arith, less)

-- the place that a binary search finds
pub prefix_len-from_within : (p : Bounds → Bool) (xs : List Bounds) (i : ℕ) → i ≤ length xs
    → AllWithin (λ y. p y ≡ true) xs 0 i → AllWithin (λ y. p y ≡ false) xs i (length xs) → i ≡ prefix_len p xs
prefix_len-from_within p [] i within passing failing = omega arith
prefix_len-from_within p (x ∷ xs) zero within passing failing =
    let here : p x ≡ false = failing 0 x (omega arith) (omega arith) in
    grind (arith, nat_tests)
prefix_len-from_within p (x ∷ xs) (suc i) within passing failing =
    let here : p x ≡ true = passing 0 x (omega arith) (omega arith) in
    let rest = prefix_len-from_within p xs i (omega arith)
    (λ k d low high. passing (suc k) d (omega arith) (omega arith))
    (λ k d low high. failing (suc k) d (omega arith) (omega arith)) in
    grind (arith, nat_tests)

-- nothing below the spans is in the set
pub below-out : (low : ℕ) (xs : List Bounds) → AreMergedFrom low xs → (n : ℕ) → n < low → in_spans xs n ≡ false
below-out low [] merged n below = refl
below-out low (x ∷ xs) merged n below =
    let from = merged.0 in
    let own = merged.1 in
    let rest = below-out (x.last + 2) xs merged.2 n (omega arith) in
    grind (arith, nat_tests)

pub merged-lower : (low below : ℕ) (xs : List Bounds) → below ≤ low → AreMergedFrom low xs → AreMergedFrom below xs
merged-lower low below [] less merged = merged
merged-lower low below (x ∷ xs) less merged = (omega (arith, merged.0), merged.1, merged.2)
