-- Ranges by rising address have no address in common.
use Rattle.std.proofs.Common.{◌≡◌, ℕ, true, false, ◌&&◌, ltb, leb, List, [], ◌∷◌, refl, arith}
use Rattle.std.proofs.lemmas.Bool.Decides.{nat_tests}
use Rattle.iofd_rows.proofs.Bools.{and_true, both_false}
use Rattle.iofd_words.specs.Allowed.{are_ranges}
use Rattle.iofd_words.specs.Bounds.{Bounds}
use Rattle.iofd_words.specs.Ranges.{meets_some}
use Rattle.event_ioas.specs.Rising.{are_rising, ends_below}

-- what ends below the first of them meets none
clear_of : (range : Bounds) (ranges : List Bounds) → ends_below range ranges ≡ true → are_rising ranges ≡ true
    → meets_some ranges range ≡ false
clear_of range [] below rising = refl
clear_of range (next ∷ []) below rising = both_false _ _ (apart range.first range.last next.first next.last below) refl
  where
    apart : (a b c d : ℕ) → ltb b c ≡ true → (leb c b && leb a d) ≡ false
    apart a b c d below = grind (arith, nat_tests)
clear_of range (next ∷ after ∷ ranges) below rising =
    let parts =
    and_true (ltb next.first next.last && ends_below next (after ∷ ranges)) (are_rising (after ∷ ranges)) rising in
    let own = and_true (ltb next.first next.last) (ends_below next (after ∷ ranges)) parts.0 in
    both_false _ _ (apart range.first range.last next.first next.last below)
    (clear_of range (after ∷ ranges) (further range.last next.first next.last after.first below own.0 own.1) parts.1)
  where
    apart : (a b c d : ℕ) → ltb b c ≡ true → (leb c b && leb a d) ≡ false
    apart a b c d below = grind (arith, nat_tests)

    further : (a b c d : ℕ) → ltb a b ≡ true → ltb b c ≡ true → ltb c d ≡ true → ltb a d ≡ true
    further a b c d first second third = grind (arith, nat_tests)

pub rising_are_ranges : (ranges : List Bounds) → are_rising ranges ≡ true → are_ranges ranges ≡ true
rising_are_ranges [] rising = refl
rising_are_ranges (range ∷ ranges) rising =
    let parts = and_true (ltb range.first range.last && ends_below range ranges) (are_rising ranges) rising in
    let own = and_true (ltb range.first range.last) (ends_below range ranges) parts.0 in
    rw (own.0, clear_of range ranges own.1 parts.1, rising_are_ranges ranges parts.1) refl
