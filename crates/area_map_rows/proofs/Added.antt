-- An area added in order.
use Rattle.std.proofs.Common.{◌≡◌, ℕ, suc, ◌+◌, ◌<◌, ◌≤◌, true, false, ltb, List, [], ◌∷◌, length, refl, ap, ◌∙◌, arith}
use Rattle.std.proofs.Common.{⊎_elim}
use Rattle.std.specs.List.{insert, prefix_len}
use Rattle.std.proofs.lemmas.Bool.{cases_lt}
use Rattle.std.proofs.lemmas.Bool.Decides.{nat_tests}
use Rattle.iofd_words.specs.declared.rows.Area.{Area}
use Rattle.area_map_rows.specs.Areas.{AreApartFrom, AreApart, with_area}
use Rattle.iofd_words.specs.Areas.{areas_meet}

insert_behind : (x : Area) (xs : List Area) (n : ℕ) (a : Area) → insert (x ∷ xs) (1 + n) a ≡ x ∷ insert xs n a
insert_behind x xs n a = let next : 1 + n ≡ suc n = omega arith in rw next refl

-- behind the areas that end below it, it stands before the first that begins after it
pub with_area-place : (a : Area) (low : ℕ) (xs : List Area) → AreApartFrom low xs → a.span.first ≤ a.span.last
    → areas_meet a.span xs ≡ false
    → insert xs (prefix_len (λ (x : Area). ltb x.span.last a.span.first) xs) a ≡ with_area a xs
with_area-place a low [] apart ordered alone = refl
with_area-place a low (x ∷ xs) apart ordered alone =
    let own : x.span.first ≤ x.span.last = apart.1 in
    ⊎_elim
    (λ (ended : x.span.last < a.span.first).
    let others : areas_meet a.span xs ≡ false = grind (arith, nat_tests) in
    let rest = with_area-place a (x.span.last + 1) xs apart.2 ordered others in
    let behind : ltb x.span.last a.span.first ≡ true = grind (arith, nat_tests) in
    let later : ltb a.span.first x.span.first ≡ false = grind (arith, nat_tests) in
    rw (behind, later, insert_behind x xs (prefix_len (λ (x : Area). ltb x.span.last a.span.first) xs) a)
    (ap (λ ys. x ∷ ys) rest))
    (λ (reached : a.span.first ≤ x.span.last).
    let after : a.span.last < x.span.first = grind (arith, nat_tests) in
    grind (arith, nat_tests))
    (cases_lt x.span.last a.span.first)

-- the areas are in order and apart again
with_area-from : (a : Area) (low : ℕ) (xs : List Area) → AreApartFrom low xs → low ≤ a.span.first
    → a.span.first ≤ a.span.last → areas_meet a.span xs ≡ false → AreApartFrom low (with_area a xs)
with_area-from a low [] apart above ordered alone = (above, ordered, tt)
with_area-from a low (x ∷ xs) apart above ordered alone =
    let own : x.span.first ≤ x.span.last = apart.1 in
    let others : areas_meet a.span xs ≡ false = grind (arith, nat_tests) in
    ⊎_elim
    (λ (before : a.span.first < x.span.first).
    let test : ltb a.span.first x.span.first ≡ true = grind (arith, nat_tests) in
    let after : a.span.last + 1 ≤ x.span.first = grind (arith, nat_tests) in
    rw test (above, ordered, (after, own, apart.2)))
    (λ (behind : x.span.first ≤ a.span.first).
    let test : ltb a.span.first x.span.first ≡ false = grind (arith, nat_tests) in
    let after : x.span.last + 1 ≤ a.span.first = grind (arith, nat_tests) in
    rw test (apart.0, own, with_area-from a (x.span.last + 1) xs apart.2 after ordered others))
    (cases_lt a.span.first x.span.first)

pub with_area-apart : (a : Area) (xs : List Area) → AreApart xs → a.span.first ≤ a.span.last
    → areas_meet a.span xs ≡ false → AreApart (with_area a xs)
with_area-apart a xs apart ordered alone = with_area-from a 0 xs apart (omega arith) ordered alone

pub length-with_area : (a : Area) (xs : List Area) → length (with_area a xs) ≡ length xs + 1
length-with_area a [] = refl
length-with_area a (x ∷ xs) =
    let rest = length-with_area a xs in
    ⊎_elim (λ (before : a.span.first < x.span.first). grind (arith, nat_tests))
    (λ (behind : x.span.first ≤ a.span.first). grind (arith, nat_tests)) (cases_lt a.span.first x.span.first)

-- what is inserted behind the areas that end below it
pub inserted-with : (a : Area) (xs seen ys : List Area) (place : ℕ) → xs ≡ seen → AreApart seen
    → areas_meet a.span seen ≡ false → a.span.first ≤ a.span.last
    → place ≡ prefix_len (λ (x : Area). ltb x.span.last a.span.first) xs → ys ≡ insert xs place a
    → ys ≡ with_area a seen
inserted-with a xs seen ys place is apart alone ordered at made =
    made ∙ rw (at, is) (with_area-place a 0 seen apart ordered alone)
