-- The widest gap of a row, where an area comes or some go.
use Rattle.std.proofs.Common.{◌≡◌, ℕ, suc, zero, ◌+◌, ◌-◌, ◌<◌, ◌≤◌, true, false, ltb, max, List, [], ◌∷◌, ◌++◌}
use Rattle.std.proofs.Common.{length, get_or, take, drop, refl, arith, ⊎_elim}
use Rattle.std.specs.List.{prefix_len}
use Rattle.std.proofs.lemmas.Bool.{cases_lt}
use Rattle.std.proofs.lemmas.Bool.Decides.{nat_tests}
use Rattle.iofd_words.specs.Areas.{areas_meet}
use Rattle.iofd_words.specs.declared.rows.Area.{Area}
use Rattle.area_map_rows.specs.Areas.{AreApartFrom, AreApart, with_area}
use Rattle.area_map_rows.specs.Rows.{gap_at, gap_behind, widest_behind, widest_of}
use Rattle.area_map_rows.proofs.Kept.{apart-lower}

-- ---- the gap at a place

pub gap-first : (place : ℕ) (xs : List Area) → place ≡ 0 → gap_at place xs ≡ 18446744073709551615
gap-first zero [] is = refl
gap-first zero (x ∷ xs) is = refl
gap-first (suc place) xs is = absurd (omega (arith, is))

beyond : (last place : ℕ) (xs : List Area) → length xs ≤ place → gap_behind last place xs ≡ 18446744073709551615
beyond last place [] high = refl
beyond last zero (x ∷ xs) high = absurd (omega (arith, high))
beyond last (suc place) (x ∷ xs) high = beyond x.span.last place xs (omega (arith, high))

pub gap-beyond : (place : ℕ) (xs : List Area) → length xs ≤ place → gap_at place xs ≡ 18446744073709551615
gap-beyond place [] high = refl
gap-beyond zero (x ∷ xs) high = refl
gap-beyond (suc place) (x ∷ xs) high = beyond x.span.last place xs (omega (arith, high))

between_behind : (x : Area) (place : ℕ) (xs : List Area) (d : Area) → place < length xs
    → gap_behind x.span.last place xs
    ≡ (get_or xs place d).span.first - (get_or (x ∷ xs) place d).span.last - 1
between_behind x place [] d within = absurd (omega (arith, within))
between_behind x zero (y ∷ xs) d within = refl
between_behind x (suc place) (y ∷ xs) d within = between_behind y place xs d (omega (arith, within))

pub gap-between : (place : ℕ) (xs : List Area) (d : Area) → 0 < place → place < length xs
    → gap_at place xs ≡ (get_or xs place d).span.first - (get_or xs (place - 1) d).span.last - 1
gap-between place [] d some within = absurd (omega (arith, within))
gap-between zero (x ∷ xs) d some within = absurd (omega (arith, some))
gap-between (suc place) (x ∷ xs) d some within =
    let same : suc place - 1 ≡ place = omega arith in
    rw same (between_behind x place xs d (omega (arith, within)))

-- a gap that is one has an area at its place
behind-within : (last place : ℕ) (xs : List Area) → gap_behind last place xs < 18446744073709551615 → place < length xs
behind-within last place [] less = absurd (omega (arith, less))
behind-within last zero (x ∷ xs) less = omega arith
behind-within last (suc place) (x ∷ xs) less =
    let rest = behind-within x.span.last place xs less in omega (arith, rest)

-- ---- an area comes

-- an area that comes between two parts a gap: none is wider then, and none of the others is less wide
record IsParted (gap old new : ℕ) : Type 0 where
  no_wider : new ≤ old
  others : old ≤ max gap new

parted : (a : Area) (last : ℕ) (xs : List Area) → AreApartFrom (last + 1) xs → last < a.span.first
    → a.span.first ≤ a.span.last → areas_meet a.span xs ≡ false
    → prefix_len (λ (x : Area). ltb x.span.last a.span.first) xs < length xs
    → IsParted (gap_behind last (prefix_len (λ (x : Area). ltb x.span.last a.span.first) xs) xs)
    (widest_behind last xs) (widest_behind last (with_area a xs))
parted a last [] apart behind ordered alone within = absurd (omega (arith, within))
parted a last (x ∷ xs) apart behind ordered alone within =
    let own : x.span.first ≤ x.span.last = apart.1 in
    ⊎_elim
    (λ (ended : x.span.last < a.span.first).
    let others : areas_meet a.span xs ≡ false = grind (arith, nat_tests) in
    let test : ltb x.span.last a.span.first ≡ true = grind (arith, nat_tests) in
    let later : ltb a.span.first x.span.first ≡ false = grind (arith, nat_tests) in
    let next : prefix_len (λ (y : Area). ltb y.span.last a.span.first) (x ∷ xs)
    ≡ suc (prefix_len (λ (y : Area). ltb y.span.last a.span.first) xs) = grind (arith, nat_tests) in
    let rest = parted a x.span.last xs apart.2 ended ordered others (omega (arith, within, next)) in
    let no_wider = rest.no_wider in
    let kept = rest.others in
    rw (next, later) (record { no_wider = omega (arith, no_wider); others = omega (arith, kept) }))
    (λ (reached : a.span.first ≤ x.span.last).
    let after : a.span.last < x.span.first = grind (arith, nat_tests) in
    let test : ltb x.span.last a.span.first ≡ false = grind (arith, nat_tests) in
    let before : ltb a.span.first x.span.first ≡ true = grind (arith, nat_tests) in
    let here : prefix_len (λ (y : Area). ltb y.span.last a.span.first) (x ∷ xs) ≡ 0 = rw test refl in
    rw (here, before) (record {
      no_wider = omega (arith, after, ordered, behind);
      others = omega (arith, after, ordered, behind);
    }))
    (cases_lt x.span.last a.span.first)

-- where it isn't the widest gap that is parted, that stays
pub widest-with : (a : Area) (xs : List Area) → AreApart xs → a.span.first ≤ a.span.last
    → areas_meet a.span xs ≡ false → (widest : ℕ) → widest ≡ widest_of xs → widest ≤ 18446744073709551615
    → gap_at (prefix_len (λ (x : Area). ltb x.span.last a.span.first) xs) xs < widest
    → widest_of (with_area a xs) ≡ widest
widest-with a [] apart ordered alone widest is low less = absurd (omega (arith, less, low))
widest-with a (x ∷ xs) apart ordered alone widest is low less =
    let own : x.span.first ≤ x.span.last = apart.1 in
    ⊎_elim
    (λ (ended : x.span.last < a.span.first).
    let others : areas_meet a.span xs ≡ false = grind (arith, nat_tests) in
    let test : ltb x.span.last a.span.first ≡ true = grind (arith, nat_tests) in
    let later : ltb a.span.first x.span.first ≡ false = grind (arith, nat_tests) in
    let next : prefix_len (λ (y : Area). ltb y.span.last a.span.first) (x ∷ xs)
    ≡ suc (prefix_len (λ (y : Area). ltb y.span.last a.span.first) xs) = grind (arith, nat_tests) in
    let narrow : gap_behind x.span.last (prefix_len (λ (y : Area). ltb y.span.last a.span.first) xs) xs < widest
    = rw next at less in
    let within = behind-within x.span.last (prefix_len (λ (y : Area). ltb y.span.last a.span.first) xs) xs
    (omega (arith, narrow, low)) in
    let rest = parted a x.span.last xs apart.2 ended ordered others within in
    let no_wider = rest.no_wider in
    let kept = rest.others in
    rw later (omega (arith, no_wider, kept, narrow, is)))
    (λ (reached : a.span.first ≤ x.span.last).
    let test : ltb x.span.last a.span.first ≡ false = grind (arith, nat_tests) in
    let here : prefix_len (λ (y : Area). ltb y.span.last a.span.first) (x ∷ xs) ≡ 0 = rw test refl in
    let most = rw here at less in
    absurd (omega (arith, most, low)))
    (cases_lt x.span.last a.span.first)

-- ---- some go

apart-drop : (low : ℕ) (xs : List Area) (to : ℕ) → AreApartFrom low xs → AreApartFrom low (drop to xs)
apart-drop low xs zero apart = apart
apart-drop low [] (suc to) apart = tt
apart-drop low (x ∷ xs) (suc to) apart =
    apart-lower (x.span.last + 1) low (drop to xs) (omega (arith, apart.0, apart.1))
    (apart-drop (x.span.last + 1) xs to apart.2)

-- all up to a place go: the gaps among them become one
joined_first : (last to : ℕ) (xs : List Area) → AreApartFrom (last + 1) xs → 0 < length (drop to xs)
    → widest_behind last (drop to xs) ≡ max (widest_behind last xs) (gap_behind last 0 (drop to xs))
joined_first last zero [] apart some = absurd (omega (arith, some))
joined_first last zero (x ∷ xs) apart some = omega arith
joined_first last (suc to) [] apart some = absurd (omega (arith, some))
joined_first last (suc to) (x ∷ xs) apart some =
    by_rest (drop to xs) (joined_first x.span.last to xs apart.2 some) (apart-drop (x.span.last + 1) xs to apart.2) some
  where
    by_rest : (zs : List Area)
        → widest_behind x.span.last zs ≡ max (widest_behind x.span.last xs) (gap_behind x.span.last 0 zs)
        → AreApartFrom (x.span.last + 1) zs → 0 < length zs
        → widest_behind last zs ≡ max (widest_behind last (x ∷ xs)) (gap_behind last 0 zs)
    by_rest [] rest above there = absurd (omega (arith, there))
    by_rest (z ∷ zs) rest above there =
        let from = above.0 in
        let low = apart.0 in
        let own = apart.1 in
        omega (arith, rest, from, low, own)

joined : (last from to : ℕ) (xs : List Area) → AreApartFrom (last + 1) xs → from ≤ to
    → from < length (take from xs ++ drop to xs)
    → widest_behind last (take from xs ++ drop to xs)
    ≡ max (widest_behind last xs) (gap_behind last from (take from xs ++ drop to xs))
joined last zero to xs apart order within = joined_first last to xs apart within
joined last (suc from) zero xs apart order within = absurd (omega (arith, order))
joined last (suc from) (suc to) [] apart order within = absurd (omega (arith, within))
joined last (suc from) (suc to) (x ∷ xs) apart order within =
    let rest = joined x.span.last from to xs apart.2 (omega (arith, order)) (omega (arith, within)) in
    omega (arith, rest)

-- the gap that they leave may be the widest now
pub widest-without : (from to : ℕ) (xs : List Area) → AreApart xs → from ≤ to
    → gap_at from (take from xs ++ drop to xs) < 18446744073709551615
    → widest_of (take from xs ++ drop to xs) ≡ max (widest_of xs) (gap_at from (take from xs ++ drop to xs))
widest-without zero to xs apart order less =
    let most = gap-first 0 (drop to xs) refl in absurd (omega (arith, most, less))
widest-without (suc from) zero xs apart order less = absurd (omega (arith, order))
widest-without (suc from) (suc to) [] apart order less = absurd (omega (arith, less))
widest-without (suc from) (suc to) (x ∷ xs) apart order less =
    joined x.span.last from to xs apart.2 (omega (arith, order))
    (behind-within x.span.last from (take from xs ++ drop to xs) less)
