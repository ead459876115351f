-- Areas stay in order and apart where their spans stay, and where some are taken away.
use Rattle.std.proofs.Common.{◌≡◌, ℕ, ◌+◌, ◌≤◌, Bool, true, false, List, [], ◌∷◌, length, map, refl, arith}
use Rattle.std.proofs.Common.{ap, ⊎_elim}
use Rattle.std.specs.List.{filter}
use Rattle.std.proofs.lemmas.Bool.{cases_Bool}
use Rattle.std.proofs.lemmas.Bool.Decides.{nat_tests}
use Rattle.std.proofs.lemmas.List.{length-map}
use Rattle.iofd_words.specs.Bounds.{Bounds}
use Rattle.iofd_words.specs.Span.{holds}
use Rattle.iofd_words.specs.declared.rows.Area.{Area}
use Rattle.area_map_rows.specs.Areas.{AreApartFrom, AreKept, IsCovered, HasGap, changed}
use Rattle.area_map_rows.specs.Rows.{end_of, first_of, widest_behind, widest_of}
use Rattle.area_map_rows.specs.declared.marking.Change.{Change}
use Rattle.area_map_rows.specs.declared.marking.Change.TheVariants.{Leave, Pay, SetTries}
use Rattle.area_map_rows.proofs.Found.{list_any-find}

apart-map : (f : Area → Area) → ((a : Area) → (f a).span ≡ a.span) → (low : ℕ) (xs : List Area) → AreApartFrom low xs
    → AreApartFrom low (map f xs)
apart-map f same low [] apart = apart
apart-map f same low (x ∷ xs) apart = rw (same x) (apart.0, apart.1, apart-map f same (x.span.last + 1) xs apart.2)

pub kept-map : (f : Area → Area) → ((a : Area) → (f a).span ≡ a.span) → (xs : List Area) → AreKept xs
    → AreKept (map f xs)
kept-map f same xs kept = record { apart = apart-map f same 0 xs kept.apart; few = rw (length-map xs f) kept.few }

pub apart-lower : (low below : ℕ) (xs : List Area) → below ≤ low → AreApartFrom low xs → AreApartFrom below xs
apart-lower low below [] less apart = apart
apart-lower low below (x ∷ xs) less apart = (omega (arith, apart.0), apart.1, apart.2)

pub apart-filter : (p : Area → Bool) (low : ℕ) (xs : List Area) → AreApartFrom low xs → AreApartFrom low (filter p xs)
apart-filter p low [] apart = apart
apart-filter p low (x ∷ xs) apart =
    let rest = apart-filter p (x.span.last + 1) xs apart.2 in
    ⊎_elim (λ (passes : p x ≡ true). rw passes (apart.0, apart.1, rest))
    (λ (fails : p x ≡ false). rw fails (apart-lower (x.span.last + 1) low (filter p xs)
    (omega (arith, apart.0, apart.1)) rest))
    (cases_Bool (p x))

pub length-filter-le : (p : Area → Bool) (xs : List Area) → length (filter p xs) ≤ length xs
length-filter-le p [] = omega arith
length-filter-le p (x ∷ xs) =
    let rest = length-filter-le p xs in
    ⊎_elim (λ (passes : p x ≡ true). grind (arith, nat_tests))
    (λ (fails : p x ≡ false). grind (arith, nat_tests)) (cases_Bool (p x))

pub kept-filter : (p : Area → Bool) (xs : List Area) → AreKept xs → AreKept (filter p xs)
kept-filter p xs kept =
    let fewer = length-filter-le p xs in
    let most = kept.few in
    record { apart = apart-filter p 0 xs kept.apart; few = omega arith }

-- a span with a gap isn't covered
pub gap_tells : (span : Bounds) (xs : List Area) → HasGap span xs → IsCovered span xs → ⊥
gap_tells span xs gap all =
    let some = all gap.number gap.from gap.to in
    let none = list_any-find (λ area. holds area.span gap.number) xs in
    let free = gap.free in
    cc

-- a change of phases leaves where they begin and end, and the gaps between them
pub changed-span : (change : Change) (span : Bounds) (a : Area) → (changed change span a).span ≡ a.span
changed-span (Leave owed) span a = refl
changed-span (Pay device) span a = refl
changed-span (SetTries tries) span a = refl

pub first-map : (f : Area → Area) → ((a : Area) → (f a).span ≡ a.span) → (xs : List Area)
    → first_of (map f xs) ≡ first_of xs
first-map f same [] = refl
first-map f same (x ∷ xs) = ap (λ (s : Bounds). s.first) (same x)

pub end-map : (f : Area → Area) → ((a : Area) → (f a).span ≡ a.span) → (xs : List Area)
    → end_of (map f xs) ≡ end_of xs
end-map f same [] = refl
end-map f same (x ∷ []) = ap (λ (s : Bounds). s.last) (same x)
end-map f same (x ∷ y ∷ xs) = end-map f same (y ∷ xs)

behind-map : (f : Area → Area) → ((a : Area) → (f a).span ≡ a.span) → (last : ℕ) (xs : List Area)
    → widest_behind last (map f xs) ≡ widest_behind last xs
behind-map f same last [] = refl
behind-map f same last (x ∷ xs) = rw (same x, behind-map f same x.span.last xs) refl

pub widest-map : (f : Area → Area) → ((a : Area) → (f a).span ≡ a.span) → (xs : List Area)
    → widest_of (map f xs) ≡ widest_of xs
widest-map f same [] = refl
widest-map f same (x ∷ xs) = rw (same x, behind-map f same x.span.last xs) refl
