-- Areas that hold a span without a gap.
use Rattle.std.proofs.Common.{◌≡◌, ℕ, suc, ◌+◌, ◌<◌, ◌≤◌, Bool, true, false, leb, ltb, List, [], ◌∷◌, drop, refl, sym}
use Rattle.std.proofs.Common.{ap, arith, ⊎_elim, MatchBool, subst}
use Rattle.std.specs.List.{filter, list_all, prefix_len}
use Rattle.std.proofs.lemmas.Bool.{and_parts, cases_lt}
use Rattle.std.proofs.lemmas.Bool.Decides.{nat_tests}
use Rattle.iofd_words.specs.Bounds.{Bounds}
use Rattle.iofd_words.specs.Span.{holds, meets}
use Rattle.iofd_words.specs.declared.rows.Area.{Area}
use Rattle.area_map_rows.specs.Areas.{AreApartFrom, AreApart, runs_on, is_covered, IsCovered, HasGap}
use Rattle.area_map_rows.proofs.Found.{find_none}

abbrev pub Settled : Bool → Bounds → List Area → Type 0
Settled b span xs = MatchBool b (IsCovered span xs) (HasGap span xs)

-- an area that reaches the span's first address, before others that are settled from its end on
behind : (span : Bounds) (x : Area) (xs : List Area) → x.span.first ≤ span.first → span.first ≤ x.span.last
    → (b : Bool) → Settled b (record { first = x.span.last + 1; last = span.last }) xs → Settled b span (x ∷ xs)
behind span x xs from reached true all = λ n low high.
    ⊎_elim (λ (here : n < x.span.last + 1). grind (arith, nat_tests))
    (λ (later : x.span.last + 1 ≤ n). let held = all n later high in grind (arith, nat_tests))
    (cases_lt n (x.span.last + 1))
behind span x xs from reached false gap =
    let above : x.span.last < gap.number = omega (arith, gap.from) in
    let free = gap.free in
    record { number = gap.number; from = omega arith; to = gap.to; free = grind (arith, nat_tests) }

-- an area that ends below the span settles nothing
before : (span : Bounds) (x : Area) (xs : List Area) → x.span.last < span.first → (b : Bool) → Settled b span xs
    → Settled b span (x ∷ xs)
before span x xs ended true all = λ n low high. let held = all n low high in grind (arith, nat_tests)
before span x xs ended false gap =
    let above : x.span.last < gap.number = omega (arith, gap.from) in
    let free = gap.free in
    record { number = gap.number; from = gap.from; to = gap.to; free = grind (arith, nat_tests) }

reaching : (span : Bounds) (x : Area) (xs : List Area) → AreApartFrom (x.span.last + 1) xs → span.first ≤ span.last
    → span.first ≤ x.span.last
    → (x.span.last < span.last → Settled (runs_on (x.span.last + 1) span.last xs)
    (record { first = x.span.last + 1; last = span.last }) xs)
    → Settled (runs_on span.first span.last (x ∷ xs)) span (x ∷ xs)
reaching span x xs apart ordered reached rest =
    ⊎_elim
    (λ (gap : span.first < x.span.first).
    let test : ltb span.first x.span.first ≡ true = grind (arith, nat_tests) in
    let none = find_none (λ area. holds area.span span.first) (x.span.last + 1) xs apart
    (λ b after. grind (arith, nat_tests)) in
    rw test (record { number = span.first; from = omega arith; to = ordered; free = grind (arith, nat_tests) }))
    (λ (from : x.span.first ≤ span.first).
    let test : ltb span.first x.span.first ≡ false = grind (arith, nat_tests) in
    ⊎_elim
    (λ (short : x.span.last < span.last).
    let goes_on : leb span.last x.span.last ≡ false = grind (arith, nat_tests) in
    rw (test, goes_on) (behind span x xs from reached (runs_on (x.span.last + 1) span.last xs) (rest short)))
    (λ (ends : span.last ≤ x.span.last).
    let stops : leb span.last x.span.last ≡ true = grind (arith, nat_tests) in
    rw (test, stops) (λ n low high. grind (arith, nat_tests)))
    (cases_lt x.span.last span.last))
    (cases_lt span.first x.span.first)

covers_from : (low : ℕ) (span : Bounds) (xs : List Area) → AreApartFrom low xs → span.first ≤ span.last
    → span.first ≤ low → Settled (runs_on span.first span.last xs) span xs
covers_from low span [] apart ordered from =
    record { number = span.first; from = omega arith; to = ordered; free = refl }
covers_from low span (x ∷ xs) apart ordered from =
    reaching span x xs apart.2 ordered (omega (arith, apart.0, apart.1))
    (λ short. covers_from (x.span.last + 1) (record { first = x.span.last + 1; last = span.last }) xs apart.2
    (omega arith) (omega arith))

pub drop_behind : (x : Area) (xs : List Area) (n : ℕ) → drop (1 + n) (x ∷ xs) ≡ drop n xs
drop_behind x xs n = let next : 1 + n ≡ suc n = omega arith in rw next refl

-- all that begin from an address on reach it
pub reaching_all : (address low : ℕ) (xs : List Area) → AreApartFrom low xs → address ≤ low
    → filter (λ (a : Area). leb address a.span.last) xs ≡ xs
reaching_all address low [] apart from = refl
reaching_all address low (x ∷ xs) apart from =
    let from_low = apart.0 in
    let own = apart.1 in
    let reached : leb address x.span.last ≡ true = grind (arith, nat_tests) in
    let rest = reaching_all address (x.span.last + 1) xs apart.2 (omega (arith, apart.0, apart.1)) in
    rw reached (ap (λ ys. x ∷ ys) rest)

pub reaching_from : (address low : ℕ) (xs : List Area) → AreApartFrom low xs
    → drop (prefix_len (λ (a : Area). ltb a.span.last address) xs) xs ≡ filter
    (λ (a : Area). leb address a.span.last) xs
reaching_from address low [] apart = refl
reaching_from address low (x ∷ xs) apart =
    ⊎_elim
    (λ (ended : x.span.last < address).
    let test : ltb x.span.last address ≡ true = grind (arith, nat_tests) in
    let fails : leb address x.span.last ≡ false = grind (arith, nat_tests) in
    let next = drop_behind x xs (prefix_len (λ (a : Area). ltb a.span.last address) xs) in
    rw (test, fails, next) (reaching_from address (x.span.last + 1) xs apart.2))
    (λ (reached : address ≤ x.span.last).
    let test : ltb x.span.last address ≡ false = grind (arith, nat_tests) in
    let passes : leb address x.span.last ≡ true = grind (arith, nat_tests) in
    rw (test, passes) (ap (λ ys. x ∷ ys) (sym (reaching_all address (x.span.last + 1) xs apart.2 (omega arith)))))
    (cases_lt x.span.last address)

-- the areas that end below the span are no part of it
covers_after : (low : ℕ) (span : Bounds) (xs : List Area) → AreApartFrom low xs → span.first ≤ span.last
    → Settled (is_covered span xs) span xs
covers_after low span [] apart ordered = record { number = span.first; from = omega arith; to = ordered; free = refl }
covers_after low span (x ∷ xs) apart ordered =
    ⊎_elim
    (λ (ended : x.span.last < span.first).
    let test : leb span.first x.span.last ≡ false = grind (arith, nat_tests) in
    rw test (before span x xs ended (is_covered span xs) (covers_after (x.span.last + 1) span xs apart.2 ordered)))
    (λ (reached : span.first ≤ x.span.last).
    let test : leb span.first x.span.last ≡ true = grind (arith, nat_tests) in
    let all = reaching_all span.first (x.span.last + 1) xs apart.2 (omega arith) in
    rw (test, all) (reaching span x xs apart.2 ordered reached
    (λ short. covers_from (x.span.last + 1) (record { first = x.span.last + 1; last = span.last }) xs apart.2
    (omega arith) (omega arith))))
    (cases_lt x.span.last span.first)

-- the test is true just where each address is held
pub is_covered-tells : (span : Bounds) (xs : List Area) → AreApart xs → span.first ≤ span.last
    → Settled (is_covered span xs) span xs
is_covered-tells span xs apart ordered = covers_after 0 span xs apart ordered

-- where all meet the span, all end in it or behind it
reaching_met : (span : Bounds) (xs : List Area) → list_all (λ (a : Area). meets a.span span) xs ≡ true
    → filter (λ (a : Area). leb span.first a.span.last) xs ≡ xs
reaching_met span [] met = refl
reaching_met span (x ∷ xs) met =
    let parts = and_parts (meets x.span span) (list_all (λ (a : Area). meets a.span span) xs) met in
    let reached = (and_parts (leb x.span.first span.last) (leb span.first x.span.last) parts.0).1 in
    rw reached (ap (λ ys. x ∷ ys) (reaching_met span xs parts.1))

-- areas that all meet the span hold it where they run on over it
pub met_cover : (span : Bounds) (xs : List Area) → AreApart xs → span.first ≤ span.last
    → list_all (λ (a : Area). meets a.span span) xs ≡ true → Settled (runs_on span.first span.last xs) span xs
met_cover span xs apart ordered met =
    subst (λ (ys : List Area). Settled (runs_on span.first span.last ys) span xs) (reaching_met span xs met)
    (is_covered-tells span xs apart ordered)
