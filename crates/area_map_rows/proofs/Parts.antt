-- Areas that are passed over, since each ends below an address.
use Rattle.std.proofs.Common.{◌≡◌, ℕ, zero, suc, ◌+◌, ◌<◌, ◌≤◌, ltb, leb, get_or, List, [], ◌∷◌, length}
use Rattle.std.proofs.Common.{drop, find, refl, arith}
use Rattle.std.proofs.lemmas.Bool.Decides.{nat_tests}
use Rattle.std.specs.List.{prefix_len}
use Rattle.iofd_words.specs.declared.rows.Area.{Area}
use Rattle.area_map_rows.specs.Areas.{AreApartFrom}

last_above : (low : ℕ) (areas : List Area) → AreApartFrom low areas → (j : ℕ) (d : Area) → j < length areas
    → low ≤ (get_or areas j d).span.last
last_above low [] apart j d within = absurd (omega arith)
last_above low (area ∷ areas) apart zero d within = omega (arith, apart.0, apart.1)
last_above low (area ∷ areas) apart (suc j) d within =
    let above = last_above (area.span.last + 1) areas apart.2 j d (omega arith) in
    omega (arith, above, apart.0, apart.1)

one_more : (address : ℕ) (area : Area) (areas : List Area) → area.span.last < address
    → prefix_len (λ (a : Area). ltb a.span.last address) (area ∷ areas)
    ≡ suc (prefix_len (λ (a : Area). ltb a.span.last address) areas)
one_more address area areas below = grind (arith, nat_tests)

-- where one ends below the address, all before it do
pub areas_below : (address low : ℕ) (areas : List Area) → AreApartFrom low areas → (j : ℕ) (d : Area)
    → j < length areas → (get_or areas j d).span.last < address
    → j < prefix_len (λ (a : Area). ltb a.span.last address) areas
areas_below address low [] apart j d within below = absurd (omega arith)
areas_below address low (area ∷ areas) apart zero d within below =
    let here = one_more address area areas below in omega (arith, here)
areas_below address low (area ∷ areas) apart (suc j) d within below =
    let above = last_above (area.span.last + 1) areas apart.2 j d (omega arith) in
    let here = one_more address area areas (omega (arith, above, below)) in
    let rest = areas_below address (area.span.last + 1) areas apart.2 j d (omega arith) below in
    omega (arith, here, rest)

pub passed_within : (address : ℕ) (areas : List Area)
    → prefix_len (λ (a : Area). ltb a.span.last address) areas ≤ length areas
passed_within address [] = omega arith
passed_within address (area ∷ areas) = grind (arith, nat_tests, passed_within address areas)

-- those that end below the address begin below it
pub below_before : (address low : ℕ) (areas : List Area) → AreApartFrom low areas
    → prefix_len (λ (a : Area). ltb a.span.last address) areas
    ≤ prefix_len (λ (a : Area). ltb a.span.first address) areas
below_before address low [] apart = omega arith
below_before address low (area ∷ areas) apart =
    let rest = below_before address (area.span.last + 1) areas apart.2 in
    grind (arith, nat_tests, apart.1, rest)

-- none of them reaches it
pub find_behind : (address : ℕ) (areas : List Area) (n : ℕ)
    → n ≤ prefix_len (λ (a : Area). ltb a.span.last address) areas
    → find (λ (a : Area). leb address a.span.last) (drop n areas) ≡ find (λ (a : Area). leb address a.span.last) areas
find_behind address areas zero passed = refl
find_behind address [] (suc n) passed = refl
find_behind address (area ∷ areas) (suc n) passed =
    grind (arith, nat_tests, passed, find_behind address areas n)
