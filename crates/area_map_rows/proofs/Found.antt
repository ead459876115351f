-- What the first area that ends at an address or after it tells.
use Rattle.std.proofs.Common.{◌≡◌, ℕ, ◌+◌, ◌<◌, ◌≤◌, Bool, true, false, cond, not, leb, ltb, ◌||◌, ◌&&◌, Option, Some}
use Rattle.std.proofs.Common.{None, List, [], ◌∷◌, refl, ap, ◌∙◌, arith, ⊎_elim, is_some}
use Rattle.std.specs.List.{find, list_any}
use Rattle.std.proofs.lemmas.Bool.{cases_Bool, cases_lt}
use Rattle.std.proofs.lemmas.Bool.Decides.{nat_tests}
use Rattle.iofd_words.specs.declared.rows.Area.{Area}
use Rattle.iofd_words.specs.Bounds.{Bounds}
use Rattle.iofd_words.specs.Span.{holds, meets, lies_in}
use Rattle.area_map_rows.specs.Areas.{AreApartFrom, AreApart, area_of, is_same, ends_after}
use Rattle.iofd_words.specs.Areas.{area_at, areas_meet, is_cut}

-- what is found passes
pub find_passes : (p : Area → Bool) (xs : List Area) (a : Area) → find p xs ≡ Some a → p a ≡ true
find_passes p [] a found = cc
find_passes p (x ∷ xs) a found =
    ⊎_elim (λ (yes : p x ≡ true). grind (arith, nat_tests))
    (λ (fails : p x ≡ false). let later : find p xs ≡ Some a = grind (arith, nat_tests) in find_passes p xs a later)
    (cases_Bool (p x))

-- some pass where one is found
pub list_any-find : (p : Area → Bool) (xs : List Area) → list_any p xs ≡ is_some (find p xs)
list_any-find p [] = refl
list_any-find p (x ∷ xs) =
    let rest = list_any-find p xs in
    ⊎_elim (λ (yes : p x ≡ true). grind (arith, nat_tests))
    (λ (fails : p x ≡ false). grind (arith, nat_tests)) (cases_Bool (p x))

-- what fails from an address on is not found among what begins there
pub find_none : (p : Area → Bool) (low : ℕ) (xs : List Area) → AreApartFrom low xs
    → ((b : Area) → low ≤ b.span.first → p b ≡ false) → find p xs ≡ None
find_none p low [] apart fails = refl
find_none p low (x ∷ xs) apart fails =
    let here = fails x apart.0 in
    let rest = find_none p (x.span.last + 1) xs apart.2 (λ b after. fails b (omega (arith, apart.0, apart.1))) in
    grind (arith, nat_tests)

-- the area, if there is one and it passes
abbrev pub passing : (Area → Bool) → Option Area → Option Area
passing p None = None
passing p (Some a) = cond (p a) (Some a) None

-- A test that fails below the address, and behind an area that reaches the address and fails, is answered by the
-- first area that reaches the address.
pub find_first : (p : Area → Bool) (address : ℕ)
    → ((a : Area) → a.span.first ≤ a.span.last → a.span.last < address → p a ≡ false)
    → ((a b : Area) → address ≤ a.span.last → a.span.first ≤ a.span.last → p a ≡ false → a.span.last < b.span.first
    → p b ≡ false)
    → (low : ℕ) (xs : List Area) → AreApartFrom low xs
    → find p xs ≡ passing p (find (λ (a : Area). leb address a.span.last) xs)
find_first p address below behind low [] apart = refl
find_first p address below behind low (x ∷ xs) apart =
    let rest = find_first p address below behind (x.span.last + 1) xs apart.2 in
    ⊎_elim
    (λ (ended : x.span.last < address). let fails = below x apart.1 ended in grind (arith, nat_tests))
    (λ (reached : address ≤ x.span.last).
    ⊎_elim (λ (yes : p x ≡ true). grind (arith, nat_tests))
    (λ (fails : p x ≡ false).
    let none = find_none p (x.span.last + 1) xs apart.2 (λ b after. behind x b reached apart.1 fails (omega arith)) in
    grind (arith, nat_tests))
    (cases_Bool (p x)))
    (cases_lt x.span.last address)

-- the area at an address
pub area_at-first : (iova : ℕ) (xs : List Area) → AreApart xs
    → area_at iova xs ≡ passing (λ area. holds area.span iova) (find (λ (a : Area). leb iova a.span.last) xs)
area_at-first iova xs apart = find_first (λ area. holds area.span iova) iova
    (λ a ordered ended. grind (arith, nat_tests)) (λ a b reached ordered fails after. grind (arith, nat_tests)) 0 xs
    apart

pub at_none : (iova : ℕ) (xs : List Area) → AreApart xs → find (λ (a : Area). leb iova a.span.last) xs ≡ None
    → area_at iova xs ≡ None
at_none iova xs apart none = area_at-first iova xs apart ∙ ap (passing (λ area. holds area.span iova)) none

pub at_some : (iova : ℕ) (xs : List Area) (a : Area) → AreApart xs
    → find (λ (a : Area). leb iova a.span.last) xs ≡ Some a
    → area_at iova xs ≡ cond (leb a.span.first iova) (Some a) None
at_some iova xs a apart found =
    let reached = find_passes (λ (a : Area). leb iova a.span.last) xs a found in
    let same : holds a.span iova ≡ leb a.span.first iova = grind (arith, nat_tests) in
    area_at-first iova xs apart ∙ ap (passing (λ area. holds area.span iova)) found
    ∙ ap (λ b. cond b (Some a) None) same

-- the area of exactly a span
pub area_of-first : (span : Bounds) (xs : List Area) → AreApart xs
    → area_of span xs ≡ passing (λ area. is_same area.span span) (find (λ (a : Area). leb span.first a.span.last) xs)
area_of-first span xs apart =
    find_first (λ area. is_same area.span span) span.first (λ a ordered ended. grind (arith, nat_tests))
    (λ a b reached ordered fails after. grind (arith, nat_tests)) 0 xs apart

-- whether some area meets a span
pub meets-first : (span : Bounds) (xs : List Area) → AreApart xs
    → areas_meet span xs ≡ is_some (passing (λ area. meets area.span span)
    (find (λ (a : Area). leb span.first a.span.last) xs))
meets-first span xs apart =
    list_any-find (λ area. meets area.span span) xs
    ∙ ap is_some (find_first (λ area. meets area.span span) span.first (λ a ordered ended. grind (arith, nat_tests))
    (λ a b reached ordered fails after. grind (arith, nat_tests)) 0 xs apart)

pub exact_none : (span : Bounds) (xs : List Area) → AreApart xs
    → find (λ (a : Area). leb span.first a.span.last) xs ≡ None → area_of span xs ≡ None
exact_none span xs apart none = area_of-first span xs apart ∙ ap (passing (λ area. is_same area.span span)) none

pub exact_some : (span : Bounds) (xs : List Area) (a : Area) → AreApart xs
    → find (λ (a : Area). leb span.first a.span.last) xs ≡ Some a
    → area_of span xs ≡ cond (is_same a.span span) (Some a) None
exact_some span xs a apart found = area_of-first span xs apart ∙ ap (passing (λ area. is_same area.span span)) found

pub meets_none : (span : Bounds) (xs : List Area) → AreApart xs
    → find (λ (a : Area). leb span.first a.span.last) xs ≡ None → areas_meet span xs ≡ false
meets_none span xs apart none =
    meets-first span xs apart ∙ ap (λ found. is_some (passing (λ area. meets area.span span) found)) none

is_some-cond : {A : Type 0} (b : Bool) (x : A) → is_some (cond b (Some x) None) ≡ b
is_some-cond true x = refl
is_some-cond false x = refl

pub meets_some : (span : Bounds) (xs : List Area) (a : Area) → AreApart xs
    → find (λ (a : Area). leb span.first a.span.last) xs ≡ Some a → areas_meet span xs ≡ leb a.span.first span.last
meets_some span xs a apart found =
    let reached = find_passes (λ (a : Area). leb span.first a.span.last) xs a found in
    let same : meets a.span span ≡ leb a.span.first span.last = grind (arith, nat_tests) in
    meets-first span xs apart ∙ ap (λ found. is_some (passing (λ area. meets area.span span) found)) found
    ∙ is_some-cond (meets a.span span) a ∙ same

-- nothing behind a span cuts it
none_cuts : (span : Bounds) (low : ℕ) (xs : List Area) → AreApartFrom low xs → span.last < low → is_cut span xs ≡ false
none_cuts span low xs apart behind =
    list_any-find (λ area. meets area.span span && not (lies_in area.span span)) xs
    ∙ ap is_some (find_none (λ area. meets area.span span && not (lies_in area.span span)) low xs apart
    (λ b after. grind (arith, nat_tests)))

-- what begins in a span or behind it is cut at the span's last address
cut_last : (span : Bounds) (low : ℕ) (xs : List Area) → AreApartFrom low xs → span.first ≤ span.last → span.first ≤ low
    → is_cut span xs ≡ ends_after span.last (area_at span.last xs)
cut_last span low [] apart ordered from = refl
cut_last span low (x ∷ xs) apart ordered from =
    let above = apart.0 in
    let own = apart.1 in
    ⊎_elim
    (λ (ends : x.span.last < span.last). let rest = cut_last span (x.span.last + 1) xs apart.2 ordered (omega arith) in
    grind (arith, nat_tests))
    (λ (reached : span.last ≤ x.span.last).
    let none_last = find_none (λ area. holds area.span span.last) (x.span.last + 1) xs apart.2
    (λ b after. grind (arith, nat_tests)) in
    let none_cut = none_cuts span (x.span.last + 1) xs apart.2 (omega arith) in
    grind (arith, nat_tests))
    (cases_lt x.span.last span.last)

-- whether a span is cut, by the first area that reaches it and the area at its last address
abbrev pub cut_by : Bounds → Option Area → Option Area → Bool
cut_by span None at_last = false
cut_by span (Some a) at_last = cond (leb span.last a.span.last) (meets a.span span && not (lies_in a.span span))
    (ltb a.span.first span.first || ends_after span.last at_last)

cut_from : (span : Bounds) (low : ℕ) (xs : List Area) → AreApartFrom low xs → span.first ≤ span.last
    → is_cut span xs ≡ cut_by span (find (λ (a : Area). leb span.first a.span.last) xs) (area_at span.last xs)
cut_from span low [] apart ordered = refl
cut_from span low (x ∷ xs) apart ordered =
    let own = apart.1 in
    ⊎_elim
    (λ (ended : x.span.last < span.first). let rest = cut_from span (x.span.last + 1) xs apart.2 ordered in
    grind (arith, nat_tests))
    (λ (reached : span.first ≤ x.span.last).
    ⊎_elim
    (λ (ends : x.span.last < span.last). let rest = cut_last span (x.span.last + 1) xs apart.2 ordered (omega arith) in
    grind (arith, nat_tests))
    (λ (beyond : span.last ≤ x.span.last). let none = none_cuts span (x.span.last + 1) xs apart.2 (omega arith) in
    grind (arith, nat_tests))
    (cases_lt x.span.last span.last))
    (cases_lt x.span.last span.first)

pub cut_first : (span : Bounds) (xs : List Area) (first : Option Area) → AreApart xs → span.first ≤ span.last
    → find (λ (a : Area). leb span.first a.span.last) xs ≡ first
    → is_cut span xs ≡ cut_by span first (area_at span.last xs)
cut_first span xs first apart ordered is =
    cut_from span 0 xs apart ordered ∙ ap (λ found. cut_by span found (area_at span.last xs)) is

-- what decides where the first area that reaches the span reaches its end, and where it doesn't
module _ (span : Bounds) (a : Area) (at_last : Option Area) where
  pub cut_within : span.last ≤ a.span.last
      → cut_by span (Some a) at_last ≡ (meets a.span span && not (lies_in a.span span))
  cut_within within = let test : leb span.last a.span.last ≡ true = grind (arith, nat_tests) in rw test refl

  pub cut_below : a.span.last < span.last → a.span.first < span.first
      → cut_by span (Some a) at_last ≡ ltb a.span.first span.first
  cut_below ends below =
      let test : leb span.last a.span.last ≡ false = grind (arith, nat_tests) in
      let first : ltb a.span.first span.first ≡ true = grind (arith, nat_tests) in
      rw (test, first) refl

  pub cut_above : a.span.last < span.last → span.first ≤ a.span.first
      → cut_by span (Some a) at_last ≡ ends_after span.last at_last
  cut_above ends above =
      let test : leb span.last a.span.last ≡ false = grind (arith, nat_tests) in
      let first : ltb a.span.first span.first ≡ false = grind (arith, nat_tests) in
      rw (test, first) refl
