-- The tables of one level that rising pages lack.
use Rattle.std.proofs.Common.{◌≡◌, ◌≢◌, ℕ, zero, suc, ◌+◌, ◌-◌, ◌*◌, ◌^◌, ◌/◌, ◌<◌, ◌≤◌, Bool, true, false, cond, eqb}
use Rattle.std.proofs.Common.{ltb, not, ◌&&◌, ◌||◌, List, [], ◌∷◌, ◌++◌, length, map, max, refl, sym, ◌∙◌, ap, ⊎_elim}
use Rattle.std.proofs.Common.{arith}
use Rattle.std.specs.List.{AllByRecursion, count_by, range_with_len}
use Rattle.std.proofs.lemmas.Bool.{cases_Bool, cases_eq, cases_lt, eq-eqb, le-ltb, lt-ltb, ne_eqb}
use Rattle.std.proofs.Math.Nat.{lt-div-mul-add}
use Rattle.std.proofs.lemmas.List.Sums.{sum_by-append}
use Rattle.std.proofs.lemmas.Nat.{pow_pos}
use Rattle.iofd_words.specs.Levels.{first_address, number_at}
use Rattle.iofd_words.specs.TablePlaces.{TablePlace, is_place, lacking}
use Rattle.page_table_words.proofs.Members.{each_then}
use Rattle.page_table_words.proofs.Needs.{pages_grow}
use Rattle.page_table_words.proofs.Numbers.{number-page, same_first}
use Rattle.page_table_spans.specs.Levels.{place_at}
use Rattle.page_table_spans.proofs.ByLevel.{lacked_at}
use Rattle.page_table_spans.proofs.Lacking.{and_one, lacking_alike}
use Rattle.page_table_spans.proofs.SpanTables.{range_parts}

-- a table of the level by its number
abbrev pub numbered : ℕ → ℕ → TablePlace
numbered level number = record { level = level; first = number * 2 ^ (9 * level + 12) }

-- it lies before the one of this number
abbrev pub lies_before : ℕ → ℕ → TablePlace → Bool
lies_before level next place = ltb place.first (next * 2 ^ (9 * level + 12))

-- those that are there, and those before a number
abbrev pub or_before : (TablePlace → Bool) → ℕ → ℕ → TablePlace → Bool
or_before there level next place = there place || lies_before level next place

module _ (there : TablePlace → Bool) (level : ℕ) where
  -- the table isn't there
  abbrev pub is_new : ℕ → Bool
  is_new number = not (there (numbered level number))

  before-test : (page next : ℕ) → lies_before level next (place_at level page) ≡ ltb (number_at level page) next
  before-test page next =
      let size = 2 ^ (9 * level + 12) in
      let some = pow_pos (9 * level + 12) in
      ⊎_elim (λ (less : number_at level page < next). lt-ltb _ _ (scaled (number_at level page) next size some less)
      ∙ sym (lt-ltb _ _ less))
      (λ (from : next ≤ number_at level page). le-ltb _ _ (scaled_from next (number_at level page) size from)
      ∙ sym (le-ltb _ _ from))
      (cases_lt (number_at level page) next)
    where
      scaled : (a b k : ℕ) → 0 < k → a < b → a * k < b * k
      scaled a b k some less = grind (arith, some, less)

      scaled_from : (a b k : ℕ) → a ≤ b → a * k ≤ b * k
      scaled_from a b k less = grind (arith, less)

  place-test : (p q : ℕ) → is_place (place_at level p) (place_at level q) ≡ eqb (number_at level p) (number_at level q)
  place-test p q =
      ap (λ (b : Bool). b && eqb (first_address level p) (first_address level q)) (eq-eqb level level refl)
      ∙ ⊎_elim (λ (same : number_at level p ≡ number_at level q). eq-eqb _ _
      (ap (λ (n : ℕ). n * 2 ^ (9 * level + 12)) same) ∙ sym (eq-eqb _ _ same))
      (λ (differ : number_at level p ≢ number_at level q). ne_eqb _ _ (λ first. differ (same_first level p q first))
      ∙ sym (ne_eqb _ _ differ))
      (cases_eq (number_at level p) (number_at level q))

  -- ---- one page, and others from it on

  alike : (t u : TablePlace → Bool) (rest : List ℕ)
      → AllByRecursion (λ q. t (place_at level q) ≡ u (place_at level q)) rest
      → lacked_at t rest level ≡ lacked_at u rest level
  alike t u rest all =
      ap (λ (ps : List TablePlace). length ps) (lacking_alike t u (map (place_at level) rest) (over rest all))
    where
      over : (qs : List ℕ) → AllByRecursion (λ q. t (place_at level q) ≡ u (place_at level q)) qs
          → AllByRecursion (λ x. t x ≡ u x) (map (place_at level) qs)
      over [] all = tt
      over (q ∷ qs) all = (all.0, over qs all.1)

  module _ (next page : ℕ) (rest : List ℕ) (near : next ≤ number_at level page + 1)
      (later : AllByRecursion (λ q. number_at level page ≤ number_at level q) rest) where
    -- it lies before the next one already
    earlier : number_at level page < next → lacked_at (or_before there level next) (page ∷ rest) level ≡ lacked_at
        (or_before there level (number_at level page + 1)) rest level
    earlier less =
        let is : number_at level page + 1 ≡ next = omega (arith, less, near) in
        let passed : or_before there level next (place_at level page) ≡ true =
        ap (λ (b : Bool). there (place_at level page) || b) (before-test page next ∙ lt-ltb _ _ less)
        ∙ or_true (there (place_at level page)) in
        ap (λ (b : Bool). length (cond b (lacking (or_before there level next) (map (place_at level) rest))
        (place_at level page ∷ lacking (and_one (or_before there level next) (place_at level page))
        (map (place_at level) rest)))) passed
        ∙ ap (λ (n : ℕ). lacked_at (or_before there level n) rest level) (sym is)
      where
        or_true : (b : Bool) → (b || true) ≡ true
        or_true true = refl
        or_true false = refl

    not_before : next ≤ number_at level page → (q : ℕ) → number_at level page ≤ number_at level q
        → lies_before level next (place_at level q) ≡ false
    not_before from q more = before-test q next ∙ le-ltb _ _ (omega (arith, from, more))

    -- it doesn't, and is there
    present : next ≤ number_at level page → there (place_at level page) ≡ true
        → lacked_at (or_before there level next) (page ∷ rest) level ≡ lacked_at
        (or_before there level (number_at level page + 1)) rest level
    present from is =
        ap (λ (b : Bool). length (cond (b || lies_before level next (place_at level page))
        (lacking (or_before there level next) (map (place_at level) rest))
        (place_at level page ∷ lacking (and_one (or_before there level next) (place_at level page))
        (map (place_at level) rest)))) is
        ∙ alike (or_before there level next) (or_before there level (number_at level page + 1)) rest
        (each_then (λ q. number_at level page ≤ number_at level q)
        (λ q. or_before there level next (place_at level q) ≡ or_before there level (number_at level page + 1)
        (place_at level q)) rest same later)
      where
        same : (q : ℕ) → number_at level page ≤ number_at level q
            → or_before there level next (place_at level q) ≡ or_before there level
            (number_at level page + 1) (place_at level q)
        same q more =
            ⊎_elim
            (λ (it : number_at level q ≡ number_at level page).
            let here : there (place_at level q) ≡ true = ap (λ (n : ℕ). there (numbered level n)) it ∙ is in
            ap (λ (b : Bool). b || lies_before level next (place_at level q)) here
            ∙ sym (ap (λ (b : Bool). b || lies_before level (number_at level page + 1) (place_at level q)) here))
            (λ (other : number_at level q ≢ number_at level page).
            ap (λ (b : Bool). there (place_at level q) || b) (not_before from q more
            ∙ sym (before-test q (number_at level page + 1) ∙ le-ltb _ _ (omega (arith, more, other)))))
            (cases_eq (number_at level q) (number_at level page))

    -- it doesn't, and isn't there
    absent : next ≤ number_at level page → there (place_at level page) ≡ false
        → lacked_at (or_before there level next) (page ∷ rest) level ≡ suc
        (lacked_at (or_before there level (number_at level page + 1)) rest level)
    absent from isn't =
        let new : or_before there level next (place_at level page) ≡ false =
        ap (λ (b : Bool). b || lies_before level next (place_at level page)) isn't
        ∙ not_before from page (omega arith) in
        ap (λ (b : Bool). length (cond b (lacking (or_before there level next) (map (place_at level) rest))
        (place_at level page ∷ lacking (and_one (or_before there level next) (place_at level page))
        (map (place_at level) rest)))) new
        ∙ ap suc (alike (and_one (or_before there level next) (place_at level page))
        (or_before there level (number_at level page + 1)) rest
        (each_then (λ q. number_at level page ≤ number_at level q)
        (λ q. and_one (or_before there level next) (place_at level page) (place_at level q) ≡ or_before there
        level (number_at level page + 1) (place_at level q)) rest same later))
      where
        same : (q : ℕ) → number_at level page ≤ number_at level q
            → and_one (or_before there level next) (place_at level page) (place_at level q) ≡ or_before there level
            (number_at level page + 1) (place_at level q)
        same q more =
            ap (λ (b : Bool). (there (place_at level q) || b) || is_place (place_at level page) (place_at level q))
            (not_before from q more)
            ∙ ap (λ (b : Bool). (there (place_at level q) || false) || b) (place-test page q)
            ∙ joined (there (place_at level q)) (eqb (number_at level page) (number_at level q))
            ∙ ap (λ (b : Bool). there (place_at level q) || b) (sym (before-test q (number_at level page + 1) ∙ last))
          where
            joined : (a b : Bool) → ((a || false) || b) ≡ (a || b)
            joined true b = refl
            joined false b = refl

            last : ltb (number_at level q) (number_at level page + 1) ≡ eqb (number_at level page) (number_at level q)
            last =
                ⊎_elim (λ (it : number_at level page ≡ number_at level q). lt-ltb _ _ (omega (arith, it))
                ∙ sym (eq-eqb _ _ it))
                (λ (other : number_at level page ≢ number_at level q). le-ltb _ _ (omega (arith, more, other))
                ∙ sym (ne_eqb _ _ other))
                (cases_eq (number_at level page) (number_at level q))

    -- the new ones from the next one on
    pub one_page : lacked_at (or_before there level next) (page ∷ rest) level
        ≡ count_by is_new (range_with_len (max next (number_at level page)) (number_at level page + 1
        - max next (number_at level page))) + lacked_at (or_before there level (number_at
        level page + 1)) rest level
    one_page =
        ⊎_elim
        (λ (less : number_at level page < next).
        let none : number_at level page + 1 - max next (number_at level page) ≡ 0 = omega (arith, less, near) in
        let nothing : count_by is_new (range_with_len (max next (number_at level page)) (number_at level page + 1
        - max next (number_at level page))) ≡ 0 =
        ap (λ (k : ℕ). count_by is_new (range_with_len (max next (number_at level page)) k)) none in
        let passed = earlier less in
        omega (arith, passed, nothing))
        (λ (from : next ≤ number_at level page).
        let it : max next (number_at level page) ≡ number_at level page = omega (arith, from) in
        let one : number_at level page + 1 - number_at level page ≡ 1 = omega arith in
        let counted : count_by is_new (range_with_len (max next (number_at level page)) (number_at level page + 1
        - max next (number_at level page))) ≡ 0 + cond (is_new (number_at level page)) 1 0 =
        ap (λ (m : ℕ). count_by is_new (range_with_len m (number_at level page + 1 - m))) it
        ∙ ap (λ (k : ℕ). count_by is_new (range_with_len (number_at level page) k)) one in
        ⊎_elim
        (λ (is : there (place_at level page) ≡ true). let none = ap {B = ℕ} (λ (b : Bool). cond (not b) 1 0) is in
        let same = present from is in omega (arith, same, counted, none))
        (λ (isn't : there (place_at level page) ≡ false). let once = ap {B = ℕ} (λ (b : Bool). cond (not b) 1 0)
        isn't in let more = absent from isn't in omega (arith, more, counted, once))
        (cases_Bool (there (place_at level page))))
        (cases_lt (number_at level page) next)

-- ---- pages one after another

-- the next page goes through the same table or the next one
next_number : (level page : ℕ) → number_at level (page + 1) ≤ number_at level page + 1
unfolding number_at
next_number level page =
    let size = 2 ^ (9 * level) in
    let some = pow_pos (9 * level) in
    let within : page < page / size * size + size = lt-div-mul-add {a = page} {b = size} some in
    let moved : (page / size + 1) * size ≡ page / size * size + size = grind arith in
    let grown = pages_grow level (page + 1) ((page / size + 1) * size) (omega (arith, within, moved)) in
    let is = number-page level (page / size + 1) in
    by_numbers grown is
  where
    by_numbers : number_at level (page + 1) ≤ number_at level ((page / 2 ^ (9 * level) + 1) * 2 ^ (9 * level))
        → number_at level ((page / 2 ^ (9 * level) + 1) * 2 ^ (9 * level)) ≡ page / 2 ^ (9 * level) + 1
        → (page + 1) / 2 ^ (9 * level) ≤ page / 2 ^ (9 * level) + 1
    by_numbers grown is = omega (arith, grown, is)

count_parts : (p : ℕ → Bool) (a b d : ℕ) → a ≤ b → b ≤ d
    → count_by p (range_with_len a (b - a)) + count_by p (range_with_len b (d - b)) ≡ count_by p
    (range_with_len a (d - a))
count_parts p a b d low high =
    let all : b - a + (d - b) ≡ d - a = omega (arith, low, high) in
    let at : a + (b - a) ≡ b = omega (arith, low) in
    let parts = range_parts a (b - a) (d - b) in
    sym
    (ap (λ (n : ℕ). count_by p (range_with_len a n)) (sym all) ∙ ap (count_by p) parts
    ∙ sum_by-append (λ (n : ℕ). cond (p n) 1 0) (range_with_len a (b - a)) (range_with_len (a + (b - a)) (d - b))
    ∙ ap (λ (k : ℕ). count_by p (range_with_len a (b - a)) + count_by p (range_with_len k (d - b))) at)

pub from_on : (a n low : ℕ) → low ≤ a → AllByRecursion (λ q. low ≤ q) (range_with_len a n)
from_on a zero low from = tt
from_on a (suc n) low from = (from, from_on (a + 1) n low (omega (arith, from)))

pub both_all : (P : ℕ → Type 0) (xs ys : List ℕ) → AllByRecursion P xs → AllByRecursion P ys
    → AllByRecursion P (xs ++ ys)
both_all P [] ys one other = other
both_all P (x ∷ xs) ys one other = (one.0, both_all P xs ys one.1 other)

pub pages_of_level : (there : TablePlace → Bool) (level next count page : ℕ) (rest : List ℕ)
    → next ≤ number_at level page + 1 → AllByRecursion (λ q. page + count ≤ q) rest
    → lacked_at (or_before there level next) (range_with_len page (suc count) ++ rest) level
    ≡ count_by (is_new there level) (range_with_len (max next (number_at level page)) (number_at level (page + count)
    + 1 - max next (number_at level page)))
    + lacked_at (or_before there level (number_at level (page + count) + 1)) rest level
pages_of_level there level next zero page rest near later =
    let here : page + 0 ≡ page = omega arith in
    rw here
    (one_page there level next page rest near
    (each_then (λ q. page + 0 ≤ q) (λ q. number_at level page ≤ number_at level q) rest
    (λ q more. pages_grow level page q (omega (arith, more))) later))
pages_of_level there level next (suc count) page rest near later =
    let number = number_at level page in
    let end = number_at level (page + suc count) + 1 in
    let others = range_with_len (page + 1) (suc count) ++ rest in
    let same : page + 1 + count ≡ page + suc count = omega arith in
    let later_pages = both_all (λ q. page + 1 ≤ q) (range_with_len (page + 1) (suc count)) rest
    (from_on (page + 1) (suc count) (page + 1) (omega arith))
    (each_then (λ q. page + suc count ≤ q) (λ q. page + 1 ≤ q) rest (λ q more. omega (arith, more)) later) in
    let first = one_page there level next page others near
    (each_then (λ q. page + 1 ≤ q) (λ q. number_at level page ≤ number_at level q) others
    (λ q more. pages_grow level page q (omega (arith, more))) later_pages) in
    let grown = pages_grow level page (page + 1) (omega arith) in
    let step = next_number level page in
    let last = pages_grow level (page + 1) (page + suc count) (omega arith) in
    let behind = pages_grow level page (page + suc count) (omega arith) in
    let more = pages_of_level there level (number + 1) count (page + 1) rest (omega (arith, grown))
    (each_then (λ q. page + suc count ≤ q) (λ q. page + 1 + count ≤ q) rest (λ q far. omega (arith, far)) later) in
    let begin : max (number + 1) (number_at level (page + 1)) ≡ number + 1 = omega (arith, step) in
    let moved = ap (λ (m : ℕ). count_by (is_new there level) (range_with_len m (end - m))) begin in
    let more_at : lacked_at (or_before there level (number + 1)) others level ≡ count_by (is_new there level)
    (range_with_len (max (number + 1) (number_at level (page + 1)))
    (end - max (number + 1) (number_at level (page + 1)))) + lacked_at (or_before there level end) rest level =
    more ∙ ap (λ (k : ℕ). count_by (is_new there level)
    (range_with_len (max (number + 1) (number_at level (page + 1)))
    (number_at level k + 1 - max (number + 1) (number_at level (page + 1))))
    + lacked_at (or_before there level (number_at level k + 1)) rest level) same in
    ⊎_elim
    (λ (empty : end < number + 1). absurd (omega (arith, empty, behind)))
    (λ (order : number + 1 ≤ end).
    let sum = count_parts (is_new there level) (max next number) (number + 1) end (omega (arith, near)) order in
    omega (arith, first, more_at, moved, sum))
    (cases_lt end (number + 1))
