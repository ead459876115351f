-- Areas that lie in one table of a level: the live ones go through it alone.
use Rattle.std.proofs.Common.{◌≡◌, ℕ, zero, suc, ◌+◌, ◌*◌, ◌^◌, ◌/◌, ◌<◌, ◌≤◌, Bool, true, false, cond, eqb, leb}
use Rattle.std.proofs.Common.{◌&&◌, Option, Some, None, List, [], ◌∷◌, ◌++◌, length, map, find, refl, sym, ◌∙◌, ap}
use Rattle.std.proofs.Common.{⊎_elim, arith}
use Rattle.std.specs.List.{AllByRecursion, range_with_len}
use Rattle.std.specs.Prelude.{is_some}
use Rattle.std.proofs.lemmas.Bool.{cases_Bool, cases_lt, eq-eqb, false≢true}
use Rattle.std.proofs.lemmas.Bool.Decides.{nat_tests}
use Rattle.std.proofs.lemmas.List.Elements.{All-head, All-tail}
use Rattle.std.proofs.Math.Nat.{div-mul-le_self}
use Rattle.iofd_words.specs.Levels.{first_address, number_at}
use Rattle.iofd_words.specs.Pages.{page_of}
use Rattle.iofd_words.specs.Span.{is_whole_pages}
use Rattle.iofd_words.specs.TablePlaces.{TablePlace, is_live, lacking, live_pages}
use Rattle.iofd_words.specs.declared.rows.Area.{Area}
use Rattle.area_map_rows.specs.Areas.{AreApart, AreApartFrom}
use Rattle.page_table_words.proofs.Lookups.{both_some, none_or_some}
use Rattle.page_table_words.proofs.Needs.{pages_grow}
use Rattle.page_table_spans.specs.Levels.{place_at}
use Rattle.page_table_spans.proofs.AreaTables.{AreWhole, leaving_first, live_first, nothing, pages_from}
use Rattle.page_table_spans.proofs.ByLevel.{lacked_at}
use Rattle.page_table_spans.proofs.Lacking.{and_one}
use Rattle.page_table_spans.proofs.LevelNumbers.{both_all}
use Rattle.page_table_spans.proofs.SpanNeeds.{further, last_page, pages_are}

pub no_some : {X : Type 0} (o : Option X) → is_some o ≡ false → o ≡ None
no_some None empty = refl
no_some (Some x) empty = absurd (false≢true (sym empty))

-- ---- pages of one table

none_lacked : (there : TablePlace → Bool) (places : List TablePlace)
    → AllByRecursion (λ place. there place ≡ true) places → lacking there places ≡ []
none_lacked there [] all = refl
none_lacked there (place ∷ places) all =
    ap (λ (b : Bool). cond b (lacking there places) (place ∷ lacking (and_one there place) places)) all.0
    ∙ none_lacked there places all.1

-- pages that go through the table of the first one lack it once
one_lacked : (level page : ℕ) (pages : List ℕ) → AllByRecursion (λ q. number_at level q ≡ number_at level page) pages
    → lacked_at nothing (page ∷ pages) level ≡ 1
one_lacked level page pages same =
    ap (λ (places : List TablePlace). suc (length places))
    (none_lacked (and_one nothing (place_at level page)) (map (place_at level) pages) (over pages same))
  where
    over : (qs : List ℕ) → AllByRecursion (λ q. number_at level q ≡ number_at level page) qs
        → AllByRecursion (λ place. and_one nothing (place_at level page) place ≡ true) (map (place_at level) qs)
    over [] all = tt
    over (q ∷ qs) all = (
      ap (λ (b : Bool). b && eqb (first_address level page) (first_address level q)) (eq-eqb level level refl)
          ∙ eq-eqb _ _ (ap (λ (n : ℕ). n * 2 ^ (9 * level + 12)) (sym all.0)),
      over qs all.1,
    )

-- a page before the end of a table goes through it or one before it
number_under : (level q k : ℕ) → q < (k + 1) * 2 ^ (9 * level) → number_at level q ≤ k
unfolding number_at
number_under level q k less =
    let size = 2 ^ (9 * level) in
    let front = div-mul-le_self q size in
    ⊎_elim
    (λ (over : k < q / size).
    let more = scaled (k + 1) (q / size) size (omega (arith, over)) in
    absurd (omega (arith, more, front, less)))
    (λ (fine : q / size ≤ k). fine)
    (cases_lt k (q / size))
  where
    scaled : (a b size : ℕ) → a ≤ b → a * size ≤ b * size
    scaled a b size less = grind (arith, less)

-- ---- the pages of areas

below_on : (a n high : ℕ) → a + n ≤ high → AllByRecursion (λ q. q < high) (range_with_len a n)
below_on a zero high fit = tt
below_on a (suc n) high fit = (omega (arith, fit), below_on (a + 1) n high (omega (arith, fit)))

-- an area that ends at this address or behind it
abbrev pub ends_from : ℕ → Area → Bool
ends_from end area = leb end area.span.last

-- no page lies behind the address that no area reaches
pages_below : (end low : ℕ) (areas : List Area) → AreApartFrom low areas → AreWhole areas
    → find (ends_from (end * 4096)) areas ≡ None → AllByRecursion (λ q. q < end) (live_pages areas)
pages_below end low [] apart whole none = tt
pages_below end low (area ∷ areas) apart whole none =
    let head = All-head (λ (a : Area). is_whole_pages a.span ≡ true) area areas whole in
    let tail = All-tail (λ (a : Area). is_whole_pages a.span ≡ true) area areas whole in
    let order = apart.1 in
    let (short, others) = by_test (ends_from (end * 4096) area) refl none in
    let last : area.span.last < end * 4096 = search (short, arith, nat_tests) in
    let page : page_of area.span.last < end = omega (arith, last) in
    let rest = pages_below end (area.span.last + 1) areas apart.2 tail others in
    ⊎_elim
    (λ (live : is_live area.phase ≡ true).
    rw (live_first area areas live, pages_are area.span head order)
    (both_all (λ q. q < end) (range_with_len (page_of area.span.first) (suc (further area.span))) (live_pages areas)
    (below_on (page_of area.span.first) (suc (further area.span)) end (omega (arith, page, last_page area.span order)))
    rest))
    (λ (leaving : is_live area.phase ≡ false). rw (leaving_first area areas leaving) rest)
    (cases_Bool (is_live area.phase))
  where
    by_test : (b : Bool) → ends_from (end * 4096) area ≡ b
        → cond b (Some area) (find (ends_from (end * 4096)) areas) ≡ None
        → (ends_from (end * 4096) area ≡ false) × (find (ends_from (end * 4096)) areas ≡ None)
    by_test true is some = none_or_some _ area some refl
    by_test false is none = (is, none)

-- ---- areas in one table

-- the first area is live, and none reaches behind its table
pub one_table : (level : ℕ) (first : Area) (areas : List Area) → AreApart areas → AreWhole areas
    → find (ends_from 0) areas ≡ Some first → is_live first.phase ≡ true
    → find (ends_from ((number_at level (page_of first.span.first) + 1) * 2 ^ (9 * level) * 4096)) areas ≡ None
    → lacked_at nothing (live_pages areas) level ≡ 1
one_table level first [] apart whole is live none = none_or_some None first refl is
one_table level first (area ∷ areas) apart whole is live none =
    let low : 0 ≤ area.span.last = omega arith in
    let ends : ends_from 0 area ≡ true = search (low, arith, nat_tests) in
    let same : area ≡ first = both_some (find (ends_from 0) (area ∷ areas)) area first
    (ap (λ (b : Bool). cond b (Some area) (find (ends_from 0) areas)) ends) is in
    let head = All-head (λ (a : Area). is_whole_pages a.span ≡ true) area areas whole in
    let page = page_of area.span.first in
    let lives : is_live area.phase ≡ true = ap (λ (a : Area). is_live a.phase) same ∙ live in
    let none_behind = ap (λ (a : Area). find
    (ends_from ((number_at level (page_of a.span.first) + 1) * 2 ^ (9 * level) * 4096))
    (area ∷ areas)) same ∙ none in
    let others = range_with_len (page + 1) (further area.span) ++ live_pages areas in
    let pages : live_pages (area ∷ areas) ≡ page ∷ others =
    live_first area areas lives ∙ ap (λ (ps : List ℕ). ps ++ live_pages areas) (pages_are area.span head apart.1) in
    let from = rw pages at (pages_from area.span.first (area ∷ areas) (omega arith, apart.1, apart.2) whole) in
    let to = rw pages at (pages_below ((number_at level page + 1) * 2 ^ (9 * level)) 0 (area ∷ areas) apart whole
    none_behind) in
    ap (λ (ps : List ℕ). lacked_at nothing ps level) pages ∙ one_lacked level page others (alike others from.1 to.1)
  where
    alike : (qs : List ℕ) → AllByRecursion (λ q. page_of area.span.first ≤ q) qs
        → AllByRecursion (λ q. q < (number_at level (page_of area.span.first) + 1) * 2 ^ (9 * level)) qs
        → AllByRecursion (λ q. number_at level q ≡ number_at level (page_of area.span.first)) qs
    alike [] low high = tt
    alike (q ∷ qs) low high =
        let from = pages_grow level (page_of area.span.first) q low.0 in
        let to = number_under level q (number_at level (page_of area.span.first)) high.0 in
        (omega (arith, from, to), alike qs low.1 high.1)
