-- Memory objects of which no page lies in a span: those of areas that don't meet it.
use Rattle.std.proofs.Common.{◌≡◌, ◌≤◌, ◌<◌, ℕ, suc, ◌+◌, ◌-◌, ◌*◌, ◌/◌, Bool, true, false, ◌&&◌, eqb, leb, ltb}
use Rattle.std.proofs.Common.{zero, List, [], ◌∷◌, length, get_or, refl, sym, ap, ◌∙◌, arith, inl, inr}
use Rattle.std.proofs.lemmas.Bool.Decides.{nat_tests}
use Rattle.std.specs.List.{list_all}
use Rattle.iofd_rows.specs.Pinned.{has_object, have_own_numbers}
use Rattle.iofd_rows.proofs.Bools.{and_true, both_true, clash}
use Rattle.iofd_rows.proofs.Each.{IsIn, of_any}
use Rattle.iofd_rows.proofs.ListTests.{any-filter, false_else}
use Rattle.iofd_rows.proofs.ObjectPages.{has_page, listed_is}
use Rattle.iofd_runs.proofs.Accessed.{of_areas, some_in}
use Rattle.iofd_words.specs.Accesses.{is_spanned}
use Rattle.iofd_words.specs.Areas.{areas_of, is_of}
use Rattle.iofd_words.specs.Bounds.{Bounds}
use Rattle.iofd_words.specs.Pins.{pages_of, span_of_page}
use Rattle.iofd_words.specs.Span.{lies_in, meets, size_of}
use Rattle.iofd_words.specs.declared.numbers.FileNo.{FileNo}
use Rattle.iofd_words.specs.declared.numbers.ObjId.{ObjId}
use Rattle.iofd_words.specs.declared.rows.Area.{Area}
use Rattle.iofd_words.specs.declared.rows.MemoryObject.{MemoryObject}
use Rattle.iofd_words.specs.declared.rows.Pin.{Pin}
use Rattle.iofd_words.specs.declared.rows.UserPage.{UserPage}
use Rattle.journal_audit_world.specs.Keys.{has_number}
use Rattle.journal_audit_maps.specs.Newly.{Gathers, newly_spanned, pages_at}
use Rattle.journal_audit_maps.proofs.Gathered.{gathers_none, none_left}
use Rattle.journal_audit_world.specs.Over.{is_over}

row_at : (memory : List MemoryObject) (k : ℕ) (d : MemoryObject) → k < length memory → IsIn memory (get_or memory k d)
row_at [] k d within = absurd (omega (arith, within))
row_at (m ∷ memory) zero d within = inl refl
row_at (m ∷ memory) (suc k) d within = inr (row_at memory k d (omega (arith, within)))

-- a page of an area that lies in the span shares an address with it
page_meets : (area : Area) (index : ℕ) (span : Bounds) → ltb index (size_of area.span / 4096) ≡ true
    → lies_in (span_of_page area index) span ≡ true → meets area.span span ≡ true
page_meets area index span below lies =
    by_numbers area.span.first area.span.last span.first span.last
    (let less : index < size_of area.span / 4096 = search (below, arith, nat_tests) in less)
    (and_true (leb span.first (area.span.first + 4096 * index))
    (leb (area.span.first + 4096 * index + 4096 - 1) span.last) lies)
  where
    by_numbers : (first last low high : ℕ) → index < (last + 1 - first) / 4096
        → (leb low (first + 4096 * index) ≡ true) × (leb (first + 4096 * index + 4096 - 1) high ≡ true)
        → (leb first high && leb low last) ≡ true
    by_numbers first last low high less (begin, end) =
        let a : low ≤ first + 4096 * index = search (begin, arith, nat_tests) in
        let b : first + 4096 * index + 4096 - 1 ≤ high = search (end, arith, nat_tests) in
        let c : first ≤ high = omega (arith, b) in
        let d : low ≤ last = omega (arith, a, less) in
        both_true (leb first high) (leb low last) (search (c, arith, nat_tests)) (search (d, arith, nat_tests))

pub unspanned : (memory : List MemoryObject) (areas : List Area) (file : FileNo) (ioas : ObjId) (span : Bounds)
    (numbers : List ℕ) (k : ℕ) (d : MemoryObject) (asked : Bool) → k < length memory → have_own_numbers memory ≡ true
    → list_all (has_object memory) areas ≡ true
    → ((n : ℕ) → has_number numbers n ≡ is_over (λ (area : Area). is_of file ioas area && meets area.span span) areas n)
    → asked ≡ has_number numbers (get_or memory k d).number → asked ≡ false
    → (i : ℕ) → i < (get_or memory k d).count
    → is_spanned span (areas_of areas file ioas) (record { memory = (get_or memory k d).number; index = i }) ≡ false
unspanned memory areas file ioas span numbers k d asked within own sizes gathered asks isnt i below =
    false_else (is_spanned span (areas_of areas file ioas)
    (record { memory = (get_or memory k d).number; index = i })) never
  where
    never : is_spanned span (areas_of areas file ioas) (record { memory = (get_or memory k d).number; index = i }) ≡ true
        → ⊥
    never spanned =
        let (area, here, both) = some_in (λ (a : Area). is_of file ioas a
        && (eqb a.memory (get_or memory k d).number && lies_in (span_of_page a i) span)) areas
        (sym (any-filter (λ (a : Area). eqb a.memory (get_or memory k d).number && lies_in (span_of_page a i) span)
        (is_of file ioas) areas) ∙ spanned) in
        let parts = and_true (is_of file ioas area) _ both in
        let inner = and_true (eqb area.memory (get_or memory k d).number) (lies_in (span_of_page area i) span) parts.1 in
        let less : ltb i (get_or memory k d).count ≡ true = search (below, arith, nat_tests) in
        let same : eqb (get_or memory k d).number (get_or memory k d).number ≡ true = grind (arith, nat_tests) in
        let listed = listed_is memory (record { memory = (get_or memory k d).number; index = i })
        ∙ of_any (has_page (record { memory = (get_or memory k d).number; index = i })) memory (get_or memory k d)
        (row_at memory k d within) (both_true _ _ same less) in
        let inside = of_areas memory areas (record { memory = (get_or memory k d).number; index = i }) own sizes listed
        area here inner.0 in
        clash _ (sym (asks) ∙ isnt)
        (gathered (get_or memory k d).number
        ∙ of_any (λ (a : Area). (is_of file ioas a && meets a.span span) && eqb a.memory (get_or memory k d).number)
        areas area here
        (both_true _ _ (both_true _ _ parts.0 (page_meets area i span inside inner.1)) inner.0))

-- so none of its pages is pinned anew
pub none_asked : (memory : List MemoryObject) (user_pages : List UserPage) (pins : List Pin) (areas : List Area)
    (file : FileNo) (ioas : ObjId) (span : Bounds) (m : MemoryObject) (found : List Pin)
    → ((i : ℕ) → i < m.count
    → is_spanned span (areas_of areas file ioas) (record { memory = m.number; index = i }) ≡ false)
    → Gathers true memory user_pages (newly_spanned pins areas file ioas span (pages_of m)) found found
none_asked memory user_pages pins areas file ioas span m found none =
    gathers_none memory user_pages (newly_spanned pins areas file ioas span (pages_of m)) found
    (ap (λ (c : ℕ). newly_spanned pins areas file ioas span (pages_at m.number 0 c)) (whole m.count)
    ∙ none_left pins areas file ioas span m.number m.count 0 (λ n low high. none n high))
  where
    whole : (c : ℕ) → c ≡ c - 0
    whole c = omega arith
