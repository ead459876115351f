-- What a new page table over an address space maps: whole pages, all below the end of its width where no area reaches
-- beyond it.
use Rattle.std.proofs.Common.{◌≡◌, ℕ, zero, suc, ◌+◌, ◌-◌, ◌<◌, ◌≤◌, ◌^◌, ◌%◌, Bool, true, false, leb, Some, None, List}
use Rattle.std.proofs.Common.{[], ◌∷◌, length, refl, sym, ◌∙◌, ap, arith}
use Rattle.std.specs.List.{All, find, list_all, list_any}
use Rattle.std.proofs.lemmas.Bool.Decides.{nat_tests}
use Rattle.area_map_rows.specs.Areas.{AreApart, AreApartFrom}
use Rattle.iofd_rows.proofs.Bools.{and_true, both_true, clash, or_false}
use Rattle.iofd_rows.proofs.Each.{in_found, of_any}
use Rattle.iofd_rows.proofs.Found.{all_filter}
use Rattle.iofd_runs.specs.Fits.{begins_at_page, is_of_pages}
use Rattle.iofd_words.specs.Areas.{is_of}
use Rattle.iofd_words.specs.Pages.{is_whole}
use Rattle.iofd_words.specs.Span.{is_whole_pages, meets, size_of}
use Rattle.iofd_words.specs.TablePlaces.{lacking, live_pages, places_of}
use Rattle.iofd_words.specs.Usable.{beyond}
use Rattle.iofd_words.specs.Width.{bits_of}
use Rattle.iofd_words.specs.declared.numbers.FileNo.{FileNo}
use Rattle.iofd_words.specs.declared.numbers.ObjId.{ObjId}
use Rattle.iofd_words.specs.declared.rows.Area.{Area}
use Rattle.iofd_words.specs.declared.width.Width.{Width}
use Rattle.server_state.proofs.Kept.{none_found}
use Rattle.server_state.specs.Held.{areas_at}
use Rattle.server_state.specs.Step.{IsKnown}
use Rattle.server_state.specs.declared.state.State.{State}
use Rattle.page_table_spans.specs.Spans.{IsOfPages}

abbrev pub ends_from : ℕ → Area → Bool
ends_from end area = leb end area.span.last

-- an area that ends at the end of the width or above it would meet what lies beyond
pub never_reaches : (width : Width) (areas : List Area) (area : Area)
    → find (ends_from (2 ^ bits_of width)) areas ≡ Some area → list_any (λ a. meets (beyond width) a.span) areas ≡ false
    → area.span.first ≤ area.span.last → area.span.last < 2 ^ 64 → ⊥
never_reaches width areas area found within ordered few =
    let (among, reaches) = in_found (ends_from (2 ^ bits_of width)) areas area found in
    let begins : leb area.span.first 0xffff_ffff_ffff_ffff ≡ true = let low : area.span.first ≤ 0xffff_ffff_ffff_ffff =
    omega (arith, ordered, few) in search (low, arith, nat_tests) in
    clash _ within (of_any (λ (a : Area). meets (beyond width) a.span) areas area among (both_true _ _ reaches begins))

-- it begins and ends at a page's border
whole_pages : (area : Area) → area.span.first ≤ area.span.last → is_of_pages area ≡ true → begins_at_page area ≡ true
    → is_whole_pages area.span ≡ true
whole_pages area ordered pages starts =
    let sizes = and_true (is_whole (size_of area.span)) _ pages in
    let first : area.span.first % 4096 ≡ 0 = search (starts, arith, nat_tests) in
    let size : (area.span.last + 1 - area.span.first) % 4096 ≡ 0 =
    let all = sizes.0 in search (all, arith, nat_tests) in
    let last : area.span.last % 4096 ≡ 4095 = omega (arith, first, size, ordered) in
    both_true _ _ starts (search (last, arith, nat_tests))

-- each is of pages below the end, in order
pub each_below : (width : Width) (low : ℕ) (areas : List Area) → AreApartFrom low areas → list_all is_of_pages areas ≡ true
    → list_all begins_at_page areas ≡ true → list_any (ends_from (2 ^ bits_of width)) areas ≡ false
    → All (λ area. IsOfPages width area.span) areas
each_below width low [] apart pages starts none k d within = absurd (omega (arith, within))
each_below width low (area ∷ areas) apart pages starts none zero d within =
    let page = and_true (is_of_pages area) (list_all is_of_pages areas) pages in
    let start = and_true (begins_at_page area) (list_all begins_at_page areas) starts in
    let (short, rest) =
    or_false (ends_from (2 ^ bits_of width) area) (list_any (ends_from (2 ^ bits_of width)) areas) none in
    record { whole = whole_pages area apart.1 page.0 start.0; below = search (short, arith, nat_tests) }
each_below width low (area ∷ areas) apart pages starts none (suc k) d within =
    let page = and_true (is_of_pages area) (list_all is_of_pages areas) pages in
    let start = and_true (begins_at_page area) (list_all begins_at_page areas) starts in
    let (short, rest) =
    or_false (ends_from (2 ^ bits_of width) area) (list_any (ends_from (2 ^ bits_of width)) areas) none in
    each_below width (area.span.last + 1) areas apart.2 page.1 start.1 rest k d (omega (arith, within))

pub areas_below : (width : Width) (areas : List Area) → AreApart areas → list_all is_of_pages areas ≡ true
    → list_all begins_at_page areas ≡ true → find (ends_from (2 ^ bits_of width)) areas ≡ None
    → All (λ area. IsOfPages width area.span) areas
areas_below width areas apart pages starts none =
    each_below width 0 areas apart pages starts (none_found (ends_from (2 ^ bits_of width)) areas none)

-- the areas of an address space are of pages
pub known_pages : {A : Type 0} → (s : State A) (file : FileNo) (ioas : ObjId) → IsKnown s
    → list_all is_of_pages (areas_at s.objects.rows file ioas) ≡ true
known_pages s file ioas known =
    ap (list_all is_of_pages) (sym (known.shows.objects.spaces file ioas))
    ∙ all_filter is_of_pages (is_of file ioas) known.world.areas known.tidy.fit.pages

pub known_starts : {A : Type 0} → (s : State A) (file : FileNo) (ioas : ObjId) → IsKnown s
    → list_all begins_at_page (areas_at s.objects.rows file ioas) ≡ true
known_starts s file ioas known =
    ap (list_all begins_at_page) (sym (known.shows.objects.spaces file ioas))
    ∙ all_filter begins_at_page (is_of file ioas) known.world.areas known.tidy.fit.starts

-- without areas it has its root alone
pub root_alone : (width : Width) (areas : List Area) → areas ≡ []
    → 1 ≡ length (lacking (λ place. false) (places_of width (live_pages areas)))
root_alone width areas none = rw none refl
