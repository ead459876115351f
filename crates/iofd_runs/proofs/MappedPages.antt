-- The pages of a MAP that nothing refuses are in its user's memory, where they are pinned.
use Rattle.std.proofs.Common.{◌≡◌, ℕ, zero, suc, ◌+◌, ◌/◌, ◌<◌, ◌≤◌, Bool, true, false, ◌&&◌, ◌||◌, not, eqb, ltb}
use Rattle.std.proofs.Common.{Option, Some, None, is_some, List, [], ◌∷◌, ◌++◌, refl, ap, sym, subst, ◌∙◌, arith}
use Rattle.std.specs.List.{find, list_all, list_any, range_with_len}
use Rattle.std.proofs.lemmas.Bool.Decides.{nat_tests}
use Rattle.std.proofs.lemmas.Bool.{eqb-false, eqb-true, not-false}
use Rattle.iofd_steps.specs.After.{mapped_area, memory_object}
use Rattle.iofd_refusals.specs.Checks.{lacks_mapped_page, map_checks}
use Rattle.iofd_words.specs.Files.{user_of}
use Rattle.iofd_words.specs.FirstTrue.{first_true}
use Rattle.iofd_words.specs.Frames.{frame_at, has_pages}
use Rattle.iofd_words.specs.Objects.{has_hwpt}
use Rattle.iofd_words.specs.Pages.{page_of}
use Rattle.iofd_words.specs.Areas.{with_area}
use Rattle.iofd_words.specs.Pins.{ObjectPage, frame_now, is_page, is_translated, pinned_pages, is_accessed, is_pinned}
use Rattle.iofd_words.specs.View.{view}
use Rattle.iofd_words.specs.World.{World}
use Rattle.iofd_words.specs.declared.event.MapRequest.{MapRequest}
use Rattle.iofd_words.specs.declared.numbers.FileNo.{FileNo}
use Rattle.iofd_words.specs.declared.numbers.FrameNo.{FrameNo}
use Rattle.iofd_words.specs.declared.numbers.Iova.{Iova}
use Rattle.iofd_words.specs.declared.numbers.UserNo.{UserNo}
use Rattle.iofd_words.specs.declared.rows.Area.{Area}
use Rattle.iofd_words.specs.declared.rows.MemoryObject.{MemoryObject}
use Rattle.iofd_words.specs.declared.rows.UserPage.{UserPage}
use Rattle.iofd_rows.proofs.Bools.{and_rest, and_true, or_none, clash}
use Rattle.iofd_runs.proofs.NotRefused.{map_passed}
use Rattle.iofd_runs.proofs.Accessed.{none_covered}
use Rattle.iofd_rows.proofs.ObjectPages.{has_page, in_pinned, is_listed, listed_is, listed_more, translated-with_area}
use Rattle.iofd_rows.proofs.ObjectPages.{untranslated}

-- ---- what the refusals rule out

map_has_pages : (w : World) (file : FileNo) (request : MapRequest)
    → first_true (map_checks (view w) file request) ≡ None → lacks_mapped_page (view w) file request ≡ false
map_has_pages w file request none = (map_passed (view w) file request none).present

present_for : (f : UserNo → Bool) (o : Option UserNo) (user : UserNo) → o ≡ Some user
    → elim o [ Some u ↦ not (f u) | None ↦ true ] ≡ false → f user ≡ true
present_for f (Some u) user is present = let same : u ≡ user = cc in ap f (sym same) ∙ not-false (f u) present
present_for f None user is present = cc

not_lacking : (w : World) (file : FileNo) (request : MapRequest) (user : UserNo) → user_of w.settings file ≡ Some user
    → has_hwpt w.objects file request.ioas ≡ true → lacks_mapped_page (view w) file request ≡ false
    → has_pages (frame_at w.user_pages) user (page_of request.user_va) (request.length / 4096) ≡ true
not_lacking w file request user is has lacks =
    present_for (λ u. has_pages (frame_at w.user_pages) u (page_of request.user_va) (request.length / 4096))
    (user_of w.settings file) user is (and_rest (has_hwpt w.objects file request.ioas) _ has lacks)

-- ---- the new memory object

eqb_same : (n : ℕ) → eqb n n ≡ true
eqb_same n = grind (arith, nat_tests)

-- the new memory object is found by its number, which none that stands has
pub find_new : (at : ℕ) (memory : List MemoryObject) (m : MemoryObject)
    → list_all (λ (o : MemoryObject). ltb o.number at) memory ≡ true → eqb m.number at ≡ true
    → find (λ (o : MemoryObject). eqb o.number at) (memory ++ m ∷ []) ≡ Some m
find_new at [] m made is = rw is refl
find_new at (o ∷ memory) m made is =
    let parts = and_true (ltb o.number at) (list_all (λ (o : MemoryObject). ltb o.number at) memory) made in
    let unlike : eqb o.number at ≡ false = grind (arith, nat_tests) in
    rw unlike (find_new at memory m parts.1 is)

-- its pages are those of its user's memory
frame_of_new : (at : ℕ) (memory : List MemoryObject) (user_pages : List UserPage) (user : UserNo) (request : MapRequest)
    (i : ℕ) → list_all (λ (o : MemoryObject). ltb o.number at) memory ≡ true
    → frame_now (memory ++ memory_object at user request ∷ []) user_pages (record { memory = at; index = i }) ≡ frame_at
    user_pages user (page_of request.user_va + i)
frame_of_new at memory user_pages user request i made =
    ap (λ (o : Option MemoryObject). elim o as (λ x. Option FrameNo)
    [ Some m ↦ frame_at user_pages m.user (page_of m.va + i) | None ↦ None ]) (find_new at memory
    (memory_object at user request) made (eqb_same at))

-- what holds of a range holds of each of its numbers
at_index : (p : ℕ → Bool) (from count i : ℕ) → list_all p (range_with_len from count) ≡ true → from ≤ i
    → i < from + count → p i ≡ true
at_index p from zero i all low high = absurd (omega (arith, low, high))
at_index p from (suc count) i all low high =
    let parts = and_true (p from) (list_all p (range_with_len (from + 1) count)) all in
    by_test (eqb from i) refl parts.0 (λ above. at_index p (from + 1) count i parts.1 above (omega (arith, high)))
  where
    by_test : (b : Bool) → eqb from i ≡ b → p from ≡ true → (from + 1 ≤ i → p i ≡ true) → p i ≡ true
    by_test true is here later = let same : from ≡ i = eqb-true from i is in subst (λ n. p n ≡ true) same here
    by_test false is here later = let apart = eqb-false from i is in later (omega (arith, low, apart))

-- no memory object that stands has the next number
not_listed : (at : ℕ) (memory : List MemoryObject) (page : ObjectPage)
    → list_all (λ (o : MemoryObject). ltb o.number at) memory ≡ true → eqb page.memory at ≡ true
    → is_listed memory page ≡ false
not_listed at memory page made is = listed_is memory page ∙ none memory made
  where
    none : (rows : List MemoryObject) → list_all (λ (o : MemoryObject). ltb o.number at) rows ≡ true
        → list_any (has_page page) rows ≡ false
    none [] all = refl
    none (o ∷ rows) all =
        let parts = and_true (ltb o.number at) (list_all (λ (o : MemoryObject). ltb o.number at) rows) all in
        let rest = none rows parts.1 in
        let unlike : eqb page.memory o.number ≡ false = grind (arith, nat_tests) in
        rw (unlike, rest) refl

-- each page that is to be pinned anew is there
pub mapped_present : (at : ℕ) (w : World) (file : FileNo) (request : MapRequest) (iova : Iova) (user : UserNo)
    (page : ObjectPage) → first_true (map_checks (view w) file request) ≡ None → user_of w.settings file ≡ Some user
    → list_all (λ (o : MemoryObject). ltb o.number at) w.memory ≡ true
    → list_any (λ (a : Area). eqb a.memory at) w.areas ≡ false
    → (is_listed (w.memory ++ memory_object at user request ∷ []) page ≡ true
    → is_accessed w.objects (with_area (mapped_area at file request iova) w.areas) w.access_pins page
    ≡ is_accessed w.objects w.areas w.access_pins page)
    → list_any (is_page page) (pinned_pages w.objects (with_area (mapped_area at file request iova) w.areas)
    (w.memory ++ memory_object at user request ∷ []) w.access_pins) ≡ true
    → list_any (is_page page) (pinned_pages w.objects w.areas w.memory w.access_pins) ≡ false
    → is_some (frame_now (w.memory ++ memory_object at user request ∷ []) w.user_pages page) ≡ true
mapped_present at w file request iova user page none is made none_over accessed within before =
    let object = memory_object at user request in
    let area = mapped_area at file request iova in
    let parts = and_true (is_listed (w.memory ++ object ∷ []) page)
    (is_pinned w.objects (with_area area w.areas) w.access_pins page)
    (sym (in_pinned w.objects (with_area area w.areas) (w.memory ++ object ∷ []) w.access_pins page) ∙ within) in
    let listed : (is_listed w.memory page || has_page page object) ≡ true =
    sym (listed_more w.memory object page) ∙ parts.0 in
    let pinned : (((eqb at page.memory && has_hwpt w.objects file request.ioas)
    || is_translated w.objects w.areas page.memory) || is_accessed w.objects w.areas w.access_pins page) ≡ true =
    sym (ap (λ b. b || is_accessed w.objects w.areas w.access_pins page)
    (translated-with_area w.objects area w.areas page.memory))
    ∙ sym (ap (λ b. is_translated w.objects (with_area area w.areas) page.memory || b) (accessed parts.0)) ∙ parts.1 in
    let old : (is_listed w.memory page && is_pinned w.objects w.areas w.access_pins page) ≡ false =
    sym (in_pinned w.objects w.areas w.memory w.access_pins page) ∙ before in
    by_number (eqb page.memory at) refl listed (from_table listed pinned old) (both_old old)
  where
    -- no access pin covers it: it wasn't to be pinned, or its memory object is new, and no area was over that
    uncovered : eqb page.memory at ≡ true → is_accessed w.objects w.areas w.access_pins page ≡ false
    uncovered here =
        let same : page.memory ≡ at = eqb-true page.memory at here in
        none_covered w.objects w.areas w.access_pins page
        (subst (λ n. list_any (λ (a : Area). eqb a.memory n) w.areas ≡ false) (sym same) none_over)

    both_old : (is_listed w.memory page && is_pinned w.objects w.areas w.access_pins page) ≡ false
        → (is_listed w.memory page && is_translated w.objects w.areas page.memory) ≡ false
    both_old old = less (is_listed w.memory page) (is_translated w.objects w.areas page.memory) _ old
      where
        less : (l t a : Bool) → (l && (t || a)) ≡ false → (l && t) ≡ false
        less true true a is = is
        less true false a is = refl
        less false t a is = refl

    from_table : (is_listed w.memory page || has_page page (memory_object at user request)) ≡ true
        → (((eqb at page.memory && has_hwpt w.objects file request.ioas)
        || is_translated w.objects w.areas page.memory) || is_accessed w.objects w.areas w.access_pins page) ≡ true
        → (is_listed w.memory page && is_pinned w.objects w.areas w.access_pins page) ≡ false
        → ((eqb at page.memory && has_hwpt w.objects file request.ioas)
        || is_translated w.objects w.areas page.memory) ≡ true
    from_table listed pinned old = by_old (is_listed w.memory page) refl
        (is_accessed w.objects w.areas w.access_pins page) refl
      where
        by_old : (l : Bool) → is_listed w.memory page ≡ l → (a : Bool)
            → is_accessed w.objects w.areas w.access_pins page ≡ a
            → ((eqb at page.memory && has_hwpt w.objects file request.ioas)
            || is_translated w.objects w.areas page.memory) ≡ true
        by_old l is false none = or_first _ (rw none at pinned)
          where
            or_first : (b : Bool) → (b || false) ≡ true → b ≡ true
            or_first true some = refl
            or_first false some = some
        by_old true is true covers =
            let never = rw (is, covers) at old in absurd (or_never _ never)
          where
            or_never : (t : Bool) → (t || true) ≡ false → ⊥
            or_never true is = cc
            or_never false is = cc
        by_old false is true covers =
            let own : has_page page (memory_object at user request) ≡ true = rw is at listed in
            absurd (clash _ (uncovered (and_true (eqb page.memory at) _ own).0) covers)

    no_old : (listed here translated new : Bool) → (listed || (false && here)) ≡ true
        → ((false && new) || translated) ≡ true → (listed && translated) ≡ false → ⊥
    no_old true here true new l t o = cc
    no_old true here false new l t o = cc
    no_old false here translated new l t o = cc

    flipped : (m n : ℕ) → eqb m n ≡ false → eqb n m ≡ false
    flipped m n other = grind (arith, nat_tests)

    by_number : (b : Bool) → eqb page.memory at ≡ b
        → (is_listed w.memory page || (eqb page.memory at && ltb page.index (request.length / 4096))) ≡ true
        → ((eqb at page.memory && has_hwpt w.objects file request.ioas)
        || is_translated w.objects w.areas page.memory) ≡ true
        → (is_listed w.memory page && is_translated w.objects w.areas page.memory) ≡ false
        → is_some (frame_now (w.memory ++ memory_object at user request ∷ []) w.user_pages page) ≡ true
    by_number false other listed translated old =
        absurd (no_old (is_listed w.memory page) (ltb page.index (request.length / 4096))
        (is_translated w.objects w.areas page.memory) (has_hwpt w.objects file request.ioas)
        (rw other at listed) (rw (flipped page.memory at other) at translated) old)
    by_number true here listed translated old =
        let same : page.memory ≡ at = eqb-true page.memory at here in
        let unlisted = not_listed at w.memory page made here in
        let index : ltb page.index (request.length / 4096) ≡ true =
        (and_true (eqb page.memory at) _ (rw unlisted at listed)).1 in
        let no_area : is_translated w.objects w.areas page.memory ≡ false =
        rw same (untranslated w.objects w.areas at none_over) in
        let has : has_hwpt w.objects file request.ioas ≡ true =
        (and_true (eqb at page.memory) (has_hwpt w.objects file request.ioas)
        (rw (no_area, or_none (eqb at page.memory && has_hwpt w.objects file request.ioas)) at translated)).1 in
        let below : page.index < request.length / 4096 = search (index, arith, nat_tests) in
        let pages = not_lacking w file request user is has (map_has_pages w file request none) in
        let there : is_some (frame_at w.user_pages user (page_of request.user_va + page.index)) ≡ true =
        at_index (λ i. is_some (frame_at w.user_pages user (page_of request.user_va + i))) 0 (request.length / 4096)
        page.index pages (omega arith) (omega (arith, below)) in
        let alike : page ≡ record { memory = at; index = page.index } = page_is page at same in
        subst (λ (p : ObjectPage). is_some (frame_now (w.memory ++ memory_object at user request ∷ [])
        w.user_pages p) ≡ true) (sym alike)
        (ap (λ (o : Option FrameNo). is_some o) (frame_of_new at w.memory w.user_pages user request page.index made)
        ∙ there)
      where
        page_is : (p : ObjectPage) (n : ℕ) → p.memory ≡ n → p ≡ record { memory = n; index = p.index }
        page_is p n is = ap (λ m. let page : ObjectPage = record { memory = m; index = p.index } in page) is
