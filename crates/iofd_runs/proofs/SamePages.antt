-- The pages that are to be pinned, by memory objects and by areas: those of areas that a page table translates are.
use Rattle.std.proofs.Common.{◌≡◌, ℕ, ◌*◌, ◌/◌, Bool, true, false, ◌&&◌, ◌||◌, eqb, ltb, List, [], ◌∷◌, refl, sym, ◌∙◌}
use Rattle.std.proofs.Common.{arith}
use Rattle.std.specs.List.{list_all, list_any}
use Rattle.std.proofs.lemmas.Bool.Decides.{nat_tests}
use Rattle.std.proofs.lemmas.Bool.{eqb-true}
use Rattle.iofd_words.specs.Objects.{has_hwpt}
use Rattle.iofd_words.specs.Pins.{ObjectPage, area_pages, is_accessed, is_page, is_pinned, pinned_pages}
use Rattle.iofd_words.specs.Span.{size_of}
use Rattle.iofd_words.specs.declared.rows.AccessPin.{AccessPin}
use Rattle.iofd_words.specs.declared.rows.Area.{Area}
use Rattle.iofd_words.specs.declared.rows.MemoryObject.{MemoryObject}
use Rattle.iofd_words.specs.declared.rows.Object.{Object}
use Rattle.iofd_rows.specs.Pinned.{has_object, have_own_numbers}
use Rattle.iofd_rows.proofs.Bools.{and_true, both_true}
use Rattle.iofd_rows.proofs.ListTests.{any_weaker, or_left}
use Rattle.iofd_rows.proofs.ObjectPages.{has_page, in_pinned, is_listed, listed_is, one_count}
use Rattle.iofd_rows.proofs.PageLists.{any-pinned, in_pages, memory_of_page, pages_by_area, pins_page}

-- a page of an area's memory object is one of the area's pages
pub covered : (memory : List MemoryObject) (a : Area) (page : ObjectPage) → have_own_numbers memory ≡ true
    → has_object memory a ≡ true → is_listed memory page ≡ true → eqb a.memory page.memory ≡ true
    → list_any (is_page page) (area_pages a) ≡ true
covered memory a page own sized listed same =
    let is : a.memory ≡ page.memory = eqb-true a.memory page.memory same in
    let counted : list_any (λ (m : MemoryObject). eqb m.number page.memory
    && eqb m.count (size_of a.span / 4096)) memory ≡ true =
    any_weaker (λ (m : MemoryObject). eqb m.number a.memory && eqb (m.count * 4096) (size_of a.span))
    (λ (m : MemoryObject). eqb m.number page.memory && eqb m.count (size_of a.span / 4096)) memory
    (λ m both. let parts = and_true (eqb m.number a.memory) (eqb (m.count * 4096) (size_of a.span)) both in both_true _
    _ (rw is at parts.0) (counts m.count (size_of a.span) parts.1)) sized in
    in_pages page a.memory (size_of a.span / 4096)
    ∙ both_true _ _ (flipped a.memory page.memory same)
    (one_count memory page (size_of a.span / 4096) own listed counted)
  where
    flipped : (m n : ℕ) → eqb m n ≡ true → eqb n m ≡ true
    flipped m n is = grind (arith, nat_tests)

    counts : (count size : ℕ) → eqb (count * 4096) size ≡ true → eqb count (size / 4096) ≡ true
    counts count size is =
        let whole : count * 4096 ≡ size = eqb-true (count * 4096) size is in
        let divided : size / 4096 ≡ count = omega (arith, whole) in
        rw divided (search (arith, nat_tests))

-- a page of an area that a page table translates is to be pinned
pub area_pinned : (objects : List Object) (areas : List Area) (memory : List MemoryObject) (pins : List AccessPin)
    (page : ObjectPage) → list_all (has_object memory) areas ≡ true
    → list_any (is_page page) (pages_by_area objects areas) ≡ true
    → list_any (is_page page) (pinned_pages objects areas memory pins) ≡ true
area_pinned objects areas memory pins page sizes within =
    in_pinned objects areas memory pins page ∙ from (sym (any-pinned objects areas page) ∙ within)
  where
    listed : (a : Area) → has_object memory a ≡ true → list_any (is_page page) (area_pages a) ≡ true
        → is_listed memory page ≡ true
    listed a sized within =
        let here = and_true (eqb page.memory a.memory) (ltb page.index (size_of a.span / 4096))
        (sym (in_pages page a.memory (size_of a.span / 4096)) ∙ within) in
        listed_is memory page
        ∙ any_weaker (λ (m : MemoryObject). eqb m.number a.memory
        && eqb (m.count * 4096) (size_of a.span)) (has_page page) memory
        (λ m both. let parts = and_true (eqb m.number a.memory) (eqb (m.count * 4096) (size_of a.span)) both in
        both_true _ _ (joined page.memory a.memory m.number here.0 parts.0)
        (counts m.count (size_of a.span) page.index parts.1 here.1)) sized
      where
        joined : (p a m : ℕ) → eqb p a ≡ true → eqb m a ≡ true → eqb p m ≡ true
        joined p a m first second = grind (arith, nat_tests)

        counts : (count size index : ℕ) → eqb (count * 4096) size ≡ true → ltb index (size / 4096) ≡ true
            → ltb index count ≡ true
        counts count size index is below =
            let whole : count * 4096 ≡ size = eqb-true (count * 4096) size is in
            let divided : size / 4096 ≡ count = omega (arith, whole) in
            rw divided at below

    from : list_any (pins_page objects page) areas ≡ true
        → (is_listed memory page && is_pinned objects areas pins page) ≡ true
    from some =
        both_true _ _
        (any_listed areas sizes some)
        (or_left _ (is_accessed objects areas pins page)
        (any_weaker (pins_page objects page)
        (λ (a : Area). eqb a.memory page.memory && has_hwpt objects a.file a.ioas) areas
        (λ a is. let parts = and_true (has_hwpt objects a.file a.ioas) (list_any (is_page page) (area_pages a)) is in
        both_true _ _ (memory_of_page a page parts.1) parts.0) some))
      where
        any_listed : (rows : List Area) → list_all (has_object memory) rows ≡ true
            → list_any (pins_page objects page) rows ≡ true → is_listed memory page ≡ true
        any_listed [] sized some = cc
        any_listed (a ∷ rows) sized some =
            let parts = and_true (has_object memory a) (list_all (has_object memory) rows) sized in
            by_test (pins_page objects page a) refl some (λ later. any_listed rows parts.1 later)
          where
            by_test : (b : Bool) → pins_page objects page a ≡ b → (b || list_any (pins_page objects page) rows) ≡ true
                → (list_any (pins_page objects page) rows ≡ true → is_listed memory page ≡ true)
                → is_listed memory page ≡ true
            by_test true is here later = listed a (and_true (has_object memory a) (list_all (has_object memory) rows)
                sized).0 (and_true (has_hwpt objects a.file a.ioas) (list_any (is_page page) (area_pages a)) is).1
            by_test false is here later = later here
