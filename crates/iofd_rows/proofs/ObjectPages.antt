-- Which pages are to be pinned: those of memory objects that a page table translates, and those that access pins
-- cover.
use Rattle.std.proofs.Common.{◌≡◌, ℕ, Bool, true, false, ◌&&◌, ◌||◌, not, eqb, ltb, List, [], ◌∷◌}
use Rattle.std.proofs.Common.{◌++◌, map, refl, ap, sym, ◌∙◌, arith}
use Rattle.std.specs.List.{filter, flat_map, list_any}
use Rattle.std.proofs.lemmas.Bool.Decides.{nat_tests}
use Rattle.std.proofs.lemmas.Bool.{eqb-true}
use Rattle.std.proofs.lemmas.List.Folds.{list_any-append}
use Rattle.iofd_words.specs.Areas.{with_area, with_phase}
use Rattle.iofd_words.specs.Objects.{has_hwpt}
use Rattle.iofd_words.specs.Pins.{ObjectPage, is_page, is_pinned, is_translated, pages_of}
use Rattle.iofd_words.specs.Pins.{pinned_pages}
use Rattle.iofd_words.specs.declared.numbers.FileNo.{FileNo}
use Rattle.iofd_words.specs.declared.numbers.ObjId.{ObjId}
use Rattle.iofd_words.specs.declared.rows.AccessPin.{AccessPin}
use Rattle.iofd_words.specs.declared.rows.Area.{Area}
use Rattle.iofd_words.specs.declared.rows.MemoryObject.{MemoryObject}
use Rattle.iofd_words.specs.declared.rows.Object.{Object}
use Rattle.iofd_words.specs.declared.rows.Phase.{Phase}
use Rattle.iofd_rows.specs.Pinned.{differ, have_own_numbers}
use Rattle.iofd_rows.proofs.Bools.{and_true, both_true, not_true, or_none}
use Rattle.iofd_rows.proofs.ListTests.{any-filter, any_weaker, none_stronger}
use Rattle.iofd_rows.proofs.OnePin.{differ-append, differ-filter, pages_differ}
use Rattle.iofd_rows.proofs.PageLists.{any-with_area, any_kept, in_pages}

-- ---- the pages of memory objects

-- the page is one of these memory objects'
abbrev pub is_listed : List MemoryObject → ObjectPage → Bool
is_listed memory page = list_any (is_page page) (flat_map pages_of memory)

-- the page is to be pinned
pub in_pinned : (objects : List Object) (areas : List Area) (memory : List MemoryObject) (pins : List AccessPin)
    (page : ObjectPage) → list_any (is_page page) (pinned_pages objects areas memory pins) ≡ (is_listed memory page
    && is_pinned objects areas pins page)
in_pinned objects areas memory pins page = any_kept (is_pinned objects areas pins) (flat_map pages_of memory) page

-- the memory object of this number has so many pages
abbrev pub has_page : ObjectPage → MemoryObject → Bool
has_page page m = eqb page.memory m.number && ltb page.index m.count

pub listed_is : (memory : List MemoryObject) (page : ObjectPage)
    → is_listed memory page ≡ list_any (has_page page) memory
listed_is [] page = refl
listed_is (m ∷ memory) page = list_any-append (is_page page) (pages_of m) (flat_map pages_of memory)
    ∙ rw (in_pages page m.number m.count, listed_is memory page) refl

pub listed_more : (memory : List MemoryObject) (m : MemoryObject) (page : ObjectPage)
    → is_listed (memory ++ m ∷ []) page ≡ (is_listed memory page || has_page page m)
listed_more memory m page =
    listed_is (memory ++ m ∷ []) page ∙ list_any-append (has_page page) memory (m ∷ [])
    ∙ rw (listed_is memory page, or_none (has_page page m)) refl

pub listed_fewer : (q : MemoryObject → Bool) (memory : List MemoryObject) (page : ObjectPage)
    → is_listed (filter q memory) page ≡ true → is_listed memory page ≡ true
listed_fewer q memory page within =
    listed_is memory page
    ∙ any_weaker (λ m. q m && has_page page m) (has_page page) memory
    (λ m both. (and_true (q m) (has_page page m) both).1) (sym (any-filter (has_page page) q memory)
    ∙ sym (listed_is (filter q memory) page) ∙ within)

-- no page comes twice
pub pinned_differ : (objects : List Object) (areas : List Area) (memory : List MemoryObject) (pins : List AccessPin)
    → have_own_numbers memory ≡ true → differ (pinned_pages objects areas memory pins) ≡ true
pinned_differ objects areas memory pins own =
    differ-filter (is_pinned objects areas pins) (flat_map pages_of memory) (all_differ memory own)
  where
    other_number : (m : MemoryObject) (rest : List MemoryObject) (page : ObjectPage)
        → list_any (λ (o : MemoryObject). eqb o.number m.number) rest ≡ false
        → list_any (is_page page) (pages_of m) ≡ true → list_any (is_page page) (flat_map pages_of rest) ≡ false
    other_number m rest page none within =
        let here = and_true (eqb page.memory m.number) (ltb page.index m.count) (sym (in_pages page m.number m.count)
        ∙ within) in
        let same : page.memory ≡ m.number = eqb-true page.memory m.number here.0 in
        listed_is rest page ∙ none_stronger (has_page page) (λ (o : MemoryObject). eqb o.number m.number) rest
        (λ o has. named o (and_true (eqb page.memory o.number) (ltb page.index o.count) has).0 same) none
      where
        named : (o : MemoryObject) → eqb page.memory o.number ≡ true → page.memory ≡ m.number
            → eqb o.number m.number ≡ true
        named o is same = grind (arith, nat_tests)

    all_differ : (rows : List MemoryObject) → have_own_numbers rows ≡ true → differ (flat_map pages_of rows) ≡ true
    all_differ [] own = refl
    all_differ (m ∷ rows) own =
        let owns =
        and_true (not (list_any (λ (o : MemoryObject). eqb o.number m.number) rows)) (have_own_numbers rows) own in
        differ-append (pages_of m) (flat_map pages_of rows) (pages_differ m.number 0 m.count) (all_differ rows owns.1)
        (λ page within. other_number m rows page (not_true _ owns.0) within)

-- two memory objects of one number are one: so they have as many pages
pub one_count : (memory : List MemoryObject) (page : ObjectPage) (count : ℕ) → have_own_numbers memory ≡ true
    → is_listed memory page ≡ true → list_any (λ (m : MemoryObject). eqb m.number page.memory && eqb m.count count)
    memory ≡ true → ltb page.index count ≡ true
one_count [] page count own listed sized = cc
one_count (m ∷ memory) page count own listed sized =
    let owns =
    and_true (not (list_any (λ (o : MemoryObject). eqb o.number m.number) memory)) (have_own_numbers memory) own in
    let none = not_true _ owns.0 in
    let here : (has_page page m || list_any (has_page page) memory) ≡ true =
    sym (listed_is (m ∷ memory) page) ∙ listed in
    by_number (eqb page.memory m.number) refl here sized
    (λ later size. one_count memory page count owns.1 (listed_is memory page ∙ later) size)
  where
    flipped : (a b : ℕ) → eqb a b ≡ false → eqb b a ≡ false
    flipped a b is = grind (arith, nat_tests)

    joined : (a b c : ℕ) → eqb a b ≡ true → eqb c a ≡ true → eqb c b ≡ true
    joined a b c first second = grind (arith, nat_tests)

    none_else : list_any (λ (o : MemoryObject). eqb o.number m.number) memory ≡ false
    none_else = not_true _ (and_true (not (list_any (λ (o : MemoryObject). eqb o.number m.number) memory))
        (have_own_numbers memory) own).0

    by_number : (b : Bool) → eqb page.memory m.number ≡ b
        → ((eqb page.memory m.number && ltb page.index m.count) || list_any (has_page page) memory) ≡ true
        → ((eqb m.number page.memory && eqb m.count count)
        || list_any (λ (o : MemoryObject). eqb o.number page.memory && eqb o.count count) memory) ≡ true
        → (list_any (has_page page) memory ≡ true
        → list_any (λ (o : MemoryObject). eqb o.number page.memory && eqb o.count count) memory ≡ true
        → ltb page.index count ≡ true) → ltb page.index count ≡ true
    by_number true is here sized later =
        let no_page : list_any (has_page page) memory ≡ false =
        none_stronger (has_page page) (λ (o : MemoryObject). eqb o.number m.number) memory
        (λ o has. let named = (and_true (eqb page.memory o.number) (ltb page.index o.count) has).0 in
        grind (arith, nat_tests)) none_else in
        let no_size : list_any (λ (o : MemoryObject). eqb o.number page.memory && eqb o.count count) memory ≡ false =
        none_stronger (λ (o : MemoryObject). eqb o.number page.memory && eqb o.count count)
        (λ (o : MemoryObject). eqb o.number m.number) memory
        (λ o has. joined page.memory m.number o.number is
        (and_true (eqb o.number page.memory) (eqb o.count count) has).0) none_else in
        let below : (eqb page.memory m.number && ltb page.index m.count) ≡ true =
        rw (no_page, or_none (eqb page.memory m.number && ltb page.index m.count)) at here in
        let same : (eqb m.number page.memory && eqb m.count count) ≡ true =
        rw (no_size, or_none (eqb m.number page.memory && eqb m.count count)) at sized in
        let first = (and_true (eqb page.memory m.number) (ltb page.index m.count) below).1 in
        let second = (and_true (eqb m.number page.memory) (eqb m.count count) same).1 in
        grind (arith, nat_tests)
    by_number false is here sized later =
        let other : eqb m.number page.memory ≡ false = flipped page.memory m.number is in
        let here_rest : list_any (has_page page) memory ≡ true = rw is at here in
        let sized_rest : list_any (λ (o : MemoryObject). eqb o.number page.memory && eqb o.count count) memory ≡ true =
        rw other at sized in
        later here_rest sized_rest

-- ---- which memory objects a page table translates

pub translated-map : (objects : List Object) (phase : Area → Phase) (areas : List Area) (n : ℕ)
    → is_translated objects (map (λ (a : Area). with_phase (phase a) a) areas) n ≡ is_translated objects areas n
translated-map objects phase [] n = refl
translated-map objects phase (a ∷ areas) n =
    ap (λ b. (eqb a.memory n && has_hwpt objects a.file a.ioas) || b) (translated-map objects phase areas n)

pub translated-with_area : (objects : List Object) (x : Area) (areas : List Area) (n : ℕ)
    → is_translated objects (with_area x areas) n ≡ ((eqb x.memory n && has_hwpt objects x.file x.ioas)
    || is_translated objects areas n)
translated-with_area objects x areas n =
    any-with_area (λ (a : Area). eqb a.memory n && has_hwpt objects a.file a.ioas) x areas

pub translated_fewer : (objects left : List Object) (goes : Area → Bool) (areas : List Area) (n : ℕ)
    → ((file : FileNo) (ioas : ObjId) → has_hwpt left file ioas ≡ true → has_hwpt objects file ioas ≡ true)
    → is_translated left (filter (λ (a : Area). not (goes a)) areas) n ≡ true → is_translated objects areas n ≡ true
translated_fewer objects left goes areas n fewer is =
    any_weaker (λ (a : Area). not (goes a) && (eqb a.memory n && has_hwpt left a.file a.ioas))
    (λ (a : Area). eqb a.memory n && has_hwpt objects a.file a.ioas) areas
    (λ a all. let parts = and_true (not (goes a)) (eqb a.memory n && has_hwpt left a.file a.ioas) all in let both =
    and_true (eqb a.memory n) (has_hwpt left a.file a.ioas) parts.1 in both_true _ _ both.0
    (fewer a.file a.ioas both.1))
    (sym (any-filter (λ (a : Area). eqb a.memory n && has_hwpt left a.file a.ioas) (λ (a : Area). not (goes a)) areas)
    ∙ is)

pub translated_within : (objects left : List Object) (areas : List Area) (n : ℕ)
    → ((file : FileNo) (ioas : ObjId) → has_hwpt left file ioas ≡ true → has_hwpt objects file ioas ≡ true)
    → is_translated left areas n ≡ true → is_translated objects areas n ≡ true
translated_within objects left areas n fewer is =
    any_weaker (λ (a : Area). eqb a.memory n && has_hwpt left a.file a.ioas) (λ (a : Area). eqb a.memory n
    && has_hwpt objects a.file a.ioas) areas
    (λ a both. let parts = and_true (eqb a.memory n) (has_hwpt left a.file a.ioas) both in both_true _ _ parts.0
    (fewer a.file a.ioas parts.1)) is

-- no area is over a memory object of this number
pub untranslated : (objects : List Object) (areas : List Area) (n : ℕ)
    → list_any (λ (a : Area). eqb a.memory n) areas ≡ false → is_translated objects areas n ≡ false
untranslated objects areas n none = none_stronger (λ (a : Area). eqb a.memory n && has_hwpt objects a.file a.ioas)
    (λ (a : Area). eqb a.memory n) areas (λ a both. (and_true (eqb a.memory n) (has_hwpt objects a.file a.ioas) both).0)
    none
