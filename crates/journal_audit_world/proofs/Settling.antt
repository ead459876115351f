-- Pins after an event by which no page is to be pinned anew: those of pages that are to be pinned still.
use Rattle.std.proofs.Common.{◌≡◌, ℕ, Bool, true, false, ◌&&◌, ◌||◌, not, eqb, ltb, List, [], ◌∷◌, ◌++◌, append-nil}
use Rattle.std.proofs.Common.{refl, sym, ap}
use Rattle.std.proofs.Common.{◌∙◌}
use Rattle.std.proofs.lemmas.Bool.{eqb-true}
use Rattle.journal_audit_world.proofs.Swapped.{any_alike}
use Rattle.std.specs.List.{filter, filter_map, list_all, list_any}
use Rattle.iofd_rows.proofs.Bools.{and_true, both_true}
use Rattle.iofd_rows.proofs.ListTests.{any-filter, any_weaker, filter_alike_on, filter_nothing, or_left, or_right}
use Rattle.iofd_rows.proofs.ObjectPages.{has_page, in_pinned, is_listed, listed_is}
use Rattle.iofd_rows.proofs.PageLists.{all_pages}
use Rattle.iofd_runs.proofs.PagesToPin.{pages_in}
use Rattle.iofd_steps.specs.After.{settle}
use Rattle.iofd_words.specs.Objects.{has_hwpt}
use Rattle.iofd_words.specs.Pins.{ObjectPage, covers_page, is_accessed, is_page, is_pinned, is_translated, page_of_pin}
use Rattle.iofd_words.specs.Pins.{pin_now}
use Rattle.iofd_words.specs.World.{World}
use Rattle.iofd_words.specs.declared.rows.AccessPin.{AccessPin}
use Rattle.iofd_words.specs.declared.rows.Area.{Area}
use Rattle.iofd_words.specs.declared.rows.MemoryObject.{MemoryObject}
use Rattle.iofd_words.specs.declared.rows.Object.{Object}
use Rattle.iofd_words.specs.declared.rows.Pin.{Pin}

-- the world with the pins of pages that are to be pinned in it, and no others
abbrev pub with_kept_pins : List Pin → World → World
with_kept_pins pins new = record new {
  pins = filter (λ pin. is_pinned new.objects new.areas new.access_pins (page_of_pin pin)) pins;
}

pub settle_less : (w new : World)
    → ((page : ObjectPage) → list_any (is_page page) (pages_in new) ≡ true
    → list_any (is_page page) (pages_in w) ≡ true)
    → ((page : ObjectPage) → is_listed w.memory page ≡ true
    → is_pinned new.objects new.areas new.access_pins page ≡ true → is_listed new.memory page ≡ true)
    → list_all (λ pin. list_any (is_page (page_of_pin pin)) (pages_in w)) w.pins ≡ true
    → settle w new ≡ with_kept_pins w.pins new
unfolding settle
settle_less w new within listed only =
    ap (λ (pins : List Pin). record new { pins = pins })
    (ap (λ (pages : List ObjectPage). filter (λ (pin : Pin). list_any (is_page (page_of_pin pin)) (pages_in new)) w.pins
    ++ filter_map (pin_now new.memory new.user_pages) pages) none_new
    ∙ append-nil (filter (λ (pin : Pin). list_any (is_page (page_of_pin pin)) (pages_in new)) w.pins)
    ∙ same_kept)
  where
    none_new : filter (λ page. not (list_any (is_page page) (pages_in w))) (pages_in new) ≡ []
    none_new = filter_nothing (λ page. not (list_any (is_page page) (pages_in w))) (pages_in new)
        (all_pages (λ page. not (not (list_any (is_page page) (pages_in w)))) (pages_in new)
        (λ page inside. rw (within page inside) refl))

    stays : (page : ObjectPage) → list_any (is_page page) (pages_in w) ≡ true → (b : Bool)
        → is_pinned new.objects new.areas new.access_pins page ≡ b
        → (is_listed new.memory page && is_pinned new.objects new.areas new.access_pins page) ≡ b
    stays page was true is =
        both_true _ _ (listed page (and_true (is_listed w.memory page)
        (is_pinned w.objects w.areas w.access_pins page)
        (sym (in_pinned w.objects w.areas w.memory w.access_pins page) ∙ was)).0 is) is
    stays page was false is = rw is (never (is_listed new.memory page))
      where
        never : (b : Bool) → (b && false) ≡ false
        never true = refl
        never false = refl

    same_kept : filter (λ (pin : Pin). list_any (is_page (page_of_pin pin)) (pages_in new)) w.pins
        ≡ filter (λ (pin : Pin). is_pinned new.objects new.areas new.access_pins (page_of_pin pin)) w.pins
    same_kept = filter_alike_on (λ (pin : Pin). list_any (is_page (page_of_pin pin)) (pages_in w))
        (λ (pin : Pin). list_any (is_page (page_of_pin pin)) (pages_in new))
        (λ (pin : Pin). is_pinned new.objects new.areas new.access_pins (page_of_pin pin)) w.pins only
        (λ pin was. in_pinned new.objects new.areas new.memory new.access_pins (page_of_pin pin)
        ∙ stays (page_of_pin pin) was _ refl)

-- no page comes where no memory object comes, none is translated anew and no access pin covers a page anew
pub pages_fewer : (w new : World)
    → ((page : ObjectPage) → is_listed new.memory page ≡ true → is_listed w.memory page ≡ true)
    → ((n : ℕ) → is_translated new.objects new.areas n ≡ true → is_translated w.objects w.areas n ≡ true)
    → ((page : ObjectPage) → is_listed new.memory page ≡ true
    → is_accessed new.objects new.areas new.access_pins page ≡ true
    → is_accessed w.objects w.areas w.access_pins page ≡ true)
    → (page : ObjectPage) → list_any (is_page page) (pages_in new) ≡ true
    → list_any (is_page page) (pages_in w) ≡ true
pages_fewer w new listed translated accessed page inside =
    let parts = and_true (is_listed new.memory page) (is_pinned new.objects new.areas new.access_pins page)
    (sym (in_pinned new.objects new.areas new.memory new.access_pins page) ∙ inside) in
    in_pinned w.objects w.areas w.memory w.access_pins page
    ∙ both_true _ _ (listed page parts.0)
    (either (is_translated new.objects new.areas page.memory) _ _ _ (translated page.memory)
    (accessed page parts.0) parts.1)
  where
    either : (t a u b : Bool) → (t ≡ true → u ≡ true) → (a ≡ true → b ≡ true) → (t || a) ≡ true → (u || b) ≡ true
    either true a u b more same is = or_left u b (more refl)
    either false a u b more same is = or_right u b (same is)

-- ---- a memory object stays with a page that is to be pinned

-- an area is over the memory object of a page that an access pin covers
over_accessed : (objects : List Object) (areas : List Area) (rows : List AccessPin) (page : ObjectPage)
    → is_accessed objects areas rows page ≡ true
    → list_any (λ (area : Area). eqb area.memory page.memory) areas ≡ true
over_accessed objects areas [] page is = cc
over_accessed objects areas (pin ∷ rows) page is =
    either _ refl is (λ later. over_accessed objects areas rows page later)
  where
    either : (b : Bool) → list_any (λ (area : Area). eqb area.memory page.memory
        && covers_page objects page.index pin area) areas ≡ b → (b || is_accessed objects areas rows page) ≡ true
        → (is_accessed objects areas rows page ≡ true
        → list_any (λ (area : Area). eqb area.memory page.memory) areas ≡ true)
        → list_any (λ (area : Area). eqb area.memory page.memory) areas ≡ true
    either true here is later = any_weaker (λ (area : Area). eqb area.memory page.memory
        && covers_page objects page.index pin area) (λ (area : Area). eqb area.memory page.memory) areas
        (λ area both. (and_true (eqb area.memory page.memory) (covers_page objects page.index pin area) both).0) here
    either false here is later = later is

-- and over that of each page that is to be pinned
over : (objects : List Object) (areas : List Area) (pins : List AccessPin) (page : ObjectPage)
    → is_pinned objects areas pins page ≡ true → list_any (λ (area : Area). eqb area.memory page.memory) areas ≡ true
over objects areas pins page is = by_test (is_translated objects areas page.memory) refl is
  where
    by_test : (b : Bool) → is_translated objects areas page.memory ≡ b → (b || is_accessed objects areas pins page) ≡
        true
        → list_any (λ (area : Area). eqb area.memory page.memory) areas ≡ true
    by_test true here is = any_weaker (λ (area : Area). eqb area.memory page.memory && has_hwpt objects area.file
        area.ioas)
        (λ (area : Area). eqb area.memory page.memory) areas
        (λ area both. (and_true (eqb area.memory page.memory) (has_hwpt objects area.file area.ioas) both).0) here
    by_test false here is = over_accessed objects areas pins page is

-- so its memory object is one of those that are left
pub listed_left : (objects : List Object) (goes : Area → Bool) (areas : List Area) (memory : List MemoryObject)
    (pins : List AccessPin) (page : ObjectPage) → is_listed memory page ≡ true
    → is_pinned objects (filter (λ area. not (goes area)) areas) pins page ≡ true
    → is_listed (filter (λ m. list_any (λ area. eqb area.memory m.number && not (goes area)) areas) memory) page ≡ true
listed_left objects goes areas memory pins page listed is =
    let left = sym (any-filter (λ (area : Area). eqb area.memory page.memory) (λ area. not (goes area)) areas)
    ∙ over objects (filter (λ area. not (goes area)) areas) pins page is in
    listed_is (filter stays memory) page
    ∙ any-filter (has_page page) stays memory
    ∙ any_weaker (has_page page) (λ m. stays m && has_page page m) memory
    (λ m has. both_true _ _ (kept m left has) has) (sym (listed_is memory page) ∙ listed)
  where
    stays : MemoryObject → Bool
    stays m = list_any (λ (area : Area). eqb area.memory m.number && not (goes area)) areas

    kept : (m : MemoryObject) → list_any (λ (area : Area). not (goes area) && eqb area.memory page.memory) areas ≡ true
        → has_page page m ≡ true → stays m ≡ true
    kept m left has =
        let same : page.memory ≡ m.number =
        eqb-true page.memory m.number (and_true (eqb page.memory m.number) (ltb page.index m.count) has).0 in
        any_weaker (λ (area : Area). not (goes area) && eqb area.memory page.memory)
        (λ (area : Area). eqb area.memory m.number && not (goes area)) areas
        (λ area both. let parts = and_true (not (goes area)) (eqb area.memory page.memory) both in
        both_true _ _ (ap (eqb area.memory) (sym same) ∙ parts.1) parts.0) left

-- ---- by lists

-- memory objects that an area is over still
pub used_still : (goes : Area → Bool) (areas : List Area) (memory : List MemoryObject)
    → filter (λ m. list_any (λ area. eqb area.memory m.number) (filter (λ area. not (goes area)) areas)) memory
    ≡ filter (λ m. list_any (λ area. eqb area.memory m.number && not (goes area)) areas) memory
used_still goes areas [] = refl
used_still goes areas (m ∷ memory) = rw (here, used_still goes areas memory) refl
  where
    flipped : (a b : Bool) → (a && b) ≡ (b && a)
    flipped true true = refl
    flipped true false = refl
    flipped false true = refl
    flipped false false = refl

    here : list_any (λ (area : Area). eqb area.memory m.number) (filter (λ area. not (goes area)) areas)
        ≡ list_any (λ (area : Area). eqb area.memory m.number && not (goes area)) areas
    here = any-filter (λ (area : Area). eqb area.memory m.number) (λ area. not (goes area)) areas
        ∙ any_alike _ _ areas (λ area. flipped (not (goes area)) (eqb area.memory m.number))

-- pins of pages that are to be pinned still
abbrev pub pinned_still : List Object → List Area → List AccessPin → List Pin → List Pin
pinned_still objects areas access_pins pins =
    filter (λ pin. is_pinned objects areas access_pins (page_of_pin pin)) pins
