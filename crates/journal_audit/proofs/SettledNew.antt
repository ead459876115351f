-- Pins after an event by which a memory object comes: those that stand, and behind them those of its pages, if they are
-- to be pinned.
use Rattle.std.proofs.Common.{◌≡◌, ℕ, Bool, true, false, cond, ◌||◌, not, eqb, ltb, List, [], ◌∷◌, ◌++◌, append-nil}
use Rattle.std.proofs.Common.{refl, sym, ap, ◌∙◌, arith}
use Rattle.std.specs.List.{filter, filter_map, flat_map, list_all, list_any}
use Rattle.std.proofs.lemmas.Bool.Decides.{nat_tests}
use Rattle.std.proofs.lemmas.Grind.{flat_map-append}
use Rattle.std.proofs.lemmas.List.Elements.{filter-append}
use Rattle.iofd_rows.proofs.Bools.{and_true, both_true, not_false}
use Rattle.iofd_rows.proofs.Found.{all_weaker}
use Rattle.iofd_rows.proofs.ListTests.{false_else, filter_all, filter_nothing, or_left}
use Rattle.iofd_rows.proofs.ObjectPages.{has_page, in_pinned, is_listed, listed_is, listed_more}
use Rattle.iofd_rows.proofs.PageLists.{all_pages, in_pages, kept_page}
use Rattle.iofd_rows.specs.Pinned.{ArePinned}
use Rattle.iofd_runs.proofs.PagesToPin.{pages_in}
use Rattle.iofd_steps.specs.After.{settle}
use Rattle.iofd_words.specs.Pins.{ObjectPage, is_page, is_pinned, page_of_pin, pages_of, pin_now}
use Rattle.iofd_words.specs.World.{World}
use Rattle.iofd_words.specs.declared.rows.MemoryObject.{MemoryObject}
use Rattle.iofd_words.specs.declared.rows.Pin.{Pin}

-- memory objects that stand have other numbers
pub other_number : (at : ℕ) (memory : List MemoryObject) (page : ObjectPage)
    → list_all (λ (m : MemoryObject). ltb m.number at) memory ≡ true → is_listed memory page ≡ true
    → eqb at page.memory ≡ false
other_number at memory page made listed = by_row memory made (sym (listed_is memory page) ∙ listed)
  where
    by_row : (rows : List MemoryObject) → list_all (λ (m : MemoryObject). ltb m.number at) rows ≡ true
        → list_any (has_page page) rows ≡ true → eqb at page.memory ≡ false
    by_row [] made has = cc
    by_row (m ∷ rows) made has =
        let parts = and_true (ltb m.number at) (list_all (λ (o : MemoryObject). ltb o.number at) rows) made in
        by_test (has_page page m) refl has parts.0 (by_row rows parts.1)
      where
        unlike : (a b c : ℕ) → eqb a b ≡ true → ltb b c ≡ true → eqb c a ≡ false
        unlike a b c same low = grind (arith, nat_tests)

        by_test : (b : Bool) → has_page page m ≡ b → (b || list_any (has_page page) rows) ≡ true
            → ltb m.number at ≡ true → (list_any (has_page page) rows ≡ true → eqb at page.memory ≡ false)
            → eqb at page.memory ≡ false
        by_test true is here low later =
            unlike page.memory m.number at (and_true (eqb page.memory m.number) (ltb page.index m.count) is).0 low
        by_test false is here low later = later here

-- the world with its pins, and those of the memory object's pages
abbrev pub with_own_pins : Bool → MemoryObject → World → World → World
with_own_pins pinned m w new = record new {
  pins = w.pins ++ filter_map (pin_now new.memory new.user_pages) (cond pinned (pages_of m) []);
}

module _ (at : ℕ) (w new : World) (m : MemoryObject) (p : ArePinned at w) (number : m.number ≡ at)
    (memory : new.memory ≡ w.memory ++ m ∷ [])
    (old : (page : ObjectPage) → is_listed w.memory page ≡ true
    → is_pinned new.objects new.areas new.access_pins page ≡ is_pinned w.objects w.areas w.access_pins page) where
  abbrev pinned : ObjectPage → Bool
  pinned page = is_pinned new.objects new.areas new.access_pins page

  abbrev is_new : ObjectPage → Bool
  is_new page = not (list_any (is_page page) (pages_in w))

  stays : (page : ObjectPage) → list_any (is_page page) (pages_in w) ≡ true
      → list_any (is_page page) (pages_in new) ≡ true
  stays page was =
      let parts = and_true (is_listed w.memory page) (is_pinned w.objects w.areas w.access_pins page)
      (sym (in_pinned w.objects w.areas w.memory w.access_pins page) ∙ was) in
      in_pinned new.objects new.areas new.memory new.access_pins page
      ∙ both_true _ _ (ap (λ (ms : List MemoryObject). is_listed ms page) memory ∙ listed_more w.memory m page
      ∙ or_left _ _ parts.0) (old page parts.0 ∙ parts.1)

  kept : filter (λ (pin : Pin). list_any (is_page (page_of_pin pin)) (pages_in new)) w.pins ≡ w.pins
  kept = filter_all (λ (pin : Pin). list_any (is_page (page_of_pin pin)) (pages_in new)) w.pins
      (all_weaker (λ (pin : Pin). list_any (is_page (page_of_pin pin)) (pages_in w))
      (λ (pin : Pin). list_any (is_page (page_of_pin pin)) (pages_in new)) w.pins
      (λ pin is. stays (page_of_pin pin) is) p.only)

  none_new : filter is_new (filter pinned (flat_map pages_of w.memory)) ≡ []
  none_new = filter_nothing is_new (filter pinned (flat_map pages_of w.memory))
      (all_pages (λ page. not (is_new page)) (filter pinned (flat_map pages_of w.memory))
      (λ page within.
      let parts = kept_page pinned (flat_map pages_of w.memory) page within in
      let here : list_any (is_page page) (pages_in w) ≡ true =
      in_pinned w.objects w.areas w.memory w.access_pins page
      ∙ both_true _ _ parts.0 (sym (old page parts.0) ∙ parts.1) in
      rw here refl))

  has : (page : ObjectPage) → list_any (is_page page) (pages_of m) ≡ true → has_page page m ≡ true
  has page within = sym (in_pages page m.number m.count) ∙ within

  new_is : (page : ObjectPage) → list_any (is_page page) (pages_of m) ≡ true → is_new page ≡ true
  new_is page within =
      not_false _ (false_else (list_any (is_page page) (pages_in w)) (λ was.
      let parts = and_true (is_listed w.memory page) (is_pinned w.objects w.areas w.access_pins page)
      (sym (in_pinned w.objects w.areas w.memory w.access_pins page) ∙ was) in
      let named = (and_true (eqb page.memory m.number) (ltb page.index m.count) (has page within)).0 in
      clashing page.memory m.number at named number (other_number at w.memory page p.made parts.0)))
    where
      clashing : (a b c : ℕ) → eqb a b ≡ true → b ≡ c → eqb c a ≡ false → ⊥
      clashing a b c same is other = grind (arith, nat_tests)

  own_new : (b : Bool) → ((page : ObjectPage) → has_page page m ≡ true → pinned page ≡ b)
      → filter is_new (filter pinned (pages_of m)) ≡ cond b (pages_of m) []
  own_new true own =
      ap (filter is_new) (filter_all pinned (pages_of m)
      (all_pages pinned (pages_of m) (λ page within. own page (has page within))))
      ∙ filter_all is_new (pages_of m) (all_pages is_new (pages_of m) new_is)
  own_new false own =
      ap (filter is_new) (filter_nothing pinned (pages_of m)
      (all_pages (λ page. not (pinned page)) (pages_of m)
      (λ page within. not_false _ (own page (has page within)))))

  pub settle_new : (b : Bool) → ((page : ObjectPage) → has_page page m ≡ true
      → is_pinned new.objects new.areas new.access_pins page ≡ b)
      → settle w new ≡ with_own_pins b m w new
  unfolding settle
  settle_new b own =
      ap (λ (pins : List Pin). record new { pins = pins })
      (ap (λ (rows : List Pin). rows ++ filter_map (pin_now new.memory new.user_pages) (filter is_new (pages_in new)))
      kept
      ∙ ap (λ (pages : List ObjectPage). w.pins ++ filter_map (pin_now new.memory new.user_pages) pages)
      (ap (λ (ms : List MemoryObject). filter is_new (filter pinned (flat_map pages_of ms))) memory
      ∙ ap (λ (pages : List ObjectPage). filter is_new (filter pinned pages))
      (flat_map-append pages_of w.memory (m ∷ []))
      ∙ ap (filter is_new) (filter-append pinned (flat_map pages_of w.memory) (flat_map pages_of (m ∷ [])))
      ∙ filter-append is_new (filter pinned (flat_map pages_of w.memory)) (filter pinned (flat_map pages_of (m ∷ [])))
      ∙ ap (λ (pages : List ObjectPage). pages ++ filter is_new (filter pinned (flat_map pages_of (m ∷ [])))) none_new
      ∙ ap (λ (pages : List ObjectPage). filter is_new (filter pinned pages)) (append-nil (pages_of m))
      ∙ own_new b own))
