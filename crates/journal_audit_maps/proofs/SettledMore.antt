-- Pins after an event by which pages are to be pinned anew, and none less: those that stand, and behind them one for each
-- new page, in the order of memory objects.
use Rattle.std.proofs.Common.{◌≡◌, ℕ, Bool, true, false, cond, ◌&&◌, ◌||◌, not, is_none, is_some, Option, Some, None, List}
use Rattle.std.proofs.Common.{[], ◌∷◌, ◌++◌, refl, sym, ap, ◌∙◌}
use Rattle.std.specs.List.{filter, filter_map, flat_map, list_all, list_any}
use Rattle.iofd_rows.proofs.Bools.{and_true, both_true}
use Rattle.iofd_rows.proofs.Each.{of_all, of_any}
use Rattle.iofd_rows.proofs.Found.{all_weaker}
use Rattle.iofd_rows.proofs.ListTests.{filter_all, filter_alike_on, or_left}
use Rattle.iofd_rows.proofs.ObjectPages.{in_pinned, is_listed}
use Rattle.iofd_rows.proofs.PageLists.{at_page, page_itself}
use Rattle.iofd_rows.specs.Pinned.{ArePinned}
use Rattle.iofd_runs.proofs.AttachedPages.{never_pinned}
use Rattle.iofd_runs.proofs.PagesToPin.{pages_in}
use Rattle.iofd_steps.specs.After.{settle}
use Rattle.iofd_words.specs.Pins.{ObjectPage, is_page, is_pinned, page_of_pin, pages_of, pin_now, pinned_frame}
use Rattle.iofd_words.specs.Pins.{unpinned_pages}
use Rattle.iofd_words.specs.World.{World}
use Rattle.iofd_words.specs.declared.numbers.FrameNo.{FrameNo}
use Rattle.iofd_words.specs.declared.rows.MemoryObject.{MemoryObject}
use Rattle.iofd_words.specs.declared.rows.Pin.{Pin}

both_filters : {X : Type 0} (p q : X → Bool) (xs : List X) → filter p (filter q xs) ≡ filter (λ x. q x && p x) xs
both_filters p q [] = refl
both_filters p q (x ∷ xs) = by_test (q x) (both_filters p q xs)
  where
    by_test : (b : Bool) → filter p (filter q xs) ≡ filter (λ x. q x && p x) xs → filter p (cond b (x ∷ filter q xs) (filter q xs))
        ≡ cond (b && p x) (x ∷ filter (λ x. q x && p x) xs) (filter (λ x. q x && p x) xs)
    by_test true rest = rw rest refl
    by_test false rest = rest

all_listed : (memory : List MemoryObject) → list_all (is_listed memory) (flat_map pages_of memory) ≡ true
all_listed memory = of_all (is_listed memory) (flat_map pages_of memory)
    (λ page among. of_any (is_page page) (flat_map pages_of memory) page among (page_itself page))

-- the world with its pins, and those of new pages
abbrev pub with_new_pins : (ObjectPage → Bool) → World → World → World
with_new_pins comes w new = record new {
  pins = w.pins ++ filter_map (pin_now w.memory new.user_pages)
      (filter comes (unpinned_pages (pinned_frame w.pins) w.memory));
}

pub settle_more : (at : ℕ) (w new : World) (comes : ObjectPage → Bool) → ArePinned at w → new.memory ≡ w.memory
    → ((page : ObjectPage) → is_listed w.memory page ≡ true
    → is_pinned new.objects new.areas new.access_pins page
    ≡ (is_pinned w.objects w.areas w.access_pins page || comes page))
    → settle w new ≡ with_new_pins comes w new
unfolding settle
settle_more at w new comes p same more =
    ap (λ (pins : List Pin). record new { pins = pins })
    (ap (λ (rows : List Pin). rows ++ filter_map (pin_now new.memory new.user_pages)
    (filter (λ page. not (list_any (is_page page) (pages_in w))) (pages_in new))) kept
    ∙ ap (λ (m : List MemoryObject). w.pins ++ filter_map (pin_now m new.user_pages)
    (filter (λ page. not (list_any (is_page page) (pages_in w)))
    (filter (is_pinned new.objects new.areas new.access_pins) (flat_map pages_of m)))) same
    ∙ ap (λ (pages : List ObjectPage). w.pins ++ filter_map (pin_now w.memory new.user_pages) pages) new_pages)
  where
    in_new : (page : ObjectPage) → list_any (is_page page) (pages_in new)
        ≡ (is_listed w.memory page && is_pinned new.objects new.areas new.access_pins page)
    in_new page =
        in_pinned new.objects new.areas new.memory new.access_pins page
        ∙ ap (λ (m : List MemoryObject). is_listed m page && is_pinned new.objects new.areas new.access_pins page) same

    stays : (page : ObjectPage) → list_any (is_page page) (pages_in w) ≡ true
        → list_any (is_page page) (pages_in new) ≡ true
    stays page was =
        let parts = and_true (is_listed w.memory page) (is_pinned w.objects w.areas w.access_pins page)
        (sym (in_pinned w.objects w.areas w.memory w.access_pins page) ∙ was) in
        in_new page ∙ both_true _ _ parts.0 (more page parts.0 ∙ or_left _ _ parts.1)

    kept : filter (λ (pin : Pin). list_any (is_page (page_of_pin pin)) (pages_in new)) w.pins ≡ w.pins
    kept = filter_all (λ (pin : Pin). list_any (is_page (page_of_pin pin)) (pages_in new)) w.pins
        (all_weaker (λ (pin : Pin). list_any (is_page (page_of_pin pin)) (pages_in w))
        (λ (pin : Pin). list_any (is_page (page_of_pin pin)) (pages_in new)) w.pins
        (λ pin is. stays (page_of_pin pin) is) p.only)

    -- a page of a memory object has a pin just where it is to be pinned
    unpinned : (page : ObjectPage) → is_listed w.memory page ≡ true
        → is_none (pinned_frame w.pins page) ≡ not (is_pinned w.objects w.areas w.access_pins page)
    unpinned page listed = by_test (is_pinned w.objects w.areas w.access_pins page) refl
      where
        flipped : (o : Option FrameNo) → is_some o ≡ true → is_none o ≡ false
        flipped (Some frame) is = refl
        flipped None is = cc

        by_test : (b : Bool) → is_pinned w.objects w.areas w.access_pins page ≡ b
            → is_none (pinned_frame w.pins page) ≡ not b
        by_test false is = never_pinned at w page p is
        by_test true is = flipped (pinned_frame w.pins page)
            (at_page (λ page. is_some (pinned_frame w.pins page)) (pages_in w) page p.pinned
            (in_pinned w.objects w.areas w.memory w.access_pins page ∙ both_true _ _ listed is))

    alike : (page : ObjectPage) → is_listed w.memory page ≡ true
        → (is_pinned new.objects new.areas new.access_pins page && not (list_any (is_page page) (pages_in w)))
        ≡ (is_none (pinned_frame w.pins page) && comes page)
    alike page listed =
        by_tests (is_pinned w.objects w.areas w.access_pins page) (comes page) _ _ _ (more page listed)
        (in_pinned w.objects w.areas w.memory w.access_pins page
        ∙ ap (λ (b : Bool). b && is_pinned w.objects w.areas w.access_pins page) listed) (unpinned page listed)
      where
        by_tests : (was come now in_old free : Bool) → now ≡ (was || come) → in_old ≡ (true && was) → free ≡ not was
            → (now && not in_old) ≡ (free && come)
        by_tests was come now in_old free a b c =
            ap (λ (x : Bool). x && not in_old) a ∙ ap (λ (x : Bool). (was || come) && not x) b ∙ table was come
            ∙ ap (λ (x : Bool). x && come) (sym c)
          where
            table : (was come : Bool) → ((was || come) && not (true && was)) ≡ (not was && come)
            table true come = refl
            table false true = refl
            table false false = refl

    new_pages : filter (λ page. not (list_any (is_page page) (pages_in w)))
        (filter (is_pinned new.objects new.areas new.access_pins) (flat_map pages_of w.memory))
        ≡ filter comes (unpinned_pages (pinned_frame w.pins) w.memory)
    new_pages =
        both_filters (λ page. not (list_any (is_page page) (pages_in w)))
        (is_pinned new.objects new.areas new.access_pins) (flat_map pages_of w.memory)
        ∙ filter_alike_on (is_listed w.memory)
        (λ page. is_pinned new.objects new.areas new.access_pins page
        && not (list_any (is_page page) (pages_in w)))
        (λ page. is_none (pinned_frame w.pins page) && comes page) (flat_map pages_of w.memory) (all_listed w.memory)
        (λ page listed. alike page listed)
        ∙ sym (both_filters comes (λ page. is_none (pinned_frame w.pins page)) (flat_map pages_of w.memory))
