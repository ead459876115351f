-- After pins were settled, each page that is to be pinned has a pin, if the new ones are in their users' memory, and no
-- other page has one.
use Rattle.std.proofs.Common.{◌≡◌, Bool, true, false, cond, ◌&&◌, ◌||◌, ◌++◌, not, arith, Option, Some, None, is_some}
use Rattle.std.proofs.Common.{List, [], ◌∷◌, refl, ap, sym, ◌∙◌}
use Rattle.std.specs.List.{filter, filter_map, cons_option, find, list_all, list_any}
use Rattle.std.proofs.lemmas.Bool.Decides.{nat_tests}
use Rattle.std.proofs.lemmas.List.Folds.{list_all-append, list_any-append}
use Rattle.iofd_words.specs.Pins.{ObjectPage, is_page, page_of_pin, frame_now, pin_now, pinned_frame, are_present}
use Rattle.iofd_words.specs.Pins.{settled}
use Rattle.iofd_words.specs.declared.numbers.FrameNo.{FrameNo}
use Rattle.iofd_words.specs.declared.rows.MemoryObject.{MemoryObject}
use Rattle.iofd_words.specs.declared.rows.Pin.{Pin}
use Rattle.iofd_words.specs.declared.rows.UserPage.{UserPage}
use Rattle.iofd_rows.proofs.Bools.{and_true, both_true, not_false}
use Rattle.iofd_rows.proofs.ListTests.{all_pass, any-filter, any_weaker, or_left, or_right}
use Rattle.iofd_rows.proofs.PageLists.{all_pages, any_kept, at_page, kept_page, page_itself, page_kept, same_page}

-- ---- a page's pin

-- some pin is the page's
abbrev pub has_pin : List Pin → ObjectPage → Bool
has_pin pins page = list_any (λ (pin : Pin). is_page (page_of_pin pin) page) pins

pub pin_found : (pins : List Pin) (page : ObjectPage) → is_some (pinned_frame pins page) ≡ has_pin pins page
pin_found [] page = refl
pin_found (pin ∷ pins) page = by_test (is_page (page_of_pin pin) page) (pin_found pins page)
  where
    by_test : (b : Bool) → is_some (pinned_frame pins page) ≡ has_pin pins page
        → is_some {T = FrameNo} (elim (cond b (Some pin) (find (λ (p : Pin). is_page (page_of_pin p) page) pins))
        [ Some p ↦ Some p.frame | None ↦ None ]) ≡ (b || has_pin pins page)
    by_test true rest = refl
    by_test false rest = rest

-- ---- what is new

-- the pin of a page at its frame
abbrev made_pin : ObjectPage → Option FrameNo → Option Pin
made_pin page (Some frame) = Some (record { memory = page.memory; index = page.index; frame = frame })
made_pin page None = None

pin_now_is : (memory : List MemoryObject) (user_pages : List UserPage) (page : ObjectPage)
    → pin_now memory user_pages page ≡ made_pin page (frame_now memory user_pages page)
pin_now_is memory user_pages page = by_frame (frame_now memory user_pages page)
  where
    by_frame : (o : Option FrameNo) → elim o [
      | Some frame ↦ Some (record { memory = page.memory; index = page.index; frame = frame })
      | None ↦ None
    ] ≡ made_pin page o
    by_frame (Some frame) = refl
    by_frame None = refl

-- a new page that is in its user's memory gets a pin
pinned_now : (memory : List MemoryObject) (user_pages : List UserPage) (new : List ObjectPage) (page : ObjectPage)
    → is_some (frame_now memory user_pages page) ≡ true → list_any (is_page page) new ≡ true
    → has_pin (filter_map (pin_now memory user_pages) new) page ≡ true
pinned_now memory user_pages [] page present within = cc
pinned_now memory user_pages (p ∷ new) page present within =
    by_test (is_page page p) refl within (pinned_now memory user_pages new page present)
  where
    first : (o : Option FrameNo) → is_some o ≡ true
        → has_pin (cons_option (made_pin page o) (filter_map (pin_now memory user_pages) new)) page ≡ true
    first (Some frame) is =
        or_left (is_page page page) (has_pin (filter_map (pin_now memory user_pages) new) page) (page_itself page)
    first None is = cc

    later : (o : Option Pin) → has_pin (filter_map (pin_now memory user_pages) new) page ≡ true
        → has_pin (cons_option o (filter_map (pin_now memory user_pages) new)) page ≡ true
    later (Some pin) has =
        or_right (is_page (page_of_pin pin) page) (has_pin (filter_map (pin_now memory user_pages) new) page) has
    later None has = has

    by_test : (b : Bool) → is_page page p ≡ b → (b || list_any (is_page page) new) ≡ true
        → (list_any (is_page page) new ≡ true → has_pin (filter_map (pin_now memory user_pages) new) page ≡ true)
        → has_pin (cons_option (pin_now memory user_pages p) (filter_map (pin_now memory user_pages) new)) page ≡ true
    by_test true is here others =
        let same = sym (same_page page p is) in
        let pin : pin_now memory user_pages p ≡ made_pin page (frame_now memory user_pages page) =
        ap (pin_now memory user_pages) same ∙ pin_now_is memory user_pages page in
        rw pin (first (frame_now memory user_pages page) present)
    by_test false is here others = later (pin_now memory user_pages p) (others here)

-- each new pin is of a new page
only_now : (q : ObjectPage → Bool) (memory : List MemoryObject) (user_pages : List UserPage) (new : List ObjectPage)
    → list_all q new ≡ true → list_all (λ (pin : Pin). q (page_of_pin pin))
    (filter_map (pin_now memory user_pages) new) ≡ true
only_now q memory user_pages [] all = refl
only_now q memory user_pages (p ∷ new) all =
    let parts = and_true (q p) (list_all q new) all in
    rw (pin_now_is memory user_pages p) (by_frame (frame_now memory user_pages p) parts.0
    (only_now q memory user_pages new parts.1))
  where
    by_frame : (o : Option FrameNo) → q p ≡ true
        → list_all (λ (pin : Pin). q (page_of_pin pin)) (filter_map (pin_now memory user_pages) new) ≡ true
        → list_all (λ (pin : Pin). q (page_of_pin pin))
        (cons_option (made_pin p o) (filter_map (pin_now memory user_pages) new)) ≡ true
    by_frame (Some frame) here rest = both_true _ _ here rest
    by_frame None here rest = rest

-- ---- what is settled

-- the pages that weren't pinned before
abbrev new_pages : List ObjectPage → List ObjectPage → List ObjectPage
new_pages before after = filter (λ page. not (list_any (is_page page) before)) after

-- the pins of pages that are pinned still
abbrev kept : List ObjectPage → List Pin → List Pin
kept after pins = filter (λ pin. list_any (is_page (page_of_pin pin)) after) pins

-- a page's pin stays where the page does
stays : (after : List ObjectPage) (pins : List Pin) (page : ObjectPage) → list_any (is_page page) after ≡ true
    → has_pin pins page ≡ true → has_pin (kept after pins) page ≡ true
stays after pins page within has =
    any-filter (λ (pin : Pin). is_page (page_of_pin pin) page)
    (λ (pin : Pin). list_any (is_page (page_of_pin pin)) after) pins
    ∙ any_weaker (λ (pin : Pin). is_page (page_of_pin pin) page)
    (λ (pin : Pin). list_any (is_page (page_of_pin pin)) after && is_page (page_of_pin pin) page) pins
    (λ pin is. let same = same_page (page_of_pin pin) page is in both_true _ _
    (ap (λ p. list_any (is_page p) after) same ∙ within) is) has

pub settled_pinned : (before after : List ObjectPage) (memory : List MemoryObject)
    (user_pages : List UserPage) (pins : List Pin)
    → list_all (λ page. is_some (pinned_frame pins page)) before ≡ true
    → are_present (frame_now memory user_pages) (filter (λ page. not (list_any (is_page page) before)) after) ≡ true
    → list_all (λ page. is_some (pinned_frame (settled before after memory user_pages pins) page)) after ≡ true
settled_pinned before after memory user_pages pins pinned present =
    all_pages (λ page. is_some (pinned_frame (settled before after memory user_pages pins) page)) after
    (λ page within. pin_found (settled before after memory user_pages pins) page
    ∙ list_any-append (λ (pin : Pin). is_page (page_of_pin pin) page) (kept after pins)
    (filter_map (pin_now memory user_pages) (new_pages before after))
    ∙ by_test page within (list_any (is_page page) before) refl)
  where
    by_test : (page : ObjectPage) → list_any (is_page page) after ≡ true → (b : Bool)
        → list_any (is_page page) before ≡ b → (has_pin (kept after pins) page
        || has_pin (filter_map (pin_now memory user_pages) (new_pages before after)) page) ≡ true
    by_test page within true was =
        or_left (has_pin (kept after pins) page) _
        (stays after pins page within (sym (pin_found pins page)
        ∙ at_page (λ p. is_some (pinned_frame pins p)) before page pinned was))
    by_test page within false was =
        let among = page_kept (λ p. not (list_any (is_page p) before)) after page within
        (not_false (list_any (is_page page) before) was) in
        or_right (has_pin (kept after pins) page) _
        (pinned_now memory user_pages (new_pages before after) page
        (at_page (λ p. is_some (frame_now memory user_pages p)) (new_pages before after) page present among)
        among)

pub settled_only : (before after : List ObjectPage) (memory : List MemoryObject)
    (user_pages : List UserPage) (pins : List Pin)
    → list_all (λ pin. list_any (is_page (page_of_pin pin)) after) (settled before after memory user_pages pins) ≡ true
settled_only before after memory user_pages pins =
    list_all-append (λ (pin : Pin). list_any (is_page (page_of_pin pin)) after) (kept after pins)
    (filter_map (pin_now memory user_pages) (new_pages before after))
    ∙ both_true _ _ (all_pass (λ (pin : Pin). list_any (is_page (page_of_pin pin)) after) pins)
    (only_now (λ page. list_any (is_page page) after) memory user_pages (new_pages before after)
    (all_pages (λ page. list_any (is_page page) after) (new_pages before after)
    (λ page within. (kept_page (λ p. not (list_any (is_page p) before)) after page within).0)))

-- ---- at which frame

-- a page that has a pin is one of those that pins are of
pub pin_is_of : (pins : List Pin) (pages : List ObjectPage) (page : ObjectPage)
    → is_some (pinned_frame pins page) ≡ true → list_all (λ pin. list_any (is_page (page_of_pin pin)) pages) pins ≡ true
    → list_any (is_page page) pages ≡ true
pin_is_of pins pages page some only = among pins (sym (pin_found pins page) ∙ some) only
  where
    among : (rows : List Pin) → has_pin rows page ≡ true
        → list_all (λ pin. list_any (is_page (page_of_pin pin)) pages) rows ≡ true
        → list_any (is_page page) pages ≡ true
    among [] has all = cc
    among (pin ∷ rows) has all =
        let parts = and_true (list_any (is_page (page_of_pin pin)) pages)
        (list_all (λ pin. list_any (is_page (page_of_pin pin)) pages) rows) all in
        by_test (is_page (page_of_pin pin) page) refl has parts.0 (λ later. among rows later parts.1)
      where
        by_test : (b : Bool) → is_page (page_of_pin pin) page ≡ b → (b || has_pin rows page) ≡ true
            → list_any (is_page (page_of_pin pin)) pages ≡ true
            → (has_pin rows page ≡ true → list_any (is_page page) pages ≡ true) → list_any (is_page page) pages ≡ true
        by_test true same here first later = let alike = same_page (page_of_pin pin) page same in rw (← alike) first
        by_test false same here first later = later here

-- the first of two answers
abbrev pub first_some : Option FrameNo → Option FrameNo → Option FrameNo
first_some (Some frame) later = Some frame
first_some None later = later

frame-cons : (pin : Pin) (pins : List Pin) (page : ObjectPage) (b : Bool) → is_page (page_of_pin pin) page ≡ b
    → pinned_frame (pin ∷ pins) page ≡ cond b (Some pin.frame) (pinned_frame pins page)
frame-cons pin pins page b is = ap (λ (c : Bool).
    elim (cond c (Some pin) (find (λ (p : Pin). is_page (page_of_pin p) page) pins)) as (λ _. Option FrameNo)
    [ Some p ↦ Some p.frame | None ↦ None ]) is ∙ by_test b
  where
    by_test : (c : Bool) → elim (cond c (Some pin) (find (λ (p : Pin). is_page (page_of_pin p) page) pins))
        as (λ _. Option FrameNo) [ Some p ↦ Some p.frame | None ↦ None ] ≡ cond c (Some pin.frame)
        (pinned_frame pins page)
    by_test true = refl
    by_test false = refl

frame-append : (xs ys : List Pin) (page : ObjectPage)
    → pinned_frame (xs ++ ys) page ≡ first_some (pinned_frame xs page) (pinned_frame ys page)
frame-append [] ys page = refl
frame-append (pin ∷ xs) ys page =
    frame-cons pin (xs ++ ys) page (is_page (page_of_pin pin) page) refl
    ∙ by_test (is_page (page_of_pin pin) page) (frame-append xs ys page)
    ∙ ap (λ o. first_some o (pinned_frame ys page)) (sym (frame-cons pin xs page (is_page (page_of_pin pin) page) refl))
  where
    by_test : (b : Bool) → pinned_frame (xs ++ ys) page ≡ first_some (pinned_frame xs page) (pinned_frame ys page)
        → cond b (Some pin.frame) (pinned_frame (xs ++ ys) page) ≡ first_some
        (cond b (Some pin.frame) (pinned_frame xs page)) (pinned_frame ys page)
    by_test true rest = refl
    by_test false rest = rest

frame-kept : (q : ObjectPage → Bool) (pins : List Pin) (page : ObjectPage)
    → pinned_frame (filter (λ pin. q (page_of_pin pin)) pins) page ≡ cond (q page) (pinned_frame pins page) None
frame-kept q [] page = by_test (q page)
  where
    by_test : (b : Bool) → (let o : Option FrameNo = None in o) ≡ cond b (let o : Option FrameNo = None in o) None
    by_test true = refl
    by_test false = refl
frame-kept q (pin ∷ pins) page =
    by_tests (q (page_of_pin pin)) (is_page (page_of_pin pin) page) refl refl (frame-kept q pins page)
    ∙ ap (λ o. cond (q page) o None) (sym (frame-cons pin pins page (is_page (page_of_pin pin) page) refl))
  where
    by_tests : (stays here : Bool) → q (page_of_pin pin) ≡ stays → is_page (page_of_pin pin) page ≡ here
        → pinned_frame (filter (λ pin. q (page_of_pin pin)) pins) page ≡ cond (q page) (pinned_frame pins page) None
        → pinned_frame (cond stays (pin ∷ filter (λ pin. q (page_of_pin pin)) pins)
        (filter (λ pin. q (page_of_pin pin)) pins)) page ≡ cond (q page) (cond here (Some pin.frame)
        (pinned_frame pins page)) None
    by_tests true true is same rest =
        let passes : q page ≡ true = ap q (sym (same_page (page_of_pin pin) page same)) ∙ is in
        frame-cons pin (filter (λ pin. q (page_of_pin pin)) pins) page true same
        ∙ sym (ap (λ b. cond b (Some pin.frame) None) passes)
    by_tests false true is same rest =
        let fails : q page ≡ false = ap q (sym (same_page (page_of_pin pin) page same)) ∙ is in
        rest ∙ ap (λ b. cond b (pinned_frame pins page) None) fails ∙ sym (ap (λ b. cond b (Some pin.frame) None) fails)
    by_tests true false is same rest = frame-cons pin (filter (λ pin. q (page_of_pin pin)) pins) page false same ∙ rest
    by_tests false false is same rest = rest

frame-new : (memory : List MemoryObject) (user_pages : List UserPage) (new : List ObjectPage) (page : ObjectPage)
    → pinned_frame (filter_map (pin_now memory user_pages) new) page ≡ cond (list_any (is_page page) new)
    (frame_now memory user_pages page) None
frame-new memory user_pages [] page = refl
frame-new memory user_pages (p ∷ new) page =
    ap (λ (o : Option Pin). pinned_frame (cons_option o (filter_map (pin_now memory user_pages) new)) page)
    (pin_now_is memory user_pages p)
    ∙ by_test (is_page page p) refl (frame-new memory user_pages new page)
  where
    of_page : (o : Option FrameNo) → pinned_frame (filter_map (pin_now memory user_pages) new) page ≡ cond
        (list_any (is_page page) new) o None → pinned_frame
        (cons_option (made_pin page o) (filter_map (pin_now memory user_pages) new)) page ≡ o
    of_page (Some frame) rest = frame-cons (record { memory = page.memory; index = page.index; frame = frame })
        (filter_map (pin_now memory user_pages) new) page true (page_itself page)
    of_page None rest = rest ∙ none (list_any (is_page page) new)
      where
        none : (b : Bool) → cond b (let o : Option FrameNo = None in o) None ≡ None
        none true = refl
        none false = refl

    unlike : (o : Option FrameNo) → is_page p page ≡ false
        → pinned_frame (cons_option (made_pin p o) (filter_map (pin_now memory user_pages) new)) page ≡ pinned_frame
        (filter_map (pin_now memory user_pages) new) page
    unlike (Some frame) other = frame-cons (record { memory = p.memory; index = p.index; frame = frame })
        (filter_map (pin_now memory user_pages) new) page false other
    unlike None other = refl

    flipped : (a b : ObjectPage) → is_page a b ≡ false → is_page b a ≡ false
    flipped a b other = grind (arith, nat_tests)

    by_test : (b : Bool) → is_page page p ≡ b
        → pinned_frame (filter_map (pin_now memory user_pages) new) page ≡ cond (list_any (is_page page) new)
        (frame_now memory user_pages page) None
        → pinned_frame (cons_option (made_pin p (frame_now memory user_pages p))
        (filter_map (pin_now memory user_pages) new)) page ≡ cond (b
        || list_any (is_page page) new) (frame_now memory user_pages page) None
    by_test true same rest =
        let alike = same_page page p same in rw (← alike) (of_page (frame_now memory user_pages page) rest)
    by_test false other rest = unlike (frame_now memory user_pages p) (flipped page p other) ∙ rest

-- what becomes of a page's pin: whether the page was to be pinned before and is now, its frame then, and that of its
-- user now
abbrev pub settled_at : Bool → Bool → Option FrameNo → Option FrameNo → Option FrameNo
settled_at was is old now = first_some (cond is old None) (cond (is && not was) now None)

pub settled_frame : (before after : List ObjectPage) (memory : List MemoryObject) (user_pages : List UserPage)
    (pins : List Pin) (page : ObjectPage)
    → pinned_frame (settled before after memory user_pages pins) page ≡ settled_at (list_any (is_page page) before)
    (list_any (is_page page) after) (pinned_frame pins page) (frame_now memory user_pages page)
settled_frame before after memory user_pages pins page =
    frame-append (kept after pins) (filter_map (pin_now memory user_pages) (new_pages before after)) page
    ∙ rw (
      frame-kept (λ p. list_any (is_page p) after) pins page,
      frame-new memory user_pages (new_pages before after) page,
      any_kept (λ p. not (list_any (is_page p) before)) after page,
    )
    refl
