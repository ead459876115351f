-- No page has two pins.
use Rattle.std.proofs.Common.{◌≡◌, ℕ, zero, suc, ◌+◌, ◌≤◌, Bool, true, false, cond, ◌&&◌, ◌||◌, not, eqb, Option, Some}
use Rattle.std.proofs.Common.{None, is_some, List, [], ◌∷◌, ◌++◌, map, refl, ap, ◌∙◌, arith}
use Rattle.std.specs.List.{filter, filter_map, list_all, list_any, range_with_len}
use Rattle.std.proofs.lemmas.Bool.Decides.{nat_tests}
use Rattle.std.proofs.lemmas.List.Folds.{list_any-append}
use Rattle.iofd_words.specs.Pins.{ObjectPage, is_page, page_of_pin, pin_now, frame_now, are_present, settled}
use Rattle.iofd_words.specs.declared.numbers.FrameNo.{FrameNo}
use Rattle.iofd_words.specs.declared.rows.MemoryObject.{MemoryObject}
use Rattle.iofd_words.specs.declared.rows.Pin.{Pin}
use Rattle.iofd_words.specs.declared.rows.UserPage.{UserPage}
use Rattle.iofd_rows.specs.Pinned.{differ}
use Rattle.iofd_rows.proofs.Bools.{and_true, both_false, both_true, clash, not_false, not_true, or_false}
use Rattle.iofd_rows.proofs.ListTests.{false_else, or_right}
use Rattle.iofd_rows.proofs.PageLists.{kept_page, page_itself, same_page}

-- ---- pages that differ

-- two lists of such pages, of which no page is in both
pub differ-append : (xs ys : List ObjectPage) → differ xs ≡ true → differ ys ≡ true
    → ((page : ObjectPage) → list_any (is_page page) xs ≡ true → list_any (is_page page) ys ≡ false)
    → differ (xs ++ ys) ≡ true
differ-append [] ys first second apart = second
differ-append (x ∷ xs) ys first second apart =
    let parts = and_true (not (list_any (is_page x) xs)) (differ xs) first in
    let here : list_any (is_page x) (x ∷ xs) ≡ true = rw (page_itself x) refl in
    let none = list_any-append (is_page x) xs ys ∙ both_false _ _ (not_true _ parts.0) (apart x here) in
    both_true _ _ (not_false _ none) (differ-append xs ys parts.1 second
    (λ page within. apart page (or_right (is_page page x) (list_any (is_page page) xs) within)))

pub differ-filter : (q : ObjectPage → Bool) (pages : List ObjectPage) → differ pages ≡ true
    → differ (filter q pages) ≡ true
differ-filter q [] is = refl
differ-filter q (page ∷ pages) is =
    let parts = and_true (not (list_any (is_page page) pages)) (differ pages) is in
    let none = false_else (list_any (is_page page) (filter q pages))
    (λ within. clash _ (not_true _ parts.0) (kept_page q pages page within).0) in
    kept (q page) none (differ-filter q pages parts.1)
  where
    kept : (b : Bool) → list_any (is_page page) (filter q pages) ≡ false → differ (filter q pages) ≡ true
        → differ (cond b (page ∷ filter q pages) (filter q pages)) ≡ true
    kept true none rest = both_true _ _ (not_false _ none) rest
    kept false none rest = rest

-- ---- the pages of one memory object

-- no index comes again above it
none_above : (memory low index count : ℕ) → low + 1 ≤ index
    → list_any (is_page (record { memory = memory; index = low }))
    (map (λ i. record { memory = memory; index = i }) (range_with_len index count)) ≡ false
none_above memory low index zero above = refl
none_above memory low index (suc count) above =
    let rest = none_above memory low (index + 1) count (omega (arith, above)) in
    let unlike : eqb low index ≡ false = grind (arith, nat_tests) in
    both_false (eqb memory memory && eqb low index) _ (rw unlike (never (eqb memory memory))) rest
  where
    never : (b : Bool) → (b && false) ≡ false
    never true = refl
    never false = refl

pub pages_differ : (memory first count : ℕ)
    → differ (map (λ i. record { memory = memory; index = i }) (range_with_len first count)) ≡ true
pages_differ memory first zero = refl
pages_differ memory first (suc count) = both_true _ _
    (not_false _ (none_above memory first (first + 1) count (omega arith))) (pages_differ memory (first + 1) count)

-- ---- pins

pub kept_pins_differ : (q : Pin → Bool) (pins : List Pin) → differ (map page_of_pin pins) ≡ true
    → differ (map page_of_pin (filter q pins)) ≡ true
kept_pins_differ q [] is = refl
kept_pins_differ q (pin ∷ pins) is =
    let parts = and_true (not (list_any (is_page (page_of_pin pin)) (map page_of_pin pins)))
    (differ (map page_of_pin pins)) is in
    kept (q pin) (none pins (page_of_pin pin) (not_true _ parts.0)) (kept_pins_differ q pins parts.1)
  where
    none : (ps : List Pin) (page : ObjectPage) → list_any (is_page page) (map page_of_pin ps) ≡ false
        → list_any (is_page page) (map page_of_pin (filter q ps)) ≡ false
    none [] page is = refl
    none (p ∷ ps) page is = by_test (q p) is (none ps page)
      where
        by_test : (b : Bool) → (is_page page (page_of_pin p) || list_any (is_page page) (map page_of_pin ps)) ≡ false
            → (list_any (is_page page) (map page_of_pin ps) ≡ false
            → list_any (is_page page) (map page_of_pin (filter q ps)) ≡ false)
            → list_any (is_page page) (map page_of_pin (cond b (p ∷ filter q ps) (filter q ps))) ≡ false
        by_test true here later = let tests = or_false (is_page page (page_of_pin p))
            (list_any (is_page page) (map page_of_pin ps)) here in both_false _ _ tests.0 (later tests.1)
        by_test false here later =
            later (or_false (is_page page (page_of_pin p)) (list_any (is_page page) (map page_of_pin ps)) here).1

    kept : (b : Bool) → list_any (is_page (page_of_pin pin)) (map page_of_pin (filter q pins)) ≡ false
        → differ (map page_of_pin (filter q pins)) ≡ true
        → differ (map page_of_pin (cond b (pin ∷ filter q pins) (filter q pins))) ≡ true
    kept true first rest = both_true _ _ (not_false _ first) rest
    kept false first rest = rest

-- the pages of new pins, in order, where each page is in its user's memory
new_pins : (memory : List MemoryObject) (user_pages : List UserPage) (pages : List ObjectPage)
    → are_present (frame_now memory user_pages) pages ≡ true
    → map page_of_pin (filter_map (pin_now memory user_pages) pages) ≡ pages
new_pins memory user_pages [] present = refl
new_pins memory user_pages (page ∷ pages) present =
    let parts = and_true (is_some (frame_now memory user_pages page))
    (are_present (frame_now memory user_pages) pages) present in
    by_frame (frame_now memory user_pages page) refl parts.0 (new_pins memory user_pages pages parts.1)
  where
    by_frame : (o : Option FrameNo) → frame_now memory user_pages page ≡ o → is_some o ≡ true
        → map page_of_pin (filter_map (pin_now memory user_pages) pages) ≡ pages
        → map page_of_pin (filter_map (pin_now memory user_pages) (page ∷ pages)) ≡ page ∷ pages
    by_frame (Some frame) now is rest = rw (now, pin_now, filter_map) (ap (λ rows. page ∷ rows) rest)
    by_frame None now is rest = cc

map-append : (xs ys : List Pin) → map page_of_pin (xs ++ ys) ≡ map page_of_pin xs ++ map page_of_pin ys
map-append [] ys = refl
map-append (x ∷ xs) ys = ap (λ rows. page_of_pin x ∷ rows) (map-append xs ys)

-- the pages of pins that stay were pinned before, and the new ones weren't
apart : (before after : List ObjectPage) (q : Pin → Bool) (pins : List Pin) (page : ObjectPage)
    → list_all (λ pin. list_any (is_page (page_of_pin pin)) before) pins ≡ true
    → list_any (is_page page) (map page_of_pin (filter q pins)) ≡ true
    → list_any (is_page page) (filter (λ p. not (list_any (is_page p) before)) after) ≡ false
apart before after q pins page only within =
    false_else _ (λ new. clash _ (not_true _ (kept_page (λ p. not (list_any (is_page p) before)) after page new).1)
    (was pins only within))
  where
    was : (ps : List Pin) → list_all (λ pin. list_any (is_page (page_of_pin pin)) before) ps ≡ true
        → list_any (is_page page) (map page_of_pin (filter q ps)) ≡ true → list_any (is_page page) before ≡ true
    was [] all is = cc
    was (p ∷ ps) all is =
        let parts = and_true (list_any (is_page (page_of_pin p)) before)
        (list_all (λ pin. list_any (is_page (page_of_pin pin)) before) ps) all in
        by_test (q p) is parts.0 (was ps parts.1)
      where
        by_page : (b : Bool) → is_page page (page_of_pin p) ≡ b
            → (b || list_any (is_page page) (map page_of_pin (filter q ps))) ≡ true
            → list_any (is_page (page_of_pin p)) before ≡ true
            → (list_any (is_page page) (map page_of_pin (filter q ps)) ≡ true → list_any (is_page page) before ≡ true)
            → list_any (is_page page) before ≡ true
        by_page true same here first later = let alike = same_page page (page_of_pin p) same in rw alike first
        by_page false same here first later = later here

        by_test : (b : Bool) → list_any (is_page page) (map page_of_pin (cond b (p ∷ filter q ps) (filter q ps))) ≡ true
            → list_any (is_page (page_of_pin p)) before ≡ true
            → (list_any (is_page page) (map page_of_pin (filter q ps)) ≡ true → list_any (is_page page) before ≡ true)
            → list_any (is_page page) before ≡ true
        by_test true here first later = by_page (is_page page (page_of_pin p)) refl here first later
        by_test false here first later = later here

-- after pins were settled no page has two
pub settled_once : (before after : List ObjectPage) (memory : List MemoryObject)
    (user_pages : List UserPage) (pins : List Pin)
    → differ (map page_of_pin pins) ≡ true
    → list_all (λ pin. list_any (is_page (page_of_pin pin)) before) pins ≡ true
    → differ after ≡ true
    → are_present (frame_now memory user_pages) (filter (λ page. not (list_any (is_page page) before)) after) ≡ true
    → differ (map page_of_pin (settled before after memory user_pages pins)) ≡ true
settled_once before after memory user_pages pins once only after_differ present =
    let stay = λ (pin : Pin). list_any (is_page (page_of_pin pin)) after in
    let new = filter (λ page. not (list_any (is_page page) before)) after in
    ap differ (map-append (filter stay pins) (filter_map (pin_now memory user_pages) new)
    ∙ ap (λ pages. map page_of_pin (filter stay pins) ++ pages) (new_pins memory user_pages new present))
    ∙ differ-append (map page_of_pin (filter stay pins)) new (kept_pins_differ stay pins once)
    (differ-filter (λ page. not (list_any (is_page page) before)) after after_differ)
    (λ page within. apart before after stay pins page only within)
