-- Pins that were listed by what is found at the cost of a logarithm, as the definitions name them.
use Rattle.std.proofs.Common.{◌≡◌, ◌<◌, ◌≤◌, ℕ, suc, ◌+◌, ◌*◌, ◌^◌, Bool, true, false, cond, ◌&&◌, ◌||◌, not, eqb}
use Rattle.std.proofs.Common.{◌-◌, leb, ltb, is_none, is_some, Option, Some, None, List, [], ◌∷◌, ◌++◌, length, map, find}
use Rattle.std.proofs.Common.{append-nil, refl, sym, ap, subst, ◌∙◌, arith}
use Rattle.std.specs.BTreeMap.{BTreeMap}
use Rattle.std.specs.List.{cons_option, filter, filter_map, list_all, list_any, range_with_len}
use Rattle.std.proofs.lemmas.Bool.{eqb-true}
use Rattle.std.proofs.lemmas.Bool.Decides.{nat_tests}
use Rattle.iofd_rows.proofs.Bools.{and_true, both_true, clash, not_true}
use Rattle.iofd_rows.proofs.Found.{find-filter, none_both}
use Rattle.iofd_rows.proofs.ListTests.{none_stronger, or_left, or_right}
use Rattle.iofd_rows.proofs.PageLists.{in_pages, kept_page, page_itself}
use Rattle.iofd_rows.specs.Pinned.{has_object, have_own_numbers}
use Rattle.iofd_words.specs.Frames.{frame_at, has_pages}
use Rattle.iofd_words.specs.Pages.{page_of}
use Rattle.iofd_words.specs.Pins.{ObjectPage, are_present, frame_now, is_page, page_of_pin, pages_of, pinned_frame}
use Rattle.iofd_words.specs.Pins.{unpinned_pages}
use Rattle.iofd_words.specs.Span.{size_of}
use Rattle.iofd_words.specs.declared.numbers.FrameNo.{FrameNo}
use Rattle.iofd_words.specs.declared.numbers.UserNo.{UserNo}
use Rattle.iofd_words.specs.declared.rows.Area.{Area}
use Rattle.iofd_words.specs.declared.rows.MemoryObject.{MemoryObject}
use Rattle.iofd_words.specs.declared.rows.Pin.{Pin}
use Rattle.iofd_words.specs.declared.rows.UserPage.{UserPage}
use Rattle.journal_audit.specs.Own.{is_row_of}
use Rattle.journal_audit_world.specs.Keys.{has_pair}
use Rattle.journal_audit_page_tables.specs.PageSets.{frame_in}
use Rattle.journal_audit_page_tables.specs.Listed.{Listed, own_frame, pin_at, unpinned}

-- ---- frames that are found alike

abbrev FoundAlike : (ObjectPage → Option FrameNo) → (ObjectPage → Option FrameNo) → List ObjectPage → Type 0
FoundAlike f g pages = (page : ObjectPage) → list_any (is_page page) pages ≡ true → f page ≡ g page

alike_later : (f g : ObjectPage → Option FrameNo) (page : ObjectPage) (pages : List ObjectPage)
    → FoundAlike f g (page ∷ pages) → FoundAlike f g pages
alike_later f g page pages same other within = same other (or_right (is_page other page) _ within)

alike_first : (f g : ObjectPage → Option FrameNo) (page : ObjectPage) (pages : List ObjectPage)
    → FoundAlike f g (page ∷ pages) → f page ≡ g page
alike_first f g page pages same = same page (or_left (is_page page page) _ (page_itself page))

present_alike : (f g : ObjectPage → Option FrameNo) (pages : List ObjectPage) → FoundAlike f g pages
    → are_present f pages ≡ are_present g pages
present_alike f g [] same = refl
present_alike f g (page ∷ pages) same =
    ap (λ (o : Option FrameNo). is_some o && are_present f pages) (alike_first f g page pages same)
    ∙ ap (λ (b : Bool). is_some (g page) && b) (present_alike f g pages (alike_later f g page pages same))

pub pins_alike : (f g : ObjectPage → Option FrameNo) (pages : List ObjectPage) → FoundAlike f g pages
    → filter_map (pin_at f) pages ≡ filter_map (pin_at g) pages
pins_alike f g [] same = refl
pins_alike f g (page ∷ pages) same =
    ap (λ (o : Option FrameNo). cons_option (elim o as (λ _. Option Pin) [
      | Some frame ↦ Some (record { memory = page.memory; index = page.index; frame = frame })
      | None ↦ None
    ]) (filter_map (pin_at f) pages)) (alike_first f g page pages same)
    ∙ ap (λ (pins : List Pin). cons_option (pin_at g page) pins)
    (pins_alike f g pages (alike_later f g page pages same))

listed_alike : (f g : ObjectPage → Option FrameNo) (old new : List Pin) (whole : Bool) (pages : List ObjectPage)
    → FoundAlike f g pages → Listed f old new whole pages → Listed g old new whole pages
listed_alike f g old new whole pages same listed = record {
  present = listed.present ∙ present_alike f g pages same;
  pins = λ holds. listed.pins holds ∙ ap (λ (pins : List Pin). old ++ pins) (pins_alike f g pages same);
}

-- ---- what a list says where it ends, and where it doesn't

pub absent_listed : (now : ObjectPage → Option FrameNo) (old new : List Pin) (whole : Bool) (pages : List ObjectPage)
    → whole ≡ false → Listed now old new whole pages → are_present now pages ≡ false
absent_listed now old new whole pages fails listed = sym listed.present ∙ fails

pub whole_listed : (now : ObjectPage → Option FrameNo) (old new : List Pin) (whole : Bool) (pages : List ObjectPage)
    → whole ≡ true → Listed now old new whole pages → Listed now old new true pages
whole_listed now old new whole pages holds listed =
    subst (λ (b : Bool). Listed now old new b pages) holds listed

-- as many pins as pages
pub listed_long : (now : ObjectPage → Option FrameNo) (pages : List ObjectPage) → are_present now pages ≡ true
    → length (filter_map (pin_at now) pages) ≡ length pages
listed_long now [] there = refl
listed_long now (page ∷ pages) there =
    let parts = and_true (is_some (now page)) (are_present now pages) there in
    by_frame (now page) parts.0 (listed_long now pages parts.1)
  where
    by_frame : (o : Option FrameNo) → is_some o ≡ true → length (filter_map (pin_at now) pages) ≡ length pages
        → length (cons_option (elim o as (λ _. Option Pin) [
          | Some frame ↦ Some (record { memory = page.memory; index = page.index; frame = frame })
          | None ↦ None
        ]) (filter_map (pin_at now) pages)) ≡ suc (length pages)
    by_frame None there rest = cc
    by_frame (Some frame) there rest = ap suc rest

-- some page isn't there just where not all are
pub absent_is : (now : ObjectPage → Option FrameNo) (pages : List ObjectPage)
    → list_any (λ page. is_none (now page)) pages ≡ not (are_present now pages)
absent_is now [] = refl
absent_is now (page ∷ pages) = by_frame (now page) (absent_is now pages)
  where
    by_frame : (o : Option FrameNo) → list_any (λ page. is_none (now page)) pages ≡ not (are_present now pages)
        → (is_none o || list_any (λ page. is_none (now page)) pages) ≡ not (is_some o && are_present now pages)
    by_frame None rest = refl
    by_frame (Some frame) rest = rest

-- ---- a memory object that comes

-- a page of it is found among the rows of its pages
page_among : (m : MemoryObject) (user_pages : List UserPage) (index : ℕ) → ltb index m.count ≡ true
    → frame_at (filter (is_row_of m) user_pages) m.user (page_of m.va + index)
    ≡ frame_at user_pages m.user (page_of m.va + index)
page_among m user_pages index below =
    ap (λ (o : Option UserPage). elim o as (λ _. Option FrameNo) [ Some row ↦ Some row.frame | None ↦ None ])
    (find-filter (λ (row : UserPage). eqb row.user.0 m.user.0 && eqb row.page (page_of m.va + index)) (is_row_of m)
    user_pages
    (none_both (λ (row : UserPage). eqb row.user.0 m.user.0 && eqb row.page (page_of m.va + index)) (is_row_of m)
    user_pages (λ row is. within row (and_true (eqb row.user.0 m.user.0) _ is))))
  where
    within : (row : UserPage)
        → (eqb row.user.0 m.user.0 ≡ true) × (eqb row.page (page_of m.va + index) ≡ true) → is_row_of m row ≡ true
    within row (own, here) = both_true _ _ (both_true _ _ own (low row.page (page_of m.va) here))
        (high row.page (page_of m.va) here)
      where
        low : (page first : ℕ) → eqb page (first + index) ≡ true → leb first page ≡ true
        low page first is =
            let same : page ≡ first + index = eqb-true page (first + index) is in
            let less : first ≤ page = omega (arith, same) in search (less, arith, nat_tests)

        high : (page first : ℕ) → eqb page (first + index) ≡ true → ltb (page - first) m.count ≡ true
        high page first is =
            let same : page ≡ first + index = eqb-true page (first + index) is in
            let less : index < m.count = search (below, arith, nat_tests) in
            let left : page - first < m.count = omega (arith, same, less) in search (left, arith, nat_tests)

-- the same of the pins of a memory object
pin_among : (number : ℕ) (pins : List Pin) (page : ObjectPage) → page.memory ≡ number
    → pinned_frame (filter (λ pin. eqb pin.memory number) pins) page ≡ pinned_frame pins page
pin_among number pins page is =
    ap (λ (o : Option Pin). elim o as (λ _. Option FrameNo) [ Some pin ↦ Some pin.frame | None ↦ None ])
    (find-filter (λ (pin : Pin). is_page (page_of_pin pin) page) (λ pin. eqb pin.memory number) pins
    (none_both (λ (pin : Pin). is_page (page_of_pin pin) page) (λ pin. eqb pin.memory number) pins
    (λ pin same. ap (eqb pin.memory) (sym is)
    ∙ (and_true (eqb pin.memory page.memory) (eqb pin.index page.index) same).0)))

pub new_listed : (frames : BTreeMap (ℕ × ℕ) FrameNo) (user_pages rows seen : List UserPage) (keys : List (ℕ × ℕ))
    (m : MemoryObject) (old new : List Pin) (whole : Bool) → keys ≡ [] → old ≡ []
    → rows ≡ filter (is_row_of m) user_pages → seen ≡ rows
    → ((user : UserNo) (page : ℕ) → frame_in frames user page ≡ frame_at seen user page)
    → Listed (own_frame (frame_in frames) m) old new whole (unpinned keys (pages_of m))
    → Listed (own_frame (frame_at user_pages) m) [] new whole (pages_of m)
new_listed frames user_pages rows seen keys m old new whole none empty rows_are seen_is found listed =
    listed_alike (own_frame (frame_in frames) m) (own_frame (frame_at user_pages) m) [] new whole (pages_of m)
    (λ page within. found m.user (page_of m.va + page.index)
    ∙ ap (λ (rs : List UserPage). frame_at rs m.user (page_of m.va + page.index)) (seen_is ∙ rows_are)
    ∙ page_among m user_pages page.index (and_true (eqb page.memory m.number) (ltb page.index m.count)
    (sym (in_pages page m.number m.count) ∙ within)).1)
    (subst (λ (pages : List ObjectPage). Listed (own_frame (frame_in frames) m) [] new whole pages)
    (ap (λ (ks : List (ℕ × ℕ)). unpinned ks (pages_of m)) none ∙ all_kept (pages_of m))
    (subst (λ (pins : List Pin). Listed (own_frame (frame_in frames) m) pins new whole (unpinned keys (pages_of m)))
    empty listed))
  where
    all_kept : (pages : List ObjectPage) → unpinned [] pages ≡ pages
    all_kept [] = refl
    all_kept (page ∷ pages) = ap (λ (rest : List ObjectPage). page ∷ rest) (all_kept pages)

-- its pages are those of its user
pub new_present : (user_pages : List UserPage) (m : MemoryObject)
    → are_present (own_frame (frame_at user_pages) m) (pages_of m)
    ≡ has_pages (frame_at user_pages) m.user (page_of m.va) m.count
new_present user_pages m = each (range_with_len 0 m.count)
  where
    each : (indexes : List ℕ) → are_present (own_frame (frame_at user_pages) m)
        (map (λ i. let page : ObjectPage = record { memory = m.number; index = i } in page) indexes)
        ≡ list_all (λ i. is_some (frame_at user_pages m.user (page_of m.va + i))) indexes
    each [] = refl
    each (i ∷ indexes) =
        ap (λ (b : Bool). is_some (frame_at user_pages m.user (page_of m.va + i)) && b) (each indexes)

-- ---- a memory object that there is

-- the object of a number is the only one
one_object : (memory : List MemoryObject) (number : ℕ) (m : MemoryObject) → have_own_numbers memory ≡ true
    → find (λ (o : MemoryObject). eqb o.number number) memory ≡ Some m
    → filter (λ (o : MemoryObject). eqb o.number number) memory ≡ m ∷ []
one_object [] number m own found = cc
one_object (o ∷ memory) number m own found =
    let owns =
    and_true (not (list_any (λ (x : MemoryObject). eqb x.number o.number) memory)) (have_own_numbers memory) own in
    by_test (eqb o.number number) refl found (not_true _ owns.0) (one_object memory number m owns.1)
  where
    nothing : (rows : List MemoryObject) → list_any (λ (x : MemoryObject). eqb x.number number) rows ≡ false
        → filter (λ (x : MemoryObject). eqb x.number number) rows ≡ []
    nothing [] none = refl
    nothing (x ∷ rows) none = by_first (eqb x.number number) none (nothing rows)
      where
        by_first : (b : Bool) → (b || list_any (λ (x : MemoryObject). eqb x.number number) rows) ≡ false
            → (list_any (λ (x : MemoryObject). eqb x.number number) rows ≡ false
            → filter (λ (x : MemoryObject). eqb x.number number) rows ≡ [])
            → cond b (x ∷ filter (λ (x : MemoryObject). eqb x.number number) rows)
            (filter (λ (x : MemoryObject). eqb x.number number) rows) ≡ []
        by_first true none rest = cc
        by_first false none rest = rest none

    by_test : (b : Bool) → eqb o.number number ≡ b
        → cond b (Some o) (find (λ (x : MemoryObject). eqb x.number number) memory) ≡ Some m
        → list_any (λ (x : MemoryObject). eqb x.number o.number) memory ≡ false
        → (find (λ (x : MemoryObject). eqb x.number number) memory ≡ Some m
        → filter (λ (x : MemoryObject). eqb x.number number) memory ≡ m ∷ [])
        → cond b (o ∷ filter (λ (x : MemoryObject). eqb x.number number) memory)
        (filter (λ (x : MemoryObject). eqb x.number number) memory) ≡ m ∷ []
    by_test true is found none rest =
        let same : o ≡ m = cc in
        let number_is : o.number ≡ number = eqb-true o.number number is in
        ap (λ (l : List MemoryObject). o ∷ l) (nothing memory
        (ap (λ (n : ℕ). list_any (λ (x : MemoryObject). eqb x.number n) memory) (sym number_is) ∙ none))
        ∙ ap (λ (x : MemoryObject). x ∷ []) same
    by_test false is found none rest = rest found

-- there is none of a number
no_object : (memory : List MemoryObject) (number : ℕ)
    → find (λ (o : MemoryObject). eqb o.number number) memory ≡ None
    → filter (λ (o : MemoryObject). eqb o.number number) memory ≡ []
no_object [] number none = refl
no_object (o ∷ memory) number none = by_test (eqb o.number number) none (no_object memory number)
  where
    by_test : (b : Bool) → cond b (Some o) (find (λ (x : MemoryObject). eqb x.number number) memory) ≡ None
        → (find (λ (x : MemoryObject). eqb x.number number) memory ≡ None
        → filter (λ (x : MemoryObject). eqb x.number number) memory ≡ [])
        → cond b (o ∷ filter (λ (x : MemoryObject). eqb x.number number) memory)
        (filter (λ (x : MemoryObject). eqb x.number number) memory) ≡ []
    by_test true none rest = cc
    by_test false none rest = rest none

found_number : (memory : List MemoryObject) (number : ℕ) (m : MemoryObject)
    → find (λ (o : MemoryObject). eqb o.number number) memory ≡ Some m → eqb m.number number ≡ true
found_number [] number m found = cc
found_number (o ∷ memory) number m found = by_test (eqb o.number number) refl found (found_number memory number m)
  where
    by_test : (b : Bool) → eqb o.number number ≡ b
        → cond b (Some o) (find (λ (x : MemoryObject). eqb x.number number) memory) ≡ Some m
        → (find (λ (x : MemoryObject). eqb x.number number) memory ≡ Some m → eqb m.number number ≡ true)
        → eqb m.number number ≡ true
    by_test true is found rest = let same : o ≡ m = cc in ap (λ (x : MemoryObject). eqb x.number number) (sym same) ∙ is
    by_test false is found rest = rest found

pub none_shared : (pins : List Pin) (memory : List MemoryObject) (user_pages : List UserPage) (number : ℕ)
    (found : Option MemoryObject) (new : List Pin) → found ≡ find (λ (o : MemoryObject). eqb o.number number) memory
    → found ≡ None → new ≡ []
    → Listed (frame_now memory user_pages) [] new true
    (unpinned_pages (pinned_frame pins) (filter (λ (o : MemoryObject). eqb o.number number) memory))
none_shared pins memory user_pages number found new is none empty =
    subst (λ (rows : List MemoryObject). Listed (frame_now memory user_pages) [] new true
    (unpinned_pages (pinned_frame pins) rows)) (sym (no_object memory number (sym is ∙ none)))
    (record { present = refl; pins = λ holds. empty })

pub shared_listed : (frames : BTreeMap (ℕ × ℕ) FrameNo) (user_pages rows seen : List UserPage) (keys : List (ℕ × ℕ))
    (pins own among : List Pin) (memory : List MemoryObject) (number : ℕ) (m : MemoryObject)
    (found : Option MemoryObject) (old new : List Pin) (whole : Bool) → have_own_numbers memory ≡ true
    → found ≡ find (λ (o : MemoryObject). eqb o.number number) memory → found ≡ Some m → old ≡ []
    → own ≡ filter (λ pin. eqb pin.memory number) pins → among ≡ own
    → ((page : ObjectPage) → has_pair keys page.memory page.index ≡ is_some (pinned_frame among page))
    → rows ≡ filter (is_row_of m) user_pages → seen ≡ rows
    → ((user : UserNo) (page : ℕ) → frame_in frames user page ≡ frame_at seen user page)
    → Listed (own_frame (frame_in frames) m) old new whole (unpinned keys (pages_of m))
    → Listed (frame_now memory user_pages) [] new whole
    (unpinned_pages (pinned_frame pins) (filter (λ (o : MemoryObject). eqb o.number number) memory))
shared_listed frames user_pages rows seen keys pins own among memory number m found old new whole numbers is some empty
    own_are among_is pinned rows_are seen_is frame listed =
    subst (λ (pages : List ObjectPage). Listed (frame_now memory user_pages) [] new whole pages) (sym pages_are)
    (listed_alike (own_frame (frame_in frames) m) (frame_now memory user_pages) [] new whole
    (unpinned keys (pages_of m)) same
    (subst (λ (rows : List Pin). Listed (own_frame (frame_in frames) m) rows new whole (unpinned keys (pages_of m)))
    empty listed))
  where
    here : find (λ (o : MemoryObject). eqb o.number number) memory ≡ Some m
    here = sym is ∙ some

    number_is : m.number ≡ number
    number_is = eqb-true m.number number (found_number memory number m here)

    flipped : (o : Option FrameNo) → is_none o ≡ not (is_some o)
    flipped None = refl
    flipped (Some frame) = refl

    known : (page : ObjectPage) → page.memory ≡ number
        → has_pair keys page.memory page.index ≡ is_some (pinned_frame pins page)
    known page of = pinned page
        ∙ ap (λ (ps : List Pin). is_some (pinned_frame ps page)) (among_is ∙ own_are)
        ∙ ap is_some (pin_among number pins page of)

    kept_alike : (pages : List ObjectPage)
        → ((page : ObjectPage) → list_any (is_page page) pages ≡ true → page.memory ≡ number)
        → filter (λ page. is_none (pinned_frame pins page)) pages ≡ unpinned keys pages
    kept_alike [] own = refl
    kept_alike (page ∷ pages) own =
        ap (λ (b : Bool). cond b (page ∷ filter (λ page. is_none (pinned_frame pins page)) pages)
        (filter (λ page. is_none (pinned_frame pins page)) pages))
        (flipped (pinned_frame pins page)
        ∙ ap not (sym (known page (own page (or_left (is_page page page) _ (page_itself page))))))
        ∙ ap (λ (rest : List ObjectPage). cond (not (has_pair keys page.memory page.index)) (page ∷ rest) rest)
        (kept_alike pages (λ other within. own other (or_right (is_page other page) _ within)))

    named : (page : ObjectPage) → list_any (is_page page) (pages_of m) ≡ true
        → (page.memory ≡ m.number) × (ltb page.index m.count ≡ true)
    named page within =
        let parts = and_true (eqb page.memory m.number) (ltb page.index m.count)
        (sym (in_pages page m.number m.count) ∙ within) in
        (eqb-true page.memory m.number parts.0, parts.1)

    pages_are : unpinned_pages (pinned_frame pins) (filter (λ (o : MemoryObject). eqb o.number number) memory)
        ≡ unpinned keys (pages_of m)
    pages_are =
        ap (λ (rows : List MemoryObject). unpinned_pages (pinned_frame pins) rows)
        (one_object memory number m numbers here)
        ∙ ap (λ (pages : List ObjectPage). filter (λ page. is_none (pinned_frame pins page)) pages)
        (append-nil (pages_of m))
        ∙ kept_alike (pages_of m) (λ page within. (named page within).0 ∙ number_is)

    same : (page : ObjectPage) → list_any (is_page page) (unpinned keys (pages_of m)) ≡ true
        → own_frame (frame_in frames) m page ≡ frame_now memory user_pages page
    same page within =
        let inside = kept_page (λ page. not (has_pair keys page.memory page.index)) (pages_of m) page within in
        let parts = named page inside.0 in
        let found_m : find (λ (o : MemoryObject). eqb o.number page.memory) memory ≡ Some m =
        ap (λ (n : ℕ). find (λ (o : MemoryObject). eqb o.number n) memory) (parts.0 ∙ number_is) ∙ here in
        frame m.user (page_of m.va + page.index)
        ∙ ap (λ (rs : List UserPage). frame_at rs m.user (page_of m.va + page.index)) (seen_is ∙ rows_are)
        ∙ page_among m user_pages page.index parts.1
        ∙ ap (λ (o : Option MemoryObject). elim o as (λ _. Option FrameNo)
        [ Some x ↦ frame_at user_pages x.user (page_of x.va + page.index) | None ↦ None ]) (sym found_m)

-- ---- its pages end by page 2^64

sized : (memory : List MemoryObject) (number size : ℕ) (m : MemoryObject) → have_own_numbers memory ≡ true
    → find (λ (o : MemoryObject). eqb o.number number) memory ≡ Some m
    → list_any (λ (o : MemoryObject). eqb o.number number && eqb (o.count * 4096) size) memory ≡ true
    → m.count * 4096 ≡ size
sized [] number size m own found has = cc
sized (o ∷ memory) number size m own found has =
    let owns =
    and_true (not (list_any (λ (x : MemoryObject). eqb x.number o.number) memory)) (have_own_numbers memory) own in
    by_test (eqb o.number number) refl found has (not_true _ owns.0) (sized memory number size m owns.1)
  where
    by_test : (b : Bool) → eqb o.number number ≡ b
        → cond b (Some o) (find (λ (x : MemoryObject). eqb x.number number) memory) ≡ Some m
        → ((b && eqb (o.count * 4096) size)
        || list_any (λ (x : MemoryObject). eqb x.number number && eqb (x.count * 4096) size) memory) ≡ true
        → list_any (λ (x : MemoryObject). eqb x.number o.number) memory ≡ false
        → (find (λ (x : MemoryObject). eqb x.number number) memory ≡ Some m
        → list_any (λ (x : MemoryObject). eqb x.number number && eqb (x.count * 4096) size) memory ≡ true
        → m.count * 4096 ≡ size)
        → m.count * 4096 ≡ size
    by_test false is found has none rest = rest found has
    by_test true is found has none rest =
        let same : o ≡ m = cc in
        let number_is : o.number ≡ number = eqb-true o.number number is in
        let others : list_any (λ (x : MemoryObject). eqb x.number number && eqb (x.count * 4096) size) memory ≡ false =
        none_stronger (λ (x : MemoryObject). eqb x.number number && eqb (x.count * 4096) size)
        (λ (x : MemoryObject). eqb x.number number) memory
        (λ x both. (and_true (eqb x.number number) (eqb (x.count * 4096) size) both).0)
        (ap (λ (n : ℕ). list_any (λ (x : MemoryObject). eqb x.number n) memory) (sym number_is) ∙ none) in
        ap (λ (x : MemoryObject). x.count * 4096) (sym same)
        ∙ eqb-true (o.count * 4096) size (only (eqb (o.count * 4096) size) _ others has)
      where
        only : (a b : Bool) → b ≡ false → (a || b) ≡ true → a ≡ true
        only true b none some = refl
        only false b none some = absurd (clash b none some)

pub pages_end : (memory : List MemoryObject) (source : Area) (m : MemoryObject) (found : Option MemoryObject) (last : ℕ)
    → have_own_numbers memory ≡ true → has_object memory source ≡ true
    → found ≡ find (λ (o : MemoryObject). eqb o.number source.memory) memory → found ≡ Some m
    → last ≡ source.span.last → last < 2 ^ 64 → m.va < 2 ^ 64 → page_of m.va + m.count ≤ 2 ^ 64
pages_end memory source m found last own has is some ends below va =
    let size : m.count * 4096 ≡ size_of source.span =
    sized memory source.memory (size_of source.span) m own (sym is ∙ some) has in
    omega (arith, size, ends, below, va)
