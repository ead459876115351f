-- Pages of memory objects, listed one object after the other.
use Rattle.std.proofs.Common.{◌≡◌, ◌<◌, ◌≤◌, ℕ, ◌+◌, ◌*◌, ◌^◌, Bool, true, false, cond, ◌&&◌, ◌||◌, not, eqb, leb}
use Rattle.std.proofs.Common.{is_none, is_some}
use Rattle.std.proofs.Common.{Option, Some, None, List, [], ◌∷◌, ◌++◌, length, map, find, get_or, drop, zero, suc}
use Rattle.std.proofs.Common.{refl, sym, ap, subst, ◌∙◌, arith, inl, inr}
use Rattle.std.specs.List.{cons_option, filter, filter_map, flat_map, list_all, list_any}
use Rattle.std.proofs.lemmas.Bool.{eqb-true}
use Rattle.std.proofs.lemmas.Bool.Decides.{nat_tests}
use Rattle.std.proofs.lemmas.List.{drop_more}
use Rattle.std.proofs.lemmas.List.Elements.{filter-append}
use Rattle.iofd_rows.proofs.Bools.{and_true, clash, not_true}
use Rattle.iofd_rows.proofs.Each.{IsIn, of_all, of_any, of_each}
use Rattle.iofd_rows.proofs.Found.{all_filter}
use Rattle.iofd_rows.specs.Pinned.{has_object, have_own_numbers}
use Rattle.iofd_runs.proofs.Accessed.{some_in}
use Rattle.iofd_runs.specs.Fits.{is_of_pages}
use Rattle.iofd_words.specs.Areas.{areas_of}
use Rattle.iofd_refusals.specs.Checks.{newly_pinned}
use Rattle.iofd_words.specs.Frames.{frame_at}
use Rattle.iofd_words.specs.Pins.{ObjectPage, are_present, frame_now, pages_of, pinned_frame, unpinned_pages}
use Rattle.iofd_words.specs.Span.{size_of}
use Rattle.iofd_words.specs.View.{view}
use Rattle.iofd_words.specs.World.{World}
use Rattle.iofd_words.specs.declared.numbers.FileNo.{FileNo}
use Rattle.iofd_words.specs.declared.numbers.FrameNo.{FrameNo}
use Rattle.iofd_words.specs.declared.numbers.ObjId.{ObjId}
use Rattle.iofd_words.specs.declared.numbers.UserNo.{UserNo}
use Rattle.iofd_words.specs.declared.rows.Area.{Area}
use Rattle.iofd_words.specs.declared.rows.MemoryObject.{MemoryObject}
use Rattle.iofd_words.specs.declared.rows.Pin.{Pin}
use Rattle.iofd_words.specs.declared.rows.UserPage.{UserPage}
use Rattle.journal_audit_maps.specs.Newly.{Gathers}
use Rattle.journal_audit_world.specs.Keys.{has_number, has_pair}
use Rattle.journal_audit_page_tables.specs.Listed.{Listed, has_few_pages, now_in, own_frame, pin_at, unpinned}
use Rattle.journal_audit_page_tables.specs.Listed.{unpinned_over}
use Rattle.journal_audit_page_tables.proofs.ListedPages.{listed_more, listed_none, listed_stop}
use Rattle.journal_audit_world.specs.Kept.{IsKept}

-- ---- rows of a list

in_at : {X : Type 0} (xs : List X) (i : ℕ) (d : X) → i < length xs → IsIn xs (get_or xs i d)
in_at [] i d within = absurd (omega (arith, within))
in_at (x ∷ xs) zero d within = inl refl
in_at (x ∷ xs) (suc i) d within = inr (in_at xs i d (omega (arith, within)))

drop_all : {X : Type 0} (xs : List X) (n : ℕ) → length xs ≤ n → drop n xs ≡ []
drop_all [] zero over = refl
drop_all [] (suc n) over = refl
drop_all (x ∷ xs) zero over = absurd (omega (arith, over))
drop_all (x ∷ xs) (suc n) over = drop_all xs n (omega (arith, over))

-- what is equal everywhere is equal
pub fun_alike : {X Y : Type 0} (f g : X → Y) → ((x : X) → f x ≡ g x) → f ≡ g
fun_alike f g same = λ i x. same x i

-- ---- memory objects by their numbers

flipped : (m n : ℕ) → eqb m n ≡ true → eqb n m ≡ true
flipped m n is = grind (arith, nat_tests)

-- no other one has the number
only_one : (memory : List MemoryObject) (m o : MemoryObject) → have_own_numbers memory ≡ true → IsIn memory m
    → IsIn memory o → eqb o.number m.number ≡ true → o ≡ m
only_one [] m o own here there is = absurd here
only_one (x ∷ memory) m o own (inl first) (inl second) is = sym second ∙ first
only_one (x ∷ memory) m o own (inl first) (inr there) is =
    let parts = and_true (not (list_any (λ (k : MemoryObject). eqb k.number x.number) memory)) (have_own_numbers memory)
    own in
    absurd (clash _ (not_true _ parts.0) (of_any (λ (k : MemoryObject). eqb k.number x.number) memory o there
    (ap (λ (k : MemoryObject). eqb o.number k.number) first ∙ is)))
only_one (x ∷ memory) m o own (inr here) (inl second) is =
    let parts = and_true (not (list_any (λ (k : MemoryObject). eqb k.number x.number) memory)) (have_own_numbers memory)
    own in
    absurd (clash _ (not_true _ parts.0) (of_any (λ (k : MemoryObject). eqb k.number x.number) memory m here
    (ap (λ (k : MemoryObject). eqb m.number k.number) second ∙ flipped o.number m.number is)))
only_one (x ∷ memory) m o own (inr here) (inr there) is =
    let parts = and_true (not (list_any (λ (k : MemoryObject). eqb k.number x.number) memory)) (have_own_numbers memory)
    own in
    only_one memory m o parts.1 here there is

-- so it is found by it
found_own : (memory : List MemoryObject) (m : MemoryObject) (n : ℕ) → have_own_numbers memory ≡ true → IsIn memory m
    → eqb n m.number ≡ true → find (λ (o : MemoryObject). eqb o.number n) memory ≡ Some m
found_own [] m n own here is = absurd here
found_own (x ∷ memory) m n own here is =
    let parts = and_true (not (list_any (λ (k : MemoryObject). eqb k.number x.number) memory)) (have_own_numbers memory)
    own in
    by_test (eqb x.number n) refl (λ later. found_own memory m n parts.1 later is)
  where
    joined : (a b c : ℕ) → eqb a b ≡ true → eqb b c ≡ true → eqb a c ≡ true
    joined a b c first second = grind (arith, nat_tests)

    left : (b : Bool) → eqb x.number n ≡ b → b ≡ false → IsIn (x ∷ memory) m → IsIn memory m
    left b is_b fails (inl same) = absurd (clash _ (is_b ∙ fails) (ap (λ (o : MemoryObject). eqb o.number n) same
        ∙ flipped n m.number is))
    left b is_b fails (inr later) = later

    by_test : (b : Bool) → eqb x.number n ≡ b
        → (IsIn memory m → find (λ (o : MemoryObject). eqb o.number n) memory ≡ Some m)
        → cond b (Some x) (find (λ (o : MemoryObject). eqb o.number n) memory) ≡ Some m
    by_test true passes later =
        ap (λ (o : MemoryObject). Some o)
        (only_one (x ∷ memory) m x own here (inl refl) (joined x.number n m.number passes is))
    by_test false fails later = later (left false fails refl here)

-- an area over it has its size
pub few_pages : (at : ℕ) (w : World) → IsKept at w → list_all has_few_pages w.memory ≡ true
few_pages at w kept = of_all has_few_pages w.memory (λ m within. few m within)
  where
    joined : (a b c : ℕ) → eqb a b ≡ true → eqb b c ≡ true → eqb a c ≡ true
    joined a b c first second = grind (arith, nat_tests)

    bounded : (count size : ℕ) → eqb (count * 4096) size ≡ true → leb size (2 ^ 48) ≡ true → leb count (2 ^ 52) ≡ true
    bounded count size is most =
        let same : count * 4096 ≡ size = eqb-true (count * 4096) size is in
        let low : size ≤ 2 ^ 48 = search (most, arith, nat_tests) in
        let few : count ≤ 2 ^ 52 = omega (arith, same, low) in
        search (few, arith, nat_tests)

    few : (m : MemoryObject) → IsIn w.memory m → has_few_pages m ≡ true
    few m within =
        let (area, among, over) = some_in (λ (a : Area). eqb a.memory m.number) w.areas
        (of_each (λ (m : MemoryObject). list_any (λ (a : Area). eqb a.memory m.number) w.areas) w.memory m
        kept.pins.used within) in
        let (o, there, sized) = some_in (λ (o : MemoryObject). eqb o.number area.memory
        && eqb (o.count * 4096) (size_of area.span)) w.memory
        (of_each (has_object w.memory) w.areas area kept.pins.sizes among) in
        let parts = and_true (eqb o.number area.memory) (eqb (o.count * 4096) (size_of area.span)) sized in
        let same : o ≡ m = only_one w.memory m o kept.pins.numbers within there
        (joined o.number area.memory m.number parts.0 over) in
        let pages = and_true _ (leb (size_of area.span) (2 ^ 48))
        (of_each is_of_pages w.areas area kept.fit.pages among) in
        bounded m.count (size_of area.span)
        (ap (λ (k : MemoryObject). eqb (k.count * 4096) (size_of area.span)) (sym same) ∙ parts.1) pages.1

-- ---- the frame that is looked up is the page's

module _ (f g : ObjectPage → Option FrameNo) (h : ObjectPage → Bool)
    (same : (page : ObjectPage) → h page ≡ true → f page ≡ g page) where
  present_same : (pages : List ObjectPage) → list_all h pages ≡ true → are_present f pages ≡ are_present g pages
  present_same [] all = refl
  present_same (page ∷ pages) all =
      let parts = and_true (h page) (list_all h pages) all in
      rw (same page parts.0, present_same pages parts.1) refl

  pins_same : (pages : List ObjectPage) → list_all h pages ≡ true
      → filter_map (pin_at f) pages ≡ filter_map (pin_at g) pages
  pins_same [] all = refl
  pins_same (page ∷ pages) all =
      let parts = and_true (h page) (list_all h pages) all in
      ap (λ (o : Option FrameNo). cons_option (elim o as (λ _. Option Pin) [
        | Some frame ↦ Some (record { memory = page.memory; index = page.index; frame = frame })
        | None ↦ None
      ]) (filter_map (pin_at f) pages)) (same page parts.0)
      ∙ ap (λ (ps : List Pin). cons_option (pin_at g page) ps) (pins_same pages parts.1)

  listed_same : (old new : List Pin) (whole : Bool) (pages : List ObjectPage) → list_all h pages ≡ true
      → Listed f old new whole pages → Listed g old new whole pages
  listed_same old new whole pages all listed = record {
    present = listed.present ∙ present_same pages all;
    pins = λ is. listed.pins is ∙ ap (λ (ps : List Pin). old ++ ps) (pins_same pages all);
  }

-- ---- one object after the other

own_pages : (keys : List (ℕ × ℕ)) (m : MemoryObject) (b : Bool)
    → list_all (λ (page : ObjectPage). eqb page.memory m.number) (cond b (unpinned keys (pages_of m)) []) ≡ true
own_pages keys m false = refl
own_pages keys m true =
    all_filter (λ (page : ObjectPage). eqb page.memory m.number)
    (λ (page : ObjectPage). not (has_pair keys page.memory page.index)) (pages_of m) (each _)
  where
    itself : eqb m.number m.number ≡ true
    itself = grind (arith, nat_tests)

    each : (is : List ℕ) → list_all (λ (page : ObjectPage). eqb page.memory m.number)
        (map (λ i. record { memory = m.number; index = i }) is) ≡ true
    each [] = refl
    each (i ∷ is) = rw (itself, each is) refl

module _ (fa : UserNo → ℕ → Option FrameNo) (numbers : List ℕ) (keys : List (ℕ × ℕ)) (memory : List MemoryObject) where
  -- who lists the pages of the memory objects that are left has listed all
  abbrev pub ListsLeft : ℕ → List Pin → Type 0
  ListsLeft i here = (end : List Pin) (whole : Bool)
      → Listed (now_in fa memory) here end whole (unpinned_over numbers keys (drop i memory))
      → Listed (now_in fa memory) [] end whole (unpinned_over numbers keys memory)

  module _ (i : ℕ) (d : MemoryObject) (within : i < length memory) (own : have_own_numbers memory ≡ true) where
    abbrev m : MemoryObject
    m = get_or memory i d

    abbrev here : Bool → List ObjectPage
    here b = cond b (unpinned keys (pages_of m)) []

    left_is : unpinned_over numbers keys (drop i memory)
        ≡ here (has_number numbers m.number) ++ unpinned_over numbers keys (drop (i + 1) memory)
    left_is =
        ap (λ (ms : List MemoryObject). unpinned_over numbers keys ms) (drop_more memory i d within)
        ∙ by_test (has_number numbers m.number)
      where
        rest : List MemoryObject
        rest = filter (λ (m : MemoryObject). has_number numbers m.number) (drop (i + 1) memory)

        by_test : (b : Bool) → unpinned keys (flat_map pages_of (cond b (m ∷ filter
            (λ (m : MemoryObject). has_number numbers m.number) (drop (i + 1) memory)) (filter
            (λ (m : MemoryObject). has_number numbers m.number) (drop (i + 1) memory))))
            ≡ here b ++ unpinned_over numbers keys (drop (i + 1) memory)
        by_test true = filter-append (λ (page : ObjectPage). not (has_pair keys page.memory page.index)) (pages_of m) _
        by_test false = refl

    own_now : (page : ObjectPage) → eqb page.memory m.number ≡ true → own_frame fa m page ≡ now_in fa memory page
    own_now page is =
        sym (ap (λ (o : Option MemoryObject). elim o as (λ _. Option FrameNo)
        [ Some m ↦ own_frame fa m page | None ↦ None ])
        (found_own memory m page.memory own (in_at memory i d within) is))

    told : (old new : List Pin) (whole b : Bool) → b ≡ has_number numbers m.number
        → Listed (own_frame fa m) old new whole (here b)
        → Listed (now_in fa memory) old new whole (here (has_number numbers m.number))
    told old new whole b is listed =
        listed_same (own_frame fa m) (now_in fa memory) (λ (page : ObjectPage). eqb page.memory m.number) own_now old
        new whole (here (has_number numbers m.number)) (own_pages keys m (has_number numbers m.number))
        (subst (λ (b : Bool). Listed (own_frame fa m) old new whole (here b)) is listed)

    pub object_listed : (old new : List Pin) (whole b : Bool) → b ≡ has_number numbers m.number
        → Listed (own_frame fa m) old new whole (here b) → whole ≡ true → ListsLeft i old → ListsLeft (i + 1) new
    object_listed old new whole b is listed holds before end last rest =
        before end last (subst (λ (pages : List ObjectPage). Listed (now_in fa memory) old end last pages) (sym left_is)
        (listed_more (now_in fa memory) old new end last (here (has_number numbers m.number)) _
        (subst (λ (w : Bool). Listed (now_in fa memory) old new w (here (has_number numbers m.number))) holds
        (told old new whole b is listed)) rest))

    pub object_absent : (old new : List Pin) (whole b : Bool) → b ≡ has_number numbers m.number
        → Listed (own_frame fa m) old new whole (here b) → whole ≡ false → ListsLeft i old
        → are_present (now_in fa memory) (unpinned_over numbers keys memory) ≡ false
    object_absent old new whole b is listed fails before =
        sym (before new false (subst (λ (pages : List ObjectPage). Listed (now_in fa memory) old new false pages)
        (sym left_is) (listed_stop (now_in fa memory) old new (here (has_number numbers m.number)) _
        (subst (λ (w : Bool). Listed (now_in fa memory) old new w (here (has_number numbers m.number))) fails
        (told old new whole b is listed))))).present

  pub objects_end : (i : ℕ) (here : List Pin) → length memory ≤ i → ListsLeft i here
      → Listed (now_in fa memory) [] here true (unpinned_over numbers keys memory)
  objects_end i here past before =
      before here true (subst (λ (ms : List MemoryObject). Listed (now_in fa memory) here here true
      (unpinned_over numbers keys ms)) (sym (drop_all memory i past)) (listed_none (now_in fa memory) here))

-- so few pages end in time
pub ends_in_time : (memory : List MemoryObject) (i : ℕ) (d : MemoryObject) → i < length memory
    → list_all has_few_pages memory ≡ true → (get_or memory i d).count ≤ 2 ^ 52
ends_in_time memory i d within few =
    let is = of_each has_few_pages memory (get_or memory i d) few (in_at memory i d within) in
    low (get_or memory i d).count is
  where
    low : (n : ℕ) → leb n (2 ^ 52) ≡ true → n ≤ 2 ^ 52
    low n is = search (is, arith, nat_tests)

-- ---- what the lists say of the world

lacks_is : (now : ObjectPage → Option FrameNo) (pages : List ObjectPage)
    → list_any (λ page. is_none (now page)) pages ≡ not (are_present now pages)
lacks_is now [] = refl
lacks_is now (page ∷ pages) = by_frame (now page) (lacks_is now pages)
  where
    by_frame : (o : Option FrameNo) → list_any (λ page. is_none (now page)) pages ≡ not (are_present now pages)
        → (is_none o || list_any (λ page. is_none (now page)) pages) ≡ not (is_some o && are_present now pages)
    by_frame None rest = refl
    by_frame (Some frame) rest = rest

module _ (fa : UserNo → ℕ → Option FrameNo) (numbers : List ℕ) (keys : List (ℕ × ℕ)) (areas : List Area)
    (pins : List Pin) (memory : List MemoryObject) (user_pages : List UserPage) (file : FileNo) (ioas : ObjId)
    (frames_are : (user : UserNo) (page : ℕ) → fa user page ≡ frame_at user_pages user page)
    (keys_are : (page : ObjectPage) → has_pair keys page.memory page.index ≡ is_some (pinned_frame pins page))
    (numbers_are : (n : ℕ) → has_number numbers n
    ≡ list_any (λ (a : Area). eqb a.memory n) (areas_of areas file ioas)) where
  abbrev pages_told : List ObjectPage
  pages_told = unpinned_pages (pinned_frame pins) (filter (λ (m : MemoryObject).
      list_any (λ (a : Area). eqb a.memory m.number) (areas_of areas file ioas)) memory)

  pages_are : unpinned_over numbers keys memory ≡ pages_told
  pages_are =
      ap (λ (q : MemoryObject → Bool). unpinned keys (flat_map pages_of (filter q memory)))
      (fun_alike (λ (m : MemoryObject). has_number numbers m.number) (λ (m : MemoryObject).
      list_any (λ (a : Area). eqb a.memory m.number) (areas_of areas file ioas)) (λ m. numbers_are m.number))
      ∙ ap (λ (q : ObjectPage → Bool). filter q (flat_map pages_of (filter (λ (m : MemoryObject).
      list_any (λ (a : Area). eqb a.memory m.number) (areas_of areas file ioas)) memory)))
      (fun_alike (λ (page : ObjectPage). not (has_pair keys page.memory page.index))
      (λ (page : ObjectPage). is_none (pinned_frame pins page))
      (λ page. ap not (keys_are page) ∙ unpinned_is (pinned_frame pins page)))
    where
      unpinned_is : (o : Option FrameNo) → not (is_some o) ≡ is_none o
      unpinned_is None = refl
      unpinned_is (Some frame) = refl

  now_is : now_in fa memory ≡ frame_now memory user_pages
  now_is = ap (λ (f : UserNo → ℕ → Option FrameNo). now_in f memory)
      (fun_alike fa (frame_at user_pages) (λ user. fun_alike (fa user) (frame_at user_pages user) (frames_are user)))

  absent_told : are_present (now_in fa memory) (unpinned_over numbers keys memory) ≡ false
      → Gathers false memory user_pages pages_told [] []
  absent_told lacks =
      let here : are_present (frame_now memory user_pages) pages_told ≡ false = rw (← now_is, ← pages_are) lacks in
      lacks_is (frame_now memory user_pages) pages_told ∙ ap not here

  found_told : (found : List Pin) → Listed (now_in fa memory) [] found true (unpinned_over numbers keys memory)
      → Gathers true memory user_pages pages_told [] found
  found_told found listed =
      let here : Listed (frame_now memory user_pages) [] found true pages_told = rw (← now_is, ← pages_are) listed in (
        lacks_is (frame_now memory user_pages) pages_told ∙ ap not (sym here.present),
        here.pins refl,
      )

  module _ (w : World) (a : areas ≡ w.areas) (p : pins ≡ w.pins) (m : memory ≡ w.memory)
      (u : user_pages ≡ w.user_pages) where
    pub none_gathered : are_present (now_in fa memory) (unpinned_over numbers keys memory) ≡ false
        → Gathers false w.memory w.user_pages (newly_pinned (view w) file ioas) [] []
    none_gathered lacks = rw (← a, ← p, ← m, ← u) (absent_told lacks)

    pub all_gathered : (found : List Pin)
        → Listed (now_in fa memory) [] found true (unpinned_over numbers keys memory)
        → Gathers true w.memory w.user_pages (newly_pinned (view w) file ioas) [] found
    all_gathered found listed = rw (← a, ← p, ← m, ← u) (found_told found listed)
