-- A MAP's area comes over a new memory object: what it makes of the users' memory.
use Rattle.std.proofs.Common.{◌≡◌, ℕ, ◌+◌, ◌*◌, ◌<◌, ◌≤◌, Bool, true, false, cond, ◌&&◌, ◌||◌, eqb, ltb, Some, List, []}
use Rattle.std.proofs.Common.{◌∷◌, ◌++◌, refl, sym, ◌∙◌, ap, arith}
use Rattle.std.specs.Prelude.{if◌then◌else◌}
use Rattle.std.specs.List.{find, list_all, list_any, count_by}
use Rattle.std.proofs.lemmas.Bool.Decides.{nat_tests}
use Rattle.std.proofs.lemmas.List.Folds.{list_any-append}
use Rattle.frame_memory.specs.Pool.{FramePool}
use Rattle.iofd_rows.proofs.Bools.{and_true, both_true, or_none}
use Rattle.iofd_rows.proofs.Each.{IsIn, of_each}
use Rattle.iofd_rows.proofs.ListTests.{any_of_all, or_left}
use Rattle.iofd_rows.specs.Pinned.{has_object}
use Rattle.user_memory_rows.proofs.AccessStays.{PinsNext}
use Rattle.iofd_steps.specs.After.{mapped_area, memory_object, settle}
use Rattle.iofd_words.specs.Areas as world
use Rattle.iofd_words.specs.Frames.{frame_at}
use Rattle.iofd_words.specs.Objects.{has_hwpt}
use Rattle.iofd_words.specs.Pins.{ObjectPage}
use Rattle.iofd_words.specs.Span.{size_of}
use Rattle.iofd_words.specs.World.{World}
use Rattle.iofd_words.specs.declared.event.MapRequest.{MapRequest}
use Rattle.iofd_words.specs.declared.numbers.FileNo.{FileNo}
use Rattle.iofd_words.specs.declared.numbers.Iova.{Iova}
use Rattle.iofd_words.specs.declared.numbers.UserNo.{UserNo}
use Rattle.iofd_words.specs.declared.rows.Area.{Area}
use Rattle.iofd_words.specs.declared.rows.MemoryObject.{MemoryObject}
use Rattle.iofd_words.specs.declared.rows.Object.{Object}
use Rattle.event_map.proofs.AreaPinned.{Comes, world_with}
use Rattle.user_memory_rows.proofs.Counts.{count_with_area}
use Rattle.user_memory_rows.proofs.PinsFollow.{pins_follow, still_some}
use Rattle.user_memory_rows.specs.Shown.{PinsShown, has_page, translated, accessed}
use Rattle.user_memory.specs.Changes.{HasObject, Settles}
use Rattle.user_memory.specs.Memory.{Memory, access_pins, is_pinned, rows_of, table_pins}
use Rattle.server_state.specs.Held.{objects_in}
use Rattle.server_state.specs.Leads.{object_page}
use Rattle.server_state.specs.Shows.{Shows}
use Rattle.server_state.specs.Step.{IsTidy}
use Rattle.server_state.specs.declared.state.State.{State}
use Rattle.user_memory_rows.proofs.AccessCounts.{none_counted, unlisted_unpinned}
use Rattle.user_memory_rows.proofs.CountBy.{any_count}
use Rattle.iofd_runs.proofs.PagesToPin.{none_over}
use Rattle.std.proofs.lemmas.Bool.{eq-eqb, eqb-true}

-- ---- numbers

below_other : (n m : ℕ) → ltb n m ≡ true → eqb n m ≡ false
below_other n m low = grind (arith, nat_tests)

no_count : (n : ℕ) → ltb 0 n ≡ false → n ≡ 0
no_count n none = grind (arith, nat_tests)

grown : (n m k : ℕ) → m ≡ n + k → n ≤ m
grown n m k is = omega arith

one_more : (n m : ℕ) → m ≡ n + 1 → 0 < m
one_more n m is = omega arith

-- ---- numbers of memory objects

-- memory objects of areas that are there have lower numbers
old_number : (at : ℕ) (objects : List MemoryObject) (a : Area)
    → list_all (λ (m : MemoryObject). ltb m.number at) objects ≡ true → has_object objects a ≡ true
    → eqb a.memory at ≡ false
old_number at objects a made has =
    below_other a.memory at (said objects (any_of_all (λ (m : MemoryObject). ltb m.number at) (λ (m : MemoryObject). eqb m.number a.memory
    && eqb (m.count * 4096) (size_of a.span)) (λ m. ltb a.memory at) objects lower made has))
  where
    lower : (m : MemoryObject) → ltb m.number at ≡ true
        → (eqb m.number a.memory && eqb (m.count * 4096) (size_of a.span)) ≡ true → ltb a.memory at ≡ true
    lower m low is =
        let named = (and_true (eqb m.number a.memory) _ is).0 in
        let same = eqb-true m.number a.memory named in
        rw (← same) low

    said : (rows : List MemoryObject) → list_any (λ (m : MemoryObject). ltb a.memory at) rows ≡ true
        → ltb a.memory at ≡ true
    said [] some = cc
    said (m ∷ rows) some = by_test (ltb a.memory at) some (said rows)
      where
        by_test : (b : Bool) → (b || list_any (λ (m : MemoryObject). ltb a.memory at) rows) ≡ true
            → (list_any (λ (m : MemoryObject). ltb a.memory at) rows ≡ true → b ≡ true) → b ≡ true
        by_test true some later = refl
        by_test false some later = later some

-- the new row is the only one of its number
pub find_new : (at : ℕ) (rows : List MemoryObject) (row : MemoryObject)
    → list_all (λ (m : MemoryObject). ltb m.number at) rows ≡ true → eqb row.number at ≡ true
    → find (λ (m : MemoryObject). eqb m.number at) (rows ++ row ∷ []) ≡ Some row
find_new at [] row lower is = rw is refl
find_new at (m ∷ rows) row lower is =
    let parts = and_true (ltb m.number at) (list_all (λ (x : MemoryObject). ltb x.number at) rows) lower in
    let other = below_other m.number at parts.0 in
    rw other (find_new at rows row parts.1 is)

-- ---- the new object

-- the new area's pins: one where a page table translates it
module _ (at : ℕ) (w : World) (file : FileNo) (request : MapRequest) (iova : Iova) (user : UserNo) where
  abbrev pub area : Area
  area = mapped_area at file request iova

  abbrev pub object : MemoryObject
  object = memory_object at user request

  abbrev pub mapped_world : World
  mapped_world = world_with w area (w.memory ++ object ∷ [])

  -- pins of the memory objects follow
  pub mapped_shown : (kept after : Memory) (before_pool after_pool : FramePool) (translated_is : Bool) → IsTidy at w
      → PinsShown w.objects w.areas w.memory w.pins w.access_pins kept
      → PinsNext (at + 1) w mapped_world
      → ((u : UserNo) (page : ℕ) → frame_at w.user_pages u page ≡ frame_at kept.pages u page)
      → translated_is ≡ has_hwpt w.objects file request.ioas
      → HasObject (if translated_is then 1 else 0) object kept after → Settles kept after before_pool after_pool
      → PinsShown w.objects (world.with_area area w.areas) (w.memory ++ object ∷ []) mapped_world.pins w.access_pins
      after
  unfolding settle
  mapped_shown kept after before_pool after_pool translated_is tidy shown next pages is_translated has settles =
      pins_follow at (at + 1) w mapped_world kept after before_pool after_pool tidy.pins next.pins
      shown refl
      (λ u page. pages u page ∙ ap (λ p. frame_at p u page) (sym settles.pages))
      (ap (λ (rows : List MemoryObject). rows ++ object ∷ []) shown.rows ∙ sym has.rows)
      (λ n. has.areas n ∙ ap (λ k. k + cond (eqb at n) 1 0) (shown.areas n)
      ∙ sym (count_with_area (λ (a : Area). eqb a.memory n) area w.areas))
      (λ n. has.pins n ∙ ap (λ k. k + cond (eqb at n) (cond translated_is 1 0) 0) (shown.tables n)
      ∙ ap (λ k. translated w.objects w.areas n + k) (one n)
      ∙ sym (count_with_area (λ (a : Area). eqb a.memory n && has_hwpt w.objects a.file a.ioas) area w.areas))
      (λ page there. has.access page ∙ by_page page there (has_page w.memory page) refl) settles
    where
      -- no area lies over the new object yet
      new_uncovered : (page : ObjectPage) → has_page mapped_world.memory page ≡ true
          → has_page w.memory page ≡ false → accessed w.objects w.areas w.access_pins page ≡ 0
      new_uncovered page there none =
          let both = sym (list_any-append (λ (row : MemoryObject). eqb page.memory row.number
          && ltb page.index row.count) w.memory (object ∷ [])) ∙ there in
          none_counted w.objects w.areas w.access_pins page
          (uncounted page.memory (by_object (has_page w.memory page) (eqb page.memory at) _ both none))
        where
          by_object : (a b c : Bool) → (a || ((b && c) || false)) ≡ true → a ≡ false → b ≡ true
          by_object true b c is old = cc
          by_object false true c is old = refl
          by_object false false c is old = cc

          uncounted : (n : ℕ) → eqb n at ≡ true → count_by (λ (a : Area). eqb a.memory n) w.areas ≡ 0
          uncounted n is =
              let free = sym (any_count (λ (a : Area). eqb a.memory at) w.areas)
              ∙ none_over at w.areas w.memory tidy.pins.made tidy.pins.sizes in
              let zero = no_count (count_by (λ (a : Area). eqb a.memory at) w.areas) free in
              ap (λ (m : ℕ). count_by (λ (a : Area). eqb a.memory m) w.areas) (eqb-true n at is) ∙ zero

      by_page : (page : ObjectPage) → has_page mapped_world.memory page ≡ true → (b : Bool)
          → has_page w.memory page ≡ b
          → access_pins kept page ≡ accessed w.objects (world.with_area area w.areas) w.access_pins page
      by_page page there true old = shown.access page old ∙ sym (next.covered page there)
      by_page page there false none =
          unlisted_unpinned kept page shown.invariant
          (ap (λ (rows : List MemoryObject). has_page rows page) (sym shown.rows) ∙ none)
          ∙ sym (next.covered page there ∙ new_uncovered page there none)

      one : (n : ℕ) → cond (eqb at n) (cond translated_is 1 0) 0 ≡ cond {A = ℕ} (eqb at n
          && has_hwpt w.objects file request.ioas) 1 0
      one n = rw is_translated (both (eqb at n) (has_hwpt w.objects file request.ioas))
        where
          both : (b c : Bool) → cond b (cond c 1 0) 0 ≡ cond {A = ℕ} (b && c) 1 0
          both true c = refl
          both false c = refl

-- its area comes
module _ {A : Type 0} (at : ℕ) (w : World) (s : State A) (tidy : IsTidy at w) (shows : Shows w s) (file : FileNo)
    (request : MapRequest) (iova : Iova) (user : UserNo) (after : Memory) (pool : FramePool) (pinned : Bool)
    (next : PinsNext (at + 1) w (mapped_world at w file request iova user))
    (pinned_is : pinned ≡ has_hwpt (objects_in s.objects) file request.ioas)
    (has : HasObject (if pinned then 1 else 0) (object at w file request iova user) s.memory after)
    (settles : Settles s.memory after s.pool pool) where
  abbrev new_object : MemoryObject
  new_object = object at w file request iova user

  stays_pinned : (page : ObjectPage) → is_pinned s.memory page ≡ true → is_pinned after page ≡ true
  stays_pinned page is =
      let parts = and_true (has_page (rows_of s.memory) page) (ltb 0 (table_pins s.memory page.memory)
      || ltb 0 (access_pins s.memory page)) is in
      let pins = has.pins page.memory in
      both_true _ _
      (ap (λ (rows : List MemoryObject). has_page rows page) has.rows
      ∙ list_any-append (λ (row : MemoryObject). eqb page.memory row.number && ltb page.index row.count)
      (rows_of s.memory) (new_object ∷ []) ∙ or_left _ _ parts.0)
      (still_some (table_pins s.memory page.memory) (table_pins after page.memory) (access_pins s.memory page)
      (access_pins after page) (grown _ _ _ pins) (has.access page) parts.1)

  same_pages : (a : Area) → IsIn w.areas a → (page : ℕ)
      → has_page (rows_of after) (object_page page a) ≡ has_page (rows_of s.memory) (object_page page a)
  same_pages a within page =
      let other =
      old_number at w.memory a tidy.pins.made (of_each (has_object w.memory) w.areas a tidy.pins.sizes within) in
      ap (λ (rows : List MemoryObject). has_page rows (object_page page a)) has.rows
      ∙ list_any-append (λ (row : MemoryObject). eqb a.memory row.number && ltb (object_page page a).index row.count)
      (rows_of s.memory) (new_object ∷ [])
      ∙ rw other (or_none (has_page (rows_of s.memory) (object_page page a)))

  pub map_comes : Comes w s (area at w file request iova user) (w.memory ++ new_object ∷ []) after pool
  map_comes =
      record {
        pins =
            mapped_shown at w file request iova user s.memory after s.pool pool pinned tidy
            shows.pins next shows.users.pages
            (pinned_is ∙ ap (λ (objects : List Object). has_hwpt objects file request.ioas) (sym shows.objects.rows))
            has settles;
        settles = settles;
        stays = stays_pinned;
        grows = λ number. grown _ _ _ (has.pins number);
        same = same_pages;
      }

  -- it is found by its number, and pinned where a page table translates it
  pub new_found : find (λ (row : MemoryObject). eqb row.number at) (rows_of after) ≡ Some new_object
  new_found =
      let same = eq-eqb at at refl in
      ap (find (λ (row : MemoryObject). eqb row.number at)) has.rows
      ∙ find_new at (rows_of s.memory) new_object
      (ap (list_all (λ (m : MemoryObject). ltb m.number at)) (sym shows.pins.rows) ∙ tidy.pins.made) same

  pub new_pinned : pinned ≡ true → 0 < table_pins after at
  new_pinned translated =
      let same = eq-eqb at at refl in
      let pins : table_pins after at ≡ table_pins s.memory at + 1 = has.pins at ∙ rw (same, translated) refl in
      one_more _ _ pins
