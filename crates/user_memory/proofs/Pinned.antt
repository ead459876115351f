-- Pins more on several objects, after memory was taken for their frames.
use Rattle.std.proofs.Common.{◌≡◌, ℕ, ◌+◌, ◌^◌, ◌<◌, ◌≤◌, Bool, true, false, cond, eqb, leb, not, Option, Some, None}
use Rattle.std.proofs.Common.{List, [], ◌∷◌, map, length, refl, sym, ap, ◌∙◌, subst, arith}
use Rattle.std.specs.List.{filter, list_all, list_any}
use Rattle.std.proofs.lemmas.Bool.{and_parts, eq-eqb, eqb-true, le-leb, not-false, or_left, or_parts, or_right}
use Rattle.iofd_words.specs.declared.numbers.UserNo.{UserNo}
use Rattle.iofd_words.specs.declared.rows.MemoryObject.{MemoryObject}
use Rattle.iofd_words.specs.declared.rows.UserPage.{UserPage}
use Rattle.frame_memory.specs.Pool.{FramePool, may_hold}
use Rattle.frame_memory.specs.UserPages.{are_within}
use Rattle.mem_account.specs.Accounts.{held_by, is_user, limit_of}
use Rattle.mem_account.specs.declared.Account.{Account}
use Rattle.memory_objects.specs.Backed.{CanPin, Fits, HoldsMove}
use Rattle.memory_objects.specs.Invariant.{MemoryInvariant}
use Rattle.memory_objects.specs.Objects.{MemoryEntry, MemoryGrows, SamePins, all_pass, all_pinned, can_pin, has_memory}
use Rattle.memory_objects.specs.Objects.{have_areas, is_of, new_pages, object_at, passes, pinned_more, row_of, rows_of}
use Rattle.memory_objects.specs.Objects.{access_pins_on, times_of, with_capacity, with_pages}
use Rattle.pinned_pages.specs.Pages.{new_count}
use Rattle.memory_objects.proofs.FramesSeen.{rows_pinned}
use Rattle.memory_objects.proofs.OneObject.{all_changed, sum_by-map, times_more}
use Rattle.memory_objects.proofs.PinOne.{found_number}
use Rattle.user_memory.specs.Changes.{HasPins, SameObjects, Settles}
use Rattle.user_memory.specs.Invariant.{AccountsTell, ObjectsTell, is_kept}
use Rattle.user_memory.specs.Memory as memory
use Rattle.user_memory.specs.Memory.{IsBacked, are_of, areas_in, lacks_page, newly_pinned, pins_in}
use Rattle.user_memory.specs.Memory.{rows_at, table_pins}
use Rattle.user_memory.proofs.Counts.{newly_told}
use Rattle.user_memory.proofs.Follow.{few_new, pages_within, room_for_pins}
use Rattle.user_memory.proofs.Found.{found_passes, own_numbers}
use Rattle.user_memory.proofs.Kept.{more_kept}
use Rattle.user_memory.proofs.Moves.{accounts_stay, all_mapped, all_own, has_user}
use Rattle.user_memory.proofs.Settled.{StepOf, access_moved, mapped_at, memory_of, moved, pinned_settles, settle}
use Rattle.user_memory.proofs.Users.{limits_of, room_seen}

-- ---- memory for frames

module _ (rows : List UserPage) (limits : List ℕ) (old grown : List MemoryEntry) (grows : MemoryGrows old grown) where
  abbrev grow : MemoryEntry → MemoryEntry
  grow o = with_capacity (grows.capacity o) o

  pub grown_at : (k : ℕ) → object_at grown k ≡ moved grow (object_at old k)
  grown_at k = ap (λ xs. object_at xs k) grows.objects ∙ mapped_at grow (λ o. refl) old k

  pub grown_areas : (k : ℕ) → areas_in (object_at grown k) ≡ areas_in (object_at old k)
  grown_areas k = ap areas_in (grown_at k) ∙ by_object (object_at old k)
    where
      by_object : (a : Option MemoryEntry) → areas_in (moved grow a) ≡ areas_in a
      by_object None = refl
      by_object (Some o) = refl

  pub grown_pins : (k : ℕ) → pins_in (object_at grown k) ≡ pins_in (object_at old k)
  grown_pins k = ap pins_in (grown_at k) ∙ by_object (object_at old k)
    where
      by_object : (a : Option MemoryEntry) → pins_in (moved grow a) ≡ pins_in a
      by_object None = refl
      by_object (Some o) = refl

  pub grown_access : (k i : ℕ) → access_pins_on grown k i ≡ access_pins_on old k i
  grown_access k i =
      ap (λ xs. access_pins_on xs k i) grows.objects ∙ access_moved grow (λ o. refl) (λ o i. refl) old k i

  -- a test that doesn't look at the memory
  pub grown_all : (p : MemoryEntry → Bool) → ((o : MemoryEntry) → p o ≡ true → p (grow o) ≡ true)
      → list_all p old ≡ true → list_all p grown ≡ true
  grown_all p same all = let P : List MemoryEntry → Type 0 =
      λ xs. list_all p xs ≡ true in subst P (sym grows.objects) (all_mapped p p grow same old all)

  pub grown_pass : (p : MemoryEntry → Bool) → ((o : MemoryEntry) → p o ≡ true → p (grow o) ≡ true) → (numbers : List ℕ)
      → all_pass p old numbers ≡ true → all_pass p grown numbers ≡ true
  grown_pass p same numbers all = let P : List MemoryEntry
      → Type 0 = λ xs. all_pass p xs numbers ≡ true in subst P (sym grows.objects)
      (all_changed grow (λ o. refl) p same old numbers all)

  pub grown_new : (numbers : List ℕ) → new_pages grown numbers ≡ new_pages old numbers
  grown_new numbers = ap (λ xs. new_pages xs numbers) grows.objects
      ∙ sum_by-map (λ (o : MemoryEntry). cond (list_any (λ n. eqb n o.number) numbers) (new_count o.pages.pages) 0) grow
      old

  pub grown_told : ObjectsTell old → MemoryInvariant grown → ObjectsTell grown
  grown_told told kept = record { memory = kept; kept = grown_all is_kept (λ o h. h) told.kept }

  pub grown_tell : (accounts : List Account) → AccountsTell accounts old → SamePins old grown → MemoryInvariant grown
      → AccountsTell accounts grown
  grown_tell accounts tell same kept = accounts_stay accounts old grown tell same.pinned
      (grown_all (has_user accounts) (λ o h. h) tell.users) (grown_told tell.told kept)

  pub grown_same : rows_of grown ≡ rows_of old → SamePins old grown → MemoryInvariant grown
      → SameObjects (memory_of rows limits old) (memory_of rows limits grown)
  grown_same rows_are same kept = record {
    rows = rows_are;
    frames = λ page. same.frames page.memory page.index;
    areas = grown_areas;
    pins = grown_pins;
    access = λ page. same.access page.memory page.index;
    named = same.pins;
    kept = kept;
  }

  pub step_before : (k i : ℕ) (b : Option MemoryEntry) → StepOf rows (object_at grown k) b i
      → StepOf rows (object_at old k) b i
  step_before k i b step = by_object (object_at old k) (let P : Option MemoryEntry
      → Type 0 = λ a. StepOf rows a b i in subst P (grown_at k) step)
    where
      by_object : (a : Option MemoryEntry) → StepOf rows (moved grow a) b i → StepOf rows a b i
      by_object None h = h
      by_object (Some o) h = h

-- ---- pins more

pub passes_one : (test : MemoryEntry → Bool) (objects : List MemoryEntry) (n : ℕ) (ns : List ℕ)
    → all_pass test objects ns ≡ true → eqb (times_of n ns) 0 ≡ false → passes test (object_at objects n) ≡ true
passes_one test objects n [] all some = cc
passes_one test objects n (m ∷ ns) all some =
    let parts = and_parts (passes test (object_at objects m)) (all_pass test objects ns) all in
    by_test (eqb m n) refl (times_more n m ns) parts.0 (passes_one test objects n ns parts.1)
  where
    by_test : (b : Bool) → eqb m n ≡ b → times_of n (m ∷ ns) ≡ cond b 1 0 + times_of n ns
        → passes test (object_at objects m) ≡ true
        → (eqb (times_of n ns) 0 ≡ false → passes test (object_at objects n) ≡ true)
        → passes test (object_at objects n) ≡ true
    by_test true is times here later =
        let P : ℕ → Type 0 = λ k. passes test (object_at objects k) ≡ true in subst P (eqb-true m n is) here
    by_test false is times here later = later (sym (ap (λ k. eqb k 0) (times ∙ omega arith)) ∙ some)

module _ (rows : List UserPage) (old : List MemoryEntry) (told : ObjectsTell old) (numbers : List ℕ)
    (ready : all_pass (can_pin rows) old numbers ≡ true) where
  abbrev pub pin_more : MemoryEntry → MemoryEntry
  pin_more o = with_pages (pinned_more rows (times_of o.number numbers) o.pages.pages) o

  ready_at : (k : ℕ) (o : MemoryEntry) → object_at old k ≡ Some o → eqb (times_of o.number numbers) 0 ≡ false
      → can_pin rows o ≡ true
  ready_at k o is some =
      let number = found_number old k o is in
      let P : Option MemoryEntry → Type 0 = λ a. passes (can_pin rows) a ≡ true in
      subst P (ap (object_at old) number ∙ is) (passes_one (can_pin rows) old o.number numbers ready some)

  pub pin_kept : list_all is_kept (all_pinned rows numbers old) ≡ true
  pin_kept = all_mapped (λ o. is_kept (pin_more o)) is_kept pin_more (λ o h. h) old
      (all_own old is_kept (λ o. is_kept (pin_more o)) one old (own_numbers old told.memory.rising) told.kept)
    where
      one : (o : MemoryEntry) → object_at old o.number ≡ Some o → is_kept o ≡ true → is_kept (pin_more o) ≡ true
      one o own kept = more_kept rows o (times_of o.number numbers) kept (ready_at o.number o own)

  pub pin_steps : (k i : ℕ) → StepOf rows (object_at old k) (object_at (all_pinned rows numbers old) k) i
  pin_steps k i =
      let P : Option MemoryEntry → Type 0 = λ b. StepOf rows (object_at old k) b i in
      subst P (sym (mapped_at pin_more (λ o. refl) old k)) (by_object (object_at old k) refl)
    where
      by_object : (a : Option MemoryEntry) → object_at old k ≡ a → StepOf rows a (moved pin_more a) i
      by_object None is = refl
      by_object (Some o) is = pinned_settles rows o (found_passes is_kept old k o told.kept is) i
          (times_of o.number numbers) (ready_at k o is)

  pub pin_areas : (k : ℕ) → areas_in (object_at (all_pinned rows numbers old) k) ≡ areas_in (object_at old k)
  pin_areas k = ap areas_in (mapped_at pin_more (λ o. refl) old k) ∙ by_object (object_at old k)
    where
      by_object : (a : Option MemoryEntry) → areas_in (moved pin_more a) ≡ areas_in a
      by_object None = refl
      by_object (Some o) = refl

  pub pin_pins : (k : ℕ) → pins_in (object_at old k) + times_of k numbers ≤ areas_in (object_at old k)
      → pins_in (object_at (all_pinned rows numbers old) k) ≡ pins_in (object_at old k) + times_of k numbers
  pin_pins k room = ap pins_in (mapped_at pin_more (λ o. refl) old k) ∙ by_object (object_at old k) refl
    where
      by_object : (a : Option MemoryEntry) → object_at old k ≡ a
          → pins_in (moved pin_more a) ≡ pins_in a + times_of k numbers
      by_object None is = let areas = ap areas_in is in omega (arith, room, areas)
      by_object (Some o) is =
          let number = found_number old k o is in ap (λ m. o.pages.pages.table_pins + times_of m numbers) number

  pub pin_access : (k i : ℕ) → access_pins_on (all_pinned rows numbers old) k i ≡ access_pins_on old k i
  pin_access k i = access_moved pin_more (λ o. refl) (λ o i. refl) old k i

-- ---- what a pin asks

-- the objects of these numbers can be pinned, if the areas over them are many enough
pub record ArePinnable (objects : List MemoryEntry) (numbers : List ℕ) (rows : List UserPage) (pool_holds : List ℕ)
    (accounts : List Account) : Type 0 where
  pub within : are_within rows pool_holds ≡ true
  pub present : all_pass (can_pin rows) objects numbers ≡ true
  pub memory : all_pass has_memory objects numbers ≡ true
  pub fits : Fits objects numbers accounts
  pub holds : may_hold pool_holds (new_pages objects numbers) ≡ true

module _ (rows : List UserPage) (accounts : List Account) (old : List MemoryEntry) (tell : AccountsTell accounts old)
    (numbers : List ℕ) where
  none_lack : (ns : List ℕ) → list_any (lacks_page (memory_of rows (limits_of accounts) old)) ns ≡ false
      → all_pass (can_pin rows) old ns ≡ true
  none_lack [] none = refl
  none_lack (n ∷ ns) none =
      let parts = or_parts (not (passes (can_pin rows) (object_at old n)))
      (list_any (lacks_page (memory_of rows (limits_of accounts) old)) ns) none in
      let here = not-false (passes (can_pin rows) (object_at old n)) parts.0 in
      rw here (none_lack ns parts.1)

  row_passes : (p t : MemoryObject → Bool) (objects : List MemoryEntry) (k : ℕ) (x : MemoryEntry)
      → list_all p (filter t (rows_of objects)) ≡ true → object_at objects k ≡ Some x → t (row_of x) ≡ true
      → p (row_of x) ≡ true
  row_passes p t [] k x all is test = cc
  row_passes p t (o ∷ objects) k x all is test =
      by_test (eqb o.number k) is (t (row_of o)) refl all (λ rest later. row_passes p t objects k x rest later test)
    where
      by_test : (b : Bool) → cond b (Some o) (object_at objects k) ≡ Some x → (c : Bool) → t (row_of o) ≡ c
          → list_all p (cond c (row_of o ∷ filter t (rows_of objects)) (filter t (rows_of objects))) ≡ true
          → (list_all p (filter t (rows_of objects)) ≡ true → object_at objects k ≡ Some x → p (row_of x) ≡ true)
          → p (row_of x) ≡ true
      by_test true here true one all rest =
          let same : o ≡ x = cc in
          let parts = and_parts (p (row_of o)) (list_all p (filter t (rows_of objects))) all in
          ap (λ y. p (row_of y)) (sym same) ∙ parts.0
      by_test true here false one all rest =
          let same : o ≡ x = cc in
          let no_test = sym one ∙ ap (λ y. t (row_of y)) same ∙ test in
          cc
      by_test false later true one all rest =
          let parts = and_parts (p (row_of o)) (list_all p (filter t (rows_of objects))) all in rest parts.1 later
      by_test false later false one all rest = rest all later

  own_all : (user : UserNo) (ns : List ℕ) → ((n : ℕ) → list_any (λ m. eqb m n) ns ≡ true
      → list_any (λ m. eqb m n) numbers ≡ true)
      → are_of user (rows_at (memory_of rows (limits_of accounts) old) numbers) ≡ true
      → all_pass (is_of user.0) old ns ≡ true
  own_all user [] within own = refl
  own_all user (n ∷ ns) within own =
      let first = within n (or_left (eqb n n) (list_any (λ m. eqb m n) ns) (eq-eqb n n refl)) in
      let here = by_object (object_at old n) refl first in
      rw here (own_all user ns (λ k there. within k (or_right (eqb n k) (list_any (λ m. eqb m k) ns) there)) own)
    where
      by_object : (a : Option MemoryEntry) → object_at old n ≡ a → list_any (λ m. eqb m n) numbers ≡ true
          → passes (is_of user.0) a ≡ true
      by_object None is first = refl
      by_object (Some x) is first =
          let number = found_number old n x is in
          row_passes (λ row. eqb row.user.0 user.0) (λ row. list_any (λ m. eqb m row.number) numbers) old n x own is
          (ap (λ k. list_any (λ m. eqb m k) numbers) number ∙ first)

  areas_room : ((k : ℕ) → pins_in (object_at old k) + times_of k numbers ≤ areas_in (object_at old k))
      → have_areas numbers old ≡ true
  areas_room room = all_own old is_kept (λ o. leb (o.pages.pages.table_pins + times_of o.number numbers) o.areas) one
      old (own_numbers old tell.told.memory.rising) tell.told.kept
    where
      one : (o : MemoryEntry) → object_at old o.number ≡ Some o → is_kept o ≡ true
          → leb (o.pages.pages.table_pins + times_of o.number numbers) o.areas ≡ true
      one o own kept =
          let pins = ap pins_in own in
          let areas = ap areas_in own in
          let here = room o.number in
          le-leb (o.pages.pages.table_pins + times_of o.number numbers) o.areas (omega (arith, pins, areas, here))

  pub ready_old : list_any (lacks_page (memory_of rows (limits_of accounts) old)) numbers ≡ false
      → all_pass (can_pin rows) old numbers ≡ true
  ready_old none = none_lack numbers none

  pub pinnable : (grown : List MemoryEntry) (user : UserNo) (holds : List ℕ) → MemoryGrows old grown
      → MemoryInvariant grown → all_pass has_memory grown numbers ≡ true
      → are_of user (rows_at (memory_of rows (limits_of accounts) old) numbers) ≡ true
      → list_any (lacks_page (memory_of rows (limits_of accounts) old)) numbers ≡ false
      → memory.has_room (memory_of rows (limits_of accounts) old) user
      (newly_pinned (memory_of rows (limits_of accounts) old) numbers) ≡ true
      → IsBacked (memory_of rows (limits_of accounts) old) holds → length rows < 2 ^ 64 → length grown < 2 ^ 64
      → ArePinnable grown numbers rows holds accounts
  pinnable grown user holds grows kept reserved own present room backed few_pages few_objects =
      let m = memory_of rows (limits_of accounts) old in
      let newly = newly_told m numbers tell.told in
      let both = sym (room_seen rows accounts old user tell (newly_pinned m numbers)) ∙ room in
      let parts = and_parts (is_user accounts user.0)
      (leb (held_by accounts user.0 + newly_pinned m numbers) (limit_of accounts user.0)) both in
      let fewer = few_new old numbers tell.told.kept in
      let same = grown_new rows (limits_of accounts) old grown grows numbers in
      let long : length grown ≡ length old = grown_length in
      record {
        within = pages_within rows holds (λ f. let least = backed.least f in omega (arith, least));
        present = grown_pass rows (limits_of accounts) old grown grows (can_pin rows) (λ o h. h) numbers
            (none_lack numbers present);
        memory = reserved;
        fits = record {
          user = user.0;
          known = parts.0;
          own = grown_pass rows (limits_of accounts) old grown grows (is_of user.0) (λ o h. h) numbers
              (own_all user numbers (λ n h. h) own);
          room = ap (λ k. leb (held_by accounts user.0 + k) (limit_of accounts user.0)) (same ∙ sym newly) ∙ parts.1;
        };
        holds = room_for_pins m holds (new_pages grown numbers) backed tell.told.kept few_pages
            (omega (arith, few_objects, long)) (omega (arith, same, fewer));
      }
    where
      map_length : (G : MemoryEntry → MemoryEntry) (xs : List MemoryEntry) → length (map G xs) ≡ length xs
      map_length G [] = refl
      map_length G (x ∷ xs) = let rest = map_length G xs in omega (arith, rest)

      grown_length : length grown ≡ length old
      grown_length = ap length grows.objects ∙ map_length (λ o. with_capacity (grows.capacity o) o) old

  pub pin_allowed : (grown : List MemoryEntry) (holds : List ℕ) → MemoryGrows old grown
      → ArePinnable grown numbers rows holds accounts
      → ((k : ℕ) → pins_in (object_at old k) + times_of k numbers ≤ areas_in (object_at old k))
      → CanPin grown numbers rows holds accounts
  pin_allowed grown holds grows may areas =
      record {
        within = may.within;
        present = may.present;
        memory = may.memory;
        fits = may.fits;
        holds = may.holds;
        areas = grown_all rows (limits_of accounts) old grown grows
            (λ o. leb (o.pages.pages.table_pins + times_of o.number numbers) o.areas) (λ o h. h) (areas_room areas);
      }

-- ---- the whole

module _ (rows : List UserPage) (limits after_limits : List ℕ) (old grown : List MemoryEntry)
    (grows : MemoryGrows old grown) (told : ObjectsTell grown) (numbers : List ℕ)
    (ready : all_pass (can_pin rows) grown numbers ≡ true) where
  pub pin_more_pins : rows_of grown ≡ rows_of old
      → ((k : ℕ) → pins_in (object_at old k) + times_of k numbers ≤ areas_in (object_at old k))
      → HasPins (λ n. times_of n numbers) (memory_of rows limits old)
      (memory_of rows after_limits (all_pinned rows numbers grown))
  pin_more_pins rows_are room = record {
    rows = rows_pinned rows numbers grown ∙ rows_are;
    areas = λ k. pin_areas rows grown told numbers ready k ∙ grown_areas rows limits old grown grows k;
    pins = λ k.
        let pins = grown_pins rows limits old grown grows k in
        let areas = grown_areas rows limits old grown grows k in
        let here = room k in
        let more = pin_pins rows grown told numbers ready k (omega (arith, pins, areas, here)) in
        omega (arith, more, pins);
    access = λ page. pin_access rows grown told numbers ready page.memory page.index
        ∙ grown_access rows limits old grown grows page.memory page.index;
  }

  pub pin_settles : (before after : FramePool) → after_limits ≡ limits → MemoryInvariant old → SamePins old grown
      → HoldsMove grown (all_pinned rows numbers grown) before after → MemoryInvariant (all_pinned rows numbers grown)
      → Settles (memory_of rows limits old) (memory_of rows after_limits (all_pinned rows numbers grown)) before after
  pin_settles before after same_limits was same move kept =
      settle rows limits after_limits old (all_pinned rows numbers grown) before after same_limits was.rising
      (λ k i. step_before rows limits old grown grows k i (object_at (all_pinned rows numbers grown) k)
      (pin_steps rows grown told numbers ready k i))
      move.count (λ frame. let holds = move.holds frame in let pins = same.pins frame in omega (arith, holds, pins))
      move.bytes kept
