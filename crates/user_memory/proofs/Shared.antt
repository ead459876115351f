-- One area more over an object, with a pin or none.
use Rattle.std.proofs.Common.{◌≡◌, ℕ, ◌+◌, ◌<◌, ◌≤◌, Bool, true, false, ◌||◌, ◌^◌, cond, eqb, ltb, leb, Option}
use Rattle.std.proofs.Common.{Some, None, List, [], ◌∷◌, refl, sym, ap, ◌∙◌, subst, arith, ⊎_elim}
use Rattle.std.specs.List.{find, list_all, list_any}
use Rattle.std.specs.Option.{IfSome}
use Rattle.std.proofs.lemmas.Bool.{and_parts, cases_Bool, eqb-true, leb-true, le-leb, ltb-true, ne_eqb}
use Rattle.std.proofs.lemmas.Bool.Decides.{nat_tests}
use Rattle.iofd_words.specs.Copies.{is_writable}
use Rattle.iofd_words.specs.declared.rows.MemoryObject.{MemoryObject}
use Rattle.iofd_words.specs.declared.rows.UserPage.{UserPage}
use Rattle.frame_memory.specs.Pool.{FramePool, may_hold}
use Rattle.mem_account.specs.declared.Account.{Account}
use Rattle.mem_account.specs.Accounts.{has_room}
use Rattle.memory_objects.specs.Backed.{CanPin, HoldsMove}
use Rattle.memory_objects.specs.Invariant.{MemoryInvariant}
use Rattle.memory_objects.specs.Objects.{access_pins_on}
use Rattle.pinned_pages.specs.Pages.{frame_of, is_pinned}
use Rattle.memory_objects.specs.Objects.{MemoryEntry, MemoryGrows, SamePins, all_pass, all_pinned, are_rising, can_pin}
use Rattle.memory_objects.specs.Objects.{has_memory, is_of, new_pages, object_at, rows_of, times_of, with_area}
use Rattle.memory_objects.specs.Objects.{with_areas}
use Rattle.memory_objects.proofs.FramesSeen.{rows_pinned}
use Rattle.memory_objects.proofs.Numbered.{rising_parts}
use Rattle.memory_objects.proofs.OneObject.{all_changed, sum_by-map, times_one}
use Rattle.memory_objects.proofs.PinOne.{found_number}
use Rattle.pinned_pages.specs.Pages.{new_count}
use Rattle.user_memory.specs.Changes.{HasShare, Settles}
use Rattle.user_memory.specs.Invariant.{AccountsTell, ObjectsTell, is_kept}
use Rattle.user_memory.specs.Memory as memory
use Rattle.user_memory.specs.Memory.{Memory, areas_in, lacks_page, newly_pinned, pins_in}
use Rattle.user_memory.proofs.Found.{found_passes, not_pinned}
use Rattle.std.proofs.lemmas.List.Sums.{sum_by-cons}
use Rattle.user_memory.proofs.NewPages.{newly_by_number}
use Rattle.user_memory.proofs.Moves.{accounts_stay, all_mapped, has_areas, has_user}
use Rattle.user_memory.proofs.Pinned.{grown_access, pin_access, ArePinnable, grown_areas, grown_pins, pin_areas}
use Rattle.user_memory.proofs.Pinned.{pin_pins, pin_steps, step_before}
use Rattle.user_memory.proofs.Settled.{access_moved, StepOf, mapped_at, memory_of, moved, settle, stays}
use Rattle.iofd_words.specs.Frames.{frame_at}
use Rattle.iofd_words.specs.Pages.{page_of}

flipped : (a b : ℕ) → eqb a b ≡ eqb b a
flipped a b = grind (arith, nat_tests)

-- ---- whether it may be written

none_behind : (x : MemoryEntry) (objects : List MemoryEntry) (n : ℕ)
    → list_all (λ next. ltb x.number next.number) objects ≡ true → x.number ≡ n
    → is_writable (rows_of objects) n ≡ false
none_behind x [] n after same = refl
none_behind x (o ∷ objects) n after same =
    let parts = and_parts (ltb x.number o.number) (list_all (λ next. ltb x.number next.number) objects) after in
    let low = ltb-true x.number o.number parts.0 in
    let other : eqb o.number n ≡ false = ne_eqb o.number n (λ e. omega (arith, low, same, e)) in
    rw other (none_behind x objects n parts.1 same)

abbrev pub writable_of : Option MemoryObject → Bool
writable_of None = false
writable_of (Some row) = row.writable

or_none : (b : Bool) → (b || false) ≡ b
or_none true = refl
or_none false = refl

pub writable_found : (objects : List MemoryEntry) (n : ℕ) → are_rising objects ≡ true
    → is_writable (rows_of objects) n ≡ writable_of (find (λ (row : MemoryObject). eqb row.number n) (rows_of objects))
writable_found [] n rising = refl
writable_found (o ∷ objects) n rising =
    let parts = rising_parts o objects rising in
    ⊎_elim
    (λ (here : eqb o.number n ≡ true).
    let none = none_behind o objects n parts.0 (eqb-true o.number n here) in
    rw (here, none) (or_none o.pages.pages.writable))
    (λ (other : eqb o.number n ≡ false). rw other (writable_found objects n parts.1))
    (cases_Bool (eqb o.number n))

-- ---- an area more

pub room_there : (objects : List MemoryEntry) (n : ℕ) → areas_in (object_at objects n) + 1 < 2 ^ 64
    → IfSome (object_at objects n) (λ o. o.areas + 1 < 2 ^ 64)
room_there objects n few = by_object (object_at objects n) few
  where
    by_object : (a : Option MemoryEntry) → areas_in a + 1 < 2 ^ 64 → IfSome a (λ o. o.areas + 1 < 2 ^ 64)
    by_object None few = tt
    by_object (Some o) few = few

-- what is asked of one number is asked of a list of it
pub one_lacks : (m : Memory) (n : ℕ) → lacks_page m n ≡ false → list_any (lacks_page m) (n ∷ []) ≡ false
one_lacks m n has = rw has refl

pub one_new : (m : Memory) (n : ℕ) → ObjectsTell m.objects → newly_pinned m (n ∷ []) ≡ memory.new_pages m n
one_new m n told =
    let sum = sum_by-cons (memory.new_pages m) n [] in
    newly_by_number m (n ∷ []) told refl ∙ omega (arith, sum)

-- no object has more pins than areas
pub pins_few : (objects : List MemoryEntry) (k : ℕ) → MemoryInvariant objects
    → pins_in (object_at objects k) ≤ areas_in (object_at objects k)
pins_few objects k kept = by_object (object_at objects k) refl
  where
    by_object : (a : Option MemoryEntry) → object_at objects k ≡ a → pins_in a ≤ areas_in a
    by_object None is = omega arith
    by_object (Some o) is =
        let has = and_parts (leb 1 o.areas) (leb o.pages.pages.table_pins o.areas)
        (found_passes has_areas objects k o kept.areas is) in
        leb-true o.pages.pages.table_pins o.areas has.1

module _ (n : ℕ) (old new : List MemoryEntry) (is : new ≡ with_area n old) where
  abbrev share : MemoryEntry → MemoryEntry
  share o = with_areas (o.areas + cond (eqb o.number n) 1 0) o

  shared_at : (k : ℕ) → object_at new k ≡ moved share (object_at old k)
  shared_at k = ap (λ xs. object_at xs k) is ∙ mapped_at share (λ o. refl) old k

  pub shared_areas : 1 ≤ areas_in (object_at old n) → (k : ℕ)
      → areas_in (object_at new k) ≡ areas_in (object_at old k) + cond (eqb n k) 1 0
  shared_areas there k = ap areas_in (shared_at k) ∙ by_object (object_at old k) refl
    where
      by_object : (a : Option MemoryEntry) → object_at old k ≡ a
          → areas_in (moved share a) ≡ areas_in a + cond (eqb n k) 1 0
      by_object None none =
          let other : eqb n k ≡ false = ne_eqb n k (λ same. let gone = ap (λ m. areas_in (object_at old m)) same
          ∙ ap areas_in none in omega (arith, there, gone)) in
          rw other refl
      by_object (Some o) some =
          let number = found_number old k o some in
          ap (λ (b : Bool). o.areas + cond b 1 0) (flipped o.number n ∙ ap (eqb n) number)

  pub shared_pins : (k : ℕ) → pins_in (object_at new k) ≡ pins_in (object_at old k)
  shared_pins k = ap pins_in (shared_at k) ∙ by_object (object_at old k)
    where
      by_object : (a : Option MemoryEntry) → pins_in (moved share a) ≡ pins_in a
      by_object None = refl
      by_object (Some o) = refl

  -- a test that doesn't look at areas
  pub shared_all : (p : MemoryEntry → Bool) → ((o : MemoryEntry) → p o ≡ true → p (share o) ≡ true)
      → list_all p old ≡ true → list_all p new ≡ true
  shared_all p same all = let P : List MemoryEntry → Type 0 =
      λ xs. list_all p xs ≡ true in subst P (sym is) (all_mapped p p share same old all)

  pub shared_pass : (p : MemoryEntry → Bool) → ((o : MemoryEntry) → p o ≡ true → p (share o) ≡ true)
      → (numbers : List ℕ) → all_pass p old numbers ≡ true → all_pass p new numbers ≡ true
  shared_pass p same numbers all = let P : List MemoryEntry → Type 0 =
      λ xs. all_pass p xs numbers ≡ true in subst P (sym is) (all_changed share (λ o. refl) p same old numbers all)

  shared_new : (numbers : List ℕ) → new_pages new numbers ≡ new_pages old numbers
  shared_new numbers = ap (λ xs. new_pages xs numbers) is
      ∙ sum_by-map (λ (o : MemoryEntry). cond (list_any (λ m. eqb m o.number) numbers) (new_count o.pages.pages) 0)
      share old

  pub shared_told : ObjectsTell old → MemoryInvariant new → ObjectsTell new
  shared_told told kept = record { memory = kept; kept = shared_all is_kept (λ o h. h) told.kept }

  pub shared_tell : (accounts : List Account) → AccountsTell accounts old → SamePins old new → MemoryInvariant new
      → AccountsTell accounts new
  shared_tell accounts tell same kept = accounts_stay accounts old new tell same.pinned
      (shared_all (has_user accounts) (λ o h. h) tell.users) (shared_told tell.told kept)

  step_shared : (rows : List UserPage) (k i : ℕ) (b : Option MemoryEntry) → StepOf rows (object_at new k) b i
      → StepOf rows (object_at old k) b i
  step_shared rows k i b step = by_object (object_at old k) (let P : Option MemoryEntry
      → Type 0 = λ a. StepOf rows a b i in subst P (shared_at k) step)
    where
      by_object : (a : Option MemoryEntry) → StepOf rows (moved share a) b i → StepOf rows a b i
      by_object None h = h
      by_object (Some o) h = h

  -- the pages stay as they are
  shared_steps : (rows : List UserPage) → list_all is_kept old ≡ true → (k i : ℕ)
      → StepOf rows (object_at old k) (object_at new k) i
  shared_steps rows all k i =
      let P : Option MemoryEntry → Type 0 = λ b. StepOf rows (object_at old k) b i in
      subst P (sym (shared_at k)) (by_object (object_at old k) refl)
    where
      by_object : (a : Option MemoryEntry) → object_at old k ≡ a → StepOf rows a (moved share a) i
      by_object None none = refl
      by_object (Some o) some = stays (frame_of o.pages.pages i)
          (frame_at rows o.pages.pages.user (page_of o.pages.pages.va + i)) (is_pinned o.pages.pages i)
          (not_pinned o (found_passes is_kept old k o all some) i)

  pub shared_access : (k i : ℕ) → access_pins_on new k i ≡ access_pins_on old k i
  shared_access k i =
      ap (λ xs. access_pins_on xs k i) is ∙ access_moved share (λ o. refl) (λ o i. refl) old k i

  pub shared_more : (rows : List UserPage) (limits after_limits : List ℕ) → rows_of new ≡ rows_of old
      → 1 ≤ areas_in (object_at old n) → HasShare 0 n (memory_of rows limits old) (memory_of rows after_limits new)
  shared_more rows limits after_limits rows_are there = record {
    rows = rows_are;
    areas = shared_areas there;
    pins =
        λ k. let same = shared_pins k in by_test (eqb n k) (pins_in (object_at new k)) (pins_in (object_at old k)) same;
    access = λ page. shared_access page.memory page.index;
  }
    where
      by_test : (b : Bool) (x y : ℕ) → x ≡ y → x ≡ y + cond b 0 0
      by_test true x y same = omega (arith, same)
      by_test false x y same = omega (arith, same)

  pub shared_settles : (rows : List UserPage) (limits : List ℕ) (pool : FramePool) → ObjectsTell old → SamePins old new
      → MemoryInvariant new → Settles (memory_of rows limits old) (memory_of rows limits new) pool pool
  shared_settles rows limits pool told same kept =
      settle rows limits limits old new pool pool refl told.memory.rising (shared_steps rows told.kept) refl
      (λ frame. let pins = same.pins frame in omega (arith, pins)) refl kept

  -- with the area, one pin more has room
  pub shared_allowed : (rows : List UserPage) (holds : List ℕ) (accounts : List Account) → MemoryInvariant old
      → ArePinnable old (n ∷ []) rows holds accounts → CanPin new (n ∷ []) rows holds accounts
  shared_allowed rows holds accounts kept may =
      let same = shared_new (n ∷ []) in
      record {
        within = may.within;
        present = shared_pass (can_pin rows) (λ o h. h) (n ∷ []) may.present;
        memory = shared_pass has_memory (λ o h. h) (n ∷ []) may.memory;
        fits = record {
          user = may.fits.user;
          known = may.fits.known;
          own = shared_pass (is_of may.fits.user) (λ o h. h) (n ∷ []) may.fits.own;
          room = ap (λ k. has_room accounts may.fits.user k) same ∙ may.fits.room;
        };
        holds = ap (may_hold holds) same ∙ may.holds;
        areas =
            let P : List MemoryEntry → Type 0 =
            λ xs. list_all (λ o. leb (o.pages.pages.table_pins + times_of o.number (n ∷ [])) o.areas) xs ≡ true in
            subst P (sym is) (all_mapped has_areas (λ o. leb (o.pages.pages.table_pins + times_of o.number (n ∷ []))
            o.areas) share one old kept.areas);
      }
    where
      one : (o : MemoryEntry) → has_areas o ≡ true
          → leb (o.pages.pages.table_pins + times_of o.number (n ∷ [])) (o.areas + cond (eqb o.number n) 1 0) ≡ true
      one o has =
          let parts = and_parts (leb 1 o.areas) (leb o.pages.pages.table_pins o.areas) has in
          let low = leb-true o.pages.pages.table_pins o.areas parts.1 in
          let times = times_one o.number n ∙ ap (λ (b : Bool). cond {A = ℕ} b 1 0) (flipped n o.number) in
          le-leb (o.pages.pages.table_pins + times_of o.number (n ∷ [])) (o.areas + cond (eqb o.number n) 1 0)
          (omega (arith, low, times))

-- ---- with a pin, after memory was taken for the frames

module _ (rows : List UserPage) (limits after_limits : List ℕ) (n : ℕ) (old grown new : List MemoryEntry)
    (grows : MemoryGrows old grown) (is : new ≡ with_area n grown) (told : ObjectsTell new)
    (ready : all_pass (can_pin rows) new (n ∷ []) ≡ true) where
  pub pinned_more : rows_of grown ≡ rows_of old → rows_of new ≡ rows_of grown → 1 ≤ areas_in (object_at old n)
      → MemoryInvariant grown → HasShare 1 n (memory_of rows limits old)
      (memory_of rows after_limits (all_pinned rows (n ∷ []) new))
  pinned_more rows_grown rows_new there kept = record {
    rows = rows_pinned rows (n ∷ []) new ∙ rows_new ∙ rows_grown;
    areas = λ k.
        let pinned = pin_areas rows new told (n ∷ []) ready k in
        let more = areas k in
        let same = grown_areas rows limits old grown grows k in
        omega (arith, pinned, more, same);
    pins = λ k.
        let few = pins_few grown k kept in
        let areas = areas k in
        let pins = shared_pins n grown new is k in
        let times = times_one k n in
        let same = grown_pins rows limits old grown grows k in
        let pinned = pin_pins rows new told (n ∷ []) ready k (omega (arith, few, areas, pins, times)) in
        omega (arith, pinned, pins, times, same);
    access = λ page. pin_access rows new told (n ∷ []) ready page.memory page.index
        ∙ shared_access n grown new is page.memory page.index
        ∙ grown_access rows limits old grown grows page.memory page.index;
  }
    where
      areas : (k : ℕ) → areas_in (object_at new k) ≡ areas_in (object_at grown k) + cond (eqb n k) 1 0
      areas k = shared_areas n grown new is (let same = grown_areas rows limits old grown grows n in
          omega (arith, there, same)) k

  pub pinned_settles : (before after : FramePool) → after_limits ≡ limits → MemoryInvariant old → SamePins old grown
      → SamePins grown new → HoldsMove new (all_pinned rows (n ∷ []) new) before after
      → MemoryInvariant (all_pinned rows (n ∷ []) new)
      → Settles (memory_of rows limits old) (memory_of rows after_limits (all_pinned rows (n ∷ []) new)) before after
  pinned_settles before after same_limits was same_grown same_new move kept =
      settle rows limits after_limits old (all_pinned rows (n ∷ []) new) before after same_limits was.rising
      (λ k i. step_before rows limits old grown grows k i (object_at (all_pinned rows (n ∷ []) new) k)
      (step_shared n grown new is rows k i (object_at (all_pinned rows (n ∷ []) new) k)
      (pin_steps rows new told (n ∷ []) ready k i)))
      move.count (λ frame. let holds = move.holds frame in let one = same_grown.pins frame in let two = same_new.pins
      frame in omega (arith, holds, one, two)) move.bytes kept
