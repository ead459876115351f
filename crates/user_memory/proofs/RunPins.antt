-- A memory object with other pins by accesses, as a contract sees all of them.
use Rattle.std.proofs.Common.{◌≡◌, ℕ, ◌+◌, ◌≤◌, ◌^◌, Bool, true, false, ◌&&◌, ◌||◌, cond, eqb, ltb, leb, IfSome}
use Rattle.std.proofs.Common.{Option, Some, None, List, [], ◌∷◌, length, refl, sym, ap, ◌∙◌, subst, arith}
use Rattle.std.specs.Prelude.{is_some}
use Rattle.std.specs.List.{list_all}
use Rattle.std.proofs.lemmas.Bool.{and_from, and_parts, eqb-true}
use Rattle.std.proofs.lemmas.Bool.Decides.{nat_tests}
use Rattle.iofd_words.specs.Frames.{frame_at}
use Rattle.iofd_words.specs.Pages.{page_of}
use Rattle.iofd_words.specs.declared.numbers.FrameNo.{FrameNo}
use Rattle.iofd_words.specs.declared.rows.UserPage.{UserPage}
use Rattle.mem_account.specs.Accounts.{is_user}
use Rattle.mem_account.specs.declared.Account.{Account}
use Rattle.memory_objects.specs.Invariant.{MemoryInvariant}
use Rattle.memory_objects.specs.Objects.{MemoryEntry, SamePins, are_rising, object_at, rows_of}
use Rattle.memory_objects.specs.Runs.{RoomGrows, RunIsPinned, RunIsReleased, with_pages_at}
use Rattle.memory_objects.specs.declared.run.PageRun.{PageRun}
use Rattle.memory_objects.proofs.Invariants.{rows_counted}
use Rattle.memory_objects.proofs.PinOne.{found_number}
use Rattle.memory_objects.proofs.RunOne.{become, become_found, seen_at}
use Rattle.pinned_pages.specs.Access.{AccessRows, are_counted, is_in}
use Rattle.pinned_pages.specs.Accesses.{IsAccessPinned, IsAccessReleased}
use Rattle.pinned_pages.specs.Pages.{MemoryPages, ObjectPages, access_pins, frame_now, frame_of, is_pinned, or_else}
use Rattle.user_memory.specs.Changes.{SameObjects}
use Rattle.user_memory.specs.Invariant.{AccountsTell, ObjectsTell, is_kept}
use Rattle.user_memory.specs.Memory.{areas_in, pins_in}
use Rattle.user_memory.proofs.Found.{found_passes, not_pinned, own_numbers, page_there}
use Rattle.user_memory.proofs.Moves.{accounts_stay, all_mapped, all_own, has_user}
use Rattle.user_memory.proofs.Settled.{StepOf, memory_of, stays}

pub if_some : (P : MemoryEntry → Type 0) (o : Option MemoryEntry) (x : MemoryEntry) → o ≡ Some x → IfSome o P → P x
if_some P o x is holds = subst (λ p. IfSome p P) is holds

-- ---- all objects, where one has other pins by accesses

-- the object has these pages, but for its pins by accesses
abbrev pub IsBut : MemoryPages → MemoryEntry → Type 0
IsBut pages o = pages.pages ≡ record o.pages.pages { access = pages.pages.access }

module _ (old new : List MemoryEntry) (n : ℕ) (pages : MemoryPages) (is : new ≡ with_pages_at n pages old)
    (same : IfSome (object_at old n) (IsBut pages)) where
  pub now_at : (k : ℕ) → object_at new k ≡ become_found n pages (object_at old k)
  now_at k = ap (λ xs. object_at xs k) is ∙ seen_at n pages old k

  -- what doesn't look at the pins by accesses
  as_before : {X : Type 0} (f : ObjectPages → X)
      → ((p : ObjectPages) (rows : AccessRows) → f (record p { access = rows }) ≡ f p)
      → (k : ℕ) (o : MemoryEntry) → object_at old k ≡ Some o → f (become n pages o).pages.pages ≡ f o.pages.pages
  as_before f leaves k o found = by_test (eqb o.number n) refl
    where
      by_test : (b : Bool) → eqb o.number n ≡ b
          → f (cond b (record o { pages = pages }) o).pages.pages ≡ f o.pages.pages
      by_test true here =
          let there : object_at old n ≡ Some o =
          ap (object_at old) (sym (eqb-true o.number n here) ∙ found_number old k o found) ∙ found in
          ap f (if_some (IsBut pages) (object_at old n) o there same) ∙ leaves o.pages.pages pages.pages.access
      by_test false other = refl

  pub run_areas : (k : ℕ) → areas_in (object_at new k) ≡ areas_in (object_at old k)
  run_areas k = ap areas_in (now_at k) ∙ by_object (object_at old k)
    where
      by_test : (o : MemoryEntry) (b : Bool) → (cond b (record o { pages = pages }) o).areas ≡ o.areas
      by_test o true = refl
      by_test o false = refl

      by_object : (a : Option MemoryEntry) → areas_in (become_found n pages a) ≡ areas_in a
      by_object None = refl
      by_object (Some o) = by_test o (eqb o.number n)

  pub run_tables : (k : ℕ) → pins_in (object_at new k) ≡ pins_in (object_at old k)
  run_tables k = ap pins_in (now_at k) ∙ by_object (object_at old k) refl
    where
      by_object : (a : Option MemoryEntry) → object_at old k ≡ a → pins_in (become_found n pages a) ≡ pins_in a
      by_object None found = refl
      by_object (Some o) found = as_before (λ p. p.table_pins) (λ p rows. refl) k o found

  all_become : (p : MemoryEntry → Bool) → are_rising old ≡ true
      → ((o : MemoryEntry) → object_at old o.number ≡ Some o → p o ≡ true → p (become n pages o) ≡ true)
      → list_all p old ≡ true → list_all p new ≡ true
  all_become p rising each all =
      let P : List MemoryEntry → Type 0 = λ xs. list_all p xs ≡ true in
      subst P (sym is) (all_mapped (λ o. p (become n pages o)) p (become n pages) (λ o h. h) old
      (all_own old p (λ o. p (become n pages o)) each old (own_numbers old rising) all))

  pub run_users : (accounts : List Account) → are_rising old ≡ true → list_all (has_user accounts) old ≡ true
      → list_all (has_user accounts) new ≡ true
  run_users accounts rising all = all_become (has_user accounts) rising
      (λ o own known. as_before (λ p. is_user accounts p.user.0) (λ p rows. refl) o.number o own ∙ known) all

  pub run_told : ObjectsTell old → MemoryInvariant new → ObjectsTell new
  run_told told kept = record { memory = kept; kept = all_become is_kept told.memory.rising one told.kept }
    where
      is_few : ObjectPages → Bool
      is_few p = leb p.count (2 ^ 36)

      are_all : ObjectPages → Bool
      are_all p = eqb (length p.frames) (cond (eqb p.table_pins 0) 0 p.count)

      one : (o : MemoryEntry) → object_at old o.number ≡ Some o → is_kept o ≡ true → is_kept (become n pages o) ≡ true
      one o own was =
          let x = become n pages o in
          let parts = and_parts (is_few o.pages.pages)
          (are_all o.pages.pages && are_counted o.pages.pages.count o.pages.pages.access) was in
          let more = and_parts (are_all o.pages.pages) (are_counted o.pages.pages.count o.pages.pages.access) parts.1 in
          let counted = found_passes rows_counted new o.number x kept.counted
          (now_at o.number ∙ ap (become_found n pages) own) in
          let few = as_before is_few (λ p rows. refl) o.number o own ∙ parts.0 in
          let frames = as_before are_all (λ p rows. refl) o.number o own ∙ more.0 in
          and_from (is_few x.pages.pages)
          (are_all x.pages.pages && are_counted x.pages.pages.count x.pages.pages.access)
          few (and_from (are_all x.pages.pages) (are_counted x.pages.pages.count x.pages.pages.access) frames counted)

-- ---- one page

or_first : (a b : Option FrameNo) → is_some a ≡ true → or_else a b ≡ a
or_first None b some = cc
or_first (Some f) b some = refl

module _ (rows : List UserPage) (first count : ℕ) (o p : MemoryEntry) (kept : is_kept o ≡ true)
    (kept_now : is_kept p ≡ true) (i : ℕ) where
  -- what a step makes of the page
  abbrev Settled : Type 0
  Settled = frame_of p.pages.pages i ≡ cond (is_pinned p.pages.pages i)
      (cond (is_pinned o.pages.pages i) (frame_of o.pages.pages i)
      (frame_at rows p.pages.pages.user (page_of p.pages.pages.va + i))) None

  run_page_pinned : IsAccessPinned first count rows o.pages.pages p.pages.pages → Settled
  run_page_pinned more = by_pinned (is_pinned p.pages.pages i) refl
    where
      now : Option FrameNo
      now = frame_at rows p.pages.pages.user (page_of p.pages.pages.va + i)

      frame_is : (c : Bool) → is_in first count i ≡ c → frame_of p.pages.pages i
          ≡ cond c (or_else (frame_of o.pages.pages i) (frame_now o.pages.pages rows i)) (frame_of o.pages.pages i)
      frame_is c within = more.frames i ∙ ap (λ b. cond b (or_else (frame_of o.pages.pages i)
          (frame_now o.pages.pages rows i)) (frame_of o.pages.pages i)) within

      by_old : (b c : Bool) → is_pinned o.pages.pages i ≡ b → is_in first count i ≡ c
          → is_pinned p.pages.pages i ≡ true
          → frame_of p.pages.pages i ≡ cond b (frame_of o.pages.pages i) now
      by_old true true was within pinned = frame_is true within
          ∙ or_first (frame_of o.pages.pages i) (frame_now o.pages.pages rows i) (page_there o kept i ∙ was)
      by_old true false was out pinned = frame_is false out
      by_old false true was within pinned =
          frame_is true within
          ∙ ap (λ f. or_else f (frame_now o.pages.pages rows i)) (not_pinned o kept i was)
          ∙ sym (ap (λ (q : ObjectPages). frame_at rows q.user (page_of q.va + i)) more.same)
      by_old false false was out pinned =
          let none = frame_is false out ∙ not_pinned o kept i was in
          let no : true ≡ false = sym (page_there p kept_now i ∙ pinned) ∙ ap is_some none in
          cc

      by_pinned : (b : Bool) → is_pinned p.pages.pages i ≡ b
          → frame_of p.pages.pages i ≡ cond b (cond (is_pinned o.pages.pages i) (frame_of o.pages.pages i) now) None
      by_pinned false out = not_pinned p kept_now i out
      by_pinned true pinned = by_old (is_pinned o.pages.pages i) (is_in first count i) refl refl pinned

  run_page_left : IsAccessReleased first count o.pages.pages p.pages.pages → Settled
  run_page_left less = by_pinned (is_pinned p.pages.pages i) refl
    where
      still : (a t : Bool) (x y : ℕ) → x ≤ y → (a && (t || ltb 0 x)) ≡ true → (a && (t || ltb 0 y)) ≡ true
      still false t x y le pinned = cc
      still true true x y le pinned = refl
      still true false x y le pinned = grind (arith, nat_tests)

      was : is_pinned p.pages.pages i ≡ true → is_pinned o.pages.pages i ≡ true
      was pinned =
          let pins = less.pins i in
          still (ltb i o.pages.pages.count) (ltb 0 o.pages.pages.table_pins) (access_pins p.pages.pages i)
          (access_pins o.pages.pages i) (omega (arith, pins))
          (sym (ap (λ (q : ObjectPages). ltb i q.count && (ltb 0 q.table_pins
          || ltb 0 (access_pins p.pages.pages i))) less.same) ∙ pinned)

      by_pinned : (b : Bool) → is_pinned p.pages.pages i ≡ b → frame_of p.pages.pages i
          ≡ cond b (cond (is_pinned o.pages.pages i) (frame_of o.pages.pages i)
          (frame_at rows p.pages.pages.user (page_of p.pages.pages.va + i))) None
      by_pinned false out = not_pinned p kept_now i out
      by_pinned true pinned =
          less.frames i ∙ ap (λ b. cond b (frame_of o.pages.pages i) None) pinned
          ∙ sym (ap (λ b. cond b (frame_of o.pages.pages i)
          (frame_at rows p.pages.pages.user (page_of p.pages.pages.va + i))) (was pinned))

-- ---- every page

module _ (rows : List UserPage) (run : PageRun) (old new : List MemoryEntry) (told : ObjectsTell old)
    (told_now : ObjectsTell new) where
  steps : (pages : MemoryPages) → new ≡ with_pages_at run.number pages old
      → IfSome (object_at old run.number) (IsBut pages)
      → ((o : MemoryEntry) (i : ℕ) → object_at old run.number ≡ Some o → is_kept o ≡ true
      → is_kept (record o { pages = pages }) ≡ true → StepOf rows (Some o) (Some (record o { pages = pages })) i)
      → (k i : ℕ) → StepOf rows (object_at old k) (object_at new k) i
  steps pages is same one k i =
      let P : Option MemoryEntry → Type 0 = λ b. StepOf rows (object_at old k) b i in
      subst P (sym at) (by_object (object_at old k) refl)
    where
      at : object_at new k ≡ become_found run.number pages (object_at old k)
      at = now_at old new run.number pages is same k

      by_object : (a : Option MemoryEntry) → object_at old k ≡ a
          → StepOf rows a (become_found run.number pages a) i
      by_object None found = refl
      by_object (Some o) found = by_test (eqb o.number run.number) refl
        where
          kept : is_kept o ≡ true
          kept = found_passes is_kept old k o told.kept found

          by_test : (b : Bool) → eqb o.number run.number ≡ b
              → StepOf rows (Some o) (Some (cond b (record o { pages = pages }) o)) i
          by_test true here =
              let there : object_at old run.number ≡ Some o =
              ap (object_at old) (sym (eqb-true o.number run.number here) ∙ found_number old k o found) ∙ found in
              let now : object_at new k ≡ Some (record o { pages = pages }) =
              at ∙ ap (become_found run.number pages) found
              ∙ ap (λ b. Some (cond b (record o { pages = pages }) o)) here in
              one o i there kept (found_passes is_kept new k (record o { pages = pages }) told_now.kept now)
          by_test false other = stays (frame_of o.pages.pages i)
              (frame_at rows o.pages.pages.user (page_of o.pages.pages.va + i)) (is_pinned o.pages.pages i)
              (not_pinned o kept i)

  pub run_pin_steps : (moved : RunIsPinned run rows old new) → IfSome (object_at old run.number) (IsBut moved.pages)
      → (k i : ℕ) → StepOf rows (object_at old k) (object_at new k) i
  run_pin_steps moved same = steps moved.pages moved.objects same (λ o i found kept kept_now.
      run_page_pinned rows run.first run.count o (record o { pages = moved.pages }) kept kept_now i
      (if_some (λ x. IsAccessPinned run.first run.count rows x.pages.pages moved.pages.pages)
      (object_at old run.number) o found moved.pinned))

  pub run_unpin_steps : (moved : RunIsReleased run old new) → IfSome (object_at old run.number) (IsBut moved.pages)
      → (k i : ℕ) → StepOf rows (object_at old k) (object_at new k) i
  run_unpin_steps moved same = steps moved.pages moved.objects same (λ o i found kept kept_now.
      run_page_left rows run.first run.count o (record o { pages = moved.pages }) kept kept_now i
      (if_some (λ x. IsAccessReleased run.first run.count x.pages.pages moved.pages.pages)
      (object_at old run.number) o found moved.released))

-- ---- that a call changes nothing else of the object

but_from : (P : MemoryEntry → Type 0) (pages : MemoryPages) → ((o : MemoryEntry) → P o → IsBut pages o)
    → (a : Option MemoryEntry) → IfSome a P → IfSome a (IsBut pages)
but_from P pages each None holds = tt
but_from P pages each (Some o) holds = each o holds

pub pinned_but : (run : PageRun) (rows : List UserPage) (old new : List MemoryEntry)
    (moved : RunIsPinned run rows old new) → IfSome (object_at old run.number) (IsBut moved.pages)
pinned_but run rows old new moved =
    but_from (λ o. IsAccessPinned run.first run.count rows o.pages.pages moved.pages.pages) moved.pages
    (λ o more. more.same) (object_at old run.number) moved.pinned

pub released_but : (run : PageRun) (old new : List MemoryEntry) (moved : RunIsReleased run old new)
    → IfSome (object_at old run.number) (IsBut moved.pages)
released_but run old new moved =
    but_from (λ o. IsAccessReleased run.first run.count o.pages.pages moved.pages.pages) moved.pages
    (λ o less. less.same) (object_at old run.number) moved.released

pub grown_but : (n : ℕ) (old new : List MemoryEntry) (grows : RoomGrows n old new)
    → IfSome (object_at old n) (IsBut grows.pages)
grown_but n old new grows =
    but_from (λ o. grows.pages.pages ≡ o.pages.pages) grows.pages
    (λ o is. is ∙ ap (λ (p : ObjectPages). record o.pages.pages { access = p.access }) (sym is)) (object_at old n)
    grows.same

-- ---- more room, and then pins

module _ (rows : List UserPage) (limits : List ℕ) (n : ℕ) (old new : List MemoryEntry) (grows : RoomGrows n old new)
    (same : SamePins old new) (kept : MemoryInvariant new) where
  pub run_grown_tell : (accounts : List Account) → AccountsTell accounts old → AccountsTell accounts new
  run_grown_tell accounts tell =
      let but = grown_but n old new grows in
      accounts_stay accounts old new tell same.pinned
      (run_users old new n grows.pages grows.objects but accounts tell.told.memory.rising tell.users)
      (run_told old new n grows.pages grows.objects but tell.told kept)

  pub run_grown_same : rows_of new ≡ rows_of old → SameObjects (memory_of rows limits old) (memory_of rows limits new)
  run_grown_same rows_are =
      let but = grown_but n old new grows in
      record {
        rows = rows_are;
        frames = λ page. same.frames page.memory page.index;
        areas = run_areas old new n grows.pages grows.objects but;
        pins = run_tables old new n grows.pages grows.objects but;
        access = λ page. same.access page.memory page.index;
        named = same.pins;
        kept = kept;
      }

  -- the room says nothing of the pages
  pub seen_grown : {X : Type 0} (f : Option MemoryEntry → X) (g : ObjectPages → X)
      → ((o : MemoryEntry) → f (Some o) ≡ g o.pages.pages) → f (object_at new n) ≡ f (object_at old n)
  seen_grown f g looks = ap f (now_at old new n grows.pages grows.objects (grown_but n old new grows) n)
      ∙ by_object (object_at old n) refl
    where
      by_object : (a : Option MemoryEntry) → object_at old n ≡ a → f (become_found n grows.pages a) ≡ f a
      by_object None found = refl
      by_object (Some o) found = by_test (eqb o.number n)
        where
          by_test : (b : Bool) → f (Some (cond b (record o { pages = grows.pages }) o)) ≡ f (Some o)
          by_test true = looks (record o { pages = grows.pages })
              ∙ ap g (if_some (λ x. grows.pages.pages ≡ x.pages.pages) (object_at old n) o found grows.same)
              ∙ sym (looks o)
          by_test false = refl

module _ (run : PageRun) (rows : List UserPage) (old grown new : List MemoryEntry)
    (grows : RoomGrows run.number old grown) (moved : RunIsPinned run rows grown new) where
  twice : (objects : List MemoryEntry)
      → with_pages_at run.number moved.pages (with_pages_at run.number grows.pages objects)
      ≡ with_pages_at run.number moved.pages objects
  twice [] = refl
  twice (o ∷ objects) =
      ap (λ x. x ∷ with_pages_at run.number moved.pages (with_pages_at run.number grows.pages objects))
      (by_test (eqb o.number run.number) refl)
      ∙ ap (λ rest. become run.number moved.pages o ∷ rest) (twice objects)
    where
      by_test : (b : Bool) → eqb o.number run.number ≡ b
          → become run.number moved.pages (cond b (record o { pages = grows.pages }) o)
          ≡ cond b (record o { pages = moved.pages }) o
      by_test true here = rw here refl
      by_test false other = rw other refl

  -- the object of the run's number is one that had these pages
  both : (P Q : MemoryEntry → Type 0)
      → ((o : MemoryEntry) → grows.pages.pages ≡ o.pages.pages → grows.pages.capacity ≡ o.pages.capacity
      → P (record o { pages = grows.pages }) → Q o)
      → IfSome (object_at grown run.number) P → IfSome (object_at old run.number) Q
  both P Q each holds = by_object (object_at old run.number) refl
    where
      by_object : (a : Option MemoryEntry) → object_at old run.number ≡ a → IfSome a Q
      by_object None found = tt
      by_object (Some o) found =
          let number = found_number old run.number o found in
          let here : eqb o.number run.number ≡ true = grind (arith, nat_tests) in
          let now : object_at grown run.number ≡ Some (record o { pages = grows.pages }) =
          now_at old grown run.number grows.pages grows.objects (grown_but run.number old grown grows) run.number
          ∙ ap (become_found run.number grows.pages) found
          ∙ ap (λ b. Some (cond b (record o { pages = grows.pages }) o)) here in
          each o (if_some (λ x. grows.pages.pages ≡ x.pages.pages) (object_at old run.number) o found grows.same)
          (if_some (λ x. grows.pages.capacity ≡ x.pages.capacity) (object_at old run.number) o found grows.capacity)
          (if_some P (object_at grown run.number) (record o { pages = grows.pages }) now holds)

  pub grown_moved : RunIsPinned run rows old new
  grown_moved = record {
    pages = moved.pages;
    objects = moved.objects ∙ ap (with_pages_at run.number moved.pages) grows.objects ∙ twice old;
    pinned = both (λ o. IsAccessPinned run.first run.count rows o.pages.pages moved.pages.pages)
        (λ o. IsAccessPinned run.first run.count rows o.pages.pages moved.pages.pages)
        (λ o same capacity pinned. subst (λ (p : ObjectPages). IsAccessPinned run.first run.count rows p
        moved.pages.pages) same pinned) moved.pinned;
    capacity = both (λ o. moved.pages.capacity ≡ o.pages.capacity) (λ o. moved.pages.capacity ≡ o.pages.capacity)
        (λ o same capacity is. is ∙ capacity) moved.capacity;
  }
