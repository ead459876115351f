-- One memory object with other pins by accesses.
use Rattle.std.proofs.Common.{◌≡◌, ℕ, zero, suc, ◌+◌, ◌<◌, ◌≤◌, Bool, true, false, cond, eqb, ltb, leb, ◌&&◌, IfSome}
use Rattle.std.proofs.Common.{Option, Some}
use Rattle.std.proofs.Common.{None, List, [], ◌∷◌, map, set, refl, sym, ap, ◌∙◌, subst, arith, ⊎_elim}
use Rattle.std.specs.List.{list_all, slice_get, sum_by}
use Rattle.std.proofs.lemmas.Bool.{and_parts, cases_Bool, eqb-true}
use Rattle.std.proofs.lemmas.Bool.Decides.{nat_tests}
use Rattle.std.proofs.lemmas.List.Sums.{get_or-le-sum_by, sum_by-cons}
use Rattle.mem_account.specs.Accounts.{held_by, is_user}
use Rattle.mem_account.specs.declared.Account.{Account}
use Rattle.memory_objects.specs.Backed.{AreBacked}
use Rattle.memory_objects.specs.Invariant.{MemoryInvariant}
use Rattle.memory_objects.specs.Objects.{MemoryEntry, SamePins, access_pins_in, access_pins_on, are_rising, frame_in}
use Rattle.memory_objects.specs.Objects.{frame_now_in}
use Rattle.iofd_words.specs.declared.numbers.FrameNo.{FrameNo}
use Rattle.iofd_words.specs.declared.rows.UserPage.{UserPage}
use Rattle.memory_objects.specs.Objects.{object_at, passes, pinned_by, pinned_frame, pins_on, row_of, rows_of}
use Rattle.memory_objects.specs.Runs.{RoomGrows, RunIsPinned, RunIsReleased, covers, frame_after, has_room_for}
use Rattle.memory_objects.specs.Runs.{lies_within, with_pages_at}
use Rattle.memory_objects.specs.declared.run.PageRun.{PageRun}
use Rattle.memory_objects.proofs.Invariants.{has_areas, no_pages_left, rows_counted}
use Rattle.memory_objects.proofs.FramesSeen.{not_found_mapped}
use Rattle.memory_objects.proofs.Numbered.{none_after, rising_parts}
use Rattle.memory_objects.proofs.OneObject.{at_place, rising_changed, set_by_number}
use Rattle.memory_objects.proofs.PinOne.{found_number}
use Rattle.memory_objects.proofs.Reserved.{found_mapped}
use Rattle.pinned_pages.specs.Access.{are_counted, is_in}
use Rattle.pinned_pages.specs.Accesses.{IsAccessPinned, IsAccessReleased, run_rows}
use Rattle.pinned_pages.proofs.Runs.{in_run_is}
use Rattle.pinned_pages.specs.Holds.{AreHeld, times}
use Rattle.pinned_pages.specs.Pages.{MemoryPages, ObjectPages, access_pins, frame_now, frame_of, held_frames, or_else}
use Rattle.pinned_pages.specs.Pages.{pinned_count}

-- ---- the object that is found

pub passes_found : (test : MemoryEntry → Bool) (o : Option MemoryEntry) (x : MemoryEntry) → passes test o ≡ true
    → o ≡ Some x → test x ≡ true
passes_found test o x pass is = subst (λ p. passes test p ≡ true) is pass

pub if_found : (P : MemoryEntry → Type 0) (o : Option MemoryEntry) (x : MemoryEntry) → o ≡ Some x → P x → IfSome o P
if_found P o x is holds = subst (λ p. IfSome p P) (sym is) holds

pub lies_found : (run : PageRun) (o : Option MemoryEntry) (x : MemoryEntry) → lies_within run o ≡ true → o ≡ Some x
    → run.first + run.count ≤ x.pages.pages.count
lies_found run o x lies is =
    let here : leb (run.first + run.count) x.pages.pages.count ≡ true = subst (λ p. lies_within run p ≡ true) is lies in
    search (here, arith, nat_tests)

pub lies_nowhere : (run : PageRun) (o : Option MemoryEntry) → lies_within run o ≡ true → o ≡ None → ⊥
lies_nowhere run o lies is =
    let none : false ≡ true = subst (λ p. lies_within run p ≡ true) is lies in
    cc

pub room_found : (run : PageRun) (o : Option MemoryEntry) (x : MemoryEntry) → passes (has_room_for run) o ≡ true
    → o ≡ Some x → run_rows x.pages.pages run.first run.count ≤ x.pages.room
room_found run o x room is =
    let here : leb (run_rows x.pages.pages run.first run.count) x.pages.room ≡ true =
    passes_found (has_room_for run) o x room is in
    search (here, arith, nat_tests)

-- ---- a list with one of its elements replaced

map_set : {X Y : Type 0} (f : X → Y) (xs : List X) (p : ℕ) (x y : X) → slice_get xs p ≡ Some x → f y ≡ f x
    → map f (set xs p y) ≡ map f xs
map_set f [] p x y there same = cc
map_set f (z ∷ xs) zero x y there same =
    let one : z ≡ x = cc in
    ap (λ v. v ∷ map f xs) (same ∙ ap f (sym one))
map_set f (z ∷ xs) (suc p) x y there same = ap (λ vs. f z ∷ vs) (map_set f xs p x y there same)

all_set : {X : Type 0} (t : X → Bool) (xs : List X) (p : ℕ) (y : X) → list_all t xs ≡ true → t y ≡ true
    → list_all t (set xs p y) ≡ true
all_set t [] p y all here = refl
all_set t (z ∷ xs) zero y all here = let parts = and_parts (t z) (list_all t xs) all in rw (here, parts.1) refl
all_set t (z ∷ xs) (suc p) y all here =
    let parts = and_parts (t z) (list_all t xs) all in
    rw parts.0 (all_set t xs p y parts.1 here)

all_there : {X : Type 0} (t : X → Bool) (xs : List X) (p : ℕ) (x : X) → list_all t xs ≡ true → slice_get xs p ≡ Some x
    → t x ≡ true
all_there t [] p x all there = cc
all_there t (z ∷ xs) zero x all there =
    let one : z ≡ x = cc in
    let parts = and_parts (t z) (list_all t xs) all in
    rw one at parts.0
all_there t (z ∷ xs) (suc p) x all there = all_there t xs p x (and_parts (t z) (list_all t xs) all).1 there

-- ---- the object of a number with other pages

abbrev pub become : ℕ → MemoryPages → MemoryEntry → MemoryEntry
become n new o = cond (eqb o.number n) (record o { pages = new }) o

pub become_number : (n : ℕ) (new : MemoryPages) (o : MemoryEntry) → (become n new o).number ≡ o.number
become_number n new o = by_test (eqb o.number n)
  where
    by_test : (b : Bool) → (cond b (record o { pages = new }) o).number ≡ o.number
    by_test true = refl
    by_test false = refl

module _ (objects : List MemoryEntry) (n p : ℕ) (x : MemoryEntry) (new : MemoryPages)
    (rising : are_rising objects ≡ true) (there : slice_get objects p ≡ Some x) (found : object_at objects n ≡ Some x)
  where
    abbrev entry : MemoryEntry
    entry = record { number = x.number; areas = x.areas; pages = new }

    pub at_number : set objects p entry ≡ with_pages_at n new objects
    at_number =
        let number = found_number objects n x found in
        let here : eqb x.number n ≡ true = grind (arith, nat_tests) in
        let one : entry ≡ become n new x = rw here refl in
        ap (set objects p) one
        ∙ set_by_number n (become n new) (λ o other. rw other refl) objects p x rising there number

    module _ (same : new.pages ≡ record x.pages.pages { access = new.pages.access }) where
      pub rows_set : rows_of (set objects p entry) ≡ rows_of objects
      rows_set = map_set row_of objects p x entry there (ap (λ (pages : ObjectPages). record {
        number = x.number;
        user = pages.user;
        va = pages.va;
        count = pages.count;
        writable = pages.writable;
      }) same)

      pub kept_set : are_counted new.pages.count new.pages.access ≡ true → MemoryInvariant objects
          → MemoryInvariant (set objects p entry)
      kept_set counted kept = record {
        rising = rw at_number (rising_changed (become n new) (become_number n new) objects rising);
        unpinned = all_set no_pages_left objects p entry kept.unpinned
            (ap (λ pages. no_pages_left (record {
              number = x.number;
              areas = x.areas;
              pages = record new {
                pages = pages;
              };
            })) same ∙ all_there no_pages_left objects p x kept.unpinned there);
        counted = all_set rows_counted objects p entry kept.counted counted;
        areas = all_set has_areas objects p entry kept.areas
            (ap (λ (pages : ObjectPages). leb 1 x.areas && leb pages.table_pins x.areas) same
            ∙ all_there has_areas objects p x kept.areas there);
      }

    pub same_user : new.pages ≡ record x.pages.pages { access = new.pages.access }
        → new.pages.user.0 ≡ x.pages.pages.user.0
    same_user same = ap (λ (pages : ObjectPages). pages.user.0) same

abbrev pub become_found : ℕ → MemoryPages → Option MemoryEntry → Option MemoryEntry
become_found n new None = None
become_found n new (Some o) = Some (become n new o)

-- the object of any number then
pub seen_at : (n : ℕ) (new : MemoryPages) (objects : List MemoryEntry) (m : ℕ)
    → object_at (with_pages_at n new objects) m ≡ become_found n new (object_at objects m)
seen_at n new objects m = by_object (object_at objects m) refl
  where
    by_object : (o : Option MemoryEntry) → object_at objects m ≡ o
        → object_at (with_pages_at n new objects) m ≡ become_found n new o
    by_object None is = not_found_mapped (become n new) (become_number n new) objects m is
    by_object (Some o) is = found_mapped (become n new) (become_number n new) objects m o is

-- ---- what it asks

module _ (objects : List MemoryEntry) (p : ℕ) (x : MemoryEntry) (pool_holds : List ℕ) (accounts : List Account)
    (backed : AreBacked objects pool_holds accounts) (there : slice_get objects p ≡ Some x) where
  pub run_user : is_user accounts x.pages.pages.user.0 ≡ true
  run_user = all_there (λ (o : MemoryEntry). is_user accounts o.pages.pages.user.0) objects p x backed.users there

  pub run_held : pinned_count x.pages.pages ≤ held_by accounts x.pages.pages.user.0
  run_held =
      let place = at_place objects p x x there in
      let le = get_or-le-sum_by (λ (o : MemoryEntry). cond (eqb o.pages.pages.user.0 x.pages.pages.user.0)
      (pinned_count o.pages.pages) 0) objects p x place.0 in
      let same : eqb x.pages.pages.user.0 x.pages.pages.user.0 ≡ true = grind (arith, nat_tests) in
      let own : pinned_count x.pages.pages ≤ pinned_by objects x.pages.pages.user.0 = rw (place.1, same) at le in
      let all = backed.held x.pages.pages.user.0 run_user in
      omega (arith, own, all)

  pub run_frames_held : AreHeld (held_frames x.pages.pages) pool_holds
  run_frames_held frame =
      let place = at_place objects p x x there in
      let le = get_or-le-sum_by (λ (o : MemoryEntry). times frame (held_frames o.pages.pages)) objects p x place.0 in
      let own : times frame (held_frames x.pages.pages) ≤ pins_on objects frame = rw place.1 at le in
      let all = backed.holds frame in
      omega (arith, own, all)

pub found_counted : (objects : List MemoryEntry) (p : ℕ) (x : MemoryEntry) → MemoryInvariant objects
    → slice_get objects p ≡ Some x → are_counted x.pages.pages.count x.pages.pages.access ≡ true
found_counted objects p x kept there = all_there rows_counted objects p x kept.counted there

pub has_room_now : (objects : List MemoryEntry) (n p : ℕ) (x : MemoryEntry) (new : MemoryPages)
    → are_rising objects ≡ true → slice_get objects p ≡ Some x → object_at objects n ≡ Some x → (run : PageRun)
    → new.pages ≡ x.pages.pages → run_rows x.pages.pages run.first run.count ≤ new.room
    → passes (has_room_for run) (object_at (set objects p (record {
      number = x.number;
      areas = x.areas;
      pages = new;
    })) n) ≡ true
has_room_now objects n p x new rising there found run same enough =
    let number = found_number objects n x found in
    let here : eqb x.number n ≡ true = grind (arith, nat_tests) in
    let rows = ap (λ pages. run_rows pages run.first run.count) same in
    let fits : leb (run_rows new.pages run.first run.count) new.room ≡ true = le_is
    (run_rows new.pages run.first run.count) new.room (omega (arith, rows, enough)) in
    let P : Option MemoryEntry → Type 0 = λ o. passes (has_room_for run) o ≡ true in
    let now : object_at (set objects p (record { number = x.number; areas = x.areas; pages = new })) n
    ≡ Some (become n new x) =
    ap (λ xs. object_at xs n) (at_number objects n p x new rising there found)
    ∙ seen_at n new objects n ∙ ap (become_found n new) found in
    subst P (sym now) (rw here fits)
  where
    le_is : (a b : ℕ) → a ≤ b → leb a b ≡ true
    le_is a b le = grind (arith, nat_tests)

pub lacked_room : (o : Option MemoryEntry) (x : MemoryEntry) → o ≡ Some x → (run : PageRun)
    → x.pages.room < run_rows x.pages.pages run.first run.count → passes (has_room_for run) o ≡ false
lacked_room o x is run less =
    let P : Option MemoryEntry → Type 0 = λ p. passes (has_room_for run) p ≡ false in
    subst P (sym is) (lt_is (run_rows x.pages.pages run.first run.count) x.pages.room less)
  where
    lt_is : (a b : ℕ) → b < a → leb a b ≡ false
    lt_is a b less = grind (arith, nat_tests)

found_has : (P : MemoryEntry → Type 0) (o : Option MemoryEntry) (x : MemoryEntry) → o ≡ Some x → IfSome o P → P x
found_has P o x is holds = subst (λ p. IfSome p P) is holds

lt_is : (a b : ℕ) → a < b → ltb a b ≡ true
lt_is a b less = grind (arith, nat_tests)

-- a run lies within an object that is there
not_covered : (run : PageRun) (objects : List MemoryEntry) (m i : ℕ)
    → lies_within run (object_at objects run.number) ≡ true → object_at objects m ≡ None → covers run m i ≡ false
not_covered run objects m i lies none =
    ⊎_elim
    (λ (here : eqb run.number m ≡ true).
    let same = eqb-true run.number m here in
    let gone : lies_within run (object_at objects m) ≡ true = rw (← same) lies in
    let no : false ≡ true = subst (λ o. lies_within run o ≡ true) none gone in
    cc)
    (λ (other : eqb run.number m ≡ false). rw other refl)
    (cases_Bool (eqb run.number m))

-- ---- every page then

module _ (run : PageRun) (rows : List UserPage) (old new : List MemoryEntry) (lies : lies_within run
    (object_at old run.number) ≡ true) (moved : RunIsPinned run rows old new) where
  same_object : (m : ℕ) → object_at new m ≡ become_found run.number moved.pages (object_at old m)
  same_object m = ap (λ xs. object_at xs m) moved.objects ∙ seen_at run.number moved.pages old m

  pub frames_run : (m i : ℕ) → pinned_frame new m i ≡ frame_after run rows old m i
  frames_run m i = ap (λ o. frame_in o i) (same_object m) ∙ by_object (object_at old m) refl
    where
      by_object : (o : Option MemoryEntry) → object_at old m ≡ o
          → frame_in (become_found run.number moved.pages o) i ≡ cond (covers run m i)
          (or_else (frame_in (object_at old m) i) (frame_now_in rows (object_at old m) i)) (frame_in (object_at old m)
          i)
      by_object None is = rw is (none_either (covers run m i))
        where
          none_either : (b : Bool) → let none : Option FrameNo = None in none ≡ cond b none none
          none_either true = refl
          none_either false = refl
      by_object (Some o) is =
          let number = found_number old m o is in
          ⊎_elim
          (λ (here : eqb o.number run.number ≡ true).
          let same = eqb-true o.number run.number here in
          let found : object_at old run.number ≡ Some o = ap (object_at old) (sym same ∙ number) ∙ is in
          let flipped : eqb run.number m ≡ true = grind (arith, nat_tests) in
          let pinned = found_has (λ x. IsAccessPinned run.first run.count rows x.pages.pages moved.pages.pages)
          (object_at old run.number) o found moved.pinned in
          let low = lies_found run (object_at old run.number) o lies found in
          rw (is, here, flipped) (pinned.frames i
          ∙ by_in (is_in run.first run.count i) refl low))
          (λ (other : eqb o.number run.number ≡ false).
          let flipped : eqb run.number m ≡ false = grind (arith, nat_tests) in
          rw (is, other, flipped) refl)
          (cases_Bool (eqb o.number run.number))
        where
          by_in : (b : Bool) → is_in run.first run.count i ≡ b → run.first + run.count ≤ o.pages.pages.count
              → cond b (or_else (frame_of o.pages.pages i) (frame_now o.pages.pages rows i)) (frame_of o.pages.pages i)
              ≡ cond b (or_else (frame_of o.pages.pages i) (frame_now_in rows (Some o) i)) (frame_of o.pages.pages i)
          by_in true within low =
              let high = (in_run_is run.first run.count i within).1 in
              let inside : ltb i o.pages.pages.count ≡ true = lt_is i o.pages.pages.count (omega (arith, high, low)) in
              rw inside refl
          by_in false out low = refl

  pub pins_run : (m i : ℕ) → access_pins_on new m i ≡ access_pins_on old m i + cond (covers run m i) 1 0
  pins_run m i = ap (λ o. access_pins_in o i) (same_object m) ∙ by_object (object_at old m) refl
    where
      by_object : (o : Option MemoryEntry) → object_at old m ≡ o
          → access_pins_in (become_found run.number moved.pages o) i
          ≡ access_pins_in (object_at old m) i + cond (covers run m i) 1 0
      by_object None is =
          let out = not_covered run old m i lies is in
          rw (is, out) refl
      by_object (Some o) is =
          let number = found_number old m o is in
          ⊎_elim
          (λ (here : eqb o.number run.number ≡ true).
          let same = eqb-true o.number run.number here in
          let found : object_at old run.number ≡ Some o = ap (object_at old) (sym same ∙ number) ∙ is in
          let flipped : eqb run.number m ≡ true = grind (arith, nat_tests) in
          let pinned = found_has (λ x. IsAccessPinned run.first run.count rows x.pages.pages moved.pages.pages)
          (object_at old run.number) o found moved.pinned in
          rw (is, here, flipped) (pinned.pins i))
          (λ (other : eqb o.number run.number ≡ false).
          let flipped : eqb run.number m ≡ false = grind (arith, nat_tests) in
          rw (is, other, flipped) (omega arith))
          (cases_Bool (eqb o.number run.number))

module _ (run : PageRun) (old new : List MemoryEntry) (lies : lies_within run
    (object_at old run.number) ≡ true) (moved : RunIsReleased run old new) where
  pub left_object : (m : ℕ) → object_at new m ≡ become_found run.number moved.pages (object_at old m)
  left_object m = ap (λ xs. object_at xs m) moved.objects ∙ seen_at run.number moved.pages old m

  pub pins_left : (m i : ℕ) → access_pins_on new m i + cond (covers run m i) 1 0 ≡ access_pins_on old m i
  pins_left m i =
      ap (λ o. access_pins_in o i + cond (covers run m i) 1 0) (left_object m) ∙ by_object (object_at old m) refl
    where
      by_object : (o : Option MemoryEntry) → object_at old m ≡ o
          → access_pins_in (become_found run.number moved.pages o) i + cond (covers run m i) 1 0
          ≡ access_pins_in (object_at old m) i
      by_object None is =
          let out = not_covered run old m i lies is in
          rw (is, out) refl
      by_object (Some o) is =
          let number = found_number old m o is in
          ⊎_elim
          (λ (here : eqb o.number run.number ≡ true).
          let same = eqb-true o.number run.number here in
          let found : object_at old run.number ≡ Some o = ap (object_at old) (sym same ∙ number) ∙ is in
          let flipped : eqb run.number m ≡ true = grind (arith, nat_tests) in
          let released = found_has (λ x. IsAccessReleased run.first run.count x.pages.pages moved.pages.pages)
          (object_at old run.number) o found moved.released in
          rw (is, here, flipped) (released.pins i))
          (λ (other : eqb o.number run.number ≡ false).
          let flipped : eqb run.number m ≡ false = grind (arith, nat_tests) in
          rw (is, other, flipped) (omega arith))
          (cases_Bool (eqb o.number run.number))

-- more room leaves all pins
pub same_room : (number : ℕ) (old new : List MemoryEntry) → are_rising old ≡ true → RoomGrows number old new
    → SamePins old new
same_room number old new rising grows = record {
  frames = λ m i. seen_same (λ o. frame_in o i) m (λ p q is. ap (λ (x : ObjectPages). frame_of x i) is);
  access = λ m i. seen_same (λ o. access_pins_in o i) m (λ p q is. ap (λ (x : ObjectPages). access_pins x i) is);
  pins = λ frame. ap (λ xs. pins_on xs frame) grows.objects
      ∙ sums (λ o. times frame (held_frames o.pages.pages)) (λ o p is. ap (λ (x : ObjectPages). times frame
      (held_frames x)) is) old rising grows.same;
  pinned = λ user. ap (λ xs. pinned_by xs user) grows.objects
      ∙ sums (λ o. cond (eqb o.pages.pages.user.0 user) (pinned_count o.pages.pages) 0) (λ o p is. ap
      (λ (x : ObjectPages). cond (eqb x.user.0 user) (pinned_count x) 0) is) old rising grows.same;
}
  where
    seen_same : {X : Type 0} (f : Option MemoryEntry → X) (m : ℕ)
        → ((o : MemoryEntry) (pages : MemoryPages) → pages.pages ≡ o.pages.pages
        → f (Some (record o { pages = pages })) ≡ f (Some o)) → f (object_at new m) ≡ f (object_at old m)
    seen_same f m same =
        ap (λ xs. f (object_at xs m)) grows.objects ∙ ap f (seen_at number grows.pages old m)
        ∙ by_object (object_at old m) refl
      where
        by_object : (o : Option MemoryEntry) → object_at old m ≡ o
            → f (become_found number grows.pages o) ≡ f (object_at old m)
        by_object None is = ap f (sym is)
        by_object (Some o) is =
            let number_is = found_number old m o is in
            ⊎_elim
            (λ (here : eqb o.number number ≡ true).
            let equal = eqb-true o.number number here in
            let found : object_at old number ≡ Some o = ap (object_at old) (sym equal ∙ number_is) ∙ is in
            let one = found_has (λ x. grows.pages.pages ≡ x.pages.pages) (object_at old number) o found grows.same in
            ap (λ (b : Bool). f (Some (cond b (record o { pages = grows.pages }) o))) here
            ∙ same o grows.pages one ∙ ap f (sym is))
            (λ (other : eqb o.number number ≡ false).
            ap (λ (b : Bool). f (Some (cond b (record o { pages = grows.pages }) o))) other ∙ ap f (sym is))
            (cases_Bool (eqb o.number number))

    sums : (f : MemoryEntry → ℕ) → ((o : MemoryEntry) (pages : MemoryPages) → pages.pages ≡ o.pages.pages
        → f (record o { pages = pages }) ≡ f o) → (objects : List MemoryEntry) → are_rising objects ≡ true
        → IfSome (object_at objects number) (λ o. grows.pages.pages ≡ o.pages.pages)
        → sum_by f (with_pages_at number grows.pages objects) ≡ sum_by f objects
    sums f same [] up is = refl
    sums f same (o ∷ objects) up is =
        let parts = rising_parts o objects up in
        let old_sum = sum_by-cons f o objects in
        let new_sum = sum_by-cons f (become number grows.pages o) (with_pages_at number grows.pages objects) in
        ⊎_elim
        (λ (here : eqb o.number number ≡ true).
        let equal = eqb-true o.number number here in
        let none = none_after number o objects parts.0 (omega (arith, equal)) in
        let N : Option MemoryEntry → Type 0 = λ q. IfSome q (λ x. grows.pages.pages ≡ x.pages.pages) in
        let rest = sums f same objects parts.1 (subst N (sym none) tt) in
        let one : grows.pages.pages ≡ o.pages.pages = rw here at is in
        let first = ap (λ (b : Bool). f (cond b (record o { pages = grows.pages }) o)) here ∙ same o grows.pages one in
        omega (arith, old_sum, new_sum, rest, first))
        (λ (other : eqb o.number number ≡ false).
        let rest = sums f same objects parts.1 (rw other at is) in
        let first = ap (λ (b : Bool). f (cond b (record o { pages = grows.pages }) o)) other in
        omega (arith, old_sum, new_sum, rest, first))
        (cases_Bool (eqb o.number number))
