-- Pins by accesses are put on one run after another.
use Rattle.std.proofs.Common.{◌≡◌, ℕ, ◌+◌, ◌<◌, ◌≤◌, ◌^◌, Bool, true, false, cond, ◌&&◌, ◌||◌, not, eqb, IfSome}
use Rattle.std.proofs.Common.{Option, Some, None, Fits, w64, List, [], ◌∷◌, ◌++◌, length, length-append, suc}
use Rattle.std.proofs.Common.{refl, ap, subst, sym, ◌∙◌, arith}
use Rattle.std.specs.Prelude.{is_none}
use Rattle.std.specs.List.{filter, find, flat_map, list_all, list_any}
use Rattle.std.proofs.lemmas.Bool.{eqb-true, eq-eqb}
use Rattle.frame_memory.specs.Pool.{FramePool}
use Rattle.iofd_rows.proofs.Bools.{and_true, both_true}
use Rattle.iofd_rows.proofs.Found.{found_passes}
use Rattle.iofd_rows.proofs.ListTests.{any-filter, none_stronger, or_right}
use Rattle.iofd_words.specs.Bounds.{Bounds}
use Rattle.iofd_words.specs.Pins.{ObjectPage, pages_of}
use Rattle.iofd_words.specs.Span.{meets}
use Rattle.iofd_words.specs.declared.numbers.UserNo.{UserNo}
use Rattle.iofd_words.specs.declared.rows.Area.{Area}
use Rattle.iofd_words.specs.declared.rows.MemoryObject.{MemoryObject}
use Rattle.memory_objects.specs.Runs.{covers}
use Rattle.memory_objects.specs.declared.run.PageRun.{PageRun}
use Rattle.user_memory.specs.Changes.{HasRunPinned, Settles}
use Rattle.user_memory.specs.Memory.{Memory, access_pins, frame_now, has_room, is_in_runs, new_in_runs}
use Rattle.user_memory.specs.Memory.{pinned_frame, rows_of, run_lies}
use Rattle.user_memory_rows.proofs.Released.{only_after, settles_none}
use Rattle.access_pages.proofs.Room.{keeps, length_twice, less_each, own_later, room_less, room_stays}
use Rattle.access_pages.proofs.Through.{now_same, settles_through, still_pinned}
use Rattle.access_pages.proofs.UnpinSteps.{counts_one, lie_still, moved_over, runs_last, times_first, times_last}
use Rattle.access_pages.specs.Runs.{ArePinned, MayPin, run_in, runs_in}

-- ---- pages that lack

any_twice : {X : Type 0} (p r q : X → Bool) (xs : List X)
    → list_any p (filter r (filter q xs)) ≡ list_any (λ x. q x && (r x && p x)) xs
any_twice p r q xs = any-filter p r (filter q xs) ∙ any-filter (λ x. r x && p x) q xs

-- where fewer pages are new, and none of them lacks that didn't
lacks_less : (a b : Memory) (some all : List PageRun) → rows_of b ≡ rows_of a
    → ((page : ObjectPage) → is_none (pinned_frame b page) ≡ true → is_none (pinned_frame a page) ≡ true)
    → ((page : ObjectPage) → is_in_runs some page ≡ true → is_in_runs all page ≡ true)
    → ((page : ObjectPage) → frame_now b page ≡ frame_now a page)
    → list_any (λ page. is_none (frame_now a page)) (new_in_runs a all) ≡ false
    → list_any (λ page. is_none (frame_now b page)) (new_in_runs b some) ≡ false
lacks_less a b some all rows keep among now none =
    any_twice (λ page. is_none (frame_now b page)) (is_in_runs some) (λ page. is_none (pinned_frame b page))
    (flat_map pages_of (rows_of b))
    ∙ ap (λ (l : List MemoryObject). list_any (λ page. is_none (pinned_frame b page) && (is_in_runs some page
    && is_none (frame_now b page))) (flat_map pages_of l)) rows
    ∙ none_stronger
    (λ page. is_none (pinned_frame b page) && (is_in_runs some page && is_none (frame_now b page)))
    (λ page. is_none (pinned_frame a page) && (is_in_runs all page && is_none (frame_now a page)))
    (flat_map pages_of (rows_of a)) weaker
    (sym (any_twice (λ page. is_none (frame_now a page)) (is_in_runs all) (λ page. is_none (pinned_frame a page))
    (flat_map pages_of (rows_of a))) ∙ none)
  where
    weaker : (page : ObjectPage)
        → (is_none (pinned_frame b page) && (is_in_runs some page && is_none (frame_now b page))) ≡ true
        → (is_none (pinned_frame a page) && (is_in_runs all page && is_none (frame_now a page))) ≡ true
    weaker page is =
        let parts = and_true (is_none (pinned_frame b page)) (is_in_runs some page && is_none (frame_now b page)) is in
        let others = and_true (is_in_runs some page) (is_none (frame_now b page)) parts.1 in
        both_true _ _ (keep page parts.0)
        (both_true _ _ (among page others.0) (ap is_none (sym (now page)) ∙ others.1))

-- ---- one run

pub none_pinned : (m : Memory) (pool : FramePool) (runs : List PageRun) → MayPin runs m pool.holds
    → ArePinned [] m m pool pool
none_pinned m pool runs may = record {
  rows = refl;
  areas = λ number. refl;
  pins = λ number. refl;
  access = λ page. omega arith;
  settles = settles_none m pool may.invariant may.only;
}

module _ (run : PageRun) (rest : List PageRun) (now : Memory) (holds : List ℕ) (may : MayPin (run ∷ rest) now holds)
  where
    -- a page of the run is one of the runs'
    of_first : (page : ObjectPage) → is_in_runs (run ∷ []) page ≡ true → is_in_runs (run ∷ rest) page ≡ true
    of_first page is = either (covers run page.memory page.index) (is_in_runs rest page) is
      where
        either : (x y : Bool) → (x || false) ≡ true → (x || y) ≡ true
        either true y is = refl
        either false y is = cc

    -- what the call for one run asks
    pub run_is_present : list_any (λ page. is_none (frame_now now page)) (new_in_runs now (run ∷ [])) ≡ false
    run_is_present = lacks_less now now (run ∷ []) (run ∷ rest) refl (λ page is. is) of_first (λ page. refl) may.present

    fewer : length (new_in_runs now (run ∷ [])) ≤ length (new_in_runs now (run ∷ rest))
    fewer =
        let one = length_twice (is_in_runs (run ∷ [])) (λ page. is_none (pinned_frame now page))
        (flat_map pages_of (rows_of now)) in
        let all = length_twice (is_in_runs (run ∷ rest)) (λ page. is_none (pinned_frame now page))
        (flat_map pages_of (rows_of now)) in
        let less = less_each (λ page. is_none (pinned_frame now page) && is_in_runs (run ∷ []) page) (λ page. false)
        (λ page. is_none (pinned_frame now page) && is_in_runs (run ∷ rest) page) (λ page. false)
        (flat_map pages_of (rows_of now)) (λ page. no_more (is_none (pinned_frame now page))
        (covers run page.memory page.index) (is_in_runs rest page)) in
        omega (arith, one, all, less)
      where
        no_more : (n x y : Bool)
            → cond (n && (x || false)) 1 0 + cond false 1 0 ≤ cond (n && (x || y)) 1 0 + cond false 1 0
        no_more true true y = omega arith
        no_more true false true = omega arith
        no_more true false false = omega arith
        no_more false x y = omega arith

    pub run_has_room : IfSome (find (λ (row : MemoryObject). eqb row.number run.number) (rows_of now))
        (λ row. has_room now row.user (length (new_in_runs now (run ∷ []))) ≡ true)
    run_has_room = by_row (find (λ (row : MemoryObject). eqb row.number run.number) (rows_of now)) refl
      where
        by_row : (o : Option MemoryObject)
            → find (λ (row : MemoryObject). eqb row.number run.number) (rows_of now) ≡ o
            → IfSome o (λ row. has_room now row.user (length (new_in_runs now (run ∷ []))) ≡ true)
        by_row None is = tt
        by_row (Some row) is =
            let both = found_passes (λ (row : MemoryObject). not (eqb run.number row.number
            || list_any (λ (r : PageRun). eqb r.number row.number) rest) || eqb row.user.0 may.user.0)
            (λ (row : MemoryObject). eqb row.number run.number) (rows_of now) row may.own is in
            let same = owner row both.1 both.0 in
            let P : UserNo → Type 0 = λ user. has_room now user (length (new_in_runs now (run ∷ []))) ≡ true in
            let less = fewer in
            subst P (sym same) (room_less now now may.user (length (new_in_runs now (run ∷ rest)))
            (length (new_in_runs now (run ∷ []))) refl (omega (arith, less)) may.room)
          where
            same_user : (a b : UserNo) → eqb a.0 b.0 ≡ true → a ≡ b
            same_user a b is = ap (λ n. let user : UserNo = record { 0 = n } in user) (eqb-true a.0 b.0 is)

            owner : (row : MemoryObject) → eqb row.number run.number ≡ true
                → (not (eqb run.number row.number || list_any (λ (r : PageRun). eqb r.number row.number) rest)
                || eqb row.user.0 may.user.0) ≡ true → row.user ≡ may.user
            owner row named own =
                let other : eqb run.number row.number ≡ true =
                eq-eqb run.number row.number (sym (eqb-true row.number run.number named)) in
                same_user row.user may.user (rw other at own)

    pub run_is_few : (page : ObjectPage) → covers run page.memory page.index ≡ true
        → access_pins now page + 1 < 2 ^ 64
    run_is_few page has =
        let all = times_first run rest page in
        let here = counts_one (covers run page.memory page.index) has in
        let most = may.few page (omega (arith, all, here)) in
        omega (arith, all, most, here)

    pub first_run_lies : run_lies now run ≡ true
    first_run_lies = (and_true (run_lies now run) (list_all (run_lies now) rest) may.lies).0

module _ (run : PageRun) (rest done : List PageRun) (first now next : Memory) (before between after : FramePool)
    (pinned : ArePinned done first now before between) (may : MayPin (run ∷ rest) now between.holds)
    (more : HasRunPinned run now next) (settles : Settles now next between after) where
  pub pinned_further : ArePinned (done ++ run ∷ []) first next before after
  pinned_further = record {
    rows = more.rows ∙ pinned.rows;
    areas = λ number. more.areas number ∙ pinned.areas number;
    pins = λ number. more.pins number ∙ pinned.pins number;
    access = λ page.
        let all = times_last done run page in
        let one = more.access page in
        let some = pinned.access page in
        omega (arith, all, one, some);
    settles = settles_through first now next before between after more.rows pinned.settles settles
        (λ page was is. still_pinned first now page pinned.rows
        (let same = pinned.pins page.memory in omega (arith, same))
        (let some = pinned.access page in omega (arith, some)) was);
  }

  pub may_pin_rest : MayPin rest next after.holds
  may_pin_rest = record {
    user = may.user;
    own = own_later may.user run rest now next more.rows may.own;
    lies = lie_still rest now next more.rows (and_true (run_lies now run) (list_all (run_lies now) rest) may.lies).1;
    present = lacks_less now next rest (run ∷ rest) more.rows (keeps run now next between after may.only more settles)
        (λ page is. or_right (covers run page.memory page.index) (is_in_runs rest page) is)
        (λ page. now_same now next page more.rows settles.pages) may.present;
    room = room_stays run rest now next between after may.user may.only more settles may.own may.room;
    few = λ page some.
        let all = times_first run rest page in
        let one = more.access page in
        let most = may.few page (omega (arith, all, some)) in
        omega (arith, all, one, most);
    backed = settles.holds.backed may.backed;
    invariant = settles.kept;
    only = only_after now next between after settles;
  }

-- ---- areas

-- so many of the areas have their pins, and the others may
pub record Pinning (span : Bounds) (all left : List Area) (count : ℕ) (first now : Memory)
    (before between : FramePool) : Type 0 where
  pub done : List Area
  pub split : done ++ left ≡ all
  pub counted : count ≡ length done
  pub met : list_all (λ (area : Area). meets area.span span) left ≡ true
  pub lies : list_all (run_lies now) (runs_in span done) ≡ true
  pub pinned : ArePinned (runs_in span done) first now before between
  pub may : MayPin (runs_in span left) now between.holds

pub pinning_first : (span : Bounds) (all : List Area) (first : Memory) (before : FramePool)
    → list_all (λ (area : Area). meets area.span span) all ≡ true → MayPin (runs_in span all) first before.holds
    → Pinning span all all 0 first first before before
pinning_first span all first before met may = record {
  done = [];
  split = refl;
  counted = refl;
  met = met;
  lies = refl;
  pinned = none_pinned first before (runs_in span all) may;
  may = may;
}

all_last : {X : Type 0} (p : X → Bool) (xs : List X) (x : X) → list_all p xs ≡ true → p x ≡ true
    → list_all p (xs ++ x ∷ []) ≡ true
all_last p [] x all is = both_true _ _ is refl
all_last p (y ∷ xs) x all is =
    let parts = and_true (p y) (list_all p xs) all in
    both_true _ _ parts.0 (all_last p xs x parts.1 is)

length_last : {X : Type 0} (xs : List X) (x : X) → length (xs ++ x ∷ []) ≡ length xs + 1
length_last [] x = refl
length_last (y ∷ xs) x = let rest = length_last xs x in omega (arith, rest)

pub pinning_further : (span : Bounds) (all rest : List Area) (area : Area) (count : ℕ) (first now next : Memory)
    (before between after : FramePool) → Pinning span all (area ∷ rest) count first now before between
    → HasRunPinned (run_in span area) now next → Settles now next between after
    → Pinning span all rest (count + 1) first next before after
pinning_further span all rest area count first now next before between after p more settles =
    let one = pinned_further (run_in span area) (runs_in span rest) (runs_in span p.done) first now next before between
    after p.pinned p.may more settles in
    let long = length_last p.done area in
    let counted = p.counted in
    record {
      done = p.done ++ area ∷ [];
      split = moved_over p.done rest area ∙ p.split;
      counted = omega (arith, long, counted);
      met = (and_true (meets area.span span) (list_all (λ (a : Area). meets a.span span) rest) p.met).1;
      lies = rw (runs_last span p.done area) (all_last (run_lies next) (runs_in span p.done) (run_in span area)
          (lie_still (runs_in span p.done) now next more.rows p.lies)
          (and_true (run_lies next (run_in span area)) true (lie_still (run_in span area ∷ []) now next more.rows
          (both_true _ _ (first_run_lies (run_in span area) (runs_in span rest) now between.holds p.may) refl))).0);
      pinned = rw (runs_last span p.done area) one;
      may = may_pin_rest (run_in span area) (runs_in span rest) (runs_in span p.done) first now next before between
          after p.pinned p.may more settles;
    }

pub pinning_last : (span : Bounds) (all left : List Area) (count : ℕ) (first now : Memory) (before between : FramePool)
    → Pinning span all left count first now before between → left ≡ []
    → ArePinned (runs_in span all) first now before between
pinning_last span all left count first now before between p none =
    rw (sym (nothing_behind p.done) ∙ ap (λ (l : List Area). p.done ++ l) (sym none) ∙ p.split) at p.pinned
  where
    nothing_behind : (xs : List Area) → xs ++ [] ≡ xs
    nothing_behind [] = refl
    nothing_behind (x ∷ xs) = ap (λ (l : List Area). x ∷ l) (nothing_behind xs)

-- so many areas, and one more, are no more than there are
pub counts_one_more : (span : Bounds) (all left rest : List Area) (area : Area) (count : ℕ) (first now : Memory)
    (before between : FramePool) → Pinning span all left count first now before between → left ≡ area ∷ rest
    → length all < 2 ^ 64 → Fits w64 (count + 1)
counts_one_more span all left rest area count first now before between p some few =
    let counted = p.counted in
    let whole = sym (length-append p.done left) ∙ ap (λ (l : List Area). length l) p.split in
    let longer : length left ≡ suc (length rest) = ap (λ (l : List Area). length l) some in
    omega (arith, counted, whole, longer, few)

-- what the calls for the first of the areas that are left ask
module _ (span : Bounds) (all rest : List Area) (area : Area) (count : ℕ) (first now : Memory)
    (before between : FramePool) (p : Pinning span all (area ∷ rest) count first now before between) (run : PageRun)
    (is : run ≡ run_in span area) where
  pub next_meets : meets area.span span ≡ true
  next_meets = (and_true (meets area.span span) (list_all (λ (a : Area). meets a.span span) rest) p.met).0

  pub next_lies : run_lies now run ≡ true
  next_lies = rw is (first_run_lies (run_in span area) (runs_in span rest) now between.holds p.may)

  pub next_present : list_any (λ page. is_none (frame_now now page)) (new_in_runs now (run ∷ [])) ≡ false
  next_present = rw is (run_is_present (run_in span area) (runs_in span rest) now between.holds p.may)

  pub next_has_room : IfSome (find (λ (row : MemoryObject). eqb row.number run.number) (rows_of now))
      (λ row. has_room now row.user (length (new_in_runs now (run ∷ []))) ≡ true)
  next_has_room =
      let R : PageRun → Type 0 = λ r. IfSome (find (λ (row : MemoryObject). eqb row.number r.number) (rows_of now))
      (λ row. has_room now row.user (length (new_in_runs now (r ∷ []))) ≡ true) in
      subst R (sym is) (run_has_room (run_in span area) (runs_in span rest) now between.holds p.may)

  pub next_is_few : (page : ObjectPage) → covers run page.memory page.index ≡ true → access_pins now page + 1 < 2 ^ 64
  next_is_few page has =
      run_is_few (run_in span area) (runs_in span rest) now between.holds p.may page (rw is at has)

  -- a page of it that no access pins is one of all runs, and none pinned it before
  pub unpinned_in : (page : ObjectPage) × (covers run page.memory page.index ≡ true) × (access_pins now page ≡ 0)
      → (page : ObjectPage) × (is_in_runs (runs_in span all) page ≡ true) × (access_pins first page ≡ 0)
  unpinned_in (page, has, none) = (
    page,
    subst (λ (l : List Area). is_in_runs (runs_in span l) page ≡ true) p.split (among p.done),
    (let some = p.pinned.access page in omega (arith, some, none)),
  )
    where
      among : (done : List Area) → is_in_runs (runs_in span (done ++ area ∷ rest)) page ≡ true
      among [] =
          ap (λ (b : Bool). b || is_in_runs (runs_in span rest) page) (ap (λ (r : PageRun). covers r page.memory
          page.index) (sym is) ∙ has)
      among (a ∷ done) = or_right (covers (run_in span a) page.memory page.index) _ (among done)
