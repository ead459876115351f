-- After a pin by an access of a run its user has room for the runs that are left: no page is counted twice.
use Rattle.std.proofs.Common.{◌≡◌, ℕ, ◌+◌, ◌≤◌, Bool, true, false, cond, ◌&&◌, ◌||◌, not, eqb, ltb, leb, Option, Some}
use Rattle.std.proofs.Common.{None}
use Rattle.std.proofs.Common.{List, [], ◌∷◌, length, map, refl, ap, sym, ◌∙◌, arith}
use Rattle.std.specs.Prelude.{is_none, is_some}
use Rattle.std.specs.List.{count_by, filter, flat_map, list_all, list_any, range_with_len}
use Rattle.std.proofs.lemmas.Bool.Decides.{nat_tests}
use Rattle.std.proofs.lemmas.List.Concat.{flat_map-cons}
use Rattle.std.proofs.lemmas.List.Sums.{sum_by-append}
use Rattle.frame_memory.specs.Pool.{FramePool}
use Rattle.iofd_rows.proofs.Bools.{and_true, clash, not_true, or_none}
use Rattle.iofd_rows.proofs.Found.{all_weaker}
use Rattle.iofd_rows.proofs.ListTests.{any_weaker, false_else}
use Rattle.iofd_words.specs.Files.{numbered}
use Rattle.iofd_words.specs.Pins.{ObjectPage, pages_of}
use Rattle.iofd_words.specs.declared.numbers.FrameNo.{FrameNo}
use Rattle.iofd_words.specs.declared.numbers.UserNo.{UserNo}
use Rattle.iofd_words.specs.declared.rows.MemoryObject.{MemoryObject}
use Rattle.memory_objects.specs.Runs.{covers}
use Rattle.memory_objects.specs.declared.run.PageRun.{PageRun}
use Rattle.user_memory.specs.Changes.{HasRunPinned, Settles}
use Rattle.user_memory.specs.Memory.{Memory, access_pins, has_room, held_by, is_in_runs, is_pinned, new_in_runs}
use Rattle.user_memory.specs.Memory.{pinned_frame, rows_of, table_pins}
use Rattle.user_memory_rows.proofs.CountBy.{count-cons}
use Rattle.user_memory_rows.specs.Shown.{has_page}
use Rattle.access_pages.proofs.Through.{still_pinned}
use Rattle.access_pages.specs.Runs.{OnlyPinned, are_own}

-- ---- counts

-- how many pass two filters
pub length_twice : {X : Type 0} (r p : X → Bool) (xs : List X)
    → length (filter r (filter p xs)) ≡ count_by (λ x. p x && r x) xs
length_twice r p [] = refl
length_twice r p (x ∷ xs) =
    by_tests (p x) (r x) refl (length_twice r p xs) ∙ sym (count-cons (λ y. p y && r y) x xs)
  where
    by_tests : (a b : Bool) → r x ≡ b → length (filter r (filter p xs)) ≡ count_by (λ y. p y && r y) xs
        → length (filter r (cond a (x ∷ filter p xs) (filter p xs)))
        ≡ cond (a && r x) 1 0 + count_by (λ y. p y && r y) xs
    by_tests true true is rest = rw is (omega (arith, rest))
    by_tests true false is rest = rw is (omega (arith, rest))
    by_tests false b is rest = omega (arith, rest)

-- of each row no more is counted
pub less_each : {X : Type 0} (a b c d : X → Bool) (xs : List X)
    → ((x : X) → cond (a x) 1 0 + cond (b x) 1 0 ≤ cond (c x) 1 0 + cond (d x) 1 0)
    → count_by a xs + count_by b xs ≤ count_by c xs + count_by d xs
less_each a b c d [] each = omega arith
less_each a b c d (x ∷ xs) each =
    let first = each x in
    let rest = less_each a b c d xs each in
    let one = count-cons a x xs in
    let two = count-cons b x xs in
    let three = count-cons c x xs in
    let four = count-cons d x xs in
    omega (arith, first, rest, one, two, three, four)

counts_none : (b : Bool) → b ≡ false → cond b 1 0 ≤ 0
counts_none b is = rw is (omega arith)

none_in : (p : ObjectPage → Bool) (number : ℕ) (is : List ℕ)
    → ((i : ℕ) → p (record { memory = number; index = i }) ≡ false)
    → count_by p (map (λ i. record { memory = number; index = i }) is) ≤ 0
none_in p number [] none = omega arith
none_in p number (i ∷ is) none =
    let one = count-cons p (record { memory = number; index = i })
    (map (λ k. record { memory = number; index = k }) is) in
    let here = counts_none (p (record { memory = number; index = i })) (none i) in
    let rest = none_in p number is none in
    omega (arith, one, here, rest)

pages_first : (p : ObjectPage → Bool) (row : MemoryObject) (rows : List MemoryObject)
    → count_by p (flat_map pages_of (row ∷ rows))
    ≡ count_by p (pages_of row) + count_by p (flat_map pages_of rows)
pages_first p row rows =
    ap (count_by p) (flat_map-cons pages_of row rows)
    ∙ sum_by-append (λ page. cond (p page) 1 0) (pages_of row) (flat_map pages_of rows)

-- no more is counted of all pages, where the first and the third count those of some rows alone, and the second none
-- of others
less_over : (ours : MemoryObject → Bool) (named : ℕ → Bool) (a b c d : ObjectPage → Bool) (rows : List MemoryObject)
    → ((page : ObjectPage) → cond (a page) 1 0 + cond (b page) 1 0 ≤ cond (c page) 1 0 + cond (d page) 1 0)
    → ((page : ObjectPage) → b page ≡ true → named page.memory ≡ true)
    → list_all (λ (row : MemoryObject). not (named row.number) || ours row) rows ≡ true
    → count_by a (flat_map pages_of (filter ours rows)) + count_by b (flat_map pages_of rows)
    ≤ count_by c (flat_map pages_of (filter ours rows)) + count_by d (flat_map pages_of rows)
less_over ours named a b c d [] each names own = omega arith
less_over ours named a b c d (row ∷ rows) each names own =
    let parts = and_true (not (named row.number) || ours row)
    (list_all (λ (r : MemoryObject). not (named r.number) || ours r) rows) own in
    by_owner (ours row) parts.0 (less_over ours named a b c d rows each names parts.1)
  where
    by_owner : (mine : Bool) → (not (named row.number) || mine) ≡ true
        → count_by a (flat_map pages_of (filter ours rows)) + count_by b (flat_map pages_of rows)
        ≤ count_by c (flat_map pages_of (filter ours rows)) + count_by d (flat_map pages_of rows)
        → count_by a (flat_map pages_of (cond mine (row ∷ filter ours rows) (filter ours rows)))
        + count_by b (flat_map pages_of (row ∷ rows))
        ≤ count_by c (flat_map pages_of (cond mine (row ∷ filter ours rows) (filter ours rows)))
        + count_by d (flat_map pages_of (row ∷ rows))
    by_owner true is rest =
        let here = less_each a b c d (pages_of row) each in
        let one = pages_first a row (filter ours rows) in
        let two = pages_first b row rows in
        let three = pages_first c row (filter ours rows) in
        let four = pages_first d row rows in
        omega (arith, here, one, two, three, four, rest)
    by_owner false is rest =
        let unnamed = not_true (named row.number) (sym (or_none (not (named row.number))) ∙ is) in
        let none = none_in b row.number (range_with_len 0 row.count)
        (λ i. false_else (b (record { memory = row.number; index = i }))
        (λ has. clash (named row.number) unnamed (names (record { memory = row.number; index = i }) has))) in
        let two = pages_first b row rows in
        let four = pages_first d row rows in
        omega (arith, none, two, four, rest)

-- ---- frames

module _ (run : PageRun) (now next : Memory) (between after : FramePool) (only : OnlyPinned now)
    (more : HasRunPinned run now next) (settles : Settles now next between after) where
  -- what is pinned stays so
  pub keeps : (page : ObjectPage) → is_none (pinned_frame next page) ≡ true → is_none (pinned_frame now page) ≡ true
  keeps page none = by_pins (is_pinned now page) refl
    where
      by_pins : (b : Bool) → is_pinned now page ≡ b → is_none (pinned_frame now page) ≡ true
      by_pins false is = ap is_none (only page is)
      by_pins true is =
          let still = still_pinned now next page more.rows
          (let same = more.pins page.memory in omega (arith, same))
          (let one = more.access page in omega (arith, one)) is in
          let same : pinned_frame next page ≡ pinned_frame now page = settles.frames page ∙ rw (still, is) refl in
          ap is_none (sym same) ∙ none

  pinned_alike : (page : ObjectPage) → covers run page.memory page.index ≡ false
      → is_pinned next page ≡ is_pinned now page
  pinned_alike page other =
      let none = counts_none (covers run page.memory page.index) other in
      let one = more.access page in
      let accesses : access_pins next page ≡ access_pins now page = omega (arith, none, one) in
      ap (λ (l : List MemoryObject). has_page l page
      && (ltb 0 (table_pins next page.memory) || ltb 0 (access_pins next page))) more.rows
      ∙ ap (λ n. has_page (rows_of now) page && (ltb 0 n || ltb 0 (access_pins next page))) (more.pins page.memory)
      ∙ ap (λ n. has_page (rows_of now) page && (ltb 0 (table_pins now page.memory) || ltb 0 n)) accesses

  -- what is pinned anew is the run's
  anew : (page : ObjectPage) → is_none (pinned_frame now page) ≡ true → is_none (pinned_frame next page) ≡ false
      → covers run page.memory page.index ≡ true
  anew page none some = by_run (covers run page.memory page.index) refl
    where
      by_run : (b : Bool) → covers run page.memory page.index ≡ b → b ≡ true
      by_run true is = refl
      by_run false is = absurd (clash (is_none (pinned_frame next page)) some
          (by_pins (is_pinned now page) refl (pinned_alike page is)))
        where
          by_pins : (x : Bool) → is_pinned now page ≡ x → is_pinned next page ≡ is_pinned now page
              → is_none (pinned_frame next page) ≡ true
          by_pins true was same =
              let here : pinned_frame next page ≡ pinned_frame now page =
              settles.frames page ∙ rw (same, was) refl in
              ap is_none here ∙ none
          by_pins false was same =
              let here : pinned_frame next page ≡ None = settles.frames page ∙ rw (same, was) refl in
              ap is_none here

  -- each page is pinned or new at most as often as it was
  no_more : (rest : List PageRun) (page : ObjectPage) → cond (is_some (pinned_frame next page)) 1 0
      + cond (is_none (pinned_frame next page) && is_in_runs rest page) 1 0
      ≤ cond (is_some (pinned_frame now page)) 1 0
      + cond (is_none (pinned_frame now page) && is_in_runs (run ∷ rest) page) 1 0
  no_more rest page = by_frames (pinned_frame next page) (pinned_frame now page)
      (covers run page.memory page.index) (is_in_runs rest page) (keeps page) (anew page)
    where
      by_frames : (x y : Option FrameNo) (k r : Bool) → (is_none x ≡ true → is_none y ≡ true)
          → (is_none y ≡ true → is_none x ≡ false → k ≡ true)
          → cond (is_some x) 1 0 + cond (is_none x && r) 1 0
          ≤ cond (is_some y) 1 0 + cond (is_none y && (k || r)) 1 0
      by_frames None None true true keep new = omega arith
      by_frames None None true false keep new = omega arith
      by_frames None None false true keep new = omega arith
      by_frames None None false false keep new = omega arith
      by_frames None (Some f) k r keep new = let is = keep refl in cc
      by_frames (Some e) None k r keep new = let is = new refl refl in rw is (omega arith)
      by_frames (Some e) (Some f) k r keep new = omega arith

-- ---- room

own_rest : (user : UserNo) (run : PageRun) (rest : List PageRun) (m : Memory) → are_own user (run ∷ rest) m ≡ true
    → are_own user rest m ≡ true
own_rest user run rest m own = all_weaker
    (λ (row : MemoryObject). not (eqb run.number row.number
    || list_any (λ (r : PageRun). eqb r.number row.number) rest) || eqb row.user.0 user.0)
    (λ (row : MemoryObject). not (list_any (λ (r : PageRun). eqb r.number row.number) rest) || eqb row.user.0 user.0)
    (rows_of m) (λ row is. weaker (eqb run.number row.number)
    (list_any (λ (r : PageRun). eqb r.number row.number) rest) (eqb row.user.0 user.0) is) own
  where
    weaker : (x y z : Bool) → (not (x || y) || z) ≡ true → (not y || z) ≡ true
    weaker true true z is = is
    weaker true false z is = refl
    weaker false y z is = is

pub own_later : (user : UserNo) (run : PageRun) (rest : List PageRun) (now next : Memory) → rows_of next ≡ rows_of now
    → are_own user (run ∷ rest) now ≡ true → are_own user rest next ≡ true
own_later user run rest now next rows own =
    ap (λ (l : List MemoryObject). list_all (λ (row : MemoryObject).
    not (list_any (λ (r : PageRun). eqb r.number row.number) rest) || eqb row.user.0 user.0) l) rows
    ∙ own_rest user run rest now own

-- who has room for more has room for less
pub room_less : (a b : Memory) (user : UserNo) (k l : ℕ) → b.limits ≡ a.limits
    → held_by b user + l ≤ held_by a user + k → has_room a user k ≡ true → has_room b user l ≡ true
room_less a b user k l limits less has =
    ap (λ (all : List ℕ). elim (numbered all user.0)
    [ Some limit ↦ leb (held_by b user + l) limit | None ↦ false ]) limits
    ∙ by_limit (held_by a user + k) (held_by b user + l) (numbered a.limits user.0) less has
  where
    by_limit : (m n : ℕ) (o : Option ℕ) → n ≤ m → elim o [ Some limit ↦ leb m limit | None ↦ false ] ≡ true
        → elim o [ Some limit ↦ leb n limit | None ↦ false ] ≡ true
    by_limit m n None less is = is
    by_limit m n (Some limit) less is = lower limit is
      where
        lower : (limit : ℕ) → leb m limit ≡ true → leb n limit ≡ true
        lower limit is = search (less, is, arith, nat_tests)

module _ (run : PageRun) (rest : List PageRun) (now next : Memory) (between after : FramePool) (user : UserNo)
    (only : OnlyPinned now) (more : HasRunPinned run now next) (settles : Settles now next between after)
    (own : are_own user (run ∷ rest) now ≡ true) where
  -- the account and what is left to pin are no more than they were
  sums : held_by next user + length (new_in_runs next rest) ≤ held_by now user + length (new_in_runs now (run ∷ rest))
  sums =
      let held : held_by next user ≡ count_by (λ page. is_some (pinned_frame next page))
      (flat_map pages_of (filter (λ (row : MemoryObject). eqb row.user.0 user.0) (rows_of now))) =
      ap (λ (l : List MemoryObject). count_by (λ page. is_some (pinned_frame next page))
      (flat_map pages_of (filter (λ (row : MemoryObject). eqb row.user.0 user.0) l))) more.rows in
      let fresh : length (new_in_runs next rest)
      ≡ count_by (λ page. is_none (pinned_frame next page) && is_in_runs rest page)
      (flat_map pages_of (rows_of now)) =
      length_twice (is_in_runs rest) (λ page. is_none (pinned_frame next page)) (flat_map pages_of (rows_of next))
      ∙ ap (λ (l : List MemoryObject). count_by (λ page. is_none (pinned_frame next page) && is_in_runs rest page)
      (flat_map pages_of l)) more.rows in
      let was = length_twice (is_in_runs (run ∷ rest)) (λ page. is_none (pinned_frame now page))
      (flat_map pages_of (rows_of now)) in
      let all = less_over (λ (row : MemoryObject). eqb row.user.0 user.0)
      (λ n. list_any (λ (r : PageRun). eqb r.number n) rest)
      (λ page. is_some (pinned_frame next page))
      (λ page. is_none (pinned_frame next page) && is_in_runs rest page)
      (λ page. is_some (pinned_frame now page))
      (λ page. is_none (pinned_frame now page) && is_in_runs (run ∷ rest) page)
      (rows_of now) (no_more run now next between after only more settles rest)
      (λ page has. any_weaker (λ (r : PageRun). covers r page.memory page.index)
      (λ (r : PageRun). eqb r.number page.memory) rest (λ r is. (and_true _ _ is).0)
      (and_true (is_none (pinned_frame next page)) (is_in_runs rest page) has).1)
      (own_rest user run rest now own) in
      joined (held_by next user) _ (length (new_in_runs next rest)) _ (held_by now user)
      (length (new_in_runs now (run ∷ rest))) _ held fresh was all
    where
      joined : (h h2 f f2 g w w2 : ℕ) → h ≡ h2 → f ≡ f2 → w ≡ w2 → h2 + f2 ≤ g + w2 → h + f ≤ g + w
      joined h h2 f f2 g w w2 one two three all = omega (arith, one, two, three, all)

  pub room_stays : has_room now user (length (new_in_runs now (run ∷ rest))) ≡ true
      → has_room next user (length (new_in_runs next rest)) ≡ true
  room_stays has = room_less now next user (length (new_in_runs now (run ∷ rest))) (length (new_in_runs next rest))
      settles.limits sums has
