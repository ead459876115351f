-- Memory objects pinned one after another.
use Rattle.std.proofs.Common.{◌≡◌, ◌≢◌, ℕ, ◌+◌, ◌^◌, ◌≤◌, Bool, true, false, cond, eqb, ltb, leb, not, ◌&&◌, ◌||◌, List}
use Rattle.std.proofs.Common.{[], ◌∷◌, ◌++◌, length, get_or, map, refl, sym, ap, ◌∙◌, subst, arith, ⊎_elim}
use Rattle.std.specs.List.{filter_map, list_any, range_with_len, slice_get, sum_by}
use Rattle.std.proofs.lemmas.Bool.{and_parts, cases_eq}
use Rattle.std.proofs.lemmas.Bool.Decides.{nat_tests}
use Rattle.std.proofs.lemmas.List.{get_or_default}
use Rattle.std.proofs.lemmas.List.Sums.{AllPass-from_list_all, list_all-from_AllPass, sum_by-append, sum_by-cons}
use Rattle.iofd_words.specs.declared.numbers.FrameNo.{FrameNo}
use Rattle.iofd_words.specs.declared.rows.UserPage.{UserPage}
use Rattle.frame_memory.specs.Pool.{FramePool, may_hold}
use Rattle.mem_account.specs.Accounts.{has_room, held_by, limit_of}
use Rattle.mem_account.specs.declared.Account.{Account}
use Rattle.memory_objects.specs.Backed.{AccountsMove, CanPin, HoldsMove}
use Rattle.pinned_pages.specs.Holds.{times}
use Rattle.memory_objects.specs.Objects.{MemoryEntry, all_pinned, can_pin, has_memory, have_areas, is_of, new_pages}
use Rattle.memory_objects.specs.Objects.{pinned_by, pinned_more, pins_on, times_of, with_pages}
use Rattle.pinned_pages.specs.Pages.{ObjectPages, access_frame, count_of_others, held_frames, new_count, own_frames_now}
use Rattle.pinned_pages.specs.Pages.{pinned_count, unless}
use Rattle.pinned_pages.proofs.HoldsMove.{times_few}
use Rattle.memory_objects.proofs.Moved.{same_users}
use Rattle.memory_objects.proofs.OneObject.{all_changed, pass_parts, sum_by-map, sum_le, sum_pair, times_more}
use Rattle.memory_objects.proofs.PinOne.{has_room_fewer, may_hold_fewer, no_more, pin_at}
use Rattle.pinned_pages.proofs.Runs.{few_others, split_length, split_times}

-- ---- lists of numbers

pub map_itself : (F : MemoryEntry → MemoryEntry) → ((o : MemoryEntry) → F o ≡ o) → (objects : List MemoryEntry)
    → map F objects ≡ objects
map_itself F same [] = refl
map_itself F same (o ∷ objects) = rw (same o) (ap (λ rest. o ∷ rest) (map_itself F same objects))

pub map_after : (F G H : MemoryEntry → MemoryEntry) → ((o : MemoryEntry) → G (F o) ≡ H o) → (objects : List MemoryEntry)
    → map G (map F objects) ≡ map H objects
map_after F G H same [] = refl
map_after F G H same (o ∷ objects) = rw (same o) (ap (λ rest. H o ∷ rest) (map_after F G H same objects))

pub times_append : (number : ℕ) (done next : List ℕ)
    → times_of number (done ++ next) ≡ times_of number done + times_of number next
times_append number done next = sum_by-append (λ m. cond (eqb m number) 1 0) done next

-- ---- pinned so many times, and so many times again

frames_again : (own frames : List FrameNo) (pins first next : ℕ)
    → cond (eqb (pins + first) 0 && not (eqb next 0)) own (cond (eqb pins 0 && not (eqb first 0)) own frames) ≡ cond
    (eqb pins 0 && not (eqb (first + next) 0)) own frames
frames_again own frames pins first next =
    ⊎_elim
    (λ (none : first ≡ 0). rw none (by_none pins next))
    (λ (some : first ≢ 0).
    let one : eqb (pins + first) 0 ≡ false = grind (arith, nat_tests) in
    let two : eqb first 0 ≡ false = grind (arith, nat_tests) in
    let three : eqb (first + next) 0 ≡ false = grind (arith, nat_tests) in
    rw (one, two, three) refl)
    (cases_eq first 0)
  where
    by_none : (pins next : ℕ) → cond (eqb (pins + 0) 0 && not (eqb next 0)) own (cond (eqb pins 0 && false) own frames)
        ≡ cond (eqb pins 0 && not (eqb (0 + next) 0)) own frames
    by_none pins next =
        let a : pins + 0 ≡ pins = omega arith in
        let b : 0 + next ≡ next = omega arith in
        rw (a, b) (by_bool (eqb pins 0))
      where
        by_bool : (b : Bool) → cond (b && not (eqb next 0)) own (cond (b && false) own frames) ≡ cond (b
            && not (eqb next 0)) own frames
        by_bool true = refl
        by_bool false = refl

module _ (rows : List UserPage) where
  pinned_again : (pages : ObjectPages) (first next : ℕ)
      → pinned_more rows next (pinned_more rows first pages) ≡ pinned_more rows (first + next) pages
  pinned_again pages first next =
      let pins : pages.table_pins + first + next ≡ pages.table_pins + (first + next) = omega arith in
      let frames = frames_again (own_frames_now pages rows) pages.frames pages.table_pins first next in
      λ i. record pages { table_pins = pins i; frames = frames i }

  pub pinned_none : (objects : List MemoryEntry) → objects ≡ all_pinned rows [] objects
  pinned_none objects = sym (map_itself (λ o. with_pages (pinned_more rows 0 o.pages.pages) o)
      (λ o. ap (λ pages. with_pages pages o) (no_more rows o.pages.pages)) objects)

  pub pinned_next : (objects : List MemoryEntry) (done : List ℕ) (n : ℕ)
      → all_pinned rows (n ∷ []) (all_pinned rows done objects) ≡ all_pinned rows (done ++ n ∷ []) objects
  pinned_next objects done n =
      map_after (λ o. with_pages (pinned_more rows (times_of o.number done) o.pages.pages) o) (pin_at rows n)
      (λ o. with_pages (pinned_more rows (times_of o.number (done ++ n ∷ [])) o.pages.pages) o)
      (λ o. rw (times_append o.number done (n ∷ []))
      (ap (λ pages. with_pages pages o) (pinned_again o.pages.pages (times_of o.number done)
      (times_of o.number (n ∷ [])))))
      objects

-- ---- how the counted pages fall

-- how many pages an object counts for, where these numbers are meant
abbrev pub counted : List ℕ → MemoryEntry → ℕ
counted numbers object = cond (list_any (λ m. eqb m object.number) numbers) (new_count object.pages.pages) 0

counted_first : (objects : List MemoryEntry) (n : ℕ) (ns : List ℕ)
    → new_pages objects (n ∷ []) ≤ new_pages objects (n ∷ ns)
counted_first objects n ns = omega (
  arith,
  sum_le (counted (n ∷ [])) (counted (n ∷ ns)) (λ o. 0) objects
      (λ o. by_test (eqb n o.number) (list_any (λ m. eqb m o.number) ns) (new_count o.pages.pages)),
  sum_zero objects,
)
  where
    by_test : (b c : Bool) (k : ℕ) → cond (b || false) k 0 ≤ cond (b || c) k 0 + 0
    by_test true c k = omega arith
    by_test false c k = omega arith

    sum_zero : (objects : List MemoryEntry) → sum_by (λ (o : MemoryEntry). 0) objects ≡ 0
    sum_zero [] = refl
    sum_zero (o ∷ objects) = omega (arith, sum_by-cons (λ (x : MemoryEntry). 0) o objects, sum_zero objects)

-- once more or not at all
once_or_not : (number n : ℕ) (P : ℕ → Bool → Type 0) → P 1 true → P 0 false
    → P (times_of number (n ∷ [])) (eqb n number)
once_or_not number n P once none =
    let counts : times_of number (n ∷ []) ≡ cond (eqb n number) 1 0 = omega (arith, times_more number n []) in
    rw counts (by_bool (eqb n number) once none)
  where
    by_bool : (b : Bool) → P 1 true → P 0 false → P (cond b 1 0) b
    by_bool true once none = once
    by_bool false once none = none

module _ (rows : List UserPage) (n : ℕ) where
  next_count : (ns : List ℕ) (o : MemoryEntry) → counted ns (pin_at rows n o) + counted (n ∷ []) o ≤ counted (n ∷ ns) o
  next_count ns o =
      once_or_not o.number n
      (λ t b. cond (list_any (λ m. eqb m o.number) ns) (new_count (pinned_more rows t o.pages.pages)) 0
      + cond (b || false) (new_count o.pages.pages) 0 ≤ cond (b || list_any (λ m. eqb m o.number) ns)
      (new_count o.pages.pages) 0)
      (let pins : eqb (o.pages.pages.table_pins + 1) 0 ≡ false = grind (arith, nat_tests) in rw pins
      (none_counted (list_any (λ m. eqb m o.number) ns) (new_count o.pages.pages)))
      (let pins : o.pages.pages.table_pins + 0 ≡ o.pages.pages.table_pins = omega arith in rw pins (omega arith))
    where
      none_counted : (b : Bool) (k : ℕ) → cond b 0 0 + k ≤ k
      none_counted true k = omega arith
      none_counted false k = omega arith

  pub fewer_counted : (objects : List MemoryEntry) (ns : List ℕ)
      → new_pages (map (pin_at rows n) objects) ns + new_pages objects (n ∷ []) ≤ new_pages objects (n ∷ ns)
  fewer_counted objects ns = by_list objects
    where
      by_list : (xs : List MemoryEntry) → new_pages (map (pin_at rows n) xs) ns
          + new_pages xs (n ∷ []) ≤ new_pages xs (n ∷ ns)
      by_list xs = omega (
        arith,
        sum_by-map (counted ns) (pin_at rows n) xs,
        sum_pair (λ o. counted ns (pin_at rows n o)) (counted (n ∷ [])) (counted (n ∷ ns)) xs (next_count ns),
      )

  -- a frame of an object pinned once more is named by one of its own pins, or by one of the pages that weren't pinned
  few_more : (o : MemoryEntry) (frame : ℕ)
      → times frame (held_frames (pin_at rows n o).pages.pages) ≤ times frame (held_frames o.pages.pages)
      + counted (n ∷ []) o
  few_more o frame =
      once_or_not o.number n
      (λ t b. times frame (held_frames (pinned_more rows t o.pages.pages)) ≤ times frame (held_frames o.pages.pages)
      + cond (b || false) (new_count o.pages.pages) 0)
      (by_test (eqb o.pages.pages.table_pins 0))
      (let P : ObjectPages → Type 0 = λ p. times frame (held_frames p) ≤ times frame (held_frames o.pages.pages)
      + 0 in subst P (sym (no_more rows o.pages.pages)) (omega arith))
    where
      by_test : (b : Bool) → times frame (held_frames (record o.pages.pages {
        table_pins = o.pages.pages.table_pins + 1;
        frames = cond (b && true) (own_frames_now o.pages.pages rows) o.pages.pages.frames;
      })) ≤ times frame (held_frames o.pages.pages) + cond b (count_of_others o.pages.pages) 0
      by_test true =
          let acc = access_frame o.pages.pages in
          let all = range_with_len 0 o.pages.pages.count in
          let own = slice_get (own_frames_now o.pages.pages rows) in
          let new = split_times frame acc own all in
          let old = split_times frame acc (slice_get o.pages.pages.frames) all in
          let few = few_others acc own all in
          let times = times_few frame (filter_map (λ i. unless (acc i) (own i)) all) in
          omega (arith, new, old, few, times)
      by_test false = omega arith

  pub pins_grow : (objects : List MemoryEntry) (frame : ℕ)
      → pins_on (map (pin_at rows n) objects) frame ≤ pins_on objects frame + new_pages objects (n ∷ [])
  pins_grow objects frame =
      omega (
        arith,
        sum_by-map (λ (o : MemoryEntry). times frame (held_frames o.pages.pages)) (pin_at rows n) objects,
        sum_le (λ o. times frame (held_frames (pin_at rows n o).pages.pages))
            (λ o. times frame (held_frames o.pages.pages)) (counted (n ∷ [])) objects (λ o. few_more o frame),
      )

  more_pinned : (o : MemoryEntry) → pinned_count (pin_at rows n o).pages.pages ≤ pinned_count
      o.pages.pages + counted (n ∷ []) o
  more_pinned o =
      once_or_not o.number n
      (λ t b. pinned_count (pinned_more rows t o.pages.pages) ≤ pinned_count o.pages.pages
      + cond (b || false) (new_count o.pages.pages) 0)
      (by_test (eqb o.pages.pages.table_pins 0))
      (let P : ObjectPages → Type 0 = λ p. pinned_count p ≤ pinned_count o.pages.pages
      + 0 in subst P (sym (no_more rows o.pages.pages)) (omega arith))
    where
      by_test : (b : Bool) → pinned_count (record o.pages.pages {
        table_pins = o.pages.pages.table_pins + 1;
        frames = cond (b && true) (own_frames_now o.pages.pages rows) o.pages.pages.frames;
      }) ≤ pinned_count o.pages.pages + cond b (count_of_others o.pages.pages) 0
      by_test true =
          let acc = access_frame o.pages.pages in
          let all = range_with_len 0 o.pages.pages.count in
          let own = slice_get (own_frames_now o.pages.pages rows) in
          let new = split_length acc own all in
          let old = split_length acc (slice_get o.pages.pages.frames) all in
          let few = few_others acc own all in
          omega (arith, new, old, few)
      by_test false = omega arith

  pub pinned_grow : (objects : List MemoryEntry) (user : ℕ)
      → pinned_by (map (pin_at rows n) objects) user ≤ pinned_by objects user + new_pages objects (n ∷ [])
  pinned_grow objects user =
      omega (
        arith,
        sum_by-map (λ (o : MemoryEntry). cond (eqb o.pages.pages.user.0 user) (pinned_count o.pages.pages) 0)
            (pin_at rows n) objects,
        sum_le (λ o. cond (eqb o.pages.pages.user.0 user) (pinned_count (pin_at rows n o).pages.pages) 0)
            (λ o. cond (eqb o.pages.pages.user.0 user) (pinned_count o.pages.pages) 0) (counted (n ∷ [])) objects
            (λ o. by_test (eqb o.pages.pages.user.0 user) (pinned_count (pin_at rows n o).pages.pages)
            (pinned_count o.pages.pages) (counted (n ∷ []) o) (more_pinned o)),
      )
    where
      by_test : (b : Bool) (new old more : ℕ) → new ≤ old + more → cond b new 0 ≤ cond b old 0 + more
      by_test true new old more le = omega arith
      by_test false new old more le = omega arith

  -- ---- what is asked of the next

  still_can : (o : MemoryEntry) → can_pin rows o ≡ true → can_pin rows (pin_at rows n o) ≡ true
  still_can o can =
      once_or_not o.number n
      (λ t b. can_pin rows (with_pages (pinned_more rows t o.pages.pages) o) ≡ true)
      (let pins : eqb (o.pages.pages.table_pins + 1) 0 ≡ false = grind (arith, nat_tests) in rw pins refl)
      (let P : ObjectPages → Type 0 = λ p. can_pin rows (with_pages p o) ≡ true in subst P
      (sym (no_more rows o.pages.pages)) can)

  still_memory : (o : MemoryEntry) → has_memory o ≡ true → has_memory (pin_at rows n o) ≡ true
  still_memory o enough =
      once_or_not o.number n
      (λ t b. has_memory (with_pages (pinned_more rows t o.pages.pages) o) ≡ true)
      (let pins : eqb (o.pages.pages.table_pins + 1) 0 ≡ false = grind (arith, nat_tests) in rw pins
      (grind (arith, nat_tests)))
      (let P : ObjectPages → Type 0 = λ p. has_memory (with_pages p o) ≡ true in subst P
      (sym (no_more rows o.pages.pages)) enough)

  areas_left : (ns : List ℕ) (objects : List MemoryEntry) → have_areas (n ∷ ns) objects ≡ true
      → have_areas ns (map (pin_at rows n) objects) ≡ true
  areas_left ns [] all = refl
  areas_left ns (o ∷ objects) all =
      let parts = and_parts (leb (o.pages.pages.table_pins + times_of o.number (n ∷ ns)) o.areas)
      (have_areas (n ∷ ns) objects) all in
      let one = times_more o.number n [] in
      let more = times_more o.number n ns in
      let here : leb (o.pages.pages.table_pins + times_of o.number (n ∷ []) + times_of o.number ns) o.areas ≡ true =
      grind (arith, nat_tests) in
      rw here (areas_left ns objects parts.1)

areas_first : (n : ℕ) (ns : List ℕ) (objects : List MemoryEntry) → have_areas (n ∷ ns) objects ≡ true
    → have_areas (n ∷ []) objects ≡ true
areas_first n ns [] all = refl
areas_first n ns (o ∷ objects) all =
    let parts = and_parts (leb (o.pages.pages.table_pins + times_of o.number (n ∷ ns)) o.areas)
    (have_areas (n ∷ ns) objects) all in
    let one = times_more o.number n [] in
    let more = times_more o.number n ns in
    let here : leb (o.pages.pages.table_pins + times_of o.number (n ∷ [])) o.areas ≡ true = grind (arith, nat_tests) in
    rw here (areas_first n ns objects parts.1)

-- a pool of which no frame has more than so many holds more
may_hold_moved : (old new : List ℕ) (more few many : ℕ) → length new ≡ length old
    → ((frame : ℕ) → get_or new frame 0 ≤ get_or old frame 0 + more) → few + more ≤ many → may_hold old many ≡ true
    → may_hold new few ≡ true
may_hold_moved old new more few many same le fit may =
    list_all-from_AllPass (λ held. ltb (held + few) (2 ^ 128)) new
    (λ k d below.
    let before = AllPass-from_list_all (λ held. ltb (held + many) (2 ^ 128)) old may k 0 (omega (arith, below, same)) in
    let now = get_or_default new k d 0 below in
    let grown = le k in
    rw now (grind (arith, nat_tests)))

pub can_first : (objects : List MemoryEntry) (n : ℕ) (ns : List ℕ) (rows : List UserPage) (pool_holds : List ℕ)
    (accounts : List Account) → CanPin objects (n ∷ ns) rows pool_holds accounts
    → CanPin objects (n ∷ []) rows pool_holds accounts
can_first objects n ns rows pool_holds accounts can = record {
  within = can.within;
  present = (pass_parts (can_pin rows) objects n ns can.present).0;
  memory = (pass_parts has_memory objects n ns can.memory).0;
  fits = record {
    user = can.fits.user;
    known = can.fits.known;
    own = (pass_parts (is_of can.fits.user) objects n ns can.fits.own).0;
    room = has_room_fewer accounts can.fits.user (new_pages objects (n ∷ [])) (new_pages objects (n ∷ ns))
        (counted_first objects n ns) can.fits.room;
  };
  holds = may_hold_fewer pool_holds (new_pages objects (n ∷ [])) (new_pages objects (n ∷ ns))
      (counted_first objects n ns) can.holds;
  areas = areas_first n ns objects can.areas;
}

room_left : (before after : List Account) (user new few many pinned_old pinned_new : ℕ)
    → limit_of after user ≡ limit_of before user → held_by after user + pinned_old ≡ held_by before user + pinned_new
    → pinned_new ≤ pinned_old + new → few + new ≤ many → has_room before user many ≡ true
    → has_room after user few ≡ true
room_left before after user new few many pinned_old pinned_new limit held grow fewer room = grind (arith, nat_tests)

pub can_next : (objects : List MemoryEntry) (n : ℕ) (ns : List ℕ) (rows : List UserPage) (before after : FramePool)
    (old new : List Account) → CanPin objects (n ∷ ns) rows before.holds old
    → HoldsMove objects (all_pinned rows (n ∷ []) objects) before after
    → AccountsMove objects (all_pinned rows (n ∷ []) objects) old new
    → CanPin (all_pinned rows (n ∷ []) objects) ns rows after.holds new
can_next objects n ns rows before after old new can pool accounts = record {
  within = rw pool.count can.within;
  present = all_changed (pin_at rows n) (λ o. refl) (can_pin rows) (still_can rows n) objects ns
      (pass_parts (can_pin rows) objects n ns can.present).1;
  memory = all_changed (pin_at rows n) (λ o. refl) has_memory (still_memory rows n) objects ns
      (pass_parts has_memory objects n ns can.memory).1;
  fits = record {
    user = can.fits.user;
    known = same_users old new accounts.count can.fits.user ∙ can.fits.known;
    own = all_changed (pin_at rows n) (λ o. refl) (is_of can.fits.user) (λ o own. own) objects ns
        (pass_parts (is_of can.fits.user) objects n ns can.fits.own).1;
    room = room_left old new can.fits.user (new_pages objects (n ∷ []))
        (new_pages (all_pinned rows (n ∷ []) objects) ns) (new_pages objects (n ∷ ns)) (pinned_by objects can.fits.user)
        (pinned_by (all_pinned rows (n ∷ []) objects) can.fits.user)
        (accounts.limits can.fits.user) (accounts.held can.fits.user can.fits.known)
        (pinned_grow rows n objects can.fits.user) (fewer_counted rows n objects ns) can.fits.room;
  };
  holds = may_hold_moved before.holds after.holds (new_pages objects (n ∷ []))
      (new_pages (all_pinned rows (n ∷ []) objects) ns) (new_pages objects (n ∷ ns)) pool.count
      (λ frame. let moved = pool.holds frame in let grown = pins_grow rows n objects frame in
      omega (arith, moved, grown))
      (fewer_counted rows n objects ns) can.holds;
  areas = areas_left rows n ns objects can.areas;
}
