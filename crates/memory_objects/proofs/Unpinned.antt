-- Memory objects unpinned, one after another.
use Rattle.std.proofs.Common.{◌≡◌, ◌≢◌, ℕ, ◌+◌, ◌-◌, ◌<◌, ◌≤◌, Bool, true, false, cond, eqb, leb, not, ◌&&◌, Some}
use Rattle.std.proofs.Common.{None, List, [], ◌∷◌, ◌++◌, length, set, map, refl, sym, ap, ◌∙◌, arith, ⊎_elim}
use Rattle.std.specs.List.{list_all, slice_get}
use Rattle.std.proofs.lemmas.Bool.{and_parts, cases_Bool, cases_eq}
use Rattle.std.proofs.lemmas.Bool.Decides.{nat_tests}
use Rattle.std.proofs.lemmas.List.Sums.{AllPass-from_list_all, get_or-le-sum_by}
use Rattle.iofd_words.specs.declared.numbers.FrameNo.{FrameNo}
use Rattle.frame_memory.specs.Pool.{FramePool}
use Rattle.mem_account.specs.Accounts.{held_by, is_user}
use Rattle.mem_account.specs.declared.Account.{Account}
use Rattle.memory_objects.specs.Backed.{AccountsMove, AreBacked, HoldsMove}
use Rattle.pinned_pages.specs.Holds.{AreHeld, times}
use Rattle.memory_objects.specs.Objects.{MemoryEntry, all_unpinned, are_rising, have_pins, object_at, pinned_by}
use Rattle.memory_objects.specs.Objects.{pinned_less, pins_on, times_of, with_pages}
use Rattle.pinned_pages.specs.Pages.{MemoryPages, ObjectPages, count_of_others, held_frames, last_count, pinned_count}
use Rattle.pinned_pages.specs.Pages.{released}
use Rattle.memory_objects.proofs.Moved.{same_users}
use Rattle.memory_objects.proofs.OneObject.{at_place, map_none, set_by_number, times_more}
use Rattle.memory_objects.proofs.PinAll.{map_after, map_itself, times_append}
use Rattle.memory_objects.proofs.PinOne.{found_number, times_here, times_none}

-- ---- the change, by number

pub no_less : (pages : ObjectPages) → pinned_less 0 pages ≡ pages
no_less pages = by_test (leb pages.table_pins 0)
  where
    by_test : (b : Bool) → record pages {
      table_pins = pages.table_pins - 0;
      frames = cond (b && false) [] pages.frames;
    } ≡ pages
    by_test true =
        let same : pages.table_pins - 0 ≡ pages.table_pins = omega arith in λ i. record pages { table_pins = same i }
    by_test false =
        let same : pages.table_pins - 0 ≡ pages.table_pins = omega arith in λ i. record pages { table_pins = same i }

one_pin_less : (pages : ObjectPages) → 0 < pages.table_pins → pinned_less 1 pages ≡ released pages
one_pin_less pages some =
    let test : leb pages.table_pins 1 ≡ eqb pages.table_pins 1 = grind (arith, nat_tests) in
    rw test (by_test (eqb pages.table_pins 1))
  where
    by_test : (b : Bool) → record pages {
      table_pins = pages.table_pins - 1;
      frames = cond (b && true) [] pages.frames;
    } ≡ record pages {
      table_pins = pages.table_pins - 1;
      frames = cond b [] pages.frames;
    }
    by_test true = refl
    by_test false = refl

-- the change of each object where this number's is pinned once less
abbrev pub unpin_at : ℕ → MemoryEntry → MemoryEntry
unpin_at n object = with_pages (pinned_less (times_of object.number (n ∷ [])) object.pages.pages) object

unpin_other : (n : ℕ) (o : MemoryEntry) → eqb o.number n ≡ false → unpin_at n o ≡ o
unpin_other n o other = rw (times_none o.number n other) (ap (λ pages. with_pages pages o) (no_less o.pages.pages))

unpin_here : (n : ℕ) (o : MemoryEntry) → o.number ≡ n → 0 < o.pages.pages.table_pins
    → unpin_at n o ≡ with_pages (released o.pages.pages) o
unpin_here n o is some =
    rw (times_here o.number n is) (ap (λ pages. with_pages pages o) (one_pin_less o.pages.pages some))

pub set_unpinned : (objects : List MemoryEntry) (n p : ℕ) (x : MemoryEntry) (new : MemoryPages)
    → are_rising objects ≡ true → slice_get objects p ≡ Some x → object_at objects n ≡ Some x
    → 0 < x.pages.pages.table_pins → new.pages ≡ released x.pages.pages → new.capacity ≡ x.pages.capacity
    → new.room ≡ x.pages.room → set objects p (record { number = x.number; areas = x.areas; pages = new }) ≡
    all_unpinned (n ∷ []) objects
set_unpinned objects n p x new rising there found some is same room =
    let number = found_number objects n x found in
    let entry : record { number = x.number; areas = x.areas; pages = new } ≡ unpin_at n x =
    (λ i. record {
      number = x.number;
      areas = x.areas;
      pages = record {
        pages = is i;
        capacity = same i;
        room = room i;
      };
    })
    ∙ sym (unpin_here n x number some) in
    ap (set objects p) entry ∙ set_by_number n (unpin_at n) (unpin_other n) objects p x rising there number

pub none_unpinned : (objects : List MemoryEntry) (n : ℕ) → object_at objects n ≡ None
    → objects ≡ all_unpinned (n ∷ []) objects
none_unpinned objects n none = sym (map_none (unpin_at n) n (unpin_other n) objects none)

frames_again : (frames : List FrameNo) (pins first next : ℕ)
    → cond (leb (pins - first) next && not (eqb next 0)) [] (cond (leb pins first && not (eqb first 0)) [] frames)
    ≡ cond (leb pins (first + next) && not (eqb (first + next) 0)) [] frames
frames_again frames pins first next =
    ⊎_elim
    (λ (none : next ≡ 0).
    let same : first + 0 ≡ first = omega arith in
    rw (none, same) (by_bool (leb (pins - first) 0)))
    (λ (some : next ≢ 0).
    let one : eqb next 0 ≡ false = grind (arith, nat_tests) in
    let two : eqb (first + next) 0 ≡ false = grind (arith, nat_tests) in
    ⊎_elim
    (λ (all : leb pins (first + next) ≡ true).
    let three : leb (pins - first) next ≡ true = grind (arith, nat_tests) in
    rw (one, two, all, three) refl)
    (λ (left : leb pins (first + next) ≡ false).
    let three : leb (pins - first) next ≡ false = grind (arith, nat_tests) in
    let four : leb pins first ≡ false = grind (arith, nat_tests) in
    rw (one, two, left, three, four) refl)
    (cases_Bool (leb pins (first + next))))
    (cases_eq next 0)
  where
    by_bool : (b : Bool) → cond (b && false) [] (cond (leb pins first && not (eqb first 0)) [] frames) ≡ cond
        (leb pins first && not (eqb first 0)) [] frames
    by_bool true = refl
    by_bool false = refl

unpinned_again : (pages : ObjectPages) (first next : ℕ)
    → pinned_less next (pinned_less first pages) ≡ pinned_less (first + next) pages
unpinned_again pages first next =
    let pins : pages.table_pins - first - next ≡ pages.table_pins - (first + next) = omega arith in
    let frames = frames_again pages.frames pages.table_pins first next in
    λ i. record pages { table_pins = pins i; frames = frames i }

pub unpinned_none : (objects : List MemoryEntry) → objects ≡ all_unpinned [] objects
unpinned_none objects = sym (map_itself (λ o. with_pages (pinned_less 0 o.pages.pages) o)
    (λ o. ap (λ pages. with_pages pages o) (no_less o.pages.pages)) objects)

pub unpinned_next : (objects : List MemoryEntry) (done : List ℕ) (n : ℕ)
    → all_unpinned (n ∷ []) (all_unpinned done objects) ≡ all_unpinned (done ++ n ∷ []) objects
unpinned_next objects done n =
    map_after (λ o. with_pages (pinned_less (times_of o.number done) o.pages.pages) o) (unpin_at n)
    (λ o. with_pages (pinned_less (times_of o.number (done ++ n ∷ [])) o.pages.pages) o)
    (λ o. rw (times_append o.number done (n ∷ []))
    (ap (λ pages. with_pages pages o) (unpinned_again o.pages.pages (times_of o.number done)
    (times_of o.number (n ∷ [])))))
    objects

-- ---- what it asks

pub pins_first : (n : ℕ) (ns : List ℕ) (objects : List MemoryEntry) → have_pins (n ∷ ns) objects ≡ true
    → have_pins (n ∷ []) objects ≡ true
pins_first n ns [] all = refl
pins_first n ns (o ∷ objects) all =
    let parts =
    and_parts (leb (times_of o.number (n ∷ ns)) o.pages.pages.table_pins) (have_pins (n ∷ ns) objects) all in
    let one = times_more o.number n [] in
    let more = times_more o.number n ns in
    let here : leb (times_of o.number (n ∷ [])) o.pages.pages.table_pins ≡ true = grind (arith, nat_tests) in
    rw here (pins_first n ns objects parts.1)

pub pins_next : (n : ℕ) (ns : List ℕ) (objects : List MemoryEntry) → have_pins (n ∷ ns) objects ≡ true
    → have_pins ns (all_unpinned (n ∷ []) objects) ≡ true
pins_next n ns [] all = refl
pins_next n ns (o ∷ objects) all =
    let parts =
    and_parts (leb (times_of o.number (n ∷ ns)) o.pages.pages.table_pins) (have_pins (n ∷ ns) objects) all in
    let one = times_more o.number n [] in
    let more = times_more o.number n ns in
    let here : leb (times_of o.number ns) (o.pages.pages.table_pins - times_of o.number (n ∷ [])) ≡ true =
    grind (arith, nat_tests) in
    rw here (pins_next n ns objects parts.1)

module _ (objects : List MemoryEntry) (n p : ℕ) (x : MemoryEntry) (pool_holds : List ℕ) (accounts : List Account)
    (pins : have_pins (n ∷ []) objects ≡ true) (backed : AreBacked objects pool_holds accounts)
    (there : slice_get objects p ≡ Some x) (found : object_at objects n ≡ Some x) where
  pub its_pins : 0 < x.pages.pages.table_pins
  its_pins =
      let number = found_number objects n x found in
      let place = at_place objects p x x there in
      let one = times_here x.number n number in
      let all = AllPass-from_list_all (λ (o : MemoryEntry). leb (times_of o.number (n ∷ [])) o.pages.pages.table_pins)
      objects pins p x place.0 in
      let here : leb (times_of x.number (n ∷ [])) x.pages.pages.table_pins ≡ true = rw place.1 at all in
      grind (arith, nat_tests)

  pub its_user : is_user accounts x.pages.pages.user.0 ≡ true
  its_user =
      let place = at_place objects p x x there in
      let all = AllPass-from_list_all (λ (o : MemoryEntry). is_user accounts o.pages.pages.user.0) objects
      backed.users p x place.0 in
      rw place.1 at all

  pub its_held : pinned_count x.pages.pages ≤ held_by accounts x.pages.pages.user.0
  its_held =
      let place = at_place objects p x x there in
      let le = get_or-le-sum_by (λ (o : MemoryEntry). cond (eqb o.pages.pages.user.0 x.pages.pages.user.0)
      (pinned_count o.pages.pages) 0) objects p x place.0 in
      let same : eqb x.pages.pages.user.0 x.pages.pages.user.0 ≡ true = grind (arith, nat_tests) in
      let own : pinned_count x.pages.pages ≤ pinned_by objects x.pages.pages.user.0 = rw (place.1, same) at le in
      let all = backed.held x.pages.pages.user.0 its_user in
      omega (arith, own, all)

  pub its_frames : AreHeld (held_frames x.pages.pages) pool_holds
  its_frames frame =
      let place = at_place objects p x x there in
      let le = get_or-le-sum_by (λ (o : MemoryEntry). times frame (held_frames o.pages.pages)) objects p x place.0 in
      let own : times frame (held_frames x.pages.pages) ≤ pins_on objects frame = rw place.1 at le in
      let all = backed.holds frame in
      omega (arith, own, all)

  pub its_last : (y : ObjectPages) → pinned_count x.pages.pages ≡ pinned_count y + last_count x.pages.pages
      → x.pages.pages.table_pins ≡ 1 → count_of_others x.pages.pages ≤ held_by accounts x.pages.pages.user.0
  its_last y counts last =
      let test : eqb x.pages.pages.table_pins 1 ≡ true = rw last refl in
      let all : pinned_count x.pages.pages ≡ pinned_count y + count_of_others x.pages.pages = rw test at counts in
      omega (arith, all, its_held)

-- ---- what stays

users_stay : (G : MemoryEntry → MemoryEntry) → ((o : MemoryEntry) → (G o).pages.pages.user.0 ≡ o.pages.pages.user.0)
    → (old new : List Account) → length new ≡ length old → (objects : List MemoryEntry)
    → list_all (λ o. is_user old o.pages.pages.user.0) objects ≡ true
    → list_all (λ o. is_user new o.pages.pages.user.0) (map G objects) ≡ true
users_stay G same old new long [] all = refl
users_stay G same old new long (o ∷ objects) all =
    let parts =
    and_parts (is_user old o.pages.pages.user.0) (list_all (λ x. is_user old x.pages.pages.user.0) objects) all in
    let here : is_user new (G o).pages.pages.user.0 ≡ true =
    rw (same o) (same_users old new long o.pages.pages.user.0 ∙ parts.0) in
    rw here (users_stay G same old new long objects parts.1)

pub backed_moved : (G : MemoryEntry → MemoryEntry)
    → ((o : MemoryEntry) → (G o).pages.pages.user.0 ≡ o.pages.pages.user.0)
    → (objects : List MemoryEntry) (before after : FramePool) (old new : List Account)
    → HoldsMove objects (map G objects) before after → AccountsMove objects (map G objects) old new
    → AreBacked objects before.holds old → AreBacked (map G objects) after.holds new
backed_moved G same objects before after old new pool accounts backed = record {
  holds = λ frame. let moved = pool.holds frame in let enough = backed.holds frame in omega (arith, moved, enough);
  held = λ user known.
      let one = sym (same_users old new accounts.count user) ∙ known in
      let moved = accounts.held user one in
      let enough = backed.held user one in
      omega (arith, moved, enough);
  users = users_stay G same old new accounts.count objects backed.users;
}
