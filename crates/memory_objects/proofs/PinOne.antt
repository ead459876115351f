-- One memory object pinned once more.
use Rattle.std.proofs.Common.{◌≡◌, ℕ, ◌+◌, ◌^◌, ◌≤◌, Bool, true, false, cond, eqb, ltb, leb, ◌&&◌, Some, None, List, []}
use Rattle.std.proofs.Common.{◌∷◌, set, refl, sym, ap, ◌∙◌, arith, ⊎_elim}
use Rattle.std.specs.List.{list_any, slice_get}
use Rattle.std.proofs.lemmas.Bool.{and_parts, cases_Bool, eqb-true}
use Rattle.std.proofs.lemmas.Bool.Decides.{nat_tests}
use Rattle.std.proofs.lemmas.List.Sums.{get_or-le-sum_by, AllPass-from_list_all}
use Rattle.iofd_words.specs.declared.rows.UserPage.{UserPage}
use Rattle.frame_memory.specs.Pool.{may_hold}
use Rattle.mem_account.specs.Accounts.{has_room, is_user}
use Rattle.mem_account.specs.declared.Account.{Account}
use Rattle.memory_objects.specs.Backed.{CanPin}
use Rattle.memory_objects.specs.Objects.{MemoryEntry, all_pinned, are_rising, can_pin, has_memory, is_of, new_pages}
use Rattle.memory_objects.specs.Objects.{object_at, pinned_more, times_of, with_pages}
use Rattle.pinned_pages.specs.Pages.{MemoryPages, ObjectPages, count_of_others, needed, new_count, own_frames_now}
use Rattle.pinned_pages.specs.Pages.{pin_refusal, pinned}
use Rattle.pinned_pages.proofs.FirstPin.{none_refuses}
use Rattle.memory_objects.proofs.OneObject.{at_place, map_none, passes_at, set_by_number, times_one}

-- room for many is room for fewer
pub may_hold_fewer : (counts : List ℕ) (few many : ℕ) → few ≤ many → may_hold counts many ≡ true
    → may_hold counts few ≡ true
may_hold_fewer [] few many le may = refl
may_hold_fewer (h ∷ counts) few many le may =
    let parts = and_parts (ltb (h + many) (2 ^ 128)) (may_hold counts many) may in
    let here : ltb (h + few) (2 ^ 128) ≡ true = grind (arith, nat_tests) in
    rw here (may_hold_fewer counts few many le parts.1)

pub has_room_fewer : (accounts : List Account) (user few many : ℕ) → few ≤ many → has_room accounts user many ≡ true
    → has_room accounts user few ≡ true
has_room_fewer accounts user few many le room = grind (arith, nat_tests)

-- what is found has the number
pub found_number : (objects : List MemoryEntry) (n : ℕ) (x : MemoryEntry) → object_at objects n ≡ Some x → x.number ≡ n
found_number [] n x is = cc
found_number (o ∷ objects) n x is =
    ⊎_elim
    (λ (here : eqb o.number n ≡ true). let one : Some o ≡ Some x = rw here at is in let same : o ≡ x = cc in
    let number = eqb-true o.number n here in rw same at number)
    (λ (other : eqb o.number n ≡ false). let later : object_at objects n ≡ Some x = rw other at is in
    found_number objects n x later)
    (cases_Bool (eqb o.number n))

-- ---- the change, by number

pub times_none : (number n : ℕ) → eqb number n ≡ false → times_of number (n ∷ []) ≡ 0
times_none number n other =
    let flipped : eqb n number ≡ false = grind (arith, nat_tests) in times_one number n ∙ rw flipped refl

pub times_here : (number n : ℕ) → number ≡ n → times_of number (n ∷ []) ≡ 1
times_here number n is =
    let flipped : eqb n number ≡ true = grind (arith, nat_tests) in times_one number n ∙ rw flipped refl

module _ (rows : List UserPage) where
  pub no_more : (pages : ObjectPages) → pinned_more rows 0 pages ≡ pages
  no_more pages = by_test (eqb pages.table_pins 0)
    where
      by_test : (b : Bool) → record pages {
        table_pins = pages.table_pins + 0;
        frames = cond (b && false) (own_frames_now pages rows) pages.frames;
      } ≡ pages
      by_test true =
          let same : pages.table_pins + 0 ≡ pages.table_pins = omega arith in λ i. record pages { table_pins = same i }
      by_test false =
          let same : pages.table_pins + 0 ≡ pages.table_pins = omega arith in λ i. record pages { table_pins = same i }

  one_more_pin : (pages : ObjectPages) → pinned_more rows 1 pages ≡ pinned pages rows
  one_more_pin pages = by_test (eqb pages.table_pins 0)
    where
      by_test : (b : Bool) → record pages {
        table_pins = pages.table_pins + 1;
        frames = cond (b && true) (own_frames_now pages rows) pages.frames;
      } ≡ record pages {
        table_pins =
            pages.table_pins + 1;
        frames = cond b (own_frames_now pages rows) pages.frames;
      }
      by_test true = refl
      by_test false = refl

  -- the change of each object where this number's is pinned once more
  abbrev pub pin_at : ℕ → MemoryEntry → MemoryEntry
  pin_at n object = with_pages (pinned_more rows (times_of object.number (n ∷ [])) object.pages.pages) object

  pub pin_other : (n : ℕ) (o : MemoryEntry) → eqb o.number n ≡ false → pin_at n o ≡ o
  pin_other n o other = rw (times_none o.number n other) (ap (λ pages. with_pages pages o) (no_more o.pages.pages))

  pub pin_here : (n : ℕ) (o : MemoryEntry) → o.number ≡ n → pin_at n o ≡ with_pages (pinned o.pages.pages rows) o
  pin_here n o is = rw (times_here o.number n is) (ap (λ pages. with_pages pages o) (one_more_pin o.pages.pages))

  pub set_pinned : (objects : List MemoryEntry) (n p : ℕ) (x : MemoryEntry) (new : MemoryPages)
      → are_rising objects ≡ true → slice_get objects p ≡ Some x → object_at objects n ≡ Some x
      → new.pages ≡ pinned x.pages.pages rows → new.capacity ≡ x.pages.capacity → new.room ≡ x.pages.room
      → set objects p (record { number = x.number; areas = x.areas; pages = new }) ≡ all_pinned rows (n ∷ []) objects
  set_pinned objects n p x new rising there found is same room =
      let number = found_number objects n x found in
      let entry : record { number = x.number; areas = x.areas; pages = new } ≡ pin_at n x =
      (λ i. record {
        number = x.number;
        areas = x.areas;
        pages = record {
          pages = is i;
          capacity = same i;
          room = room
              i;
        };
      })
      ∙ sym (pin_here n x number) in
      ap (set objects p) entry ∙ set_by_number n (pin_at n) (pin_other n) objects p x rising there number

  pub none_pinned : (objects : List MemoryEntry) (n : ℕ) → object_at objects n ≡ None
      → objects ≡ all_pinned rows (n ∷ []) objects
  none_pinned objects n none = sym (map_none (pin_at n) n (pin_other n) objects none)

-- ---- what it asks

module _ (objects : List MemoryEntry) (n p : ℕ) (x : MemoryEntry) (rows : List UserPage) (pool_holds : List ℕ)
    (accounts : List Account) (can : CanPin objects (n ∷ []) rows pool_holds accounts)
    (there : slice_get objects p ≡ Some x) (found : object_at objects n ≡ Some x) where
  of_user : x.pages.pages.user.0 ≡ can.fits.user
  of_user = eqb-true x.pages.pages.user.0 can.fits.user (passes_at (is_of can.fits.user) objects n x can.fits.own found)

  pub its_user : is_user accounts x.pages.pages.user.0 ≡ true
  its_user = rw of_user can.fits.known

  pub its_areas : x.pages.pages.table_pins + 1 ≤ x.areas
  its_areas =
      let number = found_number objects n x found in
      let place = at_place objects p x x there in
      let one = times_here x.number n number in
      let all = AllPass-from_list_all (λ (o : MemoryEntry). leb (o.pages.pages.table_pins + times_of o.number (n ∷ []))
      o.areas) objects can.areas p x place.0 in
      let here : leb (x.pages.pages.table_pins + times_of x.number (n ∷ [])) x.areas ≡ true = rw place.1 at all in
      grind (arith, nat_tests)

  -- the pages that aren't pinned yet are among those that are counted
  its_pages : new_count x.pages.pages ≤ new_pages objects (n ∷ [])
  its_pages =
      let number = found_number objects n x found in
      let place = at_place objects p x x there in
      let flipped : eqb n x.number ≡ true = grind (arith, nat_tests) in
      let le = get_or-le-sum_by (λ (o : MemoryEntry). cond (list_any (λ m. eqb m o.number) (n ∷ []))
      (new_count o.pages.pages) 0) objects p x place.0 in
      rw (place.1, flipped) at le

  pub its_holds : may_hold pool_holds (new_count x.pages.pages) ≡ true
  its_holds = may_hold_fewer pool_holds (new_count x.pages.pages) (new_pages objects (n ∷ [])) its_pages can.holds

  pub its_memory : needed x.pages.pages ≤ x.pages.capacity
  its_memory = let enough = passes_at has_memory objects n x can.memory found in search (enough, arith, nat_tests)

  pub its_refusal : pin_refusal x.pages.pages rows accounts ≡ None
  its_refusal =
      none_refuses x.pages.pages rows accounts (passes_at (can_pin rows) objects n x can.present found)
      (λ none.
      let first : eqb x.pages.pages.table_pins 0 ≡ true = rw none refl in
      let few : count_of_others x.pages.pages ≤ new_pages objects (n ∷ []) = rw first at its_pages in
      let room = can.fits.room in
      rw of_user (has_room_fewer accounts can.fits.user (count_of_others x.pages.pages) (new_pages objects (n ∷ []))
      few room))
