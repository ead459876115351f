-- The holds of frames follow what names them.
use Rattle.std.proofs.Common.{◌≡◌, ◌≢◌, ℕ, suc, ◌+◌, ◌-◌, ◌*◌, ◌^◌, ◌<◌, ◌≤◌, Bool, true, false, ◌&&◌, cond, eqb}
use Rattle.std.proofs.Common.{Option, Some, None, List, [], ◌∷◌, length, get_or, set, refl, sym, ap, ◌∙◌, arith, ⊎_elim}
use Rattle.std.specs.Prelude.{IfSome, IsSome, is_none, is_some}
use Rattle.std.specs.List.{count_by, find, list_all, list_any, range_with_len}
use Rattle.std.proofs.lemmas.List.FromFn.{length-range_with_len}
use Rattle.std.proofs.lemmas.Bool.{and_parts, cases_eq, eqb-true, eq-eqb, ne_eqb, lt-ltb}
use Rattle.std.proofs.lemmas.List.{get_or-set_other, get_or-set_same, length-set}
use Rattle.std.proofs.lemmas.List.Quantifiers.{position-Some}
use Rattle.std.proofs.lemmas.List.Sums.{count_by-le-length, sum_by-cons}
use Rattle.iofd_words.specs.Frames.{frame_at}
use Rattle.iofd_words.specs.declared.numbers.FrameNo.{FrameNo}
use Rattle.iofd_words.specs.declared.numbers.UserNo.{UserNo}
use Rattle.iofd_words.specs.declared.rows.UserPage.{UserPage}
use Rattle.frame_memory.specs.Pool.{FramePool, given, least_free, may_hold, with_holds}
use Rattle.frame_memory.specs.UserPages.{HasOneMore, are_within, user_page}
use Rattle.pinned_pages.specs.Holds.{times}
use Rattle.pinned_pages.specs.Pages.{access_frame, count_of_others, frame_of, held_frames, new_count}
use Rattle.pinned_pages.proofs.Runs.{length_mapped}
use Rattle.memory_objects.specs.Objects.{MemoryEntry, new_pages, pins_on}
use Rattle.pinned_pages.proofs.HoldsMove.{held_within, times_few}
use Rattle.user_memory.specs.Changes.{HoldsFollow}
use Rattle.user_memory.specs.Invariant.{is_kept}
use Rattle.user_memory.specs.Memory.{IsBacked, Memory, reached}
use Rattle.user_memory.proofs.Found.{kept_count}

-- where they follow, each frame keeps a hold for each page and each pin
pub follow : (old new : Memory) (before after : FramePool) → length after.holds ≡ length before.holds
    → ((frame : ℕ) → get_or after.holds frame 0 + reached old frame ≡ get_or before.holds frame 0 + reached new frame)
    → HoldsFollow old new before after
follow old new before after count each = record {
  count = count;
  holds = each;
  backed = λ backed. record {
    least = λ frame. let a = each frame in let b = backed.least frame in omega (arith, a, b);
    most = λ frame. let a = each frame in let b = backed.most frame in omega (arith, a, b);
  };
}

-- where the users' pages stay, they follow the pins
pub pins_follow : (rows : List UserPage) (old_limits new_limits : List ℕ) (old new : List MemoryEntry)
    (before after : FramePool) → length after.holds ≡ length before.holds
    → ((frame : ℕ) → get_or after.holds frame 0 + pins_on old frame ≡ get_or before.holds frame 0 + pins_on new frame)
    → HoldsFollow (record { pages = rows; limits = old_limits; objects = old; room = 0 }) (record {
      pages = rows;
      limits = new_limits;
      objects = new;
      room = 0;
    }) before after
pins_follow rows old_limits new_limits old new before after count each =
    follow (record { pages = rows; limits = old_limits; objects = old; room = 0 }) (record {
      pages = rows;
      limits = new_limits;
      objects = new;
      room = 0;
    }) before after count
    (λ frame. let e = each frame in omega (arith, e))

-- ---- a page more or less

pub holds_there : (holds : List ℕ) (place value frame : ℕ) → place < length holds
    → get_or (set holds place value) frame 0 ≡ cond (eqb place frame) value (get_or holds frame 0)
holds_there holds place value frame within =
    ⊎_elim
    (λ (same : place ≡ frame). let here = eq-eqb place frame same in rw (
      here,
      ← same,
    ) (get_or-set_same holds place value 0 within))
    (λ (differ : place ≢ frame). let other = ne_eqb place frame differ in rw other
    (get_or-set_other holds place frame value 0 (λ e. differ (sym e))))
    (cases_eq place frame)

given_sum : (b : Bool) (held pages more pins : ℕ) → (b ≡ true → held ≡ 0) → more ≡ pages + cond b 1 0
    → cond b 1 held + (pages + pins) ≡ held + (more + pins)
given_sum true held pages more pins free is = let none = free refl in omega (arith, none, is)
given_sum false held pages more pins free is = omega (arith, is)

taken_sum : (b : Bool) (held at pages less pins : ℕ) → (b ≡ true → held ≡ at) → 0 < at → pages ≡ less + cond b 1 0
    → cond b (at - 1) held + (pages + pins) ≡ held + (less + pins)
taken_sum true held at pages less pins here some is = let same = here refl in omega (arith, same, some, is)
taken_sum false held at pages less pins here some is = omega (arith, is)

module _ (limits : List ℕ) (objects : List MemoryEntry) (less more : List UserPage) (user : UserNo) (page : ℕ)
    (frame : FrameNo) (one : HasOneMore less more (user_page user page frame)) where
  pub given_follow : (before after : FramePool) → least_free before.holds ≡ Some frame.0 → after ≡ given before frame.0
      → HoldsFollow (record { pages = less; limits = limits; objects = objects; room = 0 }) (record {
        pages = more;
        limits = limits;
        objects = objects;
        room = 0;
      }) before after
  given_follow before after free is =
      let there = position-Some (λ count. eqb count 0) before.holds frame.0 0 free in
      let none = eqb-true (get_or before.holds frame.0 0) 0 there.1 in
      follow (record { pages = less; limits = limits; objects = objects; room = 0 }) (record {
        pages = more;
        limits = limits;
        objects = objects;
        room = 0;
      }) before after
      (ap (λ (p : FramePool). length p.holds) is ∙ length-set before.holds frame.0 1)
      (λ f.
      let now = ap (λ (p : FramePool). get_or p.holds f 0) is ∙ holds_there before.holds frame.0 1 f there.0 in
      let counts = one.counts (λ p. eqb p.frame.0 f) in
      ap (λ n. n + (count_by (λ (p : UserPage). eqb p.frame.0 f) less + pins_on objects f)) now
      ∙ given_sum (eqb frame.0 f) (get_or before.holds f 0) (count_by (λ (p : UserPage). eqb p.frame.0 f) less)
      (count_by (λ (p : UserPage). eqb p.frame.0 f) more) (pins_on objects f)
      (λ here. ap (λ k. get_or before.holds k 0) (sym (eqb-true frame.0 f here)) ∙ none)
      counts)

  pub hold_there : (holds : List ℕ) → IsBacked (record { pages = more; limits = limits; objects = objects; room = 0 })
      holds
      → 0 < get_or holds frame.0 0
  hold_there holds backed =
      let counts = one.counts (λ p. eqb p.frame.0 frame.0) in
      let itself : eqb frame.0 frame.0 ≡ true = eq-eqb frame.0 frame.0 refl in
      let some : count_by (λ (p : UserPage). eqb p.frame.0 frame.0) more ≡ count_by
      (λ (p : UserPage). eqb p.frame.0 frame.0) less + 1 = rw itself at counts in
      let least = backed.least frame.0 in
      omega (arith, some, least)

  pub taken_follow : (before after : FramePool)
      → IsBacked (record { pages = more; limits = limits; objects = objects; room = 0 }) before.holds
      → after ≡ with_holds before frame.0 (get_or before.holds frame.0 0 - 1)
      → HoldsFollow (record { pages = more; limits = limits; objects = objects; room = 0 }) (record {
        pages = less;
        limits = limits;
        objects = objects;
        room = 0;
      }) before after
  taken_follow before after backed is =
      let some = hold_there before.holds backed in
      let within = held_within before.holds frame.0 some in
      follow (record { pages = more; limits = limits; objects = objects; room = 0 }) (record {
        pages = less;
        limits = limits;
        objects = objects;
        room = 0;
      }) before after
      (ap (λ (p : FramePool). length p.holds) is ∙ length-set before.holds frame.0 (get_or before.holds frame.0 0 - 1))
      (λ f.
      let now = ap (λ (p : FramePool). get_or p.holds f 0) is
      ∙ holds_there before.holds frame.0 (get_or before.holds frame.0 0 - 1) f within in
      let counts = one.counts (λ p. eqb p.frame.0 f) in
      ap (λ n. n + (count_by (λ (p : UserPage). eqb p.frame.0 f) more + pins_on objects f)) now
      ∙ taken_sum (eqb frame.0 f) (get_or before.holds f 0) (get_or before.holds frame.0 0)
      (count_by (λ (p : UserPage). eqb p.frame.0 f) more)
      (count_by (λ (p : UserPage). eqb p.frame.0 f) less) (pins_on objects f)
      (λ here. ap (λ k. get_or before.holds k 0) (sym (eqb-true frame.0 f here)))
      some counts)

-- a count with one that passes
counted_one : (b : Bool) (all rest : ℕ) → b ≡ true → all ≡ cond b 1 0 + rest → all ≡ suc rest
counted_one true all rest is sum = omega (arith, sum)
counted_one false all rest is sum = cc

-- a page that is there names its frame
pub frame_named : (rows : List UserPage) (user : UserNo) (page : ℕ) (frame : FrameNo)
    → frame_at rows user page ≡ Some frame → 1 ≤ count_by (λ p. eqb p.frame.0 frame.0) rows
frame_named [] user page frame is = cc
frame_named (row ∷ rows) user page frame is =
    let sum = sum_by-cons (λ (p : UserPage). cond (eqb p.frame.0 frame.0) 1 0) row rows in
    by_test (eqb row.user.0 user.0 && eqb row.page page) is sum (frame_named rows user page frame)
  where
    by_test : (b : Bool) → elim (cond b (Some row)
        (find (λ (p : UserPage). eqb p.user.0 user.0 && eqb p.page page) rows)) [
          | Some p ↦ Some p.frame
          | None ↦ None
        ] ≡ Some frame
        → count_by (λ (p : UserPage). eqb p.frame.0 frame.0) (row ∷ rows) ≡ cond (eqb row.frame.0 frame.0) 1 0
        + count_by (λ (p : UserPage). eqb p.frame.0 frame.0) rows
        → (frame_at rows user page ≡ Some frame → 1 ≤ count_by (λ (p : UserPage). eqb p.frame.0 frame.0) rows)
        → 1 ≤ count_by (λ (p : UserPage). eqb p.frame.0 frame.0) (row ∷ rows)
    by_test true here sum later =
        let same : row.frame ≡ frame = cc in
        let itself : eqb row.frame.0 frame.0 ≡ true = eq-eqb row.frame.0 frame.0 (ap (λ (f : FrameNo). f.0) same) in
        let one = counted_one (eqb row.frame.0 frame.0)
        (count_by (λ (p : UserPage). eqb p.frame.0 frame.0) (row ∷ rows))
        (count_by (λ (p : UserPage). eqb p.frame.0 frame.0) rows) itself sum in
        omega (arith, one)
    by_test false here sum later = let rest = later here in omega (arith, sum, rest)

-- a hold stands on the frame of a page that is there
pub held_page : (m : Memory) (holds : List ℕ) (user : UserNo) (page : ℕ) → IsBacked m holds
    → IfSome (frame_at m.pages user page) (λ frame. 0 < get_or holds frame.0 0)
held_page m holds user page backed = by_frame (frame_at m.pages user page) (frame_named m.pages user page)
  where
    by_frame : (f : Option FrameNo) → ((frame : FrameNo) → f ≡ Some frame
        → 1 ≤ count_by (λ p. eqb p.frame.0 frame.0) m.pages) → IfSome f (λ frame. 0 < get_or holds frame.0 0)
    by_frame None named = tt
    by_frame (Some frame) named =
        let some = named frame refl in let least = backed.least frame.0 in omega (arith, some, least)

-- ---- what pinning asks of the pool

-- the users' pages lie in the pool
pub pages_within : (rows : List UserPage) (holds : List ℕ)
    → ((frame : ℕ) → count_by (λ p. eqb p.frame.0 frame) rows ≤ get_or holds frame 0) → are_within rows holds ≡ true
pages_within [] holds each = refl
pages_within (row ∷ rows) holds each =
    let itself : eqb row.frame.0 row.frame.0 ≡ true = eq-eqb row.frame.0 row.frame.0 refl in
    let sum = sum_by-cons (λ (p : UserPage). cond (eqb p.frame.0 row.frame.0) 1 0) row rows in
    let one = counted_one (eqb row.frame.0 row.frame.0)
    (count_by (λ (p : UserPage). eqb p.frame.0 row.frame.0) (row ∷ rows))
    (count_by (λ (p : UserPage). eqb p.frame.0 row.frame.0) rows) itself sum in
    let least = each row.frame.0 in
    let within = held_within holds row.frame.0 (omega (arith, one, least)) in
    let here = lt-ltb row.frame.0 (length holds) within in
    rw here (pages_within rows holds (λ f.
    let all = each f in
    let more = sum_by-cons (λ (p : UserPage). cond (eqb p.frame.0 f) 1 0) row rows in
    omega (arith, all, more)))

-- each frame has room for more holds, where it has few
pub room_for_holds : (holds : List ℕ) (most count : ℕ) → ((frame : ℕ) → get_or holds frame 0 ≤ most)
    → most + count < 2 ^ 128 → may_hold holds count ≡ true
room_for_holds [] most count each few = refl
room_for_holds (held ∷ holds) most count each few =
    let first : held ≤ most = each 0 in
    let here = lt-ltb (held + count) (2 ^ 128) (omega (arith, first, few)) in
    rw here (room_for_holds holds most count (λ f. each (suc f)) few)

pub few_pins : (objects : List MemoryEntry) (frame : ℕ) → list_all is_kept objects ≡ true
    → pins_on objects frame ≤ 2 ^ 36 * length objects
few_pins [] frame kept = omega arith
few_pins (o ∷ objects) frame kept =
    let parts = and_parts (is_kept o) (list_all is_kept objects) kept in
    let rest = few_pins objects frame parts.1 in
    let sum = sum_by-cons (λ (x : MemoryEntry). times frame (held_frames x.pages.pages)) o objects in
    let here = times_few frame (held_frames o.pages.pages) in
    let long = length_mapped (frame_of o.pages.pages) (range_with_len 0 o.pages.pages.count) in
    let all = count_by-le-length (λ i. is_some (frame_of o.pages.pages i)) (range_with_len 0 o.pages.pages.count) in
    let count = length-range_with_len 0 o.pages.pages.count in
    let few = kept_count o parts.0 in
    omega (arith, rest, sum, here, long, all, count, few)

pub few_new : (objects : List MemoryEntry) (numbers : List ℕ) → list_all is_kept objects ≡ true
    → new_pages objects numbers ≤ 2 ^ 36 * length objects
few_new [] numbers kept = omega arith
few_new (o ∷ objects) numbers kept =
    let parts = and_parts (is_kept o) (list_all is_kept objects) kept in
    let rest = few_new objects numbers parts.1 in
    let sum = sum_by-cons (λ (x : MemoryEntry). cond (list_any (λ n. eqb n x.number) numbers)
    (new_count x.pages.pages) 0) o objects in
    let all = count_by-le-length (λ i. is_none (access_frame o.pages.pages i)) (range_with_len 0 o.pages.pages.count) in
    let count = length-range_with_len 0 o.pages.pages.count in
    let few = kept_count o parts.0 in
    by_tests (list_any (λ n. eqb n o.number) numbers) (eqb o.pages.pages.table_pins 0) sum
    (omega (arith, all, count, few)) rest
  where
    by_tests : (a b : Bool) → new_pages (o ∷ objects) numbers ≡ cond a (cond b (count_of_others o.pages.pages) 0) 0
        + new_pages objects numbers → count_of_others o.pages.pages ≤ 2 ^ 36
        → new_pages objects numbers ≤ 2 ^ 36 * length objects
        → new_pages (o ∷ objects) numbers ≤ 2 ^ 36 * suc (length objects)
    by_tests true true sum few rest = omega (arith, sum, few, rest)
    by_tests true false sum few rest = omega (arith, sum, few, rest)
    by_tests false b sum few rest = omega (arith, sum, few, rest)

-- each frame has room for the holds of new pins
pub room_for_pins : (m : Memory) (holds : List ℕ) (count : ℕ) → IsBacked m holds → list_all is_kept m.objects ≡ true
    → length m.pages < 2 ^ 64 → length m.objects < 2 ^ 64 → count ≤ 2 ^ 36 * length m.objects + 2 ^ 36
    → may_hold holds count ≡ true
room_for_pins m holds count backed kept few_pages few_objects few =
    room_for_holds holds (2 ^ 64 + 2 ^ 36 * 2 ^ 64 + 2 ^ 64) count
    (λ f.
    let most = backed.most f in
    let pages = count_by-le-length (λ (p : UserPage). eqb p.frame.0 f) m.pages in
    let pins = few_pins m.objects f kept in
    omega (arith, most, pages, pins, few_pages, few_objects))
    (omega (arith, few, few_objects))

-- the same, as the call that takes a page away tells it
pub unmap_follow : (limits : List ℕ) (objects : List MemoryEntry) (less more : List UserPage) (user : UserNo) (page : ℕ)
    (before after : FramePool) → IsSome (frame_at more user page)
    → IsBacked (record { pages = more; limits = limits; objects = objects; room = 0 }) before.holds
    → IfSome (frame_at more user page) (λ frame. HasOneMore less more (user_page user page frame))
    → IfSome (frame_at more user page) (λ frame. after ≡ with_holds before frame.0 (get_or before.holds frame.0 0 - 1))
    → HoldsFollow (record { pages = more; limits = limits; objects = objects; room = 0 }) (record {
      pages = less;
      limits = limits;
      objects = objects;
      room = 0;
    }) before after
unmap_follow limits objects less more user page before after = by_frame (frame_at more user page)
  where
    by_frame : (f : Option FrameNo) → IsSome f
        → IsBacked (record { pages = more; limits = limits; objects = objects; room = 0 }) before.holds
        → IfSome f (λ frame. HasOneMore less more (user_page user page frame))
        → IfSome f (λ frame. after ≡ with_holds before frame.0 (get_or before.holds frame.0 0 - 1))
        → HoldsFollow (record { pages = more; limits = limits; objects = objects; room = 0 }) (record {
          pages = less;
          limits = limits;
          objects = objects;
          room = 0;
        }) before after
    by_frame None some backed one is = cc
    by_frame (Some frame) some backed one is =
        taken_follow limits objects less more user page frame one before after backed is
