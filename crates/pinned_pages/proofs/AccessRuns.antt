-- Runs of pages pinned by accesses, page by page.
use Rattle.std.proofs.Common.{◌≡◌, ◌≢◌, ℕ, ◌+◌, ◌<◌, ◌≤◌, Bool, true, false, ◌&&◌, ◌||◌, cond, eqb, ltb, Option, Some}
use Rattle.std.proofs.Common.{None, List, [], length, refl, sym, ap, ◌∙◌, subst, arith, ⊎_elim, ◌⊎◌}
use Rattle.std.proofs.Common.{inl, inr}
use Rattle.std.specs.Prelude.{is_some}
use Rattle.std.specs.List.{cons_option, filter_map, range_with_len, slice_get}
use Rattle.std.proofs.lemmas.Bool.{cases_eq, eqb-true}
use Rattle.std.proofs.lemmas.Bool.Decides.{nat_tests}
use Rattle.std.proofs.lemmas.List.Sums.{sum_by-append}
use Rattle.iofd_words.specs.declared.numbers.FrameNo.{FrameNo}
use Rattle.iofd_words.specs.declared.rows.UserPage.{UserPage}
use Rattle.frame_memory.specs.Pool.{FramePool}
use Rattle.pinned_pages.specs.Access.{AccessRows, frame_in, is_in, pins_in, row_at}
use Rattle.pinned_pages.specs.Accesses.{IsAccessPinned, IsAccessReleased, gone_count, gone_frames, is_last, run_count}
use Rattle.pinned_pages.specs.Accesses.{run_frames, run_is_present, run_rows}
use Rattle.pinned_pages.specs.Holds.{AreHeld, HasMoreHolds, times}
use Rattle.pinned_pages.specs.Kept.{AreKept}
use Rattle.pinned_pages.specs.Pages.{ObjectPages, access_pins, frame_now, frame_of, held_frames, is_pinned, or_else}
use Rattle.pinned_pages.specs.Pages.{pinned_count, unless}
use Rattle.pinned_pages.specs.declared.access_pins.AccessPin.{AccessPin}
use Rattle.pinned_pages.proofs.HoldsMove.{held_further, released_further}
use Rattle.pinned_pages.proofs.PinnedPage.{pinned_page}
use Rattle.pinned_pages.proofs.Runs.{all_at, all_others, counted_more, in_run, in_run_is, length_mapped, mapped_more}
use Rattle.pinned_pages.proofs.Runs.{none_is}
use Rattle.pinned_pages.proofs.Runs.{or_none, run_mapped, same_counted, same_mapped, split_length, split_times}
use Rattle.pinned_pages.proofs.Runs.{times_chosen, times_few_mapped}

-- ---- tests

positive : (n : ℕ) → 0 < n → ltb 0 n ≡ true
positive n some = grind (arith, nat_tests)

lt_is : (m n : ℕ) → m < n → ltb m n ≡ true
lt_is m n low = grind (arith, nat_tests)

-- what more pins pin
still_by : (a b : Bool) (few many : ℕ) → few ≤ many → (a && (b || ltb 0 few)) ≡ true → (a && (b || ltb 0 many)) ≡ true
still_by false b few many le is = cc
still_by true true few many le is = refl
still_by true false few many le is = grind (arith, nat_tests)

not_last : (a : Bool) (t few pins : ℕ) → pins ≡ few + 1 → (a && (ltb 0 t || ltb 0 few)) ≡ true
    → (eqb t 0 && eqb pins 1) ≡ false
not_last false t few pins more is = cc
not_last true t few pins more is =
    ⊎_elim
    (λ (none : t ≡ 0).
    let no : ltb 0 t ≡ false = grind (arith, nat_tests) in
    let some : ltb 0 few ≡ true = rw no at is in
    let other : eqb pins 1 ≡ false = grind (arith, nat_tests) in
    rw other (and_false (eqb t 0)))
    (λ (some : t ≢ 0). let no : eqb t 0 ≡ false = grind (arith, nat_tests) in rw no refl)
    (cases_eq t 0)
  where
    and_false : (b : Bool) → (b && false) ≡ false
    and_false true = refl
    and_false false = refl

its_last : (t few pins : ℕ) → pins ≡ few + 1 → (true && (ltb 0 t || ltb 0 few)) ≡ false → (eqb t 0 && eqb pins 1) ≡ true
its_last t few pins more is =
    ⊎_elim
    (λ (none : t ≡ 0).
    let no : ltb 0 t ≡ false = grind (arith, nat_tests) in
    let left : ltb 0 few ≡ false = rw no at is in
    let one : eqb pins 1 ≡ true = grind (arith, nat_tests) in
    let zero : eqb t 0 ≡ true = grind (arith, nat_tests) in
    rw (zero, one) refl)
    (λ (some : t ≢ 0). let yes : ltb 0 t ≡ true = grind (arith, nat_tests) in
    let no : true ≡ false = rw yes at is in cc)
    (cases_eq t 0)

some_first : (f o : Option FrameNo) → is_some f ≡ true → or_else f o ≡ f
some_first (Some f) o some = refl
some_first None o some = cc

unless_none : (f : Option FrameNo) → unless f None ≡ None
unless_none None = refl
unless_none (Some f) = refl

-- ---- a run and one page more

-- the page behind the run, or any other
run_step : (first k j i : ℕ) → first + k ≡ j
    → ((i ≡ j) × ((is_in first k i ≡ false) × ((is_in first (k + 1) i ≡ true) × (is_in j 1 i ≡ true))))
    ⊎ ((is_in j 1 i ≡ false) × (is_in first (k + 1) i ≡ is_in first k i))
run_step first k j i next =
    ⊎_elim
    (λ (same : i ≡ j). inl (
      same,
      (grind (arith, nat_tests), (grind (arith, nat_tests), grind (arith, nat_tests))),
    ))
    (λ (differ : i ≢ j). inr (grind (arith, nat_tests), grind (arith, nat_tests)))
    (cases_eq i j)

one_more : (first k j i : ℕ) → first + k ≡ j
    → cond (is_in first (k + 1) i) 1 0 ≡ cond (is_in first k i) 1 0 + cond (is_in j 1 i) 1 0
one_more first k j i next =
    ⊎_elim
    (λ (here : (i ≡ j) × ((is_in first k i ≡ false) × ((is_in first (k + 1) i ≡ true) × (is_in j 1 i ≡ true)))).
    rw (here.1.0, here.1.1.0, here.1.1.1) refl)
    (λ (other : (is_in j 1 i ≡ false) × (is_in first (k + 1) i ≡ is_in first k i)).
    rw (other.0, other.1) (omega arith))
    (run_step first k j i next)

-- nothing
pub none_in : (first i : ℕ) → is_in first 0 i ≡ false
none_in first i = grind (arith, nat_tests)

pub past_in : (first k j : ℕ) → first + k ≡ j → is_in first k j ≡ false
past_in first k j next = grind (arith, nat_tests)

pub within_in : (first k n j : ℕ) → first + k ≡ j → k < n → is_in first n j ≡ true
within_in first k n j next low = grind (arith, nat_tests)

-- ---- pinned

module _ (first k j : ℕ) (rows : List UserPage) (old mid : ObjectPages) (next : first + k ≡ j)
    (before : IsAccessPinned first k rows old mid) where
  pub now_same : (i : ℕ) → frame_now mid rows i ≡ frame_now old rows i
  now_same i = ap (λ p. frame_now p rows i) before.same

  -- the page behind is as it was
  pub pins_behind : access_pins mid j ≡ access_pins old j
  pins_behind = before.pins j ∙ rw (past_in first k j next) (omega arith)

  pub frame_behind : frame_of mid j ≡ frame_of old j
  frame_behind = before.frames j ∙ rw (past_in first k j next) refl

  pub there_behind : (n : ℕ) → k < n → run_is_present old rows first n ≡ true
      → is_some (or_else (frame_of mid j) (frame_now mid rows j)) ≡ true
  there_behind n low all =
      ap (λ o. is_some (or_else o (frame_now mid rows j))) frame_behind
      ∙ ap (λ o. is_some (or_else (frame_of old j) o)) (now_same j)
      ∙ all_at (λ i. is_some (or_else (frame_of old i) (frame_now old rows i))) first n j all (omega (arith, next))
      (omega (arith, next, low))

  module _ (new : ObjectPages) (after : IsAccessPinned j 1 rows mid new) where
    pub pinned_next : IsAccessPinned first (k + 1) rows old new
    pinned_next = record {
      same = after.same ∙ ap (λ (p : ObjectPages). record p { access = new.access }) before.same;
      pins = λ i.
          let one = before.pins i in
          let two = after.pins i in
          let sum = one_more first k j i next in
          omega (arith, one, two, sum);
      frames = λ i. ⊎_elim
          (λ (here : (i ≡ j) × ((is_in first k i ≡ false) × ((is_in first (k + 1) i ≡ true)
          × (is_in j 1 i ≡ true)))).
          let mid_is : frame_of mid i ≡ frame_of old i = before.frames i ∙ rw here.1.0 refl in
          let new_is : frame_of new i ≡ or_else (frame_of mid i) (frame_now mid rows i) =
          after.frames i ∙ rw here.1.1.1 refl in
          rw here.1.1.0 (new_is ∙ ap (λ o. or_else o (frame_now mid rows i)) mid_is
          ∙ ap (or_else (frame_of old i)) (now_same i)))
          (λ (other : (is_in j 1 i ≡ false) × (is_in first (k + 1) i ≡ is_in first k i)).
          let new_is : frame_of new i ≡ frame_of mid i = after.frames i ∙ rw other.0 refl in
          rw other.1 (new_is ∙ before.frames i))
          (run_step first k j i next);
    }

  -- the frames and rows that come with it
  pub frames_next : (less now more : FramePool) → HasMoreHolds less now (run_frames old rows first k)
      → HasMoreHolds now more (run_frames mid rows j 1) → HasMoreHolds less more (run_frames old rows first (k + 1))
  frames_next less now more held again =
      let a = frame_of old in
      let b = frame_now old rows in
      let one : unless (frame_of mid j) (frame_now mid rows j) ≡ unless (a j) (b j) =
      ap (λ o. unless o (frame_now mid rows j)) frame_behind ∙ ap (unless (a j)) (now_same j) in
      let H : List FrameNo → Type 0 = HasMoreHolds less more in
      let N : Option FrameNo → Type 0 = λ o. HasMoreHolds now more (cons_option o []) in
      subst H (sym (mapped_more (λ i. unless (a i) (b i)) first k j next))
      (held_further less now more (run_frames old rows first k) (cons_option (unless (a j) (b j)) []) held
      (subst N one again))

  pub rows_next : run_rows old first (k + 1) ≡ run_rows old first k + run_rows mid j 1
  rows_next =
      let more = counted_more (λ i. eqb (access_pins old i) 0) first k j next in
      let here = ap {B = ℕ} (λ n. cond (eqb n 0) 1 0) pins_behind in
      let one : run_rows mid j 1 ≡ cond (eqb (access_pins mid j) 0) 1 0 = omega arith in
      omega (arith, more, here, one)

-- ---- a page with a pin less, while it has some

one_in : (index i : ℕ) → is_in index 1 i ≡ eqb index i
one_in index i = grind (arith, nat_tests)

-- whether a page is pinned, by its pins
pinned_by : (old new : ObjectPages) (i : ℕ) → new ≡ record old { access = new.access }
    → is_pinned new i ≡ (ltb i old.count && (ltb 0 old.table_pins || ltb 0 (access_pins new i)))
pinned_by old new i same =
    ap (λ (p : ObjectPages). ltb i p.count && (ltb 0 p.table_pins || ltb 0 (access_pins new i))) same

-- what is as it was settles
as_was : (pages : ObjectPages) → AreKept pages → (i : ℕ) (b : Bool) (o : Option FrameNo) → b ≡ is_pinned pages i
    → o ≡ frame_of pages i → o ≡ cond b (frame_of pages i) None
as_was pages kept i b o pinned is =
    is ∙ by_some (frame_of pages i) (is_pinned pages i) (pinned_page pages kept i)
    ∙ ap (λ c. cond c (frame_of pages i) None) (sym pinned)
  where
    by_some : (f : Option FrameNo) (c : Bool) → is_some f ≡ c → f ≡ cond c f None
    by_some (Some f) true is = refl
    by_some (Some f) false is = cc
    by_some None true is = refl
    by_some None false is = refl

module _ (old : ObjectPages) (access : AccessRows) (index : ℕ) (pin : AccessPin) (kept : AreKept old)
    (low : index < old.count) (there : row_at old.access index ≡ Some pin) where
  abbrev changed : ObjectPages
  changed = record old { access = access }

  module _ (k : ℕ) (pins : pin.pins ≡ k + 1) (some : 1 ≤ k)
      (rows : (i : ℕ) → row_at access i
      ≡ cond (eqb index i) (Some (record { frame = pin.frame; pins = k })) (row_at old.access i)) where
    fewer_pins : (i : ℕ) → access_pins changed i + cond (is_in index 1 i) 1 0 ≡ access_pins old i
    fewer_pins i =
        rw (one_in index i) (ap (λ r. pins_in r + cond (eqb index i) 1 0) (rows i)
        ∙ by_index (eqb index i) refl)
      where
        by_index : (b : Bool) → eqb index i ≡ b
            → pins_in (cond b (Some (record { frame = pin.frame; pins = k })) (row_at old.access i)) + cond b 1 0
            ≡ access_pins old i
        by_index true here =
            let same = eqb-true index i here in
            sym pins ∙ ap pins_in (sym there) ∙ ap (access_pins old) same
        by_index false other = omega arith

    same_frame : (i : ℕ) → frame_of changed i ≡ frame_of old i
    same_frame i = ap (λ r. or_else (frame_in r) (slice_get old.frames i)) (rows i) ∙ by_index (eqb index i) refl
      where
        by_index : (b : Bool) → eqb index i ≡ b → or_else (frame_in (cond b (Some (record {
          frame = pin.frame;
          pins = k;
        })) (row_at old.access i))) (slice_get old.frames i) ≡ frame_of old i
        by_index true here =
            let same = eqb-true index i here in
            ap (λ r. or_else (frame_in r) (slice_get old.frames i)) (sym there)
            ∙ ap (λ n. or_else (frame_in (row_at old.access n)) (slice_get old.frames i)) same
        by_index false other = refl

    still_pinned : (i : ℕ) → is_pinned changed i ≡ is_pinned old i
    still_pinned i =
        ap (λ b. ltb i old.count && (ltb 0 old.table_pins || b)) (by_index (eqb index i) refl)
      where
        by_index : (b : Bool) → eqb index i ≡ b → ltb 0 (access_pins changed i) ≡ ltb 0 (access_pins old i)
        by_index true here =
            let less = fewer_pins i in
            let one : is_in index 1 i ≡ true = one_in index i ∙ here in
            let down = ap {B = ℕ} (λ b. cond b 1 0) one in
            let same = eqb-true index i here in
            let was : access_pins old i ≡ k + 1 = ap (access_pins old) (sym same) ∙ ap pins_in there ∙ pins in
            let yes : ltb 0 (access_pins old i) ≡ true = grind (arith, nat_tests) in
            let now : ltb 0 (access_pins changed i) ≡ true = positive (access_pins changed i) (omega (
              arith,
              less,
              down,
              was,
              some,
            )) in
            now ∙ sym yes
        by_index false other =
            let row : row_at access i ≡ row_at old.access i = rows i ∙ rw other refl in
            ap (λ r. ltb 0 (pins_in r)) row

    pub one_fewer : IsAccessReleased index 1 old changed
    one_fewer = record {
      same = refl;
      pins = fewer_pins;
      frames = λ i. as_was old kept i (is_pinned changed i) (frame_of changed i) (still_pinned i) (same_frame i);
    }

  module _ (pins : pin.pins ≡ 1)
      (rows : (i : ℕ) → row_at access i ≡ cond (eqb index i) None (row_at old.access i)) where
    last_pins : (i : ℕ) → access_pins changed i + cond (is_in index 1 i) 1 0 ≡ access_pins old i
    last_pins i =
        rw (one_in index i) (ap (λ r. pins_in r + cond (eqb index i) 1 0) (rows i) ∙ by_index (eqb index i) refl)
      where
        by_index : (b : Bool) → eqb index i ≡ b
            → pins_in (cond b None (row_at old.access i)) + cond b 1 0 ≡ access_pins old i
        by_index true here =
            let same = eqb-true index i here in
            let one : 0 + 1 ≡ pin.pins = omega (arith, pins) in
            one ∙ ap pins_in (sym there) ∙ ap (access_pins old) same
        by_index false other = omega arith

    last_frame : (i : ℕ) → frame_of changed i ≡ cond (is_pinned changed i) (frame_of old i) None
    last_frame i = by_index (eqb index i) refl
      where
        by_index : (b : Bool) → eqb index i ≡ b
            → frame_of changed i ≡ cond (is_pinned changed i) (frame_of old i) None
        by_index true here =
            let same = eqb-true index i here in
            let row : row_at access i ≡ None = rows i ∙ rw here refl in
            let now : frame_of changed i ≡ slice_get old.frames i =
            ap (λ r. or_else (frame_in r) (slice_get old.frames i)) row in
            let was : frame_of old i ≡ Some pin.frame =
            ap (frame_of old) (sym same) ∙ ap (λ r. or_else (frame_in r) (slice_get old.frames index)) there in
            let within : ltb i old.count ≡ true = grind (arith, nat_tests) in
            let pinned : is_pinned changed i ≡ (true && (ltb 0 old.table_pins || false)) =
            ap (λ b. b && (ltb 0 old.table_pins || ltb 0 (access_pins changed i))) within
            ∙ ap (λ r. true && (ltb 0 old.table_pins || ltb 0 (pins_in r))) row in
            ⊎_elim
            (λ (none : old.table_pins ≡ 0).
            let no_pins : ltb 0 old.table_pins ≡ false = grind (arith, nat_tests) in
            let out : is_pinned changed i ≡ false = pinned ∙ rw no_pins refl in
            now ∙ ap (λ fs. slice_get fs i) (kept.unpinned none)
            ∙ sym (ap (λ b. cond b (frame_of old i) None) out))
            (λ (some : old.table_pins ≢ 0).
            let yes : ltb 0 old.table_pins ≡ true = grind (arith, nat_tests) in
            let agree = kept.agree (omega (arith, some)) index pin there in
            let still : is_pinned changed i ≡ true = pinned ∙ rw yes refl in
            now ∙ ap (slice_get old.frames) (sym same) ∙ agree ∙ sym was
            ∙ sym (ap (λ b. cond b (frame_of old i) None) still))
            (cases_eq old.table_pins 0)
        by_index false other =
            let row : row_at access i ≡ row_at old.access i = rows i ∙ rw other refl in
            as_was old kept i (is_pinned changed i) (frame_of changed i)
            (ap (λ r. ltb i old.count && (ltb 0 old.table_pins || ltb 0 (pins_in r))) row)
            (ap (λ r. or_else (frame_in r) (slice_get old.frames i)) row)

    pub last_gone : IsAccessReleased index 1 old changed
    last_gone = record { same = refl; pins = last_pins; frames = last_frame }

-- ---- released, page by page

pub released_none : (first : ℕ) (pages : ObjectPages) → AreKept pages → IsAccessReleased first 0 pages pages
released_none first pages kept = record {
  same = refl;
  pins = λ i. rw (none_in first i) (omega arith);
  frames = λ i. as_was pages kept i (is_pinned pages i) (frame_of pages i) refl refl;
}

module _ (first k j : ℕ) (old mid : ObjectPages) (next : first + k ≡ j) (before : IsAccessReleased first k old mid)
  where
    pub pins_left : access_pins mid j ≡ access_pins old j
    pins_left =
        let pins = before.pins j in
        let out = ap {B = ℕ} (λ b. cond b 1 0) (past_in first k j next) in
        omega (arith, pins, out)

    last_left : is_last mid j ≡ is_last old j
    last_left =
        ap (λ (p : ObjectPages). eqb p.table_pins 0 && eqb (access_pins mid j) 1) before.same
        ∙ ap (λ n. eqb old.table_pins 0 && eqb n 1) pins_left

    module _ (some : 1 ≤ access_pins old j) (low : j < old.count) where
      frame_left : frame_of mid j ≡ frame_of old j
      frame_left =
          let within : ltb j old.count ≡ true = grind (arith, nat_tests) in
          let pins : ltb 0 (access_pins old j) ≡ true = grind (arith, nat_tests) in
          let pinned : is_pinned mid j ≡ true =
          pinned_by old mid j before.same
          ∙ ap (λ n. ltb j old.count && (ltb 0 old.table_pins || ltb 0 n)) pins_left
          ∙ rw (within, pins) (either (ltb 0 old.table_pins)) in
          before.frames j ∙ rw pinned refl
        where
          either : (b : Bool) → (true && (b || true)) ≡ true
          either true = refl
          either false = refl

      gone_left : cond (is_last mid j) (frame_of mid j) None ≡ cond (is_last old j) (frame_of old j) None
      gone_left = ap (λ b. cond b (frame_of mid j) None) last_left ∙ ap (λ o. cond (is_last old j) o None) frame_left

      abbrev its_gone : ℕ → Option FrameNo
      its_gone i = cond (is_last old i) (frame_of old i) None

      pub next_are_held : (now start : FramePool) (n : ℕ) → k < n → HasMoreHolds now start (gone_frames old first k)
          → AreHeld (gone_frames old first n) start.holds → AreHeld (gone_frames mid j 1) now.holds
      next_are_held now start n within less held frame =
          let more = ap (times frame) (mapped_more its_gone first k j next)
          ∙ sum_by-append (λ (f : FrameNo). cond (eqb f.0 frame) 1 0) (gone_frames old first k)
          (cons_option (its_gone j) []) in
          let up = times_few_mapped frame its_gone first (k + 1) n (omega (arith, within)) in
          let all = held frame in
          let moved = less.holds frame in
          let here = ap (λ o. times frame (cons_option o [])) gone_left in
          omega (arith, more, up, all, moved, here)

      pub gone_frames_next : (now after start : FramePool) → HasMoreHolds now start (gone_frames old first k)
          → HasMoreHolds after now (gone_frames mid j 1) → HasMoreHolds after start (gone_frames old first (k + 1))
      gone_frames_next now after start less again =
          let H : List FrameNo → Type 0 = HasMoreHolds after start in
          let N : Option FrameNo → Type 0 = λ o. HasMoreHolds after now (cons_option o []) in
          subst H (sym (mapped_more its_gone first k j next))
          (released_further start now after (gone_frames old first k) (cons_option (its_gone j) []) less
          (subst N gone_left again))

    pub gone_count_next : gone_count old first (k + 1) ≡ gone_count old first k + cond (is_last mid j) 1 0
    gone_count_next =
        let more = counted_more (is_last old) first k j next in
        let here = ap {B = ℕ} (λ b. cond b 1 0) last_left in
        omega (arith, more, here)

    module _ (new : ObjectPages) (after : IsAccessReleased j 1 mid new) where
      pub released_next : IsAccessReleased first (k + 1) old new
      released_next = record {
        same = same;
        pins = λ i.
            let one = before.pins i in
            let two = after.pins i in
            let sum = one_more first k j i next in
            omega (arith, one, two, sum);
        frames = λ i. after.frames i ∙ by_pinned i (is_pinned new i) refl;
      }
        where
          same : new ≡ record old { access = new.access }
          same = after.same ∙ ap (λ (p : ObjectPages). record p { access = new.access }) before.same

          by_pinned : (i : ℕ) (b : Bool) → is_pinned new i ≡ b
              → cond b (frame_of mid i) None ≡ cond b (frame_of old i) None
          by_pinned i true is =
              let fewer = after.pins i in
              let now = sym (pinned_by old new i same) ∙ is in
              let then : is_pinned mid i ≡ true = pinned_by old mid i before.same
              ∙ still_by (ltb i old.count) (ltb 0 old.table_pins) (access_pins new i) (access_pins mid i)
              (omega (arith, fewer)) now in
              before.frames i ∙ rw then refl
          by_pinned i false is = refl

-- ---- a run's pages among all

module _ (first count : ℕ) (rows : List UserPage) (old new : ObjectPages) (fits : first + count ≤ old.count)
    (moved : IsAccessPinned first count rows old new) where
  abbrev run_now : ℕ → Option FrameNo
  run_now i = cond (is_in first count i) (frame_now old rows i) None

  pinned_is : (i : ℕ) → frame_of new i ≡ or_else (frame_of old i) (run_now i)
  pinned_is i = moved.frames i ∙ by_in (is_in first count i) (frame_of old i) (frame_now old rows i)
    where
      by_in : (b : Bool) (f o : Option FrameNo) → cond b (or_else f o) f ≡ or_else f (cond b o None)
      by_in true f o = refl
      by_in false f o = sym (or_none f)

  unless_in : (i : ℕ) → unless (frame_of old i) (run_now i)
      ≡ cond (is_in first count i) (unless (frame_of old i) (frame_now old rows i)) None
  unless_in i = by_in (is_in first count i) (frame_of old i) (frame_now old rows i)
    where
      by_in : (b : Bool) (f o : Option FrameNo) → unless f (cond b o None) ≡ cond b (unless f o) None
      by_in true f o = refl
      by_in false None o = refl
      by_in false (Some f) o = refl

  held_new : held_frames new ≡ filter_map (λ i. or_else (frame_of old i) (run_now i)) (range_with_len 0 old.count)
  held_new = ap (λ (p : ObjectPages). filter_map (frame_of new) (range_with_len 0 p.count)) moved.same
      ∙ same_mapped (frame_of new) (λ i. or_else (frame_of old i) (run_now i)) 0 old.count (λ i low high. pinned_is i)

  run_is : filter_map (λ i. unless (frame_of old i) (run_now i)) (range_with_len 0 old.count)
      ≡ run_frames old rows first count
  run_is =
      same_mapped (λ i. unless (frame_of old i) (run_now i))
      (λ i. cond (is_in first count i) (unless (frame_of old i) (frame_now old rows i)) None) 0 old.count
      (λ i low high. unless_in i)
      ∙ run_mapped (λ i. unless (frame_of old i) (frame_now old rows i)) first count old.count fits

  pub run_held : (frame : ℕ) → times frame (held_frames new)
      ≡ times frame (held_frames old) + times frame (run_frames old rows first count)
  run_held frame =
      ap (times frame) held_new ∙ split_times frame (frame_of old) run_now (range_with_len 0 old.count)
      ∙ ap (λ fs. times frame (held_frames old) + times frame fs) run_is

  pub run_counted : run_is_present old rows first count ≡ true
      → pinned_count new ≡ pinned_count old + run_count old first count
  run_counted there =
      ap length held_new ∙ split_length (frame_of old) run_now (range_with_len 0 old.count)
      ∙ ap (λ fs. pinned_count old + length fs) run_is
      ∙ ap (λ n. pinned_count old + n) (all_others (frame_of old) (frame_now old rows) (range_with_len first count)
      there)

module _ (first count : ℕ) (old new : ObjectPages) (kept : AreKept old) (fits : first + count ≤ old.count)
    (some : (i : ℕ) → is_in first count i ≡ true → 1 ≤ access_pins old i)
    (moved : IsAccessReleased first count old new) where
  abbrev run_gone : ℕ → Option FrameNo
  run_gone i = cond (is_in first count i) (cond (is_last old i) (frame_of old i) None) None

  -- a page that is still pinned isn't among those that aren't
  gone_is : (i : ℕ) → (frame_of old i ≡ or_else (frame_of new i) (run_gone i)) × (unless (frame_of new i) (run_gone i)
      ≡ run_gone i)
  gone_is i = by_pinned (is_pinned new i) refl
    where
      was : is_some (frame_of old i) ≡ is_pinned old i
      was = pinned_page old kept i

      now : is_pinned new i ≡ (ltb i old.count && (ltb 0 old.table_pins || ltb 0 (access_pins new i)))
      now = pinned_by old new i moved.same

      by_pinned : (b : Bool) → is_pinned new i ≡ b → (frame_of old i ≡ or_else (frame_of new i) (run_gone i))
          × (unless (frame_of new i) (run_gone i) ≡ run_gone i)
      by_pinned true is =
          let fewer = moved.pins i in
          let still = still_by (ltb i old.count) (ltb 0 old.table_pins) (access_pins new i) (access_pins old i)
          (omega (arith, fewer)) (sym now ∙ is) in
          let frame : frame_of new i ≡ frame_of old i = moved.frames i ∙ rw is refl in
          let none : run_gone i ≡ None = by_in (is_in first count i) refl in (
            sym (ap (λ o. or_else o (run_gone i)) frame ∙ some_first (frame_of old i) (run_gone i) (was ∙ still)),
            ap (unless (frame_of new i)) none ∙ unless_none (frame_of new i) ∙ sym none,
          )
        where
          by_in : (c : Bool) → is_in first count i ≡ c
              → cond c (cond (is_last old i) (frame_of old i) None) None ≡ None
          by_in false out = refl
          by_in true within =
              let fewer = moved.pins i in
              let down = ap {B = ℕ} (λ b. cond b 1 0) within in
              let pins : access_pins old i ≡ access_pins new i + 1 = omega (arith, fewer, down) in
              let last : is_last old i ≡ false = not_last (ltb i old.count) old.table_pins (access_pins new i)
              (access_pins old i) pins (sym now ∙ is) in
              ap (λ b. cond b (frame_of old i) None) last
      by_pinned false is =
          let frame : frame_of new i ≡ None = moved.frames i ∙ rw is refl in
          (own ∙ sym (ap (λ o. or_else o (run_gone i)) frame), ap (λ o. unless o (run_gone i)) frame)
        where
          own : frame_of old i ≡ run_gone i
          own = by_in (is_in first count i) refl
            where
              by_in : (c : Bool) → is_in first count i ≡ c
                  → frame_of old i ≡ cond c (cond (is_last old i) (frame_of old i) None) None
              by_in false out =
                  let fewer = moved.pins i in
                  let down = ap {B = ℕ} (λ b. cond b 1 0) out in
                  let pins : access_pins new i ≡ access_pins old i = omega (arith, fewer, down) in
                  let not : is_pinned old i ≡ false =
                  ap (λ n. ltb i old.count && (ltb 0 old.table_pins || ltb 0 n)) (sym pins) ∙ sym now ∙ is in
                  none_is (frame_of old i) (was ∙ not)
              by_in true within =
                  let fewer = moved.pins i in
                  let down = ap {B = ℕ} (λ b. cond b 1 0) within in
                  let pins : access_pins old i ≡ access_pins new i + 1 = omega (arith, fewer, down) in
                  let low : ltb i old.count ≡ true =
                  below (in_run_is first count i within).1 in
                  let last : is_last old i ≡ true = its_last old.table_pins (access_pins new i) (access_pins old i) pins
                  (rw low at (sym now ∙ is)) in
                  sym (ap (λ b. cond b (frame_of old i) None) last)
                where
                  below : i < first + count → ltb i old.count ≡ true
                  below high = lt_is i old.count (omega (arith, high, fits))

  held_old : held_frames old ≡ filter_map (λ i. or_else (frame_of new i) (run_gone i)) (range_with_len 0 old.count)
  held_old = same_mapped (frame_of old) (λ i. or_else (frame_of new i) (run_gone i)) 0 old.count
      (λ i low high. (gone_is i).0)

  left_is : filter_map (frame_of new) (range_with_len 0 old.count) ≡ held_frames new
  left_is = sym (ap (λ (p : ObjectPages). filter_map (frame_of new) (range_with_len 0 p.count)) moved.same)

  run_gone_is : filter_map (λ i. unless (frame_of new i) (run_gone i)) (range_with_len 0 old.count)
      ≡ gone_frames old first count
  run_gone_is =
      same_mapped (λ i. unless (frame_of new i) (run_gone i)) run_gone 0 old.count (λ i low high. (gone_is i).1)
      ∙ run_mapped (λ i. cond (is_last old i) (frame_of old i) None) first count old.count fits

  pub gone_held : (frame : ℕ) → times frame (held_frames old)
      ≡ times frame (held_frames new) + times frame (gone_frames old first count)
  gone_held frame =
      ap (times frame) held_old ∙ split_times frame (frame_of new) run_gone (range_with_len 0 old.count)
      ∙ ap (λ fs. times frame fs + times frame (filter_map (λ i. unless (frame_of new i) (run_gone i))
      (range_with_len 0 old.count))) left_is
      ∙ ap (λ fs. times frame (held_frames new) + times frame fs) run_gone_is

  pub gone_counted : pinned_count old ≡ pinned_count new + gone_count old first count
  gone_counted =
      ap length held_old ∙ split_length (frame_of new) run_gone (range_with_len 0 old.count)
      ∙ ap (λ fs. length fs + length (filter_map (λ i. unless (frame_of new i) (run_gone i))
      (range_with_len 0 old.count))) left_is
      ∙ ap (λ fs. pinned_count new + length fs) run_gone_is
      ∙ ap (λ n. pinned_count new + n) (length_mapped (λ i. cond (is_last old i) (frame_of old i) None)
      (range_with_len first count)
      ∙ same_counted (λ i. is_some (cond (is_last old i) (frame_of old i) None)) (is_last old) first count
      (λ i low high. its_some i (is_last old i) (pinned_page old kept i
      ∙ in_pinned i (some i (in_run first count i low high)) (omega (arith, high, fits)))))
    where
      its_some : (i : ℕ) (b : Bool) → is_some (frame_of old i) ≡ true → is_some (cond b (frame_of old i) None) ≡ b
      its_some i true is = is
      its_some i false is = refl

      in_pinned : (i : ℕ) → 1 ≤ access_pins old i → i < old.count → is_pinned old i ≡ true
      in_pinned i pins low =
          let within : ltb i old.count ≡ true = grind (arith, nat_tests) in
          let yes : ltb 0 (access_pins old i) ≡ true = grind (arith, nat_tests) in
          rw (within, yes) (either (ltb 0 old.table_pins))
        where
          either : (b : Bool) → (true && (b || true)) ≡ true
          either true = refl
          either false = refl

-- the frames that go are among those that are held
pub gone_few : (first count : ℕ) (pages : ObjectPages) → first + count ≤ pages.count → (frame : ℕ)
    → times frame (gone_frames pages first count) ≤ times frame (held_frames pages)
gone_few first count pages fits frame =
    let h = λ (i : ℕ). cond (is_last pages i) (frame_of pages i) None in
    let own = ap (times frame) (run_mapped h first count pages.count fits) in
    let one = times_chosen frame (is_in first count) h (range_with_len 0 pages.count) in
    let two = times_chosen frame (is_last pages) (frame_of pages) (range_with_len 0 pages.count) in
    omega (arith, own, one, two)
