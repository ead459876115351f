-- What the first pin makes of a memory object.
use Rattle.std.proofs.Common.{◌≡◌, ℕ, Bool, true, false, not, ◌&&◌, ◌||◌, eqb, ltb, cond, None, Some, ◌+◌, ◌<◌, ◌≤◌}
use Rattle.std.proofs.Common.{List}
use Rattle.std.proofs.Common.{[], ◌∷◌, ◌++◌, length, refl, sym, ◌∙◌, ap, arith}
use Rattle.std.specs.Prelude.{is_some}
use Rattle.std.specs.List.{filter_map, range_with_len, slice_get}
use Rattle.std.proofs.lemmas.Bool.{eqb-true}
use Rattle.std.proofs.lemmas.Bool.Decides.{nat_tests}
use Rattle.std.proofs.lemmas.List.FromFn.{length-range_with_len}
use Rattle.iofd_words.specs.FirstTrue.{first_true}
use Rattle.iofd_words.specs.declared.numbers.FrameNo.{FrameNo}
use Rattle.iofd_words.specs.declared.refusal.Cause.TheVariants as cause
use Rattle.iofd_words.specs.declared.rows.UserPage.{UserPage}
use Rattle.mem_account.specs.Accounts.{has_room}
use Rattle.mem_account.specs.declared.Account.{Account}
use Rattle.pinned_pages.specs.Access.{frame_in}
use Rattle.pinned_pages.specs.Accesses.{access_refusal, run_count, run_is_present}
use Rattle.pinned_pages.specs.Holds.{times}
use Rattle.pinned_pages.specs.Kept.{AreKept}
use Rattle.pinned_pages.specs.Pages.{MemoryPages, ObjectPages, access_frame, are_present, count_of_others, frame_now}
use Rattle.pinned_pages.specs.Pages.{frame_of, held_frames, needed, new_count, new_frames, or_else, own_frame_now}
use Rattle.pinned_pages.specs.Pages.{own_frames_now, pin_refusal, pinned, pinned_count, unless}
use Rattle.pinned_pages.proofs.AccessRows.{found_counted}
use Rattle.pinned_pages.proofs.Runs.{all_from, all_ones, all_others, length_mapped, mapped_at, or_none, or_same}
use Rattle.pinned_pages.proofs.Runs.{same_mapped, some_or, some_within, split_length, split_times}

-- where nothing refuses the first pin, all pages are there and the user has room
none_refused : (b p r : Bool) → first_true ((cause.Absent, b && not p) ∷ (cause.Account, b && not r) ∷ []) ≡ None
    → b ≡ true → (p ≡ true) × (r ≡ true)
none_refused true true true none first = (refl, refl)
none_refused true true false none first = cc
none_refused true false r none first = cc
none_refused false p r none first = cc

pub granted : (pages : ObjectPages) (rows : List UserPage) (accounts : List Account)
    → pin_refusal pages rows accounts ≡ None → pages.table_pins ≡ 0
    → (are_present pages rows ≡ true) × (has_room accounts pages.user.0 (count_of_others pages) ≡ true)
granted pages rows accounts none zero =
    let first : eqb pages.table_pins 0 ≡ true = rw zero refl in
    none_refused (eqb pages.table_pins 0) (are_present pages rows)
    (has_room accounts pages.user.0 (count_of_others pages)) none first

-- nothing refuses a pin of pages that are pinned, or are all there and fit the account
none_of : (b p r : Bool) → (not b || p) ≡ true → (b ≡ true → r ≡ true)
    → first_true ((cause.Absent, b && not p) ∷ (cause.Account, b && not r) ∷ []) ≡ None
none_of false p r there fits = refl
none_of true true r there fits = rw (fits refl) refl
none_of true false r there fits = cc

pub none_refuses : (pages : ObjectPages) (rows : List UserPage) (accounts : List Account)
    → (not (eqb pages.table_pins 0) || are_present pages rows) ≡ true
    → (pages.table_pins ≡ 0 → has_room accounts pages.user.0 (count_of_others pages) ≡ true)
    → pin_refusal pages rows accounts ≡ None
none_refuses pages rows accounts there fits =
    none_of (eqb pages.table_pins 0) (are_present pages rows) (has_room accounts pages.user.0 (count_of_others pages))
    there
    (λ first. fits (eqb-true pages.table_pins 0 first))

-- the first pin by a page table, of pages that no access pins or that are there
module _ (pages : ObjectPages) (rows : List UserPage) (items : List FrameNo) (kept : AreKept pages)
    (none : pages.table_pins ≡ 0) (is : items ≡ pages.frames ++ own_frames_now pages rows)
    (present : are_present pages rows ≡ true) where
  abbrev first : ObjectPages
  first = record pages { table_pins = 1; frames = items }

  frames_are : items ≡ own_frames_now pages rows
  frames_are = is ∙ rw (kept.unpinned none) refl

  long : length items ≡ pages.count
  long = ap length frames_are ∙ length_mapped (own_frame_now pages rows) (range_with_len 0 pages.count)
      ∙ all_ones (λ i. is_some (own_frame_now pages rows i)) (range_with_len 0 pages.count) present
      ∙ length-range_with_len 0 pages.count

  its_frame : (i : ℕ) → i < pages.count → slice_get items i ≡ own_frame_now pages rows i
  its_frame i low =
      let within : ltb i pages.count ≡ true = grind (arith, nat_tests) in
      let same : 0 + i ≡ i = omega arith in
      ap (λ fs. slice_get fs i) frames_are ∙ mapped_at (own_frame_now pages rows) 0 pages.count i present
      ∙ ap (λ b. cond b (own_frame_now pages rows (0 + i)) None) within ∙ ap (own_frame_now pages rows) same

  pub first_kept : AreKept first
  first_kept = record {
    start = kept.start;
    end = kept.end;
    pinned = λ some. long;
    unpinned = λ zero. absurd (omega (arith, zero));
    counted = kept.counted;
    agree = λ some i pin row.
        let low = (found_counted pages.count pages.access kept.counted i pin row).0 in
        its_frame i low ∙ ap (λ r. or_else (frame_in r) (frame_now pages rows i)) row;
  }

  pub first_is : first ≡ pinned pages rows
  first_is =
      let one : eqb pages.table_pins 0 ≡ true = rw none refl in
      let pins : 1 ≡ pages.table_pins + 1 = omega (arith, none) in
      let frames : items ≡ cond (eqb pages.table_pins 0) (own_frames_now pages rows) pages.frames =
      frames_are ∙ ap (λ b. cond b (own_frames_now pages rows) pages.frames) (sym one) in
      λ i. record pages { table_pins = pins i; frames = frames i }

  held_now : held_frames first ≡ own_frames_now pages rows
  held_now = same_mapped (frame_of first) (own_frame_now pages rows) 0 pages.count
      (λ i low high. ap (or_else (access_frame pages i)) (its_frame i (omega (arith, high)))
      ∙ or_same (access_frame pages i) (frame_now pages rows i))

  held_then : held_frames pages ≡ filter_map (access_frame pages) (range_with_len 0 pages.count)
  held_then = same_mapped (frame_of pages) (access_frame pages) 0 pages.count
      (λ i low high. ap (λ fs. or_else (access_frame pages i) (slice_get fs i)) (kept.unpinned none)
      ∙ or_none (access_frame pages i))

  one : eqb pages.table_pins 0 ≡ true
  one = rw none refl

  pub first_held : (frame : ℕ) → times frame (held_frames first)
      ≡ times frame (held_frames pages) + times frame (new_frames pages rows)
  first_held frame =
      ap (times frame) held_now
      ∙ split_times frame (access_frame pages) (frame_now pages rows) (range_with_len 0 pages.count)
      ∙ rw (held_then, one) refl

  pub first_counted : pinned_count first ≡ pinned_count pages + new_count pages
  first_counted =
      ap length held_now
      ∙ split_length (access_frame pages) (frame_now pages rows) (range_with_len 0 pages.count)
      ∙ ap (λ n. length (filter_map (access_frame pages) (range_with_len 0 pages.count)) + n)
      (all_others (access_frame pages) (frame_now pages rows) (range_with_len 0 pages.count) present)
      ∙ rw (held_then, one) refl

-- the last pin by a page table
module _ (pages : ObjectPages) (kept : AreKept pages) (some : 0 < pages.table_pins) where
  abbrev last : ObjectPages
  last = record pages { table_pins = 0; frames = [] }

  held_left : held_frames last ≡ filter_map (access_frame pages) (range_with_len 0 pages.count)
  held_left = same_mapped (frame_of last) (access_frame pages) 0 pages.count
      (λ i low high. or_none (access_frame pages i))

  abbrev others : List FrameNo
  others = filter_map (λ i. unless (access_frame pages i) (slice_get pages.frames i)) (range_with_len 0 pages.count)

  pub last_held : (frame : ℕ) → times frame (held_frames pages)
      ≡ times frame (held_frames last) + times frame others
  last_held frame =
      split_times frame (access_frame pages) (slice_get pages.frames) (range_with_len 0 pages.count)
      ∙ rw held_left refl

  pub last_counted : pinned_count pages ≡ pinned_count last + count_of_others pages
  last_counted =
      split_length (access_frame pages) (slice_get pages.frames) (range_with_len 0 pages.count)
      ∙ ap (λ n. length (filter_map (access_frame pages) (range_with_len 0 pages.count)) + n)
      (all_others (access_frame pages) (slice_get pages.frames) (range_with_len 0 pages.count)
      (all_from (λ i. is_some (or_else (access_frame pages i) (slice_get pages.frames i))) 0 pages.count
      (λ i low high. some_or (access_frame pages i) (slice_get pages.frames i)
      (some_within pages.frames i (omega (arith, kept.pinned some, high))))))
      ∙ rw held_left refl

pub new_first : (pages : ObjectPages) → pages.table_pins ≡ 0 → new_count pages ≡ count_of_others pages
new_first pages none = let first : eqb pages.table_pins 0 ≡ true = rw none refl in rw first refl

-- ---- a first pin that is refused

pub absent_refused : (pages : ObjectPages) (rows : List UserPage) (accounts : List Account) → pages.table_pins ≡ 0
    → are_present pages rows ≡ false → pin_refusal pages rows accounts ≡ Some cause.Absent
absent_refused pages rows accounts none absent = rw (none, absent) refl

pub account_refused : (pages : ObjectPages) (rows : List UserPage) (accounts : List Account) → pages.table_pins ≡ 0
    → are_present pages rows ≡ true → has_room accounts pages.user.0 (count_of_others pages) ≡ false
    → pin_refusal pages rows accounts ≡ Some cause.Account
account_refused pages rows accounts none there full = rw (none, there, full) refl

-- ---- a run that an access pins

module _ (pages : ObjectPages) (rows : List UserPage) (accounts : List Account) (first count : ℕ) where
  pub run_granted : access_refusal pages rows accounts first count ≡ None
      → (run_is_present pages rows first count ≡ true)
      × (has_room accounts pages.user.0 (run_count pages first count) ≡ true)
  run_granted none =
      none_refused true (run_is_present pages rows first count)
      (has_room accounts pages.user.0 (run_count pages first count)) none refl

  pub run_fits : run_is_present pages rows first count ≡ true
      → has_room accounts pages.user.0 (run_count pages first count) ≡ true
      → access_refusal pages rows accounts first count ≡ None
  run_fits there room = rw (there, room) refl

-- ---- a pin that nothing refuses

granted_by : (b p r : Bool) → (b ≡ true → p ≡ true) → (b ≡ true → r ≡ true)
    → first_true ((cause.Absent, b && not p) ∷ (cause.Account, b && not r) ∷ []) ≡ None
granted_by false p r there fits = refl
granted_by true p r there fits = rw (there refl, fits refl) refl

-- the pages are as before, and only memory for more frames may have come
pub record IsReady (before now : MemoryPages) (rows : List UserPage) (accounts : List Account) : Type 0 where
  pub pages : now.pages ≡ before.pages
  pub granted : pin_refusal before.pages rows accounts ≡ None
  pub capacity : before.capacity ≤ now.capacity
  pub enough : needed before.pages ≤ before.capacity → now.capacity ≡ before.capacity
  pub room : now.room ≡ before.room

module _ (before now : MemoryPages) (rows : List UserPage) (accounts : List Account) where
  pub ready_first : are_present before.pages rows ≡ true
      → has_room accounts before.pages.user.0 (count_of_others before.pages) ≡ true → now.pages ≡ before.pages
      → before.capacity ≤ now.capacity → now.room ≡ before.room
      → (needed before.pages ≤ before.capacity → now ≡ before) → IsReady before now rows accounts
  ready_first there room pages capacity rest enough = record {
    pages = pages;
    granted = granted_by (eqb before.pages.table_pins 0) (are_present before.pages rows)
        (has_room accounts before.pages.user.0 (count_of_others before.pages)) (λ first. there) (λ first. room);
    capacity = capacity;
    enough = λ some. ap (λ (m : MemoryPages). m.capacity) (enough some);
    room = rest;
  }

  pub ready_later : (before.pages.table_pins ≡ 0 → ⊥) → now ≡ before → IsReady before now rows accounts
  ready_later later same =
      let capacity : now.capacity ≡ before.capacity = ap (λ (m : MemoryPages). m.capacity) same in
      record {
        pages = ap (λ (m : MemoryPages). m.pages) same;
        granted = granted_by (eqb before.pages.table_pins 0) (are_present before.pages rows)
            (has_room accounts before.pages.user.0 (count_of_others before.pages))
            (λ first. absurd (later (eqb-true before.pages.table_pins 0 first)))
            (λ first. absurd (later (eqb-true before.pages.table_pins 0 first)));
        capacity = omega (arith, capacity);
        enough = λ some. capacity;
        room = ap (λ (m : MemoryPages). m.room) same;
      }
