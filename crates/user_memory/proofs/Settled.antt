-- What settles the pins of one object, and of all.
use Rattle.std.proofs.Common.{◌≡◌, ℕ, ◌+◌, ◌-◌, Bool, true, false, ◌&&◌, ◌||◌, cond, eqb, ltb, leb, not, Option}
use Rattle.std.proofs.Common.{Some, None, List, [], ◌∷◌, map, length, get_or, refl, sym, ap, ◌∙◌, arith, ⊎_elim}
use Rattle.std.specs.Prelude.{is_some}
use Rattle.std.specs.List.{slice_get}
use Rattle.std.proofs.lemmas.Bool.{and_parts, cases_Bool, eqb-true}
use Rattle.std.proofs.lemmas.Bool.Decides.{nat_tests}
use Rattle.std.proofs.lemmas.Option.{slice_get_past}
use Rattle.iofd_words.specs.Frames.{frame_at}
use Rattle.iofd_words.specs.Pages.{page_of}
use Rattle.iofd_words.specs.declared.numbers.FrameNo.{FrameNo}
use Rattle.iofd_words.specs.declared.rows.UserPage.{UserPage}
use Rattle.frame_memory.specs.Pool.{FramePool}
use Rattle.memory_objects.specs.Invariant.{MemoryInvariant}
use Rattle.memory_objects.specs.Objects.{MemoryEntry, access_pins_in, access_pins_on, are_rising, can_pin, frame_in}
use Rattle.memory_objects.specs.Objects.{object_at, pinned_less}
use Rattle.memory_objects.specs.Objects.{pinned_more, pins_on, times_of, with_areas, with_pages, without_areas}
use Rattle.pinned_pages.specs.Pages as pages
use Rattle.pinned_pages.specs.Pages.{ObjectPages, access_frame, access_pins, are_present, frame_of, is_pinned, or_else}
use Rattle.pinned_pages.specs.Pages.{own_frame_now, own_frames_now}
use Rattle.pinned_pages.proofs.Runs as runs
use Rattle.memory_objects.proofs.FramesSeen.{not_found_mapped}
use Rattle.memory_objects.proofs.Numbered.{none_after, rising_parts}
use Rattle.memory_objects.proofs.Reserved.{found_mapped}
use Rattle.user_memory.specs.Changes.{Settles}
use Rattle.user_memory.specs.Invariant.{is_kept}
use Rattle.user_memory.specs.Memory as memory
use Rattle.user_memory.specs.Memory.{Memory, frame_now}
use Rattle.user_memory.proofs.Follow.{pins_follow}
use Rattle.user_memory.proofs.Found.{kept_frames, not_pinned, now_found, now_in, page_there, pinned_found, pinned_in}
use Rattle.user_memory.proofs.Kept.{less_kept, more_kept}

-- ---- one page

-- a page that stays as it is
pub stays : (f now : Option FrameNo) (p : Bool) → (p ≡ false → f ≡ None) → f ≡ cond p (cond p f now) None
stays f now true none = refl
stays f now false none = none refl

module _ (rows : List UserPage) (o : MemoryEntry) (kept : is_kept o ≡ true) (i k : ℕ) where
  abbrev now : Option FrameNo
  now = frame_at rows o.pages.pages.user (page_of o.pages.pages.va + i)

  abbrev less : ObjectPages
  less = pinned_less k o.pages.pages

  pub unpinned_settles : frame_of less i
      ≡ cond (is_pinned less i) (cond (is_pinned o.pages.pages i) (frame_of o.pages.pages i) now) None
  unpinned_settles = by_pinned (is_pinned less i) refl
    where
      by_pinned : (b : Bool) → is_pinned less i ≡ b
          → frame_of less i ≡ cond b (cond (is_pinned o.pages.pages i) (frame_of o.pages.pages i) now) None
      by_pinned false out = not_pinned (with_pages less o) (less_kept o k kept) i out
      by_pinned true is =
          let was : is_pinned o.pages.pages i ≡ true = still (ltb i o.pages.pages.count) o.pages.pages.table_pins k
          (access_pins o.pages.pages i) is in
          let some = page_there (with_pages less o) (less_kept o k kept) i ∙ is in
          same (leb o.pages.pages.table_pins k && not (eqb k 0)) (access_frame o.pages.pages i) some
          ∙ sym (ap (λ b. cond b (frame_of o.pages.pages i) now) was)
        where
          still : (a : Bool) (t n p : ℕ) → (a && (ltb 0 (t - n) || ltb 0 p)) ≡ true → (a && (ltb 0 t || ltb 0 p)) ≡ true
          still false t n p is = cc
          still true t n p is =
              ⊎_elim
              (λ (some : ltb 0 t ≡ true). rw some refl)
              (λ (none : ltb 0 t ≡ false).
              let less_none : ltb 0 (t - n) ≡ false = grind (arith, nat_tests) in
              let left : ltb 0 p ≡ true = rw less_none at is in
              rw (none, left) refl)
              (cases_Bool (ltb 0 t))

          same : (c : Bool) (a : Option FrameNo)
              → is_some (or_else a (slice_get (cond c [] o.pages.pages.frames) i)) ≡ true
              → or_else a (slice_get (cond c [] o.pages.pages.frames) i) ≡ or_else a (slice_get o.pages.pages.frames i)
          same c (Some f) some = refl
          same false None some = refl
          same true None some = cc

  module _ (ready : eqb k 0 ≡ false → can_pin rows o ≡ true) where
    abbrev more : ObjectPages
    more = pinned_more rows k o.pages.pages

    pub pinned_settles : frame_of more i
        ≡ cond (is_pinned more i) (cond (is_pinned o.pages.pages i) (frame_of o.pages.pages i) now) None
    pinned_settles = by_pinned (is_pinned more i) refl
      where
        by_pinned : (b : Bool) → is_pinned more i ≡ b
            → frame_of more i ≡ cond b (cond (is_pinned o.pages.pages i) (frame_of o.pages.pages i) now) None
        by_pinned false out = not_pinned (with_pages more o) (more_kept rows o k kept ready) i out
        by_pinned true is =
            by_old (is_pinned o.pages.pages i) refl (eqb o.pages.pages.table_pins 0) refl (eqb k 0) refl
            (access_frame o.pages.pages i) refl
          where
            there : is_some (frame_of more i) ≡ true
            there = page_there (with_pages more o) (more_kept rows o k kept ready) i ∙ is

            low : ltb i o.pages.pages.count ≡ true
            low = (and_parts (ltb i o.pages.pages.count) (ltb 0 (o.pages.pages.table_pins + k)
                || ltb 0 (access_pins o.pages.pages i)) is).0

            own : eqb o.pages.pages.table_pins 0 ≡ true → eqb k 0 ≡ false
                → slice_get (own_frames_now o.pages.pages rows) i ≡ own_frame_now o.pages.pages rows i
            own none some =
                let present = present_from (eqb o.pages.pages.table_pins 0) (are_present o.pages.pages rows) none
                (ready some) in
                let same : 0 + i ≡ i = omega arith in
                runs.mapped_at (own_frame_now o.pages.pages rows) 0 o.pages.pages.count i present
                ∙ ap (λ b. cond b (own_frame_now o.pages.pages rows (0 + i)) None) low
                ∙ ap (own_frame_now o.pages.pages rows) same
              where
                present_from : (b p : Bool) → b ≡ true → (not b || p) ≡ true → p ≡ true
                present_from true p is all = all
                present_from false p is all = cc

            old_is : access_frame o.pages.pages i ≡ None → is_pinned o.pages.pages i ≡ false
                → slice_get o.pages.pages.frames i ≡ None
            old_is at out =
                sym (ap (λ f. or_else f (slice_get o.pages.pages.frames i)) at) ∙ not_pinned o kept i out

            more_is : (z n : Bool) → eqb o.pages.pages.table_pins 0 ≡ z → eqb k 0 ≡ n
                → access_frame o.pages.pages i ≡ None
                → is_some (slice_get (cond (z && not n) (own_frames_now o.pages.pages rows) o.pages.pages.frames) i)
                ≡ true
            more_is z n zero none at =
                ap (λ b. is_some (slice_get (cond (b && not n) (own_frames_now o.pages.pages rows)
                o.pages.pages.frames) i)) (sym zero)
                ∙ ap (λ b. is_some (slice_get (cond (eqb o.pages.pages.table_pins 0 && not b)
                (own_frames_now o.pages.pages rows) o.pages.pages.frames) i)) (sym none)
                ∙ sym (ap (λ f. is_some (or_else f (slice_get more.frames i))) at) ∙ there

            clash : {x y : Option FrameNo} → is_some x ≡ true → x ≡ None → x ≡ y
            clash {x} {y} some none = absurd (never (sym some ∙ ap is_some none))
              where
                never : true ≡ false → ⊥
                never same = cc

            by_old : (b : Bool) → is_pinned o.pages.pages i ≡ b → (z : Bool) → eqb o.pages.pages.table_pins 0 ≡ z
                → (n : Bool) → eqb k 0 ≡ n → (a : Option FrameNo) → access_frame o.pages.pages i ≡ a
                → or_else a (slice_get (cond (z && not n) (own_frames_now o.pages.pages rows) o.pages.pages.frames) i)
                ≡ cond b (or_else a (slice_get o.pages.pages.frames i)) now
            by_old true was z zero n none (Some f) at = refl
            by_old true was false zero n none None at = refl
            by_old true was true zero true none None at = refl
            by_old true was true zero false none None at =
                let long : length o.pages.pages.frames ≡ 0 =
                kept_frames o kept ∙ ap (λ c. cond c 0 o.pages.pages.count) zero in
                let empty = slice_get_past o.pages.pages.frames i (omega (arith, long)) in
                let old_none : frame_of o.pages.pages i ≡ None =
                ap (λ f. or_else f (slice_get o.pages.pages.frames i)) at ∙ empty in
                let no : true ≡ false = sym (page_there o kept i ∙ was) ∙ ap is_some old_none in
                cc
            by_old false out z zero n none (Some f) at =
                let old_some : frame_of o.pages.pages i ≡ Some f =
                ap (λ x. or_else x (slice_get o.pages.pages.frames i)) at in
                let no : false ≡ true = sym (page_there o kept i ∙ out) ∙ ap is_some old_some in
                cc
            by_old false out true zero false none None at =
                own zero none ∙ ap (λ f. or_else f now) at
            by_old false out false zero n none None at =
                clash (more_is false n zero none at) (old_is at out)
            by_old false out true zero true none None at =
                clash (more_is true true zero none at) (old_is at out)

-- ---- the object of a number, before and after

-- what is pinned of it now has the frame that it had, or the one that it is in its user's memory now
abbrev pub StepOf : List UserPage → Option MemoryEntry → Option MemoryEntry → ℕ → Type 0
StepOf rows old new i =
    frame_in new i ≡ cond (pinned_in new i) (cond (pinned_in old i) (frame_in old i) (now_in rows new i)) None

abbrev pub moved : (MemoryEntry → MemoryEntry) → Option MemoryEntry → Option MemoryEntry
moved G None = None
moved G (Some o) = Some (G o)

pub mapped_at : (G : MemoryEntry → MemoryEntry) → ((o : MemoryEntry) → (G o).number ≡ o.number)
    → (objects : List MemoryEntry) (n : ℕ) → object_at (map G objects) n ≡ moved G (object_at objects n)
mapped_at G numbers objects n = by_object (object_at objects n) refl
  where
    by_object : (o : Option MemoryEntry) → object_at objects n ≡ o → object_at (map G objects) n ≡ moved G o
    by_object None is = not_found_mapped G numbers objects n is
    by_object (Some o) is = found_mapped G numbers objects n o is

-- as many accesses pin a page after a change that leaves them
pub access_moved : (G : MemoryEntry → MemoryEntry) → ((o : MemoryEntry) → (G o).number ≡ o.number)
    → ((o : MemoryEntry) (i : ℕ) → pages.access_pins (G o).pages.pages i ≡ pages.access_pins o.pages.pages i)
    → (objects : List MemoryEntry) (n i : ℕ) → access_pins_on (map G objects) n i ≡ access_pins_on objects n i
access_moved G numbers same objects n i =
    ap (λ o. access_pins_in o i) (mapped_at G numbers objects n) ∙ by_object (object_at objects n)
  where
    by_object : (o : Option MemoryEntry) → access_pins_in (moved G o) i ≡ access_pins_in o i
    by_object None = refl
    by_object (Some o) = same o i

-- the object with areas less, where some are left
abbrev pub left_of : List ℕ → Option MemoryEntry → Option MemoryEntry
left_of numbers None = None
left_of numbers (Some o) =
    cond (eqb (o.areas - times_of o.number numbers) 0) None (Some (with_areas (o.areas - times_of o.number numbers) o))

pub left_at : (numbers : List ℕ) (objects : List MemoryEntry) (n : ℕ) → are_rising objects ≡ true
    → object_at (without_areas numbers objects) n ≡ left_of numbers (object_at objects n)
left_at numbers [] n rising = refl
left_at numbers (o ∷ objects) n rising =
    let parts = rising_parts o objects rising in
    let rest = left_at numbers objects n parts.1 in
    ⊎_elim
    (λ (here : eqb o.number n ≡ true).
    let same = eqb-true o.number n here in
    let none = none_after n o objects parts.0 (omega (arith, same)) in
    ⊎_elim
    (λ (gone : eqb (o.areas - times_of o.number numbers) 0 ≡ true). rw (here, gone) (rest ∙ ap (left_of numbers) none))
    (λ (some : eqb (o.areas - times_of o.number numbers) 0 ≡ false). rw (here, some, here) refl)
    (cases_Bool (eqb (o.areas - times_of o.number numbers) 0)))
    (λ (other : eqb o.number n ≡ false).
    ⊎_elim
    (λ (gone : eqb (o.areas - times_of o.number numbers) 0 ≡ true). rw (other, gone) rest)
    (λ (some : eqb (o.areas - times_of o.number numbers) 0 ≡ false). rw (other, some, other) rest)
    (cases_Bool (eqb (o.areas - times_of o.number numbers) 0)))
    (cases_Bool (eqb o.number n))

-- ---- all objects

abbrev pub memory_of : List UserPage → List ℕ → List MemoryEntry → Memory
memory_of rows limits objects = record { pages = rows; limits = limits; objects = objects; room = 0 }

same_cond : (p q r s : Bool) (x y z : Option FrameNo) → p ≡ q → r ≡ s → y ≡ z
    → cond p (cond r x y) None ≡ cond q (cond s x z) None
same_cond p q r s x y z one two three = rw (one, two, three) refl

pub settle : (rows : List UserPage) (old_limits new_limits : List ℕ) (old new : List MemoryEntry)
    (before after : FramePool) → new_limits ≡ old_limits → are_rising old ≡ true
    → ((n i : ℕ) → StepOf rows (object_at old n) (object_at new n) i)
    → length after.holds ≡ length before.holds
    → ((frame : ℕ) → get_or after.holds frame 0 + pins_on old frame ≡ get_or before.holds frame 0
    + pins_on new frame) → after.bytes ≡ before.bytes → MemoryInvariant new
    → Settles (memory_of rows old_limits old) (memory_of rows new_limits new) before after
settle rows old_limits new_limits old new before after limits old_rising each count holds bytes kept = record {
  pages = refl;
  limits = limits;
  frames = λ page.
      let step = each page.memory page.index in
      step ∙ same_cond (pinned_in (object_at new page.memory) page.index)
      (memory.is_pinned (memory_of rows new_limits new) page) (pinned_in (object_at old page.memory) page.index)
      (memory.is_pinned (memory_of rows old_limits old) page)
      (frame_in (object_at old page.memory) page.index) (now_in rows (object_at new page.memory) page.index)
      (frame_now (memory_of rows new_limits new) page)
      (sym (pinned_found new page.memory page.index kept.rising))
      (sym (pinned_found old page.memory page.index old_rising)) (sym (now_found new rows page.memory page.index));
  holds = pins_follow rows old_limits new_limits old new before after count holds;
  bytes = bytes;
  kept = kept;
}

-- the same objects, with other memory or areas
pub step_same : (rows : List UserPage) (a : Option MemoryEntry) (i : ℕ)
    → ((o : MemoryEntry) → a ≡ Some o → is_kept o ≡ true) → StepOf rows a a i
step_same rows None i kept = refl
step_same rows (Some o) i kept = stays (frame_of o.pages.pages i)
    (frame_at rows o.pages.pages.user (page_of o.pages.pages.va + i)) (is_pinned o.pages.pages i)
    (not_pinned o (kept o refl) i)
