-- Pins come on users' pages alone, and none goes: the same frames are free as before.
use Rattle.std.proofs.Common.{◌≡◌, ◌≢◌, ℕ, zero, suc, ◌+◌, ◌<◌, ◌≤◌, Bool, true, false, cond, eqb, ltb, Option, Some}
use Rattle.std.proofs.Common.{None, List, [], ◌∷◌, length, get_or, set, refl, ap, sym, ◌∙◌, ⊎_elim, arith}
use Rattle.std.specs.List.{count_by, position_or_len}
use Rattle.std.specs.Option.{option_map_or}
use Rattle.std.proofs.lemmas.Bool.Decides.{nat_tests}
use Rattle.std.proofs.lemmas.Bool.{cases_eq, cases_lt, ltb-true}
use Rattle.std.proofs.lemmas.List.{get_or-set_other, get_or-set_same, length-set, set_past}
use Rattle.frame_memory.specs.Pool.{FramePool, free_count, least_free}
use Rattle.iofd_words.specs.Frames.{FrameWrite}
use Rattle.iofd_words.specs.Pins.{ObjectPage}
use Rattle.iofd_words.specs.declared.numbers.FrameNo.{FrameNo}
use Rattle.iofd_words.specs.declared.rows.TableFrame.{TableFrame}
use Rattle.iofd_words.specs.declared.rows.UserPage.{UserPage}
use Rattle.memory_objects.specs.Invariant.{MemoryInvariant}
use Rattle.memory_objects.specs.Objects.{pins_on}
use Rattle.user_memory_rows.proofs.Named.{settles_named}
use Rattle.user_memory_rows.proofs.CountBy.{count-cons}
use Rattle.user_memory_rows.specs.Shown.{FramesShown, tables_in}
use Rattle.page_table_words.specs.Taken.{least_frames}
use Rattle.user_memory.proofs.Found.{pinned_has}
use Rattle.user_memory.proofs.PinsNamed.{named_counts, some_named}
use Rattle.user_memory.specs.Changes.{Settles}
use Rattle.user_memory.specs.Memory.{Memory, is_pinned, pinned_frame, reached}

-- ---- lists of holds

-- the same of them are none
pub record AreAlike (a b : List ℕ) : Type 0 where
  pub long : length a ≡ length b
  pub none : (k : ℕ) → eqb (get_or a k 0) 0 ≡ eqb (get_or b k 0) 0

later_alike : (x y : ℕ) (a b : List ℕ) → AreAlike (x ∷ a) (y ∷ b) → AreAlike a b
later_alike x y a b alike =
    record { long = let long = alike.long in omega (arith, long); none = λ k. alike.none (suc k) }

abbrev is_none : ℕ → Bool
is_none count = eqb count 0

place_alike : (a b : List ℕ) → AreAlike a b
    → position_or_len (λ count. eqb count 0) a ≡ position_or_len (λ count. eqb count 0) b
place_alike [] [] alike = refl
place_alike [] (y ∷ b) alike = absurd (let long = alike.long in omega (arith, long))
place_alike (x ∷ a) [] alike = absurd (let long = alike.long in omega (arith, long))
place_alike (x ∷ a) (y ∷ b) alike =
    by_test (eqb x 0) (eqb y 0) refl refl (alike.none 0) (place_alike a b (later_alike x y a b alike))
  where
    by_test : (p q : Bool) → eqb x 0 ≡ p → eqb y 0 ≡ q → eqb x 0 ≡ eqb y 0
        → position_or_len (λ count. eqb count 0) a ≡ position_or_len (λ count. eqb count 0) b
        → position_or_len (λ count. eqb count 0) (x ∷ a) ≡ position_or_len (λ count. eqb count 0) (y ∷ b)
    by_test p true one two same rest = rw (same, two) refl
    by_test p false one two same rest = rw (same, two) (ap (λ (n : ℕ). 1 + n) rest)

pub count_alike : (a b : List ℕ) → AreAlike a b → free_count a ≡ free_count b
count_alike [] [] alike = refl
count_alike [] (y ∷ b) alike = absurd (let long = alike.long in omega (arith, long))
count_alike (x ∷ a) [] alike = absurd (let long = alike.long in omega (arith, long))
count_alike (x ∷ a) (y ∷ b) alike =
    count-cons (λ count. eqb count 0) x a
    ∙ ap (λ (p : Bool). cond {A = ℕ} p 1 0 + free_count a) (alike.none 0)
    ∙ ap (λ (n : ℕ). cond {A = ℕ} (eqb y 0) 1 0 + n) (count_alike a b (later_alike x y a b alike))
    ∙ sym (count-cons (λ count. eqb count 0) y b)

set_alike : (a b : List ℕ) (f : ℕ) → AreAlike a b → AreAlike (set a f 1) (set b f 1)
set_alike a b f alike = record {
  long = length-set a f 1 ∙ alike.long ∙ sym (length-set b f 1);
  none = λ k. ⊎_elim
      (λ (same : f ≡ k). ⊎_elim
      (λ (within : f < length a). let long = alike.long in let there : f < length b = omega (
        arith,
        within,
        long,
      ) in here k same within there)
      (λ (past : length a ≤ f). let long = alike.long in beyond k same past (omega (arith, past, long)))
      (cases_lt f (length a)))
      (λ (other : f ≢ k). ap is_none (get_or-set_other a f k 1 0 (λ same. other (sym same))) ∙ alike.none k
      ∙ ap is_none (sym (get_or-set_other b f k 1 0 (λ same. other (sym same)))))
      (cases_eq f k);
}
  where
    here : (k : ℕ) → f ≡ k → f < length a → f < length b
        → eqb (get_or (set a f 1) k 0) 0 ≡ eqb (get_or (set b f 1) k 0) 0
    here k same one two =
        let first : get_or (set a f 1) k 0 ≡ 1 =
        ap (λ (n : ℕ). get_or (set a f 1) n 0) (sym same) ∙ get_or-set_same a f 1 0 one in
        let second : get_or (set b f 1) k 0 ≡ 1 =
        ap (λ (n : ℕ). get_or (set b f 1) n 0) (sym same) ∙ get_or-set_same b f 1 0 two in
        ap is_none (first ∙ sym second)

    beyond : (k : ℕ) → f ≡ k → length a ≤ f → length b ≤ f
        → eqb (get_or (set a f 1) k 0) 0 ≡ eqb (get_or (set b f 1) k 0) 0
    beyond k same one two =
        let first : set a f 1 ≡ a = set_past a f 1 one in
        let second : set b f 1 ≡ b = set_past b f 1 two in
        ap (λ (l : List ℕ). eqb (get_or l k 0) 0) first ∙ alike.none k
        ∙ ap (λ (l : List ℕ). eqb (get_or l k 0) 0) (sym second)

pub least_frames_alike : (n : ℕ) (a b : List ℕ) → AreAlike a b → least_frames a n ≡ least_frames b n
unfolding least_frames
least_frames_alike zero a b alike = refl
least_frames_alike (suc n) a b alike =
    ap (taken_of a) (ap (λ (p : ℕ). cond (ltb p (length a)) (Some p) None) (place_alike a b alike)
    ∙ ap (λ (l : ℕ). cond (ltb (position_or_len (λ count. eqb count 0) b) l)
    (Some (position_or_len (λ count. eqb count 0) b)) None) alike.long)
    ∙ by_least (least_free b) (λ f. least_frames_alike n (set a f 1) (set b f 1) (set_alike a b f alike))
  where
    taken_of : List ℕ → Option ℕ → List FrameNo
    taken_of holds o = option_map_or (λ (f : ℕ). record { 0 = f } ∷ least_frames (set holds f 1) n) o []

    by_least : (o : Option ℕ) → ((f : ℕ) → least_frames (set a f 1) n ≡ least_frames (set b f 1) n)
        → taken_of a o ≡ taken_of b o
    by_least None later = refl
    by_least (Some f) later = ap (λ (fs : List FrameNo). record { 0 = f } ∷ fs) (later f)

-- ---- holds that are counted

no_count : (n : ℕ) → ltb 0 n ≡ false → n ≡ 0
no_count n none = grind (arith, nat_tests)

named_more : (pages pins : ℕ) → 0 < pins → 0 < pages + pins
named_more pages pins some = omega arith

named_still : (old_pages old_pins pages pins : ℕ) → old_pins ≡ 0 → pages ≡ old_pages → 0 < old_pages + old_pins
    → 0 < pages + pins
named_still old_pages old_pins pages pins few same named = omega arith

both_or_none : (r s t a b : ℕ) → a ≡ s + t → b ≡ r + t → (0 < r → 0 < s) → (0 < s → 0 < r) → eqb a 0 ≡ eqb b 0
both_or_none zero zero t a b first second there back = ap is_none (first ∙ sym second)
both_or_none zero (suc s) t a b first second there back =
    absurd (let some = back (omega arith) in omega (arith, some))
both_or_none (suc r) zero t a b first second there back =
    absurd (let some = there (omega arith) in omega (arith, some))
both_or_none (suc r) (suc s) t a b first second there back =
    let one : eqb a 0 ≡ false = grind (arith, nat_tests) in
    let two : eqb b 0 ≡ false = grind (arith, nat_tests) in
    one ∙ sym two

-- ---- pins that come

module _ (old new : Memory) (before after : FramePool) (pool : ℕ) (writes : List FrameWrite) (tables : List TableFrame)
    (invariant : MemoryInvariant old.objects) (only : (page : ObjectPage) → is_pinned old page ≡ false
    → pinned_frame old page ≡ None) (stays : (page : ObjectPage) → is_pinned old page ≡ true
    → is_pinned new page ≡ true)
    (settles : Settles old new before after) (shown : FramesShown pool writes tables old before)
    (shown_after : FramesShown pool writes tables new after) where
  was_pinned : (page : ObjectPage) (frame : FrameNo) → pinned_frame old page ≡ Some frame → is_pinned old page ≡ true
  was_pinned page frame at = by_pin (is_pinned old page) refl
    where
      by_pin : (b : Bool) → is_pinned old page ≡ b → is_pinned old page ≡ true
      by_pin false none = let gone = only page none in cc
      by_pin true is = is

  still_at : (page : ObjectPage) (frame : FrameNo) → pinned_frame old page ≡ Some frame
      → pinned_frame new page ≡ Some frame
  still_at page frame at = by_pin (is_pinned old page) refl
    where
      by_pin : (b : Bool) → is_pinned old page ≡ b → pinned_frame new page ≡ Some frame
      by_pin false none = let gone = only page none in cc
      by_pin true is = settles.frames page ∙ rw (stays page is, is) at

  -- what was named still is
  still_named : (f : ℕ) → 0 < reached old f → 0 < reached new f
  still_named f named = by_pins (ltb 0 (pins_on old.objects f)) refl
    where
      by_pins : (b : Bool) → ltb 0 (pins_on old.objects f) ≡ b → 0 < reached new f
      by_pins true some =
          let found = some_named old.objects f invariant.rising some in
          let counted = named_counts new.objects found.number found.index f found.found
          (pinned_has new (record { memory = found.number; index = found.index }) settles.kept.rising
          (stays (record { memory = found.number; index = found.index })
          (was_pinned (record { memory = found.number; index = found.index }) found.found found.pinned)))
          (still_at (record { memory = found.number; index = found.index }) found.found found.pinned) found.names in
          named_more _ _ (ltb-true _ _ counted)
      by_pins false none =
          let few = no_count (pins_on old.objects f) none in
          let same : count_by (λ (p : UserPage). eqb p.frame.0 f) new.pages ≡ count_by
          (λ (p : UserPage). eqb p.frame.0 f) old.pages =
          ap (count_by (λ (p : UserPage). eqb p.frame.0 f)) settles.pages in
          named_still _ _ _ _ few same named

  -- the same frames are free
  pub free_alike : AreAlike after.holds before.holds
  free_alike = record {
    long = settles.holds.count;
    none = λ k. both_or_none (reached old k) (reached new k) (tables_in tables k) (get_or after.holds k 0)
        (get_or before.holds k 0) (shown_after.holds k) (shown.holds k) (still_named k)
        (settles_named old new before after invariant.rising settles k);
  }
