-- Some pin names a frame just where some page is pinned at it.
use Rattle.std.proofs.Common.{◌≡◌, ◌≢◌, ℕ, zero, suc, ◌+◌, ◌<◌, ◌≤◌, Bool, true, false, cond, eqb, ltb, Option, Some}
use Rattle.std.proofs.Common.{None, List, [], ◌∷◌, refl}
use Rattle.std.proofs.Common.{ap, sym, ◌∙◌, arith, ⊎_elim}
use Rattle.std.specs.List.{cons_option, filter_map, list_all, range_with_len}
use Rattle.std.proofs.lemmas.Bool.{and_parts, cases_eq}
use Rattle.std.proofs.lemmas.Bool.Decides.{nat_tests}
use Rattle.std.proofs.lemmas.List.Sums.{sum_by-cons}
use Rattle.iofd_words.specs.declared.numbers.FrameNo.{FrameNo}
use Rattle.pinned_pages.specs.Holds.{times}
use Rattle.memory_objects.specs.Objects.{MemoryEntry, are_rising, object_at, pinned_frame, pins_on}
use Rattle.pinned_pages.specs.Pages.{frame_of, held_frames}
use Rattle.user_memory.proofs.Found.{has_index}

-- ---- the frames of one object

one_more : (frame : ℕ) (f : FrameNo) (frames : List FrameNo)
    → times frame (f ∷ frames) ≡ cond (eqb f.0 frame) 1 0 + times frame frames
one_more frame f frames = sum_by-cons (λ (y : FrameNo). cond (eqb y.0 frame) 1 0) f frames

-- the frame is some page's
record IsAt (h : ℕ → Option FrameNo) (frame : ℕ) : Type 0 where
  at : ℕ
  found : FrameNo
  is : h at ≡ Some found
  names : eqb found.0 frame ≡ true

some_at : (h : ℕ → Option FrameNo) (from n frame : ℕ)
    → ltb 0 (times frame (filter_map h (range_with_len from n))) ≡ true
    → IsAt h frame
some_at h from zero frame some = cc
some_at h from (suc n) frame some =
    by_frame (h from) refl some (some_at h (from + 1) n frame)
  where
    by_frame : (o : Option FrameNo) → h from ≡ o
        → ltb 0 (times frame (cons_option o (filter_map h (range_with_len (from + 1) n)))) ≡ true
        → (ltb 0 (times frame (filter_map h (range_with_len (from + 1) n))) ≡ true → IsAt h frame) → IsAt h frame
    by_frame None is some later = later some
    by_frame (Some f) is some later =
        by_test (eqb f.0 frame) refl (rw (one_more frame f (filter_map h (range_with_len (from + 1) n))) at some)
      where
        by_test : (b : Bool) → eqb f.0 frame ≡ b
            → ltb 0 (cond (eqb f.0 frame) 1 0 + times frame (filter_map h (range_with_len (from + 1) n))) ≡ true
            → IsAt h frame
        by_test true names some = record { at = from; found = f; is = is; names = names }
        by_test false other some =
            let left : ltb 0 (0 + times frame (filter_map h (range_with_len (from + 1) n))) ≡ true = rw other at some in
            later (grind (arith, nat_tests))

counted_at : (h : ℕ → Option FrameNo) (from n i : ℕ) (x : FrameNo) (frame : ℕ) → from ≤ i → i < from + n → h i ≡ Some x
    → eqb x.0 frame ≡ true → 0 < times frame (filter_map h (range_with_len from n))
counted_at h from zero i x frame low high is names = absurd (omega (arith, low, high))
counted_at h from (suc n) i x frame low high is names =
    ⊎_elim
    (λ (same : i ≡ from).
    let here : h from ≡ Some x = ap h (sym same) ∙ is in
    let list : filter_map h (range_with_len from (suc n)) ≡ x ∷ filter_map h (range_with_len (from + 1) n) =
    ap (λ o. cons_option o (filter_map h (range_with_len (from + 1) n))) here in
    let one = ap (times frame) list ∙ one_more frame x (filter_map h (range_with_len (from + 1) n)) in
    let yes = ap {B = ℕ} (λ b. cond b 1 0) names in
    omega (arith, one, yes))
    (λ (differ : i ≢ from).
    let rest = counted_at h (from + 1) n i x frame (omega (arith, low, differ)) (omega (arith, high)) is names in
    more (h from) rest)
    (cases_eq i from)
  where
    more : (o : Option FrameNo) → 0 < times frame (filter_map h (range_with_len (from + 1) n))
        → 0 < times frame (cons_option o (filter_map h (range_with_len (from + 1) n)))
    more None rest = rest
    more (Some f) rest = omega (arith, rest, one_more frame f (filter_map h (range_with_len (from + 1) n)))

-- ---- all objects

-- a page that is pinned at the frame
pub record IsNamed (objects : List MemoryEntry) (frame : ℕ) : Type 0 where
  pub number : ℕ
  pub index : ℕ
  pub found : FrameNo
  pub pinned : pinned_frame objects number index ≡ Some found
  pub names : eqb found.0 frame ≡ true

above : (m : ℕ) (objects : List MemoryEntry) (n i : ℕ) (x : FrameNo)
    → list_all (λ (next : MemoryEntry). ltb m next.number) objects ≡ true → pinned_frame objects n i ≡ Some x
    → eqb m n ≡ false
above m [] n i x later is = cc
above m (o ∷ objects) n i x later is =
    let parts = and_parts (ltb m o.number) (list_all (λ (next : MemoryEntry). ltb m next.number) objects) later in
    by_number (eqb o.number n) refl is parts.0 (above m objects n i x parts.1)
  where
    by_number : (b : Bool) → eqb o.number n ≡ b → pinned_frame (o ∷ objects) n i ≡ Some x → ltb m o.number ≡ true
        → (pinned_frame objects n i ≡ Some x → eqb m n ≡ false) → eqb m n ≡ false
    by_number true same is first rest = grind (arith, nat_tests)
    by_number false other is first rest = rest (rw other at is)

pins_more : (o : MemoryEntry) (objects : List MemoryEntry) (frame : ℕ)
    → pins_on (o ∷ objects) frame ≡ times frame (held_frames o.pages.pages) + pins_on objects frame
pins_more o objects frame =
    sum_by-cons (λ (object : MemoryEntry). times frame (held_frames object.pages.pages)) o objects

pub some_named : (objects : List MemoryEntry) (frame : ℕ) → are_rising objects ≡ true
    → ltb 0 (pins_on objects frame) ≡ true → IsNamed objects frame
some_named [] frame rising some = cc
some_named (o ∷ objects) frame rising some =
    let parts =
    and_parts (list_all (λ (next : MemoryEntry). ltb o.number next.number) objects) (are_rising objects) rising in
    by_test (ltb 0 (times frame (held_frames o.pages.pages))) refl (rw (pins_more o objects frame) at some) parts.0
    (some_named objects frame parts.1)
  where
    own : (n : ℕ) → eqb n n ≡ true
    own n = grind (arith, nat_tests)

    by_test : (b : Bool) → ltb 0 (times frame (held_frames o.pages.pages)) ≡ b
        → ltb 0 (times frame (held_frames o.pages.pages) + pins_on objects frame) ≡ true
        → list_all (λ (next : MemoryEntry). ltb o.number next.number) objects ≡ true
        → (ltb 0 (pins_on objects frame) ≡ true → IsNamed objects frame) → IsNamed (o ∷ objects) frame
    by_test true is some first later =
        let here = some_at (frame_of o.pages.pages) 0 o.pages.pages.count frame is in
        record {
          number = o.number;
          index = here.at;
          found = here.found;
          pinned = rw (own o.number) here.is;
          names = here.names;
        }
    by_test false is some first later =
        let rest = later (grind (arith, nat_tests)) in
        let other = above o.number objects rest.number rest.index rest.found first rest.pinned in
        record {
          number = rest.number;
          index = rest.index;
          found = rest.found;
          pinned = rw other rest.pinned;
          names = rest.names;
        }

pub named_counts : (objects : List MemoryEntry) (number index frame : ℕ) (x : FrameNo)
    → has_index (object_at objects number) index ≡ true
    → pinned_frame objects number index ≡ Some x → eqb x.0 frame ≡ true → ltb 0 (pins_on objects frame) ≡ true
named_counts [] number index frame x has is names = cc
named_counts (o ∷ objects) number index frame x has is names =
    by_number (eqb o.number number) refl has is (named_counts objects number index frame x)
  where
    by_number : (b : Bool) → eqb o.number number ≡ b → has_index (object_at (o ∷ objects) number) index ≡ true
        → pinned_frame (o ∷ objects) number index ≡ Some x
        → (has_index (object_at objects number) index ≡ true → pinned_frame objects number index ≡ Some x
        → eqb x.0 frame ≡ true → ltb 0 (pins_on objects frame) ≡ true)
        → ltb 0 (pins_on (o ∷ objects) frame) ≡ true
    by_number true same has is rest =
        let within : ltb index o.pages.pages.count ≡ true = rw same at has in
        let low : index < o.pages.pages.count = search (within, arith, nat_tests) in
        let here = counted_at (frame_of o.pages.pages) 0 o.pages.pages.count index x frame (omega arith)
        (omega (arith, low)) (rw same at is) names in
        let sum = pins_more o objects frame in
        grind (arith, nat_tests)
    by_number false other has is rest =
        let left = rest (rw other at has) (rw other at is) names in
        let sum = pins_more o objects frame in
        grind (arith, nat_tests)
