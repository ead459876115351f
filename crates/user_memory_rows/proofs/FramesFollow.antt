-- Users' pages, holds and bytes follow the steps that change them.
use Rattle.std.proofs.Common.{◌≡◌, ℕ, zero, suc, ◌+◌, ◌-◌, ◌≤◌, ◌<◌, ◌≢◌, ◌⊎◌, inl, inr, Bool, true, false, cond, ◌&&◌}
use Rattle.std.proofs.Common.{◌||◌, not, eqb, ltb, leb, Some, None, List, [], ◌∷◌, ◌++◌, length, map, take, drop, refl}
use Rattle.std.proofs.Common.{ap, sym, ◌∙◌, arith, get_or}
use Rattle.std.specs.Prelude.{if◌then◌else◌}
use Rattle.std.specs.List.{count_by, find, list_any, position_or_len, range_with_len, splice}
use Rattle.std.proofs.lemmas.Bool.{cases_eq, eqb-true}
use Rattle.std.proofs.lemmas.Bool.Decides.{nat_tests}
use Rattle.std.specs.Prelude.{slice_index}
use Rattle.std.proofs.lemmas.List.{get_or-drop, get_or-replicate, get_or-set_other, get_or-set_same, get_or-take}
use Rattle.std.proofs.lemmas.List.{get_or-append_right, get_or_append_left, length-append, length-drop}
use Rattle.std.proofs.lemmas.List.{length-replicate, length-set, length-take-le}
use Rattle.std.proofs.lemmas.List.Quantifiers.{position-Some}
use Rattle.user_memory_rows.proofs.Counts.{count_alike, count_parts, count_within}
use Rattle.iofd_rows.proofs.Bools.{and_true, both_true, clash}
use Rattle.frame_memory.specs.Pool.{FramePool, bytes_at, bytes_of, frame_size, free_count, given, is_free, least_free}
use Rattle.frame_memory.specs.Pool.{written, zeros}
use Rattle.frame_memory.specs.UserPages.{HasOneMore, is_page, user_page}
use Rattle.iofd_words.specs.Frames as frame
use Rattle.iofd_words.specs.Frames.{FrameWrite, byte_at, covers, frame_at, without_frame, without_page}
use Rattle.iofd_words.specs.Objects.{has_hwpt}
use Rattle.iofd_words.specs.declared.numbers.FileNo.{FileNo}
use Rattle.iofd_words.specs.declared.numbers.FrameNo.{FrameNo}
use Rattle.iofd_words.specs.declared.numbers.ObjId.{ObjId}
use Rattle.iofd_words.specs.declared.numbers.UserNo.{UserNo}
use Rattle.iofd_words.specs.declared.rows.Area.{Area}
use Rattle.iofd_words.specs.declared.rows.MemoryObject.{MemoryObject}
use Rattle.iofd_words.specs.declared.rows.Object.{Object}
use Rattle.iofd_words.specs.Pins.{ObjectPage}
use Rattle.iofd_words.specs.declared.rows.AccessPin.{AccessPin}
use Rattle.iofd_words.specs.declared.rows.Pin.{Pin}
use Rattle.iofd_words.specs.declared.rows.TableFrame.{TableFrame}
use Rattle.iofd_words.specs.declared.rows.UserPage.{UserPage}
use Rattle.user_memory_rows.proofs.CountBy.{any_count, count-cons}
use Rattle.user_memory_rows.specs.Shown.{FramesShown, PinsShown, UsersShown, accessed, has_page, over, tables_in}
use Rattle.user_memory_rows.specs.Shown.{translated}
use Rattle.memory_objects.specs.Objects.{pins_on}
use Rattle.user_memory.specs.Changes.{HoldsFollow, SameObjects}
use Rattle.user_memory.specs.Memory.{IsBacked, Memory, reached}

eqb_same : (n : ℕ) → eqb n n ≡ true
eqb_same n = grind (arith, nat_tests)

-- ---- holds and bytes

module _ (pool : ℕ) (writes : List FrameWrite) (tables : List TableFrame) (old new : Memory) (before after : FramePool)
    (shown : FramesShown pool writes tables old before) where
  pub holds_follow : HoldsFollow old new before after → (f : ℕ)
      → slice_index after.holds f ≡ reached new f + tables_in tables f
  holds_follow follow f = left (slice_index after.holds f) (reached old f) (slice_index before.holds f) (reached new f)
      (tables_in tables f) (follow.holds f) (shown.holds f)
    where
      left : (h r k s t : ℕ) → h + r ≡ k + s → k ≡ r + t → h ≡ s + t
      left h r k s t sum same = omega (arith, sum, same)

  -- no byte changes, and no frame is named that wasn't
  pub frames_follow : HoldsFollow old new before after → after.bytes ≡ before.bytes
      → ((f : ℕ) → 0 < reached new f → 0 < reached old f) → FramesShown pool writes tables new after
  frames_follow follow bytes named = record {
    size = follow.count ∙ shown.size;
    count = ap length bytes ∙ shown.count;
    full = λ f within reached. ap (λ (all : List (List ℕ)). length (get_or all f [])) bytes
        ∙ shown.full f within (named f reached);
    holds = holds_follow follow;
    once = shown.once;
    written = λ f offset within below reached. ap (λ (all : List (List ℕ)). get_or (get_or all f []) offset 0) bytes
        ∙ shown.written f offset within below (named f reached);
  }

-- the holds are those that memory makes, and few
pub is_backed : (pool : ℕ) (writes : List FrameWrite) (tables : List TableFrame) (m : Memory) (frames : FramePool)
    → FramesShown pool writes tables m frames → IsBacked m frames.holds
is_backed pool writes tables m frames shown = record {
  least = λ f. let same = shown.holds f in omega (arith, same);
  most = λ f. let same = shown.holds f in let few = shown.once f in omega (arith, same, few);
}

-- the memory objects are the same
pub pins_same : (objects : List Object) (areas : List Area) (memory_objects : List MemoryObject) (pins : List Pin)
    (access_pins : List AccessPin) (old new : Memory)
    → PinsShown objects areas memory_objects pins access_pins old → SameObjects old new
    → PinsShown objects areas memory_objects pins access_pins new
pins_same objects areas memory_objects pins access_pins old new shown same = record {
  rows = shown.rows ∙ sym same.rows;
  areas = λ number. same.areas number ∙ shown.areas number;
  tables = λ number. same.pins number ∙ shown.tables number;
  access = λ page there. same.access page ∙ shown.access page there;
  frames = λ page. shown.frames page ∙ sym (same.frames page);
  names = λ f. shown.names f ∙ ap (ltb 0) (sym (same.named f));
  invariant = same.kept;
}

-- objects and areas change, and as many areas lie over each memory object, and are translated; access pins cover each
-- page as often
pub pins_moved : (objects new_objects : List Object) (areas new_areas : List Area)
    (memory_objects : List MemoryObject) (pins : List Pin) (access_pins : List AccessPin) (kept : Memory)
    → PinsShown objects areas memory_objects pins access_pins kept
    → ((number : ℕ) → over new_areas number ≡ over areas number)
    → ((number : ℕ) → translated new_objects new_areas number ≡ translated objects areas number)
    → ((page : ObjectPage) → has_page memory_objects page ≡ true
    → accessed new_objects new_areas access_pins page ≡ accessed objects areas access_pins page)
    → PinsShown new_objects new_areas memory_objects pins access_pins kept
pins_moved objects new_objects areas new_areas memory_objects pins access_pins kept shown same_over same_translated
    same_accessed = record {
      rows = shown.rows;
      areas = λ number. shown.areas number ∙ sym (same_over number);
      tables = λ number. shown.tables number ∙ sym (same_translated number);
      access = λ page there. shown.access page there ∙ sym (same_accessed page there);
      frames = shown.frames;
      names = shown.names;
      invariant = shown.invariant;
    }

-- the same address spaces have page tables
pub translated_same : (objects new_objects : List Object) (areas : List Area)
    → ((file : FileNo) (ioas : ObjId) → has_hwpt new_objects file ioas ≡ has_hwpt objects file ioas)
    → (number : ℕ) → translated new_objects areas number ≡ translated objects areas number
translated_same objects new_objects areas same number =
    count_alike (λ (area : Area). eqb area.memory number && has_hwpt new_objects area.file area.ioas)
    (λ (area : Area). eqb area.memory number && has_hwpt objects area.file area.ioas) areas
    (λ area. ap (λ (b : Bool). eqb area.memory number && b) (same area.file area.ioas))

-- ---- users' pages

same_user : (a b : UserNo) → eqb a.0 b.0 ≡ true → a ≡ b
same_user a b same = ap (λ (n : ℕ). let user : UserNo = record { 0 = n } in user) (eqb-true a.0 b.0 same)

-- a page comes, which the user hadn't
-- a row that isn't of the page is passed over
at_false : (r : UserPage) (user : UserNo) (page : ℕ) (rows : List UserPage) → is_page user page r ≡ false
    → frame_at (r ∷ rows) user page ≡ frame_at rows user page
at_false r user page rows is = rw (is, frame_at) refl

at_true : (r : UserPage) (user : UserNo) (page : ℕ) (rows : List UserPage) → is_page user page r ≡ true
    → frame_at (r ∷ rows) user page ≡ Some r.frame
at_true r user page rows is = rw (is, frame_at) refl

pub users_more : (user_pages kept more : List UserPage) (row : UserPage) → UsersShown user_pages kept
    → HasOneMore kept more row → UsersShown (user_pages ++ row ∷ []) more
users_more user_pages kept more row shown has = record {
  pages = λ user page. at_page user page (is_page user page row) refl ∙ sym (has.frames user page);
  counts =
      λ test. counted test user_pages ∙ ap (λ n. n + cond (test row) 1 0) (shown.counts test) ∙ sym (has.counts test);
}
  where
    found_last : (user : UserNo) (page : ℕ) (rows : List UserPage) → is_page user page row ≡ true
        → frame_at rows user page ≡ None → frame_at (rows ++ row ∷ []) user page ≡ Some row.frame
    found_last user page [] is none = rw (is, frame_at) refl
    found_last user page (r ∷ rows) is none = by_test (is_page user page r) refl none (found_last user page rows is)
      where
        by_test : (b : Bool) → is_page user page r ≡ b → frame_at (r ∷ rows) user page ≡ None
            → (frame_at rows user page ≡ None → frame_at (rows ++ row ∷ []) user page ≡ Some row.frame)
            → frame_at (r ∷ rows ++ row ∷ []) user page ≡ Some row.frame
        by_test true here none later = let never : Some r.frame ≡ None = rw (here, frame_at) at none in cc
        by_test false here none later = at_false r user page (rows ++ row ∷ []) here
            ∙ later (sym (at_false r user page rows here) ∙ none)

    not_last : (user : UserNo) (page : ℕ) (rows : List UserPage) → is_page user page row ≡ false
        → frame_at (rows ++ row ∷ []) user page ≡ frame_at rows user page
    not_last user page [] is = rw (is, frame_at) refl
    not_last user page (r ∷ rows) is = by_test (is_page user page r) refl (not_last user page rows is)
      where
        by_test : (b : Bool) → is_page user page r ≡ b → frame_at (rows ++ row ∷ []) user page ≡ frame_at rows user page
            → frame_at (r ∷ rows ++ row ∷ []) user page ≡ frame_at (r ∷ rows) user page
        by_test true here rest = rw (here, frame_at) refl
        by_test false here rest = at_false r user page (rows ++ row ∷ []) here ∙ rest
            ∙ sym (at_false r user page rows here)

    at_page : (user : UserNo) (page : ℕ) (b : Bool) → is_page user page row ≡ b
        → frame_at (user_pages ++ row ∷ []) user page ≡ (if is_page user page row then Some row.frame
        else frame_at kept user page)
    at_page user page true is =
        let parts = and_true (eqb row.user.0 user.0) (eqb row.page page) is in
        let here_user : row.user ≡ user = same_user row.user user parts.0 in
        let here_page : row.page ≡ page = eqb-true row.page page parts.1 in
        let absent : frame_at kept user page ≡ None =
        ap (λ (x : UserNo). frame_at kept x page) (sym here_user)
        ∙ ap (λ (x : ℕ). frame_at kept row.user x) (sym here_page) ∙ has.absent
        in
        found_last user page user_pages is (shown.pages user page ∙ absent) ∙ rw is refl
    at_page user page false is = not_last user page user_pages is ∙ shown.pages user page ∙ rw is refl

    counted : (test : UserPage → Bool) (rows : List UserPage)
        → count_by test (rows ++ row ∷ []) ≡ count_by test rows + cond (test row) 1 0
    counted test [] = count-cons test row [] ∙ omega arith
    counted test (r ∷ rows) =
        let one = count-cons test r (rows ++ row ∷ []) in
        let rest = counted test rows in
        let all = count-cons test r rows in
        omega (arith, one, rest, all)

-- a page goes
module _ (user : UserNo) (page : ℕ) where
  -- it is found no more
  page_gone : (rows : List UserPage) → frame_at (without_page rows user page) user page ≡ None
  page_gone [] = refl
  page_gone (r ∷ rows) = by_test (is_page user page r) refl (page_gone rows)
    where
      by_test : (b : Bool) → is_page user page r ≡ b → frame_at (without_page rows user page) user page ≡ None
          → frame_at (cond (not b) (r ∷ without_page rows user page) (without_page rows user page)) user page ≡ None
      by_test true is rest = rest
      by_test false is rest = at_false r user page (without_page rows user page) is ∙ rest

  -- the others are found as before
  page_stays : (u : UserNo) (p : ℕ) → ((r : UserPage) → is_page user page r ≡ true → is_page u p r ≡ false)
      → (rows : List UserPage)
      → frame_at (without_page rows user page) u p ≡ frame_at rows u p
  page_stays u p other [] = refl
  page_stays u p other (r ∷ rows) = by_test (is_page user page r) refl (page_stays u p other rows)
    where
      by_here : (b : Bool) → is_page u p r ≡ b → frame_at (without_page rows user page) u p ≡ frame_at rows u p
          → frame_at (r ∷ without_page rows user page) u p ≡ frame_at (r ∷ rows) u p
      by_here true is rest = at_true r u p (without_page rows user page) is ∙ sym (at_true r u p rows is)
      by_here false is rest = at_false r u p (without_page rows user page) is ∙ rest ∙ sym (at_false r u p rows is)

      by_test : (b : Bool) → is_page user page r ≡ b → frame_at (without_page rows user page) u p ≡ frame_at rows u p
          → frame_at (cond (not b) (r ∷ without_page rows user page) (without_page rows user page)) u p
          ≡ frame_at (r ∷ rows) u p
      by_test true is rest = rest ∙ sym (at_false r u p rows (other r is))
      by_test false is rest = by_here (is_page u p r) refl rest

  -- where it isn't found no row is of it
  none_counted : (test : UserPage → Bool) (rows : List UserPage) → frame_at rows user page ≡ None
      → count_by (λ r. is_page user page r && test r) rows ≡ 0
  none_counted test [] none = refl
  none_counted test (r ∷ rows) none = by_test (is_page user page r) refl (λ rest. none_counted test rows rest)
    where
      by_test : (b : Bool) → is_page user page r ≡ b → (frame_at rows user page ≡ None
          → count_by (λ x. is_page user page x && test x) rows ≡ 0)
          → count_by (λ x. is_page user page x && test x) (r ∷ rows) ≡ 0
      by_test true is later = let never : Some r.frame ≡ None = sym (at_true r user page rows is) ∙ none in cc
      by_test false is later =
          count-cons (λ x. is_page user page x && test x) r rows
          ∙ ap (λ b. cond {A = ℕ} (b && test r) 1 0 + count_by (λ x. is_page user page x && test x) rows) is
          ∙ ap (λ n. 0 + n) (later (sym (at_false r user page rows is) ∙ none))

pub users_less : (user_pages kept less : List UserPage) (user : UserNo) (page : ℕ) (frame : FrameNo)
    → UsersShown user_pages kept
    → HasOneMore less kept (user_page user page frame) → UsersShown (without_page user_pages user page) less
users_less user_pages kept less user page frame shown has = record {
  pages = λ u p. at_page u p (is_page u p row) refl;
  counts = left;
}
  where
    row : UserPage
    row = user_page user page frame

    at_page : (u : UserNo) (p : ℕ) (b : Bool) → is_page u p (user_page user page frame) ≡ b
        → frame_at (without_page user_pages user page) u p ≡ frame_at less u p
    at_page u p true is =
        let parts = and_true (eqb user.0 u.0) (eqb page p) is in
        let here_user : user ≡ u = same_user user u parts.0 in
        let here_page : page ≡ p = eqb-true page p parts.1 in
        ap (λ (x : UserNo). frame_at (without_page user_pages user page) x p) (sym here_user)
        ∙ ap (λ (x : ℕ). frame_at (without_page user_pages user page) user x) (sym here_page)
        ∙ page_gone user page user_pages
        ∙ sym has.absent
        ∙ ap (λ (x : UserNo). frame_at less x page) here_user
        ∙ ap (λ (x : ℕ). frame_at less u x) here_page
    at_page u p false is =
        page_stays user page u p (λ r here. other r here (is_page u p r) refl) user_pages
        ∙ shown.pages u p
        ∙ has.frames u p
        ∙ rw is refl
      where
        other : (r : UserPage) → is_page user page r ≡ true → (b : Bool) → is_page u p r ≡ b → is_page u p r ≡ false
        other r here true there =
            let parts = and_true (eqb r.user.0 user.0) (eqb r.page page) here in
            let others = and_true (eqb r.user.0 u.0) (eqb r.page p) there in
            let user_is : r.user.0 ≡ user.0 = eqb-true r.user.0 user.0 parts.0 in
            let page_is : r.page ≡ page = eqb-true r.page page parts.1 in
            let a : eqb user.0 u.0 ≡ true = ap (λ (x : ℕ). eqb x u.0) (sym user_is) ∙ others.0 in
            let b : eqb page p ≡ true = ap (λ (x : ℕ). eqb x p) (sym page_is) ∙ others.1 in
            absurd (clash _ is (both_true _ _ a b))
        other r here false there = there

    left : (test : UserPage → Bool) → count_by test (without_page user_pages user page) ≡ count_by test less
    left test =
        let goes = λ (r : UserPage). is_page user page r && test r in
        let itself : is_page user page (user_page user page frame) ≡ true =
        both_true _ _ (eqb_same user.0) (eqb_same page) in
        let parts = count_parts test (is_page user page) user_pages in
        let within = count_within test (is_page user page) user_pages in
        let gone : count_by (λ r. is_page user page r && test r) user_pages
        ≡ count_by (λ r. is_page user page r && test r) kept = shown.counts goes in
        let one : count_by (λ r. is_page user page r && test r) kept
        ≡ count_by (λ r. is_page user page r && test r) less + cond (test (user_page user page frame)) 1 0 =
        has.counts goes ∙ ap (λ (b : Bool). count_by (λ r. is_page user page r && test r) less + cond
        (b && test (user_page user page frame)) 1 0) itself in
        let none = none_counted user page test less has.absent in
        let all = shown.counts test in
        let whole : count_by test kept ≡ count_by test less + cond (test (user_page user page frame)) 1 0 =
        has.counts test in
        omega (arith, parts, within, gone, one, none, all, whole)

-- ---- a frame is given out

-- its bytes were written before it
gone_byte : (frame offset : ℕ) (writes : List FrameWrite) → byte_at (without_frame frame writes) frame offset ≡ 0
gone_byte frame offset [] = refl
gone_byte frame offset (write ∷ writes) = by_test (eqb write.frame frame) refl (gone_byte frame offset writes)
  where
    by_test : (b : Bool) → eqb write.frame frame ≡ b → byte_at (without_frame frame writes) frame offset ≡ 0
        → byte_at (cond (not b) (write ∷ without_frame frame writes) (without_frame frame writes)) frame offset ≡ 0
    by_test true is rest = rest
    by_test false is rest = rw is rest

-- those of another frame stay
other_byte : (frame f offset : ℕ) → eqb frame f ≡ false → (writes : List FrameWrite)
    → byte_at (without_frame frame writes) f offset ≡ byte_at writes f offset
other_byte frame f offset differ [] = refl
other_byte frame f offset differ (write ∷ writes) = by_test (eqb write.frame frame) refl
    (other_byte frame f offset differ writes)
  where
    by_test : (b : Bool) → eqb write.frame frame ≡ b → byte_at (without_frame frame writes) f offset
        ≡ byte_at writes f offset
        → byte_at (cond (not b) (write ∷ without_frame frame writes) (without_frame frame writes)) f offset
        ≡ byte_at (write ∷ writes) f offset
    by_test true is rest =
        let same : write.frame ≡ frame = eqb-true write.frame frame is in
        let not_it : eqb write.frame f ≡ false = ap (λ (n : ℕ). eqb n f) same ∙ differ in
        rw not_it rest
    by_test false is rest =
        ap (λ (n : ℕ). if covers write f offset then slice_index write.bytes (offset - write.offset) else n) rest

-- the least free frame is one of the pool
pub least_within : (holds : List ℕ) (frame : ℕ) → least_free holds ≡ Some frame → frame < length holds
least_within holds frame is = (position-Some (λ count. eqb count 0) holds frame 0 is).0

frame_size-is : frame_size ≡ 4096
unfolding frame_size
frame_size-is = refl

module _ (pool : ℕ) (writes : List FrameWrite) (tables : List TableFrame) (old new : Memory) (before : FramePool)
    (frame : ℕ) (shown : FramesShown pool writes tables old before)
    (within : frame < pool) where
  in_bytes : frame < length before.bytes
  in_bytes = let same = shown.count in omega (arith, within, same)

  -- no other frame is named that wasn't
  pub given_shown : HoldsFollow old new before (given before frame)
      → ((f : ℕ) → f ≢ frame → 0 < reached new f → 0 < reached old f)
      → FramesShown pool (without_frame frame writes) tables new (given before frame)
  given_shown follow named = record {
    size = follow.count ∙ shown.size;
    count = length-set before.bytes frame zeros ∙ shown.count;
    full = λ f below reached. at_full f below reached (cases_eq f frame);
    holds = holds_follow pool writes tables old new before (given before frame) shown follow;
    once = shown.once;
    written = λ f offset below few reached. at_byte f offset below few reached (cases_eq f frame);
  }
    where
      at_full : (f : ℕ) → f < pool → 0 < reached new f → (f ≡ frame) ⊎ (f ≢ frame)
          → length (bytes_of (given before frame) f) ≡ 4096
      at_full f below reached (inl same) = ap (λ (n : ℕ). length (bytes_of (given before frame) n)) same
          ∙ ap (λ (l : List ℕ). length l) (get_or-set_same before.bytes frame zeros [] in_bytes)
          ∙ length-replicate frame_size 0 ∙ frame_size-is
      at_full f below reached (inr differ) = ap (λ (l : List ℕ). length l)
          (get_or-set_other before.bytes frame f zeros [] differ) ∙ shown.full f below (named f differ reached)

      at_byte : (f offset : ℕ) → f < pool → offset < 4096 → 0 < reached new f → (f ≡ frame) ⊎ (f ≢ frame)
          → slice_index (bytes_of (given before frame) f) offset ≡ byte_at (without_frame frame writes) f offset
      at_byte f offset below few reached (inl same) =
          ap (λ (n : ℕ). slice_index (bytes_of (given before frame) n) offset) same
          ∙ ap (λ (l : List ℕ). slice_index l offset) (get_or-set_same before.bytes frame zeros [] in_bytes)
          ∙ get_or-replicate frame_size offset 0 0 (omega (arith, few, frame_size-is))
          ∙ sym (gone_byte frame offset writes)
          ∙ ap (λ (n : ℕ). byte_at (without_frame frame writes) n offset) (sym same)
      at_byte f offset below few reached (inr differ) =
          ap (λ (l : List ℕ). slice_index l offset) (get_or-set_other before.bytes frame f zeros [] differ)
          ∙ shown.written f offset below few (named f differ reached)
          ∙ sym (other_byte frame f offset (unlike f differ) writes)
        where
          unlike : (f : ℕ) → f ≢ frame → eqb frame f ≡ false
          unlike f differ = grind (arith, nat_tests)

-- ---- bytes are written

-- a byte of a list of which a part is overwritten
spliced_byte : (xs ys : List ℕ) (a o : ℕ) → a + length ys ≤ length xs
    → slice_index (splice xs a (a + length ys) ys) o ≡ (if leb a o && ltb o (a + length ys) then slice_index ys
    (o - a) else slice_index xs o)
spliced_byte xs ys a o room = by_tests (leb a o) (ltb o (a + length ys)) refl refl
  where
    long : length (take a xs) ≡ a
    long = length-take-le a xs (omega (arith, room))

    before : o < a → slice_index (splice xs a (a + length ys) ys) o ≡ slice_index xs o
    before below =
        get_or_append_left (take a xs) (ys ++ drop (a + length ys) xs) 0 o
        (let same = long in omega (arith, below, same))
        ∙ get_or-take a xs o 0 below

    behind : a + length ys ≤ o → slice_index (splice xs a (a + length ys) ys) o ≡ slice_index xs o
    behind above =
        get_or-append_right (take a xs) (ys ++ drop (a + length ys) xs) a o 0 long (omega (arith, above))
        ∙ get_or-append_right ys (drop (a + length ys) xs) (length ys) (o - a) 0 refl (omega (arith, above))
        ∙ get_or-drop (a + length ys) xs (o - a - length ys) 0
        ∙ ap (λ (n : ℕ). slice_index xs n) (omega (arith, above))

    inside : a ≤ o → o < a + length ys → slice_index (splice xs a (a + length ys) ys) o ≡ slice_index ys (o - a)
    inside from to =
        get_or-append_right (take a xs) (ys ++ drop (a + length ys) xs) a o 0 long from
        ∙ get_or_append_left ys (drop (a + length ys) xs) 0 (o - a) (omega (arith, from, to))

    by_tests : (b c : Bool) → leb a o ≡ b → ltb o (a + length ys) ≡ c
        → slice_index (splice xs a (a + length ys) ys) o ≡ (if b && c then slice_index ys (o - a) else slice_index xs o)
    by_tests true true from to = inside (search (from, arith, nat_tests)) (search (to, arith, nat_tests))
    by_tests true false from to = behind (search (to, arith, nat_tests))
    by_tests false c from to = before (search (from, arith, nat_tests))

length-spliced : (xs ys : List ℕ) (a : ℕ) → a + length ys ≤ length xs
    → length (splice xs a (a + length ys) ys) ≡ length xs
length-spliced xs ys a room =
    let whole = length-append (take a xs) (ys ++ drop (a + length ys) xs) in
    let rest = length-append ys (drop (a + length ys) xs) in
    let first = length-take-le a xs (omega (arith, room)) in
    let last = length-drop (a + length ys) xs in
    omega (arith, room, whole, rest, first, last)

module _ (pool : ℕ) (writes : List FrameWrite) (tables : List TableFrame) (kept : Memory) (before : FramePool)
    (place offset : ℕ) (bytes : List ℕ)
    (shown : FramesShown pool writes tables kept before) (within : place < pool) (room : offset + length bytes ≤ 4096)
    (named : 0 < reached kept place)
  where
    written_here : bytes_of (written before place offset bytes) place
        ≡ splice (bytes_of before place) offset (offset + length bytes) bytes
    written_here = get_or-set_same before.bytes place (splice (bytes_of before place) offset (offset + length bytes)
        bytes) [] (let same = shown.count in omega (arith, within, same))

    written_elsewhere : (f : ℕ) → f ≢ place → bytes_of (written before place offset bytes) f ≡ bytes_of before f
    written_elsewhere f differ = get_or-set_other before.bytes place f
        (splice (bytes_of before place) offset (offset + length bytes) bytes) [] differ

    fits : offset + length bytes ≤ length (bytes_of before place)
    fits = let full = shown.full place within named in omega (arith, room, full)

    pub written_shown : FramesShown pool (record { frame = place; offset = offset; bytes = bytes } ∷ writes) tables kept
        (written before place offset bytes)
    written_shown = record {
      size = shown.size;
      count = length-set before.bytes place (splice (bytes_of before place) offset (offset + length bytes) bytes)
          ∙ shown.count;
      full = λ f below reached. at_full f below reached (cases_eq f place);
      holds = shown.holds;
      once = shown.once;
      written = λ f o below few reached. at_byte f o below few reached (cases_eq f place);
    }
      where
        at_full : (f : ℕ) → f < pool → 0 < reached kept f → (f ≡ place) ⊎ (f ≢ place)
            → length (bytes_of (written before place offset bytes) f) ≡ 4096
        at_full f below reached (inl same) =
            ap (λ (n : ℕ). length (bytes_of (written before place offset bytes) n)) same
            ∙ ap (λ (l : List ℕ). length l) written_here
            ∙ length-spliced (bytes_of before place) bytes offset fits
            ∙ shown.full place within named
        at_full f below reached (inr differ) =
            ap (λ (l : List ℕ). length l) (written_elsewhere f differ) ∙ shown.full f below reached

        at_byte : (f o : ℕ) → f < pool → o < 4096 → 0 < reached kept f → (f ≡ place) ⊎ (f ≢ place)
            → slice_index (bytes_of (written before place offset bytes) f) o
            ≡ byte_at (record { frame = place; offset = offset; bytes = bytes } ∷ writes) f o
        at_byte f o below few reached (inl same) =
            let itself : eqb place f ≡ true = ap (λ (n : ℕ). eqb place n) same ∙ eqb_same place in
            ap (λ (n : ℕ). slice_index (bytes_of (written before place offset bytes) n) o) same
            ∙ ap (λ (l : List ℕ). slice_index l o) written_here
            ∙ spliced_byte (bytes_of before place) bytes offset o fits
            ∙ ap (λ (n : ℕ). if leb offset o && ltb o (offset + length bytes)
            then slice_index bytes (o - offset) else n)
            (ap (λ (n : ℕ). slice_index (bytes_of before n) o) (sym same) ∙ shown.written f o below few reached)
            ∙ ap (λ (b : Bool). if b && leb offset o && ltb o (offset + length bytes) then slice_index bytes
            (o - offset) else byte_at writes f o) (sym itself)
        at_byte f o below few reached (inr differ) =
            let not_it : eqb place f ≡ false = unlike f differ in
            ap (λ (l : List ℕ). slice_index l o) (written_elsewhere f differ)
            ∙ shown.written f o below few reached
            ∙ ap (λ (b : Bool). if b && leb offset o && ltb o (offset + length bytes) then slice_index bytes
            (o - offset) else byte_at writes f o) (sym not_it)
          where
            unlike : (f : ℕ) → f ≢ place → eqb place f ≡ false
            unlike f differ = grind (arith, nat_tests)

-- ---- bytes are read

-- a list by its indices
by_index : (value : ℕ → ℕ) (xs : List ℕ) (a n : ℕ) → length xs ≡ n
    → ((k : ℕ) → k < n → slice_index xs k ≡ value (a + k)) → xs ≡ map value (range_with_len a n)
by_index value [] a zero long each = refl
by_index value [] a (suc n) long each = absurd (omega (arith, long))
by_index value (x ∷ xs) a zero long each = absurd (omega (arith, long))
by_index value (x ∷ xs) a (suc n) long each =
    let first : x ≡ value a = each 0 (omega arith) ∙ ap value (omega arith) in
    let rest = by_index value xs (a + 1) n (omega (arith, long))
    (λ k below. each (suc k) (omega (arith, below)) ∙ ap value (omega arith)) in
    ap (λ (y : ℕ). y ∷ xs) first ∙ ap (λ (l : List ℕ). value a ∷ l) rest

pub read_shown : (pool : ℕ) (writes : List FrameWrite) (tables : List TableFrame) (kept : Memory) (frames : FramePool)
    (f offset count : ℕ)
    → FramesShown pool writes tables kept frames → f < pool → offset + count ≤ 4096 → 0 < reached kept f
    → bytes_at frames f offset count ≡ frame.bytes_at writes f offset count
read_shown pool writes tables kept frames f offset count shown within room named =
    by_index (byte_at writes f) (bytes_at frames f offset count) offset count long each
  where
    all : List ℕ
    all = bytes_of frames f

    enough : count ≤ length (drop offset (bytes_of frames f))
    enough =
        let full = shown.full f within named in
        let rest = length-drop offset (bytes_of frames f) in
        omega (arith, room, full, rest)

    few : offset + count - offset ≡ count
    few = omega arith

    part : bytes_at frames f offset count ≡ take count (drop offset (bytes_of frames f))
    part = ap (λ (n : ℕ). take n (drop offset (bytes_of frames f))) few

    long : length (bytes_at frames f offset count) ≡ count
    long = ap (λ (l : List ℕ). length l) part ∙ length-take-le count (drop offset (bytes_of frames f)) enough

    each : (k : ℕ) → k < count → slice_index (bytes_at frames f offset count) k ≡ byte_at writes f (offset + k)
    each k below =
        ap (λ (l : List ℕ). slice_index l k) part
        ∙ get_or-take count (drop offset (bytes_of frames f)) k 0 below
        ∙ get_or-drop offset (bytes_of frames f) k 0
        ∙ shown.written f (offset + k) within (omega (arith, below, room)) named

-- ---- free frames

-- rows by their indices: how many pass a test, and which is the first
counted : (p q : ℕ → Bool) (holds : List ℕ) (a : ℕ) → ((k : ℕ) → k < length holds → p (a + k) ≡ q (slice_index holds k))
    → count_by p (range_with_len a (length holds)) ≡ count_by q holds
counted p q [] a each = refl
counted p q (h ∷ holds) a each =
    let first : p a ≡ q h = ap p (omega arith) ∙ each 0 (omega arith) in
    let rest = counted p q holds (a + 1) (λ k below. ap p (omega arith) ∙ each (suc k) (omega (arith, below))) in
    count-cons p a (range_with_len (a + 1) (length holds)) ∙ rw (first, rest) (sym (count-cons q h holds))

found : (p q : ℕ → Bool) (holds : List ℕ) (a : ℕ) → ((k : ℕ) → k < length holds → p (a + k) ≡ q (slice_index holds k))
    → find p (range_with_len a (length holds)) ≡ cond (ltb (position_or_len q holds) (length holds))
    (Some (a + position_or_len q holds)) None
found p q [] a each = refl
found p q (h ∷ holds) a each =
    let first : p a ≡ q h = ap p (omega arith) ∙ each 0 (omega arith) in
    by_test (q h) refl first (found p q holds (a + 1) (λ k below. ap p (omega arith)
    ∙ each (suc k) (omega (arith, below))))
  where
    by_test : (b : Bool) → q h ≡ b → p a ≡ q h → find p (range_with_len (a + 1) (length holds))
        ≡ cond (ltb (position_or_len q holds) (length holds)) (Some (a + 1 + position_or_len q holds)) None
        → find p (a ∷ range_with_len (a + 1) (length holds))
        ≡ cond (ltb (position_or_len q (h ∷ holds)) (suc (length holds)))
        (Some (a + position_or_len q (h ∷ holds))) None
    by_test true is first rest =
        let here : p a ≡ true = first ∙ is in
        let some : ltb 0 (suc (length holds)) ≡ true = search (arith, nat_tests) in
        rw (here, is, some) (ap (λ (n : ℕ). Some n) (omega arith))
    by_test false is first rest =
        let here : p a ≡ false = first ∙ is in
        let further : ltb (1 + position_or_len q holds) (suc (length holds))
        ≡ ltb (position_or_len q holds) (length holds) = grind (arith, nat_tests) in
        let place : a + (1 + position_or_len q holds) ≡ a + 1 + position_or_len q holds = omega arith in
        rw (here, is, further, place) rest

module _ (pool : ℕ) (writes : List FrameWrite) (tables : List TableFrame) (user_pages : List UserPage)
    (objects : List Object) (areas : List Area) (memory_objects : List MemoryObject) (pins : List Pin)
    (access_pins : List AccessPin) (kept : Memory) (frames : FramePool) (users : UsersShown user_pages kept.pages)
    (pinned : PinsShown objects areas memory_objects pins access_pins kept)
    (shown : FramesShown pool writes tables kept frames) where
  -- a frame is free just where no hold stands on it
  pub free_alike : (f : ℕ) → frame.is_free pool user_pages pins tables f ≡ is_free frames.holds f
  free_alike f =
      ap (λ (b : Bool). ltb f pool && not (b || list_any (λ (pin : Pin). eqb pin.frame.0 f) pins || is_table))
      (any_count (λ (page : UserPage). eqb page.frame.0 f) user_pages
      ∙ ap (ltb 0) (users.counts (λ (page : UserPage). eqb page.frame.0 f)))
      ∙ ap (λ (b : Bool). ltb f pool && not (ltb 0 (count_by (λ (page : UserPage). eqb page.frame.0 f)
      kept.pages) || b || is_table)) (pinned.names f)
      ∙ ap (λ (b : Bool). ltb f pool && not (ltb 0 (count_by (λ (page : UserPage). eqb page.frame.0 f)
      kept.pages) || ltb 0 (pins_on kept.objects f)
      || b)) (any_count (λ (table : TableFrame). eqb table.frame.0 f) tables)
      ∙ ap (λ (b : Bool). ltb f pool && b) (none_left (count_by (λ (page : UserPage). eqb page.frame.0 f) kept.pages)
      (pins_on kept.objects f) (tables_in tables f))
      ∙ ap (λ (n : ℕ). ltb f pool && eqb n 0) (sym (shown.holds f))
      ∙ ap (λ (n : ℕ). ltb f n && eqb (slice_index frames.holds f) 0) (sym shown.size)
    where
      is_table : Bool
      is_table = list_any (λ (table : TableFrame). eqb table.frame.0 f) tables

      none_left : (a b c : ℕ) → not (ltb 0 a || ltb 0 b || ltb 0 c) ≡ eqb (a + b + c) 0
      none_left zero zero zero = refl
      none_left zero zero (suc c) = search (arith, nat_tests)
      none_left zero (suc b) c = search (arith, nat_tests)
      none_left (suc a) b c = search (arith, nat_tests)

  unheld : (f : ℕ) → f < length frames.holds → frame.is_free pool user_pages pins tables f
      ≡ eqb (slice_index frames.holds f) 0
  unheld f within =
      let below : ltb f (length frames.holds) ≡ true = search (within, arith, nat_tests) in
      free_alike f ∙ ap (λ (b : Bool). b && eqb (slice_index frames.holds f) 0) below

  unheld_from : (k : ℕ) → k < length frames.holds → frame.is_free pool user_pages pins tables (0 + k)
      ≡ eqb (slice_index frames.holds k) 0
  unheld_from k within = ap (frame.is_free pool user_pages pins tables) (omega arith) ∙ unheld k within

  -- as many are free
  pub free_count_alike : frame.free_count pool user_pages pins tables ≡ free_count frames.holds
  free_count_alike =
      ap (λ (n : ℕ). count_by (frame.is_free pool user_pages pins tables) (range_with_len 0 n)) (sym shown.size)
      ∙ counted (frame.is_free pool user_pages pins tables) (λ count. eqb count 0) frames.holds 0 unheld_from

  -- and the least is the same
  pub least_alike : find (frame.is_free pool user_pages pins tables) (range_with_len 0 pool) ≡ least_free frames.holds
  least_alike =
      ap (λ (n : ℕ). find (frame.is_free pool user_pages pins tables) (range_with_len 0 n)) (sym shown.size)
      ∙ found (frame.is_free pool user_pages pins tables) (λ count. eqb count 0) frames.holds 0 unheld_from
      ∙ ap (λ (n : ℕ). cond (ltb (position_or_len (λ count. eqb count 0) frames.holds) (length frames.holds)) (Some n)
      None) (omega arith)
