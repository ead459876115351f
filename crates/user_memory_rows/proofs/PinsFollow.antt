-- The pins of the world follow those that are kept.
use Rattle.std.proofs.Common.{◌≡◌, ℕ, ◌+◌, ◌≤◌, Bool, true, false, cond, ◌&&◌, ◌||◌, ◌⊎◌, inl, inr, not, eqb, ltb}
use Rattle.std.proofs.Common.{Option}
use Rattle.std.proofs.Common.{Some, None, is_some, List, [], ◌∷◌, map, refl, ap, sym, ◌∙◌, arith}
use Rattle.std.specs.Prelude.{if◌then◌else◌}
use Rattle.std.specs.List.{find, list_any}
use Rattle.std.proofs.Math.Path.{fun_ext}
use Rattle.std.proofs.lemmas.Bool.Decides.{nat_tests}
use Rattle.frame_memory.specs.Pool.{FramePool}
use Rattle.iofd_words.specs.Frames.{frame_at}
use Rattle.iofd_words.specs.Objects.{has_hwpt}
use Rattle.iofd_words.specs.Pages.{page_of}
use Rattle.iofd_words.specs.Pins.{ObjectPage, frame_now, is_accessed, is_page, is_translated, page_of_pin}
use Rattle.iofd_words.specs.Pins.{pinned_frame}
use Rattle.iofd_words.specs.Pins.{pinned_pages, settled}
use Rattle.iofd_words.specs.World.{World}
use Rattle.iofd_words.specs.declared.numbers.FrameNo.{FrameNo}
use Rattle.iofd_words.specs.declared.numbers.UserNo.{UserNo}
use Rattle.iofd_words.specs.declared.rows.Area.{Area}
use Rattle.iofd_words.specs.declared.rows.MemoryObject.{MemoryObject}
use Rattle.iofd_words.specs.declared.rows.Pin.{Pin}
use Rattle.iofd_rows.specs.Pinned.{ArePinned, differ}
use Rattle.iofd_rows.proofs.Bools.{and_true, clash, not_true}
use Rattle.iofd_rows.proofs.Each.{IsIn, in_found, of_any}
use Rattle.iofd_rows.proofs.ListTests.{alike}
use Rattle.iofd_rows.proofs.ObjectPages.{in_pinned, listed_is}
use Rattle.iofd_rows.proofs.PageLists.{page_itself, same_page}
use Rattle.iofd_rows.proofs.PinsFollow.{pin_is_of, settled_at, settled_frame}
use Rattle.memory_objects.specs.Objects.{are_rising, object_at, pins_on}
use Rattle.user_memory.proofs.Found.{has_index, pinned_has}
use Rattle.user_memory.proofs.PinsNamed.{named_counts, some_named}
use Rattle.user_memory.specs.Changes.{Settles}
use Rattle.user_memory.specs.Memory as memory
use Rattle.user_memory.specs.Memory.{Memory, access_pins, areas_over, is_pinned, rows_of, table_pins}
use Rattle.user_memory_rows.proofs.AccessCounts.{accessed_some}
use Rattle.user_memory_rows.proofs.CountBy.{any_count}
use Rattle.user_memory_rows.specs.Shown.{PinsShown, accessed, has_page, over, translated}

-- ---- which frames pins name

-- a row that names the frame
some_pin : (pins : List Pin) (frame : ℕ) → list_any (λ (pin : Pin). eqb pin.frame.0 frame) pins ≡ true
    → (pin : Pin) × IsIn pins pin × (eqb pin.frame.0 frame ≡ true)
some_pin [] frame some = cc
some_pin (p ∷ pins) frame some = by_test (eqb p.frame.0 frame) refl some (λ later. some_pin pins frame later)
  where
    by_test : (b : Bool) → eqb p.frame.0 frame ≡ b → (b || list_any (λ (pin : Pin). eqb pin.frame.0 frame) pins) ≡ true
        → (list_any (λ (pin : Pin). eqb pin.frame.0 frame) pins ≡ true → (pin : Pin) × IsIn pins pin
        × (eqb pin.frame.0 frame ≡ true)) → (pin : Pin) × IsIn (p ∷ pins) pin × (eqb pin.frame.0 frame ≡ true)
    by_test true is here later = (p, inl refl, is)
    by_test false is here later = let rest = later here in (rest.0, inr rest.1, rest.2)

-- where no page has two pins, a page's frame is that of its row
frame_of_row : (pins : List Pin) (pin : Pin) → differ (map page_of_pin pins) ≡ true → IsIn pins pin
    → pinned_frame pins (page_of_pin pin) ≡ Some pin.frame
frame_of_row [] pin once within = absurd within
frame_of_row (p ∷ pins) pin once within =
    let parts = and_true (not (list_any (is_page (page_of_pin p)) (map page_of_pin pins)))
    (differ (map page_of_pin pins)) once in
    by_row within (not_true _ parts.0) (λ later. frame_of_row pins pin parts.1 later)
  where
    among : (rows : List Pin) → IsIn rows pin → list_any (is_page (page_of_pin pin)) (map page_of_pin rows) ≡ true
    among [] within = absurd within
    among (r ∷ rows) (inl same) = let here : is_page (page_of_pin pin) (page_of_pin r) ≡ true =
        ap (λ (x : Pin). is_page (page_of_pin pin) (page_of_pin x)) same ∙ page_itself (page_of_pin pin) in rw here refl
    among (r ∷ rows) (inr later) = either (is_page (page_of_pin pin) (page_of_pin r)) (among rows later)
      where
        either : (b : Bool) → list_any (is_page (page_of_pin pin)) (map page_of_pin rows) ≡ true
            → (b || list_any (is_page (page_of_pin pin)) (map page_of_pin rows)) ≡ true
        either true rest = refl
        either false rest = rest

    at_test : (b : Bool) → is_page (page_of_pin p) (page_of_pin pin) ≡ b
        → pinned_frame (p ∷ pins) (page_of_pin pin) ≡ cond b (Some p.frame) (pinned_frame pins (page_of_pin pin))
    at_test b is =
        ap (λ (c : Bool). elim (cond c (Some p) (find (λ (x : Pin). is_page (page_of_pin x) (page_of_pin pin)) pins))
        as (λ _. Option FrameNo) [ Some x ↦ Some x.frame | None ↦ None ]) is ∙ opened b
      where
        opened : (c : Bool) → elim (cond c (Some p)
            (find (λ (x : Pin). is_page (page_of_pin x) (page_of_pin pin)) pins)) as (λ _. Option FrameNo) [
              | Some
                  x ↦ Some x.frame
              | None ↦ None
            ] ≡ cond c (Some p.frame) (pinned_frame pins (page_of_pin pin))
        opened true = refl
        opened false = refl

    by_row : (p ≡ pin) ⊎ IsIn pins pin → list_any (is_page (page_of_pin p)) (map page_of_pin pins) ≡ false
        → (IsIn pins pin → pinned_frame pins (page_of_pin pin) ≡ Some pin.frame)
        → pinned_frame (p ∷ pins) (page_of_pin pin) ≡ Some pin.frame
    by_row (inl same) none rest = at_test true (ap (λ (x : Pin). is_page (page_of_pin x) (page_of_pin pin)) same
        ∙ page_itself (page_of_pin pin)) ∙ ap (λ (x : Pin). Some x.frame) same
    by_row (inr later) none rest = by_test (is_page (page_of_pin p) (page_of_pin pin)) refl
      where
        by_test : (b : Bool) → is_page (page_of_pin p) (page_of_pin pin) ≡ b
            → pinned_frame (p ∷ pins) (page_of_pin pin) ≡ Some pin.frame
        by_test true is =
            let alike_pages = same_page (page_of_pin p) (page_of_pin pin) is in
            absurd (clash _ none (ap (λ page. list_any (is_page page) (map page_of_pin pins)) alike_pages
            ∙ among pins later))
        by_test false is = at_test false is ∙ rest later

-- ---- which pages are pinned

-- what is shown of it
pub record IsPinShown (w : World) (kept : Memory) : Type 0 where
  pub rows : w.memory ≡ rows_of kept
  pub tables : (number : ℕ) → table_pins kept number ≡ translated w.objects w.areas number
  pub access : (page : ObjectPage) → has_page w.memory page ≡ true
      → access_pins kept page ≡ accessed w.objects w.areas w.access_pins page

pub is_pin_shown : (w : World) (kept : Memory) → PinsShown w.objects w.areas w.memory w.pins w.access_pins kept
    → IsPinShown w kept
is_pin_shown w kept shown = record { rows = shown.rows; tables = shown.tables; access = shown.access }

pub pinned_is : (w : World) (kept : Memory) (page : ObjectPage) → IsPinShown w kept
    → list_any (is_page page) (pinned_pages w.objects w.areas w.memory w.access_pins) ≡ is_pinned kept page
pinned_is w kept page shown =
    in_pinned w.objects w.areas w.memory w.access_pins page
    ∙ ap (λ b. b && (is_translated w.objects w.areas page.memory || is_accessed w.objects w.areas w.access_pins page))
    (listed_is w.memory page)
    ∙ by_page (has_page w.memory page) refl
    ∙ ap (λ (l : List MemoryObject). has_page l page && (ltb 0 (table_pins kept page.memory)
    || ltb 0 (access_pins kept page))) shown.rows
  where
    by_page : (b : Bool) → has_page w.memory page ≡ b
        → (has_page w.memory page && (is_translated w.objects w.areas page.memory
        || is_accessed w.objects w.areas w.access_pins page))
        ≡ (has_page w.memory page && (ltb 0 (table_pins kept page.memory) || ltb 0 (access_pins kept page)))
    by_page true there =
        ap (λ b. has_page w.memory page && b)
        (rw (
          any_count (λ (area : Area). eqb area.memory page.memory && has_hwpt w.objects area.file area.ioas) w.areas,
          accessed_some w.objects w.areas w.access_pins page,
          shown.tables page.memory,
          shown.access page there,
        ) refl)
    by_page false none = rw none refl

-- where a pin of some kind stood, one stands when none has gone
pub still_some : (tables more access still : ℕ) → tables ≤ more → still ≡ access
    → (ltb 0 tables || ltb 0 access) ≡ true → (ltb 0 more || ltb 0 still) ≡ true
still_some tables more access still most same some = by_test (ltb 0 tables) refl some
  where
    or_true : (b c : Bool) → c ≡ true → (b || c) ≡ true
    or_true true c is = refl
    or_true false c is = is

    by_test : (t : Bool) → ltb 0 tables ≡ t → (t || ltb 0 access) ≡ true → (ltb 0 more || ltb 0 still) ≡ true
    by_test true is some = let there : ltb 0 more ≡ true = grind (arith, nat_tests) in rw there refl
    by_test false is some = or_true (ltb 0 more) (ltb 0 still) (ap (ltb 0) same ∙ some)

-- one that has a frame is a page of its object
named_has : (kept : Memory) (page : ObjectPage) (frame : FrameNo) → are_rising kept.objects ≡ true
    → (is_pinned kept page ≡ false → memory.pinned_frame kept page ≡ None) → memory.pinned_frame kept page ≡ Some frame
    → has_index (object_at kept.objects page.memory) page.index ≡ true
named_has kept page frame rising only there = by_pinned (is_pinned kept page) refl
  where
    never : Some frame ≡ None → ⊥
    never same = cc

    by_pinned : (b : Bool) → is_pinned kept page ≡ b → has_index (object_at kept.objects page.memory) page.index ≡ true
    by_pinned true is = pinned_has kept page rising is
    by_pinned false is = absurd (never (sym there ∙ only is))

-- where no page has two pins, the frames that they name are those at which pages are pinned
module _ (pins : List Pin) (kept : Memory) (once : differ (map page_of_pin pins) ≡ true)
    (rising : are_rising kept.objects ≡ true) (same : (page : ObjectPage)
    → pinned_frame pins page ≡ memory.pinned_frame kept page)
    (only : (page : ObjectPage) → is_pinned kept page ≡ false → memory.pinned_frame kept page ≡ None) where
  pub reached_alike : (frame : ℕ) → list_any (λ (pin : Pin). eqb pin.frame.0 frame) pins ≡ ltb 0
      (pins_on kept.objects frame)
  reached_alike frame = alike _ _ to from
    where
      to : list_any (λ (pin : Pin). eqb pin.frame.0 frame) pins ≡ true → ltb 0 (pins_on kept.objects frame) ≡ true
      to some =
          let (pin, within, is) = some_pin pins frame some in
          let there : memory.pinned_frame kept (page_of_pin pin) ≡ Some pin.frame =
          sym (same (page_of_pin pin)) ∙ frame_of_row pins pin once within in
          named_counts kept.objects pin.memory pin.index frame pin.frame
          (named_has kept (page_of_pin pin) pin.frame rising (only (page_of_pin pin)) there) there is

      by_found : (number index : ℕ) (found : FrameNo) → eqb found.0 frame ≡ true → (o : Option Pin)
          → find (λ (x : Pin). is_page (page_of_pin x) (record { memory = number; index = index })) pins ≡ o
          → pinned_frame pins (record { memory = number; index = index }) ≡ Some found
          → list_any (λ (pin : Pin). eqb pin.frame.0 frame) pins ≡ true
      by_found number index found names None is there = absurd (never (rw (is, pinned_frame) at there))
        where
          never : None ≡ Some found → ⊥
          never is = cc
      by_found number index found names (Some x) is there =
          let same_frame : Some x.frame ≡ Some found = rw (is, pinned_frame) at there in
          let alike_frame : x.frame ≡ found = cc in
          let named : eqb x.frame.0 frame ≡ true = ap (λ (f : FrameNo). eqb f.0 frame) alike_frame ∙ names in
          of_any (λ (pin : Pin). eqb pin.frame.0 frame) pins x
          (in_found (λ (y : Pin). is_page (page_of_pin y) (record { memory = number; index = index })) pins x is).0
          named

      from : ltb 0 (pins_on kept.objects frame) ≡ true → list_any (λ (pin : Pin). eqb pin.frame.0 frame) pins ≡ true
      from some =
          let named = some_named kept.objects frame rising some in
          by_found named.number named.index named.found named.names _ refl
          (same (record { memory = named.number; index = named.index }) ∙ named.pinned)

-- ---- they follow

-- no other page has a pin
pub only_pinned : (at : ℕ) (w : World) (kept : Memory) → ArePinned at w
    → PinsShown w.objects w.areas w.memory w.pins w.access_pins kept → (page : ObjectPage) → is_pinned kept page ≡ false
    → pinned_frame w.pins page ≡ None
only_pinned at w kept pinned shown page not_pinned = by_frame (pinned_frame w.pins page) refl
  where
    by_frame : (o : Option FrameNo) → pinned_frame w.pins page ≡ o → pinned_frame w.pins page ≡ None
    by_frame None is = is
    by_frame (Some frame) is =
        absurd (clash _ (pinned_is w kept page (is_pin_shown w kept shown) ∙ not_pinned)
        (pin_is_of w.pins (pinned_pages w.objects w.areas w.memory w.access_pins) page
        (ap (λ (o : Option FrameNo). is_some o) is) pinned.only))

pub only_kept : (at : ℕ) (w : World) (kept : Memory) → ArePinned at w
    → PinsShown w.objects w.areas w.memory w.pins w.access_pins kept
    → (page : ObjectPage) → is_pinned kept page ≡ false → memory.pinned_frame kept page ≡ None
only_kept at w kept pinned shown page not_pinned =
    sym (shown.frames page) ∙ only_pinned at w kept pinned shown page not_pinned

-- where a page is pinned, and was or wasn't before
settles_at : (was is : Bool) (old now : Option FrameNo) → (was ≡ false → old ≡ None)
    → settled_at was is old now ≡ (if is then (if was then old else now) else None)
settles_at true true None now only = refl
settles_at true true (Some frame) now only = refl
settles_at false true None now only = refl
settles_at false true (Some frame) now only = let never : Some frame ≡ None = only refl in cc
settles_at was false old now only = by_old was old
  where
    by_old : (b : Bool) (o : Option FrameNo) → settled_at b false o now ≡ None
    by_old true o = refl
    by_old false o = refl

module _ (at next : ℕ) (w new : World) (kept after : Memory) (before_pool after_pool : FramePool)
    (pinned : ArePinned at w) (pinned_next : ArePinned next new)
    (shown : PinsShown w.objects w.areas w.memory w.pins w.access_pins kept)
    (is_settled : new.pins ≡ settled (pinned_pages w.objects w.areas w.memory w.access_pins)
    (pinned_pages new.objects new.areas new.memory new.access_pins) new.memory new.user_pages w.pins)
    (pages : (user : UserNo) (page : ℕ) → frame_at new.user_pages user page ≡ frame_at after.pages user page)
    (rows : new.memory ≡ rows_of after)
    (areas : (number : ℕ) → areas_over after number ≡ over new.areas number)
    (pins : (number : ℕ) → table_pins after number ≡ translated new.objects new.areas number)
    (access : (page : ObjectPage) → has_page new.memory page ≡ true
    → access_pins after page ≡ accessed new.objects new.areas new.access_pins page)
    (settles : Settles kept after before_pool after_pool) where
  now_alike : (page : ObjectPage) → frame_now new.memory new.user_pages page ≡ memory.frame_now after page
  now_alike page =
      ap (λ (l : List MemoryObject). frame_now l new.user_pages page) rows
      ∙ ap (λ (f : UserNo → ℕ → Option FrameNo). now_by f) (fun_ext (λ user. fun_ext (λ p. pages user p)))
    where
      now_by : (UserNo → ℕ → Option FrameNo) → Option FrameNo
      now_by f = elim (find (λ m. eqb m.number page.memory) (rows_of after))
          [ Some m ↦ f m.user (page_of m.va + page.index) | None ↦ None ]

  frames_follow : (page : ObjectPage) → pinned_frame new.pins page ≡ memory.pinned_frame after page
  frames_follow page =
      ap (λ (l : List Pin). pinned_frame l page) is_settled
      ∙ settled_frame (pinned_pages w.objects w.areas w.memory w.access_pins)
      (pinned_pages new.objects new.areas new.memory new.access_pins) new.memory new.user_pages w.pins page
      ∙ rw (
        pinned_is w kept page (is_pin_shown w kept shown),
        pinned_is new after page (record { rows = rows; tables = pins; access = access }),
      ) refl
      ∙ settles_at (is_pinned kept page) (is_pinned after page) (pinned_frame w.pins page)
      (frame_now new.memory new.user_pages page) (only_pinned at w kept pinned shown page)
      ∙ rw (shown.frames page, now_alike page) refl
      ∙ sym (settles.frames page)

  pub pins_follow : PinsShown new.objects new.areas new.memory new.pins new.access_pins after
  pins_follow =
      record {
        rows = rows;
        areas = areas;
        tables = pins;
        access = access;
        frames = frames_follow;
        names = reached_alike new.pins after pinned_next.once settles.kept.rising frames_follow
            (λ page is. settles.frames page ∙ rw is refl);
        invariant = settles.kept;
      }
