-- The world after a MAP: a memory object and an area more, and pins of its pages where a page table translates them.
use Rattle.std.proofs.Common.{◌≡◌, ◌<◌, ◌≤◌, ℕ, ◌+◌, ◌/◌, ◌^◌, Bool, true, false, cond, ◌&&◌, ◌||◌, not, eqb, ltb}
use Rattle.std.proofs.Common.{Option, Some, None, List, [], ◌∷◌, ◌++◌, find, refl, sym, ap, subst, ◌∙◌, arith}
use Rattle.std.specs.List.{filter_map, list_any}
use Rattle.std.proofs.lemmas.Bool.{eqb-true}
use Rattle.std.proofs.lemmas.Bool.Decides.{nat_tests}
use Rattle.iofd_rows.proofs.Bools.{and_true, clash, or_none}
use Rattle.iofd_rows.proofs.ListTests.{or_left, or_right}
use Rattle.iofd_rows.proofs.ObjectPages.{has_page, is_listed, listed_more, translated-with_area, untranslated}
use Rattle.iofd_rows.proofs.PageLists.{in_pages}
use Rattle.iofd_runs.proofs.Accessed.{none_covered}
use Rattle.iofd_runs.proofs.KeepsPins.{accesses_kept}
use Rattle.iofd_runs.proofs.MappedAt.{lies_at}
use Rattle.iofd_runs.proofs.MappedPages.{find_new}
use Rattle.iofd_runs.proofs.NotRefused.{map_passed}
use Rattle.iofd_runs.proofs.PagesToPin.{AccessedAlike, none_over}
use Rattle.iofd_steps.specs.After.{changed, map_changes, mapped_area, memory_object, settle}
use Rattle.iofd_steps.specs.Answers.{Answers}
use Rattle.iofd_words.specs.Areas.{with_area}
use Rattle.iofd_words.specs.Bounds.{Bounds}
use Rattle.iofd_refusals.specs.Checks.{map_checks, refusal}
use Rattle.iofd_words.specs.Files.{user_of}
use Rattle.iofd_words.specs.FirstTrue.{first_true}
use Rattle.iofd_words.specs.Frames.{frame_at, has_pages}
use Rattle.iofd_words.specs.Objects.{has_hwpt}
use Rattle.iofd_words.specs.Pages.{page_of}
use Rattle.iofd_words.specs.Pins.{ObjectPage, are_present, frame_now, is_accessed, is_page, is_pinned, is_translated}
use Rattle.iofd_words.specs.Pins.{pages_of, pin_now}
use Rattle.iofd_words.specs.Rights.{rights_of}
use Rattle.iofd_words.specs.Span.{span_from}
use Rattle.iofd_words.specs.View.{view}
use Rattle.iofd_words.specs.World.{World}
use Rattle.iofd_words.specs.declared.event.Event.TheVariants as event
use Rattle.iofd_words.specs.declared.event.MapRequest.{MapRequest}
use Rattle.iofd_words.specs.declared.flags.Rights.{Rights}
use Rattle.iofd_words.specs.declared.numbers.FileNo.{FileNo}
use Rattle.iofd_words.specs.declared.numbers.FrameNo.{FrameNo}
use Rattle.iofd_words.specs.declared.numbers.Iova.{Iova}
use Rattle.iofd_words.specs.declared.numbers.UserNo.{UserNo}
use Rattle.iofd_words.specs.declared.reply.Reply.TheVariants as reply
use Rattle.iofd_words.specs.declared.rows.Area.{Area}
use Rattle.iofd_words.specs.declared.rows.MemoryObject.{MemoryObject}
use Rattle.iofd_words.specs.declared.rows.Pin.{Pin}
use Rattle.journal_audit_page_tables.specs.Listed.{Listed, own_frame, pin_at}
use Rattle.journal_audit.proofs.ListedPins.{new_present, pins_alike}
use Rattle.journal_audit.proofs.SettledNew.{other_number, settle_new, with_own_pins}
use Rattle.journal_audit_world.specs.Kept.{IsKept}
use Rattle.journal_audit_world.specs.Unwritten.{unwritten}

-- ---- what the refusals and the answer say

-- some addresses from the answered one on, which end by 2^64
pub some_span : (A : Type 0) (w : World) (file : FileNo) (request : MapRequest) (iova : Iova)
    → refusal {A = A} w (event.Map file request) ≡ None
    → Answers {A = A} w (event.Map file request) (reply.Iova iova)
    → (0 < request.length) × (iova.0 + request.length ≤ 2 ^ 64)
unfolding Answers
some_span A w file request iova none answers =
    let some = (map_passed (view w) file request none).some in
    let sum = (lies_at w file request iova none answers).sum in
    (search (some, arith, nat_tests), search (sum, arith, nat_tests))

-- its pages are there
pub never_absent : (w : World) (file : FileNo) (request : MapRequest) (user : UserNo) (m : MemoryObject) (at : ℕ)
    → first_true (map_checks (view w) file request) ≡ None → user_of w.settings file ≡ Some user
    → m ≡ memory_object at user request
    → are_present (own_frame (frame_at w.user_pages) m) (cond (has_hwpt w.objects file request.ioas) (pages_of m) [])
    ≡ false → ⊥
never_absent w file request user m at none known is absent =
    by_table (has_hwpt w.objects file request.ioas) refl absent
  where
    by_table : (b : Bool) → has_hwpt w.objects file request.ioas ≡ b
        → are_present (own_frame (frame_at w.user_pages) m) (cond b (pages_of m) []) ≡ false → ⊥
    by_table false has absent = cc
    by_table true has absent = there has
        (ap (λ (o : MemoryObject). has_pages (frame_at w.user_pages) o.user (page_of o.va) o.count) (sym is)
        ∙ sym (new_present w.user_pages m) ∙ absent)
      where
        lacking : (o : Option UserNo) → o ≡ Some user
            → has_pages (frame_at w.user_pages) user (page_of request.user_va) (request.length / 4096) ≡ false
            → elim o [
              | Some u ↦ not (has_pages (frame_at w.user_pages) u (page_of request.user_va) (request.length / 4096))
              | None ↦ true
            ] ≡ true
        lacking o is fails = rw (is, fails) refl

        there : has_hwpt w.objects file request.ioas ≡ true
            → has_pages (frame_at w.user_pages) user (page_of request.user_va) (request.length / 4096) ≡ false → ⊥
        there has fails = clash _ (map_passed (view w) file request none).present
            (rw has (lacking (user_of w.settings file) known fails))

-- ---- which pages are to be pinned

module _ (A : Type 0) (at : ℕ) (w : World) (file : FileNo) (request : MapRequest) (iova : Iova) (user : UserNo)
    (known : user_of w.settings file ≡ Some user) (kept : IsKept at w)
    (none : refusal {A = A} w (event.Map file request) ≡ None)
    (answers : Answers {A = A} w (event.Map file request) (reply.Iova iova)) where
  abbrev object : MemoryObject
  object = memory_object at user request

  abbrev area : Area
  area = mapped_area at file request iova

  abbrev more : World
  more = record w { memory = w.memory ++ object ∷ []; areas = with_area area w.areas }

  -- an access pin covers the same pages
  accessed : (page : ObjectPage) → is_listed (w.memory ++ object ∷ []) page ≡ true
      → is_accessed w.objects (with_area area w.areas) w.access_pins page
      ≡ is_accessed w.objects w.areas w.access_pins page
  unfolding changed settle
  accessed = subst (λ (o : Option UserNo). AccessedAlike w (map_changes at w file request iova o)) known
      (accesses_kept {A = A} at w (event.Map file request) (reply.Iova iova) none answers kept.pins).accessed

  pinned_is : (page : ObjectPage) → is_pinned w.objects (with_area area w.areas) w.access_pins page
      ≡ (((eqb at page.memory && has_hwpt w.objects file request.ioas) || is_translated w.objects w.areas page.memory)
      || is_accessed w.objects (with_area area w.areas) w.access_pins page)
  pinned_is page = ap (λ (b : Bool). b || is_accessed w.objects (with_area area w.areas) w.access_pins page)
      (translated-with_area w.objects area w.areas page.memory)

  old : (page : ObjectPage) → is_listed w.memory page ≡ true
      → is_pinned w.objects (with_area area w.areas) w.access_pins page
      ≡ is_pinned w.objects w.areas w.access_pins page
  old page listed =
      pinned_is page
      ∙ ap (λ (b : Bool). ((b && has_hwpt w.objects file request.ioas) || is_translated w.objects w.areas page.memory)
      || is_accessed w.objects (with_area area w.areas) w.access_pins page)
      (other_number at w.memory page kept.pins.made listed)
      ∙ ap (λ (b : Bool). is_translated w.objects w.areas page.memory || b)
      (accessed page (listed_more w.memory object page ∙ or_left _ _ listed))

  own : (page : ObjectPage) → has_page page object ≡ true
      → is_pinned w.objects (with_area area w.areas) w.access_pins page ≡ has_hwpt w.objects file request.ioas
  own page has =
      let named = (and_true (eqb page.memory at) (ltb page.index (request.length / 4096)) has).0 in
      let memory_is : page.memory ≡ at = eqb-true page.memory at named in
      let over : list_any (λ (a : Area). eqb a.memory page.memory) w.areas ≡ false =
      ap (λ (n : ℕ). list_any (λ (a : Area). eqb a.memory n) w.areas) memory_is
      ∙ none_over at w.areas w.memory kept.pins.made kept.pins.sizes in
      pinned_is page
      ∙ table (eqb at page.memory) (has_hwpt w.objects file request.ioas) _ _ (flipped page.memory at named)
      (untranslated w.objects w.areas page.memory over)
      (accessed page (listed_more w.memory object page ∙ or_right _ _ has)
      ∙ none_covered w.objects w.areas w.access_pins page over)
    where
      flipped : (a b : ℕ) → eqb a b ≡ true → eqb b a ≡ true
      flipped a b is = grind (arith, nat_tests)

      table : (here has translated covered : Bool) → here ≡ true → translated ≡ false → covered ≡ false
          → (((here && has) || translated) || covered) ≡ has
      table here has translated covered a b c = rw (a, b, c) (or_none (has || false) ∙ or_none has)

  -- ---- the world after it

  map_is : changed {A = A} at w (event.Map file request) (reply.Iova iova)
      ≡ with_own_pins (has_hwpt w.objects file request.ioas) object w more
  unfolding changed
  map_is =
      ap (λ (o : Option UserNo). map_changes at w file request iova o) known
      ∙ settle_new at w more object kept.pins refl refl old (has_hwpt w.objects file request.ioas) own

  -- its pages are those of its user
  frames_are : (page : ObjectPage) → list_any (is_page page) (pages_of object) ≡ true
      → frame_now (w.memory ++ object ∷ []) w.user_pages page ≡ own_frame (frame_at w.user_pages) object page
  frames_are page within =
      let named = (and_true (eqb page.memory at) (ltb page.index (request.length / 4096))
      (sym (in_pages page at (request.length / 4096)) ∙ within)).0 in
      let memory_is : page.memory ≡ at = eqb-true page.memory at named in
      ap (λ (o : Option MemoryObject). elim o as (λ _. Option FrameNo)
      [ Some m ↦ frame_at w.user_pages m.user (page_of m.va + page.index) | None ↦ None ])
      (ap (λ (n : ℕ). find (λ (m : MemoryObject). eqb m.number n) (w.memory ++ object ∷ [])) memory_is
      ∙ find_new at w.memory object kept.pins.made (eqb_same at))
    where
      eqb_same : (n : ℕ) → eqb n n ≡ true
      eqb_same n = grind (arith, nat_tests)

  own_pins : (b : Bool) → filter_map (pin_now (w.memory ++ object ∷ []) w.user_pages) (cond b (pages_of object) [])
      ≡ filter_map (pin_at (own_frame (frame_at w.user_pages) object)) (cond b (pages_of object) [])
  own_pins false = refl
  own_pins true = pins_alike (frame_now (w.memory ++ object ∷ []) w.user_pages)
      (own_frame (frame_at w.user_pages) object) (pages_of object) frames_are

pub map_done : (A : Type 0) (at : ℕ) (v w new : World) (file : FileNo) (request : MapRequest) (iova : Iova)
    (user : UserNo) (m : MemoryObject) (span : Bounds) (rights : Rights) (found : List Pin) → v ≡ w → IsKept at w
    → refusal {A = A} w (event.Map file request) ≡ None
    → Answers {A = A} w (event.Map file request) (reply.Iova iova) → user_of w.settings file ≡ Some user
    → m ≡ memory_object at user request
    → span ≡ span_from iova.0 request.length → rights ≡ rights_of request.flags
    → Listed (own_frame (frame_at w.user_pages) m) [] found true
    (cond (has_hwpt w.objects file request.ioas) (pages_of m) [])
    → new ≡ record v { memory = new.memory; areas = new.areas; pins = new.pins }
    → new.memory ≡ v.memory ++ m ∷ []
    → new.areas ≡ with_area (record (mapped_area at file request iova) { span = span; rights = rights }) v.areas
    → new.pins ≡ v.pins ++ found
    → unwritten new ≡ unwritten (changed {A = A} at w (event.Map file request) (reply.Iova iova))
map_done A at v w new file request iova user m span rights found same kept none answers known m_is span_is rights_are
    listed new_is memory_is areas_are pins_are =
    let kept_v = subst (λ (x : World). IsKept at x) (sym same) kept in
    let none_v = subst (λ (x : World). refusal {A = A} x (event.Map file request) ≡ None) (sym same) none in
    let answers_v = subst (λ (x : World). Answers {A = A} x (event.Map file request) (reply.Iova iova)) (sym same)
    answers in
    let known_v = subst (λ (x : World). user_of x.settings file ≡ Some user) (sym same) known in
    let object = memory_object at user request in
    let listed_v = subst (λ (x : World). Listed (own_frame (frame_at x.user_pages) m) [] found true
    (cond (has_hwpt x.objects file request.ioas) (pages_of m) [])) (sym same) listed in
    let memory_now : new.memory ≡ v.memory ++ object ∷ [] =
    memory_is ∙ ap (λ (o : MemoryObject). v.memory ++ o ∷ []) m_is in
    let areas_now : new.areas ≡ with_area (mapped_area at file request iova) v.areas =
    areas_are
    ∙ ap (λ (s : Bounds). with_area (record (mapped_area at file request iova) { span = s; rights = rights }) v.areas)
    span_is
    ∙ ap (λ (r : Rights). with_area (record (mapped_area at file request iova) { rights = r }) v.areas) rights_are in
    let pins_now : new.pins ≡ v.pins ++ filter_map (pin_now (v.memory ++ object ∷ []) v.user_pages)
    (cond (has_hwpt v.objects file request.ioas) (pages_of object) []) =
    pins_are
    ∙ ap (λ (ps : List Pin). v.pins ++ ps) (listed_v.pins refl
    ∙ ap (λ (o : MemoryObject). filter_map (pin_at (own_frame (frame_at v.user_pages) o))
    (cond (has_hwpt v.objects file request.ioas) (pages_of o) [])) m_is
    ∙ sym (own_pins A at v file request iova user known_v kept_v none_v answers_v
    (has_hwpt v.objects file request.ioas))) in
    ap (λ (x : World). unwritten x) new_is
    ∙ ap (λ (ms : List MemoryObject). unwritten (record v {
      memory = ms;
      areas = new.areas;
      pins = new.pins;
    })) memory_now
    ∙ ap (λ (rs : List Area). unwritten (record v {
      memory = v.memory ++ object ∷ [];
      areas = rs;
      pins = new.pins;
    })) areas_now
    ∙ ap (λ (ps : List Pin). unwritten (record v {
      memory = v.memory ++ object ∷ [];
      areas = with_area (mapped_area at file request iova) v.areas;
      pins = ps;
    })) pins_now
    ∙ ap (λ (x : World). unwritten x) (sym (map_is A at v file request iova user known_v kept_v none_v answers_v))
    ∙ ap (λ (x : World). unwritten (changed {A = A} at x (event.Map file request) (reply.Iova iova))) same
