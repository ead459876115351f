-- The world after a COPY: an area more over the memory object of its source, and pins of those of its pages that
-- weren't pinned, where a page table translates them.
use Rattle.std.proofs.Common.{◌≡◌, ◌<◌, ◌≤◌, ℕ, ◌+◌, ◌^◌, Bool, true, false, cond, ◌&&◌, ◌||◌, not, eqb, ltb, is_none}
use Rattle.std.proofs.Common.{Option, Some, None, List, [], ◌∷◌, ◌++◌, refl, sym, ap, subst, ◌∙◌, arith}
use Rattle.std.specs.List.{filter, filter_map, flat_map, list_any}
use Rattle.std.proofs.lemmas.Bool.Decides.{nat_tests}
use Rattle.std.proofs.lemmas.List.Elements.{filter-append}
use Rattle.iofd_rows.proofs.Bools.{and_true, clash, not_false}
use Rattle.iofd_rows.proofs.Each.{of_each}
use Rattle.iofd_rows.proofs.ListTests.{filter_all, filter_nothing}
use Rattle.iofd_rows.proofs.ObjectPages.{is_listed, translated-with_area}
use Rattle.iofd_rows.proofs.PageLists.{all_pages, in_pages}
use Rattle.iofd_rows.specs.Pinned.{has_object}
use Rattle.iofd_runs.proofs.CopiedPages.{pages_copied}
use Rattle.iofd_runs.proofs.CopySource.{source_area, source_is}
use Rattle.iofd_runs.proofs.KeepsPins.{accesses_kept}
use Rattle.iofd_runs.proofs.MappedAt.{copy_lies_at}
use Rattle.iofd_runs.proofs.NotRefused.{copy_passed}
use Rattle.iofd_runs.proofs.PagesToPin.{AccessedAlike}
use Rattle.iofd_steps.specs.After.{changed, copy_changes, mapped_area, settle}
use Rattle.iofd_steps.specs.Answers.{Answers}
use Rattle.iofd_words.specs.Areas.{areas_of, with_area}
use Rattle.iofd_words.specs.Bounds.{Bounds}
use Rattle.iofd_refusals.specs.Checks.{copy_checks, refusal}
use Rattle.iofd_words.specs.Copies.{placed_as, source_in}
use Rattle.iofd_words.specs.FirstTrue.{first_true}
use Rattle.iofd_words.specs.Objects.{has_hwpt}
use Rattle.iofd_words.specs.Pins.{ObjectPage, are_present, frame_now, is_accessed, is_page, is_pinned, is_translated}
use Rattle.iofd_words.specs.Pins.{pages_of, pinned_frame, pin_now, unpinned_pages}
use Rattle.iofd_words.specs.Rights.{rights_of}
use Rattle.iofd_words.specs.Span.{span_from}
use Rattle.iofd_words.specs.View.{view}
use Rattle.iofd_words.specs.World.{World}
use Rattle.iofd_words.specs.declared.event.CopyRequest.{CopyRequest}
use Rattle.iofd_words.specs.declared.event.Event.TheVariants as event
use Rattle.iofd_words.specs.declared.flags.Rights.{Rights}
use Rattle.iofd_words.specs.declared.numbers.FileNo.{FileNo}
use Rattle.iofd_words.specs.declared.numbers.FrameNo.{FrameNo}
use Rattle.iofd_words.specs.declared.numbers.Iova.{Iova}
use Rattle.iofd_words.specs.declared.reply.Reply.TheVariants as reply
use Rattle.iofd_words.specs.declared.rows.Area.{Area}
use Rattle.iofd_words.specs.declared.rows.MemoryObject.{MemoryObject}
use Rattle.iofd_words.specs.declared.rows.Pin.{Pin}
use Rattle.journal_audit_maps.proofs.SettledMore.{settle_more, with_new_pins}
use Rattle.journal_audit_page_tables.specs.Listed.{Listed}
use Rattle.journal_audit.proofs.ListedPins.{absent_is}
use Rattle.journal_audit_world.specs.Kept.{IsKept}
use Rattle.journal_audit_world.specs.Unwritten.{unwritten}

-- ---- pages of a memory object's number

-- those of the pages that have the number, by memory objects
of_number : (number : ℕ) (memory : List MemoryObject)
    → filter (λ (page : ObjectPage). eqb number page.memory) (flat_map pages_of memory)
    ≡ flat_map pages_of (filter (λ (m : MemoryObject). eqb m.number number) memory)
of_number number [] = refl
of_number number (m ∷ memory) =
    filter-append (λ (page : ObjectPage). eqb number page.memory) (pages_of m) (flat_map pages_of memory)
    ∙ ap (λ (rest : List ObjectPage). filter (λ (page : ObjectPage). eqb number page.memory) (pages_of m) ++ rest)
    (of_number number memory)
    ∙ by_test (eqb m.number number) refl
  where
    named : (page : ObjectPage) → list_any (is_page page) (pages_of m) ≡ true → eqb page.memory m.number ≡ true
    named page within =
        (and_true (eqb page.memory m.number) (ltb page.index m.count) (sym (in_pages page m.number m.count)
        ∙ within)).0

    same_test : (n p k : ℕ) → eqb p k ≡ true → (b : Bool) → eqb k n ≡ b → eqb n p ≡ b
    same_test n p k first true is = grind (arith, nat_tests)
    same_test n p k first false is = grind (arith, nat_tests)

    by_test : (b : Bool) → eqb m.number number ≡ b
        → filter (λ (page : ObjectPage). eqb number page.memory) (pages_of m)
        ++ flat_map pages_of (filter (λ (o : MemoryObject). eqb o.number number) memory)
        ≡ flat_map pages_of (cond b (m ∷ filter (λ (o : MemoryObject). eqb o.number number) memory)
        (filter (λ (o : MemoryObject). eqb o.number number) memory))
    by_test true is = ap (λ (first : List ObjectPage). first
        ++ flat_map pages_of (filter (λ (o : MemoryObject). eqb o.number number) memory))
        (filter_all (λ (page : ObjectPage). eqb number page.memory) (pages_of m)
        (all_pages (λ (page : ObjectPage). eqb number page.memory) (pages_of m)
        (λ page within. same_test number page.memory m.number (named page within) true is)))
    by_test false is = ap (λ (first : List ObjectPage). first
        ++ flat_map pages_of (filter (λ (o : MemoryObject). eqb o.number number) memory))
        (filter_nothing (λ (page : ObjectPage). eqb number page.memory) (pages_of m)
        (all_pages (λ (page : ObjectPage). not (eqb number page.memory)) (pages_of m)
        (λ page within. not_false _ (same_test number page.memory m.number (named page within) false is))))

filters_swapped : (p q : ObjectPage → Bool) (pages : List ObjectPage)
    → filter p (filter q pages) ≡ filter q (filter p pages)
filters_swapped p q [] = refl
filters_swapped p q (page ∷ pages) = by_tests (p page) refl (q page) refl (filters_swapped p q pages)
  where
    by_tests : (a : Bool) → p page ≡ a → (b : Bool) → q page ≡ b
        → filter p (filter q pages) ≡ filter q (filter p pages)
        → filter p (cond b (page ∷ filter q pages) (filter q pages))
        ≡ filter q (cond a (page ∷ filter p pages) (filter p pages))
    by_tests true is true has rest = rw (is, has) (ap (λ (l : List ObjectPage). page ∷ l) rest)
    by_tests true is false has rest = rw has rest
    by_tests false is true has rest = rw is rest
    by_tests false is false has rest = rest

-- those of the unpinned ones that come, where an area is over the number
pages_come : (pinned : ObjectPage → Option FrameNo) (number : ℕ) (memory : List MemoryObject) (b : Bool)
    → filter (λ (page : ObjectPage). eqb number page.memory && b) (unpinned_pages pinned memory)
    ≡ cond b (unpinned_pages pinned (filter (λ (m : MemoryObject). eqb m.number number) memory)) []
pages_come pinned number memory true =
    tidy (unpinned_pages pinned memory)
    ∙ filters_swapped (λ (page : ObjectPage). eqb number page.memory) (λ page. is_none (pinned page))
    (flat_map pages_of memory)
    ∙ ap (filter (λ page. is_none (pinned page))) (of_number number memory)
  where
    same : (b : Bool) → (b && true) ≡ b
    same true = refl
    same false = refl

    tidy : (pages : List ObjectPage) → filter (λ (page : ObjectPage). eqb number page.memory && true) pages
        ≡ filter (λ (page : ObjectPage). eqb number page.memory) pages
    tidy [] = refl
    tidy (page ∷ pages) =
        ap (λ (b : Bool). cond b (page ∷ filter (λ (page : ObjectPage). eqb number page.memory && true) pages)
        (filter (λ (page : ObjectPage). eqb number page.memory && true) pages)) (same (eqb number page.memory))
        ∙ ap (λ (rest : List ObjectPage). cond (eqb number page.memory) (page ∷ rest) rest) (tidy pages)
pages_come pinned number memory false = nothing (unpinned_pages pinned memory)
  where
    never : (b : Bool) → (b && false) ≡ false
    never true = refl
    never false = refl

    nothing : (pages : List ObjectPage) → filter (λ (page : ObjectPage). eqb number page.memory && false) pages ≡ []
    nothing [] = refl
    nothing (page ∷ pages) =
        ap (λ (b : Bool). cond b (page ∷ filter (λ (page : ObjectPage). eqb number page.memory && false) pages)
        (filter (λ (page : ObjectPage). eqb number page.memory && false) pages)) (never (eqb number page.memory))
        ∙ nothing pages

-- ---- what the refusals and the answer say

pub some_span : (A : Type 0) (w : World) (file : FileNo) (request : CopyRequest) (iova : Iova)
    → refusal {A = A} w (event.Copy file request) ≡ None
    → Answers {A = A} w (event.Copy file request) (reply.Iova iova)
    → (0 < request.length) × (iova.0 + request.length ≤ 2 ^ 64)
unfolding Answers
some_span A w file request iova none answers =
    let some = (copy_passed (view w) file request none).some in
    let sum = (copy_lies_at w file request iova none answers).sum in
    (search (some, arith, nat_tests), search (sum, arith, nat_tests))

-- there is a source
pub never_sourceless : (v w : World) (file : FileNo) (request : CopyRequest) (areas : List Area) (found : Option Area)
    → v ≡ w → is_none (source_area w file request) ≡ false → areas ≡ v.areas
    → found ≡ source_in (areas_of areas file request.src_ioas) request → found ≡ None → ⊥
never_sourceless v w file request areas found same some a is missing =
    clash true (sym (ap (λ (o : Option Area). is_none o) (ap (λ (x : World). source_area x file request) (sym same)
    ∙ ap (λ (l : List Area). source_in (areas_of l file request.src_ioas) request) (sym a) ∙ sym is ∙ missing))
    ∙ some) refl

-- its memory object is there, with its size
pub source_sized : (at : ℕ) (v w : World) (file : FileNo) (request : CopyRequest) (areas : List Area)
    (source : Area) (found : Option Area) → v ≡ w → IsKept at w → areas ≡ v.areas
    → found ≡ source_in (areas_of areas file request.src_ioas) request → found ≡ Some source
    → (source_area w file request ≡ Some source) × (has_object w.memory source ≡ true)
source_sized at v w file request areas source found same kept a is there =
    let here : source_area w file request ≡ Some source =
    ap (λ (x : World). source_area x file request) (sym same)
    ∙ ap (λ (l : List Area). source_in (areas_of l file request.src_ioas) request) (sym a) ∙ sym is ∙ there in
    (here, of_each (has_object w.memory) w.areas source kept.pins.sizes (source_is w file request source here).within)

-- its pages are there
pub never_absent : (w : World) (file : FileNo) (request : CopyRequest) (source : Area)
    → first_true (copy_checks (view w) file request) ≡ None → source_area w file request ≡ Some source
    → are_present (frame_now w.memory w.user_pages) (cond (has_hwpt w.objects file request.dst_ioas)
    (unpinned_pages (pinned_frame w.pins) (filter (λ (m : MemoryObject). eqb m.number source.memory) w.memory)) [])
    ≡ false → ⊥
never_absent w file request source none found absent =
    by_table (has_hwpt w.objects file request.dst_ioas) refl absent
  where
    by_table : (b : Bool) → has_hwpt w.objects file request.dst_ioas ≡ b
        → are_present (frame_now w.memory w.user_pages) (cond b (unpinned_pages (pinned_frame w.pins)
        (filter (λ (m : MemoryObject). eqb m.number source.memory) w.memory)) []) ≡ false → ⊥
    by_table false has absent = cc
    by_table true has absent =
        clash _ (copy_passed (view w) file request none).present
        (rw has (ap (λ (l : List ObjectPage). list_any (λ page. is_none (frame_now w.memory w.user_pages page)) l)
        (pages_copied w file request source found)
        ∙ absent_is (frame_now w.memory w.user_pages) (unpinned_pages (pinned_frame w.pins)
        (filter (λ (m : MemoryObject). eqb m.number source.memory) w.memory))
        ∙ not_false _ absent))

-- ---- the world after it

module _ (A : Type 0) (at : ℕ) (w : World) (file : FileNo) (request : CopyRequest) (iova : Iova) (source : Area)
    (found : source_area w file request ≡ Some source) (kept : IsKept at w)
    (none : refusal {A = A} w (event.Copy file request) ≡ None)
    (answers : Answers {A = A} w (event.Copy file request) (reply.Iova iova)) where
  abbrev area : Area
  area = mapped_area source.memory file (placed_as request) iova

  abbrev more : World
  more = record w { areas = with_area area w.areas }

  abbrev comes : ObjectPage → Bool
  comes page = eqb source.memory page.memory && has_hwpt w.objects file request.dst_ioas

  -- an access pin covers the same pages
  accessed : (page : ObjectPage) → is_listed w.memory page ≡ true
      → is_accessed w.objects (with_area area w.areas) w.access_pins page
      ≡ is_accessed w.objects w.areas w.access_pins page
  unfolding changed settle
  accessed = subst (λ (o : Option Area). AccessedAlike w (copy_changes w file request iova o)) found
      (accesses_kept {A = A} at w (event.Copy file request) (reply.Iova iova) none answers kept.pins).accessed

  pinned_more : (page : ObjectPage) → is_listed w.memory page ≡ true
      → is_pinned w.objects (with_area area w.areas) w.access_pins page
      ≡ (is_pinned w.objects w.areas w.access_pins page || comes page)
  pinned_more page listed =
      ap (λ (b : Bool). b || is_accessed w.objects (with_area area w.areas) w.access_pins page)
      (translated-with_area w.objects area w.areas page.memory)
      ∙ ap (λ (b : Bool). (comes page || is_translated w.objects w.areas page.memory) || b) (accessed page listed)
      ∙ turned (comes page) (is_translated w.objects w.areas page.memory)
      (is_accessed w.objects w.areas w.access_pins page)
    where
      turned : (a b c : Bool) → ((a || b) || c) ≡ ((b || c) || a)
      turned true true c = refl
      turned true false true = refl
      turned true false false = refl
      turned false true c = refl
      turned false false true = refl
      turned false false false = refl

  copy_is : changed {A = A} at w (event.Copy file request) (reply.Iova iova) ≡ with_new_pins comes w more
  unfolding changed
  copy_is =
      ap (λ (o : Option Area). copy_changes w file request iova o) found
      ∙ settle_more at w more comes kept.pins refl pinned_more

  pins_are : filter_map (pin_now w.memory w.user_pages) (filter comes (unpinned_pages (pinned_frame w.pins) w.memory))
      ≡ filter_map (pin_now w.memory w.user_pages) (cond (has_hwpt w.objects file request.dst_ioas)
      (unpinned_pages (pinned_frame w.pins) (filter (λ (m : MemoryObject). eqb m.number source.memory) w.memory)) [])
  pins_are = ap (λ (l : List ObjectPage). filter_map (pin_now w.memory w.user_pages) l)
      (pages_come (pinned_frame w.pins) source.memory w.memory (has_hwpt w.objects file request.dst_ioas))

pub copy_done : (A : Type 0) (at : ℕ) (v w new : World) (file : FileNo) (request : CopyRequest) (iova : Iova)
    (source : Area) (span : Bounds) (rights : Rights) (listed : List Pin) → v ≡ w → IsKept at w
    → refusal {A = A} w (event.Copy file request) ≡ None
    → Answers {A = A} w (event.Copy file request) (reply.Iova iova) → source_area w file request ≡ Some source
    → span ≡ span_from iova.0 request.length → rights ≡ rights_of request.flags
    → Listed (frame_now w.memory w.user_pages) [] listed true (cond (has_hwpt w.objects file request.dst_ioas)
    (unpinned_pages (pinned_frame w.pins) (filter (λ (m : MemoryObject). eqb m.number source.memory) w.memory)) [])
    → new ≡ record v { areas = new.areas; pins = new.pins }
    → new.areas ≡ with_area (record (mapped_area source.memory file (placed_as request) iova) {
      span = span;
      rights = rights;
    }) v.areas
    → new.pins ≡ v.pins ++ listed
    → unwritten new ≡ unwritten (changed {A = A} at w (event.Copy file request) (reply.Iova iova))
copy_done A at v w new file request iova source span rights listed same kept none answers found span_is rights_are
    all new_is areas_are pins_listed =
    let kept_v = subst (λ (x : World). IsKept at x) (sym same) kept in
    let none_v = subst (λ (x : World). refusal {A = A} x (event.Copy file request) ≡ None) (sym same) none in
    let answers_v = subst (λ (x : World). Answers {A = A} x (event.Copy file request) (reply.Iova iova)) (sym same)
    answers in
    let found_v = subst (λ (x : World). source_area x file request ≡ Some source) (sym same) found in
    let all_v = subst (λ (x : World). Listed (frame_now x.memory x.user_pages) [] listed true
    (cond (has_hwpt x.objects file request.dst_ioas) (unpinned_pages (pinned_frame x.pins)
    (filter (λ (m : MemoryObject). eqb m.number source.memory) x.memory)) [])) (sym same) all in
    let areas_now : new.areas ≡ with_area (mapped_area source.memory file (placed_as request) iova) v.areas =
    areas_are
    ∙ ap (λ (s : Bounds). with_area (record (mapped_area source.memory file (placed_as request) iova) {
      span = s;
      rights = rights;
    }) v.areas) span_is
    ∙ ap (λ (r : Rights). with_area (record (mapped_area source.memory file (placed_as request) iova) {
      rights = r;
    }) v.areas) rights_are in
    let pins_now : new.pins ≡ v.pins ++ filter_map (pin_now v.memory v.user_pages)
    (filter (λ (page : ObjectPage). eqb source.memory page.memory && has_hwpt v.objects file request.dst_ioas)
    (unpinned_pages (pinned_frame v.pins) v.memory)) =
    pins_listed
    ∙ ap (λ (ps : List Pin). v.pins ++ ps) (all_v.pins refl
    ∙ sym (pins_are A at v file request iova source found_v kept_v none_v answers_v)) in
    ap (λ (x : World). unwritten x) new_is
    ∙ ap (λ (rs : List Area). unwritten (record v { areas = rs; pins = new.pins })) areas_now
    ∙ ap (λ (ps : List Pin). unwritten (record v {
      areas = with_area (mapped_area source.memory file (placed_as request) iova) v.areas;
      pins = ps;
    })) pins_now
    ∙ ap (λ (x : World). unwritten x) (sym (copy_is A at v file request iova source found_v kept_v none_v answers_v))
    ∙ ap (λ (x : World). unwritten (changed {A = A} at x (event.Copy file request) (reply.Iova iova))) same
