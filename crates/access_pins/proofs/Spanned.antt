-- The pages that a span has in the areas of an address space, run by run, are those that a pin of the span covers
-- there.
use Rattle.std.proofs.Common.{◌≡◌, ℕ, ◌+◌, ◌-◌, ◌*◌, ◌/◌, ◌%◌, ◌^◌, ◌<◌, ◌≤◌, Bool, true, false, cond, ◌&&◌, eqb, leb}
use Rattle.std.proofs.Common.{ltb}
use Rattle.std.proofs.Common.{Option, Some, None, List, [], ◌∷◌, refl, ap, sym, ◌∙◌, inl, inr, arith}
use Rattle.std.proofs.Math.Nat.{div-add-mod, mod-lt}
use Rattle.std.specs.List.{filter, list_all}
use Rattle.std.proofs.lemmas.Bool.{eqb-true}
use Rattle.std.proofs.lemmas.Bool.Decides.{nat_tests}
use Rattle.access_pages.specs.Runs.{meeting, run_in, runs_in, times_in}
use Rattle.access_pins.proofs.RunPages.{ArePages, page_in_run}
use Rattle.iofd_rows.proofs.Bools.{and_true}
use Rattle.iofd_rows.proofs.Each.{IsIn}
use Rattle.iofd_runs.proofs.Accessed.{IsOfAreas}
use Rattle.iofd_runs.specs.Fits.{begins_at_page, is_of_pages}
use Rattle.iofd_words.specs.Areas.{areas_of, is_of}
use Rattle.iofd_words.specs.Bounds.{Bounds}
use Rattle.iofd_words.specs.Objects.{access_ioas, access_ioas_of, is_access_to, kind_of}
use Rattle.iofd_words.specs.Pages.{is_whole}
use Rattle.iofd_words.specs.Pins.{ObjectPage, covers_page, is_pin_in, span_of_page}
use Rattle.iofd_words.specs.Span.{is_whole_pages, lies_in, meets, size_of}
use Rattle.iofd_words.specs.declared.numbers.ObjId.{ObjId}
use Rattle.iofd_words.specs.declared.rows.AccessPin.{AccessPin}
use Rattle.iofd_words.specs.declared.rows.Area.{Area}
use Rattle.iofd_words.specs.declared.rows.Object.{Object}
use Rattle.iofd_words.specs.declared.rows.ObjectKind.{ObjectKind}
use Rattle.memory_objects.specs.Runs.{covers}
use Rattle.memory_objects.specs.declared.run.PageRun.{PageRun}
use Rattle.user_memory_rows.proofs.CountBy.{count-cons}
use Rattle.user_memory_rows.specs.Shown.{covered_by}

-- ---- whole pages

pub whole_is : (n : ℕ) → is_whole n ≡ true → n ≡ 4096 * (n / 4096)
whole_is n whole =
    let parts = div-add-mod n 4096 in
    let none : n % 4096 ≡ 0 = eqb-true (n % 4096) 0 whole in
    omega (arith, parts, none)

pub area_pages : (area : Area) → is_of_pages area ≡ true → begins_at_page area ≡ true
    → area.span.first ≤ area.span.last
    → ArePages (area.span.first / 4096) (size_of area.span / 4096) area.span.first area.span.last
area_pages area sized begins order =
    let first = whole_is area.span.first begins in
    let size = whole_is (size_of area.span) (and_true (is_whole (size_of area.span)) (leb (size_of area.span) (2 ^ 48))
    sized).0 in
    record { begins = first; ends = omega (arith, first, size, order); some = omega (arith, size, order) }

pub span_pages : (span : Bounds) → is_whole_pages span ≡ true → span.first ≤ span.last
    → ArePages (span.first / 4096) (size_of span / 4096) span.first span.last
span_pages span whole order =
    let ends = and_true (eqb (span.first % 4096) 0) (eqb (span.last % 4096) 4095) whole in
    let first = whole_is span.first ends.0 in
    let rest : span.last % 4096 ≡ 4095 = eqb-true (span.last % 4096) 4095 ends.1 in
    let parts = div-add-mod span.last 4096 in
    let size : size_of span ≡ 4096 * (span.last / 4096 + 1 - span.first / 4096) =
    omega (arith, first, rest, parts, order) in
    let pages : size_of span / 4096 ≡ span.last / 4096 + 1 - span.first / 4096 =
    let cut = div-add-mod (size_of span) 4096 in
    let less = mod-lt (size_of span) {m = 4096} (omega arith) in
    omega (arith, cut, less, size) in
    record {
      begins = first;
      ends = omega (arith, first, rest, parts, order, pages);
      some = omega (arith, first, rest, parts, order, pages);
    }

-- ---- one area

module _ (span : Bounds) (whole : is_whole_pages span ≡ true) (ordered : span.first ≤ span.last) (area : Area)
    (sized : is_of_pages area ≡ true) (begins : begins_at_page area ≡ true)
    (order : area.span.first ≤ area.span.last) where
  -- a page that the area has lies in the span just where the two meet and the run has it
  pub spanned_once : (page : ObjectPage)
      → (eqb area.memory page.memory ≡ true → ltb page.index (size_of area.span / 4096) ≡ true)
      → (eqb area.memory page.memory && lies_in (span_of_page area page.index) span)
      ≡ (meets area.span span && covers (run_in span area) page.memory page.index)
  spanned_once page has = by_object (eqb area.memory page.memory) refl
    where
      swap : (m c : Bool) → (m && (true && c)) ≡ (m && c)
      swap true c = refl
      swap false c = refl

      none : (m c : Bool) → false ≡ (m && (false && c))
      none true c = refl
      none false c = refl

      by_object : (b : Bool) → eqb area.memory page.memory ≡ b
          → (eqb area.memory page.memory && lies_in (span_of_page area page.index) span)
          ≡ (meets area.span span && covers (run_in span area) page.memory page.index)
      by_object true is =
          let below : page.index < size_of area.span / 4096 = let b = has is in search (b, arith, nat_tests) in
          rw is (page_in_run (area.span.first / 4096) (size_of area.span / 4096) (span.first / 4096)
          (size_of span / 4096) area.span.first area.span.last span.first span.last (area_pages area sized begins order)
          (span_pages span whole ordered) page.index below)
      by_object false is =
          rw is (none (meets area.span span) (leb (run_in span area).first page.index
          && ltb page.index ((run_in span area).first + (run_in span area).count)))

-- ---- all areas of an address space

-- the pin's access object is attached to this address space
pub pin_in : (objects : List Object) (pin : AccessPin) (ioas : ObjId)
    → access_ioas_of objects pin.file pin.access ≡ Some ioas → (area : Area)
    → is_pin_in objects pin area ≡ is_of pin.file ioas area
pin_in objects pin ioas attached area =
    ap (λ b. eqb area.file.0 pin.file.0 && b) (by_kind (kind_of objects pin.file pin.access) attached)
  where
    flipped : (a b : ℕ) → eqb a b ≡ eqb b a
    flipped a b = grind (arith, nat_tests)

    by_kind : (o : Option ObjectKind)
        → elim o as (λ _. Option ObjId) [ Some k ↦ access_ioas k | None ↦ None ] ≡ Some ioas
        → elim o as (λ _. Bool) [ Some k ↦ is_access_to area.ioas k | None ↦ false ] ≡ eqb area.ioas.0 ioas.0
    by_kind None is = cc
    by_kind (Some k) is =
        ap (λ (o : Option ObjId). elim o as (λ _. Bool) [ Some to ↦ eqb to.0 area.ioas.0 | None ↦ false ]) is
        ∙ flipped ioas.0 area.ioas.0

-- the areas are of whole pages
pub record AreWhole (areas : List Area) : Type 0 where
  pub sizes : list_all is_of_pages areas ≡ true
  pub starts : list_all begins_at_page areas ≡ true

module _ (objects : List Object) (pin : AccessPin) (ioas : ObjId)
    (attached : access_ioas_of objects pin.file pin.access ≡ Some ioas)
    (whole : is_whole_pages pin.span ≡ true) (ordered : pin.span.first ≤ pin.span.last) (page : ObjectPage) where
  -- as many of them have the page in the span as runs do
  pub times_spanned : (areas : List Area) → AreWhole areas
      → ((area : Area) → IsIn areas area → is_of pin.file ioas area ≡ true → area.span.first ≤ area.span.last)
      → IsOfAreas areas page
      → times_in (runs_in pin.span (meeting pin.span (areas_of areas pin.file ioas))) page
      ≡ covered_by objects areas page pin
  times_spanned [] are order of = refl
  times_spanned (a ∷ areas) are order of =
      let sizes = and_true (is_of_pages a) (list_all is_of_pages areas) are.sizes in
      let starts = and_true (begins_at_page a) (list_all begins_at_page areas) are.starts in
      let rest = times_spanned areas (record { sizes = sizes.1; starts = starts.1 })
      (λ area among. order area (inr among)) (λ area among. of area (inr among)) in
      by_tests (is_of pin.file ioas a) (meets a.span pin.span) (covers (run_in pin.span a) page.memory page.index)
      refl refl refl rest
      (joined (eqb a.memory page.memory) (is_pin_in objects pin a) (lies_in (span_of_page a page.index) pin.span)
      ∙ ap (λ b. b && (eqb a.memory page.memory && lies_in (span_of_page a page.index) pin.span))
      (pin_in objects pin ioas attached a)
      ∙ own (is_of pin.file ioas a) refl (λ is. spanned_once pin.span whole ordered a sizes.0 starts.0
      (order a (inl refl) is) page (of a (inl refl))))
    where
      joined : (m i l : Bool) → (m && (i && l)) ≡ (i && (m && l))
      joined true i l = refl
      joined false true l = refl
      joined false false l = refl

      own : (o : Bool) → is_of pin.file ioas a ≡ o
          → (is_of pin.file ioas a ≡ true → (eqb a.memory page.memory && lies_in (span_of_page a page.index) pin.span)
          ≡ (meets a.span pin.span && covers (run_in pin.span a) page.memory page.index))
          → (is_of pin.file ioas a && (eqb a.memory page.memory && lies_in (span_of_page a page.index) pin.span))
          ≡ (is_of pin.file ioas a && (meets a.span pin.span && covers (run_in pin.span a) page.memory page.index))
      own true is once = ap (λ b. is_of pin.file ioas a && b) (once is)
      own false is once = rw is refl

      runs : List Area → List PageRun
      runs l = runs_in pin.span l

      by_tests : (o m c : Bool) → is_of pin.file ioas a ≡ o → meets a.span pin.span ≡ m
          → covers (run_in pin.span a) page.memory page.index ≡ c
          → times_in (runs (meeting pin.span (areas_of areas pin.file ioas))) page ≡ covered_by objects areas page pin
          → (eqb a.memory page.memory && covers_page objects page.index pin a) ≡ (o && (m && c))
          → times_in (runs (filter (λ x. meets x.span pin.span) (cond o (a ∷ areas_of areas pin.file ioas)
          (areas_of areas pin.file ioas)))) page ≡ covered_by objects (a ∷ areas) page pin
      by_tests true true c is_o is_m is_c rest here =
          rw is_m (count-cons (λ (r : PageRun). covers r page.memory page.index) (run_in pin.span a)
          (runs (meeting pin.span (areas_of areas pin.file ioas)))
          ∙ rw (is_c, rest, ← here) (sym (count-cons (λ (x : Area). eqb x.memory page.memory
          && covers_page objects page.index pin x) a areas)))
      by_tests true false c is_o is_m is_c rest here =
          rw is_m (rest ∙ sym (count-cons (λ (x : Area). eqb x.memory page.memory
          && covers_page objects page.index pin x) a areas ∙ rw here (omega arith)))
      by_tests false m c is_o is_m is_c rest here =
          rest ∙ sym (count-cons (λ (x : Area). eqb x.memory page.memory
          && covers_page objects page.index pin x) a areas ∙ rw here (omega arith))
