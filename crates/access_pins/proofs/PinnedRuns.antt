-- The runs that a pin of whole pages has in its address space, by what is kept: how often they have a page, and where
-- they lie.
use Rattle.std.proofs.Common.{◌≡◌, ℕ, ◌+◌, ◌*◌, ◌/◌, ◌≤◌, true, false, ◌&&◌, eqb, leb, ltb, subst}
use Rattle.std.proofs.Common.{Some, List, [], ◌∷◌, refl, ap, sym, ◌∙◌, inl, inr, arith}
use Rattle.std.proofs.Math.Nat.{div-add-mod}
use Rattle.std.specs.List.{list_all, list_any}
use Rattle.std.proofs.lemmas.Bool.{eqb-true}
use Rattle.std.proofs.lemmas.Bool.Decides.{nat_tests}
use Rattle.access_pages.proofs.Places.{place_of}
use Rattle.access_pages.specs.Runs.{meeting, run_in, runs_in, times_in}
use Rattle.access_pins.proofs.RunPages.{run_fits}
use Rattle.access_pins.proofs.Spanned.{area_pages, span_pages, times_spanned}
use Rattle.area_map_rows.specs.Areas.{AreApart}
use Rattle.iofd_rows.proofs.Bools.{and_true, both_true, clash}
use Rattle.iofd_rows.proofs.Each.{IsIn, in_filter, in_kept, in_map, of_all, of_any, of_each}
use Rattle.iofd_rows.proofs.ListTests.{any_weaker, false_else}
use Rattle.iofd_rows.proofs.ObjectPages.{listed_is}
use Rattle.iofd_rows.specs.Pinned.{has_object}
use Rattle.iofd_runs.proofs.Accessed.{of_areas, some_in}
use Rattle.iofd_words.specs.Areas.{areas_of, is_of}
use Rattle.iofd_words.specs.Objects.{access_ioas_of}
use Rattle.iofd_words.specs.Pins.{ObjectPage}
use Rattle.iofd_words.specs.Span.{is_whole_pages, meets, size_of}
use Rattle.iofd_words.specs.World.{World}
use Rattle.iofd_words.specs.declared.numbers.ObjId.{ObjId}
use Rattle.iofd_words.specs.declared.rows.AccessPin.{AccessPin}
use Rattle.iofd_words.specs.declared.rows.Area.{Area}
use Rattle.iofd_words.specs.declared.rows.MemoryObject.{MemoryObject}
use Rattle.memory_objects.specs.Runs.{covers}
use Rattle.memory_objects.specs.declared.run.PageRun.{PageRun}
use Rattle.server_state.specs.Shows.{Shows}
use Rattle.server_state.specs.Step.{IsTidy}
use Rattle.server_state.specs.declared.state.State.{State}
use Rattle.user_memory.specs.Memory.{run_lies, rows_of}
use Rattle.user_memory_rows.proofs.CountBy.{count-cons}
use Rattle.user_memory_rows.specs.Shown.{covered_by, has_page}

module _ {A : Type 0} (at : ℕ) (w : World) (s : State A) (tidy : IsTidy at w) (shows : Shows w s) (pin : AccessPin)
    (ioas : ObjId) (attached : access_ioas_of w.objects pin.file pin.access ≡ Some ioas)
    (whole : is_whole_pages pin.span ≡ true) (ordered : pin.span.first ≤ pin.span.last)
    (apart : AreApart (areas_of w.areas pin.file ioas)) where
  abbrev pub own : List Area
  own = areas_of w.areas pin.file ioas

  abbrev pub pin_runs : List PageRun
  pin_runs = runs_in pin.span (meeting pin.span own)

  order : (area : Area) → IsIn w.areas area → is_of pin.file ioas area ≡ true → area.span.first ≤ area.span.last
  order area among of = (place_of 0 own apart area (in_kept (is_of pin.file ioas) w.areas area among of)).1

  -- a page that there is has as many of them as areas in which the pin covers it
  pub times_covered : (page : ObjectPage) → has_page w.memory page ≡ true
      → times_in pin_runs page ≡ covered_by w.objects w.areas page pin
  times_covered page there =
      times_spanned w.objects pin ioas attached whole ordered page w.areas
      (record { sizes = tidy.fit.pages; starts = tidy.fit.starts }) order
      (of_areas w.memory w.areas page tidy.pins.numbers tidy.pins.sizes (listed_is w.memory page ∙ there))

  -- each lies within the pages of a memory object
  pub runs_lie : list_all (run_lies s.memory) pin_runs ≡ true
  runs_lie = of_all (run_lies s.memory) pin_runs (λ run among.
      let (area, within, is) = in_map (run_in pin.span) (meeting pin.span own) run among in
      let (in_own, met) = in_filter (λ (a : Area). meets a.span pin.span) own area within in
      let (in_world, of) = in_filter (is_of pin.file ioas) w.areas area in_own in
      subst (λ (r : PageRun). run_lies s.memory r ≡ true) is (lies area in_world of met))
    where
      lies : (area : Area) → IsIn w.areas area → is_of pin.file ioas area ≡ true
          → meets area.span pin.span ≡ true → run_lies s.memory (run_in pin.span area) ≡ true
      lies area among of met =
          let parts = and_true (leb area.span.first pin.span.last) (leb pin.span.first area.span.last) met in
          let one : area.span.first ≤ pin.span.last = let b = parts.0 in search (b, arith, nat_tests) in
          let two : pin.span.first ≤ area.span.last = let b = parts.1 in search (b, arith, nat_tests) in
          let fits = run_fits (area.span.first / 4096) (size_of area.span / 4096) (pin.span.first / 4096)
          (size_of pin.span / 4096) area.span.first area.span.last pin.span.first pin.span.last
          (area_pages area (of_each _ w.areas area tidy.fit.pages among) (of_each _ w.areas area tidy.fit.starts among)
          (order area among of)) (span_pages pin.span whole ordered) one two in
          ap (λ (l : List MemoryObject). list_any (λ (row : MemoryObject). eqb row.number area.memory
          && leb ((run_in pin.span area).first + (run_in pin.span area).count) row.count) l) (sym shows.pins.rows)
          ∙ any_weaker (λ (m : MemoryObject). eqb m.number area.memory && eqb (m.count * 4096) (size_of area.span))
          (λ (row : MemoryObject). eqb row.number area.memory
          && leb ((run_in pin.span area).first + (run_in pin.span area).count) row.count) w.memory
          (λ m both.
          let names = and_true (eqb m.number area.memory) (eqb (m.count * 4096) (size_of area.span)) both in
          both_true _ _ names.0 (enough m.count (size_of area.span) _ names.1 fits))
          (of_each (has_object w.memory) w.areas area tidy.pins.sizes among)
        where
          enough : (count size most : ℕ) → eqb (count * 4096) size ≡ true → most ≤ size / 4096 → leb most count ≡ true
          enough count size most is below =
              let same : count * 4096 ≡ size = eqb-true (count * 4096) size is in
              let parts = div-add-mod size 4096 in
              let fits : most ≤ count = omega (arith, same, parts, below) in
              search (fits, arith, nat_tests)

  -- none has a page that no memory object has
  pub unlisted_none : (page : ObjectPage) → has_page w.memory page ≡ false → times_in pin_runs page ≡ 0
  unlisted_none page none = none_of pin_runs (λ run among. of_each (run_lies s.memory) pin_runs run runs_lie among)
    where
      none_of : (runs : List PageRun) → ((run : PageRun) → IsIn runs run → run_lies s.memory run ≡ true)
          → times_in runs page ≡ 0
      none_of [] each = refl
      none_of (run ∷ runs) each =
          let rest = none_of runs (λ r among. each r (inr among)) in
          count-cons (λ (r : PageRun). covers r page.memory page.index) run runs
          ∙ rw (false_else (covers run page.memory page.index) (λ has. never run (each run (inl refl)) has), rest) refl
        where
          joined : (a b c : ℕ) → eqb a b ≡ true → eqb b c ≡ true → eqb c a ≡ true
          joined a b c first second = grind (arith, nat_tests)

          below : (i e n : ℕ) → ltb i e ≡ true → leb e n ≡ true → ltb i n ≡ true
          below i e n first second = grind (arith, nat_tests)

          never : (run : PageRun) → run_lies s.memory run ≡ true → covers run page.memory page.index ≡ true → ⊥
          never run lies has =
              let (row, among, both) = some_in (λ (row : MemoryObject). eqb row.number run.number
              && leb (run.first + run.count) row.count) (rows_of s.memory) lies in
              let parts = and_true (eqb row.number run.number) (leb (run.first + run.count) row.count) both in
              let here = and_true (eqb run.number page.memory) _ has in
              let inside = and_true (leb run.first page.index) (ltb page.index (run.first + run.count)) here.1 in
              clash _ none (ap (λ (l : List MemoryObject). has_page l page) shows.pins.rows
              ∙ of_any (λ (row : MemoryObject). eqb page.memory row.number && ltb page.index row.count)
              (rows_of s.memory) row among
              (both_true _ _ (joined row.number run.number page.memory parts.0 here.0)
              (below page.index (run.first + run.count) row.count inside.1 parts.1)))
