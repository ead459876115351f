-- The pages that a pin of a span pins are those of the runs that its areas have in the span.
use Rattle.std.proofs.Common.{◌≡◌, ℕ, ◌≤◌, Bool, true, false, cond, ◌&&◌, ◌||◌, ◌*◌, ◌/◌, ◌^◌, eqb, leb, List, []}
use Rattle.std.proofs.Common.{◌∷◌, refl, ap, sym}
use Rattle.std.proofs.Common.{◌∙◌, ◌+◌, inl, inr, is_none, length, arith}
use Rattle.std.specs.List.{filter, flat_map, list_all, list_any}
use Rattle.std.proofs.lemmas.Bool.{eqb-true}
use Rattle.std.proofs.lemmas.Bool.Decides.{nat_tests}
use Rattle.std.proofs.lemmas.List.Sums.{count_by-le-length, length-filter}
use Rattle.access_pages.specs.Runs.{meeting, run_in, runs_in}
use Rattle.access_pins.proofs.RunPages.{run_fits}
use Rattle.access_pins.proofs.Spanned.{area_pages, span_pages, spanned_once, whole_is}
use Rattle.area_map_rows.specs.Areas.{AreApartFrom, AreKept}
use Rattle.iofd_rows.proofs.Bools.{and_true, both_true}
use Rattle.iofd_rows.proofs.Each.{IsIn, in_filter, in_map, of_all, of_any, of_each}
use Rattle.iofd_rows.proofs.Found.{all_filter}
use Rattle.iofd_rows.proofs.ListTests.{all_pass, any_weaker, filter_alike_on}
use Rattle.iofd_rows.proofs.ObjectPages.{is_listed}
use Rattle.iofd_rows.proofs.PageLists.{page_itself}
use Rattle.iofd_rows.specs.Pinned.{has_object}
use Rattle.iofd_runs.proofs.Accessed.{IsOfAreas, of_areas}
use Rattle.iofd_runs.specs.Fits.{begins_at_page, is_of_pages}
use Rattle.iofd_words.specs.Accesses.{is_spanned, lacks_accessed_page, newly_accessed}
use Rattle.iofd_words.specs.Areas.{areas_of, is_of, most_areas}
use Rattle.iofd_words.specs.Bounds.{Bounds}
use Rattle.iofd_refusals.specs.Checks.{passes_limit, passes_limit_accessed}
use Rattle.iofd_words.specs.Files.{user_of}
use Rattle.iofd_words.specs.Pages.{is_whole}
use Rattle.iofd_words.specs.Pins.{ObjectPage, is_page, pages_of, unpinned_pages}
use Rattle.iofd_words.specs.Span.{is_whole_pages, meets, size_of}
use Rattle.iofd_words.specs.World.{World}
use Rattle.iofd_words.specs.declared.numbers.FileNo.{FileNo}
use Rattle.iofd_words.specs.declared.numbers.ObjId.{ObjId}
use Rattle.iofd_words.specs.declared.rows.Area.{Area}
use Rattle.iofd_words.specs.declared.rows.MemoryObject.{MemoryObject}
use Rattle.memory_objects.specs.Runs.{covers}
use Rattle.memory_objects.specs.declared.run.PageRun.{PageRun}
use Rattle.server_state.specs.Held.{areas_at}
use Rattle.server_state.specs.Seen.{seen}
use Rattle.server_state.specs.Shows.{Shows}
use Rattle.server_state.specs.Step.{IsKnown, IsTidy}
use Rattle.server_state.specs.declared.state.State.{State}
use Rattle.user_memory.specs.Memory.{Memory, frame_now, is_in_runs, new_in_runs, pinned_frame, rows_of, run_lies}

-- each area of a row has addresses
pub area_ordered : (low : ℕ) (areas : List Area) → AreApartFrom low areas → (area : Area) → IsIn areas area
    → area.span.first ≤ area.span.last
area_ordered low [] apart area among = absurd among
area_ordered low (a ∷ areas) apart area (inl same) = rw (← same) apart.1
area_ordered low (a ∷ areas) apart area (inr later) = area_ordered (a.span.last + 1) areas apart.2 area later

module _ (span : Bounds) (whole : is_whole_pages span ≡ true) (ordered : span.first ≤ span.last)
    (page : ObjectPage) where
  -- a page lies in the span, in some area, just where some area's run has it
  pub spanned_by_runs : (areas : List Area) → list_all is_of_pages areas ≡ true → list_all begins_at_page areas ≡ true
      → ((area : Area) → IsIn areas area → area.span.first ≤ area.span.last) → IsOfAreas areas page
      → is_spanned span areas page ≡ is_in_runs (runs_in span (meeting span areas)) page
  spanned_by_runs [] sizes starts order of = refl
  spanned_by_runs (a ∷ areas) sizes starts order of =
      let size = and_true (is_of_pages a) (list_all is_of_pages areas) sizes in
      let start = and_true (begins_at_page a) (list_all begins_at_page areas) starts in
      let rest = spanned_by_runs areas size.1 start.1 (λ area among. order area (inr among))
      (λ area among. of area (inr among)) in
      ap (λ (b : Bool). b || is_spanned span areas page)
      (spanned_once span whole ordered a size.0 start.0 (order a (inl refl)) page (of a (inl refl)))
      ∙ ap (λ (b : Bool). (meets a.span span && covers (run_in span a) page.memory page.index) || b) rest
      ∙ by_test (meets a.span span)
    where
      by_test : (b : Bool) → ((b && covers (run_in span a) page.memory page.index)
          || is_in_runs (runs_in span (meeting span areas)) page)
          ≡ is_in_runs (runs_in span (cond b (a ∷ meeting span areas) (meeting span areas))) page
      by_test true = refl
      by_test false = refl

-- those that aren't pinned are pages of memory objects
unpinned_listed : {X : Type 0} (now : ObjectPage → X) (q : ObjectPage → Bool) (memory : List MemoryObject)
    → list_all (is_listed memory) (filter q (flat_map pages_of memory)) ≡ true
unpinned_listed now q memory =
    of_all (is_listed memory) (filter q (flat_map pages_of memory)) (λ page among.
    of_any (is_page page) (flat_map pages_of memory) page (in_filter q (flat_map pages_of memory) page among).0
    (page_itself page))

-- what is found among the pages of several runs is so among those of the first or of the others
pub any_new : (q : ObjectPage → Bool) (m : Memory) (run : PageRun) (runs : List PageRun)
    → list_any q (new_in_runs m (run ∷ runs)) ≡ (list_any q (new_in_runs m (run ∷ []))
    || list_any q (new_in_runs m runs))
any_new q m run runs = by_pages (unpinned_pages (pinned_frame m) (rows_of m))
  where
    by_pages : (pages : List ObjectPage) → list_any q (filter (is_in_runs (run ∷ runs)) pages)
        ≡ (list_any q (filter (is_in_runs (run ∷ [])) pages) || list_any q (filter (is_in_runs runs) pages))
    by_pages [] = refl
    by_pages (page ∷ pages) =
        by_tests (covers run page.memory page.index) (is_in_runs runs page) (q page) (by_pages pages)
      where
        swapped_in : (a b c d : Bool) → a ≡ (b || c) → (d || a) ≡ (b || (d || c))
        swapped_in a b c true is = sym (or_left_true b)
          where
            or_left_true : (x : Bool) → (x || true) ≡ true
            or_left_true true = refl
            or_left_true false = refl
        swapped_in a b c false is = is

        twice : (a b c d : Bool) → a ≡ (b || c) → (d || a) ≡ ((d || b) || (d || c))
        twice a b c true is = refl
        twice a b c false is = is

        left_in : (a b c d : Bool) → a ≡ (b || c) → (d || a) ≡ ((d || b) || c)
        left_in a b c true is = refl
        left_in a b c false is = is

        by_tests : (c r t : Bool) → list_any q (filter (is_in_runs (run ∷ runs)) pages)
            ≡ (list_any q (filter (is_in_runs (run ∷ [])) pages) || list_any q (filter (is_in_runs runs) pages))
            → list_any q (cond (c || r) (page ∷ filter (is_in_runs (run ∷ runs)) pages)
            (filter (is_in_runs (run ∷ runs)) pages))
            ≡ (list_any q (cond (c || false) (page ∷ filter (is_in_runs (run ∷ [])) pages)
            (filter (is_in_runs (run ∷ [])) pages))
            || list_any q (cond r (page ∷ filter (is_in_runs runs) pages) (filter (is_in_runs runs) pages)))
        by_tests true true t rest = twice _ _ _ (q page) rest
        by_tests true false t rest = left_in _ _ _ (q page) rest
        by_tests false true t rest = swapped_in _ _ _ (q page) rest
        by_tests false false t rest = rest

-- no run has any
pub none_new : (q : ObjectPage → Bool) (m : Memory) → list_any q (new_in_runs m []) ≡ false
none_new q m = by_pages (unpinned_pages (pinned_frame m) (rows_of m))
  where
    by_pages : (pages : List ObjectPage) → list_any q (filter (is_in_runs []) pages) ≡ false
    by_pages [] = refl
    by_pages (page ∷ pages) = by_pages pages

-- one area after the other
pub next_new : (q : ObjectPage → Bool) (m : Memory) (span : Bounds) (all rest : List Area) (area : Area)
    → all ≡ area ∷ rest → (run : PageRun) → run ≡ run_in span area → (lacks : Bool)
    → lacks ≡ list_any q (new_in_runs m (run ∷ []))
    → list_any q (new_in_runs m (runs_in span all)) ≡ (lacks || list_any q (new_in_runs m (runs_in span rest)))
next_new q m span all rest area steps run same lacks is =
    ap (λ (l : List Area). list_any q (new_in_runs m (runs_in span l))) steps
    ∙ any_new q m (run_in span area) (runs_in span rest)
    ∙ ap (λ (b : Bool). b || list_any q (new_in_runs m (runs_in span rest)))
    (ap (λ (r : PageRun). list_any q (new_in_runs m (r ∷ []))) (sym same) ∙ sym is)

-- the run that an area has in the span lies in its memory object
pub run_within : (memory : List MemoryObject) (span : Bounds) (area : Area) → is_whole_pages span ≡ true
    → span.first ≤ span.last → is_of_pages area ≡ true → begins_at_page area ≡ true
    → area.span.first ≤ area.span.last → has_object memory area ≡ true → meets area.span span ≡ true
    → list_any (λ (row : MemoryObject). eqb row.number area.memory
    && leb ((run_in span area).first + (run_in span area).count) row.count) memory ≡ true
run_within memory span area whole ordered sized begins order has met =
    any_weaker (λ (m : MemoryObject). eqb m.number area.memory && eqb (m.count * 4096) (size_of area.span))
    (λ (row : MemoryObject). eqb row.number area.memory
    && leb ((run_in span area).first + (run_in span area).count) row.count) memory
    (λ m is.
    let parts = and_true (eqb m.number area.memory) (eqb (m.count * 4096) (size_of area.span)) is in
    let size = eqb-true (m.count * 4096) (size_of area.span) parts.1 in
    let pages = whole_is (size_of area.span) (and_true (is_whole (size_of area.span))
    (leb (size_of area.span) (2 ^ 48)) sized).0 in
    let fits = run_fits (area.span.first / 4096) (size_of area.span / 4096) (span.first / 4096) (size_of span / 4096)
    area.span.first area.span.last span.first span.last (area_pages area sized begins order)
    (span_pages span whole ordered) low high in
    let below : (run_in span area).first + (run_in span area).count ≤ m.count = omega (arith, fits, size, pages) in
    both_true (eqb m.number area.memory) _ parts.0 (search (below, arith, nat_tests))) has
  where
    ends : (leb area.span.first span.last ≡ true) × (leb span.first area.span.last ≡ true)
    ends = and_true (leb area.span.first span.last) (leb span.first area.span.last) met

    low : area.span.first ≤ span.last
    low = let is = ends.0 in search (is, arith, nat_tests)

    high : span.first ≤ area.span.last
    high = let is = ends.1 in search (is, arith, nat_tests)

-- the areas of an address space are of whole pages
pub whole_areas : {A : Type 0} (s : State A) → IsKnown s → (file : FileNo) (ioas : ObjId) (areas : List Area)
    → areas_at s.objects.rows file ioas ≡ areas
    → (list_all is_of_pages areas ≡ true) × (list_all begins_at_page areas ≡ true)
whole_areas s known file ioas areas there =
    (told is_of_pages known.tidy.fit.pages, told begins_at_page known.tidy.fit.starts)
  where
    told : (test : Area → Bool) → list_all test known.world.areas ≡ true → list_all test areas ≡ true
    told test all =
        ap (λ (l : List Area). list_all test l) (sym there)
        ∙ ap (λ (l : List Area). list_all test l) (sym (known.shows.objects.spaces file ioas))
        ∙ all_filter test (is_of file ioas) known.world.areas all

module _ {A : Type 0} (at : ℕ) (w : World) (s : State A) (tidy : IsTidy at w) (shows : Shows w s) (file : FileNo)
    (ioas : ObjId) (span : Bounds) (whole : is_whole_pages span ≡ true) (ordered : span.first ≤ span.last)
    (apart : AreApartFrom 0 (areas_at s.objects.rows file ioas)) where
  abbrev here : List Area
  here = areas_at s.objects.rows file ioas

  each_here : (test : Area → Bool) → list_all test w.areas ≡ true → list_all test here ≡ true
  each_here test all =
      ap (λ (l : List Area). list_all test l) (sym (shows.objects.spaces file ioas))
      ∙ all_filter test (is_of file ioas) w.areas all

  pub new_accessed : newly_accessed (seen s) file ioas span ≡ new_in_runs s.memory (runs_in span (meeting span here))
  new_accessed =
      filter_alike_on (is_listed (rows_of s.memory)) (is_spanned span here)
      (is_in_runs (runs_in span (meeting span here))) (unpinned_pages (pinned_frame s.memory) (rows_of s.memory))
      (unpinned_listed (pinned_frame s.memory) (λ page. is_none (pinned_frame s.memory page)) (rows_of s.memory))
      (λ page listed. spanned_by_runs span whole ordered page here (each_here is_of_pages tidy.fit.pages)
      (each_here begins_at_page tidy.fit.starts) (area_ordered 0 here apart)
      (of_here page (ap (λ (m : List MemoryObject). is_listed m page) shows.pins.rows ∙ listed)))
    where
      moved : (area : Area) → IsIn here area → IsIn (areas_of w.areas file ioas) area
      moved area among = rw (shows.objects.spaces file ioas) among

      of_here : (page : ObjectPage) → is_listed w.memory page ≡ true → IsOfAreas here page
      of_here page listed area among =
          of_areas w.memory w.areas page tidy.pins.numbers tidy.pins.sizes listed area
          (in_filter (is_of file ioas) w.areas area (moved area among)).0

  -- all runs lie in their memory objects
  pub runs_lie : list_all (run_lies s.memory) (runs_in span (meeting span here)) ≡ true
  runs_lie =
      of_all (run_lies s.memory) (runs_in span (meeting span here)) (λ run among.
      let (area, within, is) = in_map (run_in span) (meeting span here) run among in
      let (inside, met) = in_filter (λ (a : Area). meets a.span span) here area within in
      let sized = of_each is_of_pages here area (each_here is_of_pages tidy.fit.pages) inside in
      let begins = of_each begins_at_page here area (each_here begins_at_page tidy.fit.starts) inside in
      let has = of_each (has_object w.memory) here area (each_here (has_object w.memory) tidy.pins.sizes) inside in
      ap (run_lies s.memory) (sym is)
      ∙ ap (λ (rows : List MemoryObject). list_any (λ (row : MemoryObject). eqb row.number area.memory
      && leb ((run_in span area).first + (run_in span area).count) row.count) rows) (sym shows.pins.rows)
      ∙ run_within w.memory span area whole ordered sized begins (area_ordered 0 here apart area inside) has met)

  -- what they lack is what a pin of the span lacks
  pub lacked_accessed : lacks_accessed_page (seen s) file ioas span
      ≡ list_any (λ (page : ObjectPage). is_none (frame_now s.memory page))
      (new_in_runs s.memory (runs_in span (meeting span here)))
  lacked_accessed =
      ap (λ (pages : List ObjectPage). list_any (λ (page : ObjectPage). is_none (frame_now s.memory page)) pages)
      new_accessed

-- those that meet the span, of the areas that are kept
module _ {A : Type 0} (s : State A) (known : IsKnown s) (file : FileNo) (ioas : ObjId) (span : Bounds)
    (whole : is_whole_pages span ≡ true) (ordered : span.first ≤ span.last) (areas met : List Area)
    (there : areas_at s.objects.rows file ioas ≡ areas) (kept : AreKept areas) (is : met ≡ meeting span areas) where
  met_there : met ≡ meeting span (areas_at s.objects.rows file ioas)
  met_there = is ∙ ap (λ (l : List Area). meeting span l) (sym there)

  apart_there : AreApartFrom 0 (areas_at s.objects.rows file ioas)
  apart_there = rw there kept.apart

  pub all_meet : list_all (λ (a : Area). meets a.span span) met ≡ true
  all_meet =
      ap (λ (l : List Area). list_all (λ (a : Area). meets a.span span) l) is
      ∙ all_pass (λ (a : Area). meets a.span span) areas

  pub all_lie : list_all (run_lies s.memory) (runs_in span met) ≡ true
  all_lie =
      ap (λ (l : List Area). list_all (run_lies s.memory) (runs_in span l)) met_there
      ∙ runs_lie known.at known.world s known.tidy known.shows file ioas span whole ordered apart_there

  pub few_meet : length met ≤ most_areas
  few_meet =
      let long = ap (λ (l : List Area). length l) is in
      let count = length-filter (λ (a : Area). meets a.span span) areas in
      let most = count_by-le-length (λ (a : Area). meets a.span span) areas in
      let few = kept.few in
      omega (arith, long, count, most, few)

  -- what they lack, and how many pages they have that aren't pinned
  pub lacked_met : list_any (λ (page : ObjectPage). is_none (frame_now s.memory page))
      (new_in_runs s.memory (runs_in span met)) ≡ lacks_accessed_page (seen s) file ioas span
  lacked_met =
      ap (λ (l : List Area). list_any (λ (page : ObjectPage). is_none (frame_now s.memory page))
      (new_in_runs s.memory (runs_in span l))) met_there
      ∙ sym (lacked_accessed known.at known.world s known.tidy known.shows file ioas span whole ordered apart_there)

  pub passes_met : passes_limit (seen s) (user_of s.config file) (length (new_in_runs s.memory (runs_in span met)))
      ≡ passes_limit_accessed (seen s) file ioas span
  passes_met =
      ap (λ (l : List Area). passes_limit (seen s) (user_of s.config file)
      (length (new_in_runs s.memory (runs_in span l)))) met_there
      ∙ ap (λ (pages : List ObjectPage). passes_limit (seen s) (user_of s.config file) (length pages))
      (sym (new_accessed known.at known.world s known.tidy known.shows file ioas span whole ordered apart_there))
