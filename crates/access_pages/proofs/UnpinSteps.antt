-- Pins by accesses are taken off one run after another.
use Rattle.std.proofs.Common.{◌≡◌, ℕ, ◌+◌, ◌≤◌, Bool, true, cond, ◌&&◌, List, [], ◌∷◌, ◌++◌, eqb, leb}
use Rattle.std.proofs.Common.{refl, ap, sym, ◌∙◌, arith}
use Rattle.std.specs.List.{list_all, list_any}
use Rattle.std.proofs.lemmas.List.Sums.{sum_by_push}
use Rattle.frame_memory.specs.Pool.{FramePool}
use Rattle.iofd_rows.proofs.Bools.{and_true}
use Rattle.iofd_words.specs.Bounds.{Bounds}
use Rattle.iofd_words.specs.Pins.{ObjectPage}
use Rattle.iofd_words.specs.Span.{meets}
use Rattle.iofd_words.specs.declared.rows.Area.{Area}
use Rattle.iofd_words.specs.declared.rows.MemoryObject.{MemoryObject}
use Rattle.memory_objects.specs.Runs.{covers}
use Rattle.memory_objects.specs.declared.run.PageRun.{PageRun}
use Rattle.user_memory.specs.Changes.{HasRunReleased, Settles}
use Rattle.user_memory.specs.Memory.{Memory, access_pins, rows_of, run_lies}
use Rattle.user_memory_rows.proofs.CountBy.{count-cons}
use Rattle.user_memory_rows.proofs.Released.{only_after, settles_none}
use Rattle.access_pages.proofs.Through.{settles_through, still_pinned}
use Rattle.access_pages.specs.Runs.{AreReleased, MayRelease, run_in, runs_in, times_in}

-- ---- how many runs have a page

pub times_first : (run : PageRun) (rest : List PageRun) (page : ObjectPage)
    → times_in (run ∷ rest) page ≡ cond (covers run page.memory page.index) 1 0 + times_in rest page
times_first run rest page = count-cons (λ (r : PageRun). covers r page.memory page.index) run rest

pub times_last : (done : List PageRun) (run : PageRun) (page : ObjectPage)
    → times_in (done ++ run ∷ []) page ≡ times_in done page + cond (covers run page.memory page.index) 1 0
times_last done run page = sum_by_push (λ (r : PageRun). cond (covers r page.memory page.index) 1 0) done run

pub counts_one : (b : Bool) → b ≡ true → 1 ≤ cond b 1 0
counts_one b is = rw is (omega arith)

-- runs lie in the same objects still
pub lie_still : (runs : List PageRun) (a b : Memory) → rows_of b ≡ rows_of a → list_all (run_lies a) runs ≡ true
    → list_all (run_lies b) runs ≡ true
lie_still runs a b rows all =
    ap (λ (l : List MemoryObject). list_all (λ (run : PageRun). list_any (λ (row : MemoryObject). lies run row) l) runs)
    rows ∙ all
  where
    lies : PageRun → MemoryObject → Bool
    lies run row = eqb row.number run.number && leb (run.first + run.count) row.count

-- ---- one run

pub none_released : (m : Memory) (pool : FramePool) (runs : List PageRun) → MayRelease runs m pool.holds
    → AreReleased [] m m pool pool
none_released m pool runs may = record {
  rows = refl;
  areas = λ number. refl;
  pins = λ number. refl;
  access = λ page. omega arith;
  settles = settles_none m pool may.invariant may.only;
}

module _ (run : PageRun) (rest done : List PageRun) (first now next : Memory) (before between after : FramePool)
    (released : AreReleased done first now before between) (may : MayRelease (run ∷ rest) now between.holds)
    (less : HasRunReleased run now next) (settles : Settles now next between after) where
  pub released_further : AreReleased (done ++ run ∷ []) first next before after
  released_further = record {
    rows = less.rows ∙ released.rows;
    areas = λ number. less.areas number ∙ released.areas number;
    pins = λ number. less.pins number ∙ released.pins number;
    access = λ page.
        let all = times_last done run page in
        let one = less.access page in
        let some = released.access page in
        omega (arith, all, one, some);
    settles = settles_through first now next before between after less.rows released.settles settles
        (λ page was is. still_pinned next now page (sym less.rows)
        (let same = less.pins page.memory in omega (arith, same))
        (let one = less.access page in omega (arith, one)) is);
  }

  pub may_release_rest : MayRelease rest next after.holds
  may_release_rest = record {
    lies = lie_still rest now next less.rows (and_true (run_lies now run) (list_all (run_lies now) rest) may.lies).1;
    pins = λ page.
        let all = times_first run rest page in
        let one = less.access page in
        let most = may.pins page in
        omega (arith, all, one, most);
    backed = settles.holds.backed may.backed;
    invariant = settles.kept;
    only = only_after now next between after settles;
  }

-- what the call for one run asks
pub run_may : (run : PageRun) (rest : List PageRun) (m : Memory) (holds : List ℕ) → MayRelease (run ∷ rest) m holds
    → (run_lies m run ≡ true)
    × ((page : ObjectPage) → covers run page.memory page.index ≡ true → 1 ≤ access_pins m page)
run_may run rest m holds may = (
  (and_true (run_lies m run) (list_all (run_lies m) rest) may.lies).0,
  λ page has. one page has (times_first run rest page) (may.pins page),
)
  where
    one : (page : ObjectPage) → covers run page.memory page.index ≡ true
        → times_in (run ∷ rest) page ≡ cond (covers run page.memory page.index) 1 0 + times_in rest page
        → times_in (run ∷ rest) page ≤ access_pins m page → 1 ≤ access_pins m page
    one page has all most =
        let here = counts_one (covers run page.memory page.index) has in omega (arith, all, most, here)

-- ---- areas

-- so many of the areas have let go, and the others may
pub record Releasing (span : Bounds) (all left : List Area) (first now : Memory) (before between : FramePool) : Type 0
  where
    pub done : List Area
    pub split : done ++ left ≡ all
    pub met : list_all (λ (area : Area). meets area.span span) left ≡ true
    pub released : AreReleased (runs_in span done) first now before between
    pub may : MayRelease (runs_in span left) now between.holds

pub releasing_first : (span : Bounds) (all : List Area) (first : Memory) (before : FramePool)
    → list_all (λ (area : Area). meets area.span span) all ≡ true → MayRelease (runs_in span all) first before.holds
    → Releasing span all all first first before before
releasing_first span all first before met may = record {
  done = [];
  split = refl;
  met = met;
  released = none_released first before (runs_in span all) may;
  may = may;
}

pub runs_last : (span : Bounds) (done : List Area) (area : Area)
    → runs_in span (done ++ area ∷ []) ≡ runs_in span done ++ run_in span area ∷ []
runs_last span [] area = refl
runs_last span (a ∷ done) area = ap (λ (l : List PageRun). run_in span a ∷ l) (runs_last span done area)

pub moved_over : (done rest : List Area) (area : Area) → (done ++ area ∷ []) ++ rest ≡ done ++ area ∷ rest
moved_over [] rest area = refl
moved_over (a ∷ done) rest area = ap (λ (l : List Area). a ∷ l) (moved_over done rest area)

pub releasing_further : (span : Bounds) (all rest : List Area) (area : Area) (first now next : Memory)
    (before between after : FramePool) → Releasing span all (area ∷ rest) first now before between
    → HasRunReleased (run_in span area) now next → Settles now next between after
    → Releasing span all rest first next before after
releasing_further span all rest area first now next before between after r less settles =
    let one = released_further (run_in span area) (runs_in span rest) (runs_in span r.done) first now next before
    between after r.released r.may less settles in
    record {
      done = r.done ++ area ∷ [];
      split = moved_over r.done rest area ∙ r.split;
      met = (and_true (meets area.span span) _ r.met).1;
      released = rw (runs_last span r.done area) one;
      may = may_release_rest (run_in span area) (runs_in span rest) (runs_in span r.done) first now next before between
          after r.released r.may less settles;
    }

pub releasing_last : (span : Bounds) (all left : List Area) (first now : Memory) (before between : FramePool)
    → Releasing span all left first now before between → left ≡ []
    → AreReleased (runs_in span all) first now before between
releasing_last span all left first now before between r none =
    rw (sym (nothing_behind r.done) ∙ ap (λ (l : List Area). r.done ++ l) (sym none) ∙ r.split) at r.released
  where
    nothing_behind : (xs : List Area) → xs ++ [] ≡ xs
    nothing_behind [] = refl
    nothing_behind (x ∷ xs) = ap (λ (l : List Area). x ∷ l) (nothing_behind xs)

-- what the calls for the first of the areas that are left ask
module _ (span : Bounds) (all rest : List Area) (area : Area) (first now : Memory) (before between : FramePool)
    (r : Releasing span all (area ∷ rest) first now before between) where
  pub first_meets : meets area.span span ≡ true
  first_meets = (and_true (meets area.span span) (list_all (λ (a : Area). meets a.span span) rest) r.met).0

  pub first_lies : (run : PageRun) → run ≡ run_in span area → run_lies now run ≡ true
  first_lies run is = rw is (run_may (run_in span area) (runs_in span rest) now between.holds r.may).0

  pub first_pins : (run : PageRun) → run ≡ run_in span area → (page : ObjectPage)
      → covers run page.memory page.index ≡ true → 1 ≤ access_pins now page
  first_pins run is page has =
      (run_may (run_in span area) (runs_in span rest) now between.holds r.may).1 page (rw is at has)
