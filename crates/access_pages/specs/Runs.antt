-- The pages that areas have in a span, as runs of their memory objects' pages, and pins by accesses on them.
use Rattle.std.specs.Prelude.{ℕ, ◌≡◌, ◌<◌, ◌≤◌, ◌+◌, ◌-◌, ◌/◌, ◌^◌, Bool, true, false, ◌==◌, ◌||◌, not, max, min}
use Rattle.std.specs.Prelude.{None, is_none, List, map, filter, length}
use Rattle.std.specs.List.{count_by, list_all, list_any}
use Rattle.frame_memory.specs.Pool.{FramePool}
use Rattle.iofd_words.specs.Bounds.{Bounds}
use Rattle.iofd_words.specs.Pins.{ObjectPage}
use Rattle.iofd_words.specs.Span.{meets}
use Rattle.iofd_words.specs.declared.numbers.UserNo.{UserNo}
use Rattle.iofd_words.specs.declared.rows.Area.{Area}
use Rattle.memory_objects.specs.Invariant.{MemoryInvariant}
use Rattle.memory_objects.specs.Runs.{covers}
use Rattle.memory_objects.specs.declared.run.PageRun.{PageRun}
use Rattle.user_memory.specs.Changes.{Settles}
use Rattle.user_memory.specs.Memory.{IsBacked, Memory, access_pins, areas_over, frame_now, has_room, is_pinned}
use Rattle.user_memory.specs.Memory.{new_in_runs, pinned_frame, rows_of, run_lies, table_pins}

-- the areas that meet the span
abbrev pub meeting : Bounds → List Area → List Area
meeting span areas = filter (λ area. meets area.span span) areas

-- which of its memory object's pages the area has in the span
abbrev pub run_in : Bounds → Area → PageRun
run_in span area = record {
  number = area.memory;
  first = (max area.span.first span.first - area.span.first) / 4096;
  count =
      (min area.span.last span.last - area.span.first) / 4096 + 1
      - (max area.span.first span.first - area.span.first) / 4096;
}

abbrev pub runs_in : Bounds → List Area → List PageRun
runs_in span areas = map (run_in span) areas

-- how many of the runs have the page
abbrev pub times_in : List PageRun → ObjectPage → ℕ
times_in runs page = count_by (λ run. covers run page.memory page.index) runs

-- the rows of the memory objects of these runs are of this user
abbrev pub are_own : UserNo → List PageRun → Memory → Bool
are_own user runs m =
    list_all (λ row. not (list_any (λ run. run.number == row.number) runs) || row.user.0 == user.0) (rows_of m)

-- no other page is pinned than those that pins stand on
abbrev pub OnlyPinned : Memory → Type 0
OnlyPinned m = (page : ObjectPage) → is_pinned m page ≡ false → pinned_frame m page ≡ None

-- the pages of the runs can be pinned by one pin each: they are of one user's memory objects, there or pinned, and the
-- user may have them pinned
pub record MayPin (runs : List PageRun) (m : Memory) (holds : List ℕ) : Type 0 where
  pub user : UserNo
  pub own : are_own user runs m ≡ true
  pub lies : list_all (run_lies m) runs ≡ true
  pub present : list_any (λ page. is_none (frame_now m page)) (new_in_runs m runs) ≡ false
  pub room : has_room m user (length (new_in_runs m runs)) ≡ true
  pub few : (page : ObjectPage) → 0 < times_in runs page → access_pins m page + times_in runs page < 2 ^ 64
  pub backed : IsBacked m holds
  pub invariant : MemoryInvariant m.objects
  pub only : OnlyPinned m

-- such pins stand on them
pub record MayRelease (runs : List PageRun) (m : Memory) (holds : List ℕ) : Type 0 where
  pub lies : list_all (run_lies m) runs ≡ true
  pub pins : (page : ObjectPage) → times_in runs page ≤ access_pins m page
  pub backed : IsBacked m holds
  pub invariant : MemoryInvariant m.objects
  pub only : OnlyPinned m

-- one pin by an access more stands on each page for each of the runs that has it; nothing else has changed
pub record ArePinned (runs : List PageRun) (old new : Memory) (before after : FramePool) : Type 0 where
  pub rows : rows_of new ≡ rows_of old
  pub areas : (number : ℕ) → areas_over new number ≡ areas_over old number
  pub pins : (number : ℕ) → table_pins new number ≡ table_pins old number
  pub access : (page : ObjectPage) → access_pins new page ≡ access_pins old page + times_in runs page
  pub settles : Settles old new before after

-- one less does
pub record AreReleased (runs : List PageRun) (old new : Memory) (before after : FramePool) : Type 0 where
  pub rows : rows_of new ≡ rows_of old
  pub areas : (number : ℕ) → areas_over new number ≡ areas_over old number
  pub pins : (number : ℕ) → table_pins new number ≡ table_pins old number
  pub access : (page : ObjectPage) → access_pins new page + times_in runs page ≡ access_pins old page
  pub settles : Settles old new before after
