-- A page of user 1, as OnePage has it, and two areas over it that one span meets.
use Rattle.std.specs.Prelude.{ℕ, ◌≡◌, List, [], ◌∷◌, if◌then◌else◌}
use Rattle.access_pages.specs.Runs.{OnlyPinned}
use Rattle.iofd_words.specs.Bounds.{Bounds}
use Rattle.iofd_words.specs.Pins.{ObjectPage}
use Rattle.iofd_words.specs.declared.rows.Area.{Area}
use Rattle.iofd_words.specs.declared.rows.Phase.TheVariants.{Live}
use Rattle.memory_objects.specs.Invariant.{MemoryInvariant}
use Rattle.memory_objects.specs.Runs.{covers}
use Rattle.memory_objects.specs.declared.run.PageRun.{PageRun}
use Rattle.test_pool.specs.OnePage.{one_page}
use Rattle.user_memory.specs.Memory.{IsBacked, Memory, access_pins, rows_of}

-- the object's one page
abbrev pub page_run : PageRun
page_run = record { number = 0; first = 0; count = 1 }

-- an area over the object
abbrev pub area_over : Bounds → Area
area_over span = record {
  file = record { 0 = 1 };
  ioas = record { 0 = 1 };
  span = span;
  memory = 0;
  rights = record { 0 = 3 };
  phase = Live;
}

abbrev pub two_areas : List Area
two_areas = area_over (record { first = 4096; last = 8191 }) ∷ area_over (record { first = 12288; last = 16383 }) ∷ []

-- the second half of the one, the first half of the other, and what lies between
abbrev pub the_span : Bounds
the_span = record { first = 6144; last = 14335 }

-- so many pins by accesses stand on the page, and none on any other
pub record HasPins (m : Memory) (holds : List ℕ) (count : ℕ) : Type 0 where
  pub rows : rows_of m ≡ one_page ∷ []
  pub pins : (page : ObjectPage) → access_pins m page
      ≡ (if covers page_run page.memory page.index then count else 0)
  pub backed : IsBacked m holds
  pub invariant : MemoryInvariant m.objects
  pub only : OnlyPinned m
