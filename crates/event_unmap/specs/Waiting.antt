-- Areas that an UNMAP names and that wait for devices: they are leaving, and have seen one try more.
use Rattle.std.specs.Prelude.{ℕ, List, if◌then◌else◌}
use Rattle.iofd_words.specs.Areas.{leaving, tried}
use Rattle.iofd_words.specs.Bounds.{Bounds}
use Rattle.iofd_words.specs.Span.{lies_in}
use Rattle.iofd_words.specs.declared.rows.Area.{Area}

-- the area after it, if it lies in the span, where so many tries are the most of those that do
abbrev pub waiting : Bounds → ℕ → List ℕ → Area → Area
waiting span most owed area =
    record area { phase = if lies_in area.span span then tried most (leaving owed area.phase) else area.phase }
