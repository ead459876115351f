-- An area after an UNMAP that waits.
use Rattle.std.specs.Prelude.{ℕ, List, if◌then◌else◌}
use Rattle.iofd_words.specs.Areas.{is_touched, leaving, tried, with_phase}
use Rattle.iofd_words.specs.declared.event.UnmapRequest.{UnmapRequest}
use Rattle.iofd_words.specs.declared.numbers.FileNo.{FileNo}
use Rattle.iofd_words.specs.declared.rows.Area.{Area}

-- one that it touches is leaving, and counts this try, where so many are the most that a touched one counts
abbrev pub left_one : ℕ → List ℕ → FileNo → UnmapRequest → Area → Area
left_one most attached file request area =
    with_phase (if is_touched file request area then tried most (leaving attached area.phase) else area.phase) area
