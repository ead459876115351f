-- The tables of one level.
use Rattle.std.specs.Prelude.{ℕ}
use Rattle.iofd_words.specs.Levels.{first_address}
use Rattle.iofd_words.specs.TablePlaces.{TablePlace}

-- the level's table through which the page goes
abbrev pub place_at : ℕ → ℕ → TablePlace
place_at level page = record { level = level; first = first_address level page }
