-- The memory object that a COPY maps again.
use Rattle.std.specs.Prelude.{ℕ, Option, Some, None}
use Rattle.iofd_words.specs.declared.rows.Area.{Area}

-- the number of the area's memory object
abbrev pub number_of : Option Area → Option ℕ
number_of None = None
number_of (Some area) = Some area.memory
