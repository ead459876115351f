-- Areas of an address space that have no address in common.
use Rattle.std.specs.Prelude.{Bool, true, ◌&&◌, not, List, [], ◌∷◌}
use Rattle.iofd_words.specs.Areas.{meets_area}
use Rattle.iofd_words.specs.declared.rows.Area.{Area}

-- no area meets a later one of its address space, live or leaving
abbrev pub are_apart : List Area → Bool
are_apart [] = true
are_apart (area ∷ areas) = not (meets_area areas area.file area.ioas area.span) && are_apart areas
