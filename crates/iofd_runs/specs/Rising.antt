-- In which order the objects of a world stand: by rising file, and those of one file by rising id.
use Rattle.std.specs.Prelude.{Bool, true, ◌&&◌, List, [], ◌∷◌}
use Rattle.std.specs.List.{list_all}
use Rattle.iofd_words.specs.Objects.{comes_before}
use Rattle.iofd_words.specs.declared.rows.Object.{Object}

-- each object comes before all that follow: its file is lower than theirs, or the same with a lower id
abbrev pub objects_rise : List Object → Bool
objects_rise [] = true
objects_rise (object ∷ objects) = list_all (comes_before object) objects && objects_rise objects
