-- The areas of a file's address spaces.
use Rattle.std.specs.Prelude.{List, [], if◌then◌else◌}
use Rattle.std.specs.List.{flat_map}
use Rattle.iofd_words.specs.Objects.{has_hwpt}
use Rattle.iofd_words.specs.declared.rows.Area.{Area}
use Rattle.iofd_words.specs.declared.rows.Object.{Object}
use Rattle.server_state.specs.Held.{areas_in}
use Rattle.server_state.specs.declared.held.Held.{Held}
use Rattle.object_table.specs.Table.{Row}

-- the areas of these objects, and those that page tables translate
abbrev pub areas_of_rows : {A : Type 0} → List (Row (Held A)) → List Area
areas_of_rows rows = flat_map (λ row. areas_in row.value) rows

abbrev pub translated_of : {A : Type 0} → List Object → List (Row (Held A)) → List Area
translated_of objects rows = flat_map (λ row. if has_hwpt objects row.file row.id then areas_in row.value else []) rows
