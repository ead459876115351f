-- Memory objects that areas are over.
use Rattle.std.specs.Prelude.{ℕ, Bool, ◌==◌, ◌&&◌, List}
use Rattle.std.specs.List.{list_any}
use Rattle.iofd_words.specs.declared.rows.Area.{Area}

-- an area that passes the test is over the memory object of this number
abbrev pub is_over : (Area → Bool) → List Area → ℕ → Bool
is_over test areas number = list_any (λ area. test area && area.memory == number) areas
