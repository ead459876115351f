-- The areas of one address space change, and so the areas of the world.
use Rattle.std.proofs.Common.{◌≡◌, Bool, true, false, eqb, Option, Some, None, List, [], refl, sym, ◌∙◌, ap}
use Rattle.std.specs.Option.{option_map}
use Rattle.iofd_rows.proofs.Bools.{and_true}
use Rattle.iofd_rows.proofs.Named.{file_is, id_is}
use Rattle.iofd_words.specs.Areas.{areas_of}
use Rattle.iofd_words.specs.World.{World}
use Rattle.iofd_words.specs.declared.numbers.FileNo.{FileNo}
use Rattle.iofd_words.specs.declared.numbers.ObjId.{ObjId}
use Rattle.iofd_words.specs.declared.rows.Area.{Area}
use Rattle.server_state.proofs.AreasHeld.{areas_absent, areas_found}
use Rattle.server_state.specs.Held.{areas_at, areas_in, own}
use Rattle.server_state.specs.Mapping.{own_areas}
use Rattle.server_state.specs.Shows.{Shows}
use Rattle.server_state.specs.Spaces.{HasAreas, IsOrderly, is_space}
use Rattle.server_state.specs.declared.held.Held.{Held}
use Rattle.server_state.specs.declared.state.State.{State}
use Rattle.object_table.specs.Table.{Row, Table}
use Rattle.object_table.specs.declared.kind.Kind.TheVariants.{Ioas}

module _ {A : Type 0} where
  -- the areas of an address space are those at its id
  pub own_at : (t : Table (Held A)) (file : FileNo) (ioas : ObjId) → IsOrderly t
      → own_areas t file ioas ≡ areas_at t.rows file ioas
  own_at t file ioas is = by_row (own t file Ioas ioas) refl
    where
      by_row : (o : Option (Row (Held A))) → own t file Ioas ioas ≡ o
          → elim o as (λ _. List Area) [ Some row ↦ areas_in row.value | None ↦ [] ] ≡ areas_at t.rows file ioas
      by_row None found = sym (areas_absent t file ioas found)
      by_row (Some row) found =
          sym (areas_found t file Ioas ioas row.value is (ap (option_map (λ (r : Row (Held A)). r.value)) found))

  pub areas_become : (areas : List Area) (w : World) (s : State A) (file : FileNo) (ioas : ObjId) (after : List Area)
      (t : Table (Held A)) → Shows w s → HasAreas file ioas after s.objects t
      → areas_of areas file ioas ≡ after
      → ((f : FileNo) (i : ObjId) → is_space file ioas f i ≡ false → areas_of areas f i ≡ areas_of w.areas f i)
      → (f : FileNo) (i : ObjId) → areas_of areas f i ≡ areas_at t.rows f i
  areas_become areas w s file ioas after t shows has here others f i = by_test (is_space file ioas f i) refl
    where
      by_test : (b : Bool) → is_space file ioas f i ≡ b → areas_of areas f i ≡ areas_at t.rows f i
      by_test true is =
          let parts = and_true (eqb f.0 file.0) (eqb i.0 ioas.0) is in
          let of_file = file_is f file parts.0 in
          let of_id = id_is i ioas parts.1 in
          rw (of_file, of_id) (here ∙ sym has.here)
      by_test false is = others f i is ∙ shows.objects.spaces f i ∙ sym (has.others f i is)
