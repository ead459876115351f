-- For how many more areas an address space has room.
use Rattle.std.proofs.Common.{◌≡◌, ℕ, Bool, true, false, Option, Some, None, List, [], ◌∷◌, refl, ap, arith}
use Rattle.std.specs.List.{find}
use Rattle.std.specs.Option.{option_map}
use Rattle.std.proofs.lemmas.Bool.Decides.{nat_tests}
use Rattle.iofd_words.specs.declared.numbers.FileNo.{FileNo}
use Rattle.iofd_words.specs.declared.numbers.ObjId.{ObjId}
use Rattle.server_state.specs.Held.{own, room_at, room_in}
use Rattle.server_state.specs.Spaces.{IsOrderly}
use Rattle.server_state.specs.declared.held.Held.{Held}
use Rattle.server_state.proofs.AreasHeld.{own_is_first}
use Rattle.object_table.specs.Table.{Row, Table, is_at, changed_at, with_value}
use Rattle.object_table.specs.declared.kind.Kind.{Kind}

module _ {A : Type 0} where
  of_row : (o : Option (Row (Held A))) (old : Held A) → option_map (λ (row : Row (Held A)). row.value) o ≡ Some old
      → elim o as (λ _. ℕ) [ Some row ↦ room_in row.value | None ↦ 0 ] ≡ room_in old
  of_row None old found = cc
  of_row (Some row) old found = let same : row.value ≡ old = cc in ap room_in same

  -- the room of what was found
  pub room_found : (table : Table (Held A)) (file : FileNo) (kind : Kind) (ioas : ObjId) (old : Held A)
      → IsOrderly table → option_map (λ (row : Row (Held A)). row.value) (own table file kind ioas) ≡ Some old
      → room_at table.rows file ioas ≡ room_in old
  room_found table file kind ioas old orderly found =
      of_row (find (is_at file ioas) table.rows) old (own_is_first table.rows file kind ioas old orderly.ids found)

  room_here : (rows : List (Row (Held A))) (file : FileNo) (id : ObjId) (old new : Held A)
      → option_map (λ (row : Row (Held A)). row.value) (find (is_at file id) rows) ≡ Some old
      → room_at (changed_at file id (with_value new) rows) file id ≡ room_in new
  room_here [] file id old new found = cc
  room_here (row ∷ rows) file id old new found =
      by_test (is_at file id row) refl (λ later. room_here rows file id old new later)
    where
      by_test : (b : Bool) → is_at file id row ≡ b
          → (option_map (λ (r : Row (Held A)). r.value) (find (is_at file id) rows) ≡ Some old
          → room_at (changed_at file id (with_value new) rows) file id ≡ room_in new)
          → room_at (changed_at file id (with_value new) (row ∷ rows)) file id ≡ room_in new
      by_test true is later = grind (arith, nat_tests)
      by_test false is later = let rest = later (rw is at found) in grind (arith, nat_tests)

  -- and of what was put there
  pub room_written : (table : Table (Held A)) (file : FileNo) (kind : Kind) (ioas : ObjId) (old new : Held A)
      → IsOrderly table → option_map (λ (row : Row (Held A)). row.value) (own table file kind ioas) ≡ Some old
      → room_at (changed_at file ioas (with_value new) table.rows) file ioas ≡ room_in new
  room_written table file kind ioas old new orderly found =
      room_here table.rows file ioas old new (own_is_first table.rows file kind ioas old orderly.ids found)
