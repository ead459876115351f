-- What objects that go leave of what is kept.
use Rattle.std.proofs.Common.{◌≡◌, ℕ, false, ltb, Option, Some, None, List, [], ◌∷◌, map, refl, sym, ◌∙◌, ap, arith}
use Rattle.std.proofs.lemmas.Bool.Decides.{nat_tests}
use Rattle.iofd_words.specs.Objects.{kind_of, without_object}
use Rattle.iofd_words.specs.declared.numbers.FileNo.{FileNo}
use Rattle.iofd_words.specs.declared.numbers.ObjId.{ObjId}
use Rattle.iofd_words.specs.declared.rows.ObjectKind.{ObjectKind}
use Rattle.server_state.proofs.Counted.{own_row}
use Rattle.server_state.specs.Held.{destroy_refusal, object_of, objects_in, table_kind}
use Rattle.server_state.specs.Users.{users_at}
use Rattle.server_state.specs.declared.held.Held.{Held}
use Rattle.object_table.specs.Table.{Row, Table, removed}

module _ {A : Type 0} where
  -- the users of a row that is found
  abbrev users_from : Option (Row (Held A)) → ℕ
  users_from o = elim o [ Some row ↦ row.users | None ↦ 0 ]

  -- ---- one row goes

  pub objects-removed : (rows : List (Row (Held A))) (file : FileNo) (id : ObjId)
      → map object_of (removed file id rows) ≡ without_object file id (map object_of rows)
  objects-removed [] file id = refl
  objects-removed (row ∷ rows) file id = let rest = objects-removed rows file id in grind (arith, nat_tests)

  -- an object that nobody uses may go
  pub may_go : (table : Table (Held A)) (file : FileNo) (id : ObjId) (k : ObjectKind)
      → kind_of (objects_in table) file id ≡ Some k → users_at table.rows file id ≡ 0
      → destroy_refusal table file (table_kind k) id ≡ None
  may_go table file id k is_kind none =
      let (row, found, there) = own_row table.rows file id k is_kind in
      let unused : row.users ≡ 0 = sym (ap users_from there) ∙ none in
      let idle : ltb 0 row.users ≡ false = rw unused refl in
      rw (found, idle) refl
