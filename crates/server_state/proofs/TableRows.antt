-- The rows of the table, after a page table came or went.
use Rattle.std.proofs.Common.{◌≡◌, ℕ, Bool, true, false, cond, ◌&&◌, not, eqb, Option, Some, None, List, [], ◌∷◌, map}
use Rattle.std.proofs.Common.{refl, sym, ◌∙◌, ap, arith}
use Rattle.std.specs.List.{find}
use Rattle.std.proofs.lemmas.Bool.Decides.{nat_tests}
use Rattle.iofd_words.specs.Objects.{has_ioas, is_ioas, kind_of}
use Rattle.iofd_words.specs.declared.numbers.FileNo.{FileNo}
use Rattle.iofd_words.specs.declared.numbers.ObjId.{ObjId}
use Rattle.iofd_words.specs.declared.rows.Area.{Area}
use Rattle.iofd_words.specs.declared.rows.ObjectKind.{ObjectKind}
use Rattle.iofd_words.specs.declared.rows.ObjectKind.TheVariants as kind
use Rattle.iofd_words.specs.declared.width.Width.{Width}
use Rattle.iofd_rows.proofs.Bools.{and_true}
use Rattle.iofd_rows.proofs.Found.{find-filter, none_both}
use Rattle.iofd_rows.proofs.Named.{file_is, id_is}
use Rattle.server_state.specs.Held.{areas_at, areas_in, object_of}
use Rattle.server_state.specs.declared.held.Held.{Held}
use Rattle.server_state.specs.declared.held.Held.TheVariants as held
use Rattle.server_state.proofs.Objects.{areas_at_rows, areas_of_held, has_ioas_rows, is_space, value_at}
use Rattle.object_table.specs.Table.{Row, is_at, removed}

module _ {A : Type 0} where
  no_space : (o : Option (Held A)) → is_space o ≡ false → areas_of_held o ≡ []
  no_space None none = refl
  no_space (Some (held.Ioas areas)) none = cc
  no_space (Some (held.Hwpt ioas width automatic)) none = refl
  no_space (Some (held.Device device)) none = refl
  no_space (Some (held.Access attached)) none = refl

  -- what is no address space has no areas
  pub areas_of_other : (rows : List (Row (Held A))) (file : FileNo) (id : ObjId)
      → has_ioas (map object_of rows) file id ≡ false → areas_at rows file id ≡ []
  areas_of_other rows file id none =
      areas_at_rows rows file id ∙ no_space (value_at rows file id) (sym (has_ioas_rows rows file id) ∙ none)

  -- ---- a row goes

  abbrev areas_of_row : Option (Row (Held A)) → List Area
  areas_of_row o = elim o [ Some row ↦ areas_in row.value | None ↦ [] ]

  pub none_removed : (rows : List (Row (Held A))) (file : FileNo) (id : ObjId)
      → find (is_at file id) (removed file id rows) ≡ None
  none_removed [] file id = refl
  none_removed (row ∷ rows) file id = by_test (is_at file id row) refl (none_removed rows file id)
    where
      by_test : (b : Bool) → is_at file id row ≡ b → find (is_at file id) (removed file id rows) ≡ None
          → find (is_at file id) (cond (not b) (row ∷ removed file id rows) (removed file id rows)) ≡ None
      by_test true is rest = rest
      by_test false is rest = rw is rest

  -- a page table had no areas, so all stay
  pub areas_removed : (rows : List (Row (Held A))) (file : FileNo) (id ioas : ObjId) (width : Width) (automatic : Bool)
      → kind_of (map object_of rows) file id ≡ Some (kind.Hwpt ioas width automatic) → (f : FileNo) (i : ObjId)
      → areas_at (removed file id rows) f i ≡ areas_at rows f i
  areas_removed rows file id ioas width automatic table f i = by_test (eqb f.0 file.0 && eqb i.0 id.0) refl
    where
      by_test : (b : Bool) → (eqb f.0 file.0 && eqb i.0 id.0) ≡ b
          → areas_at (removed file id rows) f i ≡ areas_at rows f i
      by_test true is =
          let parts = and_true (eqb f.0 file.0) (eqb i.0 id.0) is in
          let other : has_ioas (map object_of rows) file id ≡ false =
          ap (λ (o : Option ObjectKind). elim o [ Some k ↦ is_ioas k | None ↦ false ]) table in
          rw (file_is f file parts.0, id_is i id parts.1) (ap areas_of_row (none_removed rows file id)
          ∙ sym (areas_of_other rows file id other))
      by_test false is =
          ap areas_of_row (find-filter (is_at f i) (λ row. not (is_at file id row)) rows
          (none_both (is_at f i) (λ row. not (is_at file id row)) rows
          (λ row at. apart row.file.0 f.0 file.0 row.id.0 i.0 id.0 at is)))
        where
          apart : (r f g s i j : ℕ) → (eqb r f && eqb s i) ≡ true → (eqb f g && eqb i j) ≡ false
              → not (eqb r g && eqb s j) ≡ true
          apart r f g s i j at fails = grind (arith, nat_tests)
