-- The objects of the world that a table has.
use Rattle.std.proofs.Common.{◌≡◌, ℕ, Bool, true, false, cond, ◌&&◌, ◌||◌, eqb, ap, Option, Some, None, List, [], ◌∷◌}
use Rattle.std.proofs.Common.{map, find, leb, length, refl, sym, ◌∙◌, arith}
use Rattle.std.specs.List.{filter, list_any}
use Rattle.std.specs.Option.{option_map}
use Rattle.std.proofs.lemmas.Bool.Decides.{nat_tests}
use Rattle.iofd_rows.specs.Reached.{ends_in, ends_in_kind}
use Rattle.iofd_words.specs.Bounds.{Bounds}
use Rattle.iofd_words.specs.Ranges.{meets_some}
use Rattle.iofd_words.specs.Usable.{beyond_table}
use Rattle.iofd_words.specs.Objects.{is_ioas, is_object, is_hwpt_over, kind_of, has_ioas, has_hwpt}
use Rattle.iofd_words.specs.Objects.{is_full, objects_of}
use Rattle.iofd_words.specs.declared.numbers.FileNo.{FileNo}
use Rattle.iofd_words.specs.declared.numbers.ObjId.{ObjId}
use Rattle.iofd_words.specs.declared.rows.Area.{Area}
use Rattle.iofd_words.specs.declared.rows.Object.{Object}
use Rattle.iofd_words.specs.declared.rows.ObjectKind.{ObjectKind}
use Rattle.iofd_words.specs.declared.rows.ObjectKind.TheVariants as kind
use Rattle.iofd_words.specs.declared.width.Width.{Width}
use Rattle.server_state.specs.Held.{kind_in, object_of, areas_in, areas_at}
use Rattle.server_state.specs.declared.held.Held.{Held}
use Rattle.server_state.specs.declared.held.Held.TheVariants as held
use Rattle.object_table.specs.Table.{Row, is_at, is_of_file}
use Rattle.iofd_rows.proofs.Bools.{and_true}
use Rattle.iofd_rows.proofs.ListTests.{or_right}

module _ {A : Type 0} where
  -- the kind of what stands at an id
  abbrev pub kind_at : Option (Held A) → Option ObjectKind
  kind_at None = None
  kind_at (Some held) = Some (kind_in held)

  -- whether it is an address space, and its areas
  abbrev pub is_space : Option (Held A) → Bool
  is_space None = false
  is_space (Some held) = is_ioas (kind_in held)

  abbrev pub areas_of_held : Option (Held A) → List Area
  areas_of_held None = []
  areas_of_held (Some held) = areas_in held

  abbrev pub value_at : List (Row (Held A)) → FileNo → ObjId → Option (Held A)
  value_at rows file id = option_map (λ (row : Row (Held A)). row.value) (find (is_at file id) rows)

  pub kind_of_rows : (rows : List (Row (Held A))) (file : FileNo) (id : ObjId)
      → kind_of (map object_of rows) file id ≡ kind_at (value_at rows file id)
  kind_of_rows [] file id = refl
  kind_of_rows (row ∷ rows) file id = let rest = kind_of_rows rows file id in grind (arith, nat_tests)

  pub has_ioas_rows : (rows : List (Row (Held A))) (file : FileNo) (id : ObjId)
      → has_ioas (map object_of rows) file id ≡ is_space (value_at rows file id)
  has_ioas_rows [] file id = refl
  has_ioas_rows (row ∷ rows) file id = let rest = has_ioas_rows rows file id in grind (arith, nat_tests)

  pub areas_at_rows : (rows : List (Row (Held A))) (file : FileNo) (id : ObjId)
      → areas_at rows file id ≡ areas_of_held (value_at rows file id)
  areas_at_rows [] file id = refl
  areas_at_rows (row ∷ rows) file id = let rest = areas_at_rows rows file id in grind (arith, nat_tests)

  -- a search among the objects of a file is one among its rows
  pub ends_in_rows : (rows : List (Row (Held A))) (file : FileNo) (ioas : ObjId) (span : Bounds)
      → list_any (ends_in file ioas span) (map object_of rows) ≡ list_any
      (λ (row : Row (Held A)). ends_in_kind ioas span (kind_in row.value)) (filter (is_of_file file) rows)
  ends_in_rows [] file ioas span = refl
  ends_in_rows (row ∷ rows) file ioas span = by_file (eqb row.file.0 file.0) refl (ends_in_rows rows file ioas span)
    where
      by_file : (b : Bool) → eqb row.file.0 file.0 ≡ b
          → list_any (ends_in file ioas span) (map object_of rows) ≡ list_any
          (λ (row : Row (Held A)). ends_in_kind ioas span (kind_in row.value)) (filter (is_of_file file) rows)
          → (((b && is_hwpt_over ioas (kind_in row.value)) && meets_some (beyond_table (kind_in row.value)) span)
          || list_any (ends_in file ioas span) (map object_of rows))
          ≡ list_any (λ (row : Row (Held A)). ends_in_kind ioas span (kind_in row.value))
          (cond b (row ∷ filter (is_of_file file) rows) (filter (is_of_file file) rows))
      by_file true is rest = ap (λ c. ends_in_kind ioas span (kind_in row.value) || c) rest
      by_file false is rest = rest

  -- what is no address space has no areas
  pub no_space : (rows : List (Row (Held A))) (file : FileNo) (ioas : ObjId)
      → has_ioas (map object_of rows) file ioas ≡ false → areas_at rows file ioas ≡ []
  no_space rows file ioas is =
      areas_at_rows rows file ioas ∙ by_held (value_at rows file ioas) (sym (has_ioas_rows rows file ioas) ∙ is)
    where
      by_held : (held : Option (Held A)) → is_space held ≡ false → areas_of_held held ≡ []
      by_held None is = refl
      by_held (Some (held.Ioas areas)) is = cc
      by_held (Some (held.Hwpt ioas width automatic)) is = refl
      by_held (Some (held.Device device)) is = refl
      by_held (Some (held.Access attached)) is = refl

  -- ---- how many there are

  pub same_count : (rows : List (Row (Held A))) (file : FileNo)
      → length (objects_of (map object_of rows) file) ≡ length (filter (is_of_file file) rows)
  same_count [] file = refl
  same_count (row ∷ rows) file = let rest = same_count rows file in grind (arith, nat_tests)

  pub fullness : (rows : List (Row (Held A))) (file : FileNo)
      → is_full (map object_of rows) file ≡ leb 65535 (length (filter (is_of_file file) rows))
  fullness rows file = ap (leb 65535) (same_count rows file)

-- ---- of a world

-- a page table's address space has one
pub has_table : (objects : List Object) (file : FileNo) (id ioas : ObjId) (width : Width) (automatic : Bool)
    → kind_of objects file id ≡ Some (kind.Hwpt ioas width automatic) → has_hwpt objects file ioas ≡ true
has_table [] file id ioas width automatic is = cc
has_table (object ∷ objects) file id ioas width automatic is =
    by_name (is_object file id object) refl is (λ later. has_table objects file id ioas width automatic later)
  where
    itself : (n : ℕ) → eqb n n ≡ true
    itself n = grind (arith, nat_tests)

    by_name : (b : Bool) → is_object file id object ≡ b
        → elim (cond b (Some object) (find (is_object file id) objects)) as (λ _. Option ObjectKind)
        [ Some o ↦ Some o.kind | None ↦ None ] ≡ Some (kind.Hwpt ioas width automatic)
        → (kind_of objects file id ≡ Some (kind.Hwpt ioas width automatic) → has_hwpt objects file ioas ≡ true)
        → ((eqb object.file.0 file.0 && is_hwpt_over ioas object.kind) || has_hwpt objects file ioas) ≡ true
    by_name true named is later =
        let names = and_true (eqb object.file.0 file.0) (eqb object.id.0 id.0) named in
        let same : object.kind ≡ kind.Hwpt ioas width automatic = cc in
        let over : is_hwpt_over ioas object.kind ≡ true = ap (is_hwpt_over ioas) same ∙ itself ioas.0 in
        rw (names.0, over) refl
    by_name false named is later =
        or_right (eqb object.file.0 file.0 && is_hwpt_over ioas object.kind) (has_hwpt objects file ioas) (later is)
