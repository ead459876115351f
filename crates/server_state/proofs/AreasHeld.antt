-- What a change of one address space's areas leaves as it was.
use Rattle.std.proofs.Common.{◌≡◌, Bool, true, false, cond, ◌&&◌, not, Some, None, List, [], ◌∷◌, map, refl, sym}
use Rattle.std.proofs.Common.{◌∙◌, ap, arith}
use Rattle.std.specs.List.{find, list_any}
use Rattle.std.specs.Option.{option_map}
use Rattle.std.proofs.lemmas.Bool.Decides.{nat_tests}
use Rattle.iofd_rows.proofs.Bools.{and_true, not_true}
use Rattle.iofd_rows.specs.Ids.{have_own_ids}
use Rattle.iofd_words.specs.Objects.{has_ioas, is_ioas, is_object, kind_of}
use Rattle.iofd_words.specs.declared.numbers.FileNo.{FileNo}
use Rattle.iofd_words.specs.declared.numbers.ObjId.{ObjId}
use Rattle.iofd_words.specs.declared.rows.Area.{Area}
use Rattle.iofd_words.specs.declared.rows.Object.{Object}
use Rattle.server_state.specs.Held.{areas_at, areas_in, held_kind, is_own, kind_in, object_of, objects_in, own}
use Rattle.server_state.specs.Spaces.{IsOrderly, IsWith, HasAreas, is_space}
use Rattle.server_state.specs.Users.{users_at}
use Rattle.server_state.specs.declared.held.Held.{Held}
use Rattle.server_state.specs.declared.held.Held.TheVariants as held
use Rattle.server_state.proofs.Objects.{areas_at_rows, areas_of_held, kind_at, kind_of_rows}
use Rattle.object_table.specs.Table.{Row, Table, is_at, is_same_kind, changed_at, with_value}
use Rattle.object_table.specs.declared.kind.Kind.{Kind}
use Rattle.object_table.specs.declared.kind.Kind.TheVariants as tablekind

module _ {A : Type 0} where
  -- no row is at this id
  pub not_there : (rows : List (Row (Held A))) (file : FileNo) (id : ObjId) (change : Row (Held A) → Row (Held A))
      → list_any (is_object file id) (map object_of rows) ≡ false → changed_at file id change rows ≡ rows
  not_there [] file id change none = refl
  not_there (row ∷ rows) file id change none = let rest = not_there rows file id change in grind (arith, nat_tests)

  none_own : (rows : List (Row (Held A))) (file : FileNo) (kind : Kind) (id : ObjId)
      → list_any (is_object file id) (map object_of rows) ≡ false → find (is_own file kind id) rows ≡ None
  none_own [] file kind id none = refl
  none_own (row ∷ rows) file kind id none = let rest = none_own rows file kind id in grind (arith, nat_tests)

  pub same_at : (row : Row (Held A)) (file : FileNo) (id : ObjId) (objects : List Object) → is_at file id row ≡ true
      → list_any (is_object row.file row.id) objects ≡ list_any (is_object file id) objects
  same_at row file id [] is = refl
  same_at row file id (o ∷ objects) is = let rest = same_at row file id objects is in grind (arith, nat_tests)

  -- what a first row at this id holds
  first_there : (row : Row (Held A)) (rows : List (Row (Held A))) (file : FileNo) (kind : Kind) (id : ObjId)
      (old : Held A) → is_at file id row ≡ true → find (is_own file kind id) rows ≡ None
      → option_map (λ (r : Row (Held A)). r.value) (find (is_own file kind id) (row ∷ rows)) ≡ Some old
      → row.value ≡ old
  first_there row rows file kind id old is none found =
      by_kind (is_same_kind (held_kind row.value) kind) (rw (is, none) at found)
    where
      by_kind : (b : Bool) → option_map (λ (r : Row (Held A)). r.value) (cond b (Some row) None) ≡ Some old
          → row.value ≡ old
      by_kind true found = cc
      by_kind false found = cc

  not_first : (row : Row (Held A)) (rows : List (Row (Held A))) (file : FileNo) (kind : Kind) (id : ObjId)
      → is_at file id row ≡ false → find (is_own file kind id) (row ∷ rows) ≡ find (is_own file kind id) rows
  not_first row rows file kind id is = rw is refl

  pub objects_kept : (rows : List (Row (Held A))) (file : FileNo) (kind : Kind) (id : ObjId) (old new : Held A)
      → have_own_ids (map object_of rows) ≡ true
      → option_map (λ (row : Row (Held A)). row.value) (find (is_own file kind id) rows) ≡ Some old
      → kind_in new ≡ kind_in old →
      map object_of (changed_at file id (with_value new) rows) ≡ map object_of rows
  objects_kept [] file kind id old new ids found same = refl
  objects_kept (row ∷ rows) file kind id old new ids found same =
      let owns = and_true (not (list_any (is_object row.file row.id) (map object_of rows)))
      (have_own_ids (map object_of rows)) ids in
      by_test (is_at file id row) refl (not_true _ owns.0)
      (λ later. objects_kept rows file kind id old new owns.1 later same)
    where
      by_test : (b : Bool) → is_at file id row ≡ b → list_any (is_object row.file row.id) (map object_of rows) ≡ false
          → (option_map (λ (r : Row (Held A)). r.value) (find (is_own file kind id) rows) ≡ Some old
          → map object_of (changed_at file id (with_value new) rows) ≡ map object_of rows)
          → map object_of (changed_at file id (with_value new) (row ∷ rows)) ≡ map object_of (row ∷ rows)
      by_test true is none later =
          let others = sym (same_at row file id (map object_of rows) is) ∙ none in
          let rest = not_there rows file id (with_value new) others in
          let value = first_there row rows file kind id old is (none_own rows file kind id others) found in
          rw (is, rest) (ap (λ k. record { file = row.file; id = row.id; kind = k } ∷ map object_of rows) (same
          ∙ sym (ap kind_in value)))
      by_test false is none later =
          rw is (ap (λ l. object_of row ∷ l) (later (rw (not_first row rows file kind id is) at found)))

  -- the row of this kind is the first at the id
  pub own_is_first : (rows : List (Row (Held A))) (file : FileNo) (kind : Kind) (id : ObjId) (old : Held A)
      → have_own_ids (map object_of rows) ≡ true
      → option_map (λ (row : Row (Held A)). row.value) (find (is_own file kind id) rows) ≡ Some old
      → option_map (λ (row : Row (Held A)). row.value) (find (is_at file id) rows) ≡ Some old
  own_is_first [] file kind id old ids found = found
  own_is_first (row ∷ rows) file kind id old ids found =
      let owns = and_true (not (list_any (is_object row.file row.id) (map object_of rows)))
      (have_own_ids (map object_of rows)) ids in
      by_test (is_at file id row) refl (not_true _ owns.0) (λ later. own_is_first rows file kind id old owns.1 later)
    where
      by_test : (b : Bool) → is_at file id row ≡ b → list_any (is_object row.file row.id) (map object_of rows) ≡ false
          → (option_map (λ (r : Row (Held A)). r.value) (find (is_own file kind id) rows) ≡ Some old
          → option_map (λ (r : Row (Held A)). r.value) (find (is_at file id) rows) ≡ Some old)
          → option_map (λ (r : Row (Held A)). r.value) (find (is_at file id) (row ∷ rows)) ≡ Some old
      by_test true is none later =
          let others = sym (same_at row file id (map object_of rows) is) ∙ none in
          rw is (ap Some (first_there row rows file kind id old is (none_own rows file kind id others) found))
      by_test false is none later = rw is (later (rw (not_first row rows file kind id is) at found))

  -- and so is the whole row
  pub found_first : (rows : List (Row (Held A))) (file : FileNo) (kind : Kind) (id : ObjId) (found : Row (Held A))
      → have_own_ids (map object_of rows) ≡ true → find (is_own file kind id) rows ≡ Some found
      → find (is_at file id) rows ≡ Some found
  found_first [] file kind id found ids is = cc
  found_first (row ∷ rows) file kind id found ids is =
      let owns = and_true (not (list_any (is_object row.file row.id) (map object_of rows)))
      (have_own_ids (map object_of rows)) ids in
      by_tests (is_at file id row) (is_same_kind (held_kind row.value) kind) refl (not_true _ owns.0) is
      (λ later. found_first rows file kind id found owns.1 later)
    where
      by_tests : (b k : Bool) → is_at file id row ≡ b
          → list_any (is_object row.file row.id) (map object_of rows) ≡ false
          → cond (b && k) (Some row) (find (is_own file kind id) rows) ≡ Some found
          → (find (is_own file kind id) rows ≡ Some found → find (is_at file id) rows ≡ Some found)
          → find (is_at file id) (row ∷ rows) ≡ Some found
      by_tests true true here none is later = rw here is
      by_tests true false here none is later =
          let no = none_own rows file kind id (sym (same_at row file id (map object_of rows) here) ∙ none) in cc
      by_tests false k here none is later = rw here (later is)

  pub areas_here : (rows : List (Row (Held A))) (file : FileNo) (id : ObjId) (old new : Held A)
      → option_map (λ (row : Row (Held A)). row.value) (find (is_at file id) rows) ≡ Some old
      → areas_at (changed_at file id (with_value new) rows) file id ≡ areas_in new
  areas_here [] file id old new found = cc
  areas_here (row ∷ rows) file id old new found =
      by_test (is_at file id row) refl (λ later. areas_here rows file id old new later)
    where
      by_test : (b : Bool) → is_at file id row ≡ b
          → (option_map (λ (r : Row (Held A)). r.value) (find (is_at file id) rows) ≡ Some old
          → areas_at (changed_at file id (with_value new) rows) file id ≡ areas_in new)
          → areas_at (changed_at file id (with_value new) (row ∷ rows)) file id ≡ areas_in new
      by_test true is later = grind (arith, nat_tests)
      by_test false is later = let rest = later (rw is at found) in grind (arith, nat_tests)

  pub areas_elsewhere : (rows : List (Row (Held A))) (file : FileNo) (id : ObjId) (new : Held A) (f : FileNo)
      (i : ObjId) → is_space file id f i ≡ false
      → areas_at (changed_at file id (with_value new) rows) f i ≡ areas_at rows f i
  areas_elsewhere [] file id new f i other = refl
  areas_elsewhere (row ∷ rows) file id new f i other =
      let rest = areas_elsewhere rows file id new f i other in grind (arith, nat_tests)

  -- what an object holds isn't how many use it
  pub users_kept : (rows : List (Row (Held A))) (file : FileNo) (id : ObjId) (new : Held A) (f : FileNo) (i : ObjId)
      → users_at (changed_at file id (with_value new) rows) f i ≡ users_at rows f i
  users_kept [] file id new f i = refl
  users_kept (row ∷ rows) file id new f i =
      by_test (is_at file id row) (is_at f i row) refl (users_kept rows file id new f i)
    where
      by_test : (b c : Bool) → is_at f i row ≡ c
          → users_at (changed_at file id (with_value new) rows) f i ≡ users_at rows f i
          → users_at (cond b (with_value new row) row ∷ changed_at file id (with_value new) rows) f i
          ≡ users_at (row ∷ rows) f i
      by_test true true is rest = rw (is, users_at) refl
      by_test true false is rest = rw (is, users_at) rest
      by_test false true is rest = rw (is, users_at) refl
      by_test false false is rest = rw (is, users_at) rest

  -- an object's areas are changed: the objects stay, and so do all other areas
  pub written : (table : Table (Held A)) (file : FileNo) (kind : Kind) (ioas : ObjId) (old new : Held A)
      (areas : List Area) → IsOrderly table → option_map (λ (row : Row (Held A)). row.value) (own table file kind ioas)
      ≡ Some old → IsWith areas old new
      → HasAreas file ioas areas table (record table { rows = changed_at file ioas (with_value new) table.rows })
  written table file kind ioas old new areas orderly found with =
      record {
        objects = objects_kept table.rows file kind ioas old new orderly.ids found with.kind;
        here = areas_here table.rows file ioas old new (own_is_first table.rows file kind ioas old orderly.ids found)
            ∙ with.has;
        others = λ f i other. areas_elsewhere table.rows file ioas new f i other;
        files = refl;
        users = λ f i. users_kept table.rows file ioas new f i;
      }

  -- nothing is changed
  pub unwritten : (table : Table (Held A)) (file : FileNo) (ioas : ObjId) (areas : List Area)
      → areas_at table.rows file ioas ≡ areas → HasAreas file ioas areas table table
  unwritten table file ioas areas same =
      record {
        objects = refl;
        here = same;
        others = λ f i other. refl;
        files = refl;
        users = λ f i. refl;
      }

  -- the areas of what was found
  pub areas_found : (table : Table (Held A)) (file : FileNo) (kind : Kind) (ioas : ObjId) (old : Held A)
      → IsOrderly table → option_map (λ (row : Row (Held A)). row.value) (own table file kind ioas) ≡ Some old
      → areas_at table.rows file ioas ≡ areas_in old
  areas_found table file kind ioas old orderly found = areas_at_rows table.rows file ioas
      ∙ ap areas_of_held (own_is_first table.rows file kind ioas old orderly.ids found)

  -- no row at this id is an address space
  no_areas : (held : Held A) → is_same_kind (held_kind held) tablekind.Ioas ≡ false → areas_in held ≡ []
  no_areas (held.Ioas areas) other = cc
  no_areas (held.Hwpt ioas width automatic) other = refl
  no_areas (held.Device device) other = refl
  no_areas (held.Access attached) other = refl

  absent : (rows : List (Row (Held A))) (file : FileNo) (ioas : ObjId)
      → find (is_own file tablekind.Ioas ioas) rows ≡ None → areas_at rows file ioas ≡ []
  absent [] file ioas none = refl
  absent (row ∷ rows) file ioas none =
      by_tests (is_at file ioas row) (is_same_kind (held_kind row.value) tablekind.Ioas) refl refl none
      (absent rows file ioas)
    where
      by_tests : (b k : Bool) → is_at file ioas row ≡ b → is_same_kind (held_kind row.value) tablekind.Ioas ≡ k
          → cond (b && k) (Some row) (find (is_own file tablekind.Ioas ioas) rows) ≡ None
          → (find (is_own file tablekind.Ioas ioas) rows ≡ None → areas_at rows file ioas ≡ [])
          → areas_at (row ∷ rows) file ioas ≡ []
      by_tests true true is kind none later = cc
      by_tests true false is kind none later = rw (areas_at, is) (no_areas row.value kind)
      by_tests false k is kind none later = rw (areas_at, is) (later none)

  -- where there is no address space there are no areas
  pub areas_absent : (table : Table (Held A)) (file : FileNo) (ioas : ObjId)
      → own table file tablekind.Ioas ioas ≡ None → areas_at table.rows file ioas ≡ []
  areas_absent table file ioas found = absent table.rows file ioas found

  -- the areas are what a function makes of those that were there
  pub rewritten : (change : List Area → List Area) (table : Table (Held A)) (file : FileNo) (kind : Kind) (ioas : ObjId)
      (old new : Held A) → option_map (λ (row : Row (Held A)). row.value) (own table file kind ioas) ≡ Some old
      → IsWith (change (areas_in old)) old new
      → IsOrderly table → HasAreas file ioas (change (areas_at table.rows file ioas)) table
      (record table { rows = changed_at file ioas (with_value new) table.rows })
  rewritten change table file kind ioas old new found with orderly =
      let same = areas_found table file kind ioas old orderly found in
      written table file kind ioas old new (change (areas_at table.rows file ioas)) orderly found
      (record { kind = with.kind; has = with.has ∙ ap change (sym same) })

  -- ---- whether there is such an address space

  -- what the object is that was found
  kind_found : (table : Table (Held A)) (file : FileNo) (kind : Kind) (ioas : ObjId) (old : Held A) → IsOrderly table
      → option_map (λ (row : Row (Held A)). row.value) (own table file kind ioas) ≡ Some old
      → kind_of (objects_in table) file ioas ≡ Some (kind_in old)
  kind_found table file kind ioas old orderly found =
      kind_of_rows table.rows file ioas ∙ ap kind_at (own_is_first table.rows file kind ioas old orderly.ids found)

  pub space_found : (table : Table (Held A)) (file : FileNo) (kind : Kind) (ioas : ObjId) (old : Held A)
      → IsOrderly table → option_map (λ (row : Row (Held A)). row.value) (own table file kind ioas) ≡ Some old
      → has_ioas (objects_in table) file ioas ≡ true → is_ioas (kind_in old) ≡ true
  space_found table file kind ioas old orderly found has =
      rw (kind_found table file kind ioas old orderly found, has_ioas) at has

  no_ioas : (held : Held A) → is_same_kind (held_kind held) tablekind.Ioas ≡ false → is_ioas (kind_in held) ≡ false
  no_ioas (held.Ioas areas) other = cc
  no_ioas (held.Hwpt ioas width automatic) other = refl
  no_ioas (held.Device device) other = refl
  no_ioas (held.Access attached) other = refl

  none_held : (rows : List (Row (Held A))) (file : FileNo) (ioas : ObjId)
      → find (is_own file tablekind.Ioas ioas) rows ≡ None → has_ioas (map object_of rows) file ioas ≡ false
  none_held [] file ioas none = refl
  none_held (row ∷ rows) file ioas none =
      by_tests (is_at file ioas row) (is_same_kind (held_kind row.value) tablekind.Ioas) refl refl none
      (none_held rows file ioas)
    where
      by_tests : (b k : Bool) → is_at file ioas row ≡ b → is_same_kind (held_kind row.value) tablekind.Ioas ≡ k
          → cond (b && k) (Some row) (find (is_own file tablekind.Ioas ioas) rows) ≡ None
          → (find (is_own file tablekind.Ioas ioas) rows ≡ None → has_ioas (map object_of rows) file ioas ≡ false)
          → has_ioas (map object_of (row ∷ rows)) file ioas ≡ false
      by_tests true true is kind none later = cc
      by_tests true false is kind none later = rw (has_ioas, is) (no_ioas row.value kind)
      by_tests false k is kind none later = rw (has_ioas, is) (later none)

  pub space_absent : (table : Table (Held A)) (file : FileNo) (ioas : ObjId)
      → own table file tablekind.Ioas ioas ≡ None → has_ioas (objects_in table) file ioas ≡ true → ⊥
  space_absent table file ioas found has = let none = none_held table.rows file ioas found in cc
