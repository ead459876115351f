-- Whether a file has as many objects as it may have.
use Rattle.std.proofs.Common.{◌≡◌, suc, Bool, true, false, cond, leb, List, [], ◌∷◌, length, map, refl, sym, ap}
use Rattle.std.specs.List.{filter}
use Rattle.iofd_words.specs.Objects.{is_full, objects_of}
use Rattle.iofd_words.specs.declared.numbers.FileNo.{FileNo}
use Rattle.server_state.specs.Held.{object_of, objects_in}
use Rattle.server_state.specs.declared.held.Held.{Held}
use Rattle.object_table.specs.Table.{Row, Table, is_of_file, rows_of}

module _ {A : Type 0} where
  count_of_file : (rows : List (Row (Held A))) (file : FileNo)
      → length (objects_of (map object_of rows) file) ≡ length (filter (is_of_file file) rows)
  count_of_file [] file = refl
  count_of_file (row ∷ rows) file = by_test (is_of_file file row) (count_of_file rows file)
    where
      by_test : (b : Bool) → length (objects_of (map object_of rows) file) ≡ length (filter (is_of_file file) rows)
          → length (cond b (object_of row ∷ objects_of (map object_of rows) file)
          (objects_of (map object_of rows) file)) ≡ length (cond b (row ∷ filter (is_of_file file) rows)
          (filter (is_of_file file) rows))
      by_test true rest = ap suc rest
      by_test false rest = rest

  pub full_file : (table : Table (Held A)) (file : FileNo)
      → leb 65535 (length (rows_of table file)) ≡ is_full (objects_in table) file
  full_file table file = ap (leb 65535) (sym (count_of_file table.rows file))
