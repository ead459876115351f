-- What a search of all rows finds at an id of a file.
use Rattle.std.proofs.Common.{◌≡◌, ◌≢◌, ℕ, zero, suc, ◌+◌, ◌-◌, ◌<◌, ◌≤◌, Bool, true, false, ◌&&◌, cond, List, [], ◌∷◌}
use Rattle.std.proofs.Common.{length, Option, Some, None, map, get_or, refl, ◌∙◌, arith}
use Rattle.std.proofs.lemmas.Bool.Decides.{nat_tests}
use Rattle.std.specs.Prelude.{nat_lt}
use Rattle.std.specs.Option.{option_map}
use Rattle.std.specs.List.{find, AllByRecursion}
use Rattle.slab.specs.Slab.{entries, get}
use Rattle.iofd_words.specs.declared.numbers.FileNo.{FileNo}
use Rattle.iofd_words.specs.declared.numbers.ObjId.{ObjId}
use Rattle.object_table.specs.declared.kind.Kind.{Kind}
use Rattle.object_table.specs.declared.file_objects.Entry.{Entry}
use Rattle.object_table.specs.declared.file_objects.FileObjects.{FileObjects}
use Rattle.object_table.specs.Table.{Row, is_at, is_own}
use Rattle.object_table.specs.Layout.{row_of, keyed_row, own_row, entry_at, file_rows, rows_from}
use Rattle.object_table.proofs.Lists.{Each-map, find_none}
use Rattle.object_table.proofs.EntryRows.{found_at, find-rows_of_slots}
use Rattle.object_table.proofs.Rows.{split_at, find_mine, rows_from-low, rows_from-high}

module _ {V : Type 0} where
  abbrev pub found : (Row V → Bool) → FileNo → ObjId → Option (Entry V) → Option (Row V)
  found test file id None = None
  found test file id (Some entry) = cond (test (row_of file id entry)) (Some (row_of file id entry)) None

  pub is_at-other_file : (file : FileNo) (id : ObjId) (r : Row V) → r.file.0 ≢ file.0 → is_at file id r ≡ false
  is_at-other_file file id r differs = grind (arith, nat_tests)

  pub is_at-other_id : (file : FileNo) (id : ObjId) (r : Row V) → r.id.0 ≢ id.0 → is_at file id r ≡ false
  is_at-other_id file id r differs = grind (arith, nat_tests)

  pub is_own-other_file : (kind_of : V → Kind) (file : FileNo) (kind : Kind) (id : ObjId) (r : Row V)
      → r.file.0 ≢ file.0 → is_own kind_of file kind id r ≡ false
  is_own-other_file kind_of file kind id r differs = rw (is_at-other_file file id r differs)

  pub is_own-other_id : (kind_of : V → Kind) (file : FileNo) (kind : Kind) (id : ObjId) (r : Row V) → r.id.0 ≢ id.0
      → is_own kind_of file kind id r ≡ false
  is_own-other_id kind_of file kind id r differs = rw (is_at-other_id file id r differs)

  pub is_at-here : (file : FileNo) (id : ObjId) (entry : Entry V) → is_at file id (row_of file id entry) ≡ true
  is_at-here file id entry = grind (arith, nat_tests)

  pub found-is_at : (file : FileNo) (id : ObjId) (o : Option (Entry V))
      → found (is_at file id) file id o ≡ option_map (row_of file id) o
  found-is_at file id None = refl
  found-is_at file id (Some entry) = rw (is_at-here file id entry)

  pub found-is_own : (kind_of : V → Kind) (file : FileNo) (kind : Kind) (id : ObjId) (o : Option (Entry V))
      → found (is_own kind_of file kind id) file id o ≡ own_row kind_of file kind id o
  found-is_own kind_of file kind id None = refl
  found-is_own kind_of file kind id (Some entry) = rw (is_at-here file id entry)

module _ {V A : Type 0} where
  -- a search of a file's own rows, by a test that fails at every other id
  find-file_rows : (file : FileNo) (number : ℕ) (f : FileObjects V A) (test : Row V → Bool)
      → ((r : Row V) → r.id.0 ≢ number → test r ≡ false)
      → find test (file_rows file.0 f) ≡ found test file (record { 0 = number }) (entry_at f (record { 0 = number }))
  find-file_rows file number f test elsewhere = by_mark f.is_open number elsewhere
    where
      by_mark : (b : Bool) (n : ℕ) → ((r : Row V) → r.id.0 ≢ n → test r ≡ false)
          → find test (cond b (map (keyed_row file.0) (entries f.objects)) []) ≡ found test file (record { 0 = n })
          (cond (b && nat_lt 0 n) (get f.objects (n - 1)) None)
      by_mark false n others = refl
      by_mark true zero others = find_none test _
          (Each-map _ (keyed_row file.0) (λ e. others (keyed_row file.0 e) (λ same. omega arith)) (entries f.objects))
      by_mark true (suc key) others =
          let less : suc key - 1 ≡ key = omega arith in
          let more : key + 1 ≡ suc key = omega arith in
          let positive : nat_lt 0 (suc key) ≡ true = grind (arith, nat_tests) in
          rw (less, positive) (find-rows_of_slots (keyed_row file.0) key test
          (λ e differs. others (keyed_row file.0 e) (λ same. differs (omega arith))) key 0 (omega arith)
          f.objects.slots ∙ same_found (get f.objects key))
        where
          same_found : (o : Option (Entry V)) → found_at (keyed_row file.0) test key o ≡ found test file
              (record { 0 = suc key }) o
          same_found None = refl
          same_found (Some entry) = let more : key + 1 ≡ suc key = omega arith in rw more

  -- no row is of a file that isn't there
  pub fails_outside : (files : List (FileObjects V A)) (number : ℕ) (test : Row V → Bool)
      → ((r : Row V) → r.file.0 ≢ number → test r ≡ false) → ((place : ℕ) → place + 1 ≡ number → length files ≤ place)
      → AllByRecursion (λ r. test r ≡ false) (rows_from 1 files)
  fails_outside files number test others outside =
      both (rows_from 1 files) (rows_from-low 1 files) (rows_from-high 1 files)
    where
      fails : (r : Row V) → 1 ≤ r.file.0 → r.file.0 < 1 + length files → test r ≡ false
      fails r low high = others r (λ same. let past = outside (number - 1) (omega arith) in omega arith)

      both : (rows : List (Row V)) → AllByRecursion (λ r. 1 ≤ r.file.0) rows
          → AllByRecursion (λ r. r.file.0 < 1 + length files) rows → AllByRecursion (λ r. test r ≡ false) rows
      both [] low high = tt
      both (r ∷ rows) low high = (fails r low.0 high.0, both rows low.1 high.1)

  pub find_outside : (files : List (FileObjects V A)) (number : ℕ) (test : Row V → Bool)
      → ((r : Row V) → r.file.0 ≢ number → test r ≡ false) → ((place : ℕ) → place + 1 ≡ number → length files ≤ place)
      → find test (rows_from 1 files) ≡ None
  find_outside files number test others outside = find_none test _ (fails_outside files number test others outside)

  -- a search of all rows, by a test that fails at every other file and id
  pub find_inside : (files : List (FileObjects V A)) (file : FileNo) (id : ObjId) (place : ℕ) (d : FileObjects V A)
      (test : Row V → Bool) → ((r : Row V) → r.file.0 ≢ file.0 → test r ≡ false)
      → ((r : Row V) → r.id.0 ≢ id.0 → test r ≡ false) → place + 1 ≡ file.0 → place < length files
      → find test (rows_from 1 files) ≡ found test file id (entry_at (get_or files place d) id)
  find_inside files file id place d test other_files other_ids is within =
      find_mine (place + 1) _ _ _ _ (split_at place files d within) test
      (λ r differs. other_files r (λ same. differs (omega arith)))
      ∙ rw is (find-file_rows file id.0 (get_or files place d) test other_ids)
