-- The rows of all files, as those of one file between those of the files before it and after it.
use Rattle.std.proofs.Common.{◌≡◌, ◌≢◌, ℕ, zero, suc, ◌+◌, ◌<◌, ◌≤◌, Bool, true, false, cond, List, [], ◌∷◌, ◌++◌}
use Rattle.std.proofs.Common.{length, Option, Some, None, map, get_or, set, take, drop, refl, arith, append_assoc}
use Rattle.std.proofs.lemmas.List.{append-nil, map-append, length-take, set-get_or}
use Rattle.std.proofs.lemmas.List.Elements.{filter-append}
use Rattle.std.proofs.lemmas.List.Folds.{find-append}
use Rattle.std.proofs.lemmas.Bool.Decides.{nat_tests}
use Rattle.std.specs.Option.{option_or}
use Rattle.std.specs.List.{filter, find, AllByRecursion}
use Rattle.slab.specs.Slab.{entries}
use Rattle.object_table.specs.Table.{Row, inserted, stands_before}
use Rattle.object_table.specs.Layout.{file_rows, rows_from, keyed_row}
use Rattle.object_table.specs.declared.file_objects.FileObjects.{FileObjects}
use Rattle.object_table.proofs.Lists.{Each-weaken, Each-append, Each-map, filter_all, filter_none, map_same, find_none}
use Rattle.object_table.proofs.Lists.{put_before, put_before_none, put_before-append}

-- a row comes in before the first that it stands before
pub inserted_is : {V : Type 0} (row : Row V) (rows : List (Row V))
    → inserted row rows ≡ put_before (stands_before row) row rows
inserted_is row [] = refl
inserted_is row (next ∷ rows) = rw (inserted_is row rows)

-- these rows are mine, those of the files before and those of the files after
pub record IsSplit {V : Type 0} (number : ℕ) (rows front mine back : List (Row V)) : Type 0 where
  pub whole : rows ≡ front ++ (mine ++ back)
  pub before : AllByRecursion (λ r. r.file.0 < number) front
  pub after : AllByRecursion (λ r. number < r.file.0) back

module _ {V A : Type 0} where
  pub file_rows-numbers : (number : ℕ) (file : FileObjects V A)
      → AllByRecursion (λ r. r.file.0 ≡ number) (file_rows number file)
  file_rows-numbers number file = by_mark file.is_open
    where
      by_mark : (b : Bool) → AllByRecursion (λ r. r.file.0 ≡ number)
          (cond b (map (keyed_row number) (entries file.objects)) [])
      by_mark true = Each-map _ _ (λ e. refl) (entries file.objects)
      by_mark false = tt

  pub rows_from-low : (first : ℕ) (files : List (FileObjects V A))
      → AllByRecursion (λ r. first ≤ r.file.0) (rows_from first files)
  rows_from-low first [] = tt
  rows_from-low first (file ∷ files) =
      Each-append _ (file_rows first file) (rows_from (first + 1) files)
      (Each-weaken (λ r. r.file.0 ≡ first) (λ r. first ≤ r.file.0) (λ r is. omega arith) _
      (file_rows-numbers first file))
      (Each-weaken (λ r. first + 1 ≤ r.file.0) (λ r. first ≤ r.file.0) (λ r is. omega arith) _
      (rows_from-low (first + 1) files))

  pub rows_from-high : (first : ℕ) (files : List (FileObjects V A))
      → AllByRecursion (λ r. r.file.0 < first + length files) (rows_from first files)
  rows_from-high first [] = tt
  rows_from-high first (file ∷ files) =
      Each-append _ (file_rows first file) (rows_from (first + 1) files)
      (Each-weaken (λ r. r.file.0 ≡ first) (λ r. r.file.0 < first + suc (length files)) (λ r is. omega arith) _
      (file_rows-numbers first file))
      (Each-weaken (λ r. r.file.0 < first + 1 + length files) (λ r. r.file.0 < first + suc (length files))
      (λ r is. omega arith) _ (rows_from-high (first + 1) files))

  rows_from-set : (first at : ℕ) (files : List (FileObjects V A)) (file : FileObjects V A) → at < length files
      → rows_from first (set files at file) ≡ rows_from first (take at files)
      ++ (file_rows (first + at) file ++ rows_from (first + at + 1) (drop (suc at) files))
  rows_from-set first at [] file within = absurd (omega arith)
  rows_from-set first zero (was ∷ files) file within =
      let same : first + 0 ≡ first = omega arith in
      rw same
  rows_from-set first (suc at) (was ∷ files) file within =
      let next : first + suc at ≡ first + 1 + at = omega arith in
      rw (next, rows_from-set (first + 1) at files file (omega arith), append_assoc)

  -- the rows once the file at a place is this one
  pub split_set : (at : ℕ) (files : List (FileObjects V A)) (file : FileObjects V A) → at < length files
      → IsSplit (at + 1) (rows_from 1 (set files at file)) (rows_from 1 (take at files)) (file_rows (at + 1) file)
      (rows_from (at + 2) (drop (suc at) files))
  split_set at files file within =
      let low = length-take at files in
      let one : 1 + at ≡ at + 1 = omega arith in
      let two : at + 1 + 1 ≡ at + 2 = omega arith in
      record {
        whole = rw (rows_from-set 1 at files file within, one, two);
        before = Each-weaken (λ r. r.file.0 < 1 + length (take at files)) (λ r. r.file.0 < at + 1)
            (λ r is. omega (arith, low)) _ (rows_from-high 1 (take at files));
        after = Each-weaken (λ r. at + 2 ≤ r.file.0) (λ r. at + 1 < r.file.0) (λ r is. omega arith) _
            (rows_from-low (at + 2) (drop (suc at) files));
      }

  -- the rows as they are
  pub split_at : (at : ℕ) (files : List (FileObjects V A)) (d : FileObjects V A) → at < length files
      → IsSplit (at + 1) (rows_from 1 files) (rows_from 1 (take at files)) (file_rows (at + 1) (get_or files at d))
      (rows_from (at + 2) (drop (suc at) files))
  split_at at files d within = rw set-get_or at (split_set at files (get_or files at d) within)

module _ {V : Type 0} (number : ℕ) (rows front mine back : List (Row V)) (split : IsSplit number rows front mine back)
  where
    -- a filter that keeps the other files' rows
    pub filter_mine : (keep : Row V → Bool) → ((r : Row V) → r.file.0 ≢ number → keep r ≡ true)
        → filter keep rows ≡ front ++ (filter keep mine ++ back)
    filter_mine keep others =
        let first = filter_all keep front (Each-weaken (λ r. r.file.0 < number) (λ r. keep r ≡ true)
        (λ r is. others r (λ same. omega arith)) front split.before) in
        let last = filter_all keep back (Each-weaken (λ r. number < r.file.0) (λ r. keep r ≡ true)
        (λ r is. others r (λ same. omega arith)) back split.after) in
        rw (split.whole, filter-append keep front (mine ++ back), filter-append keep mine back, first, last)

    -- a filter that drops the other files' rows
    pub filter_only_mine : (keep : Row V → Bool) → ((r : Row V) → r.file.0 ≢ number → keep r ≡ false)
        → filter keep rows ≡ filter keep mine
    filter_only_mine keep others =
        let first = filter_none keep front (Each-weaken (λ r. r.file.0 < number) (λ r. keep r ≡ false)
        (λ r is. others r (λ same. omega arith)) front split.before) in
        let last = filter_none keep back (Each-weaken (λ r. number < r.file.0) (λ r. keep r ≡ false)
        (λ r is. others r (λ same. omega arith)) back split.after) in
        rw (
          split.whole,
          filter-append keep front (mine ++ back),
          filter-append keep mine back,
          first,
          last,
          append-nil (filter keep mine),
        )

    -- a change that leaves the other files' rows as they are
    pub map_mine : (change : Row V → Row V) → ((r : Row V) → r.file.0 ≢ number → change r ≡ r)
        → map change rows ≡ front ++ (map change mine ++ back)
    map_mine change others =
        let first = map_same change front (Each-weaken (λ r. r.file.0 < number) (λ r. change r ≡ r)
        (λ r is. others r (λ same. omega arith)) front split.before) in
        let last = map_same change back (Each-weaken (λ r. number < r.file.0) (λ r. change r ≡ r)
        (λ r is. others r (λ same. omega arith)) back split.after) in
        rw (split.whole, map-append change front (mine ++ back), map-append change mine back, first, last)

    -- a search that passes over the other files' rows
    pub find_mine : (test : Row V → Bool) → ((r : Row V) → r.file.0 ≢ number → test r ≡ false)
        → find test rows ≡ find test mine
    find_mine test others =
        let first = find_none test front (Each-weaken (λ r. r.file.0 < number) (λ r. test r ≡ false)
        (λ r is. others r (λ same. omega arith)) front split.before) in
        let last = find_none test back (Each-weaken (λ r. number < r.file.0) (λ r. test r ≡ false)
        (λ r is. others r (λ same. omega arith)) back split.after) in
        rw (
          split.whole,
          find-append test front (mine ++ back),
          find-append test mine back,
          first,
          last,
        ) (or_none (find test mine))
      where
        or_none : (found : Option (Row V)) → option_or found None ≡ found
        or_none None = refl
        or_none (Some row) = refl

    -- a row of this file comes in among this file's rows
    pub inserted_mine : (row : Row V) → row.file.0 ≡ number → inserted row rows ≡ front ++ (inserted row mine ++ back)
    inserted_mine row is =
        let first = put_before_none (stands_before row) row front (mine ++ back)
        (Each-weaken (λ r. r.file.0 < number) (λ r. stands_before row r ≡ false)
        (λ r lt. grind (arith, nat_tests)) front split.before) in
        let last = put_before-append (stands_before row) row mine back
        (Each-weaken (λ r. number < r.file.0) (λ r. stands_before row r ≡ true)
        (λ r lt. grind (arith, nat_tests)) back split.after) in
        rw (split.whole, inserted_is row (front ++ (mine ++ back)), inserted_is row mine, first, last)
