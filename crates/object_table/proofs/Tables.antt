-- What contracts see of all files, in terms of the file at one place, and after a change of that file.
use Rattle.std.proofs.Common.{◌≡◌, ◌≢◌, ◌⊎◌, ℕ, suc, ◌+◌, ◌-◌, ◌<◌, ◌≤◌, Bool, true, false, ◌&&◌, not, cond, List, []}
use Rattle.std.proofs.Common.{◌++◌, length, Some, None, IsSome, Result, Ok, Err, IfOk, OnErr, map, get_or, set, take}
use Rattle.std.proofs.Common.{drop, refl, sym, ap, ◌∙◌, inl, inr, arith}
use Rattle.std.proofs.lemmas.Bool.{cases_lt}
use Rattle.std.proofs.lemmas.Bool.Decides.{nat_tests}
use Rattle.std.proofs.lemmas.List.{length-map, map-set, get_or-map, get_or-set_same, get_or-set_other, get_or_past}
use Rattle.std.proofs.lemmas.List.{set-get_or}
use Rattle.std.specs.Prelude.{nat_lt, nat_le}
use Rattle.std.specs.Option.{option_map}
use Rattle.std.specs.List.{filter, list_any}
use Rattle.slab.specs.Slab.{entries, slab_len}
use Rattle.iofd_words.specs.declared.numbers.FileNo.{FileNo}
use Rattle.iofd_words.specs.declared.numbers.ObjId.{ObjId}
use Rattle.iofd_words.specs.declared.refusal.Cause.TheVariants as cause
use Rattle.object_table.specs.declared.kind.Kind.{Kind}
use Rattle.object_table.specs.declared.file_objects.FileObjects.{FileObjects}
use Rattle.object_table.specs.Table.{Row, Table, is_open, reserved_id, is_of_file, is_at, rows_of, row_at, own}
use Rattle.object_table.specs.Table.{inserted, removed, changed_at, closed, insert_refusal, close_refusal, is_held}
use Rattle.object_table.specs.Table.{keeps_file_open, greatest_count, OthersKeepRoom}
use Rattle.object_table.specs.Layout.{row_of, keyed_row, own_row, entry_at, next_id, file_refusal, file_rows, rows_from}
use Rattle.object_table.specs.Layout.{table_of}
use Rattle.object_table.proofs.Lists.{Each-weaken, filter_all, filter_none, list_any-map}
use Rattle.object_table.proofs.FileRows.{length-file_rows}
use Rattle.object_table.proofs.Lookup.{find_inside, find_outside, fails_outside, found-is_at, found-is_own}
use Rattle.object_table.proofs.Lookup.{is_at-other_file, is_at-other_id, is_own-other_file, is_own-other_id}
use Rattle.object_table.proofs.Rows.{IsSplit, split_at, split_set, filter_mine, filter_only_mine, map_mine}
use Rattle.object_table.proofs.Rows.{inserted_mine, file_rows-numbers}

pub same_table : {V : Type 0} (a b : Table V) → a.files ≡ b.files → a.reserved ≡ b.reserved → a.rows ≡ b.rows → a ≡ b
same_table a b marks rooms rows = λ i. record { files = marks i; reserved = rooms i; rows = rows i }

pub no_value : false ≡ true → ⊥
no_value same = cc

pub IfOk-weaken : {T E : Type 0} (P Q : T → Type 0) → ((x : T) → P x → Q x) → (r : Result T E) → IfOk r P → IfOk r Q
IfOk-weaken P Q weaker (Ok x) p = weaker x p
IfOk-weaken P Q weaker (Err e) p = tt

pub OnErr-weaken : {T E : Type 0} (P Q : Type 0) → (P → Q) → (r : Result T E) → OnErr r P → OnErr r Q
OnErr-weaken P Q weaker (Ok x) p = tt
OnErr-weaken P Q weaker (Err e) p = weaker p

module _ {V A : Type 0} (files : List (FileObjects V A)) (file : FileNo) where
  -- a file that isn't there is closed, and has no room and no object
  abbrev pub IsOutside : Type 0
  IsOutside = (place : ℕ) → place + 1 ≡ file.0 → length files ≤ place

  pub outside_is_open : IsOutside → is_open (table_of files) file ≡ false
  outside_is_open outside =
      elim (cases_lt 0 file.0) [
        | inl positive ↦
            let past : length (map (λ (f : FileObjects V A). f.is_open) files) ≤ file.0 - 1 =
            rw length-map (outside (file.0 - 1) (omega arith)) in
            let closed_mark = get_or_past (map (λ (f : FileObjects V A). f.is_open) files) (file.0 - 1) false past in
            grind (arith, nat_tests)
        | inr no_number ↦ grind (arith, nat_tests)
      ]

  pub outside_reserved : IsOutside → reserved_id (table_of files) file ≡ None
  outside_reserved outside =
      elim (cases_lt 0 file.0) [
        | inl positive ↦
            let past : length (map next_id files) ≤ file.0 - 1 = rw length-map (outside (file.0 - 1) (omega arith)) in
            let no_room = get_or_past (map next_id files) (file.0 - 1) None past in
            grind (arith, nat_tests)
        | inr no_number ↦ grind (arith, nat_tests)
      ]

  pub outside_row_at : (id : ObjId) → IsOutside → row_at (table_of files) file id ≡ None
  outside_row_at id outside = find_outside files file.0 (is_at file id) (λ r. is_at-other_file file id r) outside

  pub outside_own : (kind_of : V → Kind) (kind : Kind) (id : ObjId) → IsOutside
      → own kind_of (table_of files) file kind id ≡ None
  outside_own kind_of kind id outside =
      find_outside files file.0 _ (λ r. is_own-other_file kind_of file kind id r) outside

  pub outside_rows_of : IsOutside → rows_of (table_of files) file ≡ []
  outside_rows_of outside = filter_none (is_of_file file) _
      (fails_outside files file.0 (is_of_file file) (λ r differs. grind (arith, nat_tests)) outside)

  pub outside_is_full : IsOutside → nat_le greatest_count (length (rows_of (table_of files) file)) ≡ false
  outside_is_full outside = rw (outside_rows_of outside)

  pub outside_is_held : (kind_of : V → Kind) → IsOutside → is_held kind_of (table_of files) file ≡ false
  outside_is_held kind_of outside = rw (outside_rows_of outside)

  pub outside_insert_refusal : IsOutside → insert_refusal (table_of files) file ≡ Some cause.Id
  outside_insert_refusal outside = rw (outside_is_open outside)

  pub outside_close_refusal : (kind_of : V → Kind) → IsOutside
      → close_refusal kind_of (table_of files) file ≡ Some cause.Id
  outside_close_refusal kind_of outside = rw (outside_is_open outside)

  -- a file isn't there, or stands at its place
  pub inside_or_outside : IsOutside ⊎ ((file.0 - 1 + 1 ≡ file.0) × (file.0 - 1 < length files))
  inside_or_outside =
      elim (cases_lt 0 file.0) [
        | inl positive ↦ elim (cases_lt (file.0 - 1) (length files)) [
          | inl within ↦ inr (omega arith, within)
          | inr past ↦ inl (λ place is. omega arith)
        ]
        | inr no_number ↦ inl (λ place is. absurd (omega arith))
      ]

  -- where there is room or an object, the file stands at its place
  pub place_of_reserved : IsSome (reserved_id (table_of files) file) → (file.0 - 1 + 1 ≡ file.0)
      × (file.0 - 1 < length files)
  place_of_reserved some =
      elim inside_or_outside [
        | inl outside ↦ let none = outside_reserved outside in absurd (no_value (rw none at some))
        | inr inside ↦ inside
      ]

  pub place_of_row : (id : ObjId) → IsSome (row_at (table_of files) file id) → (file.0 - 1 + 1 ≡ file.0)
      × (file.0 - 1 < length files)
  place_of_row id some =
      elim inside_or_outside [
        | inl outside ↦ let none = outside_row_at id outside in absurd (no_value (rw none at some))
        | inr inside ↦ inside
      ]

module _ {V A : Type 0} (files : List (FileObjects V A)) (file : FileNo) (place : ℕ) (f : FileObjects V A)
    (is : place + 1 ≡ file.0) (within : place < length files) (stands : f ≡ get_or files place f) where
  split : IsSplit file.0 (rows_from 1 files) (rows_from 1 (take place files)) (file_rows file.0 f)
      (rows_from (place + 2) (drop (suc place) files))
  split = rw (← is) (rw (← stands) at (split_at place files f within))

  pub is_open-inside : is_open (table_of files) file ≡ f.is_open
  is_open-inside =
      let here : file.0 - 1 ≡ place = omega arith in
      let positive : nat_lt 0 file.0 ≡ true = grind (arith, nat_tests) in
      rw (positive, here, get_or-map (λ (x : FileObjects V A). x.is_open) files place f false within)
      (ap (λ (x : FileObjects V A). x.is_open) (sym stands))

  pub reserved_id-inside : reserved_id (table_of files) file ≡ next_id f
  reserved_id-inside =
      let here : file.0 - 1 ≡ place = omega arith in
      let positive : nat_lt 0 file.0 ≡ true = grind (arith, nat_tests) in
      rw (positive, here, get_or-map next_id files place f None within) (ap next_id (sym stands))

  pub row_at-inside : (id : ObjId) → row_at (table_of files) file id ≡ option_map (row_of file id) (entry_at f id)
  row_at-inside id =
      find_inside files file id place f (is_at file id) (λ r. is_at-other_file file id r)
      (λ r. is_at-other_id file id r) is within
      ∙ rw (← stands) (found-is_at file id (entry_at f id))

  pub own-inside : (kind_of : V → Kind) (kind : Kind) (id : ObjId)
      → own kind_of (table_of files) file kind id ≡ own_row kind_of file kind id (entry_at f id)
  own-inside kind_of kind id =
      find_inside files file id place f _ (λ r. is_own-other_file kind_of file kind id r)
      (λ r. is_own-other_id kind_of file kind id r) is within
      ∙ rw (← stands) (found-is_own kind_of file kind id (entry_at f id))

  pub rows_of-inside : rows_of (table_of files) file ≡ file_rows file.0 f
  rows_of-inside =
      filter_only_mine file.0 _ _ _ _ split (is_of_file file) (λ r differs. grind (arith, nat_tests))
      ∙ filter_all (is_of_file file) _ (Each-weaken (λ r. r.file.0 ≡ file.0) (λ r. is_of_file file r ≡ true)
      (λ r same. grind (arith, nat_tests)) _ (file_rows-numbers file.0 f))

  pub insert_refusal-inside : insert_refusal (table_of files) file ≡ file_refusal f
  insert_refusal-inside = by_mark f.is_open refl
    where
      by_mark : (b : Bool) → f.is_open ≡ b → insert_refusal (table_of files) file ≡ file_refusal f
      by_mark false e = rw (is_open-inside, e)
      by_mark true e = rw (is_open-inside, e, rows_of-inside, length-file_rows file.0 f e)

  pub is_full-inside : nat_le greatest_count (length (rows_of (table_of files) file)) ≡ (f.is_open
      && nat_le greatest_count (slab_len f.objects))
  is_full-inside = by_mark f.is_open refl
    where
      by_mark : (b : Bool) → f.is_open ≡ b → nat_le greatest_count (length (rows_of (table_of files) file)) ≡ (f.is_open
          && nat_le greatest_count (slab_len f.objects))
      by_mark false e = rw (rows_of-inside, e)
      by_mark true e = rw (rows_of-inside, length-file_rows file.0 f e, e)

  pub count-inside : length (rows_of (table_of files) file) ≡ cond f.is_open (slab_len f.objects) 0
  count-inside = by_mark f.is_open refl
    where
      by_mark : (b : Bool) → f.is_open ≡ b
          → length (rows_of (table_of files) file) ≡ cond f.is_open (slab_len f.objects) 0
      by_mark false e = rw (rows_of-inside, e)
      by_mark true e = rw (rows_of-inside, length-file_rows file.0 f e, e)

  pub is_held-inside : (kind_of : V → Kind) → f.is_open ≡ true → is_held kind_of (table_of files) file
      ≡ list_any (λ e. keeps_file_open (kind_of e.1.value)) (entries f.objects)
  is_held-inside kind_of e =
      rw (rows_of-inside, e)
      (list_any-map (λ row. keeps_file_open (kind_of row.value)) (keyed_row file.0) (entries f.objects))

  pub is_held-closed : (kind_of : V → Kind) → f.is_open ≡ false → is_held kind_of (table_of files) file ≡ false
  is_held-closed kind_of e = rw (rows_of-inside, e)

  pub close_refusal-inside : (kind_of : V → Kind) → f.is_open ≡ true
      → close_refusal kind_of (table_of files) file ≡ cond
      (list_any (λ e. keeps_file_open (kind_of e.1.value)) (entries f.objects)) (Some cause.InUse) None
  close_refusal-inside kind_of e = rw (is_open-inside, e, is_held-inside kind_of e)

  pub close_refusal-closed : (kind_of : V → Kind) → f.is_open ≡ false
      → close_refusal kind_of (table_of files) file ≡ Some cause.Id
  close_refusal-closed kind_of e = rw (is_open-inside, e)

  module _ (new : FileObjects V A) where
    whole_new : rows_from 1 (set files place new) ≡ rows_from 1 (take place files)
        ++ (file_rows file.0 new ++ rows_from (place + 2) (drop (suc place) files))
    whole_new = rw is at ((split_set place files new within).whole)

    pub files_kept : new.is_open ≡ f.is_open → (table_of (set files place new)).files ≡ (table_of files).files
    files_kept mark =
        let same : new.is_open ≡ get_or (map (λ (x : FileObjects V A). x.is_open) files) place false =
        mark ∙ ap (λ (x : FileObjects V A). x.is_open) stands
        ∙ sym (get_or-map (λ (x : FileObjects V A). x.is_open) files place f false within) in
        rw (map-set (λ (x : FileObjects V A). x.is_open) files place new, same, set-get_or)

    rooms_kept : next_id new ≡ next_id f → (table_of (set files place new)).reserved ≡ (table_of files).reserved
    rooms_kept room =
        let same : next_id new ≡ get_or (map next_id files) place None =
        room ∙ ap next_id stands ∙ sym (get_or-map next_id files place f None within) in
        rw (map-set next_id files place new, same, set-get_or)

    pub others_keep_room : OthersKeepRoom file (table_of files) (table_of (set files place new))
    others_keep_room = λ other differs.
        elim (cases_lt 0 other.0) [
          | inl positive ↦
              let apart : other.0 - 1 ≢ place = λ same. differs (omega arith) in
              rw (
                map-set next_id files place new,
                get_or-set_other (map next_id files) place (other.0 - 1)
                    (next_id new) None apart,
              )
          | inr no_number ↦ let none : nat_lt 0 other.0 ≡ false = grind (arith, nat_tests) in rw none
        ]

    pub reserved_id-new : reserved_id (table_of (set files place new)) file ≡ next_id new
    reserved_id-new =
        let here : file.0 - 1 ≡ place = omega arith in
        let positive : nat_lt 0 file.0 ≡ true = grind (arith, nat_tests) in
        let room : place < length (map next_id files) = rw length-map within in
        rw (positive, here, map-set next_id files place new)
        (get_or-set_same (map next_id files) place (next_id new) None room)

    pub table_kept : new ≡ f → table_of (set files place new) ≡ table_of files
    table_kept same = rw (same, stands, set-get_or)

    pub rows_kept : file_rows file.0 new ≡ file_rows file.0 f
        → (table_of (set files place new)).rows ≡ (table_of files).rows
    rows_kept same = rw (whole_new, same) (sym split.whole)

    -- a table is the same where its parts are
    pub table_same : new.is_open ≡ f.is_open → next_id new ≡ next_id f → file_rows file.0 new ≡ file_rows file.0 f
        → table_of (set files place new) ≡ table_of files
    table_same mark room rows = same_table _ _ (files_kept mark) (rooms_kept room) (rows_kept rows)

    pub rows_inserted : (row : Row V) → row.file.0 ≡ file.0 → file_rows file.0 new ≡ inserted row (file_rows file.0 f)
        → (table_of (set files place new)).rows ≡ inserted row (table_of files).rows
    rows_inserted row here comes = whole_new ∙ rw comes (sym (inserted_mine file.0 _ _ _ _ split row here))

    pub rows_removed : (id : ObjId) → file_rows file.0 new ≡ removed file id (file_rows file.0 f)
        → (table_of (set files place new)).rows ≡ removed file id (table_of files).rows
    rows_removed id goes = whole_new ∙ rw goes
        (sym (filter_mine file.0 _ _ _ _ split (λ row. not (is_at file id row))
        (λ r differs. rw (is_at-other_file file id r differs))))

    pub rows_changed : (id : ObjId) (change : Row V → Row V)
        → file_rows file.0 new ≡ changed_at file id change (file_rows file.0 f)
        → (table_of (set files place new)).rows ≡ changed_at file id change (table_of files).rows
    rows_changed id change changes = whole_new
        ∙ rw changes (sym (map_mine file.0 _ _ _ _ split (λ row. cond (is_at file id row) (change row) row)
        (λ r differs. rw (is_at-other_file file id r differs))))

    pub table_written : (id : ObjId) (change : Row V → Row V) → new.is_open ≡ f.is_open → next_id new ≡ next_id f
        → file_rows file.0 new ≡ changed_at file id change (file_rows file.0 f)
        → table_of (set files place new) ≡ record (table_of files) {
          rows = changed_at file id
              change (table_of files).rows;
        }
    table_written id change mark room changes =
        same_table _ _ (files_kept mark) (rooms_kept room) (rows_changed id change changes)

    pub table_closed : new.is_open ≡ false → table_of (set files place new) ≡ closed (table_of files) file
    table_closed mark =
        let here : file.0 - 1 ≡ place = omega arith in
        let marks : (table_of (set files place new)).files ≡ (closed (table_of files) file).files =
        rw (map-set (λ (x : FileObjects V A). x.is_open) files place new, mark, here) in
        let no_room : next_id new ≡ None = rw mark in
        let rooms : (table_of (set files place new)).reserved ≡ (closed (table_of files) file).reserved =
        rw (map-set next_id files place new, no_room, here) in
        let gone : filter (λ row. not (is_of_file file row)) (file_rows file.0 f) ≡ [] =
        filter_none _ _ (Each-weaken (λ r. r.file.0 ≡ file.0) (λ r. not (is_of_file file r) ≡ false)
        (λ r same. grind (arith, nat_tests)) _ (file_rows-numbers file.0 f)) in
        let nothing : file_rows file.0 new ≡ [] = rw mark in
        let rows : (table_of (set files place new)).rows ≡ (closed (table_of files) file).rows =
        whole_new ∙ rw (nothing) (sym (filter_mine file.0 _ _ _ _ split (λ row. not (is_of_file file row))
        (λ r differs. grind (arith, nat_tests)) ∙ rw gone)) in
        same_table _ _ marks rooms rows
