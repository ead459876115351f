-- How many frames the page tables of a file have together: those of each in turn.
use Rattle.std.proofs.Common.{◌≡◌, ℕ, suc, ◌+◌, ◌<◌, ◌≤◌, Bool, true, false, cond, eqb, Option, Some, None, List, []}
use Rattle.std.proofs.Common.{◌∷◌, ◌++◌, append-nil, drop, get_or, length, length-append, map, take, refl, ap, sym, ◌∙◌}
use Rattle.std.proofs.Common.{arith}
use Rattle.std.specs.List.{filter, flat_map, list_any}
use Rattle.std.proofs.Math.Seq.{take-suc}
use Rattle.std.proofs.lemmas.Grind.{flat_map-append}
use Rattle.std.proofs.lemmas.List.{get_or_past, take-append-drop}
use Rattle.std.proofs.lemmas.List.Concat.{flat_map-cons}
use Rattle.std.proofs.lemmas.List.Elements.{filter-append}
use Rattle.event_destroy.proofs.TablesGone.{file_counted, rows_few}
use Rattle.page_table_set.proofs.Counted.{fewer_tables, rows_in_frame}
use Rattle.page_table_set.proofs.OwnIds.{is_object-same, the_only}
use Rattle.page_table_set.proofs.Partly.{at_in}
use Rattle.page_table_set.specs.PageTables.{Hwpt, hwpt_of, rows_of}
use Rattle.page_table_set.specs.Removed.{rows_found, rows_of_file}
use Rattle.iofd_rows.proofs.Bools.{clash}
use Rattle.iofd_rows.proofs.Each.{IsIn, in_found, of_any}
use Rattle.iofd_rows.proofs.Named.{file_is}
use Rattle.iofd_rows.specs.Ids.{have_own_ids}
use Rattle.iofd_runs.proofs.OwnIds.{any_found}
use Rattle.iofd_words.specs.Objects.{is_object}
use Rattle.iofd_words.specs.World.{World}
use Rattle.iofd_words.specs.declared.numbers.FileNo.{FileNo}
use Rattle.iofd_words.specs.declared.rows.TableFrame.{TableFrame}
use Rattle.user_memory_rows.specs.Shown.{tables_in}
use Rattle.server_state.specs.Shows.{Shows}
use Rattle.server_state.specs.Step.{IsTidy}
use Rattle.server_state.specs.declared.state.State.{State}
use Rattle.page_table_words.specs.Rows.{TableRow}

-- a page table is the one of its id
found_itself : (tables : List Hwpt) (h : Hwpt) → have_own_ids (map (λ (h : Hwpt). h.object) tables) ≡ true
    → IsIn tables h → hwpt_of tables h.object.file h.object.id ≡ Some h
found_itself tables h own within = by_found (hwpt_of tables h.object.file h.object.id) refl
  where
    some : list_any (λ (x : Hwpt). is_object h.object.file h.object.id x.object) tables ≡ true
    some = of_any (λ (x : Hwpt). is_object h.object.file h.object.id x.object) tables h within (is_object-same h.object)

    by_found : (o : Option Hwpt) → hwpt_of tables h.object.file h.object.id ≡ o
        → hwpt_of tables h.object.file h.object.id ≡ Some h
    by_found None none =
        absurd (clash (list_any (λ (x : Hwpt). is_object h.object.file h.object.id x.object) tables)
        (any_found (λ (x : Hwpt). is_object h.object.file h.object.id x.object) tables ∙ no_some none) some)
      where
        no_some : hwpt_of tables h.object.file h.object.id ≡ None
            → elim (hwpt_of tables h.object.file h.object.id) as (λ _. Bool) [ Some x ↦ true | None ↦ false ] ≡ false
        no_some is = rw is refl
    by_found (Some x) found =
        let there = in_found (λ (x : Hwpt). is_object h.object.file h.object.id x.object) tables x found in
        found ∙ ap (λ (x : Hwpt). Some x) (sym (the_only tables own h x within there.0 there.1))

module _ (frames : List TableFrame) (file : FileNo) where
  rows_joined : (some others : List Hwpt) → rows_of_file frames file (some ++ others) ≡ rows_of_file frames file some
      ++ rows_of_file frames file others
  rows_joined some others =
      ap (flat_map (λ (h : Hwpt). rows_of frames h.object))
      (filter-append (λ (h : Hwpt). eqb h.object.file.0 file.0) some others)
      ∙ flat_map-append (λ (h : Hwpt). rows_of frames h.object) (filter (λ (h : Hwpt). eqb h.object.file.0 file.0) some)
      (filter (λ (h : Hwpt). eqb h.object.file.0 file.0) others)

  -- some of them are no more than all
  some_few : (tables : List Hwpt) (n : ℕ) → length (rows_of_file frames file (take n tables)) ≤ length
      (rows_of_file frames file tables)
  some_few tables n =
      let whole = ap (λ (l : List Hwpt). length (rows_of_file frames file l)) (sym (take-append-drop n tables))
      ∙ ap length (rows_joined (take n tables) (drop n tables))
      ∙ length-append (rows_of_file frames file (take n tables)) (rows_of_file frames file (drop n tables)) in
      omega (arith, whole)

  module _ (tables : List Hwpt) (n : ℕ) (d : Hwpt) (within : n < length tables) where
    one_alone : (b : Bool) → eqb (get_or tables n d).object.file.0 file.0 ≡ b
        → rows_of_file frames file (get_or tables n d ∷ []) ≡ cond b (rows_of frames (get_or tables n d).object) []
    one_alone true is = rw is (flat_map-cons (λ (h : Hwpt). rows_of frames h.object) (get_or tables n d) []
        ∙ append-nil (rows_of frames (get_or tables n d).object))
    one_alone false is = rw is refl

    one_further : (b : Bool) → eqb (get_or tables n d).object.file.0 file.0 ≡ b
        → length (rows_of_file frames file (take (n + 1) tables)) ≡ length (rows_of_file frames file (take n tables))
        + length (cond b (rows_of frames (get_or tables n d).object) [])
    one_further b is =
        let next : n + 1 ≡ suc n = omega arith in
        ap (λ (k : ℕ). length (rows_of_file frames file (take k tables))) next
        ∙ ap (λ (l : List Hwpt). length (rows_of_file frames file l)) (take-suc tables n d within)
        ∙ ap length (rows_joined (take n tables) (get_or tables n d ∷ []))
        ∙ length-append (rows_of_file frames file (take n tables)) (rows_of_file frames file (get_or tables n d ∷ []))
        ∙ ap (λ (rows : List TableRow). length (rows_of_file frames file (take n tables))
        + length rows) (one_alone b is)

    -- it is of another file
    pub count_same : eqb (get_or tables n d).object.file.0 file.0 ≡ false → (count : ℕ)
        → count ≡ length (rows_of_file frames file (take n tables))
        → count ≡ length (rows_of_file frames file (take (n + 1) tables))
    count_same other count so_far = let all = one_further false other in omega (arith, so_far, all)

    -- it is one of the file's, as it counts its own
    pub count_more : eqb (get_or tables n d).object.file.0 file.0 ≡ true
        → have_own_ids (map (λ (h : Hwpt). h.object) tables) ≡ true → (count more : ℕ)
        → more ≡ length (rows_found frames (hwpt_of tables file (get_or tables n d).object.id))
        → count ≡ length (rows_of_file frames file (take n tables))
        → count + more ≡ length (rows_of_file frames file (take (n + 1) tables))
    count_more own_file own count more is so_far =
        let all = one_further true own_file in
        let here = ap (λ (f : FileNo). length (rows_found frames (hwpt_of tables f (get_or tables n d).object.id)))
        (sym (file_is (get_or tables n d).object.file file own_file))
        ∙ ap (λ (o : Option Hwpt). length (rows_found frames o))
        (found_itself tables (get_or tables n d) own (at_in tables n d within)) in
        omega (arith, so_far, all, here, is)

-- ---- no more than frames

module _ {A : Type 0} (at : ℕ) (w : World) (s : State A) (tidy : IsTidy at w) (shows : Shows w s) (file : FileNo) where
  rows_once : (f : ℕ) → rows_in_frame (rows_of_file w.table_frames file s.page_tables.tables)
      f ≤ tables_in w.table_frames f
  rows_once f =
      let counted = file_counted w.objects s.page_tables.tables shows.tables.tables shows.tables.stand.own file
      w.table_frames tidy.tabled.owned f in
      let few = fewer_tables (λ (t : TableFrame). eqb t.file.0 file.0) w.table_frames f in
      omega (arith, counted, few)

  all_few : length (rows_of_file w.table_frames file s.page_tables.tables) ≤ length s.pool.holds
  all_few =
      rows_few (rows_of_file w.table_frames file s.page_tables.tables) (length s.pool.holds)
      (λ f. let one = rows_once f in let once = shows.frames.once f in omega (arith, one, once))
      (λ f past.
      let one = rows_once f in
      let nowhere = get_or_past s.pool.holds f 0 past in
      let holds = shows.frames.holds f in
      omega (arith, one, nowhere, holds))

  pub first_few : (n : ℕ) → length (rows_of_file w.table_frames file (take n s.page_tables.tables)) ≤ length
      s.pool.holds
  first_few n =
      let some = some_few w.table_frames file s.page_tables.tables n in let few = all_few in omega (arith, some, few)
