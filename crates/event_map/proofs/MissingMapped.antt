-- The tables that are missing once a live area has come are those that the page tables over its address space lack for
-- it, in their order.
use Rattle.std.proofs.Common.{◌≡◌, ℕ, Bool, true, false, cond, ◌&&◌, eqb, List, [], ◌∷◌, ◌++◌, map, refl, ap, sym, ◌∙◌}
use Rattle.std.proofs.Common.{arith}
use Rattle.std.specs.List.{filter, flat_map, list_all}
use Rattle.std.proofs.lemmas.Bool.Decides.{nat_tests}
use Rattle.std.proofs.lemmas.List.Concat.{flat_map-cons}
use Rattle.page_table_set.specs.OverSpans.{hwpts_over, is_over, missing_in}
use Rattle.page_table_set.specs.PageTables.{Hwpt}
use Rattle.iofd_rows.proofs.Widths.{same_width}
use Rattle.iofd_rows.proofs.Bools.{and_true, both_true, clash}
use Rattle.iofd_runs.proofs.MissingTables.{all_needed, has_needed, missing_at, needed_places, none_lacking}
use Rattle.iofd_runs.proofs.TableCounts.{lacking_mapped, pages_stay}
use Rattle.iofd_words.specs.Areas.{areas_of, is_of, with_area}
use Rattle.iofd_words.specs.Objects.{is_hwpt, is_hwpt_over}
use Rattle.iofd_words.specs.TablePlaces.{has_table, is_live, lacking, live_pages, pages_in, places_of}
use Rattle.iofd_words.specs.Tables.{MissingTable, missing_of, missing_tables}
use Rattle.iofd_words.specs.declared.numbers.FileNo.{FileNo}
use Rattle.iofd_words.specs.declared.numbers.ObjId.{ObjId}
use Rattle.iofd_words.specs.declared.rows.Area.{Area}
use Rattle.iofd_words.specs.declared.rows.Object.{Object}
use Rattle.iofd_words.specs.declared.rows.ObjectKind.{ObjectKind}
use Rattle.iofd_words.specs.declared.rows.ObjectKind.TheVariants as kind
use Rattle.iofd_words.specs.declared.rows.TableFrame.{TableFrame}
use Rattle.iofd_words.specs.declared.width.Width.{Width}
use Rattle.event_map.specs.AreaMapped.{missing_for}
use Rattle.server_state.proofs.PageTables.{over_is_table}
use Rattle.server_state.specs.Tables.{has_own_width, is_hwpt_of, page_tables_among}

and_none : (a : Bool) → (a && false) ≡ false
and_none true = refl
and_none false = refl

module _ (areas : List Area) (rows : List TableFrame) (area : Area) (live : is_live area.phase ≡ true) where
  -- what an object lacks to map the area, where it is a page table
  abbrev lacked_by : FileNo → ObjId → ObjectKind → List MissingTable
  lacked_by file id kind.Ioas = []
  lacked_by file id (kind.Hwpt ioas width automatic) =
      map (missing_at file id) (lacking (has_table rows file id) (places_of width (pages_in area.span)))
  lacked_by file id (kind.Device device) = []
  lacked_by file id (kind.Access attached) = []

  abbrev lacks : Object → List MissingTable
  lacks o = lacked_by o.file o.id o.kind

  abbrev over : Object → Bool
  over o = is_over area.file area.ioas o

  -- ---- one object

  missing_one : (o : Object) → has_needed areas rows o ≡ true
      → missing_of (with_area area areas) rows o ≡ cond (over o) (lacks o) []
  missing_one o has = by_kind o.kind refl has
    where
      by_space : (ioas : ObjId) (width : Width) (b : Bool) → (eqb o.file.0 area.file.0 && eqb ioas.0 area.ioas.0) ≡ b
          → list_all (has_table rows o.file o.id) (places_of width (live_pages (areas_of areas o.file ioas))) ≡ true
          → map (missing_at o.file o.id) (lacking (has_table rows o.file o.id)
          (places_of width (live_pages (areas_of (with_area area areas) o.file ioas))))
          ≡ cond b (map (missing_at o.file o.id) (lacking (has_table rows o.file o.id)
          (places_of width (pages_in area.span)))) []
      by_space ioas width true is all =
          let names = and_true (eqb o.file.0 area.file.0) (eqb ioas.0 area.ioas.0) is in
          let of : is_of o.file ioas area ≡ true =
          both_true (eqb area.file.0 o.file.0) (eqb area.ioas.0 ioas.0) (search (names.0, arith, nat_tests))
          (search (names.1, arith, nat_tests)) in
          ap (map (missing_at o.file o.id)) (lacking_mapped o.file ioas (has_table rows o.file o.id) width area areas
          of live all)
      by_space ioas width false is all =
          let of : is_of o.file ioas area ≡ false =
          other (eqb o.file.0 area.file.0) (eqb ioas.0 area.ioas.0) (eqb area.file.0 o.file.0)
          (eqb area.ioas.0 ioas.0) is (flip o.file.0 area.file.0) (flip ioas.0 area.ioas.0) in
          ap (λ ps. map (missing_at o.file o.id) (lacking (has_table rows o.file o.id) (places_of width ps)))
          (pages_stay o.file ioas area areas of)
          ∙ ap (map (missing_at o.file o.id)) (none_lacking (has_table rows o.file o.id)
          (places_of width (live_pages (areas_of areas o.file ioas))) all)
        where
          flip : (m n : ℕ) → eqb m n ≡ eqb n m
          flip m n = grind (arith, nat_tests)

          other : (a b c d : Bool) → (a && b) ≡ false → a ≡ c → b ≡ d → (c && d) ≡ false
          other a b c d is first second = rw (← first, ← second) is

      by_kind : (k : ObjectKind) → o.kind ≡ k → list_all (has_table rows o.file o.id)
          (needed_places areas o.file o.kind) ≡ true
          → missing_of (with_area area areas) rows o ≡ cond (over o) (lacks o) []
      by_kind kind.Ioas is all = rw is (ap (λ b. cond b [] []) (sym (and_none (eqb o.file.0 area.file.0))))
      by_kind (kind.Device device) is all = rw is (ap (λ b. cond b [] []) (sym (and_none (eqb o.file.0 area.file.0))))
      by_kind (kind.Access attached) is all = rw is (ap (λ b. cond b [] []) (sym (and_none (eqb o.file.0 area.file.0))))
      by_kind (kind.Hwpt ioas width automatic) is all =
          rw is (by_space ioas width (eqb o.file.0 area.file.0 && eqb ioas.0 area.ioas.0) refl (rw is at all))

  -- ---- all objects

  -- those of the page tables over the address space, object by object
  missing_each : (objects : List Object) → list_all (has_needed areas rows) objects ≡ true
      → missing_tables objects (with_area area areas) rows ≡ flat_map lacks (filter over (page_tables_among objects))
  missing_each [] all = refl
  missing_each (o ∷ objects) all =
      let parts = and_true (has_needed areas rows o) (list_all (has_needed areas rows) objects) all in
      flat_map-cons (missing_of (with_area area areas) rows) o objects
      ∙ rw (missing_one o parts.0, missing_each objects parts.1) (by_test (is_hwpt o.kind) refl (over o) refl)
    where
      by_test : (b : Bool) → is_hwpt o.kind ≡ b → (c : Bool) → over o ≡ c
          → cond c (lacks o) [] ++ flat_map lacks (filter over (page_tables_among objects)) ≡ flat_map lacks
          (filter over (cond b (o ∷ page_tables_among objects) (page_tables_among objects)))
      by_test true is true its = rw its (sym (flat_map-cons lacks o (filter over (page_tables_among objects))))
      by_test true is false its = rw its refl
      by_test false is true its = absurd (clash _ is
          (over_is_table area.ioas o.kind (and_true (eqb o.file.0 area.file.0)
          (is_hwpt_over area.ioas o.kind) its).1))
      by_test false is false its = refl

  -- page table by page table
  lacks_own : (h : Hwpt) → has_own_width h ≡ true → is_hwpt h.object.kind ≡ true
      → lacks h.object ≡ missing_in rows area.span h
  lacks_own h own hwpt = by_kind h.object.kind refl hwpt
    where
      by_kind : (k : ObjectKind) → h.object.kind ≡ k → is_hwpt k ≡ true
          → lacked_by h.object.file h.object.id k ≡ missing_in rows area.span h
      by_kind kind.Ioas is hwpt = cc
      by_kind (kind.Device device) is hwpt = cc
      by_kind (kind.Access attached) is hwpt = cc
      by_kind (kind.Hwpt ioas width automatic) is hwpt =
          let same = same_width width h.table.width (sym (ap (is_hwpt_of h.table.width) is) ∙ own) in
          ap (λ (of : Width). map (missing_at h.object.file h.object.id)
          (lacking (has_table rows h.object.file h.object.id) (places_of of (pages_in area.span)))) same

  each_table : (tables : List Hwpt) → list_all has_own_width tables ≡ true
      → flat_map lacks (filter over (map (λ (h : Hwpt). h.object) tables)) ≡ missing_for rows area tables
  each_table [] own = refl
  each_table (h ∷ tables) own =
      let parts = and_true (has_own_width h) (list_all has_own_width tables) own in
      by_test (over h.object) refl parts.0 (each_table tables parts.1)
    where
      by_test : (b : Bool) → over h.object ≡ b → has_own_width h ≡ true
          → flat_map lacks (filter over (map (λ (x : Hwpt). x.object) tables)) ≡ missing_for rows area tables
          → flat_map lacks (cond b (h.object ∷ filter over (map (λ (x : Hwpt). x.object) tables))
          (filter over (map (λ (x : Hwpt). x.object) tables)))
          ≡ flat_map (missing_in rows area.span) (cond b (h ∷ hwpts_over area.file area.ioas tables)
          (hwpts_over area.file area.ioas tables))
      by_test true its wide rest =
          let hwpt = over_is_table area.ioas h.object.kind
          (and_true (eqb h.object.file.0 area.file.0) (is_hwpt_over area.ioas h.object.kind) its).1 in
          flat_map-cons lacks h.object (filter over (map (λ (x : Hwpt). x.object) tables))
          ∙ rw (lacks_own h wide hwpt, rest) (sym (flat_map-cons (missing_in rows area.span) h
          (hwpts_over area.file area.ioas tables)))
      by_test false its wide rest = rest

  pub missing_mapped : (objects : List Object) (tables : List Hwpt)
      → map (λ (h : Hwpt). h.object) tables ≡ page_tables_among objects → list_all has_own_width tables ≡ true
      → missing_tables objects areas rows ≡ []
      → missing_tables objects (with_area area areas) rows ≡ missing_for rows area tables
  missing_mapped objects tables are widths none =
      missing_each objects (all_needed objects areas rows none)
      ∙ ap (λ (os : List Object). flat_map lacks (filter over os)) (sym are)
      ∙ each_table tables widths
