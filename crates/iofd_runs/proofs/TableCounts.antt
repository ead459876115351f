-- How many tables are missing once a page table or a live area has come: as many as the refusals count.
use Rattle.std.proofs.Common.{◌≡◌, ℕ, ◌+◌, ◌-◌, ltb, Bool, true, false, cond, ◌&&◌, ◌||◌, ◌++◌, not, eqb, is_some}
use Rattle.std.proofs.Common.{Option, Some, None, List, [], ◌∷◌, length, map, sum_by, refl, ap, sym, ◌∙◌, arith}
use Rattle.std.specs.List.{filter, flat_map, list_all}
use Rattle.std.proofs.lemmas.Bool.Decides.{nat_tests}
use Rattle.std.proofs.lemmas.Grind.{flat_map-append}
use Rattle.std.proofs.lemmas.List.{length-append, length-map}
use Rattle.std.proofs.lemmas.List.Elements.{filter-append}
use Rattle.std.proofs.lemmas.List.Folds.{list_all-append}
use Rattle.std.proofs.lemmas.List.Sums.{sum_by-cons}
use Rattle.iofd_words.specs.Areas.{all_paid, areas_of, is_of, with_area}
use Rattle.iofd_refusals.specs.Checks.{tables_lacked}
use Rattle.iofd_words.specs.Levels.{levels_of}
use Rattle.iofd_words.specs.Objects.{comes_before, is_fresh, is_hwpt_over, kind_of, with_object}
use Rattle.iofd_words.specs.Settings.{is_between}
use Rattle.iofd_words.specs.TablePlaces.{TablePlace, has_table, is_live, is_place, is_table_of, lacking, live_pages}
use Rattle.iofd_words.specs.TablePlaces.{pages_in, place_of, places_from, places_of, root_place}
use Rattle.iofd_words.specs.Tables.{MissingTable, missing_of, missing_tables}
use Rattle.iofd_words.specs.View.{View}
use Rattle.iofd_words.specs.declared.numbers.DeviceNo.{DeviceNo}
use Rattle.iofd_words.specs.declared.numbers.FileNo.{FileNo}
use Rattle.iofd_words.specs.declared.numbers.ObjId.{ObjId}
use Rattle.iofd_words.specs.declared.rows.Area.{Area}
use Rattle.iofd_words.specs.declared.rows.Object.{Object}
use Rattle.iofd_words.specs.declared.rows.ObjectKind.{ObjectKind}
use Rattle.iofd_words.specs.declared.rows.ObjectKind.TheVariants as kind
use Rattle.iofd_words.specs.declared.rows.Phase.{Phase}
use Rattle.iofd_words.specs.declared.rows.Phase.TheVariants.{Live, Leaving}
use Rattle.iofd_words.specs.declared.rows.TableFrame.{TableFrame}
use Rattle.iofd_words.specs.declared.width.Width.{Width}
use Rattle.iofd_rows.proofs.Bools.{and_true, both_true, clash, not_true}
use Rattle.iofd_rows.proofs.Each.{of_each}
use Rattle.iofd_rows.proofs.Found.{all_weaker}
use Rattle.iofd_rows.proofs.ListTests.{or_left}
use Rattle.iofd_rows.proofs.Named.{file_is, id_is}
use Rattle.iofd_rows.proofs.Paid.{paid_areas_of}
use Rattle.iofd_rows.proofs.Unusable.{none_of}
use Rattle.iofd_runs.proofs.MissingTables.{append_empty, has_needed, is_owned, missing_at, needed_places, none_lacking}
use Rattle.iofd_runs.proofs.StillTabled.{orphan_is}

-- ---- lists of lacking tables

pub lacking_alike : (f g : TablePlace → Bool) (places : List TablePlace) → ((p : TablePlace) → f p ≡ g p)
    → lacking f places ≡ lacking g places
lacking_alike f g [] alike = refl
lacking_alike f g (place ∷ places) alike =
    by_test (f place) (g place) (alike place) (lacking_alike f g places alike)
    (lacking_alike (λ other. f other || is_place place other) (λ other. g other || is_place place other) places
    (λ p. ap (λ b. b || is_place place p) (alike p)))
  where
    by_test : (a b : Bool) → a ≡ b → lacking f places ≡ lacking g places
        → lacking (λ other. f other || is_place place other) places ≡ lacking (λ other. g other
        || is_place place other) places
        → cond a (lacking f places) (place ∷ lacking (λ other. f other || is_place place other) places) ≡ cond b
        (lacking g places) (place ∷ lacking (λ other. g other || is_place place other) places)
    by_test true true same rest more = rest
    by_test true false same rest more = cc
    by_test false true same rest more = cc
    by_test false false same rest more = ap (λ ps. place ∷ ps) more

-- those that are there don't count, before the others
pub lacking_after : (has : TablePlace → Bool) (before places : List TablePlace) → list_all has before ≡ true
    → lacking has (before ++ places) ≡ lacking has places
lacking_after has [] places all = refl
lacking_after has (p ∷ before) places all =
    let parts = and_true (has p) (list_all has before) all in
    rw parts.0 (lacking_after has before places parts.1)

-- nor after them
pub lacking_before : (has : TablePlace → Bool) (places later : List TablePlace) → list_all has later ≡ true
    → lacking has (places ++ later) ≡ lacking has places
lacking_before has [] later all = none_lacking has later all
lacking_before has (p ∷ places) later all =
    by_test (has p) (lacking_before has places later all)
    (lacking_before (λ other. has other || is_place p other) places later
    (all_weaker has (λ other. has other || is_place p other) later
    (λ other there. or_left (has other) (is_place p other) there) all))
  where
    by_test : (b : Bool) → lacking has (places ++ later) ≡ lacking has places
        → lacking (λ other. has other || is_place p other) (places ++ later) ≡ lacking (λ other. has other
        || is_place p other) places
        → cond b (lacking has (places ++ later))
        (p ∷ lacking (λ other. has other || is_place p other) (places ++ later)) ≡ cond b (lacking has places)
        (p ∷ lacking (λ other. has other || is_place p other) places)
    by_test true rest more = rest
    by_test false rest more = ap (λ ps. p ∷ ps) more

-- ---- one more area

pub split_area : (area : Area) (areas : List Area) → (before : List Area) × (later : List Area)
    × (areas ≡ before ++ later) × (with_area area areas ≡ before ++ area ∷ later)
split_area area [] = ([], [], refl, refl)
split_area area (a ∷ areas) =
    let (before, later, is, with) = split_area area areas in
    by_test (is_of area.file area.ioas a && ltb area.span.first a.span.first) before later is with
  where
    by_test : (b : Bool) (before later : List Area) → areas ≡ before ++ later
        → with_area area areas ≡ before ++ area ∷ later
        → (before : List Area) × (later : List Area) × (a ∷ areas ≡ before ++ later)
        × (cond b (area ∷ a ∷ areas) (a ∷ with_area area areas) ≡ before ++ area ∷ later)
    by_test true before later is with = ([], a ∷ areas, refl, refl)
    by_test false before later is with = (a ∷ before, later, ap (λ rest. a ∷ rest) is, ap (λ rest. a ∷ rest) with)

module _ (file : FileNo) (ioas : ObjId) where
  pages : List Area → List ℕ
  pages areas = live_pages (areas_of areas file ioas)

  pages-append : (before later : List Area) → pages (before ++ later) ≡ pages before ++ pages later
  unfolding pages
  pages-append before later =
      ap live_pages (filter-append (is_of file ioas) before later)
      ∙ ap (flat_map (λ (a : Area). pages_in a.span))
      (filter-append (λ (a : Area). is_live a.phase) (areas_of before file ioas) (areas_of later file ioas))
      ∙ flat_map-append (λ (a : Area). pages_in a.span)
      (filter (λ (a : Area). is_live a.phase) (areas_of before file ioas))
      (filter (λ (a : Area). is_live a.phase) (areas_of later file ioas))

  pages-own : (area : Area) (later : List Area) → is_of file ioas area ≡ true → is_live area.phase ≡ true
      → pages (area ∷ later) ≡ pages_in area.span ++ pages later
  unfolding pages
  pages-own area later of live = rw (of, live) refl

  pages-other : (area : Area) (later : List Area) → is_of file ioas area ≡ false → pages (area ∷ later) ≡ pages later
  unfolding pages
  pages-other area later of = rw of refl

  -- another address space's area changes nothing
  pub pages_stay : (area : Area) (areas : List Area) → is_of file ioas area ≡ false
      → live_pages (areas_of (with_area area areas) file ioas) ≡ live_pages (areas_of areas file ioas)
  unfolding pages
  pages_stay area areas of =
      let (before, later, is, with) = split_area area areas in
      ap pages with ∙ pages-append before (area ∷ later) ∙ ap (λ rest. pages before ++ rest) (pages-other area later of)
      ∙ sym (pages-append before later) ∙ ap pages (sym is)

  -- with an own one the tables of its pages are needed too, and no others
  pub lacking_mapped : (has : TablePlace → Bool) (width : Width) (area : Area) (areas : List Area)
      → is_of file ioas area ≡ true → is_live area.phase ≡ true
      → list_all has (places_of width (live_pages (areas_of areas file ioas))) ≡ true
      → lacking has (places_of width (live_pages (areas_of (with_area area areas) file ioas))) ≡ lacking has
      (places_of width (pages_in area.span))
  unfolding pages
  lacking_mapped has width area areas of live all =
      let (before, later, is, with) = split_area area areas in
      let through = places_from (levels_of width - 1) in
      let first = flat_map through (pages before) in
      let own = flat_map through (pages_in area.span) in
      let last = flat_map through (pages later) in
      let parts = and_true (has (root_place width)) (list_all has (flat_map through (pages areas))) all in
      let old : flat_map through (pages areas) ≡ first ++ last = ap (λ list. flat_map through (pages list)) is
      ∙ ap (flat_map through) (pages-append before later) ∙ flat_map-append through (pages before) (pages later) in
      let olds = and_true (list_all has first) (list_all has last) (sym (list_all-append has first last)
      ∙ ap (list_all has) (sym old) ∙ parts.1) in
      let new : flat_map through (pages (with_area area areas)) ≡ first ++ (own ++ last) =
      ap (λ list. flat_map through (pages list)) with
      ∙ ap (flat_map through) (pages-append before (area ∷ later)
      ∙ ap (λ rest. pages before ++ rest) (pages-own area later of live))
      ∙ flat_map-append through (pages before) (pages_in area.span ++ pages later)
      ∙ ap (λ rest. first ++ rest) (flat_map-append through (pages_in area.span) (pages later))
      in
      ap (λ ps. lacking has (root_place width ∷ ps)) new
      ∙ rw parts.0 (lacking_after has first (own ++ last) olds.0 ∙ lacking_before has own last olds.1)

-- ---- the tables that a MAP or a COPY adds

and_none : (a : Bool) → (a && false) ≡ false
and_none true = refl
and_none false = refl

module _ (v : View) (areas : List Area) (tables : List TableFrame) (area : Area) (live : is_live area.phase ≡ true)
    (shows : (file : FileNo) (id : ObjId) (place : TablePlace)
    → has_table tables file id place ≡ v.has_table file id place) where
  abbrev over : Object → Bool
  over o = eqb o.file.0 area.file.0 && is_hwpt_over area.ioas o.kind

  abbrev lacked : Object → ℕ
  lacked o = tables_lacked v area.file o.id (pages_in area.span) o.kind

  missing_mapped : (o : Object) → has_needed areas tables o ≡ true
      → length (missing_of (with_area area areas) tables o) ≡ cond (over o) (lacked o) 0
  missing_mapped o has = by_kind o.kind refl has
    where
      by_space : (ioas : ObjId) (width : Width) (b : Bool) → (eqb o.file.0 area.file.0 && eqb ioas.0 area.ioas.0) ≡ b
          → list_all (has_table tables o.file o.id) (places_of width (live_pages (areas_of areas o.file ioas))) ≡ true
          → length (map (missing_at o.file o.id) (lacking (has_table tables o.file o.id)
          (places_of width (live_pages (areas_of (with_area area areas) o.file ioas)))))
          ≡ cond b (length (lacking (v.has_table area.file o.id) (places_of width (pages_in area.span)))) 0
      by_space ioas width true is all =
          let names = and_true (eqb o.file.0 area.file.0) (eqb ioas.0 area.ioas.0) is in
          let of : is_of o.file ioas area ≡ true =
          both_true (eqb area.file.0 o.file.0) (eqb area.ioas.0 ioas.0) (search (names.0, arith, nat_tests))
          (search (names.1, arith, nat_tests)) in
          length-map _ (missing_at o.file o.id)
          ∙ ap length (lacking_mapped o.file ioas (has_table tables o.file o.id) width area areas of live all)
          ∙ ap length (lacking_alike (has_table tables o.file o.id) (v.has_table area.file o.id)
          (places_of width (pages_in area.span)) (λ place. ap (λ f. has_table tables f o.id place)
          (file_is o.file area.file names.0) ∙ shows area.file o.id place))
      by_space ioas width false is all =
          let of : is_of o.file ioas area ≡ false =
          other (eqb o.file.0 area.file.0) (eqb ioas.0 area.ioas.0) (eqb area.file.0 o.file.0)
          (eqb area.ioas.0 ioas.0) is (flip o.file.0 area.file.0) (flip ioas.0 area.ioas.0) in
          ap (λ ps. length (map (missing_at o.file o.id) (lacking (has_table tables o.file o.id) (places_of width ps))))
          (pages_stay o.file ioas area areas of)
          ∙ ap (λ ps. length (map (missing_at o.file o.id) ps))
          (none_lacking (has_table tables o.file o.id)
          (places_of width (live_pages (areas_of areas o.file ioas))) all)
        where
          flip : (m n : ℕ) → eqb m n ≡ eqb n m
          flip m n = grind (arith, nat_tests)

          other : (a b c d : Bool) → (a && b) ≡ false → a ≡ c → b ≡ d → (c && d) ≡ false
          other a b c d is first second = rw (← first, ← second) is

      by_kind : (k : ObjectKind) → o.kind ≡ k → list_all (has_table tables o.file o.id)
          (needed_places areas o.file o.kind) ≡ true
          → length (missing_of (with_area area areas) tables o) ≡ cond (over o) (lacked o) 0
      by_kind kind.Ioas is all = rw is (ap (λ b. cond b 0 0) (sym (and_none (eqb o.file.0 area.file.0))))
      by_kind (kind.Device device) is all = rw is (ap (λ b. cond b 0 0) (sym (and_none (eqb o.file.0 area.file.0))))
      by_kind (kind.Access attached) is all = rw is (ap (λ b. cond b 0 0) (sym (and_none (eqb o.file.0 area.file.0))))
      by_kind (kind.Hwpt ioas width automatic) is all =
          rw is (by_space ioas width (eqb o.file.0 area.file.0 && eqb ioas.0 area.ioas.0) refl (rw is at all))

  pub count_mapped : (objects : List Object) → list_all (has_needed areas tables) objects ≡ true
      → length (missing_tables objects (with_area area areas) tables) ≡ sum_by lacked (filter over objects)
  count_mapped [] all = refl
  count_mapped (o ∷ objects) all =
      let parts = and_true (has_needed areas tables o) (list_all (has_needed areas tables) objects) all in
      length-append (missing_of (with_area area areas) tables o) (missing_tables objects (with_area area areas) tables)
      ∙ rw (missing_mapped o parts.0, count_mapped objects parts.1) (by_test (over o))
    where
      by_test : (b : Bool) → cond b (lacked o) 0 + sum_by lacked (filter over objects) ≡ sum_by lacked
          (cond b (o ∷ filter over objects) (filter over objects))
      by_test true = sym (sum_by-cons lacked o (filter over objects))
      by_test false = omega arith

-- ---- the tables of a new page table

-- flushes make no area live, and end none
pub pages_paid : (device : DeviceNo) (areas : List Area) (file : FileNo) (ioas : ObjId)
    → live_pages (areas_of (all_paid device areas) file ioas) ≡ live_pages (areas_of areas file ioas)
pages_paid device areas file ioas =
    ap live_pages (paid_areas_of device areas file ioas) ∙ each (areas_of areas file ioas)
  where
    each : (some : List Area) → live_pages (all_paid device some) ≡ live_pages some
    each [] = refl
    each (area ∷ some) = by_phase area.phase refl (each some)
      where
        by_phase : (phase : Phase) → area.phase ≡ phase → live_pages (all_paid device some) ≡ live_pages some
            → live_pages (all_paid device (area ∷ some)) ≡ live_pages (area ∷ some)
        by_phase Live is rest = rw is (ap (λ ps. pages_in area.span ++ ps) rest)
        by_phase (Leaving owed tries) is rest = rw is rest

pub missing_with_object : (object : Object) (objects : List Object) (areas : List Area) (tables : List TableFrame)
    → missing_tables objects areas tables ≡ []
    → missing_tables (with_object object objects) areas tables ≡ missing_of areas tables object
missing_with_object object [] areas tables none = append_nothing (missing_of areas tables object)
  where
    append_nothing : (xs : List MissingTable) → (xs ++ []) ≡ xs
    append_nothing [] = refl
    append_nothing (x ∷ xs) = ap (λ rest. x ∷ rest) (append_nothing xs)
missing_with_object object (o ∷ objects) areas tables none =
    let parts = append_empty (missing_of areas tables o) (missing_tables objects areas tables) none in
    by_order (comes_before object o) parts.0 (missing_with_object object objects areas tables parts.1)
  where
    append_nothing : (xs : List MissingTable) → (xs ++ []) ≡ xs
    append_nothing [] = refl
    append_nothing (x ∷ xs) = ap (λ rest. x ∷ rest) (append_nothing xs)

    by_order : (b : Bool) → missing_of areas tables o ≡ []
        → missing_tables (with_object object objects) areas tables ≡ missing_of areas tables object
        → missing_tables (cond b (object ∷ o ∷ objects) (o ∷ with_object object objects)) areas
        tables ≡ missing_of areas tables object
    by_order true first rest =
        ap (λ ms. missing_of areas tables object ++ ms) none ∙ append_nothing (missing_of areas tables object)
    by_order false first rest = rw first rest

pub no_kind : (objects : List Object) (file : FileNo) (id : ObjId) → is_fresh objects file id ≡ true
    → kind_of objects file id ≡ None
no_kind objects file id fresh = by_kind (kind_of objects file id)
    (not_true _ (and_true (is_between 1 0x7fff_ffff id.0) (not (is_some (kind_of objects file id))) fresh).1)
  where
    by_kind : (o : Option ObjectKind) → is_some o ≡ false → o ≡ None
    by_kind None is = refl
    by_kind (Some k) is = cc

-- an unused id has no tables
pub no_rows : (objects : List Object) (tables : List TableFrame) (file : FileNo) (id : ObjId) (place : TablePlace)
    → list_all (is_owned objects) tables ≡ true → kind_of objects file id ≡ None
    → has_table tables file id place ≡ false
no_rows objects tables file id place owned none =
    none_of (λ (table : TableFrame). is_table_of file id table && is_place (place_of table) place) tables
    (λ table within. by_name table (of_each (is_owned objects) tables table owned within)
    (is_table_of file id table) refl)
  where
    by_name : (table : TableFrame) → is_owned objects table ≡ true → (b : Bool) → is_table_of file id table ≡ b
        → (b && is_place (place_of table) place) ≡ false
    by_name table own false is = refl
    by_name table own true is =
        let names = and_true (eqb table.file.0 file.0) (eqb table.hwpt.0 id.0) is in
        let here = ap (λ f. kind_of objects f table.hwpt) (file_is table.file file names.0)
        ∙ ap (kind_of objects file) (id_is table.hwpt id names.1) ∙ none in
        absurd (clash _ (ap not (orphan_is objects table None here)) own)

pub count_new : (objects : List Object) (areas : List Area) (tables : List TableFrame) (file : FileNo) (id ioas : ObjId)
    (width : Width) (automatic : Bool) → list_all (is_owned objects) tables ≡ true → kind_of objects file id ≡ None
    → missing_tables objects areas tables ≡ []
    → length (missing_tables (with_object (record {
      file = file;
      id = id;
      kind = kind.Hwpt ioas width automatic;
    }) objects) areas tables)
    ≡ length (lacking (λ place. false) (places_of width (live_pages (areas_of areas file ioas))))
count_new objects areas tables file id ioas width automatic owned none missing =
    ap length (missing_with_object (record { file = file; id = id; kind = kind.Hwpt ioas width automatic })
    objects areas tables missing)
    ∙ length-map _ (missing_at file id)
    ∙ ap length (lacking_alike (has_table tables file id) (λ place. false)
    (places_of width (live_pages (areas_of areas file ioas)))
    (λ place. no_rows objects tables file id place owned none))
