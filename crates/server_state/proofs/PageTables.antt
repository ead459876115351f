-- The page tables that are kept are those among the objects: so what is asked of page tables is asked of them alone.
use Rattle.std.proofs.Common.{◌≡◌, Bool, true, false, cond, ◌&&◌, eqb, Some, List, [], ◌∷◌, map, refl, ap, sym, ◌∙◌}
use Rattle.std.proofs.Common.{None, ⊎_elim}
use Rattle.std.specs.List.{filter, find, list_any}
use Rattle.std.proofs.lemmas.Bool.{cases_Bool}
use Rattle.std.specs.Option.{option_map}
use Rattle.iofd_rows.proofs.Bools.{and_true, both_true}
use Rattle.iofd_rows.proofs.ListTests.{alike, any-filter, any_weaker}
use Rattle.iofd_words.specs.Objects.{automatic_hwpt, has_hwpt, is_automatic_over, is_hwpt, is_hwpt_over, is_object}
use Rattle.iofd_words.specs.World.{World}
use Rattle.iofd_words.specs.declared.numbers.FileNo.{FileNo}
use Rattle.iofd_words.specs.declared.numbers.ObjId.{ObjId}
use Rattle.iofd_words.specs.declared.rows.Object.{Object}
use Rattle.iofd_words.specs.declared.rows.ObjectKind.{ObjectKind}
use Rattle.iofd_words.specs.declared.rows.ObjectKind.TheVariants as kind
use Rattle.iofd_words.specs.declared.width.Width.{Width}
use Rattle.page_table_set.specs.PageTables.{Hwpt, hwpt_of, objects_of}
use Rattle.server_state.specs.Held.{objects_in}
use Rattle.server_state.specs.Shows.{Shows}
use Rattle.server_state.specs.Step.{IsKnown}
use Rattle.server_state.specs.Tables.{has_page_table, has_page_tables, page_tables_among}
use Rattle.server_state.specs.declared.state.State.{State}

pub over_is_table : (ioas : ObjId) (k : ObjectKind) → is_hwpt_over ioas k ≡ true → is_hwpt k ≡ true
over_is_table ioas kind.Ioas is = cc
over_is_table ioas (kind.Hwpt own width automatic) is = refl
over_is_table ioas (kind.Device device) is = cc
over_is_table ioas (kind.Access attached) is = cc

pub over_no_other : (ioas : ObjId) (k : ObjectKind) → is_hwpt k ≡ false → is_hwpt_over ioas k ≡ false
over_no_other ioas kind.Ioas is = refl
over_no_other ioas (kind.Hwpt own width automatic) is = cc
over_no_other ioas (kind.Device device) is = refl
over_no_other ioas (kind.Access attached) is = refl

automatic_no_other : (ioas : ObjId) (width : Width) (k : ObjectKind) → is_hwpt k ≡ false
    → is_automatic_over ioas width k ≡ false
automatic_no_other ioas width kind.Ioas is = refl
automatic_no_other ioas width (kind.Hwpt own of automatic) is = cc
automatic_no_other ioas width (kind.Device device) is = refl
automatic_no_other ioas width (kind.Access attached) is = refl

any_swapped : (test : Object → Bool) (objects : List Object)
    → list_any (λ (o : Object). is_hwpt o.kind && test o) objects
    ≡ list_any (λ (o : Object). test o && is_hwpt o.kind) objects
any_swapped test [] = refl
any_swapped test (o ∷ objects) =
    let rest = any_swapped test objects in
    let swapped : (is_hwpt o.kind && test o) ≡ (test o && is_hwpt o.kind) = swap (is_hwpt o.kind) (test o) in
    rw (swapped, rest) refl
  where
    swap : (a b : Bool) → (a && b) ≡ (b && a)
    swap true true = refl
    swap true false = refl
    swap false true = refl
    swap false false = refl

-- ---- what is asked

module _ (tables objects : List Object) (are : tables ≡ page_tables_among objects) where
  -- a test that only page tables pass
  pub any_kept : (test : Object → Bool) → ((object : Object) → test object ≡ true → is_hwpt object.kind ≡ true)
      → list_any test objects ≡ list_any test tables
  any_kept test only =
      alike (list_any test objects) (list_any test tables)
      (λ some. among ∙ any_weaker test (λ (o : Object). is_hwpt o.kind && test o) objects
      (λ o passes. both_true _ _ (only o passes) passes) some)
      (λ some. any_weaker (λ (o : Object). is_hwpt o.kind && test o) test objects
      (λ o both. (and_true (is_hwpt o.kind) (test o) both).1) (sym among ∙ some))
    where
      among : list_any test tables ≡ list_any (λ (o : Object). is_hwpt o.kind && test o) objects
      among = ap (list_any test) are ∙ any-filter test (λ (o : Object). is_hwpt o.kind) objects

  pub has_hwpt_kept : (file : FileNo) (ioas : ObjId) → has_hwpt tables file ioas ≡ has_hwpt objects file ioas
  has_hwpt_kept file ioas =
      sym (any_kept (λ (o : Object). eqb o.file.0 file.0 && is_hwpt_over ioas o.kind)
      (λ o passes. over_is_table ioas o.kind (and_true (eqb o.file.0 file.0) (is_hwpt_over ioas o.kind) passes).1))

  pub automatic_kept : (file : FileNo) (ioas : ObjId) (width : Width)
      → automatic_hwpt tables file ioas width ≡ automatic_hwpt objects file ioas width
  automatic_kept file ioas width =
      ap (find test) are ∙ find_filter objects
    where
      test : Object → Bool
      test o = eqb o.file.0 file.0 && is_automatic_over ioas width o.kind

      find_filter : (all : List Object) → find test (page_tables_among all) ≡ find test all
      find_filter [] = refl
      find_filter (o ∷ all) =
          ⊎_elim
          (λ (is : is_hwpt o.kind ≡ true). rw is (by_test (test o) (find_filter all)))
          (λ (other : is_hwpt o.kind ≡ false).
          let fails : test o ≡ false =
          rw (automatic_no_other ioas width o.kind other) (and_false (eqb o.file.0 file.0)) in
          rw (other, fails) (find_filter all))
          (cases_Bool (is_hwpt o.kind))
        where
          by_test : (b : Bool) → find test (page_tables_among all) ≡ find test all
              → cond b (Some o) (find test (page_tables_among all)) ≡ cond b (Some o) (find test all)
          by_test true rest = refl
          by_test false rest = rest

          and_false : (b : Bool) → (b && false) ≡ false
          and_false true = refl
          and_false false = refl

  -- a file has the page tables that are kept
  pub page_table_kept : (file : FileNo) (id : ObjId)
      → list_any (is_object file id) tables ≡ has_page_table objects file id
  page_table_kept file id =
      ap (list_any (is_object file id)) are ∙ any-filter (is_object file id) (λ (o : Object). is_hwpt o.kind) objects
      ∙ any_swapped (is_object file id) objects

  pub page_tables_kept : (file : FileNo)
      → list_any (λ (o : Object). eqb o.file.0 file.0) tables ≡ has_page_tables objects file
  page_tables_kept file =
      ap (list_any (λ (o : Object). eqb o.file.0 file.0)) are
      ∙ any-filter (λ (o : Object). eqb o.file.0 file.0) (λ (o : Object). is_hwpt o.kind) objects
      ∙ any_swapped (λ (o : Object). eqb o.file.0 file.0) objects

-- ---- of page tables with their roots

pub found_among : (test : Object → Bool) (tables : List Hwpt)
    → find test (map (λ (h : Hwpt). h.object) tables) ≡ option_map (λ (h : Hwpt). h.object)
    (find (λ (h : Hwpt). test h.object) tables)
found_among test [] = refl
found_among test (h ∷ tables) = by_test (test h.object) (found_among test tables)
  where
    by_test : (b : Bool) → find test (map (λ (h : Hwpt). h.object) tables) ≡ option_map (λ (h : Hwpt). h.object)
        (find (λ (h : Hwpt). test h.object) tables)
        → cond b (Some h.object) (find test (map (λ (h : Hwpt). h.object) tables)) ≡ option_map (λ (h : Hwpt). h.object)
        (cond b (Some h) (find (λ (h : Hwpt). test h.object) tables))
    by_test true rest = refl
    by_test false rest = rest

-- ---- of what is kept

pub tables_shown : {A : Type 0} (w : World) (s : State A) → Shows w s
    → objects_of s.page_tables ≡ page_tables_among (objects_in s.objects)
tables_shown w s shows = shows.tables.tables ∙ ap page_tables_among shows.objects.rows

pub tables_known : {A : Type 0} (s : State A) → IsKnown s
    → objects_of s.page_tables ≡ page_tables_among (objects_in s.objects)
tables_known s known = tables_shown known.world s known.shows

-- what no page table among the objects is, none that is kept is
none_found : (test : Object → Bool) (tables : List Hwpt)
    → list_any test (map (λ (h : Hwpt). h.object) tables) ≡ false
    → find (λ (h : Hwpt). test h.object) tables ≡ None
none_found test [] none = refl
none_found test (h ∷ tables) none =
    ⊎_elim (λ (yes : test h.object ≡ true). let bad = rw yes at none in cc)
    (λ (no : test h.object ≡ false). rw no (none_found test tables (rw no at none))) (cases_Bool (test h.object))

none_left : (test : Object → Bool) (tables : List Hwpt)
    → list_any test (map (λ (h : Hwpt). h.object) tables) ≡ false
    → filter (λ (h : Hwpt). test h.object) tables ≡ []
none_left test [] none = refl
none_left test (h ∷ tables) none =
    ⊎_elim (λ (yes : test h.object ≡ true). let bad = rw yes at none in cc)
    (λ (no : test h.object ≡ false). rw no (none_left test tables (rw no at none))) (cases_Bool (test h.object))

pub none_kept : {A : Type 0} (s : State A) → IsKnown s → (file : FileNo) (id : ObjId)
    → has_page_table (objects_in s.objects) file id ≡ false → hwpt_of s.page_tables.tables file id ≡ None
none_kept s known file id none =
    none_found (is_object file id) s.page_tables.tables
    (page_table_kept (objects_of s.page_tables) (objects_in s.objects) (tables_known s known) file id ∙ none)

pub none_of_file_kept : {A : Type 0} (s : State A) → IsKnown s → (file : FileNo)
    → has_page_tables (objects_in s.objects) file ≡ false
    → filter (λ (h : Hwpt). eqb h.object.file.0 file.0) s.page_tables.tables ≡ []
none_of_file_kept s known file none =
    none_left (λ (o : Object). eqb o.file.0 file.0) s.page_tables.tables
    (page_tables_kept (objects_of s.page_tables) (objects_in s.objects) (tables_known s known) file ∙ none)
