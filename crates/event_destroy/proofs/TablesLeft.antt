-- The page tables that are kept, where some objects go.
use Rattle.std.proofs.Common.{◌≡◌, Bool, true, false, cond, not, eqb, List, [], ◌∷◌, map, refl, ap, sym, ◌∙◌, arith}
use Rattle.std.specs.List.{filter, list_all}
use Rattle.std.proofs.lemmas.Bool.Decides.{nat_tests}
use Rattle.page_table_set.proofs.OwnIds.{first_alone, own_parts}
use Rattle.page_table_set.specs.PageTables.{Hwpt}
use Rattle.page_table_set.specs.Removed.{without_file, without_hwpt}
use Rattle.iofd_rows.proofs.Each.{of_all}
use Rattle.iofd_rows.proofs.Found.{all_filter}
use Rattle.iofd_rows.proofs.ListTests.{filter_all}
use Rattle.iofd_rows.specs.Ids.{have_own_ids}
use Rattle.iofd_words.specs.Objects.{is_object, without_object}
use Rattle.iofd_words.specs.declared.numbers.FileNo.{FileNo}
use Rattle.iofd_words.specs.declared.numbers.ObjId.{ObjId}
use Rattle.iofd_words.specs.declared.rows.Object.{Object}
use Rattle.server_state.proofs.TablesAmong.{among_left}
use Rattle.server_state.specs.Tables.{has_own_width, page_tables_among}

-- ---- those that are kept

objects_left : (q : Object → Bool) (tables : List Hwpt)
    → map (λ (h : Hwpt). h.object) (filter (λ (h : Hwpt). q h.object) tables) ≡ filter q
    (map (λ (h : Hwpt). h.object) tables)
objects_left q [] = refl
objects_left q (h ∷ tables) = by_test (q h.object) (objects_left q tables)
  where
    by_test : (b : Bool) → map (λ (h : Hwpt). h.object) (filter (λ (h : Hwpt). q h.object) tables) ≡ filter q
        (map (λ (h : Hwpt). h.object) tables)
        → map (λ (h : Hwpt). h.object) (cond b (h ∷ filter (λ (h : Hwpt). q h.object) tables)
        (filter (λ (h : Hwpt). q h.object) tables))
        ≡ cond b (h.object ∷ filter q (map (λ (h : Hwpt). h.object) tables))
        (filter q (map (λ (h : Hwpt). h.object) tables))
    by_test true rest = ap (λ (l : List Object). h.object ∷ l) rest
    by_test false rest = rest

-- the first of an id is the only one
without_is : (file : FileNo) (id : ObjId) (tables : List Hwpt)
    → have_own_ids (map (λ (h : Hwpt). h.object) tables) ≡ true
    → without_hwpt file id tables ≡ filter (λ (h : Hwpt). not (is_object file id h.object)) tables
without_is file id [] own = refl
without_is file id (t ∷ tables) own =
    by_test (is_object file id t.object) refl (without_is file id tables (own_parts t tables own).1)
  where
    apart : (a b : Object) → is_object file id a ≡ true → is_object a.file a.id b ≡ false
        → not (is_object file id b) ≡ true
    apart a b here other = grind (arith, nat_tests)

    by_test : (b : Bool) → is_object file id t.object ≡ b
        → without_hwpt file id tables ≡ filter (λ (h : Hwpt). not (is_object file id h.object)) tables
        → cond b tables (t ∷ without_hwpt file id tables)
        ≡ cond (not b) (t ∷ filter (λ (h : Hwpt). not (is_object file id h.object)) tables)
        (filter (λ (h : Hwpt). not (is_object file id h.object)) tables)
    by_test true is rest =
        sym (filter_all (λ (h : Hwpt). not (is_object file id h.object)) tables
        (of_all (λ (h : Hwpt). not (is_object file id h.object)) tables
        (λ h within. apart t.object h.object is (first_alone t tables own h within))))
    by_test false is rest = ap (λ (l : List Hwpt). t ∷ l) rest

module _ (objects : List Object) (tables : List Hwpt)
    (are : map (λ (h : Hwpt). h.object) tables ≡ page_tables_among objects)
    (widths : list_all has_own_width tables ≡ true) where
  -- one page table goes
  module _ (file : FileNo) (id : ObjId) (own : have_own_ids (map (λ (h : Hwpt). h.object) tables) ≡ true) where
    pub one_left : map (λ (h : Hwpt). h.object) (without_hwpt file id tables) ≡ page_tables_among
        (without_object file id objects)
    one_left =
        ap (map (λ (h : Hwpt). h.object)) (without_is file id tables own)
        ∙ objects_left (λ (o : Object). not (is_object file id o)) tables
        ∙ ap (filter (λ (o : Object). not (is_object file id o))) are
        ∙ sym (among_left (λ (o : Object). not (is_object file id o)) objects)

    pub one_widths : list_all has_own_width (without_hwpt file id tables) ≡ true
    one_widths = ap (list_all has_own_width) (without_is file id tables own)
        ∙ all_filter has_own_width (λ (h : Hwpt). not (is_object file id h.object)) tables widths

  -- all of a file go
  pub file_left : (file : FileNo) → map (λ (h : Hwpt). h.object) (without_file file tables) ≡ page_tables_among
      (filter (λ (o : Object). not (eqb o.file.0 file.0)) objects)
  file_left file =
      objects_left (λ (o : Object). not (eqb o.file.0 file.0)) tables
      ∙ ap (filter (λ (o : Object). not (eqb o.file.0 file.0))) are
      ∙ sym (among_left (λ (o : Object). not (eqb o.file.0 file.0)) objects)

  pub file_widths : (file : FileNo) → list_all has_own_width (without_file file tables) ≡ true
  file_widths file = all_filter has_own_width (λ (h : Hwpt). not (eqb h.object.file.0 file.0)) tables widths
