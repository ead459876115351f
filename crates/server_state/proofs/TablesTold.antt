-- The words of the pool tell which tables the page tables of the world have, of all that are there.
use Rattle.std.proofs.Common.{◌≡◌, Bool, true, false, not, Option, Some, None, List, [], ◌∷◌, map, refl, ap, sym, ◌∙◌}
use Rattle.std.specs.List.{find, list_all}
use Rattle.std.specs.Option.{option_map}
use Rattle.iofd_rows.proofs.Bools.{and_true}
use Rattle.iofd_rows.proofs.Each.{found_kept}
use Rattle.iofd_rows.proofs.ListTests.{false_else}
use Rattle.iofd_rows.proofs.Named.{file_is, id_is, object_of_kind}
use Rattle.iofd_words.specs.Objects.{is_hwpt, is_object, kind_of}
use Rattle.iofd_words.specs.TablePlaces.{TablePlace, has_table, is_table_of}
use Rattle.iofd_words.specs.Tables.{is_orphan}
use Rattle.iofd_words.specs.World.{World}
use Rattle.iofd_words.specs.declared.numbers.FileNo.{FileNo}
use Rattle.iofd_words.specs.declared.numbers.ObjId.{ObjId}
use Rattle.iofd_words.specs.declared.rows.Object.{Object}
use Rattle.iofd_words.specs.declared.rows.ObjectKind.{ObjectKind}
use Rattle.iofd_words.specs.declared.rows.TableFrame.{TableFrame}
use Rattle.frame_memory.specs.Pool.{FramePool}
use Rattle.page_table_set.proofs.Kept.{kept_is}
use Rattle.page_table_set.specs.Kept.{has_kept, keeps}
use Rattle.page_table_set.specs.PageTables.{Hwpt, PageTables, hwpt_of}
use Rattle.server_state.proofs.PageTables.{found_among}
use Rattle.server_state.specs.Leads.{leads_of}
use Rattle.server_state.specs.Shows.{TablesShown}
use Rattle.server_state.specs.Tables.{page_tables_among}

module _ (objects : List Object) (tables : List Hwpt)
    (are : map (λ (h : Hwpt). h.object) tables ≡ page_tables_among objects) (file : FileNo) (id : ObjId)
    (none : hwpt_of tables file id ≡ None) where
  -- where no page table is kept there is none
  no_hwpt : (k : ObjectKind) → kind_of objects file id ≡ Some k → is_hwpt k ≡ true → ⊥
  no_hwpt k is hwpt =
      let (object, found, within, of_file, of_id, of_kind) = object_of_kind objects file id k is in
      let kept : find (is_object file id) (page_tables_among objects) ≡ Some object =
      found_kept (is_object file id) (λ (o : Object). is_hwpt o.kind) objects object found (ap is_hwpt of_kind
      ∙ hwpt) in
      let gone : find (is_object file id) (page_tables_among objects) ≡ None = ap (find (is_object file id)) (sym are)
      ∙ found_among (is_object file id) tables ∙ ap (option_map (λ (h : Hwpt). h.object)) none in
      cc

  -- nor is any row of it
  no_rows : (frames : List TableFrame) (place : TablePlace)
      → list_all (λ table. not (is_orphan objects table)) frames ≡ true → has_table frames file id place ≡ false
  no_rows [] place owned = refl
  no_rows (t ∷ frames) place owned =
      let parts =
      and_true (not (is_orphan objects t)) (list_all (λ table. not (is_orphan objects table)) frames) owned in
      rw (other parts.0) (no_rows frames place parts.1)
    where
      by_kind : (o : Option ObjectKind) → kind_of objects file id ≡ o
          → not (elim o [ Some kind ↦ not (is_hwpt kind) | None ↦ true ]) ≡ true → ⊥
      by_kind None is owned = cc
      by_kind (Some k) is owned = no_hwpt k is (twice (is_hwpt k) owned)
        where
          twice : (b : Bool) → not (not b) ≡ true → b ≡ true
          twice true is = refl
          twice false is = cc

      other : not (is_orphan objects t) ≡ true → is_table_of file id t ≡ false
      other owned = false_else (is_table_of file id t) (λ here.
          let names = and_true _ _ here in
          by_kind (kind_of objects file id) refl
          (ap (λ (o : Option ObjectKind). not (elim o [ Some kind ↦ not (is_hwpt kind) | None ↦ true ]))
          (ap (λ f. kind_of objects f id) (sym (file_is t.file file names.0))
          ∙ ap (kind_of objects t.file) (sym (id_is t.hwpt id names.1))) ∙ owned))

pub tables_told : (w : World) (kept : PageTables) (pool : FramePool) → TablesShown w kept pool
    → list_all (λ table. not (is_orphan w.objects table)) w.table_frames ≡ true
    → (file : FileNo) (id : ObjId) (place : TablePlace)
    → has_kept pool kept.tables file id place ≡ has_table w.table_frames file id place
tables_told w kept pool shown owned file id place = by_found (hwpt_of kept.tables file id) refl
  where
    told : Option Hwpt → Bool
    told None = false
    told (Some h) = keeps pool h.table place

    by_found : (o : Option Hwpt) → hwpt_of kept.tables file id ≡ o
        → has_kept pool kept.tables file id place ≡ has_table w.table_frames file id place
    by_found (Some h) is = kept_is pool w.table_frames (leads_of w) kept.tables file id place h shown.stand is
    by_found None is =
        ap told is ∙ sym (no_rows w.objects kept.tables shown.tables file id is w.table_frames place owned)
