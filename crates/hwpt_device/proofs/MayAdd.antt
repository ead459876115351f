-- Once its pages are pinned a page table may be added: for its tables there are free frames, and each live area can be
-- mapped.
use Rattle.std.proofs.Common.{◌≡◌, ℕ, ◌*◌, ◌<◌, ◌≤◌, Bool, true, false, cond, ◌&&◌, ◌||◌, not, eqb, ltb, Some, None}
use Rattle.std.proofs.Common.{List, [], ◌∷◌, length, map, refl, sym, ◌∙◌, ap, subst, arith}
use Rattle.std.specs.List.{filter, find, list_all, list_any}
use Rattle.std.proofs.lemmas.Bool.{eq-eqb, eqb-true, ltb-false, ltb-true}
use Rattle.std.proofs.lemmas.List.{length-map}
use Rattle.frame_memory.specs.Pool.{FramePool, free_count}
use Rattle.page_table_set.proofs.Missing.{missing_at}
use Rattle.page_table_set.specs.PageTables.{rows_of, row_of}
use Rattle.iofd_rows.proofs.Bools.{and_true, both_true, clash}
use Rattle.iofd_rows.proofs.Each.{IsIn, in_filter, of_any, of_each}
use Rattle.iofd_rows.proofs.Named.{file_is, id_is}
use Rattle.iofd_rows.proofs.PageTables.{hwpt-with_object}
use Rattle.iofd_rows.proofs.Unusable.{each_not}
use Rattle.iofd_rows.specs.Pinned.{has_object, have_own_numbers}
use Rattle.iofd_runs.proofs.MissingTables.{is_owned}
use Rattle.iofd_runs.proofs.StillTabled.{orphan_is}
use Rattle.iofd_runs.proofs.TableCounts.{lacking_alike, no_kind, no_rows}
use Rattle.iofd_runs.specs.Fits.{begins_at_page, has_rights, is_of_pages}
use Rattle.iofd_steps.specs.After.{settle}
use Rattle.iofd_words.specs.Areas.{areas_of, is_of}
use Rattle.iofd_words.specs.Objects.{has_hwpt, is_fresh, is_object, kind_of, with_object}
use Rattle.iofd_words.specs.Span.{meets, size_of}
use Rattle.iofd_words.specs.TablePlaces.{has_table, is_table_of, lacking, live_pages, places_of}
use Rattle.iofd_words.specs.Usable.{beyond}
use Rattle.iofd_words.specs.View.{view}
use Rattle.iofd_words.specs.World.{World}
use Rattle.iofd_words.specs.declared.numbers.FileNo.{FileNo}
use Rattle.iofd_words.specs.declared.numbers.ObjId.{ObjId}
use Rattle.iofd_words.specs.declared.rows.Area.{Area}
use Rattle.iofd_words.specs.declared.rows.MemoryObject.{MemoryObject}
use Rattle.iofd_words.specs.declared.rows.Object.{Object}
use Rattle.iofd_words.specs.declared.rows.TableFrame.{TableFrame}
use Rattle.iofd_words.specs.declared.width.Width.{Width}
use Rattle.user_memory_rows.proofs.CountBy.{any_count}
use Rattle.user_memory_rows.specs.Moves.{ArePinnedMore}
use Rattle.user_memory_rows.specs.Shown.{translated}
use Rattle.server_state.proofs.AreasBecome.{own_at}
use Rattle.server_state.proofs.Orderly.{orderly}
use Rattle.server_state.proofs.ViewShown.{same_count}
use Rattle.server_state.specs.Held.{objects_in}
use Rattle.server_state.specs.Mapping.{own_areas}
use Rattle.server_state.specs.Shows.{Shows}
use Rattle.server_state.specs.Step.{IsTidy}
use Rattle.server_state.specs.declared.state.State.{State}
use Rattle.user_memory.specs.Memory.{Memory, table_pins}
use Rattle.server_state.proofs.FreeAlike.{count_alike}
use Rattle.hwpt_device.proofs.PinnedFirst.{free_pinned, leads_yet, not_there, pins_pinned, stand_yet}
use Rattle.hwpt_device.proofs.RootAdded.{itself}
use Rattle.hwpt_device.specs.Filling.{AreMappable, CanAdd, tables_for}
use Rattle.hwpt_device.specs.Making.{IsRoomy, made_object}
use Rattle.hwpt_device.specs.Pinning.{newly_translated}

-- ---- an unused id has no rows

pub no_row : (objects : List Object) (frames : List TableFrame) (object : Object)
    → list_all (is_owned objects) frames ≡ true → kind_of objects object.file object.id ≡ None
    → rows_of frames object ≡ []
no_row objects [] object owned none = refl
no_row objects (t ∷ frames) object owned none =
    let parts = and_true (is_owned objects t) (list_all (is_owned objects) frames) owned in
    by_name (is_table_of object.file object.id t) refl parts.0 (no_row objects frames object parts.1 none)
  where
    by_name : (b : Bool) → is_table_of object.file object.id t ≡ b → is_owned objects t ≡ true
        → rows_of frames object ≡ []
        → map row_of (cond b (t ∷ filter (is_table_of object.file object.id) frames)
        (filter (is_table_of object.file object.id) frames)) ≡ []
    by_name false is own rest = rest
    by_name true is own rest =
        let names = and_true (eqb t.file.0 object.file.0) (eqb t.hwpt.0 object.id.0) is in
        let here = ap (λ f. kind_of objects f t.hwpt) (file_is t.file object.file names.0)
        ∙ ap (kind_of objects object.file) (id_is t.hwpt object.id names.1) ∙ none in
        absurd (clash _ (ap not (orphan_is objects t None here)) own)

-- so it lacks each table
pub lacks_all : (objects : List Object) (frames : List TableFrame) (object : Object) (width : Width) (pages : List ℕ)
    → list_all (is_owned objects) frames ≡ true → kind_of objects object.file object.id ≡ None
    → length (tables_for frames object width pages) ≡ length (lacking (λ place. false) (places_of width pages))
lacks_all objects frames object width pages owned none =
    length-map (lacking (has_table frames object.file object.id) (places_of width pages)) (missing_at object)
    ∙ ap length (lacking_alike (has_table frames object.file object.id) (λ place. false) (places_of width pages)
    (λ place. no_rows objects frames object.file object.id place owned none))

-- ---- memory objects

-- the one of an area has its size
pub record IsSized (memory : List MemoryObject) (area : Area) : Type 0 where
  pub object : MemoryObject
  pub found : find (λ (row : MemoryObject). eqb row.number area.memory) memory ≡ Some object
  pub size : object.count * 4096 ≡ size_of area.span

pub object_sized : (memory : List MemoryObject) (area : Area) → have_own_numbers memory ≡ true
    → has_object memory area ≡ true → IsSized memory area
object_sized [] area own has = cc
object_sized (m ∷ memory) area own has =
    let parts = and_true (not (list_any (λ other. eqb other.number m.number) memory)) (have_own_numbers memory) own in
    by_tests (eqb m.number area.memory) (eqb (m.count * 4096) (size_of area.span)) refl refl parts.0 has
    (object_sized memory area parts.1)
  where
    -- no later one has the number
    none_later : eqb m.number area.memory ≡ true
        → not (list_any (λ (other : MemoryObject). eqb other.number m.number) memory) ≡ true
        → has_object memory area ≡ true → ⊥
    none_later same own some = absurd (search_in memory own some)
      where
        search_in : (rows : List MemoryObject) → not
            (list_any (λ (other : MemoryObject). eqb other.number m.number) rows) ≡ true → has_object rows area ≡ true
            → ⊥
        search_in [] own some = cc
        search_in (r ∷ rows) own some = by_row (eqb r.number area.memory) refl own some (search_in rows)
          where
            by_row : (b : Bool) → eqb r.number area.memory ≡ b
                → not (list_any (λ (other : MemoryObject). eqb other.number m.number) (r ∷ rows)) ≡ true
                → ((b && eqb (r.count * 4096) (size_of area.span)) || has_object rows area) ≡ true
                → (not (list_any (λ (other : MemoryObject). eqb other.number m.number) rows) ≡ true
                → has_object rows area ≡ true → ⊥) → ⊥
            by_row true is own some later =
                let both = eq-eqb r.number m.number (eqb-true _ _ is ∙ sym (eqb-true _ _ same)) in
                let gone = rw both at own in cc
            by_row false is own some later = later (apart (eqb r.number m.number)
                (list_any (λ (other : MemoryObject). eqb other.number m.number) rows) own) some
              where
                apart : (a b : Bool) → not (a || b) ≡ true → not b ≡ true
                apart true b none = cc
                apart false b none = none

    by_tests : (b c : Bool) → eqb m.number area.memory ≡ b → eqb (m.count * 4096) (size_of area.span) ≡ c
        → not (list_any (λ (other : MemoryObject). eqb other.number m.number) memory) ≡ true
        → ((b && c) || has_object memory area) ≡ true → (has_object memory area ≡ true → IsSized memory area)
        → IsSized (m ∷ memory) area
    by_tests true true is sized own has later =
        record { object = m; found = rw is refl; size = eqb-true _ _ sized }
    by_tests true false is other own has later = absurd (none_later is own has)
    by_tests false c is sized own has later =
        let rest = later has in record { object = rest.object; found = rw is rest.found; size = rest.size }

-- ---- what was pinned

-- told by the areas of the world
pub pinned_more : {A : Type 0} (at : ℕ) (w : World) (s : State A) → IsTidy at w → Shows w s
    → (file : FileNo) (ioas : ObjId) (after : Memory) (pool : FramePool)
    → ArePinnedMore (newly_translated (objects_in s.objects) file ioas (own_areas s.objects file ioas))
    s.memory after s.pool pool
    → ArePinnedMore (newly_translated w.objects file ioas (areas_of w.areas file ioas)) s.memory after s.pool pool
pinned_more at w s tidy shows file ioas after pool more =
    let space : own_areas s.objects file ioas ≡ areas_of w.areas file ioas =
    own_at s.objects file ioas (orderly at w s tidy shows) ∙ sym (shows.objects.spaces file ioas) in
    let newly : newly_translated (objects_in s.objects) file ioas (own_areas s.objects file ioas) ≡ newly_translated
    w.objects file ioas (areas_of w.areas file ioas) =
    ap (newly_translated (objects_in s.objects) file ioas) space
    ∙ ap (λ (objects : List Object). newly_translated objects file ioas (areas_of w.areas file ioas))
    (sym shows.objects.rows) in
    subst (λ (areas : List Area). ArePinnedMore areas s.memory after s.pool pool) newly more

-- ---- it may come

-- numbers that are told alike are in the same order
in_order : (a b c d : ℕ) → a ≡ b → c ≡ d → b ≤ d → a ≤ c
in_order a b c d same other le = omega arith

module _ {A : Type 0} (at : ℕ) (w : World) (s : State A) (tidy : IsTidy at w) (shows : Shows w s) (file : FileNo)
    (ioas id : ObjId) (width : Width) (automatic : Bool) (roomy : IsRoomy (view w) file ioas width)
    (fresh : is_fresh w.objects file id ≡ true)
    (after : Memory) (pool : FramePool) (more : ArePinnedMore
    (newly_translated w.objects file ioas (areas_of w.areas file ioas)) s.memory after s.pool pool) where
  abbrev object : Object
  object = made_object file ioas id width automatic

  abbrev areas : List Area
  areas = areas_of w.areas file ioas

  -- the pages of its areas are pinned
  pins_there : (a : Area) → IsIn areas a → 0 < table_pins after a.memory
  unfolding settle
  pins_there a within =
      let of = in_filter (is_of file ioas) w.areas a within in
      let names = and_true (eqb a.file.0 file.0) (eqb a.ioas.0 ioas.0) of.1 in
      let own = eq-eqb a.memory a.memory refl in
      let itself_file = eq-eqb file.0 file.0 refl in
      let itself_ioas = eq-eqb ioas.0 ioas.0 refl in
      let here : has_hwpt (with_object object w.objects) file ioas ≡ true =
      hwpt-with_object object w.objects file ioas ∙ rw (itself_file, itself_ioas) refl in
      let has : has_hwpt (with_object object w.objects) a.file a.ioas ≡ true =
      rw (file_is a.file file names.0, id_is a.ioas ioas names.1) here in
      let some = of_any (λ (x : Area). eqb x.memory a.memory && has_hwpt (with_object object w.objects) x.file x.ioas)
      w.areas a of.0 (both_true _ _ own has) in
      let counted : ltb 0 (translated (with_object object w.objects) w.areas a.memory) ≡ true =
      sym (any_count (λ (x : Area). eqb x.memory a.memory
      && has_hwpt (with_object object w.objects) x.file x.ioas) w.areas) ∙ some in
      let shown = pins_pinned at w s tidy shows file ioas id width automatic roomy after pool more fresh in
      let pins = shown.tables a.memory in
      subst (λ (n : ℕ). 0 < n) (sym pins) (ltb-true _ _ counted)

  pub all_mappable : AreMappable after width areas
  all_mappable a within live =
      let of = in_filter (is_of file ioas) w.areas a within in
      let sized =
      object_sized w.memory a tidy.pins.numbers (of_each (has_object w.memory) w.areas a tidy.pins.sizes of.0) in
      let rows = shows.pins.rows ∙ sym more.pins.rows in
      let rights = and_true (ltb 0 a.rights.0) (ltb a.rights.0 4) (of_each has_rights w.areas a tidy.fit.rights of.0) in
      record {
        pages = of_each is_of_pages w.areas a tidy.fit.pages of.0;
        starts = of_each begins_at_page w.areas a tidy.fit.starts of.0;
        wide = each_not (λ (x : Area). meets (beyond width) x.span) areas a roomy.wide within;
        pinned = record {
          pins = pins_there a within;
          object = sized.object;
          found = ap (find (λ (row : MemoryObject). eqb row.number a.memory)) (sym rows) ∙ sized.found;
          size = sized.size;
        };
        some_right = ltb-true _ _ rights.0;
        no_other = ltb-true _ _ rights.1;
      }

  pub free_there : length (tables_for w.table_frames object width (live_pages areas)) ≤ free_count pool.holds
  free_there =
      let all = lacks_all w.objects w.table_frames object width (live_pages areas) tidy.tabled.owned
      (no_kind w.objects file id fresh) in
      let free = count_alike pool.holds s.pool.holds
      (free_pinned at w s tidy shows file ioas id width automatic roomy after pool more) in
      let same = same_count w s shows in
      let few : length (lacking (λ place. false) (places_of width (live_pages areas))) ≤ free_count s.pool.holds =
      rw same (ltb-false _ _ roomy.frames) in
      in_order _ _ _ _ all free few

  -- the new one leads nowhere yet
  pub leads_none : (page : ℕ) → leads_yet at w s tidy shows file ioas id width automatic roomy after
      pool more object page ≡ None
  leads_none page = let own : is_object file id object ≡ true =
      itself (record { object = object; table = record { width = width; root = record { 0 = 0 } } }) in rw own refl

  pub can_add : (room : ℕ) → length (lacking (λ place. false) (places_of width (live_pages areas))) ≤ room
      → CanAdd pool s.page_tables.tables after object width areas room
  can_add room enough = record {
    frames = w.table_frames;
    leads = leads_yet at w s tidy shows file ioas id width automatic roomy after pool more;
    stand = stand_yet at w s tidy shows file ioas id width automatic roomy after pool more fresh;
    none = no_row w.objects w.table_frames object tidy.tabled.owned (no_kind w.objects file id fresh);
    nowhere = leads_none;
    other = not_there at w s tidy shows file ioas id width automatic roomy fresh;
    free = free_there;
    enough = let all = lacks_all w.objects w.table_frames object width (live_pages areas) tidy.tabled.owned
        (no_kind w.objects file id fresh) in in_order _ _ _ _ all refl enough;
    mappable = all_mappable;
  }
