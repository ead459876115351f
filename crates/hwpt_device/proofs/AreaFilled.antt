-- One area is mapped in a page table: its pages lead to the frames at which they are pinned.
use Rattle.std.proofs.Common.{◌≡◌, ◌⊎◌, inl, inr, ℕ, ◌+◌, ◌-◌, ◌*◌, ◌/◌, ◌%◌, ◌^◌, ◌<◌, ◌≤◌, Bool, true, false, ◌&&◌}
use Rattle.std.proofs.Common.{eqb, leb, Option, Some, None, List, [], ◌∷◌, ◌++◌, append-nil, length, refl, ap, subst}
use Rattle.std.proofs.Common.{sym, ◌∙◌, arith}
use Rattle.std.specs.Prelude.{IfSome, slice_get, slice_index_or}
use Rattle.std.specs.List.{find}
use Rattle.std.proofs.lemmas.Bool.{eq-eqb, eqb-true, le-leb, leb-false, lt-leb}
use Rattle.std.proofs.lemmas.Option.{slice_get-get_or}
use Rattle.frame_memory.specs.Pool.{FramePool, free_count}
use Rattle.page_table_set.specs.OverSpans.{LeadsMapped, frames_for, missing_found, with_missing}
use Rattle.page_table_set.specs.PageTables.{AllStand, Hwpt, IfAllStand, KeepsOthers, hwpt_of}
use Rattle.iofd_rows.proofs.Bools.{and_true, both_true, clash}
use Rattle.iofd_rows.proofs.Each.{in_found}
use Rattle.iofd_rows.proofs.Named.{file_is, id_is}
use Rattle.iofd_runs.specs.Fits.{begins_at_page, is_of_pages}
use Rattle.iofd_words.specs.Objects.{is_object}
use Rattle.iofd_words.specs.Pages.{is_whole, page_of}
use Rattle.iofd_words.specs.Span.{holds, is_whole_pages, meets, size_of}
use Rattle.iofd_words.specs.TablePlaces.{is_live, live_pages, pages_in}
use Rattle.iofd_words.specs.Tables.{MissingTable}
use Rattle.iofd_words.specs.Usable.{beyond}
use Rattle.iofd_words.specs.Width.{bits_of}
use Rattle.iofd_words.specs.declared.width.Width.{Width}
use Rattle.iofd_words.specs.declared.numbers.FileNo.{FileNo}
use Rattle.iofd_words.specs.declared.numbers.FrameNo.{FrameNo}
use Rattle.iofd_words.specs.declared.numbers.ObjId.{ObjId}
use Rattle.iofd_words.specs.declared.rows.Area.{Area}
use Rattle.iofd_words.specs.declared.rows.MemoryObject.{MemoryObject}
use Rattle.iofd_words.specs.declared.rows.TableFrame.{TableFrame}
use Rattle.server_state.specs.Leads.{lead_by, leads_in, object_page}
use Rattle.page_table_spans.specs.Spans.{IsOfPages, held_once}
use Rattle.page_table_words.specs.Rows.{MappedPage}
use Rattle.user_memory.specs.Memory as memory
use Rattle.user_memory.specs.Memory.{Memory, pinned_frame}
use Rattle.hwpt_device.proofs.Filled.{none_filled}
use Rattle.hwpt_device.proofs.FilledInTurn.{Leads}
use Rattle.hwpt_device.specs.Filling.{Fills, filled, tables_for}

-- ---- of whole pages

-- it begins and ends at a page's border
pub whole_pages : (a : Area) → a.span.first ≤ a.span.last → is_of_pages a ≡ true → begins_at_page a ≡ true
    → is_whole_pages a.span ≡ true
whole_pages a ordered pages starts =
    let sizes = and_true (is_whole (size_of a.span)) (leb (size_of a.span) (2 ^ 48)) pages in
    let first = eqb-true (a.span.first % 4096) 0 starts in
    let size = eqb-true ((a.span.last + 1 - a.span.first) % 4096) 0 sizes.0 in
    let last : a.span.last % 4096 ≡ 4095 = omega (arith, first, size, ordered) in
    both_true _ _ starts (eq-eqb _ _ last)

-- and lies below the end of a width beyond which it doesn't reach
pub of_pages : (width : Width) (a : Area) → a.span.first ≤ a.span.last → a.span.last < 2 ^ 64 → is_of_pages a ≡ true
    → begins_at_page a ≡ true → meets (beyond width) a.span ≡ false → IsOfPages width a.span
of_pages width a ordered few pages starts wide =
    record { whole = whole_pages a ordered pages starts; below = by_test (leb (2 ^ bits_of width) a.span.last) refl }
  where
    begins : leb a.span.first 0xffff_ffff_ffff_ffff ≡ true
    begins =
        let low : a.span.first ≤ 0xffff_ffff_ffff_ffff = omega (arith, ordered, few) in le-leb _ _ low

    by_test : (b : Bool) → leb (2 ^ bits_of width) a.span.last ≡ b → a.span.last < 2 ^ bits_of width
    by_test true is = absurd (clash _ wide (both_true _ _ is begins))
    by_test false is = leb-false _ _ is

-- ---- a leaving area

pub leaving_filled : (file : FileNo) (id : ObjId) (m : Memory) (a : Area) (tables : List Hwpt) (pool : FramePool)
    (out : List FrameNo) → is_live a.phase ≡ false → Fills file id m (a ∷ []) tables pool pool out out
leaving_filled file id m a tables pool out leaves =
    none_filled file id m (a ∷ []) tables pool out (rw leaves refl) (λ page. rw leaves refl)

-- ---- a live one

-- as many frames as pages
pub as_long : (m : Memory) (a : Area) (to : List FrameNo) → size_of a.span % 4096 ≡ 0 → (object : MemoryObject)
    → find (λ (row : MemoryObject). eqb row.number a.memory) (memory.rows_of m) ≡ Some object
    → object.count * 4096 ≡ size_of a.span
    → IfSome (find (λ (row : MemoryObject). eqb row.number a.memory) (memory.rows_of m)) (λ row. length to ≡ row.count)
    → length to ≡ size_of a.span / 4096
as_long m a to whole object found size long =
    let here : length to ≡ object.count = rw found at long in
    omega (arith, here, size)

pub whole_size : (a : Area) → a.span.first ≤ a.span.last → is_whole_pages a.span ≡ true → size_of a.span % 4096 ≡ 0
whole_size a ordered whole =
    let parts = and_true (eqb (a.span.first % 4096) 0) (eqb (a.span.last % 4096) 4095) whole in
    let first = eqb-true (a.span.first % 4096) 0 parts.0 in
    let last = eqb-true (a.span.last % 4096) 4095 parts.1 in
    omega (arith, first, last, ordered)

-- its pages alone are live
live_only : (a : Area) → is_live a.phase ≡ true → live_pages (a ∷ []) ≡ pages_in a.span
live_only a live = rw live (append-nil (pages_in a.span))

-- so the tables that are missing for its span are those for them
pub missing_is : (a : Area) → is_live a.phase ≡ true → (file : FileNo) (id : ObjId) (tables : List Hwpt) (h : Hwpt)
    (frames : List TableFrame) → hwpt_of tables file id ≡ Some h → missing_found frames a.span (hwpt_of tables file id)
    ≡ tables_for frames h.object h.table.width (live_pages (a ∷ []))
missing_is a live file id tables h frames found =
    ap (missing_found frames a.span) found ∙ ap (tables_for frames h.object h.table.width) (sym (live_only a live))

and_none : (b : Bool) → (b && false) ≡ false
and_none true = refl
and_none false = refl

module _ (m : Memory) (a : Area) (to : List FrameNo) (live : is_live a.phase ≡ true)
    (ordered : a.span.first ≤ a.span.last) (whole : is_whole_pages a.span ≡ true)
    (each : (index : ℕ) → slice_get to index ≡ pinned_frame m (record { memory = a.memory; index = index }))
    (long : length to ≡ size_of a.span / 4096) where
  starts : a.span.first % 4096 ≡ 0
  starts = eqb-true _ _ (and_true (eqb (a.span.first % 4096) 0) (eqb (a.span.last % 4096) 4095) whole).0

  ends : a.span.last % 4096 ≡ 4095
  ends = eqb-true _ _ (and_true (eqb (a.span.first % 4096) 0) (eqb (a.span.last % 4096) 4095) whole).1

  within : (k : ℕ) → k < length to → holds a.span ((page_of a.span.first + k) * 4096) ≡ true
  within k below =
      let low : a.span.first ≤ (page_of a.span.first + k) * 4096 = omega (arith, starts) in
      let high : (page_of a.span.first + k) * 4096 ≤ a.span.last = omega (arith, starts, ends, below, long, ordered) in
      both_true _ _ (le-leb _ _ low) (le-leb _ _ high)

  without : (page : ℕ) → (page < page_of a.span.first) ⊎ (page_of a.span.first + length to ≤ page)
      → holds a.span (page * 4096) ≡ false
  without page (inl before) =
      let low : page * 4096 < a.span.first = omega (arith, starts, before) in
      ap (λ (b : Bool). b && leb (page * 4096) a.span.last) (lt-leb _ _ low)
  without page (inr after) =
      let high : a.span.last < page * 4096 = omega (arith, starts, ends, after, long, ordered) in
      ap (λ (b : Bool). leb a.span.first (page * 4096) && b) (lt-leb _ _ high)
      ∙ and_none (leb a.span.first (page * 4096))

  -- the frame of a page
  lead_at : (k : ℕ) (d : FrameNo) → k < length to
      → leads_in (pinned_frame m) (a ∷ []) (page_of a.span.first + k) ≡ Some (record {
        page = page_of a.span.first + k;
        frame = slice_index_or to k d;
        rights = a.rights;
      })
  lead_at k d below =
      let here = within k below in
      let index : page_of a.span.first + k - page_of a.span.first ≡ k = omega arith in
      let frame : pinned_frame m (object_page (page_of a.span.first + k) a) ≡ Some (slice_index_or to k d) =
      ap (λ (i : ℕ). pinned_frame m (record { memory = a.memory; index = i })) index ∙ sym (each k)
      ∙ slice_get-get_or to k d below in
      rw (live, here) (ap (λ (o : Option FrameNo). elim o as (λ _. Option MappedPage) [
        | Some f ↦ Some (record { page = page_of a.span.first + k; frame = f; rights = a.rights })
        | None ↦ None
      ]) frame)

  module _ (file : FileNo) (id : ObjId) (leads : Leads) where
    pub area_mapped : LeadsMapped (is_object file id) (page_of a.span.first) to a.rights leads
        (filled file id m (a ∷ []) leads)
    area_mapped = record {
      inside = λ object k d it below. let here = within k below in let is =
          lead_at k d below in rw (it, live, here) (by_lead (page_of a.span.first + k) here is);
      outside = λ object page it beside. let away = without page beside in rw (it, live, away) refl;
      others = λ object page it. rw it refl;
    }
      where
        by_lead : (page : ℕ) → holds a.span (page * 4096) ≡ true → {x : Option MappedPage}
            → leads_in (pinned_frame m) (a ∷ []) page ≡ x → lead_by (pinned_frame m) page (Some a) ≡ x
        by_lead page here is = let other = rw (live, here) at is in other

  -- it is mapped in the page table that is found
  module _ (file : FileNo) (id : ObjId) (tables : List Hwpt) (before after : FramePool) (old new : List FrameNo)
      (stand : IfAllStand before tables (λ frames leads. (others : Leads)
      → LeadsMapped (is_object file id) (page_of a.span.first) to a.rights leads others
      → AllStand after (with_missing frames (missing_found frames a.span (hwpt_of tables file id)) before.holds) others
      tables))
      (kept : IfAllStand before tables (λ frames leads. KeepsOthers
      (with_missing frames (missing_found frames a.span (hwpt_of tables file id)) before.holds) before
      after))
      (held : IfAllStand before tables (λ frames leads. after.holds ≡ held_once before.holds
      (frames_for (missing_found frames a.span (hwpt_of tables file id)) before.holds)))
      (free : IfAllStand before tables (λ frames leads. free_count after.holds
      + length (missing_found frames a.span (hwpt_of tables file id)) ≡ free_count before.holds))
      (out : IfAllStand before tables (λ frames leads. new ≡ old
      ++ frames_for (missing_found frames a.span (hwpt_of tables file id)) before.holds)) where
    pub live_filled : Fills file id m (a ∷ []) tables before after old new
    live_filled h found frames leads all =
        let same = missing_is a live file id tables h frames found in
        let names = and_true (eqb h.object.file.0 file.0) (eqb h.object.id.0 id.0)
        (in_found (λ (x : Hwpt). is_object file id x.object) tables h found).1 in
        let own_file : file ≡ h.object.file = sym (file_is h.object.file file names.0) in
        let own_id : id ≡ h.object.id = sym (id_is h.object.id id names.1) in
        let rows : List MissingTable → List TableFrame = λ l. with_missing frames l before.holds in
        let here = stand frames leads all (filled file id m (a ∷ []) leads) (area_mapped file id leads) in
        let then = subst (λ (l : List MissingTable). AllStand after (rows l) (filled file id m (a ∷ []) leads) tables)
        same here in
        let named = subst (λ (f : FileNo). AllStand after
        (rows (tables_for frames h.object h.table.width (live_pages (a ∷ [])))) (filled f id m (a ∷ []) leads)
        tables) own_file then in
        record {
          stand = subst (λ (i : ObjId). AllStand after
              (rows (tables_for frames h.object h.table.width (live_pages (a ∷ []))))
              (filled h.object.file i m (a ∷ []) leads) tables) own_id named;
          others = subst (λ (l : List MissingTable). KeepsOthers (with_missing frames l before.holds) before after) same
              (kept frames leads all);
          holds = held frames leads all ∙ ap (λ (l : List MissingTable). held_once before.holds
              (frames_for l before.holds)) same;
          free = ap (λ (l : List MissingTable). free_count after.holds + length l) (sym same) ∙ free frames leads all;
          out = out frames leads all ∙ ap (λ (l : List MissingTable). old ++ frames_for l before.holds) same;
        }
