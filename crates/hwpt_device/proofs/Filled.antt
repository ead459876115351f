-- The areas of an address space are mapped in a page table one after the other: what is done and what is left.
use Rattle.std.proofs.Common.{◌≡◌, ℕ, ◌+◌, ◌-◌, ◌≤◌, Bool, true, false, cond, ◌&&◌, ◌||◌, is_some, Option, Some, None}
use Rattle.std.proofs.Common.{inl, inr, List, [], ◌∷◌, ◌++◌, append-nil, length, length-append, map, refl, ap, subst}
use Rattle.std.proofs.Common.{sym, ◌∙◌, arith, Vec, vec_capacity, vec_len}
use Rattle.std.specs.List.{filter, flat_map}
use Rattle.std.proofs.lemmas.Grind.{flat_map-append}
use Rattle.std.proofs.lemmas.List.{append_assoc, length-map}
use Rattle.area_map_rows.specs.Areas.{AreApart, AreApartFrom}
use Rattle.frame_memory.specs.Pool.{FramePool}
use Rattle.page_table_set.proofs.Kept.{rows_have}
use Rattle.page_table_set.proofs.Missing.{missing_at}
use Rattle.page_table_set.proofs.Staying.{all_told}
use Rattle.page_table_set.specs.OverSpans.{frames_for, with_missing}
use Rattle.page_table_set.specs.PageTables.{AllStand, Hwpt, HwptStands, PageTables, hwpt_of, rows_of}
use Rattle.iofd_rows.proofs.Each.{IsIn, in_found}
use Rattle.iofd_words.specs.Levels.{first_address, levels_of}
use Rattle.iofd_words.specs.Objects.{is_object}
use Rattle.iofd_words.specs.TablePlaces.{TablePlace, has_table, is_live, lacking, live_pages, pages_in, places_from}
use Rattle.iofd_words.specs.TablePlaces.{places_of, root_place}
use Rattle.iofd_words.specs.Tables.{MissingTable}
use Rattle.iofd_words.specs.declared.numbers.FileNo.{FileNo}
use Rattle.iofd_words.specs.declared.numbers.FrameNo.{FrameNo}
use Rattle.iofd_words.specs.declared.numbers.ObjId.{ObjId}
use Rattle.iofd_words.specs.declared.rows.Area.{Area}
use Rattle.iofd_words.specs.declared.rows.Object.{Object}
use Rattle.iofd_words.specs.declared.rows.TableFrame.{TableFrame}
use Rattle.iofd_words.specs.declared.width.Width.{Width}
use Rattle.server_state.specs.Leads.{leads_in, live_area_at}
use Rattle.page_table_spans.proofs.Lacking.{are_with, lacking_append}
use Rattle.page_table_spans.proofs.LeastFrames.{length_least}
use Rattle.page_table_spans.proofs.OnePage.{row_there}
use Rattle.page_table_spans.specs.Spans as spans
use Rattle.page_table_spans.specs.Spans.{held_once}
use Rattle.page_table_words.proofs.Frames.{no_frames}
use Rattle.page_table_words.proofs.Lookups.{some_is}
use Rattle.page_table_words.proofs.Tops.{number-first}
use Rattle.page_table_words.specs.Rows.{MappedPage, table_at}
use Rattle.user_memory.specs.Memory.{Memory, pinned_frame}
use Rattle.hwpt_device.proofs.FilledInTurn.{as_many, few, more_filled}
use Rattle.hwpt_device.proofs.TablesInTurn.{live_in_turn}
use Rattle.hwpt_device.specs.Filling.{CanFill, Fills, filled, tables_for, with_tables_for}

-- ---- no page

-- a page table that stands has its root
root_there : (pool : FramePool) (frames : List TableFrame) (leads : ℕ → Option MappedPage) (h : Hwpt)
    → HwptStands pool frames leads h → has_table frames h.object.file h.object.id (root_place h.table.width) ≡ true
root_there pool frames leads h stands =
    rows_have frames h.object.file h.object.id (root_place h.table.width)
    ∙ ap (λ (n : ℕ). spans.has_row (rows_of frames h.object) (record { level = levels_of h.table.width; first = n }))
    first
    ∙ row_there (rows_of frames h.object) (levels_of h.table.width) 0
    ∙ some_is (table_at (rows_of frames h.object) (levels_of h.table.width) 0) h.table.root stands.stands.at_root
  where
    first : 0 ≡ first_address (levels_of h.table.width) 0
    first = let none = number-first (levels_of h.table.width) in rw none (omega arith)

-- so it lacks no table where no page is mapped
none_lacked : (pool : FramePool) (frames : List TableFrame) (leads : ℕ → Option MappedPage) (h : Hwpt)
    → HwptStands pool frames leads h → tables_for frames h.object h.table.width [] ≡ []
none_lacked pool frames leads h stands =
    ap (λ (b : Bool). map (missing_at h.object) (cond b [] (root_place h.table.width ∷ [])))
    (root_there pool frames leads h stands)

pub fails_both : {X : Type 0} (b : Bool) (x y : X) → cond (b && false) x y ≡ y
fails_both true x y = refl
fails_both false x y = refl

found_there : (tables : List Hwpt) (file : FileNo) (id : ObjId) (h : Hwpt) → hwpt_of tables file id ≡ Some h
    → IsIn tables h
found_there tables file id h found = (in_found (λ (x : Hwpt). is_object file id x.object) tables h found).0

-- areas without a live one change nothing
pub none_filled : (file : FileNo) (id : ObjId) (m : Memory) (areas : List Area) (tables : List Hwpt) (pool : FramePool)
    (out : List FrameNo) → filter (λ area. is_live area.phase) areas ≡ []
    → ((page : ℕ) → live_area_at page areas ≡ None)
    → Fills file id m areas tables pool pool out out
none_filled file id m areas tables pool out none nowhere h found frames leads stand =
    let lacked : tables_for frames h.object h.table.width (live_pages areas) ≡ [] =
    ap (λ (l : List Area). tables_for frames h.object h.table.width (flat_map (λ area. pages_of area) l)) none
    ∙ none_lacked pool frames (leads h.object) h (stand.each h (found_there tables file id h found)) in
    let taken : frames_for (tables_for frames h.object h.table.width (live_pages areas)) pool.holds ≡ [] =
    ap (λ (l : List MissingTable). frames_for l pool.holds) lacked ∙ no_frames pool.holds 0 refl in
    let rows : frames ≡ with_tables_for frames h.object h.table.width areas pool.holds =
    sym (append-nil frames) ∙ ap (λ (l : List MissingTable). with_missing frames l pool.holds) (sym lacked) in
    record {
      stand =
          subst (λ (l : List TableFrame). AllStand pool l (filled h.object.file h.object.id m areas leads) tables) rows
          (all_told pool frames leads (filled h.object.file h.object.id m areas leads) tables stand
          (λ x within page. ap (λ (o : Option Area). cond (is_object h.object.file h.object.id x.object && is_some o)
          (lead_of page) (leads x.object page)) (nowhere page)
          ∙ fails_both (is_object h.object.file h.object.id x.object) (lead_of page) (leads x.object page)));
      others = λ f others. refl;
      holds = ap (held_once pool.holds) (sym taken);
      free = let long = ap (λ (l : List MissingTable). length l) lacked in omega (arith, long);
      out = sym (append-nil out) ∙ ap (λ (l : List FrameNo). out ++ l) (sym taken);
    }
  where
    pages_of : Area → List ℕ
    pages_of area = pages_in area.span

    lead_of : ℕ → Option MappedPage
    lead_of page = leads_in (pinned_frame m) areas page

-- ---- more pages

-- with more pages it lacks no fewer
pub tables_fewer : (frames : List TableFrame) (object : Object) (width : Width) (pages more : List ℕ)
    → length (tables_for frames object width pages) ≤ length (tables_for frames object width (pages ++ more))
tables_fewer frames object width pages more =
    let has = has_table frames object.file object.id in
    let below : List ℕ → List TablePlace = λ ps. flat_map (places_from (levels_of width - 1)) ps in
    let split : lacking has (places_of width (pages ++ more)) ≡ lacking has (places_of width pages)
    ++ lacking (λ p. has p || are_with (lacking has (places_of width pages)) p) (below more) =
    ap (λ (ps : List TablePlace). lacking has (root_place width ∷ ps))
    (flat_map-append (places_from (levels_of width - 1)) pages more)
    ∙ lacking_append has (places_of width pages) (below more) in
    let all = ap (λ (ps : List TablePlace). length ps) split
    ∙ length-append (lacking has (places_of width pages))
    (lacking (λ p. has p || are_with (lacking has (places_of width pages)) p) (below more)) in
    let one = length-map (lacking has (places_of width pages)) (missing_at object) in
    let two = length-map (lacking has (places_of width (pages ++ more))) (missing_at object) in
    omega (arith, all, one, two)

-- ---- all of them

in_parts : (done : List Area) (a : Area) (rest : List Area) → IsIn (done ++ a ∷ rest) a
in_parts [] a rest = inl refl
in_parts (d ∷ done) a rest = inr (in_parts done a rest)

in_order : (low : ℕ) (areas : List Area) (a : Area) → AreApartFrom low areas → IsIn areas a → a.span.first ≤ a.span.last
in_order low [] a apart within = absurd within
in_order low (x ∷ areas) a apart (inl same) = let here = apart.1 in let first =
    ap (λ (y : Area). y.span.first) same in let last =
    ap (λ (y : Area). y.span.last) same in omega (arith, here, first, last)
in_order low (x ∷ areas) a apart (inr later) = in_order (x.span.last + 1) areas a apart.2 later

first_apart : (low : ℕ) (done more : List Area) → AreApartFrom low (done ++ more) → AreApartFrom low done
first_apart low [] more apart = record {}
first_apart low (d ∷ done) more apart = (apart.0, apart.1, first_apart (d.span.last + 1) done more apart.2)

module _ {A : Type 0} (file : FileNo) (id : ObjId) (m : Memory) where
  -- some of the areas are mapped, and these are left
  pub record AreFilling (all left : List Area) (kept now : PageTables) (before pool : FramePool)
      (old new : Vec FrameNo A) : Type 0 where
    pub done : List Area
    pub parts : done ++ left ≡ all
    pub same : now ≡ kept
    pub capacity : vec_capacity new ≡ vec_capacity old
    pub filled : Fills file id m done kept.tables before pool old.items new.items

  pub filling_first : (all : List Area) (kept : PageTables) (pool : FramePool) (out : Vec FrameNo A)
      → AreFilling all all kept kept pool pool out out
  filling_first all kept pool out = record {
    done = [];
    parts = refl;
    same = refl;
    capacity = refl;
    filled = none_filled file id m [] kept.tables pool out.items refl (λ page. refl);
  }

  module _ (all left rest : List Area) (a : Area) (kept now : PageTables) (before pool : FramePool)
      (old new : Vec FrameNo A) (is : left ≡ a ∷ rest) (filling : AreFilling all left kept now before pool old new)
    where
      abbrev done : List Area
      done = filling.done

      whole : (done ++ a ∷ []) ++ rest ≡ all
      whole = append_assoc done (a ∷ []) rest ∙ ap (λ (l : List Area). done ++ l) (sym is) ∙ filling.parts

      within : IsIn all a
      within = subst (λ (l : List Area). IsIn l a) (ap (λ (l : List Area). done ++ l) (sym is)
          ∙ filling.parts) (in_parts done a rest)

      apart_here : AreApart all → AreApart (done ++ a ∷ [])
      apart_here apart = first_apart 0 (done ++ a ∷ []) rest (subst AreApart (sym whole) apart)

      -- the next one may be mapped
      pub can_fill : CanFill before kept.tables m file id all (vec_capacity old - vec_len old)
          → CanFill pool now.tables m file id (a ∷ []) (vec_capacity new - vec_len new)
      can_fill can =
          let h = can.hwpt in
          let so_far = filling.filled h can.found can.frames can.leads can.stand in
          let frames = with_tables_for can.frames h.object h.table.width done before.holds in
          let many = as_many h.object h.table.width m done (a ∷ []) kept.tables before pool pool old.items new.items
          new.items can.frames can.leads so_far in
          let few_first = few h.object h.table.width m done (a ∷ []) kept.tables before pool pool old.items new.items
          new.items can.frames can.leads so_far in
          let fewer = tables_fewer can.frames h.object h.table.width (live_pages (done ++ a ∷ [])) (live_pages rest) in
          let total = ap (λ (ps : List ℕ). length (tables_for can.frames h.object h.table.width ps))
          (sym (live_in_turn (done ++ a ∷ []) rest) ∙ ap live_pages whole) in
          let taken = ap (λ (l : List FrameNo). length l) so_far.out
          ∙ length-append old.items (frames_for (tables_for can.frames h.object h.table.width (live_pages done))
          before.holds) in
          let long = length_least before.holds (length (tables_for can.frames h.object h.table.width (live_pages done)))
          few_first in
          let now_free = so_far.free in
          let free = can.free in
          let enough = can.enough in
          let capacity = filling.capacity in
          let ok = old.ok in
          let new_ok = new.ok in
          subst (λ (t : PageTables). CanFill pool t.tables m file id (a ∷ []) (vec_capacity new - vec_len new))
          (sym filling.same)
          (record {
            hwpt = h;
            found = can.found;
            frames = frames;
            leads = filled h.object.file h.object.id m done can.leads;
            stand = so_far.stand;
            free = omega (arith, many, fewer, total, now_free, free);
            enough = omega (arith, many, fewer, total, taken, long, enough, capacity, ok.0, ok.1, new_ok.0, new_ok.1);
            apart = (omega arith, in_order 0 all a can.apart within, record {});
            mappable = λ x here live. can.mappable x (one x here) live;
          })
        where
          one : (x : Area) → IsIn (a ∷ []) x → IsIn all x
          one x (inl same) = subst (IsIn all) same within
          one x (inr none) = absurd none

      -- and is
      pub filling_further : AreApart all → (next : PageTables) (after : FramePool) (out : Vec FrameNo A) → next ≡ now
          → vec_capacity out ≡ vec_capacity new
          → Fills file id m (a ∷ []) now.tables pool after new.items out.items
          → AreFilling all rest kept next before after old out
      filling_further apart next after out same capacity fills =
          let here : Fills file id m (a ∷ []) kept.tables pool after new.items out.items =
          subst (λ (t : PageTables). Fills file id m (a ∷ []) t.tables pool after new.items out.items) filling.same
          fills in
          record {
            done = done ++ a ∷ [];
            parts = whole;
            same = same ∙ filling.same;
            capacity = capacity ∙ filling.capacity;
            filled = λ h found frames leads stand.
                let so_far = filling.filled h found frames leads stand in
                more_filled h.object h.table.width m done (a ∷ []) kept.tables before pool after old.items new.items
                out.items frames leads so_far (apart_here apart)
                (here h found (with_tables_for frames h.object h.table.width done before.holds)
                (filled h.object.file h.object.id m done leads) so_far.stand);
          }

  -- none is left
  pub filling_last : (all left : List Area) (kept now : PageTables) (before pool : FramePool) (old new : Vec FrameNo A)
      → left ≡ [] → AreFilling all left kept now before pool old new
      → Fills file id m all kept.tables before pool old.items new.items
  filling_last all left kept now before pool old new none filling =
      let all_done : filling.done ≡ all =
      sym (append-nil filling.done) ∙ ap (λ (l : List Area). filling.done ++ l) (sym none) ∙ filling.parts in
      subst (λ (l : List Area). Fills file id m l kept.tables before pool old.items new.items) all_done filling.filled
