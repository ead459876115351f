-- A page table is added with its root, and then its areas are mapped in it.
use Rattle.std.proofs.Common.{◌≡◌, ℕ, ◌+◌, ◌≤◌, Bool, true, false, cond, eqb, set, Option, Some, None, List, [], ◌∷◌}
use Rattle.std.proofs.Common.{◌++◌, is_some, length, length-append, refl, ap, subst, sym, ◌∙◌, arith}
use Rattle.std.specs.Prelude.{IfSome}
use Rattle.std.proofs.lemmas.Bool.{eq-eqb}
use Rattle.std.proofs.lemmas.List.{get_or-set_other}
use Rattle.area_map_rows.specs.Areas.{AreApart}
use Rattle.frame_memory.specs.Pool.{FramePool, bytes_of, free_count, given, least_free, zeros}
use Rattle.page_table_set.proofs.Inserted.{tables_in_with}
use Rattle.page_table_set.proofs.Kept.{rows_have}
use Rattle.page_table_set.proofs.Missing.{missing_at}
use Rattle.page_table_set.proofs.Staying.{all_told}
use Rattle.page_table_set.specs.OverSpans.{frames_for, with_missing}
use Rattle.page_table_set.specs.PageTables.{AllStand, Hwpt, KeepsOthers, hwpt_at, hwpt_of, root_frame, rows_of}
use Rattle.page_table_set.specs.PageTables.{stands_before, tables_in, with_hwpt}
use Rattle.iofd_words.specs.Objects.{is_object}
use Rattle.iofd_words.specs.TablePlaces.{has_table, live_pages, root_place}
use Rattle.iofd_words.specs.Tables.{MissingTable, in_frames}
use Rattle.iofd_words.specs.declared.numbers.FrameNo.{FrameNo}
use Rattle.iofd_words.specs.declared.rows.Area.{Area}
use Rattle.iofd_words.specs.declared.rows.Object.{Object}
use Rattle.iofd_words.specs.declared.rows.TableFrame.{TableFrame}
use Rattle.iofd_words.specs.declared.width.Width.{Width}
use Rattle.page_table_spans.specs.Spans as spans
use Rattle.page_table_spans.specs.Spans.{held_once}
use Rattle.page_table_words.proofs.Frames.{free_taken, least_frames_more, no_frames, some_least}
use Rattle.page_table_words.specs.Rows.{TableRow}
use Rattle.user_memory.specs.Memory.{Memory}
use Rattle.iofd_rows.proofs.Bools.{clash}
use Rattle.iofd_rows.proofs.Inserted.{found-inserted}
use Rattle.iofd_rows.proofs.OwnIds.{any_found}
use Rattle.hwpt_device.proofs.Filled.{fails_both, tables_fewer}
use Rattle.hwpt_device.proofs.FilledInTurn.{Leads, as_many, more_filled}
use Rattle.hwpt_device.specs.Filling.{Adds, CanAdd, CanFill, Fills, IsFilled, filled, tables_for}
use Rattle.hwpt_device.specs.Filling.{with_tables_for}

-- ---- its root

-- where no row is its, it lacks its root
root_lacked : (frames : List TableFrame) (object : Object) (width : Width) → rows_of frames object ≡ []
    → tables_for frames object width [] ≡ missing_at object (root_place width) ∷ []
root_lacked frames object width none =
    let lacks : has_table frames object.file object.id (root_place width) ≡ false =
    rows_have frames object.file object.id (root_place width)
    ∙ ap (λ (rows : List TableRow). spans.has_row rows (root_place width)) none in
    rw lacks refl

-- which gets the least free frame
root_frames : (holds : List ℕ) (root : MissingTable) (f : ℕ) → least_free holds ≡ Some f
    → frames_for (root ∷ []) holds ≡ record { 0 = f } ∷ []
root_frames holds root f is =
    least_frames_more holds 1 (record { 0 = f }) (omega arith) is
    ∙ ap (λ (fs : List FrameNo). record { 0 = f } ∷ fs) (no_frames (set holds f 1) 0 refl)

-- ---- where it is found

pub itself : (h : Hwpt) → is_object h.object.file h.object.id h.object ≡ true
itself h =
    rw (eq-eqb h.object.file.0 h.object.file.0 refl, eq-eqb h.object.id.0 h.object.id.0 refl) refl

pub found_new : (h : Hwpt) (tables : List Hwpt) → hwpt_of tables h.object.file h.object.id ≡ None
    → hwpt_of (with_hwpt h tables) h.object.file h.object.id ≡ Some h
found_new h tables none =
    found-inserted stands_before (λ (t : Hwpt). is_object h.object.file h.object.id t.object) h tables (itself h)
    (any_found (λ (t : Hwpt). is_object h.object.file h.object.id t.object) tables
    ∙ ap (λ (o : Option Hwpt). is_some o) none)

-- ---- a frame for it

pub of_some : {X : Type 0} (P : X → Type 0) (o : Option X) (x : X) → o ≡ Some x → IfSome o P → P x
of_some P None x is holds = cc
of_some P (Some y) x is holds = let same : y ≡ x = cc in subst P same holds

-- it takes one frame at least
pub takes_one : (frames : List TableFrame) (object : Object) (width : Width) (pages : List ℕ)
    → rows_of frames object ≡ [] → 1 ≤ length (tables_for frames object width pages)
takes_one frames object width pages none =
    let one = ap (λ (l : List MissingTable). length l) (root_lacked frames object width none) in
    let fewer = tables_fewer frames object width [] pages in
    omega (arith, one, fewer)

pub some_frame : (pool : FramePool) (tables : List Hwpt) (m : Memory) (object : Object) (width : Width)
    (areas : List Area) (room : ℕ) → CanAdd pool tables m object width areas room
    → (f : ℕ) × (least_free pool.holds ≡ Some f)
some_frame pool tables m object width areas room can =
    let one = takes_one can.frames object width (live_pages areas) can.none in
    let free = can.free in
    some_least pool.holds (omega (arith, one, free))

-- ---- it is added

no_sum : (n : ℕ) → n + 1 ≡ 0 → ⊥
no_sum n none = omega arith

one_taken : (before given mid some : ℕ) → given + 1 ≡ before → mid ≡ given → some ≡ 1 → mid + some ≡ before
one_taken before given mid some taken held one = omega arith

module _ (object : Object) (width : Width) (m : Memory) (tables more : List Hwpt) (before mid : FramePool)
    (old between : List FrameNo) (f : ℕ)
    (least : least_free before.holds ≡ Some f) (more_is : more ≡ with_hwpt (hwpt_at object width f) tables)
    (pool_is : mid ≡ given before f) (out : between ≡ old ++ record { 0 = f } ∷ [])
    (stand : (frames : List TableFrame) (leads : Leads) → AllStand before frames leads tables
    → rows_of frames object ≡ [] → ((page : ℕ) → leads object page ≡ None)
    → AllStand mid (frames ++ root_frame (hwpt_at object width f) ∷ []) leads more) where
  abbrev h : Hwpt
  h = hwpt_at object width f

  abbrev root : MissingTable
  root = missing_at object (root_place width)

  module _ (frames : List TableFrame) (leads : Leads) (all : AllStand before frames leads tables)
      (none : rows_of frames object ≡ []) (nowhere : (page : ℕ) → leads object page ≡ None) where
    rows_are : with_tables_for frames object width [] before.holds ≡ frames ++ root_frame h ∷ []
    rows_are =
        ap (λ (l : List MissingTable). with_missing frames l before.holds) (root_lacked frames object width none)
        ∙ ap (λ (fs : List FrameNo). frames ++ in_frames (root ∷ []) fs) (root_frames before.holds root f least)

    frame_is : frames_for (tables_for frames object width []) before.holds ≡ record { 0 = f } ∷ []
    frame_is = ap (λ (l : List MissingTable). frames_for l before.holds) (root_lacked frames object width none)
        ∙ root_frames before.holds root f least

    others_kept : KeepsOthers (frames ++ root_frame h ∷ []) before mid
    others_kept x empty = by_test (eqb f x) refl (sym (tables_in_with frames (root_frame h) x) ∙ empty)
      where
        by_test : (b : Bool) → eqb f x ≡ b → tables_in frames x + cond b 1 0 ≡ 0 → bytes_of mid x ≡ bytes_of before x
        by_test true is sum = absurd (no_sum _ sum)
        by_test false is sum = ap (λ (p : FramePool). bytes_of p x) pool_is
            ∙ get_or-set_other before.bytes f x zeros [] (λ same. unlike (sym same))
          where
            unlike : f ≡ x → ⊥
            unlike same = clash _ is (eq-eqb f x same)

    pub root_filled : IsFilled object width m [] more before mid old between frames leads
    root_filled =
        let taken = free_taken before.holds f least in
        let held = ap (λ (p : FramePool). free_count p.holds) pool_is in
        let one = ap (λ (l : List MissingTable). length l) (root_lacked frames object width none) in
        record {
          stand =
              subst (λ (l : List TableFrame). AllStand mid l (filled object.file object.id m [] leads) more)
              (sym rows_are)
              (all_told mid (frames ++ root_frame h ∷ []) leads (filled object.file object.id m [] leads) more
              (stand frames leads all none nowhere)
              (λ x within page. fails_both (is_object object.file object.id x.object) None (leads x.object page)));
          others = subst (λ (l : List TableFrame). KeepsOthers l before mid) (sym rows_are) others_kept;
          holds = ap (λ (p : FramePool). p.holds) pool_is ∙ ap (held_once before.holds) (sym frame_is);
          free = one_taken _ _ _ _ taken held one;
          out = out ∙ ap (λ (fs : List FrameNo). old ++ fs) (sym frame_is);
        }

  found : hwpt_of tables object.file object.id ≡ None → hwpt_of more object.file object.id ≡ Some h
  found other = ap (λ (l : List Hwpt). hwpt_of l object.file object.id) more_is ∙ found_new h tables other

  -- its areas can be mapped
  pub can_fill_new : (areas : List Area) (room left : ℕ) → left + length between ≡ room + length old → AreApart areas
      → CanAdd before tables m object width areas room → CanFill mid more m object.file object.id areas left
  can_fill_new areas room left lens apart can =
      let first = root_filled can.frames can.leads can.stand can.none can.nowhere in
      let many = as_many object width m [] areas more before mid mid old between between can.frames can.leads first in
      let now_free = first.free in
      let free = can.free in
      let enough = can.enough in
      let one = ap (λ (l : List MissingTable). length l) (root_lacked can.frames object width can.none) in
      let longer = ap (λ (l : List FrameNo). length l) out ∙ length-append old (record { 0 = f } ∷ []) in
      record {
        hwpt = h;
        found = found can.other;
        frames = with_tables_for can.frames object width [] before.holds;
        leads = filled object.file object.id m [] can.leads;
        stand = first.stand;
        free = omega (arith, many, now_free, free, one);
        enough = omega (arith, many, enough, one, longer, lens);
        apart = apart;
        mappable = can.mappable;
      }

  -- and are
  pub added : (areas : List Area) (after : FramePool) (new : List FrameNo) → hwpt_of tables object.file object.id ≡ None
      → AreApart areas → Fills object.file object.id m areas more mid after between new
      → Adds object width m areas tables more before after old new
  added areas after new other apart fills frames leads all none nowhere =
      let first = root_filled frames leads all none nowhere in
      more_filled object width m [] areas more before mid after old between new frames leads first apart
      (fills h (found other) (with_tables_for frames object width [] before.holds)
      (filled object.file object.id m [] leads) first.stand)

  -- or there are none
  pub added_alone : (areas : List Area) → areas ≡ [] → Adds object width m areas tables more before mid old between
  added_alone areas empty frames leads all none nowhere =
      subst (λ (l : List Area). IsFilled object width m l more before mid old between frames leads) (sym empty)
      (root_filled frames leads all none nowhere)
