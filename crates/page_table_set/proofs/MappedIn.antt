-- A span mapped in the page table of one id, or in none.
use Rattle.std.proofs.Common.{◌≡◌, ℕ, ◌+◌, ◌≤◌, Bool, true, false, cond, Some, None, List, [], ◌++◌, append-nil, length}
use Rattle.std.proofs.Common.{refl, ap, subst, sym, ◌∙◌, arith}
use Rattle.std.proofs.lemmas.Bool.Decides.{nat_tests}
use Rattle.iofd_rows.proofs.Each.{IsIn, in_found}
use Rattle.iofd_words.specs.Bounds.{Bounds}
use Rattle.iofd_words.specs.Objects.{is_object}
use Rattle.iofd_words.specs.Pages.{page_of}
use Rattle.iofd_words.specs.TablePlaces.{pages_in}
use Rattle.iofd_words.specs.Tables.{MissingTable}
use Rattle.iofd_words.specs.declared.flags.Rights.{Rights}
use Rattle.iofd_words.specs.declared.numbers.FileNo.{FileNo}
use Rattle.iofd_words.specs.declared.numbers.FrameNo.{FrameNo}
use Rattle.iofd_words.specs.declared.numbers.ObjId.{ObjId}
use Rattle.iofd_words.specs.declared.rows.Object.{Object}
use Rattle.iofd_words.specs.declared.rows.TableFrame.{TableFrame}
use Rattle.frame_memory.specs.Pool.{FramePool, free_count}
use Rattle.page_table_spans.specs.Spans.{HasFrames, held_once}
use Rattle.page_table_words.proofs.Frames.{no_frames}
use Rattle.page_table_set.proofs.Changed.{retold}
use Rattle.page_table_set.proofs.MappedOver.{SpanMapped, call_free, call_holds, call_others, call_out, call_stand}
use Rattle.page_table_set.proofs.MappedOver.{has_frames}
use Rattle.page_table_set.proofs.OwnIds.{not_found, the_only}
use Rattle.page_table_set.proofs.Partly.{Leads}
use Rattle.page_table_set.proofs.Staying.{all_told}
use Rattle.page_table_set.specs.OverSpans.{CanMapIn, LeadsMapped, frames_for, missing_found, missing_in, with_missing}
use Rattle.page_table_set.specs.PageTables.{AllStand, Hwpt, IfAllStand, KeepsOthers, hwpt_of}

another : (file : FileNo) (id : ObjId) (a b : Object) → is_object file id a ≡ true → is_object a.file a.id b ≡ false
    → is_object file id b ≡ false
another file id a b here apart = grind (arith, nat_tests)

-- ---- in the one that is found

module _ (pool : FramePool) (tables : List Hwpt) (file : FileNo) (id : ObjId) (h : Hwpt) (span : Bounds)
    (found : hwpt_of tables file id ≡ Some h) where
  in_there : IsIn tables h
  in_there = (in_found (λ (x : Hwpt). is_object file id x.object) tables h found).0

  its_id : is_object file id h.object ≡ true
  its_id = (in_found (λ (x : Hwpt). is_object file id x.object) tables h found).1

  missing_is : (frames : List TableFrame) → missing_found frames span
      (hwpt_of tables file id) ≡ missing_in frames span h
  missing_is frames = ap (missing_found frames span) found

  pub found_frames : (room : ℕ) → CanMapIn pool tables file id span room → HasFrames pool h.table (pages_in span) room
  found_frames room can =
      let same = ap (λ (m : List MissingTable). length m) (missing_is can.frames) in
      let free = can.free in
      let enough = can.enough in
      has_frames pool can.frames can.leads tables h span can.stand in_there room (omega (arith, same, free))
      (omega (arith, same, enough))

  module _ (new : FramePool) (to : List FrameNo) (rights : Rights) (before after : List FrameNo)
      (call : SpanMapped pool new h.table (page_of span.first) (pages_in span) to rights before after) where
    pub found_holds : IfAllStand pool tables
        (λ frames leads. new.holds ≡ held_once pool.holds
        (frames_for (missing_found frames span (hwpt_of tables file id)) pool.holds))
    found_holds frames leads stand =
        call_holds pool frames leads tables h span stand in_there new to rights before after call
        ∙ ap (λ (m : List MissingTable). held_once pool.holds (frames_for m pool.holds)) (sym (missing_is frames))

    pub found_free : IfAllStand pool tables (λ frames leads. free_count new.holds
        + length (missing_found frames span (hwpt_of tables file id)) ≡ free_count pool.holds)
    found_free frames leads stand =
        let free = call_free pool frames leads tables h span stand in_there new to rights before after call in
        let same = ap (λ (m : List MissingTable). length m) (missing_is frames) in
        omega (arith, free, same)

    pub found_others : IfAllStand pool tables
        (λ frames leads. KeepsOthers (with_missing frames
        (missing_found frames span (hwpt_of tables file id)) pool.holds) pool new)
    found_others frames leads stand =
        subst (λ (m : List MissingTable). KeepsOthers (with_missing frames m pool.holds) pool new)
        (sym (missing_is frames))
        (call_others pool frames leads tables h span stand in_there new to rights before after call)

    pub found_out : IfAllStand pool tables (λ frames leads. after ≡ before
        ++ frames_for (missing_found frames span (hwpt_of tables file id)) pool.holds)
    found_out frames leads stand =
        call_out pool frames leads tables h span stand in_there new to rights before after call
        ∙ ap (λ (m : List MissingTable). before ++ frames_for m pool.holds) (sym (missing_is frames))

    pub found_all : IfAllStand pool tables (λ frames leads. (others : Leads)
        → LeadsMapped (is_object file id) (page_of span.first) to rights leads others
        → AllStand new (with_missing frames (missing_found frames span (hwpt_of tables file id)) pool.holds) others
        tables)
    found_all frames leads stand others mapped =
        subst (λ (m : List MissingTable). AllStand new (with_missing frames m pool.holds) others tables)
        (sym (missing_is frames))
        (all_told new (with_missing frames (missing_in frames span h) pool.holds)
        (retold h.object (others h.object) leads) others tables
        (call_stand pool frames leads tables h span stand in_there new to rights before after call (is_object file id)
        leads others mapped its_id (λ page. refl) few)
        (λ x inside page. told x inside page (is_object h.object.file h.object.id x.object) refl))
      where
        few : length (missing_in frames span h) ≤ free_count pool.holds
        few = let free = call_free pool frames leads tables h span stand in_there new to rights before after
            call in omega (arith, free)

        told : (x : Hwpt) → IsIn tables x → (page : ℕ) (b : Bool) → is_object h.object.file h.object.id x.object ≡ b
            → others x.object page ≡ retold h.object (others h.object) leads x.object page
        told x inside page true is =
            ap (λ (y : Hwpt). others y.object page) (sym (the_only tables stand.own h x in_there inside is))
            ∙ sym (ap (λ (b : Bool). cond b (others h.object) (leads x.object) page) is)
        told x inside page false is =
            mapped.others x.object page (another file id h.object x.object its_id is)
            ∙ sym (ap (λ (b : Bool). cond b (others h.object) (leads x.object) page) is)

-- ---- in none

module _ (pool : FramePool) (tables : List Hwpt) (file : FileNo) (id : ObjId) (span : Bounds)
    (none : hwpt_of tables file id ≡ None) where
  nothing : (frames : List TableFrame) → missing_found frames span (hwpt_of tables file id) ≡ []
  nothing frames = ap (missing_found frames span) none

  no_frame : (frames : List TableFrame) → frames_for
      (missing_found frames span (hwpt_of tables file id)) pool.holds ≡ []
  no_frame frames =
      ap (λ (m : List MissingTable). frames_for m pool.holds) (nothing frames) ∙ no_frames pool.holds 0 refl

  pub none_holds : IfAllStand pool tables (λ frames leads. pool.holds ≡ held_once pool.holds
      (frames_for (missing_found frames span (hwpt_of tables file id)) pool.holds))
  none_holds frames leads stand = ap (held_once pool.holds) (sym (no_frame frames))

  pub none_free : IfAllStand pool tables (λ frames leads. free_count pool.holds
      + length (missing_found frames span (hwpt_of tables file id)) ≡ free_count pool.holds)
  none_free frames leads stand =
      let same = ap (λ (m : List MissingTable). length m) (nothing frames) in omega (arith, same)

  pub none_out : (out : List FrameNo) → IfAllStand pool tables (λ frames leads. out ≡ out
      ++ frames_for (missing_found frames span (hwpt_of tables file id)) pool.holds)
  none_out out frames leads stand = sym (append-nil out) ∙ ap (λ (fs : List FrameNo). out ++ fs) (sym (no_frame frames))

  pub none_all : (to : List FrameNo) (rights : Rights)
      → IfAllStand pool tables (λ frames leads. (others : Leads)
      → LeadsMapped (is_object file id) (page_of span.first) to rights leads others
      → AllStand pool (with_missing frames (missing_found frames span (hwpt_of tables file id)) pool.holds) others
      tables)
  none_all to rights frames leads stand others mapped =
      subst (λ (m : List MissingTable). AllStand pool (with_missing frames m pool.holds) others tables)
      (sym (nothing frames))
      (subst (λ (l : List TableFrame). AllStand pool l others tables) (sym (append-nil frames))
      (all_told pool frames leads others tables stand
      (λ x inside page. mapped.others x.object page (not_found file id tables none x inside))))
