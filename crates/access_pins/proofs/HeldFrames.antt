-- Where an access object holds a pin that covers an address, the page that an area of its address space has there is
-- pinned: so an access to what is pinned reaches a frame, which is one of the pool, and which a pin names.
use Rattle.std.proofs.Common.{◌≡◌, ◌≢◌, ℕ, ◌+◌, ◌<◌, Bool, true, eqb, ltb}
use Rattle.std.proofs.Common.{is_some, Option, Some, None, List, [], length, refl, ap, sym, ◌∙◌, arith}
use Rattle.std.specs.List.{find, list_all, list_any, splice}
use Rattle.std.proofs.lemmas.Bool.Decides.{nat_tests}
use Rattle.std.proofs.lemmas.List.{get_or-set_other}
use Rattle.frame_memory.specs.Pool.{FramePool, bytes_of, written}
use Rattle.iofd_rows.proofs.Each.{in_found, of_all, of_any, of_each}
use Rattle.iofd_runs.proofs.HeldAccess.{reaches_held}
use Rattle.iofd_words.specs.Accesses.{accessed_frame, frame_in}
use Rattle.iofd_words.specs.Areas.{area_at, areas_of}
use Rattle.iofd_words.specs.Frames.{FrameWrite}
use Rattle.iofd_words.specs.Objects.{access_ioas_of}
use Rattle.iofd_words.specs.Pins.{ObjectPage, is_page, page_of_pin}
use Rattle.iofd_words.specs.Pins.{pinned_frame}
use Rattle.iofd_words.specs.Policy.{page_in}
use Rattle.iofd_words.specs.View.{View, view}
use Rattle.iofd_words.specs.World.{World}
use Rattle.iofd_words.specs.declared.fault.AccessKind.TheVariants.{Read}
use Rattle.iofd_words.specs.declared.numbers.FileNo.{FileNo}
use Rattle.iofd_words.specs.declared.numbers.FrameNo.{FrameNo}
use Rattle.iofd_words.specs.declared.numbers.ObjId.{ObjId}
use Rattle.iofd_words.specs.declared.rows.Area.{Area}
use Rattle.iofd_words.specs.declared.rows.Object.{Object}
use Rattle.iofd_words.specs.declared.rows.Pin.{Pin}
use Rattle.iofd_words.specs.declared.rows.TableFrame.{TableFrame}
use Rattle.memory_objects.specs.Objects.{pins_on}
use Rattle.page_table_set.specs.PageTables.{AllStand, Hwpt}
use Rattle.page_table_words.specs.Rows.{MappedPage}
use Rattle.server_state.proofs.TablesFollow.{tables_follow}
use Rattle.server_state.proofs.ViewShown.{same_view}
use Rattle.server_state.specs.Seen.{seen}
use Rattle.server_state.specs.Shows.{Shows}
use Rattle.server_state.specs.Step.{IsTidy}
use Rattle.server_state.specs.declared.state.State.{State}
use Rattle.user_memory.specs.Memory.{Memory, reached}
use Rattle.user_memory_rows.specs.Shown.{FramesShown}

-- ---- the frame that is reached

-- it is that of a pin: what holds of the frame of each pin holds of it
module _ (w : World) (test : FrameNo → Bool) (each : list_all (λ (pin : Pin). test pin.frame) w.pins ≡ true) where
  pinned_such : (page : ObjectPage) (frame : FrameNo) → pinned_frame w.pins page ≡ Some frame → test frame ≡ true
  pinned_such page frame pinned = by_found (find (λ (pin : Pin). is_page (page_of_pin pin) page) w.pins) refl pinned
    where
      by_found : (o : Option Pin) → find (λ (pin : Pin). is_page (page_of_pin pin) page) w.pins ≡ o
          → elim o as (λ _. Option FrameNo) [ Some pin ↦ Some pin.frame | None ↦ None ] ≡ Some frame
          → test frame ≡ true
      by_found None found is = cc
      by_found (Some pin) found is =
          let same : pin.frame ≡ frame = cc in
          let among = (in_found (λ (p : Pin). is_page (page_of_pin p) page) w.pins pin found).0 in
          rw (← same) (of_each (λ (p : Pin). test p.frame) w.pins pin each among)

  frame_such : (file : FileNo) (id : ObjId) (address : ℕ) (frame : FrameNo)
      → accessed_frame (view w) file id address ≡ Some frame → test frame ≡ true
  frame_such file id address frame is = by_space (access_ioas_of w.objects file id) is
    where
      by_area : (o : Option Area) → frame_in (view w) o address ≡ Some frame → test frame ≡ true
      by_area None is = cc
      by_area (Some area) is = pinned_such (page_in area address) frame is

      by_space : (o : Option ObjId) → elim o as (λ _. Option FrameNo) [
        | Some to ↦ frame_in (view w) (area_at address (areas_of w.areas file to)) address
        | None ↦ None
      ] ≡ Some frame → test frame ≡ true
      by_space None is = cc
      by_space (Some to) is = by_area (area_at address (areas_of w.areas file to)) is

module _ {A : Type 0} (at : ℕ) (w : World) (s : State A) (tidy : IsTidy at w) (shows : Shows w s) (file : FileNo)
    (id : ObjId) (address : ℕ) where
  -- what is kept reaches the same
  pub frame_alike : accessed_frame (seen s) file id address ≡ accessed_frame (view w) file id address
  frame_alike = ap (λ (v : View). accessed_frame v file id address) (same_view w s shows tidy.tabled.owned)

  module _ (frame : FrameNo) (is : Some frame ≡ accessed_frame (seen s) file id address) where
    there : accessed_frame (view w) file id address ≡ Some frame
    there = sym frame_alike ∙ sym is

    -- the frame is one of the pool
    pub frame_in_pool : frame.0 < w.settings.pool
    frame_in_pool =
        let below = frame_such w (λ (f : FrameNo). ltb f.0 w.settings.pool) tidy.fit.pin_frames file id address frame
        there in
        search (below, arith, nat_tests)

    -- and a pin names it
    pub frame_named : 0 < reached s.memory frame.0
    frame_named =
        let named = frame_such w (λ (f : FrameNo). list_any (λ (pin : Pin). eqb pin.frame.0 f.0) w.pins) each file id
        address frame there in
        let counted : ltb 0 (pins_on s.memory.objects frame.0) ≡ true = sym (shows.pins.names frame.0) ∙ named in
        let some : 0 < pins_on s.memory.objects frame.0 = search (counted, arith, nat_tests) in
        omega (arith, some)
      where
        own : (n : ℕ) → eqb n n ≡ true
        own n = grind (arith, nat_tests)

        each : list_all (λ (pin : Pin). list_any (λ (other : Pin). eqb other.frame.0 pin.frame.0) w.pins) w.pins
            ≡ true
        each = of_all (λ (pin : Pin). list_any (λ (other : Pin). eqb other.frame.0 pin.frame.0) w.pins) w.pins
            (λ pin within. of_any (λ (other : Pin). eqb other.frame.0 pin.frame.0) w.pins pin within
            (own pin.frame.0))

  -- where a pin covers the address there is one
  pub has_frame : (view w).is_covered file id address Read ≡ true
      → is_some (accessed_frame (seen s) file id address) ≡ true
  has_frame covered =
      ap (λ (o : Option FrameNo). is_some o) (frame_alike
      ∙ (reaches_held at w tidy.pins tidy.fit tidy.pins_fit file id address Read covered).frame_is)

-- ---- page tables

-- bytes that are written to a frame that is named leave all page tables
pub tables_written : (pool : ℕ) (writes others : List FrameWrite) (frames : List TableFrame) (leads : Object → ℕ
    → Option MappedPage) (tables : List Hwpt) (memory : Memory) (before : FramePool) (frame
    offset : ℕ) (bytes : List ℕ)
    → AllStand before frames leads tables → FramesShown pool writes frames memory before
    → FramesShown pool others frames memory (written before frame offset bytes)
    → 0 < reached memory frame → AllStand (written before frame offset bytes) frames leads tables
tables_written pool writes others frames leads tables memory before frame offset bytes stand shown after named =
    tables_follow pool writes others frames leads tables memory memory before
    (written before frame offset bytes) stand shown after
    (λ f held some. some)
    (λ f held none. get_or-set_other before.bytes frame f
    (splice (bytes_of before frame) offset (offset + length bytes) bytes) [] (differs f none))
  where
    differs : (f : ℕ) → reached memory f ≡ 0 → f ≢ frame
    differs f none same = let here : reached memory frame ≡ 0 = rw same at none in omega (arith, here, named)
