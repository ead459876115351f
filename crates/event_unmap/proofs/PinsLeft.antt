-- As areas go, or page tables do, the pages of the live areas that are left and that a page table translates stay
-- pinned where they were: so they lead where they did.
use Rattle.std.proofs.Common.{◌≡◌, ℕ, ◌<◌, Bool, true, ◌&&◌, not, eqb, ltb, Some, List, refl, ap, ◌∙◌, arith}
use Rattle.std.proofs.lemmas.Bool.Decides.{nat_tests}
use Rattle.frame_memory.specs.Pool.{FramePool}
use Rattle.iofd_rows.proofs.Bools.{and_true}
use Rattle.iofd_rows.proofs.ListTests.{alike, any-filter, any_weaker}
use Rattle.iofd_rows.specs.Pinned.{ArePinned}
use Rattle.iofd_words.specs.Areas.{areas_of}
use Rattle.iofd_words.specs.Objects.{has_hwpt}
use Rattle.iofd_words.specs.Pins as pin
use Rattle.iofd_words.specs.Pins.{ObjectPage}
use Rattle.iofd_words.specs.World.{World}
use Rattle.iofd_words.specs.declared.numbers.FileNo.{FileNo}
use Rattle.iofd_words.specs.declared.numbers.ObjId.{ObjId}
use Rattle.iofd_words.specs.declared.rows.Area.{Area}
use Rattle.iofd_words.specs.declared.rows.MemoryObject.{MemoryObject}
use Rattle.user_memory_rows.proofs.Gone.{few_translated}
use Rattle.user_memory_rows.specs.Moves.{IsReleased}
use Rattle.user_memory_rows.specs.Shown.{PinsShown, has_page, over, translated}
use Rattle.server_state.proofs.LeadsStay.{is_translated, lead_alike, pin_stays}
use Rattle.server_state.proofs.MemoryReleased.{AreFewer}
use Rattle.server_state.specs.Leads.{live_area_at, object_page, space_leads}
use Rattle.user_memory.specs.Changes.{HasLess}
use Rattle.user_memory.specs.Memory.{Memory, areas_over, rows_of, table_pins}

-- a memory object over which an area is left has the pages that it had
page_left : (areas pins : ℕ → ℕ) (old after : Memory) → HasLess areas pins old after → (page : ObjectPage)
    → 0 < areas_over after page.memory → has_page (rows_of after) page ≡ has_page (rows_of old) page
page_left areas pins old after less page some =
    ap (λ (rows : List MemoryObject). has_page rows page) less.rows
    ∙ any-filter test (λ (row : MemoryObject). not (eqb (areas_over after row.number) 0)) (rows_of old)
    ∙ alike _ _
    (λ any. any_weaker (λ (row : MemoryObject). not (eqb (areas_over after row.number) 0) && test row) test
    (rows_of old) (λ row both. (and_true _ _ both).1) any)
    (λ any. any_weaker test (λ (row : MemoryObject). not (eqb (areas_over after row.number) 0) && test row)
    (rows_of old) stays any)
  where
    test : MemoryObject → Bool
    test = λ (row : MemoryObject). eqb page.memory row.number && ltb page.index row.count

    stays : (row : MemoryObject) → (eqb page.memory row.number && ltb page.index row.count) ≡ true
        → (not (eqb (areas_over after row.number) 0) && (eqb page.memory row.number && ltb page.index row.count)) ≡ true
    stays row is =
        let named = (and_true (eqb page.memory row.number) (ltb page.index row.count) is).0 in
        let same : page.memory ≡ row.number = grind (arith, nat_tests) in
        let here : 0 < areas_over after row.number = rw same at some in
        let kept : not (eqb (areas_over after row.number) 0) ≡ true = search (here, arith, nat_tests) in
        rw kept is

module _ (at : ℕ) (w new : World) (old after : Memory) (before pool : FramePool) (areas pins : ℕ → ℕ) (left : List Area)
    (pinned : ArePinned at w) (was : PinsShown w.objects w.areas w.memory w.pins w.access_pins old)
    (is : PinsShown new.objects new.areas new.memory new.pins new.access_pins after)
    (same_objects : new.objects ≡ w.objects) (same_areas : new.areas ≡ left)
    (fewer : AreFewer areas pins w w.objects left) (released : IsReleased areas pins old after before pool) where
  pub leads_left : (file : FileNo) (ioas : ObjId) (page : ℕ) → has_hwpt w.objects file ioas ≡ true
      → space_leads new.pins left file ioas page ≡ space_leads w.pins left file ioas page
  leads_left file ioas page has = lead_alike (pin.pinned_frame w.pins) (pin.pinned_frame new.pins) page
      (live_area_at page (areas_of left file ioas)) each
    where
      each : (a : Area) → live_area_at page (areas_of left file ioas) ≡ Some a
          → pin.pinned_frame new.pins (object_page page a) ≡ pin.pinned_frame w.pins (object_page page a)
      each a found =
          let some : 0 < translated w.objects left a.memory = is_translated w.objects left file ioas page a has found in
          let few = few_translated w.objects left a.memory in
          let more = fewer.translated_left a.memory in
          let pins_old = was.tables a.memory in
          let pins_new : table_pins after a.memory ≡ translated w.objects left a.memory =
          is.tables a.memory ∙ ap (λ objects. translated objects new.areas a.memory) same_objects
          ∙ ap (λ l. translated w.objects l a.memory) same_areas in
          let areas_new : areas_over after a.memory ≡ over left a.memory =
          is.areas a.memory ∙ ap (λ l. over l a.memory) same_areas in
          pin_stays at w new old after before pool pinned was is released.settles (object_page page a)
          (page_left areas pins old after released.less (object_page page a) (omega (arith, areas_new, few, some)))
          (omega (arith, pins_old, more, some)) (omega (arith, pins_new, some))

-- ---- a pool with the same holds

-- as memory objects are let go of, only the holds of the pool are looked at; its bytes stay
pub released_over : (areas pins : ℕ → ℕ) (old after : Memory) (kept before pool : FramePool) → before.holds ≡ kept.holds
    → IsReleased areas pins old after before pool
    → IsReleased areas pins old after kept (record pool { bytes = kept.bytes })
released_over areas pins old after kept before pool same released = record {
  less = released.less;
  settles = record {
    pages = released.settles.pages;
    limits = released.settles.limits;
    frames = released.settles.frames;
    holds = record {
      count = rw same at released.settles.holds.count;
      holds = rw same at released.settles.holds.holds;
      backed = rw same at released.settles.holds.backed;
    };
    bytes = refl;
    kept = released.settles.kept;
  };
}
