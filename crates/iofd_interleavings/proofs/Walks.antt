-- What a walk of a device's page table finds, a cache may be filled with.
use Rattle.std.proofs.Common.{◌≡◌, ◌≤◌, ℕ, ◌-◌, ◌*◌, ◌/◌, ◌%◌, true, ◌&&◌, leb, Option, Some}
use Rattle.std.proofs.Common.{None, List, refl, ap, sym, ◌∙◌, subst, arith}
use Rattle.std.proofs.lemmas.Bool.Decides.{nat_tests}
use Rattle.iofd_words.specs.Areas.{area_at, areas_of, is_of}
use Rattle.iofd_words.specs.Attachments.{attachment_of, ioas_of_attachment}
use Rattle.iofd_words.specs.Pages.{page_of}
use Rattle.iofd_words.specs.Pins.{ObjectPage, pinned_frame}
use Rattle.iofd_words.specs.Policy.{page_in}
use Rattle.iofd_steps.specs.Run.{IsRun, world_of}
use Rattle.iofd_words.specs.Record.{Record}
use Rattle.iofd_words.specs.Settings.{Settings}
use Rattle.iofd_words.specs.Span.{holds}
use Rattle.iofd_words.specs.View.{view}
use Rattle.iofd_words.specs.Walk.{at_pin, by_area, mapped_by, through, translation}
use Rattle.iofd_words.specs.World.{World}
use Rattle.iofd_words.specs.declared.numbers.DeviceNo.{DeviceNo}
use Rattle.iofd_words.specs.declared.numbers.FrameNo.{FrameNo}
use Rattle.iofd_words.specs.declared.numbers.ObjId.{ObjId}
use Rattle.iofd_words.specs.declared.query.Translation.{Translation}
use Rattle.iofd_words.specs.declared.rows.Area.{Area}
use Rattle.iofd_words.specs.declared.rows.Attachment.{Attachment}
use Rattle.iofd_words.specs.declared.rows.Phase.{Phase}
use Rattle.iofd_words.specs.declared.rows.Phase.TheVariants.{Live, Leaving}
use Rattle.iofd_rows.proofs.Bools.{and_true, both_true}
use Rattle.iofd_rows.proofs.Each.{in_filter, in_found, of_each}
use Rattle.iofd_runs.specs.Fits.{RowsFit, begins_at_page}
use Rattle.iofd_promises.proofs.Facts.{fits_of}
use Rattle.iofd_promises.proofs.Rows.{contains}
use Rattle.iofd_interleavings.specs.Caches.{may_use}
use Rattle.iofd_interleavings.specs.Steps.{IsFill, filled_by}

-- ---- the first address of the page

first_held : (first last address : ℕ) → first % 4096 ≡ 0 → first ≤ address → address ≤ last
    → (leb first (4096 * page_of address) && leb (4096 * page_of address) last) ≡ true
first_held first last address begins low high =
    let at : first ≤ 4096 * (address / 4096) = omega (arith, begins, low) in
    let under : 4096 * (address / 4096) ≤ last = omega (arith, high) in
    let above : leb first (4096 * page_of address) ≡ true = search (at, arith, nat_tests) in
    let below : leb (4096 * page_of address) last ≡ true = search (under, arith, nat_tests) in
    both_true (leb first (4096 * page_of address)) (leb (4096 * page_of address) last) above below

first_index : (first address : ℕ) → first % 4096 ≡ 0 → first ≤ address
    → (4096 * page_of address - first) / 4096 ≡ (address - first) / 4096
first_index first address begins low = omega (arith, begins, low)

-- ---- in a world where areas begin at pages

module _ (w : World) (fits : RowsFit w) (device : DeviceNo) (address : ℕ) (t : Translation) where
  -- an area that holds the address, by the attachment, and its pin
  backed : (a : Attachment) (ioas : ObjId) (area : Area) → attachment_of w.attachments device ≡ Some a
      → ioas_of_attachment w.objects a ≡ Some ioas → area_at address (areas_of w.areas a.file ioas) ≡ Some area
      → (phase : Phase) → area.phase ≡ phase → (pinned : Option FrameNo)
      → pinned_frame w.pins (page_in area address) ≡ pinned → by_area (pinned_frame w.pins) address area phase ≡ Some t
      → at_pin area pinned ≡ Some t → IsFill w device (filled_by address t)
  backed a ioas area attached space found (Leaving owed tries) phase pinned at is told = cc
  backed a ioas area attached space found Live phase None at is told = cc
  backed a ioas area attached space found Live phase (Some frame) at is told =
      let there = in_found (λ (x : Area). holds x.span address) (areas_of w.areas a.file ioas) area found in
      let own = in_filter (is_of a.file ioas) w.areas area there.0 in
      let held = and_true (leb area.span.first address) (leb address area.span.last) there.1 in
      let begins : area.span.first % 4096 ≡ 0 =
      search (of_each begins_at_page w.areas area fits.starts own.0, arith, nat_tests) in
      let low : area.span.first ≤ address = search (held.0, arith, nat_tests) in
      let high : address ≤ area.span.last = search (held.1, arith, nat_tests) in
      let frame_is : frame ≡ t.frame = cc in
      let rights_are : area.rights ≡ t.rights = cc in
      let page : page_in area (4096 * page_of address) ≡ page_in area address =
      ap (λ (i : ℕ). let page : ObjectPage = record { memory = area.memory; index = i } in page)
      (first_index area.span.first address begins low) in
      record {
        backed = record {
          attachment = a;
          attached = attached;
          ioas = ioas;
          space = space;
          area = area;
          there = contains w.areas area own.0;
          own = own.1;
          covers = first_held area.span.first area.span.last address begins low high;
          rights = rights_are;
          phase = subst (λ (p : Phase). may_use device p ≡ true) (sym phase) refl;
          pinned = ap (pinned_frame w.pins) page ∙ (at ∙ ap Some frame_is);
        };
        live = phase;
      }

  by_pin : (a : Attachment) (ioas : ObjId) (area : Area) → attachment_of w.attachments device ≡ Some a
      → ioas_of_attachment w.objects a ≡ Some ioas → area_at address (areas_of w.areas a.file ioas) ≡ Some area
      → (phase : Phase) → area.phase ≡ phase → by_area (pinned_frame w.pins) address area phase ≡ Some t
      → IsFill w device (filled_by address t)
  by_pin a ioas area attached space found (Leaving owed tries) phase is = cc
  by_pin a ioas area attached space found Live phase is =
      backed a ioas area attached space found Live phase (pinned_frame w.pins (page_in area address)) refl is is

  by_space : (a : Attachment) → attachment_of w.attachments device ≡ Some a → (o : Option ObjId)
      → ioas_of_attachment w.objects a ≡ o
      → elim o as (λ _. Option Translation) [
        | Some ioas ↦ mapped_by (pinned_frame w.pins) address (area_at address (areas_of w.areas a.file ioas))
        | None ↦ None
      ] ≡ Some t → IsFill w device (filled_by address t)
  by_space a attached None space is = cc
  by_space a attached (Some ioas) space is = at_area (area_at address (areas_of w.areas a.file ioas)) refl is
    where
      at_area : (o : Option Area) → area_at address (areas_of w.areas a.file ioas) ≡ o
          → mapped_by (pinned_frame w.pins) address o ≡ Some t → IsFill w device (filled_by address t)
      at_area None found is = cc
      at_area (Some area) found is = by_pin a ioas area attached space found area.phase refl is

  pub walk_fills : translation (view w) device address ≡ Some t → IsFill w device (filled_by address t)
  unfolding translation
  walk_fills is = by_attachment (attachment_of w.attachments device) refl is
    where
      by_attachment : (o : Option Attachment) → attachment_of w.attachments device ≡ o
          → elim o as (λ _. Option Translation) [ Some a ↦ through (view w) address a | None ↦ None ] ≡ Some t
          → IsFill w device (filled_by address t)
      by_attachment None attached is = cc
      by_attachment (Some a) attached is = by_space a attached (ioas_of_attachment w.objects a) refl is

pub run_fills : {A : Type 0} (settings : Settings) (records : List (Record A)) (device : DeviceNo) (address : ℕ)
    (t : Translation) → IsRun settings records → translation (view (world_of settings records)) device address ≡ Some t
    → IsFill (world_of settings records) device (filled_by address t)
run_fills settings records device address t run is =
    walk_fills (world_of settings records) (fits_of settings records run) device address t is
