-- An area that a device pays leads its pages where it did: a leaving one leads nowhere, before and after.
use Rattle.std.proofs.Common.{◌≡◌, ℕ, ◌*◌, cond, ◌&&◌, Option, Some, List, [], ◌∷◌, refl, ap, sym, ◌∙◌}
use Rattle.iofd_rows.proofs.Paid.{paid_areas_of}
use Rattle.iofd_words.specs.Areas.{all_paid, areas_of, paid, with_phase}
use Rattle.iofd_words.specs.Pins.{pinned_frame}
use Rattle.iofd_words.specs.Span.{holds}
use Rattle.iofd_words.specs.TablePlaces.{is_live}
use Rattle.iofd_words.specs.declared.numbers.DeviceNo.{DeviceNo}
use Rattle.iofd_words.specs.declared.numbers.FileNo.{FileNo}
use Rattle.iofd_words.specs.declared.numbers.ObjId.{ObjId}
use Rattle.iofd_words.specs.declared.rows.Area.{Area}
use Rattle.iofd_words.specs.declared.rows.Phase.{Phase}
use Rattle.iofd_words.specs.declared.rows.Phase.TheVariants.{Live, Leaving}
use Rattle.iofd_words.specs.declared.rows.Pin.{Pin}
use Rattle.server_state.specs.Leads.{lead_by, live_area_at, space_leads}

-- the same live area holds the page
live_area_paid : (device : DeviceNo) (page : ℕ) (areas : List Area)
    → live_area_at page (all_paid device areas) ≡ live_area_at page areas
live_area_paid device page [] = refl
live_area_paid device page (area ∷ areas) = by_phase area.phase refl (live_area_paid device page areas)
  where
    by_phase : (phase : Phase) → area.phase ≡ phase
        → live_area_at page (all_paid device areas) ≡ live_area_at page areas
        → live_area_at page (all_paid device (area ∷ areas)) ≡ live_area_at page (area ∷ areas)
    by_phase Live is rest =
        ap (λ (phase : Phase). cond (is_live (paid device phase) && holds area.span (page * 4096))
        (Some (with_phase (paid device phase) area)) (live_area_at page (all_paid device areas))) is
        ∙ ap (λ (others : Option Area). cond (holds area.span (page * 4096)) (Some (with_phase Live area)) others) rest
        ∙ ap (λ (phase : Phase). cond (is_live phase && holds area.span (page * 4096)) (Some (with_phase phase area))
        (live_area_at page areas)) (sym is)
    by_phase (Leaving owed tries) is rest =
        ap (λ (phase : Phase). cond (is_live (paid device phase) && holds area.span (page * 4096))
        (Some (with_phase (paid device phase) area)) (live_area_at page (all_paid device areas))) is
        ∙ rest
        ∙ ap (λ (phase : Phase). cond (is_live phase && holds area.span (page * 4096)) (Some (with_phase phase area))
        (live_area_at page areas)) (sym is)

-- so each page leads where it did
pub paid_leads : (pins : List Pin) (device : DeviceNo) (areas : List Area) (file : FileNo) (ioas : ObjId) (page : ℕ)
    → space_leads pins (all_paid device areas) file ioas page ≡ space_leads pins areas file ioas page
paid_leads pins device areas file ioas page =
    ap (lead_by (pinned_frame pins) page) (ap (live_area_at page) (paid_areas_of device areas file ioas)
    ∙ live_area_paid device page (areas_of areas file ioas))
