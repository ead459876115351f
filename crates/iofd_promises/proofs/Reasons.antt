-- The reason of a denial, by the case of the policy that it comes from.
use Rattle.std.proofs.Common.{◌≡◌, ◌≢◌, ◌<◌, ◌≤◌, ℕ, zero, suc, ◌^◌, Bool, true, false, cond, eqb, leb, Option, Some}
use Rattle.std.proofs.Common.{None, is_some, List, [], ◌∷◌, ◌++◌, refl, ap, sym, ◌∙◌, subst, arith, inl, inr}
use Rattle.std.specs.List.{list_any}
use Rattle.std.proofs.lemmas.Bool.Decides.{nat_tests}
use Rattle.iofd_words.specs.Areas.{area_at, areas_of}
use Rattle.iofd_words.specs.Attachments.{attachment_of, ioas_of_attachment}
use Rattle.iofd_words.specs.DeviceSet.{has_device}
use Rattle.iofd_words.specs.Fault.{denied_by}
use Rattle.iofd_words.specs.Files.{device_of, numbered}
use Rattle.iofd_words.specs.Pins.{pinned_frame}
use Rattle.iofd_words.specs.Policy.{Outcome, Denied, access_outcomes, at_area, by_phase, by_width, fault_of, outcomes}
use Rattle.iofd_words.specs.Policy.{page_in, passing, translated}
use Rattle.iofd_words.specs.Rights.{has_right}
use Rattle.iofd_words.specs.Settings.{DeviceSettings}
use Rattle.iofd_words.specs.View.{view}
use Rattle.iofd_words.specs.Width.{bits_of}
use Rattle.iofd_words.specs.World.{World}
use Rattle.iofd_words.specs.declared.fault.AccessKind.{AccessKind}
use Rattle.iofd_words.specs.declared.fault.AccessKind.TheVariants.{Read, Write}
use Rattle.iofd_words.specs.declared.fault.Fault.{Fault}
use Rattle.iofd_words.specs.declared.fault.FaultReason.{FaultReason}
use Rattle.iofd_words.specs.declared.fault.FaultReason.TheVariants.{NoContext, BeyondWidth}
use Rattle.iofd_words.specs.declared.numbers.DeviceNo.{DeviceNo}
use Rattle.iofd_words.specs.declared.numbers.FrameNo.{FrameNo}
use Rattle.iofd_words.specs.declared.numbers.ObjId.{ObjId}
use Rattle.iofd_words.specs.declared.rows.Area.{Area}
use Rattle.iofd_words.specs.declared.rows.Attachment.{Attachment}
use Rattle.iofd_words.specs.declared.rows.Phase.{Phase}
use Rattle.iofd_words.specs.declared.rows.Phase.TheVariants.{Live, Leaving}
use Rattle.iofd_words.specs.declared.width.Width.{Width}
use Rattle.iofd_words.specs.declared.width.Width.TheVariants.{Bits39, Bits48, Bits57}
use Rattle.iofd_rows.proofs.Each.{IsIn, in_found}
use Rattle.iofd_rows.proofs.Unusable.{each_not}
use Rattle.iofd_runs.proofs.OwnIds.{any_found}
use Rattle.iofd_promises.specs.Reaches.{IsSetFor, IsWhy, IsWithin, TellsWhy}
use Rattle.iofd_promises.specs.Reserved.{end_of}
use Rattle.iofd_promises.proofs.Reached.{device_is}
use Rattle.iofd_promises.proofs.Rows.{contains, within}

-- ---- settings by number

set_of : (w : World) (device : DeviceNo) (d : DeviceSettings) → device_of w.settings device ≡ Some d
    → IsSetFor w device d
set_of w device d is = by_number device.0 refl is
  where
    by_number : (n : ℕ) → device.0 ≡ n → numbered w.settings.devices n ≡ Some d → IsSetFor w device d
    by_number zero number is = cc
    by_number (suc n) number is = (n, omega (arith, number), is)

known_set : (w : World) (device : DeviceNo) (d : DeviceSettings) → IsSetFor w device d
    → device_of w.settings device ≡ Some d
known_set w device d (n, number, is) =
    let next : device.0 ≡ suc n = omega (arith, number) in ap (numbered w.settings.devices) next ∙ is

pub bits_end : (width : Width) → 2 ^ bits_of width ≡ end_of width
bits_end Bits39 = refl
bits_end Bits48 = refl
bits_end Bits57 = refl

-- ---- the reasons of an attached device

abbrev IsFor : AccessKind → List Outcome → Type 0
IsFor access xs = (reason : FaultReason) → IsIn xs (Denied reason) → reason ≡ denied_by access

only_denied : (access : AccessKind) → IsFor access (Denied (denied_by access) ∷ [])
only_denied access reason (inl is) = cc
only_denied access reason (inr never) = absurd never

passes_or : (access : AccessKind) (o : Option FrameNo) (xs : List Outcome) → IsFor access xs
    → IsFor access (passing o ++ xs)
passes_or access None xs rest reason there = rest reason there
passes_or access (Some frame) xs rest reason (inl is) = cc
passes_or access (Some frame) xs rest reason (inr later) = rest reason later

module _ (w : World) (device : DeviceNo) (address : ℕ) (access : AccessKind) where
  phase_for : (area : Area) (phase : Phase)
      → IsFor access (by_phase device phase (passing (pinned_frame w.pins (page_in area address)))
      (Denied (denied_by access) ∷ []))
  phase_for area Live reason there = absurd (none (pinned_frame w.pins (page_in area address)) there)
    where
      none : (o : Option FrameNo) → IsIn (passing o) (Denied reason) → ⊥
      none None never = never
      none (Some frame) (inl is) = cc
      none (Some frame) (inr never) = never
  phase_for area (Leaving owed tries) reason there = by_debt (has_device owed device.0) reason there
    where
      by_debt : (b : Bool) → IsFor access (cond b (passing (pinned_frame w.pins (page_in area address))
          ++ Denied (denied_by access) ∷ []) (Denied (denied_by access) ∷ []))
      by_debt true = passes_or access (pinned_frame w.pins (page_in area address)) (Denied (denied_by access)
          ∷ []) (only_denied access)
      by_debt false = only_denied access

  area_for : (o : Option Area) → IsFor access (at_area (pinned_frame w.pins) device address access o)
  area_for None = only_denied access
  area_for (Some area) = by_right (has_right area.rights access)
    where
      by_right : (b : Bool) → IsFor access (cond b
          (by_phase device area.phase (passing (pinned_frame w.pins (page_in area address)))
          (Denied (denied_by access) ∷ [])) (Denied (denied_by access) ∷ []))
      by_right true = phase_for area area.phase
      by_right false = only_denied access

  space_for : (a : Attachment) (o : Option ObjId)
      → IsFor access (elim o [
        | Some ioas ↦ at_area (pinned_frame w.pins) device address access
            (area_at address (areas_of w.areas a.file ioas))
        | None ↦ Denied (denied_by access) ∷ []
      ])
  space_for a None = only_denied access
  space_for a (Some ioas) = area_for (area_at address (areas_of w.areas a.file ioas))

  why_denied : IsWithin w device address → IsWhy w device address access (denied_by access)
  why_denied inside = by_access access refl
    where
      by_access : (kind : AccessKind) → access ≡ kind → IsWhy w device address access (denied_by kind)
      by_access Read is = (is, inside)
      by_access Write is = (is, inside)

  attached_why : (a : Attachment) → attachment_of w.attachments device ≡ Some a → (o : Option DeviceSettings)
      → device_of w.settings device ≡ o → (reason : FaultReason)
      → IsIn (by_width o address (Denied BeyondWidth ∷ []) (translated (view w) device address access a))
      (Denied reason) → IsWhy w device address access reason
  attached_why a found o known reason there = by_settings o known there
    where
      listed : IsIn w.attachments a × (eqb a.device.0 device.0 ≡ true)
      listed = in_found (λ (b : Attachment). eqb b.device.0 device.0) w.attachments a found

      inside : ((d : DeviceSettings) → IsSetFor w device d → address < end_of d.width)
          → IsIn (translated (view w) device address access a) (Denied reason) → IsWhy w device address access reason
      inside below there =
          let is = space_for a (ioas_of_attachment w.objects a) reason there in
          subst (IsWhy w device address access) (sym is)
          (why_denied (record {
            attachment = a;
            attached = contains w.attachments a listed.0;
            of_device = device_is a.device device listed.1;
            below = below;
          }))

      by_end : (d : DeviceSettings) → device_of w.settings device ≡ Some d → (b : Bool)
          → leb (2 ^ bits_of d.width) address ≡ b → IsIn
          (cond b (Denied BeyondWidth ∷ []) (translated (view w) device address access a)) (Denied reason)
          → IsWhy w device address access reason
      by_end d is true above (inr never) = absurd never
      by_end d is true above (inl same) =
          let reason_is : BeyondWidth ≡ reason = cc in
          let end = bits_end d.width in
          let high : end_of d.width ≤ address = search (above, end, arith, nat_tests) in
          subst (IsWhy w device address access) reason_is (record {
            attachment = a;
            attached = contains w.attachments a listed.0;
            of_device = device_is a.device device listed.1;
            settings = d;
            set = set_of w device d is;
            above = high;
          })
      by_end d is false below there =
          inside (λ other set.
          let same : d ≡ other = some_once (sym is ∙ known_set w device other set) in
          let end = bits_end d.width in
          let low : address < end_of d.width = search (below, end, arith, nat_tests) in
          subst (λ (x : DeviceSettings). address < end_of x.width) same low) there
        where
          some_once : {x y : DeviceSettings} → (let o : Option DeviceSettings = Some x in o) ≡ Some y → x ≡ y
          some_once is = cc

      by_settings : (o : Option DeviceSettings) → device_of w.settings device ≡ o
          → IsIn (by_width o address (Denied BeyondWidth ∷ []) (translated (view w) device address access a))
          (Denied reason) → IsWhy w device address access reason
      by_settings None is there =
          inside (λ other set. absurd (none_some other (sym is ∙ known_set w device other set))) there
        where
          none_some : (x : DeviceSettings) → None ≡ Some x → ⊥
          none_some x is = cc
      by_settings (Some d) is there = by_end d is (leb (2 ^ bits_of d.width) address) refl there

  why : (reason : FaultReason) → IsIn (outcomes w device address access) (Denied reason)
      → IsWhy w device address access reason
  unfolding outcomes access_outcomes
  why reason there = by_attachment (attachment_of w.attachments device) refl there
    where
      by_attachment : (o : Option Attachment) → attachment_of w.attachments device ≡ o
          → IsIn (elim o [
            | None ↦ Denied NoContext ∷ []
            | Some a ↦ by_width (device_of w.settings device) address (Denied BeyondWidth ∷ [])
                (translated (view w) device address access a)
          ]) (Denied reason)
          → IsWhy w device address access reason
      by_attachment None found (inr never) = absurd never
      by_attachment None found (inl same) =
          let reason_is : NoContext ≡ reason = cc in
          let none : list_any (λ (b : Attachment). eqb b.device.0 device.0) w.attachments ≡ false =
          any_found (λ (b : Attachment). eqb b.device.0 device.0) w.attachments ∙ ap is_some found in
          subst (IsWhy w device address access) reason_is
          (λ a has. apart a.device.0 (each_not (λ (b : Attachment). eqb b.device.0 device.0) w.attachments a none
          (within w.attachments a has)))
        where
          apart : (n : ℕ) → eqb n device.0 ≡ false → n ≢ device.0
          apart n other same = search (other, same, arith, nat_tests)
      by_attachment (Some a) found there = attached_why a found (device_of w.settings device) refl reason there

  pub tells_why : (reason : FaultReason) (fault : Fault) → IsIn (outcomes w device address access) (Denied reason)
      → fault_of w.settings device address access reason ≡ fault → TellsWhy w device address access fault
  tells_why reason fault there told =
      subst (TellsWhy w device address access) told (record {
        page = refl;
        kind_is = refl;
        source = λ d set. ap (λ (o : Option DeviceSettings). elim o [ Some d ↦ d.source | None ↦ record { 0 = 0 } ])
            (known_set w device d set);
        why = why reason there;
      })
