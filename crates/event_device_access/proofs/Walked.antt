-- What comes of an access without a cached frame is told by the walk of the device's page table.
use Rattle.std.proofs.Common.{◌≡◌, ℕ, ◌<◌, ◌^◌, Bool, true, false, cond, leb, is_some, Option, Some}
use Rattle.std.proofs.Common.{None, List, [], ◌∷◌, refl, ap, sym, ◌∙◌}
use Rattle.std.specs.Option.{option_map_or}
use Rattle.event_device_access.specs.Outcomes.{chosen_outcome}
use Rattle.page_table_set.specs.PageTables.{hwpt_of, walk_through}
use Rattle.iofd_rows.proofs.Bools.{clash}
use Rattle.iofd_runs.proofs.PinnedAccess.{page_pinned}
use Rattle.iofd_words.specs.Areas.{area_at, areas_of}
use Rattle.iofd_words.specs.Attachments.{attachment_of, ioas_of_attachment}
use Rattle.iofd_words.specs.DeviceSet.{has_device}
use Rattle.iofd_words.specs.Fault.{denied_by}
use Rattle.iofd_words.specs.Files.{device_of}
use Rattle.iofd_words.specs.Pins.{pinned_frame}
use Rattle.iofd_words.specs.Policy as policy
use Rattle.iofd_words.specs.Policy.{Denied, Outcome, Passes, page_in}
use Rattle.iofd_words.specs.Rights.{has_right}
use Rattle.iofd_words.specs.Settings.{DeviceSettings}
use Rattle.iofd_words.specs.View.{View, view}
use Rattle.iofd_words.specs.World.{World}
use Rattle.iofd_words.specs.declared.fault.AccessKind.{AccessKind}
use Rattle.iofd_words.specs.declared.fault.FaultReason.TheVariants.{BeyondWidth, NoContext, WriteDenied}
use Rattle.iofd_words.specs.declared.flags.Rights.{Rights}
use Rattle.iofd_words.specs.declared.numbers.DeviceNo.{DeviceNo}
use Rattle.iofd_words.specs.declared.numbers.FrameNo.{FrameNo}
use Rattle.iofd_words.specs.declared.numbers.ObjId.{ObjId}
use Rattle.iofd_words.specs.declared.rows.Area.{Area}
use Rattle.iofd_words.specs.declared.rows.Attachment.{Attachment}
use Rattle.iofd_words.specs.declared.rows.Phase.{Phase}
use Rattle.iofd_words.specs.declared.rows.Phase.TheVariants.{Live, Leaving}
use Rattle.iofd_words.specs.Width.{bits_of}
use Rattle.page_table.specs.declared.walk.Walk.{Walk}
use Rattle.page_table.specs.declared.walk.Walk.TheVariants as walk
use Rattle.server_state.specs.Choice.{without_cache}
use Rattle.server_state.specs.Leads.{leads_of}
use Rattle.server_state.specs.Shows.{Shows}
use Rattle.server_state.specs.Step.{IsTidy}
use Rattle.server_state.specs.declared.state.State.{State}
use Rattle.iofd_words.specs.Walk.{at_pin, by_area, mapped_by, through}
use Rattle.iofd_words.specs.declared.query.Translation.{Translation}
use Rattle.event_device_access.proofs.Translated.{translation_of, walk_finds}

-- what comes of it by what its page is translated to
abbrev pub of_translation : AccessKind → Option Translation → Outcome
of_translation kind (Some to) = cond (has_right to.rights kind) (Passes to.frame) (Denied (denied_by kind))
of_translation kind None = Denied (denied_by kind)

-- and by the walk
abbrev pub of_walk : AccessKind → Walk → Outcome
of_walk kind to = of_translation kind (translation_of to)

-- ---- what is given without a cached frame

-- where the area is leaving it is the denial
leaving_denied : (frame : FrameNo) (kind : AccessKind) (b : Bool)
    → without_cache (cond b (Passes frame ∷ Denied (denied_by kind) ∷ []) (Denied (denied_by kind) ∷ [])) ≡ Some
    (Denied (denied_by kind))
leaving_denied frame kind false = refl
leaving_denied frame kind true = refl

module _ {A : Type 0} (at : ℕ) (w : World) (s : State A) (tidy : IsTidy at w) (shows : Shows w s) (device : DeviceNo)
    (a : Attachment) (address : ℕ) (small : address < 2 ^ 64) (right : AccessKind) where
  -- where the area's page is pinned at a frame
  at_frame : (area : Area) (frame : FrameNo) → pinned_frame w.pins (page_in area address) ≡ Some frame
      → without_cache (policy.at_area (pinned_frame w.pins) device address right (Some area)) ≡ Some
      (of_translation right (mapped_by (pinned_frame w.pins) address (Some area)))
  at_frame area frame pinned =
      ap (λ (o : Option FrameNo). without_cache
      (cond (has_right area.rights right) (policy.by_phase device area.phase (policy.passing o)
      (Denied (denied_by right) ∷ [])) (Denied (denied_by right) ∷ []))) pinned
      ∙ by_phase area.phase
    where
      by_right : (b : Bool) → without_cache (cond b (Passes frame ∷ []) (Denied (denied_by right) ∷ [])) ≡ Some
          (cond b (Passes frame) (Denied (denied_by right)))
      by_right true = refl
      by_right false = refl

      leaves : (owed : List ℕ) (b : Bool) → without_cache
          (cond b (cond (has_device owed device.0) (Passes frame ∷ Denied (denied_by right) ∷ [])
          (Denied (denied_by right) ∷ [])) (Denied (denied_by right) ∷ [])) ≡ Some (Denied (denied_by right))
      leaves owed true = leaving_denied frame right (has_device owed device.0)
      leaves owed false = refl

      by_phase : (phase : Phase) → without_cache (cond (has_right area.rights right)
          (policy.by_phase device phase (Passes frame ∷ []) (Denied (denied_by right) ∷ []))
          (Denied (denied_by right) ∷ []))
          ≡ Some (of_translation right (by_area (pinned_frame w.pins) address area phase))
      by_phase Live =
          by_right (has_right area.rights right)
          ∙ ap (λ (o : Option FrameNo). Some (of_translation right (at_pin area o))) (sym pinned)
      by_phase (Leaving owed tries) = leaves owed (has_right area.rights right)

  -- by the area that holds the address
  by_space : (ioas : ObjId) → ioas_of_attachment w.objects a ≡ Some ioas → (o : Option Area)
      → area_at address (areas_of w.areas a.file ioas) ≡ o
      → without_cache (policy.at_area (pinned_frame w.pins) device address right o) ≡ Some
      (of_translation right (mapped_by (pinned_frame w.pins) address o))
  by_space ioas over None found = refl
  by_space ioas over (Some area) found = by_frame (pinned_frame w.pins (page_in area address)) refl
    where
      by_frame : (o : Option FrameNo) → pinned_frame w.pins (page_in area address) ≡ o
          → without_cache (policy.at_area (pinned_frame w.pins) device address right (Some area)) ≡ Some
          (of_translation right (mapped_by (pinned_frame w.pins) address (Some area)))
      by_frame (Some frame) pinned = at_frame area frame pinned
      by_frame None pinned = absurd (clash _ (ap (λ (o : Option FrameNo). is_some o) pinned)
          (page_pinned at w a ioas area address tidy.pins tidy.fit over found))

  -- by the address space
  abbrev outcomes_over : Option ObjId → List Outcome
  outcomes_over o = elim o as (λ _. List Outcome) [
    | Some ioas ↦ policy.at_area (pinned_frame w.pins) device address right
        (area_at address (areas_of w.areas a.file ioas))
    | None ↦ Denied (denied_by right) ∷ []
  ]

  abbrev translated_over : Option ObjId → Option Translation
  translated_over o = elim o as (λ _. Option Translation) [
    | Some ioas ↦ mapped_by (pinned_frame w.pins) address (area_at address (areas_of w.areas a.file ioas))
    | None ↦ None
  ]

  -- by what the page is translated to
  translation_tells : without_cache (policy.translated (view w) device address right a) ≡ Some
      (of_translation right (through (view w) address a))
  translation_tells = by_table (ioas_of_attachment w.objects a) refl
    where
      by_table : (o : Option ObjId) → ioas_of_attachment w.objects a ≡ o
          → without_cache (outcomes_over (ioas_of_attachment w.objects a)) ≡ Some
          (of_translation right (translated_over (ioas_of_attachment w.objects a)))
      by_table None over =
          ap (λ (o : Option ObjId). without_cache (outcomes_over o)) over
          ∙ ap (λ (o : Option ObjId). Some (of_translation right (translated_over o))) (sym over)
      by_table (Some ioas) over =
          ap (λ (o : Option ObjId). without_cache (outcomes_over o)) over
          ∙ by_space ioas over (area_at address (areas_of w.areas a.file ioas)) refl
          ∙ ap (λ (o : Option ObjId). Some (of_translation right (translated_over o))) (sym over)

  -- what is given of an access by its attachment
  walk_tells : attachment_of w.attachments device ≡ Some a
      → without_cache (policy.translated (view w) device address right a) ≡ Some
      (of_walk right (walk_through (leads_of w) address (hwpt_of s.page_tables.tables a.file a.hwpt)))
  walk_tells attached =
      translation_tells
      ∙ ap (λ (to : Option Translation). Some (of_translation right to))
      (walk_finds at w s tidy shows a address small device attached)

  -- the same of the access, below the width of the device's tables
  pub walk_given : attachment_of w.attachments device ≡ Some a
      → option_map_or (λ (d : DeviceSettings). leb (2 ^ bits_of d.width) address)
      (device_of w.settings device) false ≡ false
      → chosen_outcome None (policy.outcomes w device address right) ≡ of_walk right
      (walk_through (leads_of w) address (hwpt_of s.page_tables.tables a.file a.hwpt))
  unfolding policy.outcomes policy.access_outcomes
  walk_given attached near =
      ap (λ (o : Option Attachment). chosen_outcome None
      (elim o as (λ _. List Outcome) [
        | None ↦ Denied NoContext ∷ []
        | Some b ↦ policy.by_width (device_of w.settings device) address (Denied BeyondWidth ∷ [])
            (policy.translated (view w) device address right b)
      ])) attached
      ∙ ap (chosen_outcome None) (by_settings (device_of w.settings device) near)
      ∙ ap (λ (o : Option Outcome). elim o as (λ _. Outcome) [ Some outcome ↦ outcome | None ↦ Denied WriteDenied ])
      (walk_tells attached)
    where
      by_settings : (o : Option DeviceSettings)
          → option_map_or (λ (d : DeviceSettings). leb (2 ^ bits_of d.width) address) o false ≡ false
          → policy.by_width o address (Denied BeyondWidth ∷ []) (policy.translated (view w) device address right a)
          ≡ policy.translated (view w) device address right a
      by_settings None near = refl
      by_settings (Some d) near = rw near refl

  -- where the walk hits with the right it passes
  pub hit_given : attachment_of w.attachments device ≡ Some a
      → option_map_or (λ (d : DeviceSettings). leb (2 ^ bits_of d.width) address)
      (device_of w.settings device) false ≡ false
      → (frame : FrameNo) (rights : Rights) → walk.Hit frame rights ≡ walk_through (leads_of w) address
      (hwpt_of s.page_tables.tables a.file a.hwpt) → has_right rights right ≡ true
      → chosen_outcome None (policy.outcomes w device address right) ≡ Passes frame
  hit_given attached near frame rights hit has =
      walk_given attached near ∙ ap (of_walk right) (sym hit)
      ∙ ap (λ (b : Bool). cond b (Passes frame) (Denied (denied_by right))) has

  -- where it hits without the right it is denied
  pub unright_given : attachment_of w.attachments device ≡ Some a
      → option_map_or (λ (d : DeviceSettings). leb (2 ^ bits_of d.width) address)
      (device_of w.settings device) false ≡ false
      → (frame : FrameNo) (rights : Rights) → walk.Hit frame rights ≡ walk_through (leads_of w) address
      (hwpt_of s.page_tables.tables a.file a.hwpt) → has_right rights right ≡ false
      → chosen_outcome None (policy.outcomes w device address right) ≡ Denied (denied_by right)
  unright_given attached near frame rights hit lacks =
      walk_given attached near ∙ ap (of_walk right) (sym hit)
      ∙ ap (λ (b : Bool). cond b (Passes frame) (Denied (denied_by right))) lacks

  -- and so it is where it doesn't hit
  pub missed_given : attachment_of w.attachments device ≡ Some a
      → option_map_or (λ (d : DeviceSettings). leb (2 ^ bits_of d.width) address)
      (device_of w.settings device) false ≡ false
      → (to : Walk) → to ≡ walk_through (leads_of w) address (hwpt_of s.page_tables.tables a.file a.hwpt)
      → ((frame : FrameNo) (rights : Rights) → to ≡ walk.Hit frame rights → ⊥)
      → chosen_outcome None (policy.outcomes w device address right) ≡ Denied (denied_by right)
  missed_given attached near to is misses = walk_given attached near ∙ ap (of_walk right) (sym is) ∙ by_case to misses
    where
      by_case : (to : Walk) → ((frame : FrameNo) (rights : Rights) → to ≡ walk.Hit frame rights → ⊥)
          → of_walk right to ≡ Denied (denied_by right)
      by_case (walk.Hit frame rights) misses = absurd (misses frame rights refl)
      by_case walk.Beyond misses = refl
      by_case walk.None misses = refl

-- ---- where no page table is asked

module _ (v : View) (device : DeviceNo) (address : ℕ) (right : AccessKind) where
  -- the device isn't attached
  pub unattached_given : attachment_of v.attachments device ≡ None
      → chosen_outcome None (policy.access_outcomes v device address right) ≡ Denied NoContext
  unfolding policy.access_outcomes
  unattached_given none =
      ap (λ (o : Option Attachment). chosen_outcome None
      (elim o as (λ _. List Outcome) [
        | None ↦ Denied NoContext ∷ []
        | Some a ↦ policy.by_width (device_of v.settings device) address (Denied BeyondWidth ∷ [])
            (policy.translated v device address right a)
      ])) none

  -- the address is beyond the width of its tables
  pub beyond_given : (a : Attachment) → attachment_of v.attachments device ≡ Some a
      → option_map_or (λ (d : DeviceSettings). leb (2 ^ bits_of d.width) address)
      (device_of v.settings device) false ≡ true
      → chosen_outcome None (policy.access_outcomes v device address right) ≡ Denied BeyondWidth
  unfolding policy.access_outcomes
  beyond_given a attached far =
      ap (λ (o : Option Attachment). chosen_outcome None
      (elim o as (λ _. List Outcome) [
        | None ↦ Denied NoContext ∷ []
        | Some b ↦ policy.by_width (device_of v.settings device) address (Denied BeyondWidth ∷ [])
            (policy.translated v device address right b)
      ])) attached
      ∙ by_settings (device_of v.settings device) far
    where
      by_settings : (o : Option DeviceSettings)
          → option_map_or (λ (d : DeviceSettings). leb (2 ^ bits_of d.width) address) o false ≡ true
          → chosen_outcome None (policy.by_width o address (Denied BeyondWidth ∷ [])
          (policy.translated v device address right a)) ≡ Denied BeyondWidth
      by_settings None far = cc
      by_settings (Some d) far = ap (λ (b : Bool). chosen_outcome None
          (cond b (Denied BeyondWidth ∷ []) (policy.translated v device address right a))) far
