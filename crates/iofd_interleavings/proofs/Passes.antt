-- In a world of a run, an access that has an entry with the right in a sound set passes at the entry's frame.
use Rattle.std.proofs.Common.{◌≡◌, ◌<◌, ◌≤◌, ℕ, ◌^◌, ◌+◌, ◌-◌, ◌*◌, ◌/◌, ◌%◌, Bool, true, false, cond, ◌&&◌, eqb}
use Rattle.std.proofs.Common.{leb, ltb, Option, Some, None, is_none, List, [], ◌∷◌, ◌++◌, refl, ap, sym, ◌∙◌, subst}
use Rattle.std.proofs.Common.{arith, inl}
use Rattle.std.specs.List.{list_all, list_any}
use Rattle.std.proofs.lemmas.Bool.{eqb-true}
use Rattle.std.proofs.lemmas.Bool.Decides.{nat_tests}
use Rattle.iofd_words.specs.Areas.{area_at, areas_of}
use Rattle.iofd_words.specs.Attachments.{is_attached_to}
use Rattle.iofd_refusals.specs.Checks.{access_checks, is_interrupt}
use Rattle.iofd_words.specs.Fault.{denied_by}
use Rattle.iofd_words.specs.Files.{device_of}
use Rattle.iofd_words.specs.FirstTrue.{first_true}
use Rattle.iofd_steps.specs.Look.{passes_in}
use Rattle.iofd_words.specs.Objects.{binding_of, is_hwpt_over}
use Rattle.iofd_words.specs.Pages.{crosses, is_whole, page_of}
use Rattle.iofd_words.specs.Pins.{pinned_frame}
use Rattle.iofd_words.specs.Policy.{Outcome, Passes, Denied, access_outcomes, at_area, by_phase, by_width, outcomes}
use Rattle.iofd_words.specs.Policy.{is_pass_at, page_in, passing, translated}
use Rattle.iofd_words.specs.Ranges.{meets_some}
use Rattle.iofd_words.specs.Rights.{has_right}
use Rattle.iofd_steps.specs.Run.{IsRun, world_of}
use Rattle.iofd_words.specs.Record.{Record}
use Rattle.iofd_words.specs.Settings.{DeviceSettings, Settings}
use Rattle.iofd_words.specs.Span.{holds, meets, size_of}
use Rattle.iofd_words.specs.Usable.{interrupt_range, reserved_of, unusable}
use Rattle.iofd_words.specs.View.{view}
use Rattle.iofd_words.specs.Width.{bits_of}
use Rattle.iofd_words.specs.World.{World, opening}
use Rattle.iofd_words.specs.declared.fault.AccessKind.{AccessKind}
use Rattle.iofd_words.specs.declared.fault.FaultReason.TheVariants.{BeyondWidth, NoContext}
use Rattle.iofd_words.specs.declared.flags.Rights.{Rights}
use Rattle.iofd_words.specs.declared.numbers.DeviceNo.{DeviceNo}
use Rattle.iofd_words.specs.declared.numbers.FileNo.{FileNo}
use Rattle.iofd_words.specs.declared.numbers.FrameNo.{FrameNo}
use Rattle.iofd_words.specs.declared.numbers.Iova.{Iova}
use Rattle.iofd_words.specs.declared.numbers.ObjId.{ObjId}
use Rattle.iofd_words.specs.declared.rows.Area.{Area}
use Rattle.iofd_words.specs.declared.rows.Attachment.{Attachment}
use Rattle.iofd_words.specs.declared.rows.Object.{Object}
use Rattle.iofd_words.specs.declared.rows.ObjectKind.{ObjectKind}
use Rattle.iofd_words.specs.declared.rows.ObjectKind.TheVariants as kind
use Rattle.iofd_words.specs.declared.rows.Phase.{Phase}
use Rattle.iofd_words.specs.declared.rows.Phase.TheVariants.{Live, Leaving}
use Rattle.iofd_rows.specs.Reached.{ends_in, keeps_of}
use Rattle.iofd_rows.proofs.Bools.{and_true, both_true, clash, not_true, or_false}
use Rattle.iofd_rows.proofs.Each.{IsIn, in_found, of_any, of_each}
use Rattle.iofd_rows.proofs.ListTests.{false_else}
use Rattle.iofd_rows.proofs.Named.{object_of_kind}
use Rattle.iofd_rows.proofs.Owed.{table_of}
use Rattle.iofd_rows.proofs.Unusable.{by_rows, each_not}
use Rattle.iofd_runs.specs.Apart.{are_apart}
use Rattle.iofd_runs.specs.Fits.{RowsFit, begins_at_page, is_of_pages}
use Rattle.iofd_runs.specs.InUsable.{is_in_usable}
use Rattle.iofd_runs.proofs.KeepsUsable.{UsableSound}
use Rattle.iofd_runs.proofs.Runs.{run_keeps}
use Rattle.iofd_rows.proofs.Bound.{attachments_bound, is_bound_to, is_of_file}
use Rattle.iofd_laws.proofs.KeepsBound.{IsTidy, keeps_tidy, opening_tidy, tabled_tidy}
use Rattle.iofd_promises.proofs.Denials.{meet_at, only_area}
use Rattle.iofd_promises.proofs.Facts.{apart_of, fits_of, usable_of, widths_of}
use Rattle.iofd_promises.proofs.KeepsWidths.{WidthSound}
use Rattle.iofd_promises.proofs.Rows.{within}
use Rattle.iofd_promises.proofs.Spans.{below_width, bounded_of, is_bounded}
use Rattle.iofd_interleavings.specs.Caches.{Entry, IsBacked, may_use}

-- ---- an address of a page that an area covers

-- the area's pages are whole: so it holds each address of a page, and has one page there
in_page : (first last page address : ℕ) → first % 4096 ≡ 0 → (last + 1 - first) % 4096 ≡ 0 → first ≤ last
    → first ≤ 4096 * page → 4096 * page ≤ last → address / 4096 ≡ page → (first ≤ address) × (address ≤ last)
in_page first last page address begins whole some low high is =
    (omega (arith, begins, low, is), omega (arith, begins, whole, some, high, is))

same_index : (first page address : ℕ) → first % 4096 ≡ 0 → first ≤ 4096 * page → address / 4096 ≡ page
    → (address - first) / 4096 ≡ (4096 * page - first) / 4096
same_index first page address begins low is = omega (arith, begins, low, is)

-- ---- what passes is among the outcomes

within_width : (o : Option DeviceSettings) (address : ℕ) (x : Outcome) (xs : List Outcome)
    → ((d : DeviceSettings) → o ≡ Some d → address < 2 ^ bits_of d.width)
    → IsIn xs x → IsIn (by_width o address (Denied BeyondWidth ∷ []) xs) x
within_width None address x xs below there = there
within_width (Some d) address x xs below there = rw (inside (below d refl)) there
  where
    inside : address < 2 ^ bits_of d.width → leb (2 ^ bits_of d.width) address ≡ false
    inside less = search (less, arith, nat_tests)

in_phase : (device : DeviceNo) (phase : Phase) (x : Outcome) (deny : List Outcome) → may_use device phase ≡ true
    → IsIn (by_phase device phase (x ∷ []) deny) x
in_phase device Live x deny may = inl refl
in_phase device (Leaving owed tries) x deny may =
    subst (λ (b : Bool). IsIn (cond b (x ∷ [] ++ deny) deny) x) (sym may) (inl refl)

-- ---- nothing refuses the access

-- ---- an entry that is backed, in a world where all this holds

module _ (settings : Settings) (w : World) (widths : WidthSound settings w) (usable : UsableSound w)
    (fits : RowsFit w) (apart : are_apart w.areas ≡ true) (bounded : list_all is_bounded w.areas ≡ true)
    (bound : attachments_bound w.objects w.attachments ≡ true) (device : DeviceNo) (entry : Entry)
    (b : IsBacked w device entry) (iova : Iova) (access : AccessKind) (on_page : page_of iova.0 ≡ entry.page)
    (right : has_right entry.rights access ≡ true) where
  abbrev area : Area
  area = b.area

  abbrev a : Attachment
  a = b.attachment

  area_in : IsIn w.areas area
  area_in = within w.areas area b.there

  a_in : IsIn w.attachments a × (eqb a.device.0 device.0 ≡ true)
  a_in = in_found (λ (x : Attachment). eqb x.device.0 device.0) w.attachments a b.attached

  begins : area.span.first % 4096 ≡ 0
  begins = search (of_each begins_at_page w.areas area fits.starts area_in, arith, nat_tests)

  some : area.span.first ≤ area.span.last
  some = search (
    (and_true (leb area.span.first area.span.last) (ltb area.span.last (2 ^ 64))
        (of_each is_bounded w.areas area bounded area_in)).0,
    arith,
    nat_tests,
  )

  whole : (area.span.last + 1 - area.span.first) % 4096 ≡ 0
  whole = search (
    (and_true (is_whole (size_of area.span)) (leb (size_of area.span) (2 ^ 48))
        (of_each is_of_pages w.areas area fits.pages area_in)).0,
    arith,
    nat_tests,
  )

  covered : (leb area.span.first (4096 * entry.page) ≡ true) × (leb (4096 * entry.page) area.span.last ≡ true)
  covered = and_true (leb area.span.first (4096 * entry.page)) (leb (4096 * entry.page) area.span.last) b.covers

  low : area.span.first ≤ 4096 * entry.page
  low = search (covered.0, arith, nat_tests)

  high : 4096 * entry.page ≤ area.span.last
  high = search (covered.1, arith, nat_tests)

  inside : (area.span.first ≤ iova.0) × (iova.0 ≤ area.span.last)
  inside = in_page area.span.first area.span.last entry.page iova.0 begins whole some low high on_page

  held : holds area.span iova.0 ≡ true
  held =
      let from : leb area.span.first iova.0 ≡ true = search (inside.0, arith, nat_tests) in
      let to : leb iova.0 area.span.last ≡ true = search (inside.1, arith, nat_tests) in
      both_true _ _ from to

  at : area_at iova.0 (areas_of w.areas a.file b.ioas) ≡ Some area
  at = only_area w.areas a.file b.ioas iova.0 area apart area_in b.own held

  pinned : pinned_frame w.pins (page_in area iova.0) ≡ Some entry.frame
  pinned = ap (λ (n : ℕ). pinned_frame w.pins (record { memory = area.memory; index = n }))
      (same_index area.span.first entry.page iova.0 begins low on_page) ∙ b.pinned

  -- the page table is of the device's width, and the area ends below it
  below : (d : DeviceSettings) → device_of w.settings device ≡ Some d → iova.0 < 2 ^ bits_of d.width
  below d is =
      let (width, automatic, table) = table_of w.objects a b.ioas b.space in
      let (object, first, listed, of_file, of_id, of_kind) =
      object_of_kind w.objects a.file a.hwpt (kind.Hwpt b.ioas width automatic) table in
      let number : device.0 ≡ a.device.0 = sym (eqb-true a.device.0 device.0 a_in.1) in
      let known : device_of settings a.device ≡ Some d =
      subst (λ (s : Settings). device_of s a.device ≡ Some d) widths.opened
      (subst (λ (n : ℕ). device_of w.settings (record { 0 = n }) ≡ Some d) number is) in
      let same = widths.widths a a_in.0 d b.ioas width automatic known table in
      let ids = and_true (eqb area.file.0 a.file.0) (eqb area.ioas.0 b.ioas.0) b.own in
      let files : area.file ≡ a.file =
      ap (λ (n : ℕ). let f : FileNo = record { 0 = n } in f) (eqb-true area.file.0 a.file.0 ids.0) in
      let spaces : area.ioas ≡ b.ioas =
      ap (λ (n : ℕ). let i : ObjId = record { 0 = n } in i) (eqb-true area.ioas.0 b.ioas.0 ids.1) in
      let over : object.kind ≡ kind.Hwpt area.ioas width automatic =
      of_kind ∙ ap (λ (i : ObjId). kind.Hwpt i width automatic) (sym spaces) in
      let ends = below_width w area object width automatic usable.areas bounded area_in listed (of_file ∙ sym files)
      over in
      subst (λ (bits : ℕ). iova.0 < 2 ^ bits) (sym same) (search (arith, ends, inside.1))

  pub passes : IsIn (outcomes w device iova.0 access) (Passes entry.frame)
  unfolding outcomes access_outcomes
  passes =
      let deny = Denied (denied_by access) ∷ [] in
      let with_right : has_right area.rights access ≡ true =
      subst (λ (r : Rights). has_right r access ≡ true) (sym b.rights) right in
      let at_phase = in_phase device area.phase (Passes entry.frame) deny b.phase in
      let by_pin : IsIn (by_phase device area.phase (passing (pinned_frame w.pins (page_in area iova.0))) deny)
      (Passes entry.frame) =
      subst (λ (o : Option FrameNo). IsIn (by_phase device area.phase (passing o) deny) (Passes entry.frame))
      (sym pinned) at_phase in
      let by_right : IsIn (at_area (pinned_frame w.pins) device iova.0 access (Some area)) (Passes entry.frame) =
      subst (λ (x : Bool). IsIn (cond x (by_phase device area.phase
      (passing (pinned_frame w.pins (page_in area iova.0))) deny) deny) (Passes entry.frame)) (sym with_right) by_pin in
      let by_area : IsIn (at_area (pinned_frame w.pins) device iova.0 access
      (area_at iova.0 (areas_of w.areas a.file b.ioas))) (Passes entry.frame) =
      subst (λ (o : Option Area). IsIn (at_area (pinned_frame w.pins) device iova.0 access o) (Passes entry.frame))
      (sym at) by_right in
      let by_space : IsIn (translated (view w) device iova.0 access a) (Passes entry.frame) =
      subst (λ (o : Option ObjId). IsIn (elim o [
        | Some ioas ↦ at_area (pinned_frame w.pins) device iova.0 access
            (area_at iova.0 (areas_of w.areas a.file ioas))
        | None ↦ Denied (denied_by access) ∷ []
      ]) (Passes entry.frame)) (sym b.space) by_area in
      let by_bits = within_width (device_of w.settings device) iova.0 (Passes entry.frame)
      (translated (view w) device iova.0 access a) below by_space in
      subst (λ (o : Option Attachment). IsIn (elim o [
        | None ↦ Denied NoContext ∷ []
        | Some x ↦ by_width (device_of w.settings device) iova.0 (Denied BeyondWidth ∷ [])
            (translated (view w) device iova.0 access x)
      ]) (Passes entry.frame)) (sym b.attached) by_bits

  is_bound : is_none (binding_of w.objects device) ≡ false
  is_bound = by_object (binding_of w.objects device) here
    where
      here : is_of_file a.file (binding_of w.objects device) ≡ true
      here = subst (λ (n : ℕ). is_of_file a.file (binding_of w.objects (record { 0 = n })) ≡ true)
          (eqb-true a.device.0 device.0 a_in.1)
          (of_each (λ (x : Attachment). is_bound_to w.objects x.file x.device.0) w.attachments a bound a_in.0)

      by_object : (o : Option Object) → is_of_file a.file o ≡ true → is_none o ≡ false
      by_object None is = cc
      by_object (Some object) is = refl

  attached_to : is_attached_to w.objects area.file area.ioas a ≡ true
  attached_to =
      let (width, automatic, table) = table_of w.objects a b.ioas b.space in
      let ids = and_true (eqb area.file.0 a.file.0) (eqb area.ioas.0 b.ioas.0) b.own in
      let file : eqb a.file.0 area.file.0 ≡ true = search (ids.0, arith, nat_tests) in
      let over : eqb b.ioas.0 area.ioas.0 ≡ true = search (ids.1, arith, nat_tests) in
      both_true _ _ file (subst (λ (o : Option ObjectKind). elim o [
        | Some k ↦ is_hwpt_over area.ioas k
        | None ↦ false
      ] ≡ true) (sym table) over)

  outside : is_interrupt (device_of w.settings device) iova.0 ≡ false
  outside =
      subst (λ (n : ℕ). is_interrupt (device_of w.settings (record { 0 = n })) iova.0 ≡ false)
      (eqb-true a.device.0 device.0 a_in.1) (by_device (device_of w.settings a.device) reserved)
    where
      reserved : meets_some (reserved_of (device_of w.settings a.device)) area.span ≡ false
      reserved =
          let clear = not_true (meets_some (unusable w.settings w.objects w.attachments area.file area.ioas) area.span)
          (of_each (is_in_usable w) w.areas area usable.areas.usable area_in) in
          let rows = or_false (list_any (ends_in area.file area.ioas area.span) w.objects)
          (list_any (keeps_of w.settings w.objects area.file area.ioas area.span) w.attachments)
          (sym (by_rows w.settings w.objects w.attachments area.file area.ioas area.span) ∙ clear) in
          let none = each_not (keeps_of w.settings w.objects area.file area.ioas area.span) w.attachments a rows.1
          a_in.0 in
          false_else (meets_some (reserved_of (device_of w.settings a.device)) area.span)
          (λ keeps. clash (keeps_of w.settings w.objects area.file area.ioas area.span a) none
          (both_true (is_attached_to w.objects area.file area.ioas a)
          (meets_some (reserved_of (device_of w.settings a.device)) area.span) attached_to keeps))

      by_device : (o : Option DeviceSettings) → meets_some (reserved_of o) area.span ≡ false
          → is_interrupt o iova.0 ≡ false
      by_device None clear = refl
      by_device (Some d) clear = by_mark d.x86 clear
        where
          by_mark : (x86 : Bool) → meets_some (cond x86 (interrupt_range ∷ d.reserved) d.reserved) area.span ≡ false
              → (x86 && holds interrupt_range iova.0) ≡ false
          by_mark false clear = refl
          by_mark true clear =
              let none = (or_false (meets interrupt_range area.span) (meets_some d.reserved area.span) clear).0 in
              false_else (holds interrupt_range iova.0) (λ hits. clash (meets interrupt_range area.span) none
              (meet_at interrupt_range area.span iova.0 hits held))

  pub passes_at : (len : ℕ) → crosses iova.0 len ≡ false → passes_in w device iova len access entry.frame ≡ true
  passes_at len short =
      let same : eqb entry.frame.0 entry.frame.0 ≡ true = search (arith, nat_tests) in
      both_true _ _ checked
      (of_any (is_pass_at entry.frame) (outcomes w device iova.0 access) (Passes entry.frame) passes same)
    where
      checked : is_none (first_true (access_checks (view w) device iova len)) ≡ true
      checked = rw (is_bound, short, outside) refl

-- ---- in every run

pub bound_of : {A : Type 0} (settings : Settings) (records : List (Record A)) → IsRun settings records
    → attachments_bound (world_of settings records).objects (world_of settings records).attachments ≡ true
unfolding IsRun world_of
bound_of settings records run =
    (run_keeps IsTidy tabled_tidy keeps_tidy 0 (opening settings) records run (opening_tidy settings)).attachments

pub entry_passes : {A : Type 0} (settings : Settings) (records : List (Record A)) (device : DeviceNo) (entry : Entry)
    (iova : Iova) (len : ℕ) (access : AccessKind) → IsRun settings records
    → IsBacked (world_of settings records) device entry → page_of iova.0 ≡ entry.page
    → has_right entry.rights access ≡ true → crosses iova.0 len ≡ false
    → passes_in (world_of settings records) device iova len access entry.frame ≡ true
entry_passes settings records device entry iova len access run backed on_page right short =
    passes_at settings (world_of settings records) (widths_of settings records run) (usable_of settings records run)
    (fits_of settings records run) (apart_of settings records run) (bounded_of settings records run)
    (bound_of settings records run) device entry backed iova access on_page right len short

pub entry_outcome : {A : Type 0} (settings : Settings) (records : List (Record A)) (device : DeviceNo) (entry : Entry)
    (iova : Iova) (access : AccessKind) → IsRun settings records → IsBacked (world_of settings records) device entry
    → page_of iova.0 ≡ entry.page → has_right entry.rights access ≡ true
    → IsIn (outcomes (world_of settings records) device iova.0 access) (Passes entry.frame)
entry_outcome settings records device entry iova access run backed on_page right =
    passes settings (world_of settings records) (widths_of settings records run) (usable_of settings records run)
    (fits_of settings records run) (apart_of settings records run) (bounded_of settings records run)
    (bound_of settings records run) device entry backed iova access on_page right
