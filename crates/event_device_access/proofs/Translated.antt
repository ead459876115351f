-- What a device's page is translated to is told by the walk of the device's page table.
use Rattle.std.proofs.Common.{◌≡◌, ℕ, ◌<◌, ◌≤◌, ◌^◌, Bool, true, false, cond, eqb, leb, ltb, Option, Some}
use Rattle.std.proofs.Common.{None, List, [], ◌∷◌, refl, ap, sym, ◌∙◌, arith}
use Rattle.std.specs.List.{list_all}
use Rattle.std.proofs.lemmas.Bool.Decides.{nat_tests}
use Rattle.event_device_access.proofs.ByWalk.{has_pages, leaving_found, live_found, none_live, page_of_object}
use Rattle.page_table_set.specs.OverSpans.{is_over}
use Rattle.page_table_set.specs.PageTables.{Hwpt, hwpt_of, walk_in, walk_through}
use Rattle.iofd_rows.proofs.Bools.{and_true, both_true, not_true}
use Rattle.iofd_rows.proofs.Each.{in_filter, in_found, of_each}
use Rattle.iofd_rows.proofs.Found.{all_filter}
use Rattle.iofd_rows.proofs.ListTests.{all_pass}
use Rattle.iofd_rows.proofs.Named.{file_is, id_is}
use Rattle.iofd_rows.proofs.Owed.{each_owed}
use Rattle.iofd_runs.proofs.KeepsApart.{are_apart-filter}
use Rattle.iofd_runs.specs.InUsable.{is_in_usable}
use Rattle.iofd_runs.specs.Fits.{begins_at_page, is_of_pages}
use Rattle.iofd_words.specs.Areas.{area_at, areas_of, is_of}
use Rattle.iofd_words.specs.Attachments.{attachment_of, ioas_of, ioas_of_attachment}
use Rattle.iofd_words.specs.Bounds.{Bounds}
use Rattle.iofd_words.specs.Objects.{is_hwpt_over, is_object}
use Rattle.iofd_words.specs.Pages.{is_whole, page_of}
use Rattle.iofd_words.specs.Pins.{pinned_frame}
use Rattle.iofd_words.specs.Policy.{page_in}
use Rattle.iofd_words.specs.Ranges.{meets_some}
use Rattle.iofd_words.specs.Settings.{Settings}
use Rattle.iofd_words.specs.Span.{holds, is_whole_pages, size_of}
use Rattle.iofd_words.specs.Usable.{unusable}
use Rattle.iofd_words.specs.View.{View, view}
use Rattle.iofd_words.specs.World.{World}
use Rattle.iofd_words.specs.TablePlaces.{is_live}
use Rattle.iofd_words.specs.declared.numbers.DeviceNo.{DeviceNo}
use Rattle.iofd_words.specs.declared.numbers.FileNo.{FileNo}
use Rattle.iofd_words.specs.declared.numbers.FrameNo.{FrameNo}
use Rattle.iofd_words.specs.declared.numbers.ObjId.{ObjId}
use Rattle.iofd_words.specs.declared.rows.Area.{Area}
use Rattle.iofd_words.specs.declared.rows.Attachment.{Attachment}
use Rattle.iofd_words.specs.declared.rows.Object.{Object}
use Rattle.iofd_words.specs.declared.rows.ObjectKind.{ObjectKind}
use Rattle.iofd_words.specs.declared.rows.ObjectKind.TheVariants as kind
use Rattle.iofd_words.specs.declared.rows.Phase.{Phase}
use Rattle.iofd_words.specs.declared.rows.Phase.TheVariants.{Live, Leaving}
use Rattle.iofd_words.specs.declared.width.Width.{Width}
use Rattle.iofd_words.specs.Width.{bits_of}
use Rattle.page_table.specs.declared.walk.Walk.{Walk}
use Rattle.page_table.specs.declared.walk.Walk.TheVariants as walk
use Rattle.server_state.proofs.TablesAmong.{found_hwpt}
use Rattle.server_state.proofs.TablesToMap.{known_span}
use Rattle.server_state.specs.Leads.{lead_by, leads_by_kind, leads_of, live_area_at, space_leads}
use Rattle.server_state.specs.Shows.{Shows}
use Rattle.server_state.specs.Held.{objects_in}
use Rattle.server_state.specs.Step.{IsKnown, IsTidy}
use Rattle.server_state.specs.declared.state.State.{State}
use Rattle.page_table_words.specs.Rows.{MappedPage}
use Rattle.iofd_words.specs.Walk.{at_pin, by_area, mapped_by, through, translation}
use Rattle.iofd_words.specs.declared.query.Translation.{Translation}

-- what it is translated to by the walk
abbrev pub translation_of : Walk → Option Translation
translation_of (walk.Hit frame rights) = Some (record { frame = frame; rights = rights })
translation_of walk.Beyond = None
translation_of walk.None = None

module _ {A : Type 0} (at : ℕ) (w : World) (s : State A) (tidy : IsTidy at w) (shows : Shows w s) (a : Attachment)
    (address : ℕ) (small : address < 2 ^ 64) where
  all_pages : (ioas : ObjId) → list_all has_pages (areas_of w.areas a.file ioas) ≡ true
  all_pages ioas = all_filter has_pages (is_of a.file ioas) w.areas (both_lists w.areas tidy.fit.starts tidy.fit.pages)
    where
      both_lists : (areas : List Area) → list_all begins_at_page areas ≡ true → list_all is_of_pages areas ≡ true
          → list_all has_pages areas ≡ true
      both_lists [] starts pages = refl
      both_lists (x ∷ areas) starts pages =
          let first = and_true (begins_at_page x) (list_all begins_at_page areas) starts in
          let sizes = and_true (is_of_pages x) (list_all is_of_pages areas) pages in
          both_true _ _ (both_true _ _ first.0 sizes.0) (both_lists areas first.1 sizes.1)

  -- where its page leads
  leads_none : (ioas : ObjId) → live_area_at (page_of address) (areas_of w.areas a.file ioas) ≡ None
      → space_leads w.pins w.areas a.file ioas (page_of address) ≡ None
  leads_none ioas none = ap (lead_by (pinned_frame w.pins) (page_of address)) none

  -- to the frame of its pin, with the rights of the area
  abbrev led : Area → Option FrameNo → Option MappedPage
  led area pinned = elim pinned as (λ _. Option MappedPage) [
    | Some frame ↦ Some (record { page = page_of address; frame = frame; rights = area.rights })
    | None ↦ None
  ]

  leads_live : (ioas : ObjId) (area : Area) (pinned : Option FrameNo)
      → area_at address (areas_of w.areas a.file ioas) ≡ Some area
      → live_area_at (page_of address) (areas_of w.areas a.file ioas) ≡ Some area
      → pinned_frame w.pins (page_in area address) ≡ pinned
      → space_leads w.pins w.areas a.file ioas (page_of address) ≡ led area pinned
  leads_live ioas area pinned found live is =
      let found_in = in_found (λ (x : Area). holds x.span address) (areas_of w.areas a.file ioas) area found in
      let pages = of_each has_pages (areas_of w.areas a.file ioas) area (all_pages ioas) found_in.0 in
      let starts = (and_true (begins_at_page area) (is_of_pages area) pages).0 in
      let page = page_of_object area address starts found_in.1 in
      ap (lead_by (pinned_frame w.pins) (page_of address)) live
      ∙ ap (led area) (ap (pinned_frame w.pins) page ∙ is)

  -- its page table is walked by where the pages of the address space lead
  walked_in : (ioas : ObjId) (width : Width) (automatic : Bool) (h : Hwpt)
      → hwpt_of s.page_tables.tables a.file a.hwpt ≡ Some h → h.object.file ≡ a.file
      → h.object.kind ≡ kind.Hwpt ioas width automatic
      → walk_through (leads_of w) address (hwpt_of s.page_tables.tables a.file a.hwpt) ≡ walk_in h.table.width
      (λ page. space_leads w.pins w.areas a.file ioas page) address
  walked_in ioas width automatic h is of_file of_kind =
      ap (walk_through (leads_of w) address) is
      ∙ ap (λ (o : ObjectKind). walk_in h.table.width (leads_by_kind w.pins w.areas h.object.file o) address) of_kind
      ∙ ap (λ (f : FileNo). walk_in h.table.width (λ page. space_leads w.pins w.areas f ioas page) address) of_file

  -- by whether the address lies below the end, and by where its page leads
  abbrev by_end : Bool → Option MappedPage → Walk
  by_end below lead =
      cond below (elim lead as (λ _. Walk) [ Some to ↦ walk.Hit to.frame to.rights | None ↦ walk.None ]) walk.Beyond

  nothing_there : (b : Bool) → translation_of (by_end b None) ≡ None
  nothing_there true = refl
  nothing_there false = refl

  -- an area of its address space lies below the page table's end
  below_end : (ioas : ObjId) (h : Hwpt) (area : Area) → hwpt_of s.page_tables.tables a.file a.hwpt ≡ Some h
      → (width : Width) (automatic : Bool) → h.object.file ≡ a.file → h.object.kind ≡ kind.Hwpt ioas width automatic
      → area_at address (areas_of w.areas a.file ioas) ≡ Some area → ltb address (2 ^ bits_of h.table.width) ≡ true
  below_end ioas h area is width automatic of_file of_kind found =
      let found_in = in_found (λ (x : Area). holds x.span address) (areas_of w.areas a.file ioas) area found in
      let within = in_filter (is_of a.file ioas) w.areas area found_in.0 in
      let names = and_true (eqb area.file.0 a.file.0) (eqb area.ioas.0 ioas.0) within.1 in
      let usable = not_true _ (of_each (is_in_usable w) w.areas area tidy.usable.usable within.0) in
      let clear : meets_some (unusable s.config (objects_in s.objects) s.attachments.items a.file ioas)
      area.span ≡ false =
      ap (λ (c : Settings). meets_some (unusable c (objects_in s.objects) s.attachments.items a.file ioas) area.span)
      (sym shows.settings)
      ∙ ap (λ (o : List Object). meets_some (unusable w.settings o s.attachments.items a.file ioas) area.span)
      (sym shows.objects.rows)
      ∙ ap (λ (l : List Attachment). meets_some (unusable w.settings w.objects l a.file ioas) area.span)
      (sym shows.devices.attached)
      ∙ ap (λ (f : FileNo). meets_some (unusable w.settings w.objects w.attachments f ioas) area.span)
      (sym (file_is area.file a.file names.0))
      ∙ ap (λ (i : ObjId). meets_some (unusable w.settings w.objects w.attachments area.file i) area.span)
      (sym (id_is area.ioas ioas names.1))
      ∙ usable in
      let pages = of_each has_pages (areas_of w.areas a.file ioas) area (all_pages ioas) found_in.0 in
      let parts = and_true (begins_at_page area) (is_of_pages area) pages in
      let sizes = and_true (is_whole (size_of area.span)) (leb (size_of area.span) 281474976710656) parts.1 in
      let held = and_true (leb area.span.first address) (leb address area.span.last) found_in.1 in
      let known : IsKnown s = record { at = at; world = w; tidy = tidy; shows = shows } in
      let there = (in_found (λ (x : Hwpt). is_object a.file a.hwpt x.object) s.page_tables.tables h is).0 in
      let over : is_over a.file ioas h.object ≡ true = is_there h of_file of_kind in
      let spans = known_span s known a.file ioas area.span (whole area.span parts.0 sizes.0 held.0 held.1) clear
      (few area.span.first held.0) h there over in
      let low = spans.below in
      let end : address ≤ area.span.last = let b = held.1 in grind (arith, nat_tests) in
      let below : address < 2 ^ bits_of h.table.width = omega (arith, low, end) in
      grind (arith, nat_tests)
    where
      eqb_itself : (n : ℕ) → eqb n n ≡ true
      eqb_itself n = grind (arith, nat_tests)

      is_there : (h : Hwpt) → h.object.file ≡ a.file → h.object.kind ≡ kind.Hwpt ioas width automatic
          → is_over a.file ioas h.object ≡ true
      is_there h of_file of_kind =
          let same_file : eqb h.object.file.0 a.file.0 ≡ true =
          ap (λ (f : FileNo). eqb f.0 a.file.0) of_file ∙ eqb_itself a.file.0 in
          let same_ioas : is_hwpt_over ioas h.object.kind ≡ true = ap (is_hwpt_over ioas) of_kind ∙ eqb_itself ioas.0 in
          both_true _ _ same_file same_ioas

      whole : (span : Bounds) → is_whole span.first ≡ true → is_whole (size_of span) ≡ true
          → leb span.first address ≡ true → leb address span.last ≡ true → is_whole_pages span ≡ true
      whole span first size low high = grind (arith, nat_tests)

      few : (n : ℕ) → leb n address ≡ true → n < 2 ^ 64
      few n low = let is : n ≤ address = grind (arith, nat_tests) in omega (arith, is, small)

  -- ---- what is found

  -- by the area that holds the address
  by_space : (ioas : ObjId) (width : Width) (automatic : Bool) (h : Hwpt)
      → hwpt_of s.page_tables.tables a.file a.hwpt ≡ Some h → h.object.file ≡ a.file
      → h.object.kind ≡ kind.Hwpt ioas width automatic
      → (o : Option Area) → area_at address (areas_of w.areas a.file ioas) ≡ o
      → mapped_by (pinned_frame w.pins) address o
      ≡ translation_of (walk_in h.table.width (λ page. space_leads w.pins w.areas a.file ioas page) address)
  by_space ioas width automatic h is of_file of_kind None found =
      let none = leads_none ioas (none_live address (areas_of w.areas a.file ioas) (all_pages ioas) found) in
      sym (ap (λ (o : Option MappedPage). translation_of (by_end (ltb address (2 ^ bits_of h.table.width)) o)) none
      ∙ nothing_there (ltb address (2 ^ bits_of h.table.width)))
  by_space ioas width automatic h is of_file of_kind (Some area) found = by_phase area.phase refl
    where
      found_live : area.phase ≡ Live → (o : Option FrameNo) → pinned_frame w.pins (page_in area address) ≡ o
          → at_pin area (pinned_frame w.pins (page_in area address))
          ≡ translation_of (walk_in h.table.width (λ page. space_leads w.pins w.areas a.file ioas page) address)
      found_live live None pinned =
          let here =
          live_found address (areas_of w.areas a.file ioas) area (all_pages ioas) found (ap is_live live) in
          ap (at_pin area) pinned
          ∙ sym (ap (λ (o : Option MappedPage). translation_of (by_end (ltb address (2 ^ bits_of h.table.width)) o))
          (leads_live ioas area None found here pinned)
          ∙ nothing_there (ltb address (2 ^ bits_of h.table.width)))
      found_live live (Some frame) pinned =
          let here =
          live_found address (areas_of w.areas a.file ioas) area (all_pages ioas) found (ap is_live live) in
          let below = below_end ioas h area is width automatic of_file of_kind found in
          ap (at_pin area) pinned
          ∙ sym (ap (λ (b : Bool). translation_of (by_end b (space_leads w.pins w.areas a.file ioas (page_of address))))
          below
          ∙ ap (λ (o : Option MappedPage). translation_of (by_end true o))
          (leads_live ioas area (Some frame) found here pinned))

      by_phase : (phase : Phase) → area.phase ≡ phase
          → by_area (pinned_frame w.pins) address area area.phase
          ≡ translation_of (walk_in h.table.width (λ page. space_leads w.pins w.areas a.file ioas page) address)
      by_phase Live live =
          ap (by_area (pinned_frame w.pins) address area) live
          ∙ found_live live (pinned_frame w.pins (page_in area address)) refl
      by_phase (Leaving owed tries) leaving =
          let none = leads_none ioas (leaving_found address a.file ioas (areas_of w.areas a.file ioas) area
          (all_pages ioas) (all_pass (is_of a.file ioas) w.areas)
          (are_apart-filter (is_of a.file ioas) w.areas tidy.apart) found (ap is_live leaving)) in
          ap (by_area (pinned_frame w.pins) address area) leaving
          ∙ sym (ap (λ (o : Option MappedPage). translation_of (by_end (ltb address (2 ^ bits_of h.table.width)) o)) none
          ∙ nothing_there (ltb address (2 ^ bits_of h.table.width)))

  -- by the page table to which the device is attached
  pub walk_finds : (device : DeviceNo) → attachment_of w.attachments device ≡ Some a
      → through (view w) address a ≡ translation_of
      (walk_through (leads_of w) address (hwpt_of s.page_tables.tables a.file a.hwpt))
  walk_finds device attached =
      let table = (each_owed w tidy.debts).tables a
      (in_found (λ (b : Attachment). eqb b.device.0 device.0) w.attachments a attached).0 in
      let (h, is, of_file, of_kind) = found_hwpt w.objects s.page_tables.tables a
      (kind.Hwpt table.ioas table.width table.automatic) shows.tables.tables table.table refl in
      let over : ioas_of_attachment w.objects a ≡ Some table.ioas =
      ap (λ (o : Option ObjectKind). elim o as (λ _. Option ObjId) [ Some k ↦ ioas_of k | None ↦ None ])
      table.table in
      ap (λ (o : Option ObjId). elim o as (λ _. Option Translation) [
        | Some ioas ↦ mapped_by (pinned_frame w.pins) address (area_at address (areas_of w.areas a.file ioas))
        | None ↦ None
      ]) over
      ∙ by_space table.ioas table.width table.automatic h is of_file of_kind
      (area_at address (areas_of w.areas a.file table.ioas)) refl
      ∙ ap translation_of (sym (walked_in table.ioas table.width table.automatic h is of_file of_kind))

  -- what the page is translated to for the device
  pub walk_translates : (device : DeviceNo) → attachment_of w.attachments device ≡ Some a
      → translation (view w) device address ≡ translation_of
      (walk_through (leads_of w) address (hwpt_of s.page_tables.tables a.file a.hwpt))
  unfolding translation
  walk_translates device attached =
      ap (λ (o : Option Attachment). elim o as (λ _. Option Translation) [
        | Some b ↦ through (view w) address b
        | None ↦ None
      ]) attached
      ∙ walk_finds device attached

-- where it isn't attached, to nothing
pub unattached_translates : (v : View) (device : DeviceNo) (address : ℕ) → attachment_of v.attachments device ≡ None
    → translation v device address ≡ None
unfolding translation
unattached_translates v device address none =
    ap (λ (o : Option Attachment). elim o as (λ _. Option Translation) [
      | Some a ↦ through v address a
      | None ↦ None
    ]) none
