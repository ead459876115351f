-- An event that is refused for the account would give its user more pinned pages than the limit allows, by each answer.
use Rattle.std.proofs.Common.{◌≡◌, ℕ, ◌+◌, ◌/◌, ◌≤◌, Bool, true, false, cond, ◌&&◌, ◌||◌, not, eqb, is_none}
use Rattle.std.proofs.Common.{is_some, Option, Some, None, List, [], ◌∷◌, ◌++◌, length, refl, ap, sym, subst, ◌∙◌}
use Rattle.std.proofs.Common.{arith}
use Rattle.std.specs.List.{count_by, filter, find, list_any, range_with_len}
use Rattle.std.proofs.lemmas.Bool.Decides.{nat_tests}
use Rattle.std.proofs.lemmas.Bool.{not-false}
use Rattle.std.proofs.lemmas.List.FromFn.{length-map-range_with_len}
use Rattle.iofd_steps.specs.After.{attach_changes, attached, changed, copy_changes, hwpt_changes, map_changes}
use Rattle.iofd_steps.specs.After.{mapped_area, memory_object, settle, with_hwpt}
use Rattle.iofd_steps.specs.Answers.{Answers, IsHwptOf, IsHwptFor}
use Rattle.iofd_words.specs.Areas.{all_paid, areas_of, is_of, with_area, paid}
use Rattle.iofd_words.specs.Attachments.{attachment_of, with_attachment}
use Rattle.iofd_refusals.specs.Checks.{allow_iovas_checks, attach_checks, bind_checks, bound_attach_checks, checks}
use Rattle.iofd_refusals.specs.Checks.{close_checks, copy_checks, destroy_checks, detach_checks, device_write_checks}
use Rattle.iofd_refusals.specs.Checks.{flush_checks, hwpt_alloc_checks, ioas_alloc_checks, lacks_attached_page}
use Rattle.iofd_refusals.specs.Checks.{lacks_copied_page, lacks_mapped_page, map_checks, newly_copied, newly_pinned}
use Rattle.iofd_refusals.specs.Checks.{passes_limit, passes_limit_attached, passes_limit_copied, passes_limit_mapped}
use Rattle.iofd_refusals.specs.Checks.{refusal, target_checks, unbind_checks, unmap_checks, user_map_checks}
use Rattle.iofd_refusals.specs.Checks.{user_unmap_checks, user_write_checks}
use Rattle.iofd_refusals.specs.Checks.{access_create_checks, access_attach_checks, access_detach_checks}
use Rattle.iofd_words.specs.Copies.{placed_as}
use Rattle.iofd_words.specs.Files.{device_of, is_open, user_of}
use Rattle.iofd_words.specs.FirstTrue.{first_true}
use Rattle.iofd_words.specs.Frames.{frame_at, has_pages}
use Rattle.iofd_words.specs.Objects.{automatic_hwpt, binding_of, device_in, device_under, has_hwpt, is_automatic_over}
use Rattle.iofd_words.specs.Objects.{is_hwpt_over, is_object, kind_of, settings_under, is_fresh, with_object}
use Rattle.iofd_words.specs.Pages.{page_of}
use Rattle.iofd_words.specs.Pins.{ObjectPage, frame_now, is_page, is_translated, pages_of, pinned_frame}
use Rattle.iofd_words.specs.Pins.{unpinned_pages, is_accessed, is_pinned}
use Rattle.iofd_words.specs.Settings.{DeviceSettings}
use Rattle.iofd_words.specs.View.{view}
use Rattle.iofd_words.specs.World.{World}
use Rattle.iofd_words.specs.declared.event.CopyRequest.{CopyRequest}
use Rattle.iofd_words.specs.declared.event.Event.{Event}
use Rattle.iofd_words.specs.declared.event.Event.TheVariants as event
use Rattle.iofd_words.specs.declared.event.HwptRequest.{HwptRequest}
use Rattle.iofd_words.specs.declared.event.MapRequest.{MapRequest}
use Rattle.iofd_words.specs.declared.numbers.DeviceNo.{DeviceNo}
use Rattle.iofd_words.specs.declared.numbers.FileNo.{FileNo}
use Rattle.iofd_words.specs.declared.numbers.FrameNo.{FrameNo}
use Rattle.iofd_words.specs.declared.numbers.Iova.{Iova}
use Rattle.iofd_words.specs.declared.numbers.ObjId.{ObjId}
use Rattle.iofd_words.specs.declared.numbers.UserNo.{UserNo}
use Rattle.iofd_words.specs.declared.refusal.Cause.{Cause}
use Rattle.iofd_words.specs.declared.refusal.Cause.TheVariants as cause
use Rattle.iofd_words.specs.declared.reply.Reply.{Reply}
use Rattle.iofd_words.specs.declared.reply.Reply.TheVariants as reply
use Rattle.iofd_words.specs.declared.rows.Area.{Area}
use Rattle.iofd_words.specs.declared.rows.Attachment.{Attachment}
use Rattle.iofd_words.specs.declared.rows.MemoryObject.{MemoryObject}
use Rattle.iofd_words.specs.declared.rows.Object.{Object}
use Rattle.iofd_words.specs.declared.rows.ObjectKind.{ObjectKind}
use Rattle.iofd_words.specs.declared.rows.ObjectKind.TheVariants as kind
use Rattle.iofd_words.specs.declared.width.Width.{Width}
use Rattle.iofd_laws.specs.Laws.{PassesLimit, file_of, held_in}
use Rattle.iofd_rows.specs.Pinned.{ArePinned}
use Rattle.iofd_rows.proofs.Bools.{and_rest, and_true, both_true, clash, not_true, or_none}
use Rattle.iofd_rows.proofs.Each.{IsIn, in_found, in_map, of_any, of_each}
use Rattle.iofd_rows.proofs.ListTests.{any-filter, any_weaker, or_left, or_right}
use Rattle.iofd_rows.proofs.ObjectPages.{in_pinned, is_listed, listed_more, translated-with_area}
use Rattle.iofd_rows.proofs.ObjectPages.{translated_within}
use Rattle.iofd_rows.proofs.PageCounts.{count_weaker, page_count_bound}
use Rattle.iofd_rows.proofs.PageCounts.{page_count_last}
use Rattle.iofd_rows.proofs.PageTables.{hwpt-with_object}
use Rattle.iofd_runs.specs.Fits.{RowsFit, is_known_device}
use Rattle.iofd_runs.specs.Owned.{is_of_files_user}
use Rattle.iofd_runs.proofs.AttachedPages.{there_now, with_table}
use Rattle.iofd_runs.proofs.CopiedPages.{pages_copied}
use Rattle.iofd_runs.proofs.CopySource.{source_area, source_is}
use Rattle.iofd_runs.proofs.KeepsOwned.{OwnedPins, owner}
use Rattle.iofd_runs.proofs.PagesToPin.{AlikeAreas, alike_paid, pages_in}
use Rattle.iofd_runs.proofs.StillTabled.{in_kept}
use Rattle.iofd_laws.proofs.KeepsLimits.{copied_world, mapped_world, moved_world}
use Rattle.iofd_laws.proofs.PagesHeld.{has_pin, held_settle, listed_page, number_of_page, of_user, page_of_object}
use Rattle.iofd_laws.proofs.RefusingRow.{row_passed}
use Rattle.iofd_runs.proofs.Branches.{by_target}
use Rattle.iofd_runs.proofs.MappedPages.{find_new}
use Rattle.iofd_runs.proofs.Accessed.{accessed_grows}
use Rattle.iofd_runs.proofs.Accessed.{EachHeld, accessed_objects, accessed_phases, each_held, held_phases}
use Rattle.iofd_runs.proofs.HoldersStay.{more_holders}
use Rattle.iofd_laws.proofs.PinsDue.{pin_over}
use Rattle.iofd_refusals.specs.Checks.{access_unpin_checks, access_write_checks}
use Rattle.iofd_refusals.specs.Checks.{dirty_checks, dirty_enable_checks}
use Rattle.iofd_laws.proofs.PinsGained.{StayPinned, account_row, all_held, count_all, flipped, gets_pin}
use Rattle.iofd_laws.proofs.PinsGained.{is_account, is_over, keeps_pin, never, of_owner, passed}

-- ---- a MAP

either : (t a u b : Bool) → (t ≡ true → u ≡ true) → (a ≡ true → b ≡ true) → (t || a) ≡ true → (u || b) ≡ true
either true a u b first second is = or_left u b (first refl)
either false a u b first second is = or_right u b (second is)

-- the pages that are to be pinned stay so with one more area
with_area_still : (w : World) (area : Area) (more : List MemoryObject)
    → ((page : ObjectPage) → is_listed w.memory page ≡ true → is_listed more page ≡ true)
    → StayPinned w (record w { memory = more; areas = with_area area w.areas })
with_area_still w area more listed = λ page within.
    let parts = and_true (is_listed w.memory page) (is_pinned w.objects w.areas w.access_pins page)
    (sym (in_pinned w.objects w.areas w.memory w.access_pins page) ∙ within) in
    in_pinned w.objects (with_area area w.areas) more w.access_pins page
    ∙ both_true _ _ (listed page parts.0) (either _ _ _ _
    (λ translated. translated-with_area w.objects area w.areas page.memory
    ∙ or_right (eqb area.memory page.memory && has_hwpt w.objects area.file area.ioas) _ translated)
    (accessed_grows w.objects area w.areas w.access_pins page) parts.1)

-- a page of the area's memory object is to be pinned, where the address space has a page table
of_area_pinned : (w : World) (area : Area) (more : List MemoryObject) (page : ObjectPage)
    → is_listed more page ≡ true → eqb area.memory page.memory ≡ true → has_hwpt w.objects area.file area.ioas ≡ true
    → list_any (is_page page) (pages_in (record w { memory = more; areas = with_area area w.areas })) ≡ true
of_area_pinned w area more page listed over table =
    in_pinned w.objects (with_area area w.areas) more w.access_pins page
    ∙ both_true _ _ listed (or_left _ _ (translated-with_area w.objects area w.areas page.memory
    ∙ or_left _ (is_translated w.objects w.areas page.memory) (both_true _ _ over table)))

-- the pages that a MAP needs are in its user's memory
pages_there : (w : World) (file : FileNo) (request : MapRequest) (user : UserNo) → user_of w.settings file ≡ Some user
    → has_hwpt w.objects file request.ioas ≡ true → lacks_mapped_page (view w) file request ≡ false
    → has_pages (frame_at w.user_pages) user (page_of request.user_va) (request.length / 4096) ≡ true
pages_there w file request user is table lacks =
    there (λ u. has_pages (frame_at w.user_pages) u (page_of request.user_va) (request.length / 4096))
    (user_of w.settings file) is (and_rest (has_hwpt w.objects file request.ioas) _ table lacks)
  where
    there : (f : UserNo → Bool) (o : Option UserNo) → o ≡ Some user
        → elim o [ Some u ↦ not (f u) | None ↦ true ] ≡ false → f user ≡ true
    there f (Some u) is present = let same : u ≡ user = cc in ap f (sym same) ∙ not-false (f u) present
    there f None is present = cc

module _ (at : ℕ) (w : World) (file : FileNo) (request : MapRequest) (iova : Iova) (user : UserNo)
    (p : ArePinned at w) (is : user_of w.settings file ≡ Some user)
    (table : has_hwpt w.objects file request.ioas ≡ true)
    (lacks : lacks_mapped_page (view w) file request ≡ false) where
  abbrev new : World
  new = mapped_world at w file request iova user

  abbrev object : MemoryObject
  object = memory_object at user request

  new_present : (page : ObjectPage) → IsIn (pages_of object) page
      → is_some (frame_now new.memory new.user_pages page) ≡ true
  new_present page within =
      let (i, among, same) = in_map (λ (i : ℕ). let page : ObjectPage = record { memory = at; index = i } in page)
      (range_with_len 0 (request.length / 4096)) page within in
      let there : is_some (frame_at w.user_pages user (page_of request.user_va + i)) ≡ true =
      of_each (λ (i : ℕ). is_some (frame_at w.user_pages user (page_of request.user_va + i)))
      (range_with_len 0 (request.length / 4096)) i (pages_there w file request user is table lacks) among in
      let itself : eqb at at ≡ true = grind (arith, nat_tests) in
      subst (λ (page : ObjectPage). is_some (frame_now new.memory new.user_pages page) ≡ true) same
      (ap (λ (o : Option MemoryObject). is_some (elim o as (λ _. Option FrameNo)
      [ Some m ↦ frame_at w.user_pages m.user (page_of m.va + i) | None ↦ None ]))
      (find_new at w.memory object p.made itself) ∙ there)

  new_pinned : (page : ObjectPage) → IsIn (pages_of object) page → has_pin (settle w new) page ≡ true
  new_pinned page within =
      gets_pin at w new page p
      (of_area_pinned w (mapped_area at file request iova) (w.memory ++ object ∷ []) page
      (listed_more w.memory object page ∙ or_right (is_listed w.memory page) _ (page_of_object object page within))
      (over page (number_of_page object page within)) table)
      (λ none. new_present page within)
    where
      over : (page : ObjectPage) → page.memory ≡ at → eqb at page.memory ≡ true
      over page same = grind (arith, nat_tests)

  all_mapped : held_in w user + request.length / 4096 ≤ held_in (settle w new) user
  all_mapped =
      let old = page_count_bound (has_pin w) (has_pin (settle w new)) (of_user user) (of_user user) w.memory
      (λ m among. by_test m (of_user user m) (count_weaker (has_pin w) (has_pin (settle w new)) (pages_of m)
      (λ page within some. keeps_pin at w new page p still some))) in
      let pages = count_all (has_pin (settle w new)) (pages_of object) new_pinned in
      let many : length (pages_of object) ≡ request.length / 4096 =
      length-map-range_with_len _ 0 (request.length / 4096) in
      let own : of_user user object ≡ true = grind (arith, nat_tests) in
      rw (held_settle w new user, page_count_last (has_pin (settle w new)) (of_user user) w.memory object, own)
      (omega (arith, old, pages, many))
    where
      still : StayPinned w new
      still = with_area_still w (mapped_area at file request iova) (w.memory ++ object ∷ [])
          (λ page listed. listed_more w.memory object page ∙ or_left _ _ listed)

      by_test : (m : MemoryObject) (b : Bool)
          → count_by (has_pin w) (pages_of m) ≤ count_by (has_pin (settle w new)) (pages_of m)
          → cond b (count_by (has_pin w) (pages_of m)) 0 ≤ cond b (count_by (has_pin (settle w new)) (pages_of m)) 0
      by_test m true fewer = fewer
      by_test m false fewer = omega arith

map_over : {A : Type 0} → (at : ℕ) (w : World) (file : FileNo) (request : MapRequest) (iova : Iova) → ArePinned at w
    → first_true (map_checks (view w) file request) ≡ Some cause.Account
    → PassesLimit {A = A} w (map_changes at w file request iova (user_of w.settings file)) (event.Map file request)
unfolding map_checks
map_over {A = A} at w file request iova p refused =
    let row : passes_limit_mapped (view w) file request ≡ true =
    sym (or_none (passes_limit_mapped (view w) file request))
    ∙ account_row (map_checks (view w) file request) refused in
    let lacks : lacks_mapped_page (view w) file request ≡ false =
    row_passed cause.Account is_account refl (map_checks (view w) file request) 10 refused refl in
    let parts = and_true (has_hwpt w.objects file request.ioas)
    (passes_limit (view w) (user_of w.settings file) (request.length / 4096)) row in
    let over = is_over w file (request.length / 4096) parts.1 in
    subst (λ (o : Option UserNo). PassesLimit {A = A} w (map_changes at w file request iova o) (event.Map file request))
    (sym over.of_user)
    (passed {A = A} w (settle w (mapped_world at w file request iova over.user)) (event.Map file request) file
    (request.length / 4096) refl over
    (all_mapped at w file request iova over.user p over.of_user parts.0 lacks))

-- ---- a COPY

copy_over : {A : Type 0} → (at : ℕ) (w : World) (file : FileNo) (request : CopyRequest) (iova : Iova) (source : Area)
    → OwnedPins at w → first_true (copy_checks (view w) file request) ≡ Some cause.Account
    → source_area w file request ≡ Some source
    → PassesLimit {A = A} w (settle w (copied_world w file request iova source)) (event.Copy file request)
unfolding copy_checks
copy_over {A = A} at w file request iova source p refused found =
    let row : passes_limit_copied (view w) file request ≡ true =
    sym (or_none (passes_limit_copied (view w) file request))
    ∙ account_row (copy_checks (view w) file request) refused in
    let lacks : lacks_copied_page (view w) file request ≡ false =
    row_passed cause.Account is_account refl (copy_checks (view w) file request) 12 refused refl in
    let parts = and_true (has_hwpt w.objects file request.dst_ioas)
    (passes_limit (view w) (user_of w.settings file) (length (newly_copied (view w) file request))) row in
    let more = ap (λ (pages : List ObjectPage). passes_limit (view w) (user_of w.settings file) (length pages))
    (sym (pages_copied w file request source found)) ∙ parts.1 in
    let over = is_over w file (length (unpinned_pages (pinned_frame w.pins) (filter is_copied w.memory))) more in
    passed {A = A} w (settle w new) (event.Copy file request) file _ refl over
    (all_held at w new p.pins refl still is_copied over.user
    (λ m page among within joins. of_area_pinned w (mapped_area source.memory file (placed_as request) iova) w.memory
    page (listed_page w.memory m page among within) (over_page m page joins (number_of_page m page within)) parts.0)
    (λ m page among within joins free. there_now w (filter is_copied w.memory) page
    (ap (list_any (λ page. is_none (frame_now w.memory w.user_pages page)))
    (sym (pages_copied w file request source found))
    ∙ and_rest (has_hwpt w.objects file request.dst_ioas) _ parts.0 lacks)
    (listed_page (filter is_copied w.memory) m page (in_kept is_copied w.memory m among joins) within) free)
    (λ m among joins. of_owner w file over.user m over.of_user (owned m among joins)))
  where
    new : World
    new = copied_world w file request iova source

    is_copied : MemoryObject → Bool
    is_copied m = eqb m.number source.memory

    still : StayPinned w new
    still = with_area_still w (mapped_area source.memory file (placed_as request) iova) w.memory
        (λ page listed. listed)

    over_page : (m : MemoryObject) (page : ObjectPage) → eqb m.number source.memory ≡ true → page.memory ≡ m.number
        → eqb source.memory page.memory ≡ true
    over_page m page joins same = grind (arith, nat_tests)

    owned : (m : MemoryObject) → IsIn w.memory m → is_copied m ≡ true → is_of_files_user w.settings file m ≡ true
    owned m among is =
        let stands = source_is w file request source found in
        owner w file request.src_ioas m p.areas among
        (of_any (λ (a : Area). eqb a.memory m.number) (areas_of w.areas file request.src_ioas) source
        (in_kept (is_of file request.src_ioas) w.areas source stands.within stands.of_space)
        (flipped m.number source.memory is))

-- ---- an address space gets its first page table

module _ {A : Type 0} (at : ℕ) (w : World) (areas : List Area) (alike : AlikeAreas w areas) (e : Event A)
    (file : FileNo) (ioas id : ObjId) (width : Width) (automatic : Bool) (attachments : List Attachment)
    (p : OwnedPins at w) (of_file : file_of w e ≡ Some file)
    (row : passes_limit_attached (view w) file ioas ≡ true)
    (lacks : lacks_attached_page (view w) file ioas ≡ false)
    (covered : (page : ObjectPage) → is_accessed (with_table file ioas id width automatic w.objects) areas w.access_pins
    page ≡ is_accessed w.objects w.areas w.access_pins page) where
  abbrev tables : List Object
  tables = with_table file ioas id width automatic w.objects

  abbrev first_table : World
  first_table = moved_world w areas tables attachments

  -- the memory object has an area in the address space
  abbrev in_space : MemoryObject → Bool
  in_space m = list_any (λ (a : Area). eqb a.memory m.number) (areas_of w.areas file ioas)

  table_made : (own : FileNo) (over : ObjId) → has_hwpt tables own over ≡ ((eqb file.0 own.0 && eqb ioas.0 over.0)
      || has_hwpt w.objects own over)
  table_made own over =
      hwpt-with_object (record { file = file; id = id; kind = kind.Hwpt ioas width automatic }) w.objects own over

  pinned_by : (page : ObjectPage) → is_listed w.memory page ≡ true
      → (is_translated tables w.areas page.memory || is_accessed w.objects w.areas w.access_pins page) ≡ true
      → list_any (is_page page) (pages_in first_table) ≡ true
  pinned_by page listed pinned =
      in_pinned tables areas w.memory w.access_pins page
      ∙ both_true _ _ listed (ap (λ b. b || is_accessed tables areas w.access_pins page) (alike tables page.memory)
      ∙ ap (λ b. is_translated tables w.areas page.memory || b) (covered page) ∙ pinned)

  still : StayPinned w first_table
  still page within =
      let parts = and_true (is_listed w.memory page) (is_pinned w.objects w.areas w.access_pins page)
      (sym (in_pinned w.objects w.areas w.memory w.access_pins page) ∙ within) in
      pinned_by page parts.0 (either _ _ _ _ (translated_within tables w.objects w.areas page.memory
      (λ own over has. table_made own over ∙ or_right (eqb file.0 own.0 && eqb ioas.0 over.0) _ has))
      (λ is. is) parts.1)

  come : (m : MemoryObject) (page : ObjectPage) → IsIn w.memory m → IsIn (pages_of m) page → in_space m ≡ true
      → list_any (is_page page) (pages_in first_table) ≡ true
  come m page among within joins =
      pinned_by page (listed_page w.memory m page among within) (or_left _ _
      (subst (λ (n : ℕ). is_translated tables w.areas n ≡ true) (sym (number_of_page m page within))
      (any_weaker (λ (a : Area). is_of file ioas a && eqb a.memory m.number)
      (λ (a : Area). eqb a.memory m.number && has_hwpt tables a.file a.ioas) w.areas
      (λ a both. let parts = and_true (is_of file ioas a) (eqb a.memory m.number) both in
      let names = and_true (eqb a.file.0 file.0) (eqb a.ioas.0 ioas.0) parts.0 in
      both_true _ _ parts.1 (table_made a.file a.ioas ∙ or_left _ (has_hwpt w.objects a.file a.ioas)
      (both_true _ _ (flipped a.file.0 file.0 names.0) (flipped a.ioas.0 ioas.0 names.1))))
      (sym (any-filter (λ (a : Area). eqb a.memory m.number) (is_of file ioas) w.areas) ∙ joins))))

  table_over : PassesLimit {A = A} w (settle w first_table) e
  table_over =
      let parts = and_true (not (has_hwpt w.objects file ioas))
      (passes_limit (view w) (user_of w.settings file) (length (newly_pinned (view w) file ioas))) row in
      let over = is_over w file (length (unpinned_pages (pinned_frame w.pins) (filter in_space w.memory))) parts.1 in
      passed w (settle w first_table) e file _ of_file over
      (all_held at w first_table p.pins refl still in_space over.user come
      (λ m page among within joins free. there_now w (filter in_space w.memory) page
      (and_rest (not (has_hwpt w.objects file ioas)) _ parts.0 lacks)
      (listed_page (filter in_space w.memory) m page (in_kept in_space w.memory m among joins) within) free)
      (λ m among joins. of_owner w file over.user m over.of_user (owner w file ioas m p.areas among joins)))

-- without a page table it has no automatic one
no_automatic : (objects : List Object) (file : FileNo) (ioas : ObjId) (width : Width)
    → has_hwpt objects file ioas ≡ false → automatic_hwpt objects file ioas width ≡ None
no_automatic objects file ioas width none = by_found (automatic_hwpt objects file ioas width) refl
  where
    is_over : (k : ObjectKind) → is_automatic_over ioas width k ≡ true → is_hwpt_over ioas k ≡ true
    is_over kind.Ioas is = cc
    is_over (kind.Hwpt over of automatic) is =
        (and_true (eqb over.0 ioas.0) automatic (and_true (eqb over.0 ioas.0 && automatic) _ is).0).0
    is_over (kind.Device device) is = cc
    is_over (kind.Access attached) is = cc

    by_found : (o : Option Object) → automatic_hwpt objects file ioas width ≡ o → o ≡ None
    by_found None is = refl
    by_found (Some table) is =
        let (within, both) = in_found (λ (o : Object). eqb o.file.0 file.0 && is_automatic_over ioas width o.kind)
        objects table is in
        let parts = and_true (eqb table.file.0 file.0) (is_automatic_over ioas width table.kind) both in
        absurd (clash _ none (of_any (λ (o : Object). eqb o.file.0 file.0 && is_hwpt_over ioas o.kind) objects table
        within (both_true _ _ parts.0 (is_over table.kind parts.1))))

-- a device that a file has is one of the settings
under_known : (w : World) (file : FileNo) (id : ObjId) → RowsFit w
    → is_none (device_under w.objects file id) ≡ false → settings_under w.settings w.objects file id ≡ None → ⊥
under_known w file id fits some none = by_found (find (is_object file id) w.objects) refl some none
  where
    by_kind : (k : ObjectKind) → is_known_device w.settings k ≡ true → is_none (device_in k) ≡ false
        → elim (device_in k) as (λ _. Option DeviceSettings) [
          | Some device ↦ device_of w.settings device
          | None ↦ None
        ] ≡ None → ⊥
    by_kind kind.Ioas known some none = cc
    by_kind (kind.Hwpt ioas width automatic) known some none = cc
    by_kind (kind.Access attached) known some none = cc
    by_kind (kind.Device device) known some none =
        never (sym (ap (λ (o : Option DeviceSettings). is_some o) none) ∙ known)

    under : Option Object → Option DeviceNo
    under o = elim (elim o as (λ _. Option ObjectKind) [ Some object ↦ Some object.kind | None ↦ None ])
        as (λ _. Option DeviceNo) [ Some k ↦ device_in k | None ↦ None ]

    by_found : (o : Option Object) → find (is_object file id) w.objects ≡ o → is_none (under o) ≡ false
        → elim (under o) as (λ _. Option DeviceSettings) [
          | Some device ↦ device_of w.settings device
          | None ↦ None
        ] ≡ None → ⊥
    by_found None is some none = cc
    by_found (Some object) is some none =
        let (within, named) = in_found (is_object file id) w.objects object is in
        by_kind object.kind (and_true (is_open w.settings w.closed object.file)
        (is_known_device w.settings object.kind) (of_each (λ (o : Object). is_open w.settings w.closed o.file
        && is_known_device w.settings o.kind) w.objects object fits.known within)).1 some none

-- access pins cover the same pages with a page table more, whatever the phases of areas are
table_covers : (at : ℕ) (w : World) (areas : List Area) (object : Object)
    → EachHeld w.objects areas w.access_pins → is_fresh w.objects object.file object.id ≡ true
    → (page : ObjectPage) → is_accessed (with_object object w.objects) areas w.access_pins page
    ≡ is_accessed w.objects areas w.access_pins page
table_covers at w areas object held fresh page =
    accessed_objects w.objects (with_object object w.objects) areas w.access_pins page
    (more_holders object w.objects w.access_pins fresh) held

-- ---- each event

module _ {A : Type 0} (at : ℕ) (w : World) (p : OwnedPins at w) (fits : RowsFit w) where
  hwpt_over : (file : FileNo) (request : HwptRequest) (id : ObjId) → is_fresh w.objects file id ≡ true
      → first_true (hwpt_alloc_checks (view w) file request) ≡ Some cause.Account
      → PassesLimit {A = A} w
      (hwpt_changes w file request.ioas id (settings_under w.settings w.objects file request.device))
      (event.HwptAlloc file request)
  unfolding hwpt_alloc_checks
  hwpt_over file request id fresh refused = by_device (settings_under w.settings w.objects file request.device) refl
    where
      row : passes_limit_attached (view w) file request.ioas ≡ true
      row = sym (or_none (passes_limit_attached (view w) file request.ioas))
          ∙ account_row (hwpt_alloc_checks (view w) file request) refused

      lacks : lacks_attached_page (view w) file request.ioas ≡ false
      lacks = row_passed cause.Account is_account refl (hwpt_alloc_checks (view w) file request) 6 refused refl

      by_device : (d : Option DeviceSettings) → settings_under w.settings w.objects file request.device ≡ d
          → PassesLimit {A = A} w (hwpt_changes w file request.ioas id d) (event.HwptAlloc file request)
      by_device None is = absurd (under_known w file request.device fits
          (row_passed cause.Account is_account refl (hwpt_alloc_checks (view w) file request) 1 refused refl) is)
      by_device (Some d) is =
          table_over {A = A} at w w.areas (λ objects number. refl) (event.HwptAlloc file request) file request.ioas id
          d.width false w.attachments p refl row lacks
          (table_covers at w w.areas _ (each_held w.objects w.areas w.access_pins p.pins.held) fresh)

  attach_over : (device : DeviceNo) (pt_id id : ObjId)
      → first_true (attach_checks (view w) device pt_id) ≡ Some cause.Account
      → IsHwptOf w pt_id id (binding_of w.objects device) (device_of w.settings device)
      → PassesLimit {A = A} w
      (attach_changes w device pt_id id (binding_of w.objects device) (device_of w.settings device))
      (event.Attach device pt_id)
  unfolding attach_checks attached
  attach_over device pt_id id refused made =
      by_target w device pt_id id (λ left. PassesLimit {A = A} w left (event.Attach device pt_id))
      (λ nowhere. absurd (nowhere made))
      (λ bound d is known space here.
      let refused_space = refused_of bound (Some kind.Ioas) is space in
      let row : passes_limit_attached (view w) bound.file pt_id ≡ true =
      sym (or_none (passes_limit_attached (view w) bound.file pt_id))
      ∙ account_row (rows bound (Some kind.Ioas)) refused_space in
      let lacks : lacks_attached_page (view w) bound.file pt_id ≡ false =
      row_passed cause.Account is_account refl (rows bound (Some kind.Ioas)) 4 refused_space refl in
      let none = not_true _ (and_true (not (has_hwpt w.objects bound.file pt_id)) _ row).0 in
      let of_file : file_of {A = A} w (event.Attach device pt_id) ≡ Some bound.file =
      ap (λ (o : Option Object). elim o as (λ _. Option FileNo) [ Some b ↦ Some b.file | None ↦ None ]) is in
      let attachments = with_attachment (record { device = device; file = bound.file; hwpt = id }) w.attachments in
      subst (λ (o : Option Object). PassesLimit {A = A} w (settle w (moved_world w (all_paid device w.areas)
      (with_hwpt bound.file pt_id id d.width o w.objects) attachments)) (event.Attach device pt_id))
      (sym (no_automatic w.objects bound.file pt_id d.width none))
      (table_over {A = A} at w (all_paid device w.areas) (alike_paid w device) (event.Attach device pt_id)
      bound.file pt_id id d.width true attachments p of_file row lacks
      (paid_covers bound.file pt_id id d.width (fresh_of bound.file pt_id d.width _ (here made)
      (no_automatic w.objects bound.file pt_id d.width none)))))
      (λ bound d ioas width automatic is known table same.
      let k : Option ObjectKind = Some (kind.Hwpt ioas width automatic) in
      absurd (never (account_row (rows bound k) (refused_of bound k is table))))
    where
      fresh_of : (file : FileNo) (ioas : ObjId) (width : Width) (o : Option Object) → IsHwptFor w file id o → o ≡ None
          → is_fresh w.objects file id ≡ true
      fresh_of file ioas width o made none = subst (IsHwptFor w file id) none made

      paid_covers : (file : FileNo) (ioas table : ObjId) (width : Width) → is_fresh w.objects file table ≡ true
          → (page : ObjectPage)
          → is_accessed (with_table file ioas table width true w.objects) (all_paid device w.areas) w.access_pins page
          ≡ is_accessed w.objects w.areas w.access_pins page
      paid_covers file ioas table width fresh page =
          table_covers at w (all_paid device w.areas) _
          (held_phases w.objects (λ a. paid device a.phase) w.areas w.access_pins
          (each_held w.objects w.areas w.access_pins p.pins.held)) fresh page
          ∙ accessed_phases w.objects (λ a. paid device a.phase) w.areas w.access_pins page

      rows : Object → Option ObjectKind → List (Cause × Bool)
      rows bound k = (cause.Bound, is_some (attachment_of w.attachments device))
          ∷ target_checks (view w) device pt_id bound.file k

      refused_of : (bound : Object) (k : Option ObjectKind) → binding_of w.objects device ≡ Some bound
          → kind_of w.objects bound.file pt_id ≡ k → first_true (rows bound k) ≡ Some cause.Account
      refused_of bound k is named =
          let refused_bound : first_true (bound_attach_checks (view w) device pt_id bound.file) ≡ Some cause.Account =
          rw (is, attach_checks) at refused in
          rw named at refused_bound

  pub over_limit : (e : Event A) (answer : Reply) → refusal w e ≡ Some cause.Account → Answers w e answer
      → PassesLimit {A = A} w (changed at w e answer) e
  unfolding changed Answers copy_checks ioas_alloc_checks allow_iovas_checks unmap_checks destroy_checks close_checks
      user_map_checks user_unmap_checks user_write_checks bind_checks unbind_checks detach_checks flush_checks
      device_write_checks access_create_checks access_attach_checks access_detach_checks access_unpin_checks
      access_write_checks dirty_enable_checks dirty_checks
  over_limit (event.Map file request) (reply.Iova iova) refused answers =
      map_over at w file request iova p.pins refused
  over_limit (event.Copy file request) (reply.Iova iova) refused answers =
      by_source (source_area w file request) refl
    where
      found : is_none (source_area w file request) ≡ false
      found = row_passed cause.Account is_account refl (copy_checks (view w) file request) 7 refused refl

      by_source : (source : Option Area) → source_area w file request ≡ source
          → PassesLimit {A = A} w (copy_changes w file request iova source) (event.Copy file request)
      by_source None is = absurd (never (sym found ∙ ap (λ (o : Option Area). is_none o) is))
      by_source (Some source) is = copy_over at w file request iova source p refused is
  over_limit (event.HwptAlloc file request) (reply.Id id) refused answers = hwpt_over file request id answers refused
  over_limit (event.Attach device pt_id) (reply.Id id) refused answers = attach_over device pt_id id refused answers
  over_limit (event.AccessPin file id request) reply.Done refused answers =
      pin_over at w file id request p refused
  over_limit (event.AccessPin file id request) answer refused answers = absurd answers
  over_limit (event.Map file request) answer refused answers = absurd answers
  over_limit (event.Copy file request) answer refused answers = absurd answers
  over_limit (event.HwptAlloc file request) answer refused answers = absurd answers
  over_limit (event.Attach device pt_id) answer refused answers = absurd answers
  over_limit e answer refused answers = absurd (never (account_row (checks (view w) e) refused))
