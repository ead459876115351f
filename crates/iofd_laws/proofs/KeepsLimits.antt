-- No event gives a user more pinned pages than its limit allows.
use Rattle.std.proofs.Common.{◌≡◌, ℕ, ◌+◌, ◌/◌, ◌≤◌, Bool, true, false, cond, ◌&&◌, ◌||◌, not, eqb, ltb}
use Rattle.std.proofs.Common.{Option, Some, None, List, [], ◌∷◌, ◌++◌, length, refl, ap, sym, subst, ◌∙◌}
use Rattle.std.proofs.Common.{arith}
use Rattle.std.specs.List.{count_by, filter, list_any}
use Rattle.std.proofs.lemmas.Bool.Decides.{nat_tests}
use Rattle.std.proofs.lemmas.List.FromFn.{length-map-range_with_len}
use Rattle.std.proofs.lemmas.List.Sums.{count_by-le-length}
use Rattle.iofd_steps.specs.After.{changed, copy_changes, map_changes, hwpt_changes}
use Rattle.iofd_steps.specs.After.{settle, without_areas, attached, detached, joined, goes_with}
use Rattle.iofd_steps.specs.After.{mapped_area, memory_object, with_hwpt}
use Rattle.iofd_words.specs.Allowed.{AllowedRanges, without_allowed}
use Rattle.iofd_steps.specs.Answers.{Answers}
use Rattle.iofd_words.specs.Areas.{all_paid, areas_of, is_of, is_touched, with_area}
use Rattle.iofd_words.specs.Attachments.{with_attachment, without_attachment}
use Rattle.iofd_refusals.specs.Checks.{copy_checks, map_checks, newly_pinned, passes_limit, passes_limit_attached}
use Rattle.iofd_refusals.specs.Checks.{refusal}
use Rattle.iofd_words.specs.Copies.{placed_as}
use Rattle.iofd_words.specs.Files.{limit_of, user_of}
use Rattle.iofd_words.specs.FirstTrue.{first_true}
use Rattle.iofd_words.specs.Objects.{automatic_hwpt, has_hwpt, is_object, settings_under, without_object}
use Rattle.iofd_words.specs.Pins.{ObjectPage, is_page, is_translated, pages_of, settled}
use Rattle.iofd_words.specs.Pins.{is_accessed, is_pinned}
use Rattle.iofd_words.specs.Settings.{Settings}
use Rattle.iofd_words.specs.Tables.{with_tables}
use Rattle.iofd_words.specs.View.{view}
use Rattle.iofd_words.specs.World.{World, opening}
use Rattle.iofd_words.specs.declared.event.CopyRequest.{CopyRequest}
use Rattle.iofd_words.specs.declared.event.Event.{Event}
use Rattle.iofd_words.specs.declared.event.Event.TheVariants as event
use Rattle.iofd_words.specs.declared.event.MapRequest.{MapRequest}
use Rattle.iofd_words.specs.declared.numbers.DeviceNo.{DeviceNo}
use Rattle.iofd_words.specs.declared.numbers.FileNo.{FileNo}
use Rattle.iofd_words.specs.declared.numbers.FrameNo.{FrameNo}
use Rattle.iofd_words.specs.declared.numbers.Iova.{Iova}
use Rattle.iofd_words.specs.declared.numbers.ObjId.{ObjId}
use Rattle.iofd_words.specs.declared.numbers.UserNo.{UserNo}
use Rattle.iofd_words.specs.declared.reply.Reply.{Reply}
use Rattle.iofd_words.specs.declared.reply.Reply.TheVariants as reply
use Rattle.iofd_words.specs.declared.rows.Area.{Area}
use Rattle.iofd_words.specs.declared.rows.Attachment.{Attachment}
use Rattle.iofd_words.specs.declared.rows.MemoryObject.{MemoryObject}
use Rattle.iofd_words.specs.declared.rows.Object.{Object}
use Rattle.iofd_words.specs.declared.width.Width.{Width}
use Rattle.iofd_laws.specs.Laws.{held_in}
use Rattle.iofd_rows.specs.Pinned.{ArePinned}
use Rattle.iofd_rows.proofs.Bools.{and_rest, and_true, both_true, clash, not_false, not_true}
use Rattle.iofd_rows.proofs.Each.{IsIn, of_any, of_each}
use Rattle.iofd_rows.proofs.ListTests.{false_else}
use Rattle.iofd_rows.proofs.ObjectPages.{in_pinned, is_listed, translated-with_area, untranslated}
use Rattle.iofd_rows.proofs.PageCounts.{count_none, count_weaker, page_count, page_count_bound}
use Rattle.iofd_rows.proofs.PageCounts.{page_count_last}
use Rattle.iofd_rows.proofs.PageTables.{hwpt-filter}
use Rattle.iofd_rows.proofs.PinsFollow.{pin_is_of, settled_only}
use Rattle.iofd_runs.specs.Owned.{is_of_files_user}
use Rattle.iofd_runs.proofs.AttachedPages.{IsNew, had_before, never_pinned, none_new, over_number, over_space, unpinned}
use Rattle.iofd_runs.proofs.AttachedPages.{with_table}
use Rattle.iofd_runs.proofs.CopiedPages.{IsAdded, added_page, pages_copied}
use Rattle.iofd_runs.proofs.CopySource.{source_area, source_is}
use Rattle.iofd_runs.proofs.KeepsOwned.{OwnedPins, keeps_owned_pins, later_owned, opening_owned, owner, tabled_owned}
use Rattle.iofd_runs.proofs.PagesToPin.{AlikeAreas, alike_paid, moved_new, none_over, pages_in}
use Rattle.iofd_runs.proofs.PagesToPin.{AccessedAlike}
use Rattle.iofd_runs.proofs.NotRefused.{attach_passed, copy_passed, hwpt_passed, map_passed}
use Rattle.iofd_runs.proofs.StillTabled.{in_kept}
use Rattle.iofd_runs.proofs.Branches.{by_attachment_kept, by_found_kept, by_target_kept}
use Rattle.iofd_runs.proofs.KeepsPins.{accesses_kept}
use Rattle.iofd_runs.proofs.Accessed.{none_covered}
use Rattle.iofd_laws.proofs.PagesHeld.{AllCoveredAs, come_held, comes, flipped, gone_held, has_pin, held_settle}
use Rattle.iofd_laws.proofs.PagesHeld.{listed_page, none_comes, number_of_page, of_user, same_user}
use Rattle.iofd_laws.proofs.PagesHeld.{settle_pin, within_limit}
use Rattle.iofd_laws.proofs.PinsHeld.{accessed_held, pinned_world, unpinned_held, unpinned_world}
use Rattle.iofd_runs.proofs.AccessesPassed.{pin_passed}
use Rattle.iofd_words.specs.Accesses.{pin_of}

-- no user has more pinned pages than its limit allows
abbrev pub WithinLimits : World → Type 0
WithinLimits w = (user : UserNo) (limit : ℕ) → limit_of w.settings user ≡ Some limit → held_in w user ≤ limit

-- ---- a MAP

abbrev pub mapped_world : ℕ → World → FileNo → MapRequest → Iova → UserNo → World
mapped_world at w file request iova user =
    record w {
      memory = w.memory ++ memory_object at user request ∷ [];
      areas = with_area (mapped_area at file request iova) w.areas;
    }

abbrev IsCoveredAsMapped : ℕ → World → FileNo → MapRequest → Iova → UserNo → Type 0
IsCoveredAsMapped at w file request iova user =
    AllCoveredAs w w.objects (with_area (mapped_area at file request iova) w.areas)
    (w.memory ++ memory_object at user request ∷ [])

-- a page that is to be pinned then
mapped_page : (at : ℕ) (w : World) (file : FileNo) (request : MapRequest) (iova : Iova) (user : UserNo)
    (page : ObjectPage) → IsCoveredAsMapped at w file request iova user
    → list_any (is_page page) (pages_in (mapped_world at w file request iova user)) ≡ true
    → (((eqb at page.memory && has_hwpt w.objects file request.ioas)
    || is_translated w.objects w.areas page.memory) || is_accessed w.objects w.areas w.access_pins page) ≡ true
mapped_page at w file request iova user page accessed within =
    let area = mapped_area at file request iova in
    let memory : List MemoryObject = w.memory ++ memory_object at user request ∷ [] in
    let parts = and_true (is_listed memory page) (is_pinned w.objects (with_area area w.areas) w.access_pins page)
    (sym (in_pinned w.objects (with_area area w.areas) memory w.access_pins page) ∙ within) in
    sym (ap (λ b. b || is_accessed w.objects w.areas w.access_pins page)
    (translated-with_area w.objects area w.areas page.memory))
    ∙ sym (ap (λ b. is_translated w.objects (with_area area w.areas) page.memory || b) (accessed page parts.0))
    ∙ parts.1

-- no page of a memory object that stands comes
none_old : (at : ℕ) (w : World) (file : FileNo) (request : MapRequest) (iova : Iova) (user : UserNo) (m : MemoryObject)
    (page : ObjectPage) → IsCoveredAsMapped at w file request iova user → ArePinned at w → IsIn w.memory m
    → IsIn (pages_of m) page → comes w (mapped_world at w file request iova user) page ≡ true → ⊥
none_old at w file request iova user m page accessed p among within is =
    let parts = and_true (list_any (is_page page) (pages_in (mapped_world at w file request iova user)))
    (not (list_any (is_page page) (pages_in w))) is in
    let other : eqb at page.memory ≡ false =
    unlike m.number page.memory (of_each (λ (o : MemoryObject). ltb o.number at) w.memory m p.made among)
    (number_of_page m page within) in
    let pinned : is_pinned w.objects w.areas w.access_pins page ≡ true =
    rw other at (mapped_page at w file request iova user page accessed parts.0) in
    clash _ (not_true _ parts.1) (in_pinned w.objects w.areas w.memory w.access_pins page
    ∙ both_true _ _ (listed_page w.memory m page among within) pinned)
  where
    unlike : (n k : ℕ) → ltb n at ≡ true → k ≡ n → eqb at k ≡ false
    unlike n k before is = grind (arith, nat_tests)

-- and without a page table none of the new memory object has a pin
none_new_object : (at : ℕ) (w : World) (file : FileNo) (request : MapRequest) (iova : Iova) (user : UserNo)
    (page : ObjectPage) → IsCoveredAsMapped at w file request iova user → ArePinned at w
    → has_hwpt w.objects file request.ioas ≡ false → IsIn (pages_of (memory_object at user request)) page
    → has_pin (settle w (mapped_world at w file request iova user)) page ≡ false
unfolding settle
none_new_object at w file request iova user page accessed p table within =
    let new = mapped_world at w file request iova user in
    let same : page.memory ≡ at = number_of_page (memory_object at user request) page within in
    let over = none_over at w.areas w.memory p.made p.sizes in
    let none : is_translated w.objects w.areas page.memory ≡ false =
    rw same (untranslated w.objects w.areas at over) in
    let free = none_covered w.objects w.areas w.access_pins page
    (subst (λ n. list_any (λ (a : Area). eqb a.memory n) w.areas ≡ false) (sym same) over) in
    false_else (has_pin (settle w new) page) (λ some.
    no_table (eqb at page.memory) (has_hwpt w.objects file request.ioas)
    (is_translated w.objects w.areas page.memory) table none (or_first _ _ free
    (mapped_page at w file request iova user page accessed
    (pin_is_of (settled (pages_in w) (pages_in new) new.memory new.user_pages w.pins) (pages_in new) page some
    (settled_only (pages_in w) (pages_in new) new.memory new.user_pages w.pins)))))
  where
    or_first : (a b : Bool) → b ≡ false → (a || b) ≡ true → a ≡ true
    or_first true b none some = refl
    or_first false b none some = let never = sym some ∙ none in cc

    no_table : (here has translated : Bool) → has ≡ false → translated ≡ false → ((here && has) || translated) ≡ true
        → ⊥
    no_table true false false a b is = cc
    no_table false false false a b is = cc
    no_table here true translated a b is = cc
    no_table here false true a b is = cc

mapped_held : (at : ℕ) (w : World) (file : FileNo) (request : MapRequest) (iova : Iova) (user other : UserNo)
    (limit : ℕ) → IsCoveredAsMapped at w file request iova user → ArePinned at w
    → first_true (map_checks (view w) file request) ≡ None → user_of w.settings file ≡ Some user
    → limit_of w.settings other ≡ Some limit → held_in w other ≤ limit
    → held_in (settle w (mapped_world at w file request iova user)) other ≤ limit
mapped_held at w file request iova user other limit accessed p none is has before =
    rw (held_settle w new other, page_count_last pinned (of_user other) w.memory object)
    (by_user (eqb user.0 other.0) refl)
  where
    new : World
    new = mapped_world at w file request iova user

    object : MemoryObject
    object = memory_object at user request

    pinned : ObjectPage → Bool
    pinned = has_pin (settle w new)

    old : page_count pinned (of_user other) w.memory ≤ held_in w other
    old =
        page_count_bound pinned (has_pin w) (of_user other) (of_user other) w.memory
        (λ m among. by_test m (of_user other m) (count_weaker pinned (has_pin w) (pages_of m)
        (λ page within some. had m page among within some (has_pin w page) refl)))
      where
        had : (m : MemoryObject) (page : ObjectPage) → IsIn w.memory m → IsIn (pages_of m) page → pinned page ≡ true
            → (b : Bool) → has_pin w page ≡ b → b ≡ true
        had m page among within some true is = refl
        had m page among within some false is =
            absurd (none_old at w file request iova user m page accessed p among within (settle_pin w new page some is))

        by_test : (m : MemoryObject) (b : Bool) → count_by pinned (pages_of m) ≤ count_by (has_pin w) (pages_of m)
            → cond b (count_by pinned (pages_of m)) 0 ≤ cond b (count_by (has_pin w) (pages_of m)) 0
        by_test m true fewer = fewer
        by_test m false fewer = omega arith

    by_table : (b : Bool) → has_hwpt w.objects file request.ioas ≡ b → user ≡ other
        → held_in w other + count_by pinned (pages_of object) ≤ limit
    by_table true table same =
        let passed = map_passed (view w) file request none in
        let more = within_limit (view w) (user_of w.settings file) other (request.length / 4096) limit (is
        ∙ ap (λ (u : UserNo). Some u) same) has (and_rest (has_hwpt w.objects file request.ioas) _
        table passed.within_limit) in
        let pages = count_by-le-length pinned (pages_of object) in
        let many : length (pages_of object) ≡ request.length / 4096 =
        length-map-range_with_len _ 0 (request.length / 4096) in
        omega (arith, more, pages, many)
    by_table false table same =
        let nothing = count_none pinned (pages_of object)
        (λ page within. none_new_object at w file request iova user page accessed p table within) in
        omega (arith, nothing, before)

    by_user : (b : Bool) → eqb user.0 other.0 ≡ b
        → page_count pinned (of_user other) w.memory + cond b (count_by pinned (pages_of object)) 0 ≤ limit
    by_user true same = let all =
        by_table (has_hwpt w.objects file request.ioas) refl (same_user user other same) in omega (arith, all, old)
    by_user false same = omega (arith, old, before)

-- ---- a COPY

abbrev pub copied_world : World → FileNo → CopyRequest → Iova → Area → World
copied_world w file request iova source =
    record w { areas = with_area (mapped_area source.memory file (placed_as request) iova) w.areas }

-- what comes is of the source's memory object, and by a page table of the target
copied_page : (w : World) (file : FileNo) (request : CopyRequest) (iova : Iova) (source : Area) (page : ObjectPage)
    → AllCoveredAs w w.objects (with_area (mapped_area source.memory file (placed_as request) iova) w.areas) w.memory
    → comes w (copied_world w file request iova source) page ≡ true
    → IsAdded w (mapped_area source.memory file (placed_as request) iova) page
copied_page w file request iova source page accessed is =
    let parts = and_true (list_any (is_page page) (pages_in (copied_world w file request iova source)))
    (not (list_any (is_page page) (pages_in w))) is in
    added_page w (mapped_area source.memory file (placed_as request) iova) page (accessed page) parts.0
    (not_true _ parts.1)

copied_held : (at : ℕ) (w : World) (file : FileNo) (request : CopyRequest) (iova : Iova) (source : Area) (user : UserNo)
    (limit : ℕ)
    → AllCoveredAs w w.objects (with_area (mapped_area source.memory file (placed_as request) iova) w.areas) w.memory
    → OwnedPins at w → first_true (copy_checks (view w) file request) ≡ None
    → source_area w file request ≡ Some source → limit_of w.settings user ≡ Some limit
    → held_in w user ≤ limit → held_in (settle w (copied_world w file request iova source)) user ≤ limit
copied_held at w file request iova source user limit accessed p none found has before =
    by_table (has_hwpt w.objects file request.dst_ioas) refl
  where
    new : World
    new = copied_world w file request iova source

    is_copied : MemoryObject → Bool
    is_copied m = eqb m.number source.memory

    over : (m : MemoryObject) (page : ObjectPage) → IsIn (pages_of m) page → comes w new page ≡ true
        → is_copied m ≡ true
    over m page within is = let added = copied_page w file request iova source page accessed is in ap
        (λ (n : ℕ). eqb n source.memory) (sym (number_of_page m page within))
        ∙ flipped source.memory page.memory added.of_memory

    owned : (m : MemoryObject) → IsIn w.memory m → is_copied m ≡ true → is_of_files_user w.settings file m ≡ true
    owned m among is =
        let stands = source_is w file request source found in
        owner w file request.src_ioas m p.areas among
        (of_any (λ (a : Area). eqb a.memory m.number) (areas_of w.areas file request.src_ioas) source
        (in_kept (is_of file request.src_ioas) w.areas source stands.within stands.of_space)
        (flipped m.number source.memory is))

    by_table : (b : Bool) → has_hwpt w.objects file request.dst_ioas ≡ b → held_in (settle w new) user ≤ limit
    by_table true table =
        let passed = and_rest (has_hwpt w.objects file request.dst_ioas) _ table
        (copy_passed (view w) file request none).within_limit in
        come_held w new refl file is_copied user limit over
        (λ page is. never_pinned at w page p.pins (copied_page w file request iova source page accessed is).unpinned)
        owned has
        (ap (λ (pages : List ObjectPage). passes_limit (view w) (user_of w.settings file) (length pages))
        (sym (pages_copied w file request source found)) ∙ passed) before
    by_table false table =
        let held = none_comes w new (of_user user) w.memory
        (λ page is. clash _ table (copied_page w file request iova source page accessed is).has_table) in
        rw (held_settle w new user) (omega (arith, held, before))

-- ---- page tables come and go

abbrev pub moved_world : World → List Area → List Object → List Attachment → World
moved_world w areas left attachments = record w { objects = left; attachments = attachments; areas = areas }

-- a page that comes is new
comes_new : (w : World) (areas : List Area) (left : List Object) (attachments : List Attachment) (page : ObjectPage)
    → AlikeAreas w areas → AllCoveredAs w left areas w.memory
    → comes w (moved_world w areas left attachments) page ≡ true → IsNew w left page
comes_new w areas left attachments page alike accessed is =
    let parts = and_true (list_any (is_page page) (pages_in (moved_world w areas left attachments)))
    (not (list_any (is_page page) (pages_in w))) is in
    moved_new w areas left page alike (accessed page) parts.0 (not_true _ parts.1)

-- no page table comes
fewer_held : (w : World) (areas : List Area) (left : List Object) (attachments : List Attachment) (user : UserNo)
    → AlikeAreas w areas → AllCoveredAs w left areas w.memory
    → ((file : FileNo) (ioas : ObjId) → has_hwpt left file ioas ≡ true → has_hwpt w.objects file ioas ≡ true)
    → held_in (settle w (moved_world w areas left attachments)) user ≤ held_in w user
fewer_held w areas left attachments user alike accessed fewer =
    rw (held_settle w (moved_world w areas left attachments) user)
    (none_comes w (moved_world w areas left attachments) (of_user user) w.memory
    (λ page is. none_new w left page fewer (comes_new w areas left attachments page alike accessed is)))

-- an address space gets its first page table
module _ (at : ℕ) (w : World) (areas : List Area) (alike : AlikeAreas w areas) (file : FileNo) (ioas id : ObjId)
    (width : Width) (automatic : Bool) (attachments : List Attachment) (user : UserNo) (limit : ℕ)
    (accessed : AllCoveredAs w (with_table file ioas id width automatic w.objects) areas w.memory) (p : OwnedPins at w)
  where
    abbrev tables : List Object
    tables = with_table file ioas id width automatic w.objects

    abbrev first_table : World
    first_table = moved_world w areas tables attachments

    -- the memory object has an area in the address space
    abbrev in_space : MemoryObject → Bool
    in_space m = list_any (λ (a : Area). eqb a.memory m.number) (areas_of w.areas file ioas)

    new_here : (page : ObjectPage) → comes w first_table page ≡ true → IsNew w tables page
    new_here page is = comes_new w areas tables attachments page alike accessed is

    comes_over : (m : MemoryObject) (page : ObjectPage) → IsIn (pages_of m) page → comes w first_table page ≡ true
        → in_space m ≡ true
    comes_over m page within is =
        over_number w.areas file ioas page m.number (number_of_page m page within)
        (over_space w file ioas id width automatic page (new_here page is))

    first_held : limit_of w.settings user ≡ Some limit
        → passes_limit (view w) (user_of w.settings file) (length (newly_pinned (view w) file ioas)) ≡ false
        → held_in w user ≤ limit → held_in (settle w first_table) user ≤ limit
    first_held =
        come_held w first_table refl file in_space user limit comes_over
        (λ page is. unpinned at w tables page p.pins (new_here page is))
        (λ m among over. owner w file ioas m p.areas among over)

-- a page table is made
table_held : (at : ℕ) (w : World) (areas : List Area) (file : FileNo) (ioas id : ObjId) (width : Width)
    (automatic : Bool) (attachments : List Attachment) (user : UserNo) (limit : ℕ) → AlikeAreas w areas
    → AllCoveredAs w (with_table file ioas id width automatic w.objects) areas w.memory → OwnedPins at w
    → passes_limit_attached (view w) file ioas ≡ false → limit_of w.settings user ≡ Some limit
    → held_in w user ≤ limit → held_in (settle w
    (moved_world w areas (with_table file ioas id width automatic w.objects) attachments)) user ≤ limit
table_held at w areas file ioas id width automatic attachments user limit alike accessed p passed has before =
    by_table (has_hwpt w.objects file ioas) refl
  where
    by_table : (b : Bool) → has_hwpt w.objects file ioas ≡ b
        → held_in (settle w (moved_world w areas (with_table file ioas id width automatic w.objects) attachments))
        user ≤ limit
    by_table true had =
        let held =
        fewer_held w areas (with_table file ioas id width automatic w.objects) attachments user alike accessed
        (λ own space table. had_before w.objects file ioas id width automatic own space had table) in
        omega (arith, held, before)
    by_table false had =
        first_held at w areas alike file ioas id width automatic attachments user limit accessed p has
        (and_rest (not (has_hwpt w.objects file ioas)) _ (not_false _ had) passed) before

-- a device is attached, by an automatic page table or by one that is made
attached_held : (at : ℕ) (w : World) (device : DeviceNo) (file : FileNo) (ioas id : ObjId) (width : Width)
    (automatic : Option Object) (attachments : List Attachment) (user : UserNo) (limit : ℕ)
    → AllCoveredAs w (with_hwpt file ioas id width automatic w.objects) (all_paid device w.areas) w.memory
    → OwnedPins at w → passes_limit_attached (view w) file ioas ≡ false → limit_of w.settings user ≡ Some limit
    → held_in w user ≤ limit
    → held_in (settle w (moved_world w (all_paid device w.areas) (with_hwpt file ioas id width automatic w.objects)
    attachments)) user ≤ limit
attached_held at w device file ioas id width (Some automatic) attachments user limit accessed p passed has before =
    let held = fewer_held w (all_paid device w.areas) w.objects attachments user (alike_paid w device) accessed
    (λ own space table. table) in
    omega (arith, held, before)
attached_held at w device file ioas id width None attachments user limit accessed p passed has before =
    table_held at w (all_paid device w.areas) file ioas id width true attachments user limit
    (alike_paid w device) accessed p passed has before

-- ---- each event

settled_limits : (w new : World) → new.settings ≡ w.settings
    → ((user : UserNo) (limit : ℕ) → limit_of w.settings user ≡ Some limit → held_in w user ≤ limit
    → held_in (settle w new) user ≤ limit) → WithinLimits w → WithinLimits (settle w new)
unfolding settle
settled_limits w new same held within = λ user limit has.
    let is = ap (λ (s : Settings). limit_of s user) (sym same) ∙ has in
    held user limit is (within user limit is)

gone_limits : (w : World) (goes : Area → Bool) (left : List Object) (attachments : List Attachment)
    (allowed : List AllowedRanges) (closed : List FileNo)
    → ((file : FileNo) (ioas : ObjId) → has_hwpt left file ioas ≡ true → has_hwpt w.objects file ioas ≡ true)
    → AllCoveredAs w left (filter (λ (a : Area). not (goes a)) w.areas)
    (filter (λ m. list_any (λ (a : Area). eqb a.memory m.number && not (goes a)) w.areas) w.memory)
    → WithinLimits w
    → WithinLimits (settle w (record (without_areas goes w) {
      objects = left;
      attachments = attachments;
      allowed = allowed;
      closed = closed;
    }))
unfolding without_areas
gone_limits w goes left attachments allowed closed fewer accessed =
    settled_limits w (record (without_areas goes w) {
      objects = left;
      attachments = attachments;
      allowed = allowed;
      closed = closed;
    }) refl
    (λ user limit is before. let held = gone_held w goes left attachments allowed closed user fewer accessed in
    omega (arith, held, before))

pub keeps_limits : {A : Type 0} → (at : ℕ) (w : World) (e : Event A) (answer : Reply) → refusal w e ≡ None
    → OwnedPins at w → AccessedAlike w (changed at w e answer) → WithinLimits w → WithinLimits (changed at w e answer)
unfolding changed settle without_areas attached detached joined
keeps_limits at w (event.IoasAlloc file) (reply.Id id) none p accessed within = within
keeps_limits at w (event.Map file request) (reply.Iova iova) none p accessed within =
    by_found_kept (λ user. AccessedAlike w (map_changes at w file request iova user))
    (λ user. WithinLimits (map_changes at w file request iova user)) (user_of w.settings file) accessed within
    (λ user is accessed. settled_limits w (mapped_world at w file request iova user) refl
    (λ other limit has before.
    mapped_held at w file request iova user other limit accessed p.pins none is has before) within)
keeps_limits at w (event.Copy file request) (reply.Iova iova) none p accessed within =
    by_found_kept (λ source. AccessedAlike w (copy_changes w file request iova source))
    (λ source. WithinLimits (copy_changes w file request iova source)) (source_area w file request) accessed within
    (λ source is accessed. settled_limits w (copied_world w file request iova source) refl
    (λ user limit has before.
    copied_held at w file request iova source user limit accessed p none is has before) within)
keeps_limits at w (event.Unmap file request) (reply.Bytes count) none p accessed within =
    gone_limits w (is_touched file request) w.objects w.attachments w.allowed w.closed (λ own ioas has. has) accessed
    within
keeps_limits at w (event.Unmap file request) (reply.Pending errno) none p accessed within = within
keeps_limits at w (event.HwptAlloc file request) (reply.Id id) none p accessed within =
    by_found_kept (λ settings. AccessedAlike w (hwpt_changes w file request.ioas id settings))
    (λ settings. WithinLimits (hwpt_changes w file request.ioas id settings))
    (settings_under w.settings w.objects file request.device) accessed within (λ settings is accessed.
    settled_limits w (moved_world w w.areas (with_table file request.ioas id settings.width false w.objects)
    w.attachments) refl
    (λ user limit has before. table_held at w w.areas file request.ioas id settings.width false w.attachments user
    limit (λ objects number. refl) accessed p (hwpt_passed (view w) file request none).within_limit has before) within)
keeps_limits at w (event.Destroy file id) reply.Done none p accessed within =
    gone_limits w (is_of file id) (without_object file id w.objects) w.attachments (without_allowed file id w.allowed)
    w.closed
    (λ own ioas has. hwpt-filter (λ o. not (is_object file id o)) w.objects own ioas has) accessed within
keeps_limits at w (event.Close file) reply.Done none p accessed within =
    gone_limits w (λ a. eqb a.file.0 file.0) (filter (λ (o : Object). not (eqb o.file.0 file.0)) w.objects)
    (filter (λ (a : Attachment). not (eqb a.file.0 file.0)) w.attachments)
    (filter (λ (ranges : AllowedRanges). not (eqb ranges.file.0 file.0)) w.allowed) (w.closed ++ file ∷ [])
    (λ own ioas has. hwpt-filter (λ o. not (eqb o.file.0 file.0)) w.objects own ioas has) accessed within
keeps_limits at w (event.UserMap user va) (reply.Frame frame) none p accessed within = within
keeps_limits at w (event.AllowIovas file ioas ranges) reply.Done none p accessed within = within
keeps_limits at w (event.UserUnmap user va) reply.Done none p accessed within = within
keeps_limits at w (event.UserWrite user va bytes) reply.Done none p accessed within = within
keeps_limits at w (event.Bind file device) (reply.Id id) none p accessed within = within
keeps_limits at w (event.Unbind file id) reply.Done none p accessed within = within
keeps_limits at w (event.Attach device pt_id) (reply.Id id) none p accessed within =
    by_target_kept w device pt_id id (AccessedAlike w) WithinLimits accessed (λ nowhere. within)
    (λ object d bound known space made accessed.
    let automatic = automatic_hwpt w.objects object.file pt_id d.width in
    let attachments = with_attachment (record { device = device; file = object.file; hwpt = id }) w.attachments in
    settled_limits w (moved_world w (all_paid device w.areas)
    (with_hwpt object.file pt_id id d.width automatic w.objects) attachments) refl
    (λ user limit has before. attached_held at w device object.file pt_id id d.width automatic attachments user limit
    accessed p
    (attach_passed (view w) device pt_id object bound space none).within_limit has before) within)
    (λ object d ioas width automatic bound known table same accessed. within)
keeps_limits at w (event.Detach device) reply.Done none p accessed within =
    by_attachment_kept w device (AccessedAlike w) WithinLimits accessed within (λ a is accessed.
    let goes = goes_with (without_attachment device w.attachments) a in
    let left = filter (λ (o : Object). not (goes o)) w.objects in
    settled_limits w (moved_world w (all_paid device w.areas) left (without_attachment device w.attachments)) refl
    (λ user limit has before. let held = fewer_held w (all_paid device w.areas) left
    (without_attachment device w.attachments) user (alike_paid w device) accessed
    (λ own ioas table. hwpt-filter (λ o. not (goes o)) w.objects own ioas table) in
    omega (arith, held, before)) within)
keeps_limits at w (event.Flush device) reply.Done none p accessed within = within
keeps_limits at w (event.DeviceWrite device iova bytes) (reply.Passed frame) none p accessed within = within
keeps_limits at w (event.AccessCreate file) (reply.Id id) none p accessed within = within
keeps_limits at w (event.AccessAttach file id ioas) reply.Done none p accessed within = within
keeps_limits at w (event.AccessDetach file id) reply.Done none p accessed within = within
keeps_limits at w (event.AccessPin file id request) reply.Done none p accessed within =
    let (ioas, passed) = pin_passed (view w) file id request none in
    settled_limits w (pinned_world w (pin_of file id request)) refl
    (λ user limit has before. accessed_held at w file id ioas request p passed user limit has before) within
keeps_limits at w (event.AccessUnpin file id request) reply.Done none p accessed within =
    settled_limits w (unpinned_world w (pin_of file id request)) refl
    (λ user limit has before. let held = unpinned_held w (pin_of file id request) user in omega (arith, held, before))
    within
keeps_limits at w (event.AccessWrite file id iova bytes) reply.Done none p accessed within = within
keeps_limits at w (event.DirtyEnable file hwpt on) reply.Done none p accessed within = within
keeps_limits at w (event.DirtyClear file request) (reply.Dirty words) none p accessed within = within
keeps_limits at w e answer none p accessed within = within

-- with what areas and pins keep
pub record KeptLimits (at : ℕ) (w : World) : Type 0 where
  pub pins : OwnedPins at w
  pub limits : WithinLimits w

pub tabled_limits : (at : ℕ) (w : World) (taken given : List FrameNo) → KeptLimits at w
    → KeptLimits at (with_tables taken given w)
unfolding with_tables
tabled_limits at w taken given k = record { pins = tabled_owned at w taken given k.pins; limits = k.limits }

pub later_limits : (at : ℕ) (w : World) → KeptLimits at w → KeptLimits (at + 1) w
later_limits at w k = record { pins = later_owned at w k.pins; limits = k.limits }

pub keeps_kept_limits : {A : Type 0} → (at : ℕ) (w : World) (e : Event A) (answer : Reply) → refusal w e ≡ None
    → Answers w e answer → KeptLimits at w → KeptLimits (at + 1) (changed at w e answer)
keeps_kept_limits at w e answer none answers k = record {
  pins = keeps_owned_pins at w e answer none answers k.pins;
  limits = keeps_limits at w e answer none k.pins (accesses_kept at w e answer none answers k.pins.pins).accessed
      k.limits;
}

pub opening_limits : (settings : Settings) → KeptLimits 0 (opening settings)
opening_limits settings = record { pins = opening_owned settings; limits = λ user limit is. omega arith }
