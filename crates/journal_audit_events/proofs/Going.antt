-- The world after an event by which page tables, areas or access pins go: the pins of pages that are to be pinned still
-- stay, and no others. Those of memory objects that aren't asked for do.
use Rattle.std.proofs.Common.{◌≡◌, ℕ, Bool, true, false, ◌&&◌, ◌||◌, not, eqb, Option, Some, None, List, [], ◌∷◌, ◌++◌}
use Rattle.std.proofs.Common.{refl, sym, ap, subst, ◌∙◌, arith, inl, inr, cond}
use Rattle.std.proofs.lemmas.Bool.Decides.{nat_tests}
use Rattle.std.specs.List.{filter, list_all, list_any}
use Rattle.iofd_rows.specs.Ids.{have_own_ids}
use Rattle.iofd_rows.proofs.Bools.{and_true, both_true, clash, or_false}
use Rattle.iofd_rows.proofs.Each.{IsIn}
use Rattle.iofd_rows.proofs.ListTests.{any-filter, any_weaker, or_left, or_right}
use Rattle.iofd_rows.proofs.Named.{file_is, id_is, kind_only}
use Rattle.iofd_rows.proofs.ObjectPages.{translated-map, translated_within}
use Rattle.iofd_rows.proofs.PageTables.{hwpt-filter}
use Rattle.iofd_runs.proofs.AccessPins.{none_by_unpin}
use Rattle.iofd_runs.proofs.KeepsPins.{accesses_kept}
use Rattle.iofd_runs.proofs.NotRefused.{not_not}
use Rattle.iofd_runs.proofs.PagesToPin.{AccessedAlike, gone_within}
use Rattle.iofd_words.specs.Accesses.{pin_of}
use Rattle.iofd_steps.specs.After.{changed, detach_changes, detached, goes_with, settle, tracked_without, without_areas}
use Rattle.iofd_words.specs.Allowed.{AllowedRanges, without_allowed}
use Rattle.iofd_steps.specs.Answers.{Answers}
use Rattle.iofd_words.specs.Areas.{all_paid, is_of, paid}
use Rattle.iofd_words.specs.Attachments.{attachment_of, has_device_on, ioas_of, without_attachment}
use Rattle.iofd_refusals.specs.Checks.{refusal}
use Rattle.iofd_words.specs.Dirty.{TrackedTable, without_tracked}
use Rattle.iofd_words.specs.Objects.{has_hwpt, is_automatic, is_hwpt_over, is_object, kind_of, without_object}
use Rattle.iofd_words.specs.Pins.{is_pinned, page_of_pin, without_pin}
use Rattle.iofd_words.specs.World.{World}
use Rattle.iofd_words.specs.declared.event.Event.TheVariants as event
use Rattle.iofd_words.specs.declared.event.PinRequest.{PinRequest}
use Rattle.iofd_words.specs.declared.numbers.DeviceNo.{DeviceNo}
use Rattle.iofd_words.specs.declared.numbers.FileNo.{FileNo}
use Rattle.iofd_words.specs.declared.numbers.ObjId.{ObjId}
use Rattle.iofd_words.specs.declared.reply.Reply.{Reply}
use Rattle.iofd_words.specs.declared.reply.Reply.TheVariants as reply
use Rattle.iofd_words.specs.declared.rows.AccessPin.{AccessPin}
use Rattle.iofd_words.specs.declared.rows.Area.{Area}
use Rattle.iofd_words.specs.declared.rows.Attachment.{Attachment}
use Rattle.iofd_words.specs.declared.rows.MemoryObject.{MemoryObject}
use Rattle.iofd_words.specs.declared.rows.Object.{Object}
use Rattle.iofd_words.specs.declared.rows.ObjectKind.{ObjectKind}
use Rattle.iofd_words.specs.declared.rows.ObjectKind.TheVariants as kind
use Rattle.iofd_words.specs.declared.rows.Pin.{Pin}
use Rattle.journal_audit_events.specs.Asked.{over_space, space_left, space_under}
use Rattle.journal_audit_world.specs.Keys.{has_number}
use Rattle.journal_audit_world.proofs.Asked.{accessed_left, still_pinned, translated_left, translated_still}
use Rattle.journal_audit_world.proofs.AreasOver.{used_or_asked}
use Rattle.journal_audit_world.proofs.Settling.{listed_left, pages_fewer, pinned_still, settle_less, used_still, with_kept_pins}
use Rattle.journal_audit_world.specs.Kept.{IsKept}
use Rattle.journal_audit_world.specs.Over.{is_over}
use Rattle.journal_audit_world.specs.Unwritten.{unwritten}

-- ---- what settles

-- without an access pin
abbrev unpinned : World → FileNo → ObjId → PinRequest → World
unpinned w file id request = record w { access_pins = without_pin (pin_of file id request) w.access_pins }

unpinned_is : (at : ℕ) (w : World) (file : FileNo) (id : ObjId) (request : PinRequest) → IsKept at w
    → settle w (unpinned w file id request) ≡ with_kept_pins w.pins (unpinned w file id request)
unpinned_is at w file id request kept =
    settle_less w (unpinned w file id request) (none_by_unpin w (pin_of file id request)) (λ page listed is. listed)
    kept.pins.only

-- without an attachment, and its page table
detached_is : (A : Type 0) (at : ℕ) (w : World) (device : DeviceNo) (a : Attachment) → IsKept at w
    → refusal {A = A} w (event.Detach device) ≡ None → attachment_of w.attachments device ≡ Some a
    → settle w (detached w device a) ≡ with_kept_pins w.pins (detached w device a)
unfolding changed detached settle Answers
detached_is A at w device a kept none is =
    let alike : AccessedAlike w (settle w (detached w device a)) =
    subst (λ (o : Option Attachment). AccessedAlike w (detach_changes w device o)) is
    (accesses_kept {A = A} at w (event.Detach device) reply.Done none tt kept.pins).accessed in
    settle_less w (detached w device a)
    (pages_fewer w (detached w device a) (λ page listed. listed)
    (λ n translated. translated_within w.objects left w.areas n (λ file ioas has. hwpt-filter stays w.objects file ioas
    has)
    (sym (translated-map left (λ (b : Area). paid device b.phase) w.areas n) ∙ translated))
    (λ page listed accessed. sym (alike page listed) ∙ accessed))
    (λ page listed is. listed) kept.pins.only
  where
    stays : Object → Bool
    stays object = not (goes_with (without_attachment device w.attachments) a object)

    left : List Object
    left = filter stays w.objects

-- without an object
abbrev destroyed : World → FileNo → ObjId → World
destroyed w file id = record w {
  objects = without_object file id w.objects;
  memory = filter (λ m. list_any (λ area. eqb area.memory m.number && not (is_of file id area)) w.areas) w.memory;
  areas = filter (λ area. not (is_of file id area)) w.areas;
  allowed = without_allowed file id w.allowed;
  tracked = without_tracked file id w.tracked;
}

destroyed_is : (A : Type 0) (at : ℕ) (w : World) (file : FileNo) (id : ObjId) → IsKept at w
    → refusal {A = A} w (event.Destroy file id) ≡ None
    → settle w (destroyed w file id) ≡ with_kept_pins w.pins (destroyed w file id)
unfolding changed settle without_areas Answers
destroyed_is A at w file id kept none =
    let alike = (accesses_kept {A = A} at w (event.Destroy file id) reply.Done none tt kept.pins).accessed in
    settle_less w (destroyed w file id)
    (λ page inside. gone_within w (is_of file id) (without_object file id w.objects) _ page
    (λ own ioas has. hwpt-filter _ w.objects own ioas has) (alike page) inside)
    (λ page listed is. listed_left (without_object file id w.objects) (is_of file id) w.areas w.memory w.access_pins
    page
    listed is) kept.pins.only

-- without a file
abbrev closed : World → FileNo → World
closed w file = record w {
  objects = filter (λ object. not (eqb object.file.0 file.0)) w.objects;
  memory = filter (λ m. list_any (λ area. eqb area.memory m.number && not (eqb area.file.0 file.0)) w.areas) w.memory;
  areas = filter (λ area. not (eqb area.file.0 file.0)) w.areas;
  attachments = filter (λ a. not (eqb a.file.0 file.0)) w.attachments;
  allowed = filter (λ ranges. not (eqb ranges.file.0 file.0)) w.allowed;
  tracked = filter (λ table. not (eqb table.file.0 file.0)) w.tracked;
  closed = w.closed ++ file ∷ [];
}

closed_is : (A : Type 0) (at : ℕ) (w : World) (file : FileNo) → IsKept at w
    → refusal {A = A} w (event.Close file) ≡ None
    → settle w (closed w file) ≡ with_kept_pins w.pins (closed w file)
unfolding changed settle without_areas Answers
closed_is A at w file kept none =
    let alike = (accesses_kept {A = A} at w (event.Close file) reply.Done none tt kept.pins).accessed in
    let left = filter (λ (object : Object). not (eqb object.file.0 file.0)) w.objects in
    settle_less w (closed w file)
    (λ page inside. gone_within w (λ area. eqb area.file.0 file.0) left _ page
    (λ own ioas has. hwpt-filter _ w.objects own ioas has) (alike page) inside)
    (λ page listed is. listed_left left (λ area. eqb area.file.0 file.0) w.areas w.memory w.access_pins page listed is)
    kept.pins.only

-- ---- what is asked for

-- of two tests that an area passes it passes one
over_either : (p q : Area → Bool) (areas : List Area) (n : ℕ) → is_over (λ area. p area || q area) areas n ≡ true
    → (is_over p areas n || is_over q areas n) ≡ true
over_either p q [] n is = is
over_either p q (area ∷ areas) n is =
    by_tests (p area) (q area) (eqb area.memory n) is (over_either p q areas n)
  where
    by_tests : (a b c : Bool) → (((a || b) && c) || is_over (λ area. p area || q area) areas n) ≡ true
        → (is_over (λ area. p area || q area) areas n ≡ true → (is_over p areas n || is_over q areas n) ≡ true)
        → (((a && c) || is_over p areas n) || ((b && c) || is_over q areas n)) ≡ true
    by_tests true b true is later = refl
    by_tests false true true is later = or_right (is_over p areas n) true refl
    by_tests false false true is later = later is
    by_tests true true false is later = later is
    by_tests true false false is later = later is
    by_tests false true false is later = later is
    by_tests false false false is later = later is

-- an area of the address space, if there is one
abbrev in_space : FileNo → Option ObjId → Area → Bool
in_space file None area = false
in_space file (Some ioas) area = is_of file ioas area

never_over : (areas : List Area) (n : ℕ) → is_over (λ area. false) areas n ≡ false
never_over [] n = refl
never_over (area ∷ areas) n = never_over areas n

in_space_over : (file : FileNo) (space : Option ObjId) (areas : List Area) (n : ℕ)
    → is_over (in_space file space) areas n ≡ over_space file space areas n
in_space_over file None areas n = never_over areas n
in_space_over file (Some ioas) areas n = refl

-- no object that stays is the page table of another address space than of its own
kind_named : (objects : List Object) (o : Object) (file : FileNo) (id : ObjId) → have_own_ids objects ≡ true
    → IsIn objects o → is_object file id o ≡ true → kind_of objects file id ≡ Some o.kind
kind_named objects o file id own within named =
    let names = and_true (eqb o.file.0 file.0) (eqb o.id.0 id.0) named in
    rw (← file_is o.file file names.0, ← id_is o.id id names.1) (kind_only objects o own within)

-- where an object goes only if it is the one of this name, the address spaces of other page tables keep theirs
tables_stay : (objects : List Object) (stays : Object → Bool) (file : FileNo) (space : Option ObjId) (area : Area)
    → ((o : Object) → IsIn objects o → stays o ≡ false → is_hwpt_over area.ioas o.kind ≡ true
    → eqb o.file.0 area.file.0 ≡ true → in_space file space area ≡ true)
    → in_space file space area ≡ false
    → has_hwpt objects area.file area.ioas ≡ true → has_hwpt (filter stays objects) area.file area.ioas ≡ true
tables_stay objects stays file space area goes isnt has =
    any-filter is_table stays objects
    ∙ all_in objects (λ o within. within) has
  where
    is_table : Object → Bool
    is_table o = eqb o.file.0 area.file.0 && is_hwpt_over area.ioas o.kind

    all_in : (rows : List Object) → ((o : Object) → IsIn rows o → IsIn objects o) → list_any is_table rows ≡ true
        → list_any (λ o. stays o && is_table o) rows ≡ true
    all_in [] within has = has
    all_in (o ∷ rows) within has =
        by_test (is_table o) refl has (all_in rows (λ x later. within x (inr later)))
      where
        here : (b : Bool) → stays o ≡ b → is_table o ≡ true → stays o ≡ true
        here true is table = is
        here false is table =
            let parts = and_true (eqb o.file.0 area.file.0) (is_hwpt_over area.ioas o.kind) table in
            absurd (clash _ isnt (goes o (within o (inl refl)) is parts.1 parts.0))

        by_test : (b : Bool) → is_table o ≡ b → (b || list_any is_table rows) ≡ true
            → (list_any is_table rows ≡ true → list_any (λ o. stays o && is_table o) rows ≡ true)
            → ((stays o && is_table o) || list_any (λ o. stays o && is_table o) rows) ≡ true
        by_test true is has later = or_left _ _ (both_true _ _ (here (stays o) refl is) is)
        by_test false is has later = or_right (stays o && is_table o) _ (later has)

-- a page table is over the address space that its kind tells
table_space : (k : ObjectKind) (file own : FileNo) (area : Area) → is_hwpt_over area.ioas k ≡ true
    → eqb own.0 area.file.0 ≡ true → eqb own.0 file.0 ≡ true → in_space file (ioas_of k) area ≡ true
table_space (kind.Hwpt over width automatic) file own area over_it files same = grind (arith, nat_tests)
table_space kind.Ioas file own area over_it files same = cc
table_space (kind.Device device) file own area over_it files same = cc
table_space (kind.Access attached) file own area over_it files same = cc

-- ---- of a file

pub close_used : (at : ℕ) (v w : World) (file : FileNo) (seen left over : List Area) (memory : List MemoryObject)
    (none asked : List ℕ) → v ≡ w → IsKept at w → none ≡ [] → seen ≡ v.areas
    → ((n : ℕ) → has_number asked n
    ≡ (has_number none n || is_over (λ (area : Area). eqb area.file.0 file.0) seen n))
    → left ≡ filter (λ area. not (eqb area.file.0 file.0)) v.areas → over ≡ left → memory ≡ v.memory
    → list_all (λ m. has_number asked m.number || list_any (λ (area : Area). eqb area.memory m.number) over) memory
    ≡ true
close_used at v w file seen left over memory none asked same kept empty seen_is gathered left_is over_is memory_is =
    let kept_v = subst (λ (x : World). IsKept at x) (sym same) kept in
    rw memory_is
    (used_or_asked (λ (area : Area). eqb area.file.0 file.0) v.areas over v.memory asked
    (λ n some. gathered n ∙ rw (empty, seen_is) some) (over_is ∙ left_is) kept_v.pins.used)

pub close_pinned : (at : ℕ) (v w : World) (file : FileNo) (seen left : List Area) (objects : List Object)
    (areas : List Area) (access_pins : List AccessPin) (pins : List Pin) (none asked : List ℕ) → v ≡ w → IsKept at w
    → refusal {A = Unit {0}} w (event.Close file) ≡ None → none ≡ [] → seen ≡ v.areas
    → ((n : ℕ) → has_number asked n
    ≡ (has_number none n || is_over (λ (area : Area). eqb area.file.0 file.0) seen n))
    → left ≡ filter (λ area. not (eqb area.file.0 file.0)) v.areas
    → objects ≡ filter (λ object. not (eqb object.file.0 file.0)) v.objects
    → areas ≡ left → access_pins ≡ v.access_pins → pins ≡ v.pins
    → list_all (λ pin. has_number asked pin.memory || is_pinned objects areas access_pins (page_of_pin pin)) pins ≡ true
unfolding changed settle without_areas Answers
close_pinned at v w file seen left objects areas access_pins pins none asked same kept granted empty seen_is gathered
    left_is o r p ps =
    let kept_v = subst (λ (x : World). IsKept at x) (sym same) kept in
    let none_v = subst (λ (x : World). refusal {A = Unit {0}} x (event.Close file) ≡ None) (sym same) granted in
    let over : (n : ℕ) → is_over (λ (area : Area). eqb area.file.0 file.0) v.areas n ≡ true
    → has_number asked n ≡ true = λ n some. gathered n ∙ rw (empty, seen_is) some in
    let alike = (accesses_kept {A = Unit {0}} at v (event.Close file) reply.Done none_v tt kept_v.pins).accessed in
    let left_objects = filter (λ (object : Object). not (eqb object.file.0 file.0)) v.objects in
    rw (o, r ∙ left_is, p, ps)
    (still_pinned v left_objects (filter (λ area. not (eqb area.file.0 file.0)) v.areas) v.access_pins asked
    (λ n. translated_left (λ (area : Area). eqb area.file.0 file.0) (λ (area : Area). eqb area.file.0 file.0) v.objects
    left_objects v.areas asked n (over n) (λ area isnt. (isnt, stay area isnt)))
    (λ page. accessed_left (λ (area : Area). eqb area.file.0 file.0) v left_objects
    (filter (λ area. not (eqb area.file.0 file.0)) v.areas) asked page over kept_v.pins.used (alike page))
    kept_v.pins.only)
  where
    stay : (area : Area) → eqb area.file.0 file.0 ≡ false → has_hwpt v.objects area.file area.ioas ≡ true
        → has_hwpt (filter (λ (object : Object). not (eqb object.file.0 file.0)) v.objects) area.file area.ioas ≡ true
    stay area isnt has =
        any-filter is_table (λ (object : Object). not (eqb object.file.0 file.0)) v.objects
        ∙ any_weaker is_table (λ o. not (eqb o.file.0 file.0) && is_table o) v.objects
        (λ o table. both_true _ _ (other o (and_true (eqb o.file.0 area.file.0) (is_hwpt_over area.ioas o.kind) table).0)
        table) has
      where
        is_table : Object → Bool
        is_table o = eqb o.file.0 area.file.0 && is_hwpt_over area.ioas o.kind

        other : (o : Object) → eqb o.file.0 area.file.0 ≡ true → not (eqb o.file.0 file.0) ≡ true
        other o here = ap not (apart o.file.0 area.file.0 file.0 here isnt)
          where
            apart : (a b c : ℕ) → eqb a b ≡ true → eqb b c ≡ false → eqb a c ≡ false
            apart a b c one other = grind (arith, nat_tests)

-- ---- of an object

-- the areas that are asked for
abbrev at_object : World → FileNo → ObjId → Area → Bool
at_object w file id area = is_of file id area || in_space file (space_under (kind_of w.objects file id)) area

asked_at : (v : World) (file : FileNo) (id : ObjId) (asked : List ℕ)
    → ((n : ℕ) → has_number asked n ≡ (is_over (is_of file id) v.areas n
    || over_space file (space_under (kind_of v.objects file id)) v.areas n))
    → (n : ℕ) → is_over (at_object v file id) v.areas n ≡ true → has_number asked n ≡ true
asked_at v file id asked gathered n some =
    gathered n
    ∙ ap (λ b. is_over (is_of file id) v.areas n || b)
    (sym (in_space_over file (space_under (kind_of v.objects file id)) v.areas n))
    ∙ over_either (is_of file id) (in_space file (space_under (kind_of v.objects file id))) v.areas n some

pub destroy_used : (at : ℕ) (v w : World) (file : FileNo) (id : ObjId) (left over : List Area)
    (memory : List MemoryObject) (asked : List ℕ) → v ≡ w → IsKept at w
    → ((n : ℕ) → has_number asked n ≡ (is_over (is_of file id) w.areas n
    || over_space file (space_under (kind_of w.objects file id)) w.areas n))
    → left ≡ filter (λ area. not (is_of file id area)) v.areas → over ≡ left → memory ≡ v.memory
    → list_all (λ m. has_number asked m.number || list_any (λ (area : Area). eqb area.memory m.number) over) memory
    ≡ true
destroy_used at v w file id left over memory asked same kept gathered left_is over_is memory_is =
    let kept_v = subst (λ (x : World). IsKept at x) (sym same) kept in
    rw memory_is
    (used_or_asked (is_of file id) v.areas over v.memory asked
    (λ n some. gathered n ∙ or_left _ _ (ap (λ (x : World). is_over (is_of file id) x.areas n) (sym same) ∙ some))
    (over_is ∙ left_is) kept_v.pins.used)

pub destroy_pinned : (at : ℕ) (v w : World) (file : FileNo) (id : ObjId) (left : List Area)
    (objects : List Object) (areas : List Area) (access_pins : List AccessPin) (pins : List Pin) (asked : List ℕ)
    → v ≡ w → IsKept at w → refusal {A = Unit {0}} w (event.Destroy file id) ≡ None
    → ((n : ℕ) → has_number asked n ≡ (is_over (is_of file id) w.areas n
    || over_space file (space_under (kind_of w.objects file id)) w.areas n))
    → left ≡ filter (λ area. not (is_of file id area)) v.areas → objects ≡ without_object file id v.objects
    → areas ≡ left → access_pins ≡ v.access_pins → pins ≡ v.pins
    → list_all (λ pin. has_number asked pin.memory || is_pinned objects areas access_pins (page_of_pin pin)) pins ≡ true
unfolding changed settle without_areas Answers
destroy_pinned at v w file id left objects areas access_pins pins asked same kept granted gathered left_is o r p ps =
    let kept_v = subst (λ (x : World). IsKept at x) (sym same) kept in
    let none_v = subst (λ (x : World). refusal {A = Unit {0}} x (event.Destroy file id) ≡ None) (sym same) granted in
    let gathered_v = subst (λ (x : World). (n : ℕ) → has_number asked n ≡ (is_over (is_of file id) x.areas n
    || over_space file (space_under (kind_of x.objects file id)) x.areas n)) (sym same) gathered in
    let alike = (accesses_kept {A = Unit {0}} at v (event.Destroy file id) reply.Done none_v tt kept_v.pins).accessed in
    rw (o, r ∙ left_is, p, ps)
    (still_pinned v (without_object file id v.objects) (filter (λ area. not (is_of file id area)) v.areas) v.access_pins
    asked
    (λ n. translated_left (at_object v file id) (is_of file id) v.objects (without_object file id v.objects) v.areas
    asked n (asked_at v file id asked gathered_v n)
    (λ area isnt. let parts = or_false (is_of file id area) _ isnt in (
      parts.0,
      tables_stay v.objects (λ o. not (is_object file id o)) file (space_under (kind_of v.objects file id)) area
          (λ o within goes table files. let named = not_not (is_object file id o) goes in
          rw (kind_named v.objects o file id kept_v.own_ids within named)
          (table_space o.kind file o.file area table files (and_true (eqb o.file.0 file.0) (eqb o.id.0 id.0) named).0))
          parts.1,
    )))
    (λ page. accessed_left (is_of file id) v (without_object file id v.objects)
    (filter (λ area. not (is_of file id area)) v.areas) asked page
    (λ n some. gathered_v n ∙ or_left _ _ some) kept_v.pins.used (alike page))
    kept_v.pins.only)

-- ---- of an attachment

pub detach_pinned : (at : ℕ) (v w : World) (device : DeviceNo) (a : Attachment)
    (found : Option Attachment) (rows : List Attachment) (used : Bool) (left others : List Attachment)
    (objects stood : List Object) (seen areas over : List Area) (access_pins : List AccessPin) (pins : List Pin)
    (asked : List ℕ)
    → v ≡ w → IsKept at w → refusal {A = Unit {0}} w (event.Detach device) ≡ None
    → found ≡ attachment_of rows device → found ≡ Some a → rows ≡ v.attachments
    → left ≡ without_attachment device v.attachments → others ≡ left
    → used ≡ has_device_on others a.file a.hwpt
    → stood ≡ v.objects → over ≡ v.areas
    → ((n : ℕ) → has_number asked n
    ≡ over_space a.file (space_left used (kind_of stood a.file a.hwpt)) over n)
    → objects ≡ filter (λ o. not (is_object a.file a.hwpt o && is_automatic o.kind && not used)) v.objects
    → seen ≡ all_paid device v.areas → areas ≡ seen → access_pins ≡ v.access_pins → pins ≡ v.pins
    → list_all (λ pin. has_number asked pin.memory || is_pinned objects areas access_pins (page_of_pin pin)) pins ≡ true
unfolding changed detached settle Answers
detach_pinned at v w device a found rows used left others objects stood seen areas over access_pins pins asked same kept
    granted finds some rows_are left_are others_are used_is objects_seen areas_seen gathered o paid_is r p ps =
    let is : attachment_of v.attachments device ≡ Some a =
    sym (finds ∙ ap (λ (l : List Attachment). attachment_of l device) rows_are) ∙ some in
    let kept_v = subst (λ (x : World). IsKept at x) (sym same) kept in
    let none_v = subst (λ (x : World). refusal {A = Unit {0}} x (event.Detach device) ≡ None) (sym same) granted in
    let used_v : used ≡ has_device_on (without_attachment device v.attachments) a.file a.hwpt =
    used_is ∙ rw (others_are, left_are) refl in
    let alike : AccessedAlike v (settle v (detached v device a)) =
    subst (λ (o : Option Attachment). AccessedAlike v (detach_changes v device o)) is
    (accesses_kept {A = Unit {0}} at v (event.Detach device) reply.Done none_v tt kept_v.pins).accessed in
    let stays : Object → Bool = λ o. not (goes_with (without_attachment device v.attachments) a o) in
    let objects_left : objects ≡ filter stays v.objects = o ∙ rw used_v refl in
    rw (objects_left, r ∙ paid_is, p, ps)
    (still_pinned v (filter stays v.objects) (all_paid device v.areas) v.access_pins asked
    (λ n here. ap (λ b. has_number asked n || b)
    (translated-map (filter stays v.objects) (λ (b : Area). paid device b.phase) v.areas n)
    ∙ translated_still (in_space a.file (space_left used (kind_of v.objects a.file a.hwpt))) v.objects
    (filter stays v.objects) v.areas asked n
    (λ some_over. gathered n ∙ rw (objects_seen, areas_seen)
    (sym (in_space_over a.file (space_left used (kind_of v.objects a.file a.hwpt)) v.areas n) ∙ some_over))
    (λ area isnt. tables_stay v.objects stays a.file (space_left used (kind_of v.objects a.file a.hwpt)) area
    (λ o within goes table files.
    let parts = and_true (is_object a.file a.hwpt o && is_automatic o.kind) _ (not_not _ goes) in
    let both = and_true (is_object a.file a.hwpt o) (is_automatic o.kind) parts.0 in
    let unused : not used ≡ true = ap not used_v ∙ parts.1 in
    rw (kind_named v.objects o a.file a.hwpt kept_v.own_ids within both.0, both.1, unused)
    (table_space o.kind a.file o.file area table files
    (and_true (eqb o.file.0 a.file.0) (eqb o.id.0 a.hwpt.0) both.0).0)) isnt) here)
    (λ page listed accessed. or_right (has_number asked page.memory) _ (alike page listed ∙ accessed))
    kept_v.pins.only)

-- ---- by the parts that change

pub unpin_done : (A : Type 0) (at : ℕ) (v w new : World) (file : FileNo) (id : ObjId) (request : PinRequest)
    (answer : Reply) (objects : List Object) (areas : List Area) (access_pins : List AccessPin) → v ≡ w → IsKept at w
    → answer ≡ reply.Done → new ≡ record v { pins = new.pins; access_pins = new.access_pins }
    → new.access_pins ≡ without_pin (pin_of file id request) v.access_pins
    → objects ≡ v.objects → areas ≡ v.areas → access_pins ≡ new.access_pins
    → new.pins ≡ pinned_still objects areas access_pins v.pins
    → unwritten new ≡ unwritten (changed {A = A} at w (event.AccessUnpin file id request) answer)
unfolding changed
unpin_done A at v w new file id request answer objects areas access_pins same kept answered new_is less o a p pins =
    let kept_v = subst (λ (x : World). IsKept at x) (sym same) kept in
    let pins_are : new.pins ≡ pinned_still v.objects v.areas (without_pin (pin_of file id request) v.access_pins)
    v.pins =
    pins ∙ rw (o, a, p, less) refl in
    ap (λ (x : World). unwritten x) new_is
    ∙ ap (λ (ps : List Pin). unwritten (record v { pins = ps; access_pins = new.access_pins })) pins_are
    ∙ ap (λ (ps : List AccessPin). unwritten (record v {
      pins = pinned_still v.objects v.areas (without_pin (pin_of file id request) v.access_pins) v.pins;
      access_pins = ps;
    })) less
    ∙ ap (λ (x : World). unwritten x) (sym (unpinned_is at v file id request kept_v))
    ∙ ap (λ (x : World). unwritten (settle x (unpinned x file id request))) same
    ∙ ap (λ (r : Reply). unwritten (changed {A = A} at w (event.AccessUnpin file id request) r)) (sym answered)

pub detach_done : (A : Type 0) (at : ℕ) (v w new : World) (device : DeviceNo) (a : Attachment) (answer : Reply)
    (found : Option Attachment) (rows : List Attachment) (used : Bool) (others : List Attachment) (objects stood : List
    Object) (areas : List Area) (access_pins : List AccessPin)
    → v ≡ w → IsKept at w → refusal {A = A} w (event.Detach device) ≡ None → answer ≡ reply.Done
    → found ≡ attachment_of rows device → found ≡ Some a → rows ≡ v.attachments
    → new ≡ record v {
      objects = new.objects;
      areas = new.areas;
      pins = new.pins;
      attachments = new.attachments;
      tracked = new.tracked;
    }
    → stood ≡ v.objects
    → new.tracked ≡ cond (list_any (λ o. is_object a.file a.hwpt o && is_automatic o.kind && not used) stood)
    (without_tracked a.file a.hwpt v.tracked) v.tracked
    → new.attachments ≡ without_attachment device v.attachments → others ≡ new.attachments
    → used ≡ has_device_on others a.file a.hwpt
    → new.objects ≡ filter (λ o. not (is_object a.file a.hwpt o && is_automatic o.kind && not used)) v.objects
    → new.areas ≡ all_paid device v.areas → objects ≡ new.objects → areas ≡ new.areas → access_pins ≡ v.access_pins
    → new.pins ≡ pinned_still objects areas access_pins v.pins
    → unwritten new ≡ unwritten (changed {A = A} at w (event.Detach device) answer)
unfolding changed detached
detach_done A at v w new device a answer found rows used others objects stood areas access_pins same kept none answered
    finds some rows_are new_is stood_is tracked_is
    attachments_are seen used_is objects_are areas_are o r p pins =
    let is : attachment_of v.attachments device ≡ Some a =
    sym (finds ∙ ap (λ (l : List Attachment). attachment_of l device) rows_are) ∙ some in
    let kept_v = subst (λ (x : World). IsKept at x) (sym same) kept in
    let none_v = subst (λ (x : World). refusal {A = A} x (event.Detach device) ≡ None) (sym same) none in
    let used_v : used ≡ has_device_on (without_attachment device v.attachments) a.file a.hwpt =
    used_is ∙ rw (seen, attachments_are) refl in
    let left : List Object =
    filter (λ o. not (goes_with (without_attachment device v.attachments) a o)) v.objects in
    let objects_left : new.objects ≡ left = objects_are ∙ rw used_v refl in
    let tracked_left : new.tracked ≡ tracked_without (without_attachment device v.attachments) a v =
    tracked_is ∙ rw (stood_is, used_v) refl in
    let pins_are : new.pins ≡ pinned_still left (all_paid device v.areas) v.access_pins v.pins =
    pins ∙ rw (o, r, p, objects_left, areas_are) refl in
    ap (λ (x : World). unwritten x) new_is
    ∙ ap (λ (os : List Object). unwritten (record v {
      objects = os;
      areas = new.areas;
      pins = new.pins;
      attachments = new.attachments;
      tracked = new.tracked;
    })) objects_left
    ∙ ap (λ (rs : List Area). unwritten (record v {
      objects = left;
      areas = rs;
      pins = new.pins;
      attachments = new.attachments;
      tracked = new.tracked;
    })) areas_are
    ∙ ap (λ (ps : List Pin). unwritten (record v {
      objects = left;
      areas = all_paid device v.areas;
      pins = ps;
      attachments = new.attachments;
      tracked = new.tracked;
    })) pins_are
    ∙ ap (λ (rows : List Attachment). unwritten (record v {
      objects = left;
      areas = all_paid device v.areas;
      pins = pinned_still left (all_paid device v.areas) v.access_pins v.pins;
      attachments = rows;
      tracked = new.tracked;
    })) attachments_are
    ∙ ap (λ (rows : List TrackedTable). unwritten (record v {
      objects = left;
      areas = all_paid device v.areas;
      pins = pinned_still left (all_paid device v.areas) v.access_pins v.pins;
      attachments = without_attachment device v.attachments;
      tracked = rows;
    })) tracked_left
    ∙ ap (λ (x : World). unwritten x) (sym (detached_is A at v device a kept_v none_v is))
    ∙ ap (λ (found : Option Attachment). unwritten (detach_changes v device found)) (sym is)
    ∙ ap (λ (x : World). unwritten (detach_changes x device (attachment_of x.attachments device))) same
    ∙ ap (λ (r : Reply). unwritten (changed {A = A} at w (event.Detach device) r)) (sym answered)

pub destroy_done : (A : Type 0) (at : ℕ) (v w new : World) (file : FileNo) (id : ObjId) (answer : Reply)
    (over : List Area) (objects : List Object) (areas : List Area) (access_pins : List AccessPin)
    → v ≡ w → IsKept at w → refusal {A = A} w (event.Destroy file id) ≡ None → answer ≡ reply.Done
    → new ≡ record v {
      objects = new.objects;
      memory = new.memory;
      areas = new.areas;
      allowed = new.allowed;
      tracked = new.tracked;
      pins = new.pins;
    }
    → new.tracked ≡ without_tracked file id v.tracked
    → new.areas ≡ filter (λ area. not (is_of file id area)) v.areas → over ≡ new.areas
    → new.memory ≡ filter (λ m. list_any (λ area. eqb area.memory m.number) over) v.memory
    → new.objects ≡ without_object file id v.objects → new.allowed ≡ without_allowed file id v.allowed
    → objects ≡ new.objects → areas ≡ new.areas → access_pins ≡ v.access_pins
    → new.pins ≡ pinned_still objects areas access_pins v.pins
    → unwritten new ≡ unwritten (changed {A = A} at w (event.Destroy file id) answer)
unfolding changed without_areas
destroy_done A at v w new file id answer over objects areas access_pins same kept none answered new_is tracked_is
    areas_are seen memory_is objects_are allowed_is o r p pins =
    let kept_v = subst (λ (x : World). IsKept at x) (sym same) kept in
    let none_v = subst (λ (x : World). refusal {A = A} x (event.Destroy file id) ≡ None) (sym same) none in
    let left = destroyed v file id in
    let memory_left : new.memory ≡ left.memory =
    memory_is ∙ rw (seen, areas_are) (used_still (is_of file id) v.areas v.memory) in
    let pins_are : new.pins ≡ pinned_still left.objects left.areas v.access_pins v.pins =
    pins ∙ rw (o, r, p, objects_are, areas_are) refl in
    ap (λ (x : World). unwritten x) new_is
    ∙ ap (λ (os : List Object). unwritten (record v {
      objects = os;
      memory = new.memory;
      areas = new.areas;
      allowed = new.allowed;
      tracked = new.tracked;
      pins = new.pins;
    })) objects_are
    ∙ ap (λ (ms : List MemoryObject). unwritten (record v {
      objects = left.objects;
      memory = ms;
      areas = new.areas;
      allowed = new.allowed;
      tracked = new.tracked;
      pins = new.pins;
    })) memory_left
    ∙ ap (λ (rs : List Area). unwritten (record v {
      objects = left.objects;
      memory = left.memory;
      areas = rs;
      allowed = new.allowed;
      tracked = new.tracked;
      pins = new.pins;
    })) areas_are
    ∙ ap (λ (rows : List AllowedRanges). unwritten (record v {
      objects = left.objects;
      memory = left.memory;
      areas = left.areas;
      allowed = rows;
      tracked = new.tracked;
      pins = new.pins;
    })) allowed_is
    ∙ ap (λ (rows : List TrackedTable). unwritten (record v {
      objects = left.objects;
      memory = left.memory;
      areas = left.areas;
      allowed = left.allowed;
      tracked = rows;
      pins = new.pins;
    })) tracked_is
    ∙ ap (λ (ps : List Pin). unwritten (record left { pins = ps })) pins_are
    ∙ ap (λ (x : World). unwritten x) (sym (destroyed_is A at v file id kept_v none_v))
    ∙ ap (λ (x : World). unwritten (settle x (destroyed x file id))) same
    ∙ ap (λ (r : Reply). unwritten (changed {A = A} at w (event.Destroy file id) r)) (sym answered)

pub close_done : (A : Type 0) (at : ℕ) (v w new : World) (file : FileNo) (answer : Reply)
    (over : List Area) (objects : List Object) (areas : List Area) (access_pins : List AccessPin)
    → v ≡ w → IsKept at w → refusal {A = A} w (event.Close file) ≡ None → answer ≡ reply.Done
    → new ≡ record v {
      objects = new.objects;
      memory = new.memory;
      areas = new.areas;
      attachments = new.attachments;
      allowed = new.allowed;
      closed = new.closed;
      tracked = new.tracked;
      pins = new.pins;
    }
    → new.closed ≡ v.closed ++ file ∷ []
    → new.tracked ≡ filter (λ table. not (eqb table.file.0 file.0)) v.tracked
    → new.areas ≡ filter (λ area. not (eqb area.file.0 file.0)) v.areas → over ≡ new.areas
    → new.memory ≡ filter (λ m. list_any (λ area. eqb area.memory m.number) over) v.memory
    → new.objects ≡ filter (λ object. not (eqb object.file.0 file.0)) v.objects
    → new.attachments ≡ filter (λ a. not (eqb a.file.0 file.0)) v.attachments
    → new.allowed ≡ filter (λ ranges. not (eqb ranges.file.0 file.0)) v.allowed
    → objects ≡ new.objects → areas ≡ new.areas → access_pins ≡ v.access_pins
    → new.pins ≡ pinned_still objects areas access_pins v.pins
    → unwritten new ≡ unwritten (changed {A = A} at w (event.Close file) answer)
unfolding changed without_areas
close_done A at v w new file answer over objects areas access_pins same kept none answered new_is closed_is_more
    tracked_is areas_are seen memory_is objects_are attachments_are allowed_is o r p pins =
    let kept_v = subst (λ (x : World). IsKept at x) (sym same) kept in
    let none_v = subst (λ (x : World). refusal {A = A} x (event.Close file) ≡ None) (sym same) none in
    let left = closed v file in
    let memory_left : new.memory ≡ left.memory =
    memory_is ∙ rw (seen, areas_are) (used_still (λ area. eqb area.file.0 file.0) v.areas v.memory) in
    let pins_are : new.pins ≡ pinned_still left.objects left.areas v.access_pins v.pins =
    pins ∙ rw (o, r, p, objects_are, areas_are) refl in
    ap (λ (x : World). unwritten x) new_is
    ∙ ap (λ (os : List Object). unwritten (record v {
      objects = os;
      memory = new.memory;
      areas = new.areas;
      attachments = new.attachments;
      allowed = new.allowed;
      closed = new.closed;
      tracked = new.tracked;
      pins = new.pins;
    })) objects_are
    ∙ ap (λ (ms : List MemoryObject). unwritten (record v {
      objects = left.objects;
      memory = ms;
      areas = new.areas;
      attachments = new.attachments;
      allowed = new.allowed;
      closed = new.closed;
      tracked = new.tracked;
      pins = new.pins;
    })) memory_left
    ∙ ap (λ (rs : List Area). unwritten (record v {
      objects = left.objects;
      memory = left.memory;
      areas = rs;
      attachments = new.attachments;
      allowed = new.allowed;
      closed = new.closed;
      tracked = new.tracked;
      pins = new.pins;
    })) areas_are
    ∙ ap (λ (rows : List Attachment). unwritten (record v {
      objects = left.objects;
      memory = left.memory;
      areas = left.areas;
      attachments = rows;
      allowed = new.allowed;
      closed = new.closed;
      tracked = new.tracked;
      pins = new.pins;
    })) attachments_are
    ∙ ap (λ (rows : List AllowedRanges). unwritten (record v {
      objects = left.objects;
      memory = left.memory;
      areas = left.areas;
      attachments = left.attachments;
      allowed = rows;
      closed = new.closed;
      tracked = new.tracked;
      pins = new.pins;
    })) allowed_is
    ∙ ap (λ (files : List FileNo). unwritten (record v {
      objects = left.objects;
      memory = left.memory;
      areas = left.areas;
      attachments = left.attachments;
      allowed = left.allowed;
      closed = files;
      tracked = new.tracked;
      pins = new.pins;
    })) closed_is_more
    ∙ ap (λ (rows : List TrackedTable). unwritten (record v {
      objects = left.objects;
      memory = left.memory;
      areas = left.areas;
      attachments = left.attachments;
      allowed = left.allowed;
      closed = left.closed;
      tracked = rows;
      pins = new.pins;
    })) tracked_is
    ∙ ap (λ (ps : List Pin). unwritten (record left { pins = ps })) pins_are
    ∙ ap (λ (x : World). unwritten x) (sym (closed_is A at v file kept_v none_v))
    ∙ ap (λ (x : World). unwritten (settle x (closed x file))) same
    ∙ ap (λ (r : Reply). unwritten (changed {A = A} at w (event.Close file) r)) (sym answered)
