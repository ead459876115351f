-- The pages that an attachment or a HWPT_ALLOC adds are in their users' memory.
use Rattle.std.proofs.Common.{◌≡◌, ℕ, Bool, true, false, ◌&&◌, ◌||◌, not, eqb, ltb, Option, Some, None, is_none}
use Rattle.std.proofs.Common.{is_some, arith, List, refl, ap, sym, subst, ◌∙◌}
use Rattle.std.specs.List.{filter, flat_map, list_any}
use Rattle.std.proofs.lemmas.Bool.Decides.{nat_tests}
use Rattle.std.proofs.lemmas.Bool.{eqb-true}
use Rattle.iofd_steps.specs.After.{with_hwpt}
use Rattle.iofd_words.specs.Areas.{areas_of, is_of}
use Rattle.iofd_refusals.specs.Checks.{attach_checks, lacks_attached_page}
use Rattle.iofd_words.specs.FirstTrue.{first_true}
use Rattle.iofd_words.specs.Objects.{binding_of, has_hwpt, kind_of, with_object}
use Rattle.iofd_words.specs.Pins.{ObjectPage, frame_now, is_page, is_translated, pages_of, pinned_frame, pinned_pages}
use Rattle.iofd_words.specs.Pins.{unpinned_pages, is_pinned}
use Rattle.iofd_words.specs.View.{view}
use Rattle.iofd_words.specs.World.{World}
use Rattle.iofd_words.specs.declared.numbers.DeviceNo.{DeviceNo}
use Rattle.iofd_words.specs.declared.numbers.FileNo.{FileNo}
use Rattle.iofd_words.specs.declared.numbers.ObjId.{ObjId}
use Rattle.iofd_words.specs.declared.rows.Area.{Area}
use Rattle.iofd_words.specs.declared.numbers.FrameNo.{FrameNo}
use Rattle.iofd_words.specs.declared.rows.MemoryObject.{MemoryObject}
use Rattle.iofd_words.specs.declared.rows.Object.{Object}
use Rattle.iofd_words.specs.declared.rows.ObjectKind.TheVariants as kind
use Rattle.iofd_words.specs.declared.width.Width.{Width}
use Rattle.iofd_rows.specs.Pinned.{ArePinned}
use Rattle.iofd_rows.proofs.Bools.{and_rest, and_true, both_true, clash, not_false, or_false}
use Rattle.iofd_rows.proofs.ListTests.{any-filter, any_apart, any_weaker}
use Rattle.iofd_rows.proofs.ObjectPages.{has_page, in_pinned, is_listed, listed_is, translated_within}
use Rattle.iofd_rows.proofs.PageLists.{no_page, page_kept}
use Rattle.iofd_rows.proofs.PinsFollow.{pin_is_of}
use Rattle.iofd_rows.proofs.PageTables.{hwpt-with_object, hwpt_alike}
use Rattle.iofd_runs.proofs.NotRefused.{attach_passed}

-- ---- the pages of an address space

-- some area of the address space is over the memory object of this page, and so of this number
pub over_number : (areas : List Area) (file : FileNo) (ioas : ObjId) (page : ObjectPage) (number : ℕ)
    → page.memory ≡ number → list_any (λ (a : Area). is_of file ioas a && eqb a.memory page.memory) areas ≡ true
    → list_any (λ (a : Area). eqb a.memory number) (areas_of areas file ioas) ≡ true
over_number areas file ioas page number is over =
    subst (λ (n : ℕ). list_any (λ (a : Area). eqb a.memory n) (areas_of areas file ioas) ≡ true) is
    (any-filter (λ (a : Area). eqb a.memory page.memory) (is_of file ioas) areas ∙ over)

-- a page of a memory object that has an area of the address space is one of those that are pinned for it
in_space : (memory : List MemoryObject) (areas : List Area) (file : FileNo) (ioas : ObjId) (page : ObjectPage)
    → is_listed memory page ≡ true → list_any (λ (a : Area). is_of file ioas a && eqb a.memory page.memory) areas ≡ true
    → is_listed (filter (λ (m : MemoryObject). list_any (λ (a : Area). eqb a.memory m.number)
    (areas_of areas file ioas)) memory) page ≡ true
in_space memory areas file ioas page listed over =
    listed_is (filter (λ (m : MemoryObject). list_any (λ (a : Area). eqb a.memory m.number) (areas_of areas file ioas))
    memory) page
    ∙ any-filter (has_page page) (λ (m : MemoryObject). list_any (λ (a : Area). eqb a.memory m.number)
    (areas_of areas file ioas)) memory
    ∙ any_weaker (has_page page) (λ (m : MemoryObject). list_any (λ (a : Area). eqb a.memory m.number)
    (areas_of areas file ioas) && has_page page m) memory
    (λ m has. both_true _ _ (over_number areas file ioas page m.number
    (eqb-true page.memory m.number (and_true (eqb page.memory m.number) (ltb page.index m.count) has).0)
    over) has) (sym (listed_is memory page) ∙ listed)

-- ---- the new page table

-- with a page table more, automatic or not
abbrev pub with_table : FileNo → ObjId → ObjId → Width → Bool → List Object → List Object
with_table file ioas id width automatic objects =
    with_object (record { file = file; id = id; kind = kind.Hwpt ioas width automatic }) objects

-- what it translates anew is an area of its address space
of_space : (objects : List Object) (file : FileNo) (ioas id : ObjId) (width : Width) (automatic : Bool) (n : ℕ)
    (a : Area) → (eqb a.memory n && has_hwpt (with_table file ioas id width automatic objects) a.file a.ioas) ≡ true
    → (eqb a.memory n && has_hwpt objects a.file a.ioas) ≡ false → (is_of file ioas a && eqb a.memory n) ≡ true
of_space objects file ioas id width automatic n a now before =
    let parts =
    and_true (eqb a.memory n) (has_hwpt (with_table file ioas id width automatic objects) a.file a.ioas) now in
    let made = sym (hwpt-with_object (record { file = file; id = id; kind = kind.Hwpt ioas width automatic }) objects
    a.file a.ioas) ∙ parts.1 in
    by_tests (has_hwpt objects a.file a.ioas) (eqb a.memory n) made before parts.0
  where
    by_tests : (was names : Bool) → ((eqb file.0 a.file.0 && eqb ioas.0 a.ioas.0) || was) ≡ true
        → (names && was) ≡ false → names ≡ true → ((eqb a.file.0 file.0 && eqb a.ioas.0 ioas.0) && names) ≡ true
    by_tests was names some none named = grind (arith, nat_tests)

-- where the address space had one before, nothing is new
pub had_before : (objects : List Object) (file : FileNo) (ioas id : ObjId) (width : Width) (automatic : Bool)
    (own : FileNo) (over : ObjId) → has_hwpt objects file ioas ≡ true
    → has_hwpt (with_table file ioas id width automatic objects) own over ≡ true
    → has_hwpt objects own over ≡ true
had_before objects file ioas id width automatic own over had has =
    by_test (eqb file.0 own.0 && eqb ioas.0 over.0) refl
    (sym (hwpt-with_object (record { file = file; id = id; kind = kind.Hwpt ioas width automatic })
    objects own over) ∙ has)
  where
    by_test : (b : Bool) → (eqb file.0 own.0 && eqb ioas.0 over.0) ≡ b → (b || has_hwpt objects own over) ≡ true
        → has_hwpt objects own over ≡ true
    by_test true is some = let parts = and_true (eqb file.0 own.0) (eqb ioas.0 over.0) is in hwpt_alike objects file own
        ioas over parts.0 parts.1 ∙ had
    by_test false is some = some

-- ---- what is new is there

-- of a page that wasn't pinned, and is to be with these objects
abbrev pub IsNew : World → List Object → ObjectPage → Type 0
IsNew w left page = (is_listed w.memory page ≡ true) × (is_translated left w.areas page.memory ≡ true)
    × (is_pinned w.objects w.areas w.access_pins page ≡ false)

-- no page table comes
pub none_new : (w : World) (left : List Object) (page : ObjectPage)
    → ((file : FileNo) (ioas : ObjId) → has_hwpt left file ioas ≡ true → has_hwpt w.objects file ioas ≡ true)
    → IsNew w left page → ⊥
none_new w left page fewer new =
    clash _ (or_false _ _ new.2).0 (translated_within w.objects left w.areas page.memory fewer new.1)

-- an area of the address space is over a page that its page table adds
pub over_space : (w : World) (file : FileNo) (ioas id : ObjId) (width : Width) (automatic : Bool) (page : ObjectPage)
    → IsNew w (with_table file ioas id width automatic w.objects) page
    → list_any (λ (a : Area). is_of file ioas a && eqb a.memory page.memory) w.areas ≡ true
over_space w file ioas id width automatic page new =
    any_apart (λ (a : Area). eqb a.memory page.memory
    && has_hwpt (with_table file ioas id width automatic w.objects) a.file a.ioas) (λ (a : Area). eqb a.memory
    page.memory && has_hwpt w.objects a.file a.ioas) (λ (a : Area). is_of file ioas a
    && eqb a.memory page.memory) w.areas
    (of_space w.objects file ioas id width automatic page.memory) new.1 (or_false _ _ new.2).0

-- a page that isn't to be pinned has no pin
pub never_pinned : (at : ℕ) (w : World) (page : ObjectPage) → ArePinned at w
    → is_pinned w.objects w.areas w.access_pins page ≡ false → is_none (pinned_frame w.pins page) ≡ true
never_pinned at w page p untranslated = by_frame (pinned_frame w.pins page) refl
  where
    by_frame : (o : Option FrameNo) → pinned_frame w.pins page ≡ o → is_none o ≡ true
    by_frame None is = refl
    by_frame (Some frame) is =
        absurd (clash _ untranslated
        (and_true (is_listed w.memory page) (is_pinned w.objects w.areas w.access_pins page)
        (sym (in_pinned w.objects w.areas w.memory w.access_pins page)
        ∙ pin_is_of w.pins (pinned_pages w.objects w.areas w.memory w.access_pins) page
        (ap (λ (o : Option FrameNo). is_some o) is) p.only)).1)

-- nor has a new one
pub unpinned : (at : ℕ) (w : World) (left : List Object) (page : ObjectPage) → ArePinned at w → IsNew w left page
    → is_none (pinned_frame w.pins page) ≡ true
unpinned at w left page p new = never_pinned at w page p new.2

-- where none of the unpinned pages of these memory objects is lacking, each is there
pub there_now : (w : World) (memory : List MemoryObject) (page : ObjectPage)
    → list_any (λ page. is_none (frame_now w.memory w.user_pages page)) (unpinned_pages (pinned_frame w.pins) memory)
    ≡ false → is_listed memory page ≡ true → is_none (pinned_frame w.pins page) ≡ true
    → is_some (frame_now w.memory w.user_pages page) ≡ true
there_now w memory page none_lacking listed free =
    let within : list_any (is_page page) (unpinned_pages (pinned_frame w.pins) memory) ≡ true =
    page_kept (λ (p : ObjectPage). is_none (pinned_frame w.pins p)) (flat_map pages_of memory) page listed free in
    there (frame_now w.memory w.user_pages page)
    (no_page (λ page. is_none (frame_now w.memory w.user_pages page)) (unpinned_pages (pinned_frame w.pins) memory)
    page none_lacking within)
  where
    there : (now : Option FrameNo) → is_none now ≡ false → is_some now ≡ true
    there (Some frame) is = refl
    there None is = cc

-- the address space's first page table
made_present : (at : ℕ) (w : World) (file : FileNo) (ioas id : ObjId) (width : Width) (automatic : Bool)
    (page : ObjectPage) → ArePinned at w → has_hwpt w.objects file ioas ≡ false
    → lacks_attached_page (view w) file ioas ≡ false
    → IsNew w (with_table file ioas id width automatic w.objects) page
    → is_some (frame_now w.memory w.user_pages page) ≡ true
made_present at w file ioas id width automatic page p unused lacks new =
    let none_lacking = and_rest (not (has_hwpt w.objects file ioas)) _ (not_false _ unused) lacks in
    there_now w (filter (λ (m : MemoryObject). list_any (λ (a : Area). eqb a.memory m.number)
    (areas_of w.areas file ioas)) w.memory) page none_lacking
    (in_space w.memory w.areas file ioas page new.0 (over_space w file ioas id width automatic page new))
    (unpinned at w (with_table file ioas id width automatic w.objects) page p new)

-- any page table that is made
pub table_present : (at : ℕ) (w : World) (file : FileNo) (ioas id : ObjId) (width : Width) (automatic : Bool)
    (page : ObjectPage) → ArePinned at w → lacks_attached_page (view w) file ioas ≡ false
    → IsNew w (with_table file ioas id width automatic w.objects) page
    → is_some (frame_now w.memory w.user_pages page) ≡ true
table_present at w file ioas id width automatic page p lacks new = by_table (has_hwpt w.objects file ioas) refl
  where
    by_table : (b : Bool) → has_hwpt w.objects file ioas ≡ b → is_some (frame_now w.memory w.user_pages page) ≡ true
    by_table true had = absurd (none_new w (with_table file ioas id width automatic w.objects) page
        (λ own over has. had_before w.objects file ioas id width automatic own over had has) new)
    by_table false had = made_present at w file ioas id width automatic page p had lacks new

-- the automatic page table, or one that is made
pub attached_present : (at : ℕ) (w : World) (device : DeviceNo) (ioas id : ObjId) (object : Object) (width : Width)
    (automatic : Option Object) (page : ObjectPage) → ArePinned at w
    → first_true (attach_checks (view w) device ioas) ≡ None → binding_of w.objects device ≡ Some object
    → kind_of w.objects object.file ioas ≡ Some kind.Ioas
    → IsNew w (with_hwpt object.file ioas id width automatic w.objects) page
    → is_some (frame_now w.memory w.user_pages page) ≡ true
attached_present at w device ioas id object width (Some automatic) page p none is space new =
    absurd (none_new w w.objects page (λ file space has. has) new)
attached_present at w device ioas id object width None page p none is space new =
    table_present at w object.file ioas id width true page p
    (attach_passed (view w) device ioas object is space none).present new
