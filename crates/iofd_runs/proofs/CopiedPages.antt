-- The pages that a COPY that nothing refuses pins anew are in their user's memory.
use Rattle.std.proofs.Common.{◌≡◌, ℕ, Bool, true, false, ◌&&◌, ◌||◌, eqb, is_none, is_some, Option, Some, None, List}
use Rattle.std.proofs.Common.{refl, ap, sym, ◌∙◌, arith, []}
use Rattle.std.specs.List.{filter, list_any}
use Rattle.std.proofs.lemmas.Bool.Decides.{nat_tests}
use Rattle.iofd_steps.specs.After.{mapped_area}
use Rattle.iofd_words.specs.Areas.{with_area}
use Rattle.iofd_refusals.specs.Checks.{copy_checks, newly_copied}
use Rattle.iofd_words.specs.Copies.{placed_as}
use Rattle.iofd_words.specs.FirstTrue.{first_true}
use Rattle.iofd_words.specs.Objects.{has_hwpt}
use Rattle.iofd_words.specs.Pins.{ObjectPage, frame_now, is_page, pinned_frame, pinned_pages}
use Rattle.iofd_words.specs.Pins.{unpinned_pages, is_accessed, is_pinned}
use Rattle.iofd_words.specs.View.{view}
use Rattle.iofd_words.specs.World.{World}
use Rattle.iofd_words.specs.declared.event.CopyRequest.{CopyRequest}
use Rattle.iofd_words.specs.declared.numbers.FileNo.{FileNo}
use Rattle.iofd_words.specs.declared.numbers.Iova.{Iova}
use Rattle.iofd_words.specs.declared.rows.Area.{Area}
use Rattle.iofd_words.specs.declared.rows.MemoryObject.{MemoryObject}
use Rattle.iofd_rows.specs.Pinned.{ArePinned}
use Rattle.iofd_rows.proofs.Bools.{and_rest, and_true, both_true, or_false}
use Rattle.iofd_rows.proofs.ListTests.{any-filter, any_weaker}
use Rattle.iofd_rows.proofs.ObjectPages.{has_page, in_pinned, is_listed, listed_is, translated-with_area}
use Rattle.iofd_runs.proofs.AttachedPages.{never_pinned, there_now}
use Rattle.iofd_runs.proofs.CopySource.{source_area}
use Rattle.iofd_runs.proofs.NotRefused.{copy_passed}

-- what one more area over a memory object that stands adds to the pages that are to be pinned: those of that memory
-- object, where the area's address space has a page table, and that weren't to be pinned before
pub record IsAdded (w : World) (area : Area) (page : ObjectPage) : Type 0 where
  pub listed : is_listed w.memory page ≡ true
  pub of_memory : eqb area.memory page.memory ≡ true
  pub has_table : has_hwpt w.objects area.file area.ioas ≡ true
  pub unpinned : is_pinned w.objects w.areas w.access_pins page ≡ false

pub added_page : (w : World) (area : Area) (page : ObjectPage)
    → (is_listed w.memory page ≡ true → is_accessed w.objects (with_area area w.areas) w.access_pins page
    ≡ is_accessed w.objects w.areas w.access_pins page)
    → list_any (is_page page) (pinned_pages w.objects (with_area area w.areas) w.memory w.access_pins) ≡ true
    → list_any (is_page page) (pinned_pages w.objects w.areas w.memory w.access_pins) ≡ false
    → IsAdded w area page
added_page w area page accessed within before =
    let now = and_true (is_listed w.memory page) (is_pinned w.objects (with_area area w.areas) w.access_pins page)
    (sym (in_pinned w.objects (with_area area w.areas) w.memory w.access_pins page) ∙ within) in
    let old = and_rest (is_listed w.memory page) (is_pinned w.objects w.areas w.access_pins page) now.0
    (sym (in_pinned w.objects w.areas w.memory w.access_pins page) ∙ before) in
    let none = or_false _ _ old in
    let own = and_true (eqb area.memory page.memory) (has_hwpt w.objects area.file area.ioas)
    (of_new _ _ none.0 (sym (translated-with_area w.objects area w.areas page.memory)
    ∙ by_table _ _ (accessed now.0 ∙ none.1) now.1)) in
    record { listed = now.0; of_memory = own.0; has_table = own.1; unpinned = old }
  where
    by_table : (t a : Bool) → a ≡ false → (t || a) ≡ true → t ≡ true
    by_table true a none is = refl
    by_table false a none is = let never = sym is ∙ none in cc

    of_new : (new was : Bool) → was ≡ false → (new || was) ≡ true → new ≡ true
    of_new true was none some = refl
    of_new false was none some = cc

-- a page of the memory object of this number is one of its pages
listed_there : (memory : List MemoryObject) (page : ObjectPage) (number : ℕ) → is_listed memory page ≡ true
    → eqb number page.memory ≡ true → is_listed (filter (λ (m : MemoryObject). eqb m.number number) memory) page ≡ true
listed_there memory page number listed of =
    listed_is (filter (λ (m : MemoryObject). eqb m.number number) memory) page
    ∙ any-filter (has_page page) (λ (m : MemoryObject). eqb m.number number) memory
    ∙ any_weaker (has_page page) (λ (m : MemoryObject). eqb m.number number && has_page page m) memory
    (λ m has. both_true _ _ (joined m.number page.memory number (and_true (eqb page.memory m.number) _ has).0 of) has)
    (sym (listed_is memory page) ∙ listed)
  where
    joined : (m p n : ℕ) → eqb p m ≡ true → eqb n p ≡ true → eqb m n ≡ true
    joined m p n first second = grind (arith, nat_tests)

pub pages_copied : (w : World) (file : FileNo) (request : CopyRequest) (source : Area)
    → source_area w file request ≡ Some source
    → newly_copied (view w) file request ≡ unpinned_pages (pinned_frame w.pins)
    (filter (λ (m : MemoryObject). eqb m.number source.memory) w.memory)
pages_copied w file request source found =
    ap (λ (o : Option Area). elim o as (λ _. List ObjectPage) [
      | Some x ↦ unpinned_pages (pinned_frame w.pins)
          (filter (λ (m : MemoryObject). eqb m.number x.memory) w.memory)
      | None ↦ []
    ]) found

pub copied_present : (at : ℕ) (w : World) (file : FileNo) (request : CopyRequest) (iova : Iova) (source : Area)
    (page : ObjectPage) → ArePinned at w → first_true (copy_checks (view w) file request) ≡ None
    → source_area w file request ≡ Some source
    → IsAdded w (mapped_area source.memory file (placed_as request) iova) page
    → is_some (frame_now w.memory w.user_pages page) ≡ true
copied_present at w file request iova source page p none found added =
    let lacking = and_rest (has_hwpt w.objects file request.dst_ioas) _ added.has_table
    (copy_passed (view w) file request none).present in
    there_now w (filter (λ (m : MemoryObject). eqb m.number source.memory) w.memory) page
    (ap (list_any (λ page. is_none (frame_now w.memory w.user_pages page)))
    (sym (pages_copied w file request source found)) ∙ lacking)
    (listed_there w.memory page source.memory added.listed added.of_memory)
    (never_pinned at w page p added.unpinned)
