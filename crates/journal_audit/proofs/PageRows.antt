-- The rows of MAP and COPY that ask for pages, where a page table is over the address space.
use Rattle.std.proofs.Common.{◌≡◌, ℕ, ◌/◌, Bool, true, false, cond, ◌&&◌, not, eqb, is_none, is_some, Option, Some}
use Rattle.std.proofs.Common.{None, List, [], length, refl, sym, ap, ◌∙◌}
use Rattle.std.specs.List.{filter, list_any}
use Rattle.std.specs.Option.{MatchOption}
use Rattle.iofd_runs.proofs.CopiedPages.{pages_copied}
use Rattle.iofd_runs.proofs.CopySource.{source_area}
use Rattle.iofd_runs.proofs.Runs.{tests_false}
use Rattle.iofd_steps.specs.After.{memory_object}
use Rattle.iofd_refusals.specs.Checks.{lacks_copied_page, lacks_mapped_page, newly_copied, passes_limit}
use Rattle.iofd_refusals.specs.Checks.{passes_limit_copied, passes_limit_mapped}
use Rattle.iofd_words.specs.Files.{user_of}
use Rattle.iofd_words.specs.FirstTrue.{first_true}
use Rattle.iofd_words.specs.Frames.{frame_at, has_pages}
use Rattle.iofd_words.specs.Objects.{has_hwpt}
use Rattle.iofd_words.specs.Pages.{page_of}
use Rattle.iofd_words.specs.Pins.{ObjectPage, are_present, frame_now, pages_of, pinned_frame, unpinned_pages}
use Rattle.iofd_words.specs.View.{view}
use Rattle.iofd_words.specs.World.{World}
use Rattle.iofd_words.specs.declared.event.CopyRequest.{CopyRequest}
use Rattle.iofd_words.specs.declared.event.MapRequest.{MapRequest}
use Rattle.iofd_words.specs.declared.numbers.FileNo.{FileNo}
use Rattle.iofd_words.specs.declared.numbers.ObjId.{ObjId}
use Rattle.iofd_words.specs.declared.numbers.UserNo.{UserNo}
use Rattle.iofd_words.specs.declared.refusal.Cause.{Cause}
use Rattle.iofd_words.specs.declared.refusal.Cause.TheVariants as cause
use Rattle.iofd_words.specs.declared.rows.Area.{Area}
use Rattle.iofd_words.specs.declared.rows.MemoryObject.{MemoryObject}
use Rattle.iofd_words.specs.declared.rows.Object.{Object}
use Rattle.iofd_words.specs.declared.rows.Pin.{Pin}
use Rattle.iofd_words.specs.declared.rows.UserPage.{UserPage}
use Rattle.journal_audit_page_tables.specs.Listed.{Listed, own_frame}
use Rattle.journal_audit_maps.proofs.AccessPinned.{match_none}
use Rattle.journal_audit.specs.Rows.{copy_pages, copy_source, map_pages}
use Rattle.journal_audit.proofs.ListedPins.{absent_is, listed_long, new_present}

-- a page isn't there, or the limit would be passed
abbrev told_by : Bool → Bool → Option Cause
told_by present passes = cond (not present) (Some cause.Absent) (cond passes (Some cause.Account) None)

-- nothing is found
nothing : {X : Type 0} (o : Option X) (b : Bool) → is_some o ≡ not b → b ≡ true → o ≡ None
nothing None b told is = refl
nothing (Some x) b told is = let never = told ∙ ap not is in cc

-- a page table is over the address space
pub table_over : (v w : World) (file : FileNo) (ioas : ObjId) (objects : List Object) (has : Bool) → v ≡ w
    → objects ≡ v.objects → has ≡ has_hwpt objects file ioas → has ≡ true → has_hwpt w.objects file ioas ≡ true
table_over v w file ioas objects has same o told holds =
    ap (λ (x : World). has_hwpt x.objects file ioas) (sym same)
    ∙ ap (λ (rows : List Object). has_hwpt rows file ioas) (sym o) ∙ sym told ∙ holds

-- ---- MAP

module _ (v w : World) (file : FileNo) (request : MapRequest) (user : UserNo) (m : MemoryObject) (at : ℕ)
    (objects : List Object) (user_pages : List UserPage) (has : Bool) (same : v ≡ w) (o : objects ≡ v.objects)
    (u : user_pages ≡ v.user_pages) (told : has ≡ has_hwpt objects file request.ioas) (holds : has ≡ true)
    (known : user_of v.settings file ≡ Some user) (is : m ≡ memory_object at user request) where
  has_now : has_hwpt w.objects file request.ioas ≡ true
  has_now = table_over v w file request.ioas objects has same o told holds

  known_now : user_of w.settings file ≡ Some user
  known_now = ap (λ (x : World). user_of x.settings file) (sym same) ∙ known

  lacks_is : lacks_mapped_page (view w) file request
      ≡ not (are_present (own_frame (frame_at user_pages) m) (pages_of m))
  lacks_is =
      ap (λ (b : Bool). b && elim (user_of w.settings file) as (λ _. Bool) [
        | Some u ↦ not (has_pages (frame_at w.user_pages) u (page_of request.user_va) (request.length / 4096))
        | None ↦ true
      ]) has_now
      ∙ ap (λ (o : Option UserNo). elim o as (λ _. Bool) [
        | Some u ↦ not (has_pages (frame_at w.user_pages) u (page_of request.user_va) (request.length / 4096))
        | None ↦ true
      ]) known_now
      ∙ ap not (sym (new_present user_pages m
      ∙ ap (λ (x : MemoryObject). has_pages (frame_at user_pages) x.user (page_of x.va) x.count) is
      ∙ ap (λ (l : List UserPage). has_pages (frame_at l) user (page_of request.user_va) (request.length / 4096)) u
      ∙ ap (λ (x : World). has_pages (frame_at x.user_pages) user (page_of request.user_va) (request.length / 4096))
      same))

  map_rows : (present passes : Bool) → are_present (own_frame (frame_at user_pages) m) (pages_of m) ≡ present
      → passes ≡ passes_limit (view w) (user_of w.settings file) (request.length / 4096)
      → told_by present passes ≡ first_true (map_pages (view w) file request)
  unfolding map_pages
  map_rows present passes there limit =
      ap (λ (b : Bool). told_by present b) limit
      ∙ ap (λ (b : Bool). told_by present
      (b && passes_limit (view w) (user_of w.settings file) (request.length / 4096))) (sym has_now)
      ∙ ap (λ (b : Bool). cond b (Some cause.Absent) (cond (passes_limit_mapped (view w) file request)
      (Some cause.Account) None)) (sym (lacks_is ∙ ap not there))

  pub map_absent : {X : Type 0} (pins : Option X) (Q : X → Type 0) (b : Bool) → is_some pins ≡ not b → b ≡ true
      → MatchOption pins (are_present (own_frame (frame_at user_pages) m) (pages_of m) ≡ false) Q
      → Some cause.Absent ≡ first_true (map_pages (view w) file request)
  map_absent pins Q b found none absent =
      map_rows false _ (match_none _ Q pins (nothing pins b found none) absent) refl

  pub map_told : {X : Type 0} (pins : Option X) (listed : X → List Pin) (b passes : Bool) → is_some pins ≡ not b
      → b ≡ false
      → MatchOption pins (are_present (own_frame (frame_at user_pages) m) (pages_of m) ≡ false)
      (λ x. Listed (own_frame (frame_at user_pages) m) [] (listed x) true (pages_of m))
      → passes ≡ passes_limit (view w) (user_of w.settings file) (request.length / 4096)
      → cond passes (Some cause.Account) None ≡ first_true (map_pages (view w) file request)
  map_told pins listed b passes found some there limit = map_rows true passes (by_pins pins (found ∙ ap not some) there)
      limit
    where
      by_pins : (o : Option _) → is_some o ≡ true
          → MatchOption o (are_present (own_frame (frame_at user_pages) m) (pages_of m) ≡ false)
          (λ x. Listed (own_frame (frame_at user_pages) m) [] (listed x) true (pages_of m))
          → are_present (own_frame (frame_at user_pages) m) (pages_of m) ≡ true
      by_pins None some there = cc
      by_pins (Some x) some there = sym there.present

-- ---- COPY

-- there is a source
pub some_source : (w : World) (file : FileNo) (request : CopyRequest)
    → first_true (copy_source (view w) file request) ≡ None → is_none (source_area w file request) ≡ false
unfolding copy_source
some_source w file request none = tests_false (copy_source (view w) file request) 0 none

module _ (w : World) (file : FileNo) (request : CopyRequest) (source : Area)
    (found : source_area w file request ≡ Some source) (has_now : has_hwpt w.objects file request.dst_ioas ≡ true)
    (memory : List MemoryObject) (user_pages : List UserPage) (pins : List Pin) (m : memory ≡ w.memory)
    (u : user_pages ≡ w.user_pages) (p : pins ≡ w.pins) where
  abbrev pages : List ObjectPage
  pages = unpinned_pages (pinned_frame pins)
      (filter (λ (o : MemoryObject). eqb o.number source.memory) memory)

  pages_are : newly_copied (view w) file request ≡ pages
  pages_are =
      pages_copied w file request source found
      ∙ ap (λ (l : List Pin). unpinned_pages (pinned_frame l)
      (filter (λ (o : MemoryObject). eqb o.number source.memory) w.memory)) (sym p)
      ∙ ap (λ (l : List MemoryObject). unpinned_pages (pinned_frame pins)
      (filter (λ (o : MemoryObject). eqb o.number source.memory) l)) (sym m)

  lacks_copied : lacks_copied_page (view w) file request ≡ not (are_present (frame_now memory user_pages) pages)
  lacks_copied =
      ap (λ (b : Bool). b && list_any (λ page. is_none (frame_now w.memory w.user_pages page))
      (newly_copied (view w) file request)) has_now
      ∙ ap (λ (l : List ObjectPage). list_any (λ page. is_none (frame_now w.memory w.user_pages page)) l) pages_are
      ∙ absent_is (frame_now w.memory w.user_pages) pages
      ∙ ap (λ (l : List MemoryObject). not (are_present (frame_now l w.user_pages) pages)) (sym m)
      ∙ ap (λ (l : List UserPage). not (are_present (frame_now memory l) pages)) (sym u)

  copy_rows : (present passes : Bool) → are_present (frame_now memory user_pages) pages ≡ present
      → passes ≡ passes_limit (view w) (user_of w.settings file) (length pages)
      → told_by present passes ≡ first_true (copy_pages (view w) file request)
  unfolding copy_pages
  copy_rows present passes there limit =
      ap (λ (b : Bool). told_by present b) (limit
      ∙ ap (λ (l : List ObjectPage). passes_limit (view w) (user_of w.settings file) (length l)) (sym pages_are)
      ∙ ap (λ (b : Bool). b && passes_limit (view w) (user_of w.settings file)
      (length (newly_copied (view w) file request))) (sym has_now))
      ∙ ap (λ (b : Bool). cond b (Some cause.Absent) (cond (passes_limit_copied (view w) file request)
      (Some cause.Account) None)) (sym (lacks_copied ∙ ap not there))

  pub copy_absent : are_present (frame_now memory user_pages) pages ≡ false
      → Some cause.Absent ≡ first_true (copy_pages (view w) file request)
  copy_absent absent = copy_rows false _ absent refl

  pub copy_told : (listed : List Pin) (count : ℕ) (passes : Bool)
      → Listed (frame_now memory user_pages) [] listed true pages → count ≡ length listed
      → passes ≡ passes_limit (view w) (user_of w.settings file) count
      → cond passes (Some cause.Account) None ≡ first_true (copy_pages (view w) file request)
  copy_told listed count passes all counted limit =
      copy_rows true passes (sym all.present)
      (limit ∙ ap (λ (n : ℕ). passes_limit (view w) (user_of w.settings file) n)
      (counted ∙ ap (λ (l : List Pin). length l) (all.pins refl)
      ∙ listed_long (frame_now memory user_pages) pages (sym all.present)))
