-- How many pins are gathered, and what the limit says of so many.
use Rattle.std.proofs.Common.{◌≡◌, ℕ, suc, Bool, true, false, cond, is_none, Option, Some, None, List, [], ◌∷◌, length, refl, sym, ap}
use Rattle.std.proofs.Common.{◌∙◌}
use Rattle.std.specs.List.{filter_map, flat_map, list_any}
use Rattle.iofd_rows.proofs.Bools.{or_false}
use Rattle.iofd_words.specs.Accesses.{lacks_accessed_page}
use Rattle.iofd_words.specs.Bounds.{Bounds}
use Rattle.iofd_refusals.specs.Checks.{passes_limit, passes_limit_accessed}
use Rattle.iofd_words.specs.Files.{user_of}
use Rattle.iofd_words.specs.FirstTrue.{first_true}
use Rattle.iofd_words.specs.Pins.{ObjectPage, frame_now, pages_of, pin_now}
use Rattle.iofd_words.specs.View.{view}
use Rattle.iofd_words.specs.World.{World}
use Rattle.iofd_words.specs.declared.numbers.FileNo.{FileNo}
use Rattle.iofd_words.specs.declared.numbers.FrameNo.{FrameNo}
use Rattle.iofd_words.specs.declared.numbers.ObjId.{ObjId}
use Rattle.iofd_words.specs.declared.refusal.Cause.TheVariants as cause
use Rattle.iofd_words.specs.declared.rows.Area.{Area}
use Rattle.iofd_words.specs.declared.rows.MemoryObject.{MemoryObject}
use Rattle.iofd_words.specs.declared.rows.Pin.{Pin}
use Rattle.iofd_words.specs.declared.rows.UserPage.{UserPage}
use Rattle.journal_audit_maps.specs.Newly.{Gathers, newly_spanned}

pub pins_long : (memory : List MemoryObject) (user_pages : List UserPage) (pages : List ObjectPage)
    → list_any (λ page. is_none (frame_now memory user_pages page)) pages ≡ false
    → length (filter_map (pin_now memory user_pages) pages) ≡ length pages
pins_long memory user_pages [] there = refl
pins_long memory user_pages (page ∷ pages) there =
    let parts = or_false (is_none (frame_now memory user_pages page)) _ there in
    by_frame (frame_now memory user_pages page) refl parts.0 (pins_long memory user_pages pages parts.1)
  where
    by_frame : (o : Option FrameNo) → frame_now memory user_pages page ≡ o → is_none o ≡ false
        → length (filter_map (pin_now memory user_pages) pages) ≡ length pages
        → length (filter_map (pin_now memory user_pages) (page ∷ pages)) ≡ suc (length pages)
    by_frame None is some rest = cc
    by_frame (Some frame) is some rest = rw (is, pin_now, filter_map) (ap suc rest)

pub pages_told : (v w : World) (file : FileNo) (ioas : ObjId) (asked : Bounds) (areas : List Area) (pins : List Pin)
    (memory : List MemoryObject) (user_pages : List UserPage) (found : List Pin) (count : ℕ) (b : Bool) → v ≡ w
    → areas ≡ v.areas → pins ≡ v.pins → memory ≡ v.memory → user_pages ≡ v.user_pages
    → Gathers true memory user_pages (newly_spanned pins areas file ioas asked (flat_map pages_of memory)) [] found
    → count ≡ length found → b ≡ passes_limit (view w) (user_of w.settings file) count
    → cond b (Some cause.Account) None ≡ first_true ((cause.Absent, lacks_accessed_page (view w) file ioas asked)
    ∷ (cause.Account, passes_limit_accessed (view w) file ioas asked) ∷ [])
pages_told v w file ioas asked areas pins memory user_pages found count b same a p m u gathered counted is =
    let all : Gathers true w.memory w.user_pages (newly_spanned w.pins w.areas file ioas asked (flat_map pages_of
    w.memory)) [] found = rw (← same, ← a, ← p, ← m, ← u) gathered in
    let long : count ≡ length (newly_spanned w.pins w.areas file ioas asked (flat_map pages_of w.memory)) =
    counted ∙ ap (λ (l : List Pin). length l) all.1 ∙ pins_long w.memory w.user_pages _ all.0 in
    ap (λ (x : Bool). cond x (Some cause.Account) None)
    (is ∙ ap (λ (n : ℕ). passes_limit (view w) (user_of w.settings file) n) long)
    ∙ ap (λ (x : Bool). cond x (Some cause.Absent) (cond (passes_limit_accessed (view w) file ioas asked)
    (Some cause.Account) None)) (sym all.0)
