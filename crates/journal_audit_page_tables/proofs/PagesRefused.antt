-- Why a page table is refused by the pages that it pins.
use Rattle.std.proofs.Common.{◌≡◌, ℕ, Bool, true, false, cond, ◌&&◌, not, is_none, Some, None, List, [], ◌∷◌, length}
use Rattle.std.proofs.Common.{sym, ap, ◌∙◌}
use Rattle.std.specs.List.{list_any}
use Rattle.iofd_refusals.specs.Checks.{lacks_attached_page, newly_pinned, passes_limit, passes_limit_attached}
use Rattle.iofd_words.specs.Files.{user_of}
use Rattle.iofd_words.specs.FirstTrue.{first_true}
use Rattle.iofd_words.specs.Objects.{has_hwpt}
use Rattle.iofd_words.specs.Pins.{ObjectPage, frame_now}
use Rattle.iofd_words.specs.View.{view}
use Rattle.iofd_words.specs.World.{World}
use Rattle.iofd_words.specs.declared.numbers.FileNo.{FileNo}
use Rattle.iofd_words.specs.declared.numbers.ObjId.{ObjId}
use Rattle.iofd_words.specs.declared.refusal.Cause.TheVariants as cause
use Rattle.iofd_words.specs.declared.rows.Object.{Object}
use Rattle.iofd_words.specs.declared.rows.Pin.{Pin}
use Rattle.journal_audit_maps.specs.Newly.{Gathers}
use Rattle.journal_audit_maps.proofs.PagesAsked.{pins_long}

pub limit_told : (w : World) (file : FileNo) (ioas : ObjId) (objects : List Object) (found : List Pin) (count : ℕ)
    (had b : Bool) → objects ≡ w.objects → had ≡ has_hwpt objects file ioas → had ≡ false
    → Gathers true w.memory w.user_pages (newly_pinned (view w) file ioas) [] found → count ≡ length found
    → b ≡ passes_limit (view w) (user_of w.settings file) count
    → cond b (Some cause.Account) None ≡ first_true ((cause.Absent, lacks_attached_page (view w) file ioas)
    ∷ (cause.Account, passes_limit_attached (view w) file ioas) ∷ [])
limit_told w file ioas objects found count had b same has none gathered counted is =
    let first : has_hwpt w.objects file ioas ≡ false =
    sym (has ∙ ap (λ (rows : List Object). has_hwpt rows file ioas) same) ∙ none in
    let long : count ≡ length (newly_pinned (view w) file ioas) =
    counted ∙ ap (λ (l : List Pin). length l) gathered.1 ∙ pins_long w.memory w.user_pages _ gathered.0 in
    let present : lacks_attached_page (view w) file ioas ≡ false =
    ap (λ t. not t && list_any (λ (page : ObjectPage). is_none (frame_now w.memory w.user_pages page))
    (newly_pinned (view w) file ioas)) first ∙ gathered.0 in
    let passes : passes_limit_attached (view w) file ioas ≡ b =
    ap (λ t. not t && passes_limit (view w) (user_of w.settings file) (length (newly_pinned (view w) file ioas))) first
    ∙ ap (λ (n : ℕ). passes_limit (view w) (user_of w.settings file) n) (sym long) ∙ sym is in
    sym (ap (λ t. cond t (Some cause.Absent) (cond (passes_limit_attached (view w) file ioas) (Some cause.Account)
    None)) present ∙ ap (λ t. cond t (Some cause.Account) None) passes)
