-- The world after an access object's pin: the pins that stand stay, and behind them come those of the pages that the pin
-- covers and that weren't pinned.
use Rattle.std.proofs.Common.{◌≡◌, ◌≤◌, ◌<◌, ◌+◌, ◌^◌, ℕ, Bool, true, false, ◌||◌, not, Option, Some, None, List, []}
use Rattle.std.proofs.Common.{◌∷◌, ◌++◌, refl, sym, ap, subst, ◌∙◌, arith}
use Rattle.std.proofs.lemmas.Bool.Decides.{nat_tests}
use Rattle.std.specs.List.{flat_map}
use Rattle.std.specs.Option.{MatchOption}
use Rattle.iofd_rows.proofs.Bools.{clash}
use Rattle.iofd_runs.proofs.AccessPins.{accessed_pins_more, spanned}
use Rattle.iofd_runs.proofs.AccessesPassed.{access_pin_passed}
use Rattle.iofd_runs.proofs.Runs.{tests_false}
use Rattle.iofd_words.specs.Accesses.{is_spanned, pin_of, pinned_span}
use Rattle.iofd_steps.specs.After.{changed, settle}
use Rattle.iofd_words.specs.Areas.{areas_of}
use Rattle.iofd_words.specs.Bounds.{Bounds}
use Rattle.iofd_refusals.specs.Checks.{access_pin_checks, pin_checks_in}
use Rattle.iofd_words.specs.FirstTrue.{first_true}
use Rattle.iofd_words.specs.Objects.{access_ioas_of, has_access}
use Rattle.iofd_words.specs.Pins.{is_accessed, is_translated, pages_of}
use Rattle.iofd_words.specs.View.{View, view}
use Rattle.iofd_words.specs.World.{World}
use Rattle.iofd_words.specs.declared.event.Event.TheVariants as event
use Rattle.iofd_words.specs.declared.event.PinRequest.{PinRequest}
use Rattle.iofd_words.specs.declared.numbers.FileNo.{FileNo}
use Rattle.iofd_words.specs.declared.numbers.ObjId.{ObjId}
use Rattle.iofd_words.specs.declared.refusal.Cause.TheVariants as cause
use Rattle.iofd_words.specs.declared.reply.Reply.TheVariants as reply
use Rattle.iofd_words.specs.declared.rows.AccessPin.{AccessPin}
use Rattle.iofd_words.specs.declared.rows.Area.{Area}
use Rattle.iofd_words.specs.declared.rows.MemoryObject.{MemoryObject}
use Rattle.iofd_words.specs.declared.rows.Object.{Object}
use Rattle.iofd_words.specs.declared.rows.Pin.{Pin}
use Rattle.iofd_words.specs.declared.rows.UserPage.{UserPage}
use Rattle.journal_audit_maps.specs.Newly.{Gathers, newly_spanned}
use Rattle.journal_audit_maps.proofs.SettledMore.{settle_more, with_new_pins}
use Rattle.journal_audit_world.specs.Kept.{IsKept}
use Rattle.journal_audit_world.specs.Unwritten.{unwritten}

-- ---- what the refusals rule out

pub match_none : {X : Type 0} (P : Type 0) (Q : X → Type 0) (o : Option X) → o ≡ None → MatchOption o P Q → P
match_none P Q None is here = here
match_none P Q (Some x) is here = cc

pub match_some : {X : Type 0} (P : Type 0) (Q : X → Type 0) (o : Option X) (x : X) → o ≡ Some x → MatchOption o P Q
    → Q x
match_some P Q o x is here = subst (λ (o : Option _). MatchOption o P Q) is here

unattached : (v : View) (file : FileNo) (id : ObjId) (request : PinRequest) → access_ioas_of v.objects file id ≡ None
    → first_true (access_pin_checks v file id request) ≡ None → ⊥
unfolding access_pin_checks
unattached v file id request attached none =
    let passed : first_true ((cause.Id, not (v.is_open file)) ∷ (cause.Id, not (has_access v.objects file id))
    ∷ pin_checks_in v file id request None) ≡ None =
    subst (λ (to : Option ObjId). first_true ((cause.Id, not (v.is_open file))
    ∷ (cause.Id, not (has_access v.objects file id)) ∷ pin_checks_in v file id request to) ≡ None) attached none in
    clash true (tests_false ((cause.Id, not (v.is_open file)) ∷ (cause.Id, not (has_access v.objects file id))
    ∷ pin_checks_in v file id request None) 2 passed) refl

-- it is attached
pub never_unattached : (v w : World) (file : FileNo) (id : ObjId) (request : PinRequest) (objects : List Object)
    (found : Option ObjId) → v ≡ w → first_true (access_pin_checks (view w) file id request) ≡ None
    → objects ≡ v.objects → found ≡ access_ioas_of objects file id → found ≡ None → ⊥
never_unattached v w file id request objects found same none o is missing =
    unattached (view w) file id request
    (ap (λ (x : World). access_ioas_of x.objects file id) (sym same)
    ∙ ap (λ (l : List Object). access_ioas_of l file id) (sym o) ∙ sym is ∙ missing) none

-- its span is one
pub some_span : (w : World) (file : FileNo) (id ioas : ObjId) (request : PinRequest)
    → access_ioas_of w.objects file id ≡ Some ioas
    → first_true (access_pin_checks (view w) file id request) ≡ None
    → (0 < request.length) × (request.iova.0 + request.length ≤ 2 ^ 64)
some_span w file id ioas request attached none =
    let passed = access_pin_passed (view w) file id ioas request attached none in
    let some = passed.some in
    let sum = passed.sum in
    (search (some, arith, nat_tests), search (sum, arith, nat_tests))

-- ---- what comes of it

-- with the pin
abbrev pinned : World → FileNo → ObjId → PinRequest → World
pinned w file id request = record w { access_pins = w.access_pins ++ pin_of file id request ∷ [] }

pinned_is : (at : ℕ) (w : World) (file : FileNo) (id ioas : ObjId) (request : PinRequest) → IsKept at w
    → access_ioas_of w.objects file id ≡ Some ioas
    → settle w (pinned w file id request)
    ≡ with_new_pins (is_spanned (pinned_span request) (areas_of w.areas file ioas)) w (pinned w file id request)
pinned_is at w file id ioas request kept attached =
    settle_more at w (pinned w file id request) (is_spanned (pinned_span request) (areas_of w.areas file ioas)) kept.pins
    refl
    (λ page listed. ap (λ (b : Bool). is_translated w.objects w.areas page.memory || b)
    (accessed_pins_more w.objects w.areas w.access_pins (pin_of file id request) page
    ∙ ap (λ (b : Bool). is_accessed w.objects w.areas w.access_pins page || b)
    (spanned w file id ioas request page attached))
    ∙ apart (is_translated w.objects w.areas page.memory) (is_accessed w.objects w.areas w.access_pins page)
    (is_spanned (pinned_span request) (areas_of w.areas file ioas) page))
  where
    apart : (a b c : Bool) → (a || (b || c)) ≡ ((a || b) || c)
    apart true b c = refl
    apart false b c = refl

module _ (v w : World) (file : FileNo) (id ioas : ObjId) (request : PinRequest) (areas : List Area) (pins : List Pin)
    (memory : List MemoryObject) (user_pages : List UserPage) (asked : Bounds) (same : v ≡ w) (a : areas ≡ v.areas)
    (p : pins ≡ v.pins) (m : memory ≡ v.memory) (u : user_pages ≡ v.user_pages) (s : asked ≡ pinned_span request) where
  -- its pages are there
  pub never_absent : access_ioas_of w.objects file id ≡ Some ioas
      → first_true (access_pin_checks (view w) file id request) ≡ None
      → Gathers false memory user_pages (newly_spanned pins areas file ioas asked (flat_map pages_of memory)) [] []
      → ⊥
  never_absent attached none lacks =
      let passed = access_pin_passed (view w) file id ioas request attached none in
      clash _ passed.present (rw (← same, ← a, ← p, ← m, ← u, ← s) lacks)

  pub pin_done : (A : Type 0) (at : ℕ) (new : World) (found : List Pin) (span : Bounds) → IsKept at w
      → access_ioas_of w.objects file id ≡ Some ioas → span ≡ pinned_span request
      → Gathers true memory user_pages (newly_spanned pins areas file ioas asked (flat_map pages_of memory)) [] found
      → new ≡ record v { pins = new.pins; access_pins = new.access_pins } → new.pins ≡ v.pins ++ found
      → new.access_pins ≡ v.access_pins ++ record { file = file; access = id; span = span; write = request.write } ∷ []
      → unwritten new ≡ unwritten (changed {A = A} at w (event.AccessPin file id request) reply.Done)
  unfolding changed
  pin_done A at new found span kept attached span_is gathered new_is pins_are access_is =
      let kept_v = subst (λ (x : World). IsKept at x) (sym same) kept in
      let attached_v = subst (λ (x : World). access_ioas_of x.objects file id ≡ Some ioas) (sym same) attached in
      let all = subst (λ (g : Bounds). Gathers true v.memory v.user_pages
      (newly_spanned v.pins v.areas file ioas g (flat_map pages_of v.memory)) [] found) s
      (moved gathered) in
      let more : new.access_pins ≡ (pinned v file id request).access_pins =
      access_is ∙ ap (λ (b : Bounds). v.access_pins
      ++ record { file = file; access = id; span = b; write = request.write } ∷ []) span_is in
      ap (λ (x : World). unwritten x) new_is
      ∙ ap (λ (rows : List Pin). unwritten (record v { pins = rows; access_pins = new.access_pins }))
      (pins_are ∙ ap (λ (rows : List Pin). v.pins ++ rows) all.1)
      ∙ ap (λ (rows : List AccessPin). unwritten (record
      (with_new_pins (is_spanned (pinned_span request) (areas_of v.areas file ioas)) v v) { access_pins = rows })) more
      ∙ ap (λ (x : World). unwritten x) (sym (pinned_is at v file id ioas request kept_v attached_v))
      ∙ ap (λ (x : World). unwritten (settle x (pinned x file id request))) same
    where
      moved : Gathers true memory user_pages (newly_spanned pins areas file ioas asked (flat_map pages_of memory)) []
          found
          → Gathers true v.memory v.user_pages (newly_spanned v.pins v.areas file ioas asked (flat_map pages_of v.memory))
          [] found
      moved g = rw (← a, ← p, ← m, ← u) g
