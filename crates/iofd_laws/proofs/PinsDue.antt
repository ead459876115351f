-- A pin by an access object that is refused for the account could not be carried out within the limit.
use Rattle.std.proofs.Common.{◌≡◌, ℕ, ◌+◌, ◌≤◌, Bool, true, false, cond, ◌&&◌, ◌||◌, not, eqb, is_none}
use Rattle.std.proofs.Common.{is_some, Option, Some, None, List, [], ◌∷◌, ◌++◌, length, refl, sym, subst, ◌∙◌}
use Rattle.std.proofs.Common.{arith}
use Rattle.std.specs.List.{count_by, flat_map, list_any}
use Rattle.iofd_steps.specs.After.{settle}
use Rattle.iofd_words.specs.Areas.{areas_of}
use Rattle.iofd_words.specs.Files.{user_of}
use Rattle.iofd_words.specs.FirstTrue.{first_true}
use Rattle.iofd_words.specs.Pins.{ObjectPage, frame_now, is_page, is_translated, pages_of, pinned_frame}
use Rattle.iofd_words.specs.Pins.{unpinned_pages, is_accessed, is_pinned}
use Rattle.iofd_words.specs.View.{view}
use Rattle.iofd_words.specs.World.{World}
use Rattle.iofd_words.specs.declared.event.Event.TheVariants as event
use Rattle.iofd_words.specs.declared.numbers.FileNo.{FileNo}
use Rattle.iofd_words.specs.declared.numbers.FrameNo.{FrameNo}
use Rattle.iofd_words.specs.declared.numbers.ObjId.{ObjId}
use Rattle.iofd_words.specs.declared.numbers.UserNo.{UserNo}
use Rattle.iofd_words.specs.declared.refusal.Cause.{Cause}
use Rattle.iofd_words.specs.declared.refusal.Cause.TheVariants as cause
use Rattle.iofd_words.specs.declared.rows.Area.{Area}
use Rattle.iofd_words.specs.declared.rows.MemoryObject.{MemoryObject}
use Rattle.iofd_laws.specs.Laws.{PassesLimit, held_in}
use Rattle.iofd_rows.proofs.Bools.{and_true, both_true, clash, or_none}
use Rattle.iofd_rows.proofs.Each.{IsIn}
use Rattle.iofd_rows.proofs.ListTests.{any_weaker, or_left, or_right}
use Rattle.iofd_rows.proofs.ObjectPages.{in_pinned, is_listed}
use Rattle.iofd_runs.proofs.KeepsOwned.{OwnedPins, owner}
use Rattle.iofd_runs.proofs.PagesToPin.{pages_in}
use Rattle.iofd_laws.proofs.PagesHeld.{has_pin, held_settle, listed_page, number_of_page, of_user}
use Rattle.iofd_laws.proofs.RefusingRow.{row_passed}
use Rattle.iofd_laws.proofs.PinsGained.{StayPinned, account_row, count_both, gets_pin, is_account}
use Rattle.iofd_laws.proofs.PinsGained.{is_over, keeps_pin, never, of_owner, page_count_both, passed}
use Rattle.iofd_laws.proofs.PinsHeld.{added_count, is_added, pinned_world}
use Rattle.iofd_runs.proofs.AccessPins.{accessed_pins_more, is_accessed_by, spanned}
use Rattle.iofd_words.specs.Accesses.{is_spanned, lacks_accessed_page, newly_accessed, pin_of, pinned_span}
use Rattle.iofd_refusals.specs.Checks.{access_pin_checks, passes_limit_accessed, pin_checks_in}
use Rattle.iofd_words.specs.Objects.{access_ioas_of}
use Rattle.iofd_words.specs.declared.event.PinRequest.{PinRequest}
use Rattle.iofd_words.specs.declared.rows.AccessPin.{AccessPin}
use Rattle.iofd_words.specs.Objects.{has_access}
use Rattle.iofd_words.specs.Span.{lies_in}
use Rattle.iofd_words.specs.Pins.{span_of_page}
use Rattle.iofd_rows.proofs.PageCounts.{count_none}
use Rattle.iofd_rows.proofs.ListTests.{false_else}
use Rattle.iofd_rows.proofs.PageLists.{no_page, page_kept}

-- the pages that are to be pinned stay so with one access pin more
pinned_still : (w : World) (pin : AccessPin) → StayPinned w (pinned_world w pin)
pinned_still w pin page within =
    let parts = and_true (is_listed w.memory page) (is_pinned w.objects w.areas w.access_pins page)
    (sym (in_pinned w.objects w.areas w.memory w.access_pins page) ∙ within) in
    in_pinned w.objects w.areas w.memory (w.access_pins ++ pin ∷ []) page
    ∙ both_true _ _ parts.0 (more (is_translated w.objects w.areas page.memory) _ _
    (λ is. accessed_pins_more w.objects w.areas w.access_pins pin page ∙ or_left _ _ is) parts.1)
  where
    more : (t a b : Bool) → (a ≡ true → b ≡ true) → (t || a) ≡ true → (t || b) ≡ true
    more true a b still is = refl
    more false a b still is = still is

-- the page is one that the pin covers
pinned_by : (w : World) (pin : AccessPin) (page : ObjectPage) → is_listed w.memory page ≡ true
    → is_accessed_by w.objects w.areas pin page ≡ true → list_any (is_page page) (pages_in (pinned_world w pin)) ≡ true
pinned_by w pin page listed covers =
    in_pinned w.objects w.areas w.memory (w.access_pins ++ pin ∷ []) page
    ∙ both_true _ _ listed (or_right (is_translated w.objects w.areas page.memory) _
    (accessed_pins_more w.objects w.areas w.access_pins pin page
    ∙ or_right (is_accessed w.objects w.areas w.access_pins page) _ covers))

module _ (at : ℕ) (w : World) (file : FileNo) (id ioas : ObjId) (request : PinRequest) (p : OwnedPins at w)
    (attached : access_ioas_of w.objects file id ≡ Some ioas)
    (lacks : lacks_accessed_page (view w) file ioas (pinned_span request) ≡ false) where
  abbrev next : World
  next = pinned_world w (pin_of file id request)

  abbrev lies : ObjectPage → Bool
  lies page = is_spanned (pinned_span request) (areas_of w.areas file ioas) page

  -- a page that the pin adds gets a pin
  added_pin : (m : MemoryObject) (page : ObjectPage) → IsIn w.memory m → IsIn (pages_of m) page
      → is_added w request file ioas page ≡ true → has_pin (settle w next) page ≡ true
  added_pin m page among within added =
      let parts = and_true (is_none (pinned_frame w.pins page)) (lies page) added in
      let listed = listed_page w.memory m page among within in
      let unpinned : list_any (is_page page) (unpinned_pages (pinned_frame w.pins) w.memory) ≡ true =
      page_kept (λ (q : ObjectPage). is_none (pinned_frame w.pins q)) (flat_map pages_of w.memory) page listed parts.0
      in
      gets_pin at w next page p.pins
      (pinned_by w (pin_of file id request) page listed (spanned w file id ioas request page attached ∙ parts.1))
      (λ free. there (frame_now w.memory w.user_pages page)
      (no_page (λ q. is_none (frame_now w.memory w.user_pages q))
      (newly_accessed (view w) file ioas (pinned_span request)) page lacks
      (page_kept lies (unpinned_pages (pinned_frame w.pins) w.memory) page unpinned parts.1)))
    where
      there : (now : Option FrameNo) → is_none now ≡ false → is_some now ≡ true
      there (Some frame) is = refl
      there None is = cc

  -- a memory object of which a page lies in the span is the user's
  its_owner : (user : UserNo) (m : MemoryObject) (page : ObjectPage) → user_of w.settings file ≡ Some user
      → IsIn w.memory m → IsIn (pages_of m) page → lies page ≡ true → of_user user m ≡ true
  its_owner user m page is among within here =
      of_owner w file user m is (owner w file ioas m p.areas among
      (subst (λ (n : ℕ). list_any (λ (a : Area). eqb a.memory n) (areas_of w.areas file ioas) ≡ true)
      (number_of_page m page within)
      (any_weaker (λ (a : Area). eqb a.memory page.memory && lies_in (span_of_page a page.index) (pinned_span request))
      (λ (a : Area). eqb a.memory page.memory) (areas_of w.areas file ioas)
      (λ a both. (and_true (eqb a.memory page.memory) _ both).0) here)))

  all_accessed : (user : UserNo) → user_of w.settings file ≡ Some user
      → held_in w user + length (newly_accessed (view w) file ioas (pinned_span request))
      ≤ held_in (settle w next) user
  all_accessed user is =
      let most = page_count_both (has_pin (settle w next)) (has_pin w) (is_added w request file ioas) (of_user user)
      (λ m. true) w.memory (λ m among. by_test m among (of_user user m) refl) in
      let counted = added_count w request file ioas in
      rw (held_settle w next user) (omega (arith, most, counted))
    where
      apart : (o : Option FrameNo) (b : Bool) → is_some o ≡ true → (is_none o && b) ≡ false
      apart (Some frame) b some = refl
      apart None b some = cc

      by_test : (m : MemoryObject) → IsIn w.memory m → (b : Bool) → of_user user m ≡ b
          → cond b (count_by (has_pin w) (pages_of m)) 0 + count_by (is_added w request file ioas) (pages_of m)
          ≤ cond b (count_by (has_pin (settle w next)) (pages_of m)) 0
      by_test m among true own =
          count_both (has_pin (settle w next)) (has_pin w) (is_added w request file ioas) (pages_of m)
          (λ page within some. keeps_pin at w next page p.pins (pinned_still w (pin_of file id request)) some)
          (λ page within added. added_pin m page among within added)
          (λ page some. apart (pinned_frame w.pins page) _ some)
      by_test m among false own =
          let none = count_none (is_added w request file ioas) (pages_of m)
          (λ page within. false_else _ (λ added.
          clash _ own (its_owner user m page is among within
          (and_true (is_none (pinned_frame w.pins page)) (lies page) added).1))) in
          omega (arith, none)

-- ---- the record

pub pin_over : {A : Type 0} → (at : ℕ) (w : World) (file : FileNo) (id : ObjId) (request : PinRequest) → OwnedPins at w
    → first_true (access_pin_checks (view w) file id request) ≡ Some cause.Account
    → PassesLimit {A = A} w (settle w (pinned_world w (pin_of file id request))) (event.AccessPin file id request)
unfolding access_pin_checks
pin_over {A = A} at w file id request p refused = by_space (access_ioas_of w.objects file id) refl refused
  where
    rows : Option ObjId → List (Cause × Bool)
    rows to = (cause.Id, not ((view w).is_open file)) ∷ (cause.Id, not (has_access w.objects file id))
        ∷ pin_checks_in (view w) file id request to

    by_space : (to : Option ObjId) → access_ioas_of w.objects file id ≡ to → first_true (rows to) ≡ Some cause.Account
        → PassesLimit {A = A} w (settle w (pinned_world w (pin_of file id request))) (event.AccessPin file id request)
    by_space None is refused = absurd (never (account_row (rows None) refused))
    by_space (Some ioas) is refused =
        let row : passes_limit_accessed (view w) file ioas (pinned_span request) ≡ true =
        sym (or_none (passes_limit_accessed (view w) file ioas (pinned_span request)))
        ∙ account_row (rows (Some ioas)) refused in
        let lacks : lacks_accessed_page (view w) file ioas (pinned_span request) ≡ false =
        row_passed cause.Account is_account refl (rows (Some ioas)) 8 refused refl in
        let over = is_over w file (length (newly_accessed (view w) file ioas (pinned_span request))) row in
        passed {A = A} w (settle w (pinned_world w (pin_of file id request))) (event.AccessPin file id request) file
        (length (newly_accessed (view w) file ioas (pinned_span request))) refl over
        (all_accessed at w file id ioas request p is lacks over.user over.of_user)
