-- What a device's write is answered, and what it leaves.
use Rattle.std.proofs.Common.{◌≡◌, ◌≢◌, ℕ, zero, suc, ◌+◌, ◌^◌, ◌<◌, Bool, true, false, cond, eqb, ltb, leb, Option}
use Rattle.std.proofs.Common.{Some, None, List, [], ◌∷◌, ◌++◌, length, map, Contains, refl, sym, ◌∙◌, ap, subst, arith}
use Rattle.std.proofs.Common.{is_some}
use Rattle.iofd_rows.proofs.Each.{in_found, of_all, of_any}
use Rattle.std.specs.Option.{option_map}
use Rattle.std.specs.List.{find, list_all, list_any, splice}
use Rattle.std.proofs.lemmas.List.{get_or-set_other}
use Rattle.std.proofs.lemmas.List.Folds.{list_all-append}
use Rattle.std.proofs.lemmas.Bool.Decides.{nat_tests}
use Rattle.frame_memory.specs.Pool.{FramePool, bytes_of, written}
use Rattle.page_table_set.specs.PageTables.{AllStand, Hwpt}
use Rattle.iofd_rows.proofs.Bools.{and_true, both_true}
use Rattle.iofd_steps.specs.Answers.{write_reply}
use Rattle.iofd_words.specs.Areas.{area_at, areas_of}
use Rattle.iofd_words.specs.Attachments.{attachment_of, ioas_of_attachment}
use Rattle.iofd_words.specs.DeviceSet.{has_device}
use Rattle.iofd_words.specs.Fault.{denied_by}
use Rattle.iofd_words.specs.Files.{device_of}
use Rattle.iofd_words.specs.Frames.{FrameWrite}
use Rattle.iofd_words.specs.Pins.{ObjectPage, is_page, page_of_pin, pinned_frame}
use Rattle.iofd_words.specs.Policy.{Outcome, Passes, Denied, at_area, by_phase, by_width, access_outcomes, outcomes}
use Rattle.iofd_words.specs.Policy.{page_in, passing, translated}
use Rattle.iofd_words.specs.Rights.{has_right}
use Rattle.iofd_words.specs.Settings.{DeviceSettings}
use Rattle.iofd_words.specs.View.{view}
use Rattle.iofd_words.specs.Width.{bits_of}
use Rattle.iofd_words.specs.World.{World}
use Rattle.iofd_words.specs.declared.fault.AccessKind.{AccessKind}
use Rattle.iofd_words.specs.declared.fault.AccessKind.TheVariants.{Write}
use Rattle.iofd_words.specs.declared.fault.FaultReason.TheVariants.{BeyondWidth, WriteDenied}
use Rattle.iofd_words.specs.declared.numbers.DeviceNo.{DeviceNo}
use Rattle.iofd_words.specs.declared.numbers.FrameNo.{FrameNo}
use Rattle.iofd_words.specs.declared.numbers.Iova.{Iova}
use Rattle.iofd_words.specs.declared.numbers.ObjId.{ObjId}
use Rattle.iofd_words.specs.declared.rows.Area.{Area}
use Rattle.iofd_words.specs.declared.rows.Attachment.{Attachment}
use Rattle.iofd_words.specs.declared.rows.Object.{Object}
use Rattle.iofd_words.specs.declared.rows.Phase.{Phase}
use Rattle.iofd_words.specs.declared.rows.Phase.TheVariants.{Live, Leaving}
use Rattle.iofd_words.specs.declared.rows.Pin.{Pin}
use Rattle.iofd_words.specs.declared.rows.TableFrame.{TableFrame}
use Rattle.memory_objects.specs.Objects.{pins_on}
use Rattle.user_memory_rows.specs.Shown.{FramesShown}
use Rattle.server_state.proofs.TablesFollow.{tables_follow}
use Rattle.server_state.specs.Shows.{Shows}
use Rattle.server_state.specs.declared.state.State.{State}
use Rattle.page_table_words.specs.Rows.{MappedPage}
use Rattle.user_memory.specs.Memory.{Memory, reached}
use Rattle.iofd_runs.proofs.PassFound.{contained_map}
use Rattle.iofd_runs.proofs.PinnedAccess.{some_outcome}
use Rattle.iofd_rows.proofs.Found.{found_passes as found_holds}
use Rattle.server_state.specs.Choice.{WriteChosen, is_denial, without_cache, first_of}
use Rattle.event_device_access.specs.Outcomes.{chosen_outcome}
use Rattle.server_state.specs.Step.{IsTidy}

-- ---- what is given without a cached frame

found_contained : {X : Type 0} (p : X → Bool) (xs : List X) (x : X) → find p xs ≡ Some x → Contains xs x
found_contained p [] x found = cc
found_contained p (y ∷ xs) x found = by_test (p y) found (λ later. found_contained p xs x later)
  where
    by_test : (b : Bool) → cond b (Some y) (find p xs) ≡ Some x → (find p xs ≡ Some x → Contains xs x)
        → Contains (y ∷ xs) x
    by_test true found later = let same : y ≡ x = cc in (0, omega arith, same)
    by_test false found later = let rest = later found in (suc rest.0, omega (arith, rest.1), rest.2)

-- the denial among those that may come of it, or else the first
pub record IsGiven (os : List Outcome) (o : Outcome) : Type 0 where
  pub uncached : without_cache os ≡ Some o
  pub lawful : Contains os o
  pub denial : is_some (find is_denial os) ≡ true → is_denial o ≡ true

pub given_is : (os : List Outcome) (o : Outcome) → (os ≡ [] → ⊥) → o ≡ chosen_outcome None os → IsGiven os o
given_is os o some is = by_denial (find is_denial os) refl
  where
    told : (x : Option Outcome) → without_cache os ≡ x
        → o ≡ elim x [ Some outcome ↦ outcome | None ↦ Denied WriteDenied ]
    told x uncached = is ∙ ap (λ (y : Option Outcome). elim y as (λ _. Outcome) [
      | Some outcome ↦ outcome
      | None ↦ Denied WriteDenied
    ]) uncached

    by_first : (xs : List Outcome) → os ≡ xs → find is_denial os ≡ None → IsGiven os o
    by_first [] same none = absurd (some same)
    by_first (x ∷ xs) same none =
        let uncached : without_cache os ≡ Some x =
        ap (λ (found : Option Outcome). elim found as (λ _. Option Outcome) [
          | Some denial ↦ Some denial
          | None ↦ first_of os
        ]) none ∙ ap first_of same in
        let here : o ≡ x = told (Some x) uncached in
        record {
          uncached = uncached ∙ ap Some (sym here);
          lawful = subst (λ l. Contains l o) (sym same) (0, omega arith, sym here);
          denial = λ has. absurd (never (ap (λ (y : Option Outcome). is_some y) (sym none) ∙ has));
        }
      where
        never : false ≡ true → ⊥
        never is = cc

    by_denial : (x : Option Outcome) → find is_denial os ≡ x → IsGiven os o
    by_denial None none = by_first os refl none
    by_denial (Some d) found =
        let uncached : without_cache os ≡ Some d =
        ap (λ (first : Option Outcome). elim first as (λ _. Option Outcome) [
          | Some denial ↦ Some denial
          | None ↦ first_of os
        ]) found in
        let here : o ≡ d = told (Some d) uncached in
        record {
          uncached = uncached ∙ ap Some (sym here);
          lawful = rw here (found_contained is_denial os d found);
          denial = λ has. rw here (in_found is_denial os d found).1;
        }

holds_of_contained : {X : Type 0} (p : X → Bool) (xs : List X) (x : X) → list_all p xs ≡ true → Contains xs x
    → p x ≡ true
holds_of_contained p [] x all has = absurd (omega (arith, has.1))
holds_of_contained p (y ∷ xs) x all (zero, below, same) =
    let parts = and_true (p y) (list_all p xs) all in subst (λ z. p z ≡ true) same parts.0
holds_of_contained p (y ∷ xs) x all (suc k, below, same) =
    let parts = and_true (p y) (list_all p xs) all in holds_of_contained p xs x parts.1 (k, omega (arith, below), same)

-- ---- the answer

-- a cached frame is one at which the policy lets the write pass
abbrev MayPass : List Outcome → Option FrameNo → Type 0
MayPass lawful None = Unit {0}
MayPass lawful (Some frame) = Contains lawful (Passes frame)

pub chosen_answer : (at : ℕ) (w : World) (device : DeviceNo) (iova : Iova) (via : Option FrameNo) (o : Outcome)
    → IsTidy at w → o ≡ chosen_outcome via (outcomes w device iova.0 Write)
    → MayPass (outcomes w device iova.0 Write) via
    → Contains (outcomes w device iova.0 Write) o
    × Contains (map (write_reply w device iova.0) (outcomes w device iova.0 Write)) (write_reply w device iova.0 o)
    × WriteChosen (without_cache (outcomes w device iova.0 Write)) via (write_reply w device iova.0)
    (write_reply w device iova.0 o)
chosen_answer at w device iova None o tidy is may =
    let given =
    given_is (outcomes w device iova.0 Write) o (some_outcome at w device iova.0 Write tidy.pins tidy.fit) is in (
      given.lawful,
      contained_map (write_reply w device iova.0) (outcomes w device iova.0 Write) o given.lawful,
      ap (option_map (write_reply w device iova.0)) given.uncached,
    )
chosen_answer at w device iova (Some frame) o tidy is may =
    let has = subst (Contains (outcomes w device iova.0 Write)) (sym is) may in (
      has,
      contained_map (write_reply w device iova.0) (outcomes w device iova.0 Write) o has,
      ap (write_reply w device iova.0) is,
    )

-- ---- it passes at the frame of a pin

abbrev passes_at_such : (FrameNo → Bool) → Outcome → Bool
passes_at_such test (Passes frame) = test frame
passes_at_such test (Denied reason) = true

-- what holds of the frame of each pin
module _ (w : World) (test : FrameNo → Bool) (pin_frames : list_all (λ (pin : Pin). test pin.frame) w.pins ≡ true) where
  pinned_such : (page : ObjectPage) (frame : FrameNo) → pinned_frame w.pins page ≡ Some frame → test frame ≡ true
  pinned_such page frame pinned = by_found (find (λ (pin : Pin). is_page (page_of_pin pin) page) w.pins) refl
    where
      none : None ≡ Some frame → ⊥
      none is = cc

      by_found : (o : Option Pin) → find (λ (pin : Pin). is_page (page_of_pin pin) page) w.pins ≡ o → test frame ≡ true
      by_found None found = absurd (none (rw (found, pinned_frame) at pinned))
      by_found (Some pin) found =
          let same : Some pin.frame ≡ Some frame = rw (found, pinned_frame) at pinned in
          let is : pin.frame ≡ frame = cc in
          rw (← is) (found_holds (λ (p : Pin). test p.frame) (λ (p : Pin). is_page (page_of_pin p) page)
          w.pins pin pin_frames found).0

  passing_such : (area : Area) (address : ℕ)
      → list_all (passes_at_such test) (passing (pinned_frame w.pins (page_in area address))) ≡ true
  passing_such area address = by_frame (pinned_frame w.pins (page_in area address)) refl
    where
      by_frame : (o : Option FrameNo) → pinned_frame w.pins (page_in area address) ≡ o
          → list_all (passes_at_such test) (passing (pinned_frame w.pins (page_in area address))) ≡ true
      by_frame None pinned = rw (pinned, passing) refl
      by_frame (Some frame) pinned =
          rw (pinned, passing) (both_true _ _ (pinned_such (page_in area address) frame pinned) refl)

  phase_such : (device : DeviceNo) (phase : Phase) (pass : List Outcome) (reason : _)
      → list_all (passes_at_such test) pass ≡ true
      → list_all (passes_at_such test) (by_phase device phase pass (Denied reason ∷ [])) ≡ true
  phase_such device Live pass reason all = all
  phase_such device (Leaving owed tries) pass reason all = by_test (has_device owed device.0)
    where
      by_test : (b : Bool) → list_all (passes_at_such test)
          (cond b (pass ++ Denied reason ∷ []) (Denied reason ∷ [])) ≡ true
      by_test true = list_all-append (passes_at_such test) pass (Denied reason ∷ []) ∙ both_true _ _ all refl
      by_test false = refl

  area_such : (device : DeviceNo) (address : ℕ) (kind : AccessKind) (o : Option Area)
      → list_all (passes_at_such test) (at_area (pinned_frame w.pins) device address kind o) ≡ true
  area_such device address kind None = refl
  area_such device address kind (Some area) = by_right (has_right area.rights kind)
    where
      by_right : (b : Bool) → list_all (passes_at_such test)
          (cond b (by_phase device area.phase (passing (pinned_frame w.pins (page_in area address)))
          (Denied (denied_by kind) ∷ [])) (Denied (denied_by kind) ∷ [])) ≡ true
      by_right true = phase_such device area.phase (passing (pinned_frame w.pins (page_in area address)))
          (denied_by kind) (passing_such area address)
      by_right false = refl

  translated_such : (device : DeviceNo) (address : ℕ) (kind : AccessKind) (a : Attachment)
      → list_all (passes_at_such test) (translated (view w) device address kind a) ≡ true
  translated_such device address kind a = by_space (ioas_of_attachment w.objects a) refl
    where
      by_space : (o : Option ObjId) → ioas_of_attachment w.objects a ≡ o
          → list_all (passes_at_such test) (translated (view w) device address kind a) ≡ true
      by_space None space = rw (space, translated) refl
      by_space (Some ioas) space =
          rw (space, translated) (area_such device address kind (area_at address (areas_of w.areas a.file ioas)))

  within_such : (o : Option DeviceSettings) (address : ℕ) (reason : _) (within : List Outcome)
      → list_all (passes_at_such test) within ≡ true
      → list_all (passes_at_such test) (by_width o address (Denied reason ∷ []) within) ≡ true
  within_such None address reason within all = all
  within_such (Some device) address reason within all = by_test (leb (2 ^ bits_of device.width) address)
    where
      by_test : (b : Bool) → list_all (passes_at_such test) (cond b (Denied reason ∷ []) within) ≡ true
      by_test true = refl
      by_test false = all

  outcomes_such : (device : DeviceNo) (address : ℕ) (kind : AccessKind)
      → list_all (passes_at_such test) (outcomes w device address kind) ≡ true
  unfolding outcomes access_outcomes
  outcomes_such device address kind = by_attachment (attachment_of w.attachments device) refl
    where
      by_attachment : (o : Option Attachment) → attachment_of w.attachments device ≡ o
          → list_all (passes_at_such test) (outcomes w device address kind) ≡ true
      by_attachment None found = rw (found, outcomes, access_outcomes) refl
      by_attachment (Some a) found = rw (
        found,
        outcomes,
        access_outcomes,
      ) (within_such (device_of w.settings device) address BeyondWidth
          (translated (view w) device address kind a) (translated_such device address kind a))

  pass_such : (device : DeviceNo) (address : ℕ) (kind : AccessKind) (frame : FrameNo)
      → Contains (outcomes w device address kind) (Passes frame) → test frame ≡ true
  pass_such device address kind frame has =
      holds_of_contained (passes_at_such test) (outcomes w device address kind) (Passes frame)
      (outcomes_such device address kind) has

-- it is one of the pool
pub pass_in_pool : (w : World) (pin_frames : list_all (λ (pin : Pin). ltb pin.frame.0 w.settings.pool) w.pins ≡ true)
    (device : DeviceNo) (address : ℕ) (kind : AccessKind) (frame : FrameNo)
    → Contains (outcomes w device address kind) (Passes frame) → frame.0 < w.settings.pool
pass_in_pool w pin_frames device address kind frame has =
    let below = pass_such w (λ (f : FrameNo). ltb f.0 w.settings.pool) pin_frames device address kind frame has in
    search (below, arith, nat_tests)

-- and a pin names it
pub pass_named : {A : Type 0} (w : World) (s : State A) → Shows w s
    → (device : DeviceNo) (address : ℕ) (kind : AccessKind) (frame : FrameNo)
    → Contains (outcomes w device address kind) (Passes frame) → 0 < reached s.memory frame.0
pass_named w s shows device address kind frame has =
    let named = pass_such w (λ (f : FrameNo). list_any (λ (pin : Pin). eqb pin.frame.0 f.0) w.pins) each device
    address kind frame has in
    let counted : ltb 0 (pins_on s.memory.objects frame.0) ≡ true = sym (shows.pins.names frame.0) ∙ named in
    let some : 0 < pins_on s.memory.objects frame.0 = search (counted, arith, nat_tests) in
    omega (arith, some)
  where
    own : (n : ℕ) → eqb n n ≡ true
    own n = grind (arith, nat_tests)

    each : list_all (λ (pin : Pin). list_any (λ (other : Pin). eqb other.frame.0 pin.frame.0) w.pins) w.pins ≡ true
    each = of_all (λ (pin : Pin). list_any (λ (other : Pin). eqb other.frame.0 pin.frame.0) w.pins) w.pins
        (λ pin within. of_any (λ (other : Pin). eqb other.frame.0 pin.frame.0) w.pins pin within (own pin.frame.0))

-- ---- page tables

-- bytes that are written to a frame that is named leave all page tables
pub tables_written : (pool : ℕ) (writes others : List FrameWrite) (frames : List TableFrame) (leads : Object → ℕ
    → Option MappedPage) (tables : List Hwpt) (memory : Memory) (before : FramePool) (frame
    offset : ℕ) (bytes : List ℕ)
    → AllStand before frames leads tables → FramesShown pool writes frames memory before
    → FramesShown pool others frames memory (written before frame offset bytes)
    → 0 < reached memory frame → AllStand (written before frame offset bytes) frames leads tables
tables_written pool writes others frames leads tables memory before frame offset bytes stand shown after named =
    tables_follow pool writes others frames leads tables memory memory before
    (written before frame offset bytes) stand shown after
    (λ f held some. some)
    (λ f held none. get_or-set_other before.bytes frame f
    (splice (bytes_of before frame) offset (offset + length bytes) bytes) [] (differs f none))
  where
    differs : (f : ℕ) → reached memory f ≡ 0 → f ≢ frame
    differs f none same = let here : reached memory frame ≡ 0 = rw same at none in omega (arith, here, named)
