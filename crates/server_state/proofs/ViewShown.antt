-- What is kept gives the view of the world that is shown: so the same refuses an event, and the same may come of an
-- access.
use Rattle.std.proofs.Common.{◌≡◌, ℕ, ◌+◌, Bool, List, Option, Some, None, true, false, ◌&&◌, not, sym, ap, refl}
use Rattle.std.proofs.Common.{eqb}
use Rattle.std.proofs.Common.{leb, ◌∙◌}
use Rattle.std.specs.List.{find, list_all, list_any, range_with_len}
use Rattle.std.proofs.Math.Path.{fun_ext}
use Rattle.iofd_words.specs.Allowed.{allowed_of}
use Rattle.iofd_words.specs.Areas as area
use Rattle.iofd_refusals.specs.Checks.{checks, refusal}
use Rattle.dirty_bitmap.specs.Tracking.{is_tracked}
use Rattle.iofd_words.specs.Dirty as dirty
use Rattle.iofd_words.specs.Files as file
use Rattle.iofd_words.specs.Frames as frame
use Rattle.iofd_words.specs.Pages.{page_of}
use Rattle.iofd_words.specs.Pins as pin
use Rattle.iofd_words.specs.Pins.{ObjectPage}
use Rattle.iofd_words.specs.Bounds.{Bounds}
use Rattle.iofd_words.specs.Span.{holds, meets}
use Rattle.iofd_words.specs.declared.fault.AccessKind.TheVariants.{Read, Write}
use Rattle.iofd_words.specs.declared.rows.AccessPin.{AccessPin}
use Rattle.held_pins.specs.HeldPins as pins
use Rattle.held_pins.specs.declared.pin.HeldPin.{HeldPin}
use Rattle.server_state.specs.AccessPins.{row_of}
use Rattle.server_state.proofs.AccessPinsStay.{any_kept, any_same}
use Rattle.iofd_words.specs.declared.numbers.FrameNo.{FrameNo}
use Rattle.iofd_words.specs.declared.numbers.UserNo.{UserNo}
use Rattle.iofd_words.specs.declared.rows.MemoryObject.{MemoryObject}
use Rattle.frame_memory.specs.Pool.{free_count, least_free}
use Rattle.user_memory_rows.proofs.FramesFollow.{free_count_alike, least_alike}
use Rattle.user_memory.specs.Memory as kept
use Rattle.iofd_words.specs.FirstTrue.{first_true}
use Rattle.iofd_steps.specs.Look.{query_checks}
use Rattle.iofd_words.specs.Objects as object
use Rattle.iofd_words.specs.Policy.{access_outcomes, outcomes}
use Rattle.iofd_words.specs.TablePlaces.{has_table}
use Rattle.iofd_words.specs.Tables.{is_orphan}
use Rattle.iofd_words.specs.View.{View, view}
use Rattle.iofd_words.specs.World.{World}
use Rattle.iofd_words.specs.declared.event.Event.{Event}
use Rattle.iofd_words.specs.declared.fault.AccessKind.{AccessKind}
use Rattle.iofd_words.specs.declared.numbers.DeviceNo.{DeviceNo}
use Rattle.iofd_words.specs.declared.query.Query.{Query}
use Rattle.page_table_set.specs.Kept.{has_kept}
use Rattle.server_state.proofs.TablesTold.{tables_told}
use Rattle.server_state.specs.Held.{areas_at}
use Rattle.server_state.specs.Seen.{seen}
use Rattle.server_state.specs.Shows.{Shows}
use Rattle.server_state.specs.declared.state.State.{State}
use Rattle.object_table.specs.Table as table
use Rattle.iofd_words.specs.declared.numbers.FileNo.{FileNo}
use Rattle.iofd_words.specs.declared.numbers.ObjId.{ObjId}

-- the access object holds as many pins as it may, and one that equals this is held
abbrev full_among : List HeldPin → FileNo → ObjId → Bool
full_among kept file access = leb pin.most_pins (pins.count_of kept file access)

abbrev equal_among : List HeldPin → AccessPin → Bool
equal_among kept row = list_any (λ (p : HeldPin). pin.is_equal row (row_of p)) kept

module _ {A : Type 0} (w : World) (s : State A) (shows : Shows w s) where
  -- a test of access pins finds the same among those that are kept
  any_pin : (test : AccessPin → Bool) → list_any test w.access_pins ≡ list_any (λ p. test (row_of p)) s.access_pins
  any_pin = any_kept w.objects w.access_pins s.access_pins shows.access_pins

  covered : (f : FileNo) (i : ObjId) (n : ℕ) (k : AccessKind)
      → pins.is_covered s.access_pins f i n k ≡ pin.is_covered w.access_pins f i n k
  covered f i n k =
      any_same _ _ s.access_pins (λ p.
      grouped (pin.is_of_access f i (row_of p)) (holds p.span n) (pins.allows p.write k)
      ∙ ap (λ b. pin.is_of_access f i (row_of p)
      && (holds p.span n && b)) (allowed_so p.write k))
      ∙ sym (any_pin (λ p. pin.is_of_access f i p && (holds p.span n && pin.allows p.write k)))
    where
      grouped : (a b c : Bool) → (a && b && c) ≡ (a && (b && c))
      grouped true b c = refl
      grouped false b c = refl

      allowed_so : (write : Bool) (k : AccessKind) → pins.allows write k ≡ pin.allows write k
      allowed_so write Read = refl
      allowed_so write Write = refl

  met : (f : FileNo) (i : ObjId) (span : Bounds)
      → pins.are_own_met s.access_pins f i span ≡ pin.meets_pin w.access_pins f i span
  met f i span =
      any_same _ _ s.access_pins (λ p. flipped (pin.is_of_access f i (row_of p)) (leb p.span.first span.last)
      (leb span.first p.span.last))
      ∙ sym (any_pin (λ p. pin.is_of_access f i p && meets span p.span))
    where
      flipped : (a b c : Bool) → (a && (b && c)) ≡ (a && (c && b))
      flipped true true true = refl
      flipped true true false = refl
      flipped true false true = refl
      flipped true false false = refl
      flipped false b c = refl

  -- as many frames are free
  pub same_count : free_count s.pool.holds ≡ frame.free_count w.settings.pool w.user_pages w.pins w.table_frames
  same_count =
      sym
      (free_count_alike w.settings.pool w.writes w.table_frames w.user_pages w.objects w.areas w.memory w.pins
      w.access_pins s.memory s.pool shows.users shows.pins shows.frames)

  -- and the least is the same
  pub same_least : find (frame.is_free w.settings.pool w.user_pages w.pins w.table_frames)
      (range_with_len 0 w.settings.pool) ≡ least_free s.pool.holds
  same_least =
      least_alike w.settings.pool w.writes w.table_frames w.user_pages w.objects w.areas w.memory w.pins
      w.access_pins s.memory s.pool shows.users shows.pins shows.frames

  -- the page tables that are there have their rows
  module _ (owned : list_all (λ table. not (is_orphan w.objects table)) w.table_frames ≡ true) where
    pub same_view : seen s ≡ view w
    same_view =
        let is_open : table.is_open s.objects ≡ file.is_open w.settings w.closed = fun_ext shows.objects.files in
        let bindings : object.binding_of s.bindings.items ≡ object.binding_of w.objects =
        fun_ext (λ d. sym (shows.devices.bindings d)) in
        let areas : areas_at s.objects.rows ≡ area.areas_of w.areas =
        fun_ext (λ f. fun_ext (λ ioas. sym (shows.objects.spaces f ioas))) in
        let allowed : allowed_of s.allowed.rows ≡ allowed_of w.allowed =
        fun_ext (λ f. fun_ext (λ ioas. sym (shows.allowed f ioas))) in
        let pinned : kept.pinned_frame s.memory ≡ pin.pinned_frame w.pins =
        fun_ext (λ page. sym (shows.pins.frames page)) in
        let pages : frame.frame_at s.memory.pages ≡ frame.frame_at w.user_pages =
        fun_ext (λ user. fun_ext (λ page. sym (shows.users.pages user page))) in
        let now : kept.frame_now s.memory ≡ pin.frame_now w.memory w.user_pages =
        fun_ext (λ page.
        ap (λ (rows : List MemoryObject). pin.frame_now rows s.memory.pages page) (sym shows.pins.rows)
        ∙ ap (λ (at : UserNo → ℕ → Option FrameNo). elim (find (λ (m : MemoryObject). eqb m.number page.memory)
        w.memory) as (λ _. Option FrameNo) [ Some m ↦ at m.user (page_of m.va + page.index) | None ↦ None ]) pages)
        in
        let told : has_kept s.pool s.page_tables.tables ≡ has_table w.table_frames =
        fun_ext (λ f. fun_ext (λ i. fun_ext (tables_told w s.page_tables s.pool shows.tables owned f i))) in
        let tracked : is_tracked s.dirty ≡ dirty.tracks w.tracked =
        fun_ext (λ f. fun_ext (λ i. sym (shows.dirty.tracks f i))) in
        let held : kept.held_by s.memory ≡ pin.held_by (pin.pinned_frame w.pins) w.memory =
        fun_ext (λ user.
        ap (λ (rows : List MemoryObject). pin.held_by (kept.pinned_frame s.memory) rows user) (sym shows.pins.rows)
        ∙ ap (λ (at : ObjectPage → Option FrameNo). pin.held_by at w.memory user) pinned)
        in
        let holders : pins.holds_some s.access_pins ≡ pin.holds_pin w.access_pins =
        fun_ext (λ f. fun_ext (λ i. sym (any_pin (pin.is_of_access f i)))) in
        let full : full_among s.access_pins ≡ pin.has_most_pins w.access_pins =
        fun_ext (λ f. fun_ext (λ i. ap (leb pin.most_pins) (sym (shows.access_pins.counts (pin.is_of_access f i))))) in
        let same : equal_among s.access_pins ≡ pin.is_held w.access_pins =
        fun_ext (λ p. sym (any_pin (pin.is_equal p))) in
        let covers : pins.is_covered s.access_pins ≡ pin.is_covered w.access_pins =
        fun_ext (λ f. fun_ext (λ i. fun_ext (λ n. fun_ext (λ k. covered f i n k)))) in
        let meet : pins.are_own_met s.access_pins ≡ pin.meets_pin w.access_pins =
        fun_ext (λ f. fun_ext (λ i. fun_ext (λ span. met f i span))) in
        rw (
          is_open,
          bindings,
          areas,
          allowed,
          held,
          now,
          pinned,
          pages,
          same_count,
          told,
          tracked,
          holders,
          full,
          same,
          covers,
          meet,
          ← shows.settings,
          ← shows.objects.rows,
          ← shows.devices.attached,
          ← shows.pins.rows,
        )
        refl

    -- what refuses an event is what refuses it in the world
    pub same_refusal : {E : Type 0} → (e : Event E) → first_true (checks (seen s) e) ≡ refusal w e
    same_refusal e = ap (λ (v : View). first_true (checks v e)) same_view

    -- and a question
    pub same_query_refusal : (q : Query) → first_true (query_checks (seen s) q) ≡ first_true (query_checks (view w) q)
    same_query_refusal q = ap (λ (v : View). first_true (query_checks v q)) same_view

    -- what may come of an access is what may come of it in the world
    pub same_outcomes : (device : DeviceNo) (address : ℕ) (kind : AccessKind)
        → access_outcomes (seen s) device address kind ≡ outcomes w device address kind
    unfolding outcomes
    same_outcomes device address kind = ap (λ (v : View). access_outcomes v device address kind) same_view
