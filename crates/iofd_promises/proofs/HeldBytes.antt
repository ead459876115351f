-- The bytes that an access object reads and writes through its pins.
use Rattle.std.proofs.Common.{◌≡◌, ◌≤◌, ℕ, ◌-◌, ◌/◌, ◌%◌, Bool, true, ◌&&◌, leb, Option, Some, None, List}
use Rattle.std.proofs.Common.{[], ◌∷◌, Contains, refl, ap, sym, ◌∙◌, arith}
use Rattle.std.specs.List.{find}
use Rattle.std.proofs.lemmas.Bool.Decides.{nat_tests}
use Rattle.iofd_promises.proofs.Bytes.{are_bytes, reads_others, reads_written}
use Rattle.iofd_promises.proofs.KeptPinned.{covers_it}
use Rattle.iofd_promises.proofs.Rows.{contains}
use Rattle.iofd_promises.specs.Bytes.{AreBytesOf, ChangesJust}
use Rattle.iofd_promises.specs.Holding.{ReachesByPin}
use Rattle.iofd_rows.proofs.Bools.{and_true}
use Rattle.iofd_rows.proofs.Contained.{contained_in_one}
use Rattle.iofd_rows.proofs.Each.{IsIn, in_found}
use Rattle.iofd_rows.proofs.PageLists.{same_page}
use Rattle.iofd_rows.specs.Pinned.{ArePinned}
use Rattle.iofd_runs.proofs.AccessesPassed.{access_write_passed, held_access_passed}
use Rattle.iofd_runs.proofs.HeldAccess.{ReachesHeld, reaches_held}
use Rattle.iofd_runs.specs.Fits.{RowsFit}
use Rattle.iofd_runs.specs.PinsFit.{AccessPinsFit}
use Rattle.iofd_words.specs.Accesses.{accessed_frame}
use Rattle.iofd_steps.specs.After.{changed}
use Rattle.iofd_refusals.specs.Checks.{held_access_checks, refusal}
use Rattle.iofd_words.specs.FirstTrue.{first_true}
use Rattle.iofd_words.specs.Frames.{bytes_at}
use Rattle.iofd_steps.specs.Look.{answers_in, lawful_answers, page_bytes}
use Rattle.iofd_words.specs.Pins.{ObjectPage, allows, is_page, page_of_pin, pinned_frame}
use Rattle.iofd_words.specs.Policy.{page_in}
use Rattle.iofd_words.specs.Record.{Record}
use Rattle.iofd_words.specs.View.{view}
use Rattle.iofd_words.specs.World.{World}
use Rattle.iofd_words.specs.declared.event.Event.TheVariants as event
use Rattle.iofd_words.specs.declared.fault.AccessKind.{AccessKind}
use Rattle.iofd_words.specs.declared.fault.AccessKind.TheVariants.{Read, Write}
use Rattle.iofd_words.specs.declared.numbers.FileNo.{FileNo}
use Rattle.iofd_words.specs.declared.numbers.FrameNo.{FrameNo}
use Rattle.iofd_words.specs.declared.numbers.Iova.{Iova}
use Rattle.iofd_words.specs.declared.numbers.ObjId.{ObjId}
use Rattle.iofd_words.specs.declared.query.Answer.TheVariants as answer
use Rattle.iofd_words.specs.declared.query.Query.TheVariants.{AccessRead}
use Rattle.iofd_words.specs.declared.refusal.Cause.{Cause}
use Rattle.iofd_words.specs.declared.reply.Reply.TheVariants as reply
use Rattle.iofd_words.specs.declared.rows.Pin.{Pin}

-- the row of a page's pin, by its frame
row_at : (pins : List Pin) (page : ObjectPage) (frame : FrameNo) → pinned_frame pins page ≡ Some frame
    → (pin : Pin) × IsIn pins pin × (page_of_pin pin ≡ page) × (pin.frame ≡ frame)
row_at pins page frame is = by_found (find (λ pin. is_page (page_of_pin pin) page) pins) refl is
  where
    by_found : (o : Option Pin) → find (λ pin. is_page (page_of_pin pin) page) pins ≡ o
        → elim o as (λ _. Option FrameNo) [ Some pin ↦ Some pin.frame | None ↦ None ] ≡ Some frame
        → (pin : Pin) × IsIn pins pin × (page_of_pin pin ≡ page) × (pin.frame ≡ frame)
    by_found None found is = cc
    by_found (Some pin) found is =
        let (among, passes) = in_found (λ pin. is_page (page_of_pin pin) page) pins pin found in
        (pin, among, same_page (page_of_pin pin) page passes, cc)

held_right : (write : Bool) (access : AccessKind) → allows write access ≡ true → access ≡ Write → write ≡ true
held_right write Write is same = is
held_right write Read is same = cc

-- in the promise's words
pub reaches_by_pin : (w : World) (file : FileNo) (id : ObjId) (address : ℕ) (access : AccessKind)
    → (reach : ReachesHeld w file id address access) → ReachesByPin w file id address access reach.frame
reaches_by_pin w file id address access reach =
    let by = reach.by in
    let area = reach.under.area in
    let (pin, among, same, at_frame) = row_at w.pins (page_in area address) reach.frame reach.pinned in
    let covers = covers_it w by.pin area ((address - area.span.first) / 4096) by.among reach.covers in
    record {
      held = by.pin;
      of_file = by.of_file;
      of_access = by.of_id;
      from = (ends by.pin.span.first by.pin.span.last by.over).0;
      to = (ends by.pin.span.first by.pin.span.last by.over).1;
      right = held_right by.pin.write access by.right;
      under = record {
        area = area;
        there = contains w.areas area reach.under.within;
        of_file = sym covers.of_file;
        held = covers.held;
        first = (ends area.span.first area.span.last reach.under.lies).0;
        last = (ends area.span.first area.span.last reach.under.lies).1;
      };
      pin = pin;
      pinned = contains w.pins pin among;
      object = ap (λ (q : ObjectPage). q.memory) same;
      page = ap (λ (q : ObjectPage). q.index) same;
      frame_is = at_frame;
    }
  where
    ends : (first last : ℕ) → (leb first address && leb address last) ≡ true → (first ≤ address) × (address ≤ last)
    ends first last here =
        let parts = and_true (leb first address) (leb address last) here in
        (let is = parts.0 in search (is, arith, nat_tests), let is = parts.1 in search (is, arith, nat_tests))

module _ (at : ℕ) (w : World) (p : ArePinned at w) (fits : RowsFit w) (pins : AccessPinsFit w) where
  -- ---- a write

  pub held_changes : (A : Type 0) (position : ℕ) (file : FileNo) (id : ObjId) (iova : Iova) (bytes : List ℕ)
      → refusal {A = A} w (event.AccessWrite file id iova bytes) ≡ None
      → (frame : FrameNo) × ReachesByPin w file id iova.0 Write frame
      × ChangesJust w (changed {A = A} position w (event.AccessWrite file id iova bytes) reply.Done)
      frame.0 (iova.0 % 4096) bytes
  unfolding changed
  held_changes A position file id iova bytes none =
      let passed = access_write_passed (view w) file id iova bytes none in
      let reach = reaches_held at w p fits pins file id iova.0 Write passed.right in (
        reach.frame,
        reaches_by_pin w file id iova.0 Write reach,
        rw reach.frame_is (record {
          written = reads_written w.writes reach.frame.0 (iova.0 % 4096) bytes;
          others = reads_others w.writes reach.frame.0 (iova.0 % 4096) bytes;
        }),
      )

  -- ---- a read

  pub held_reads : {A : Type 0} (records : List (Record A)) (file : FileNo) (id : ObjId) (iova : Iova) (len : ℕ)
      (bytes : List ℕ) → Contains (answers_in w records (AccessRead file id iova len)) (answer.Read bytes)
      → (frame : FrameNo) × ReachesByPin w file id iova.0 Read frame
      × AreBytesOf w frame.0 (iova.0 % 4096) len bytes
  unfolding answers_in
  held_reads records file id iova len bytes has =
      by_refusal (first_true (held_access_checks (view w) file id iova len Read)) refl has
    where
      Reads : Type 0
      Reads = (frame : FrameNo) × ReachesByPin w file id iova.0 Read frame
          × AreBytesOf w frame.0 (iova.0 % 4096) len bytes

      refused : (cause : Cause) → answer.Refused (record { cause = cause }) ≡ answer.Read bytes → ⊥
      refused cause is = cc

      by_frame : (reach : ReachesHeld w file id iova.0 Read) (o : Option FrameNo)
          → accessed_frame (view w) file id iova.0 ≡ o
          → Contains (page_bytes w iova.0 len o) (answer.Read bytes) → Reads
      by_frame reach None is has = let never = sym is ∙ reach.frame_is in cc
      by_frame reach (Some frame) is has =
          let same =
          contained_in_one (answer.Read (bytes_at w.writes frame.0 (iova.0 % 4096) len)) (answer.Read bytes) has in
          let bytes_are : bytes_at w.writes frame.0 (iova.0 % 4096) len ≡ bytes = cc in
          let found : frame ≡ reach.frame = let both = sym is ∙ reach.frame_is in cc in (
            reach.frame,
            reaches_by_pin w file id iova.0 Read reach,
            rw (← found, ← bytes_are) (are_bytes w frame.0 (iova.0 % 4096) len),
          )

      by_refusal : (o : Option Cause) → first_true (held_access_checks (view w) file id iova len Read) ≡ o
          → Contains
          (elim o [
            | Some cause ↦ answer.Refused (record { cause = cause }) ∷ []
            | None ↦ lawful_answers w records (AccessRead file id iova len)
          ]) (answer.Read bytes) → Reads
      by_refusal (Some cause) is has = absurd (refused cause (contained_in_one _ _ has))
      by_refusal None is has =
          let passed = held_access_passed (view w) file id iova len Read is in
          by_frame (reaches_held at w p fits pins file id iova.0 Read passed.held)
          (accessed_frame (view w) file id iova.0) refl has
