-- Areas are of whole pages and give some right, attachments rise by device, frames are of the pool, and objects and
-- devices are known.
use Rattle.std.proofs.Common.{◌≡◌, ℕ, ◌+◌, ◌<◌, ◌≤◌, ◌^◌, Bool, true, false, cond, ◌&&◌, ◌||◌, not, eqb, ltb, is_some}
use Rattle.std.proofs.Common.{Option, Some, None, List, [], ◌∷◌, refl, arith, ◌++◌, ap, sym, leb, ◌∙◌}
use Rattle.std.specs.List.{filter, list_all, find, filter_map, list_any}
use Rattle.std.proofs.lemmas.Bool.Decides.{nat_tests}
use Rattle.iofd_steps.specs.After.{changed, mapped_area, settle}
use Rattle.iofd_steps.specs.Answers.{Answers}
use Rattle.iofd_words.specs.Attachments.{attachment_of, has_lower_device, with_attachment}
use Rattle.iofd_refusals.specs.Checks.{refusal}
use Rattle.iofd_runs.specs.Fits.{RowsFit, begins_at_page, devices_rise, has_rights, is_of_pages, is_known_device}
use Rattle.iofd_words.specs.Frames.{frame_at}
use Rattle.iofd_words.specs.Pages.{is_above_user, is_whole, page_of}
use Rattle.iofd_words.specs.Pins.{ObjectPage, frame_now, is_page, pin_now, settled}
use Rattle.iofd_words.specs.Rights.{is_readable, is_writeable}
use Rattle.iofd_words.specs.Span.{size_of, span_from}
use Rattle.iofd_words.specs.Tables.{with_tables}
use Rattle.iofd_words.specs.View.{view}
use Rattle.iofd_words.specs.World.{World}
use Rattle.iofd_words.specs.declared.event.Event.{Event}
use Rattle.iofd_words.specs.declared.event.MapRequest.{MapRequest}
use Rattle.iofd_words.specs.declared.numbers.FileNo.{FileNo}
use Rattle.iofd_words.specs.declared.numbers.FrameNo.{FrameNo}
use Rattle.iofd_words.specs.declared.numbers.Iova.{Iova}
use Rattle.iofd_words.specs.declared.numbers.UserNo.{UserNo}
use Rattle.iofd_words.specs.declared.reply.Reply.{Reply}
use Rattle.iofd_words.specs.declared.rows.Attachment.{Attachment}
use Rattle.iofd_words.specs.declared.rows.MemoryObject.{MemoryObject}
use Rattle.iofd_words.specs.declared.rows.Pin.{Pin}
use Rattle.iofd_words.specs.declared.rows.UserPage.{UserPage}
use Rattle.iofd_words.specs.Files.{is_device, is_open}
use Rattle.iofd_words.specs.Objects.{comes_before}
use Rattle.iofd_rows.proofs.Bools.{and_true, both_true}
use Rattle.iofd_rows.proofs.Each.{of_each}
use Rattle.iofd_rows.proofs.Found.{all_filter, found_passes}
use Rattle.iofd_rows.proofs.Inserted.{all-inserted}
use Rattle.iofd_rows.proofs.Accesses.{all_reattached}
use Rattle.iofd_runs.proofs.Known.{bound_known, is_known, known_closed, are_attached}
use Rattle.iofd_runs.proofs.Moves.{AttachmentsMove, Closes, Fewer, FewerAttachments, FewerPages, FilesMove, MemoryMoves}
use Rattle.iofd_runs.proofs.Moves.{MemoryUnder, More, NewMemory, ObjectsMove, OneAttachment, OnePage, PinsMove, Same}
use Rattle.iofd_runs.proofs.Moves.{SameAttachments, SameMemory, SamePins, Settled, SharedMemory, StayOpen, Written}
use Rattle.iofd_runs.proofs.Moves.{changed_moves, all_areas, Reattached}
use Rattle.iofd_runs.proofs.NotRefused.{PlacePassed}

-- ---- a span of a length has that many numbers

from_size : (first length : ℕ) → eqb length 0 ≡ false → size_of (span_from first length) ≡ length
from_size first length some = let above : 0 < length = search (some, arith, nat_tests) in omega (arith, above)

-- ---- one more area

short_length : (va length : ℕ) → is_above_user va length ≡ false → length ≤ 2 ^ 48
short_length va length is = search (is, arith, nat_tests)

some_rights : (reads writes : Bool) → not (reads || writes) ≡ false
    → (ltb 0 (cond reads 1 0 + cond writes 2 0) && ltb (cond reads 1 0 + cond writes 2 0) 4) ≡ true
some_rights true true some = refl
some_rights true false some = refl
some_rights false true some = refl
some_rights false false some = cc

-- as long as the request says, or as the area that is copied
one_pages : {A : Type 0} (at : ℕ) (w : World) (e : Event A) (file : FileNo) (request : MapRequest) (iova : Iova)
    (number : ℕ) (memory : List MemoryObject) → refusal w e ≡ None → PlacePassed (view w) file request
    → list_all is_of_pages w.areas ≡ true → MemoryUnder at w e file request iova number memory
    → is_of_pages (mapped_area number file request iova) ≡ true
one_pages at w e file request iova number memory none passed pages (NewMemory user known short is more) =
    let size = from_size iova.0 request.length passed.some in
    let below : request.length ≤ 2 ^ 48 = short_length request.user_va request.length (short none) in
    rw size (both_true _ _ passed.whole (search (below, arith, nat_tests)))
one_pages at w e file request iova number memory none passed pages (SharedMemory source within of_file size is same) =
    ap (λ (size : ℕ). is_whole size && leb size (2 ^ 48)) (sym (size none))
    ∙ of_each is_of_pages w.areas source pages within

-- ---- one more attachment

further : (low : ℕ) (high : ℕ) (attachments : List Attachment) → ltb low high ≡ true
    → list_all (λ (b : Attachment). ltb high b.device.0) attachments ≡ true
    → list_all (λ (b : Attachment). ltb low b.device.0) attachments ≡ true
further low high [] is all = refl
further low high (a ∷ attachments) is all =
    let parts = and_true (ltb high a.device.0) (list_all (λ (b : Attachment). ltb high b.device.0) attachments) all in
    both_true _ _ (search (is, parts.0, arith, nat_tests)) (further low high attachments is parts.1)

rise-with_attachment : (x : Attachment) (attachments : List Attachment)
    → is_some (attachment_of attachments x.device) ≡ false → devices_rise attachments ≡ true
    → devices_rise (with_attachment x attachments) ≡ true
rise-with_attachment x [] free rise = refl
rise-with_attachment x (a ∷ attachments) free rise =
    let rises = and_true (list_all (λ (b : Attachment). ltb a.device.0 b.device.0) attachments)
    (devices_rise attachments) rise in
    by_tests (ltb x.device.0 a.device.0) (eqb a.device.0 x.device.0) refl refl free rises.0 rises.1
    (λ later. rise-with_attachment x attachments later rises.1)
  where
    by_tests : (less same : Bool) → ltb x.device.0 a.device.0 ≡ less → eqb a.device.0 x.device.0 ≡ same
        → is_some (cond same (Some a) (attachment_of attachments x.device)) ≡ false
        → list_all (λ (b : Attachment). ltb a.device.0 b.device.0) attachments ≡ true → devices_rise attachments ≡ true
        → (is_some (attachment_of attachments x.device) ≡ false
        → devices_rise (with_attachment x attachments) ≡ true)
        → devices_rise (cond less (x ∷ a ∷ attachments) (a ∷ with_attachment x attachments)) ≡ true
    by_tests true same less is free above_a rest later =
        both_true _ _ (both_true _ _ less (further x.device.0 a.device.0 attachments less above_a)) rise
    by_tests false true less is free above_a rest later = cc
    by_tests false false less is free above_a rest later =
        let higher : ltb a.device.0 x.device.0 ≡ true = search (less, is, arith, nat_tests) in
        both_true _ _ (all-inserted has_lower_device (λ (b : Attachment). ltb a.device.0 b.device.0) x attachments
        higher above_a) (later free)

rise-filter : (p : Attachment → Bool) (attachments : List Attachment) → devices_rise attachments ≡ true
    → devices_rise (filter p attachments) ≡ true
rise-filter p [] rise = refl
rise-filter p (a ∷ attachments) rise =
    let rises = and_true (list_all (λ (b : Attachment). ltb a.device.0 b.device.0) attachments)
    (devices_rise attachments) rise in
    kept (p a) (all_filter (λ (b : Attachment). ltb a.device.0 b.device.0) p attachments rises.0)
    (rise-filter p attachments rises.1)
  where
    kept : (b : Bool) → list_all (λ (b : Attachment). ltb a.device.0 b.device.0) (filter p attachments) ≡ true
        → devices_rise (filter p attachments) ≡ true
        → devices_rise (cond b (a ∷ filter p attachments) (filter p attachments)) ≡ true
    kept true first rest = both_true _ _ first rest
    kept false first rest = rest

-- ---- frames of the pool

all_both : {X : Type 0} (p : X → Bool) (xs ys : List X) → list_all p xs ≡ true → list_all p ys ≡ true
    → list_all p (xs ++ ys) ≡ true
all_both p [] ys first second = second
all_both p (x ∷ xs) ys first second =
    let parts = and_true (p x) (list_all p xs) first in both_true _ _ parts.0 (all_both p xs ys parts.1 second)

frame_passes : (q : ℕ → Bool) (pages : List UserPage) (user : UserNo) (page : ℕ) (frame : FrameNo)
    → list_all (λ (p : UserPage). q p.frame.0) pages ≡ true → frame_at pages user page ≡ Some frame → q frame.0 ≡ true
frame_passes q pages user page frame all at =
    by_found (find (λ (p : UserPage). eqb p.user.0 user.0 && eqb p.page page) pages) refl
  where
    none : None ≡ Some frame → ⊥
    none is = cc

    by_found : (o : Option UserPage) → find (λ (p : UserPage). eqb p.user.0 user.0 && eqb p.page page) pages ≡ o
        → q frame.0 ≡ true
    by_found None found = absurd (none (rw (found, frame_at) at at))
    by_found (Some p) found =
        let same : Some p.frame ≡ Some frame = rw (found, frame_at) at at in
        let is : p.frame ≡ frame = cc in
        rw (← is) (found_passes (λ (p : UserPage). q p.frame.0) (λ (p : UserPage). eqb p.user.0 user.0
        && eqb p.page page) pages p all found).0

-- what holds of the frames of users' pages and of pins holds of those of pins that are settled
module _ (q : ℕ → Bool) (memory : List MemoryObject) (pages : List UserPage)
    (all : list_all (λ (p : UserPage). q p.frame.0) pages ≡ true) where
  now_passes : (page : ObjectPage) (frame : FrameNo) → frame_now memory pages page ≡ Some frame → q frame.0 ≡ true
  now_passes page frame now = by_found (find (λ (m : MemoryObject). eqb m.number page.memory) memory) refl
    where
      none : None ≡ Some frame → ⊥
      none is = cc

      by_found : (o : Option MemoryObject) → find (λ (m : MemoryObject). eqb m.number page.memory) memory ≡ o
          → q frame.0 ≡ true
      by_found None found = absurd (none (rw (found, frame_now) at now))
      by_found (Some m) found =
          frame_passes q pages m.user (page_of m.va + page.index) frame all (rw (found, frame_now) at now)

  new_pass : (new : List ObjectPage) → list_all (λ (pin : Pin). q pin.frame.0)
      (filter_map (pin_now memory pages) new) ≡ true
  new_pass [] = refl
  new_pass (page ∷ new) = by_frame (frame_now memory pages page) refl (new_pass new)
    where
      by_frame : (o : Option FrameNo) → frame_now memory pages page ≡ o
          → list_all (λ (pin : Pin). q pin.frame.0) (filter_map (pin_now memory pages) new) ≡ true
          → list_all (λ (pin : Pin). q pin.frame.0) (filter_map (pin_now memory pages) (page ∷ new)) ≡ true
      by_frame None now rest = rw (now, pin_now, filter_map) rest
      by_frame (Some frame) now rest = rw (now, pin_now, filter_map) (both_true _ _ (now_passes page frame now) rest)

  pub settled_frames : (before after : List ObjectPage) (pins : List Pin)
      → list_all (λ (pin : Pin). q pin.frame.0) pins ≡ true
      → list_all (λ (pin : Pin). q pin.frame.0) (settled before after memory pages pins) ≡ true
  settled_frames before after pins below =
      all_both (λ (pin : Pin). q pin.frame.0) _ _ (all_filter (λ (pin : Pin). q pin.frame.0) _ pins below)
      (new_pass (filter (λ page. not (list_any (is_page page) before)) after))

-- ---- each event

module _ {A : Type 0} (at : ℕ) (w : World) (e : Event A) (answer : Reply) (none : refusal w e ≡ None)
    (answers : Answers w e answer) (fits : RowsFit w) where
  attachments_rise : (new : World) → AttachmentsMove w e answer new
      → devices_rise new.attachments ≡ true
  attachments_rise new (SameAttachments is) = rw is fits.rise
  attachments_rise new (FewerAttachments stays is) = rw is (rise-filter stays w.attachments fits.rise)
  attachments_rise new (OneAttachment a bound binding still of_file free served is) =
      rw is (rise-with_attachment a w.attachments (free none) fits.rise)

  attachments_known : (new : World) → AttachmentsMove w e answer new
      → are_attached w.settings new.attachments ≡ true
  attachments_known new (SameAttachments is) = rw is fits.attached
  attachments_known new (FewerAttachments stays is) = rw is (all_filter _ stays w.attachments fits.attached)
  attachments_known new (OneAttachment a bound binding still of_file free served is) =
      rw is (all-inserted has_lower_device (λ (b : Attachment). is_device w.settings b.device) a w.attachments
      (bound_known w.settings w.closed w.objects a.device bound fits.known binding).1 fits.attached)

  pages_fit : (new : World) → MemoryMoves w e answer new
      → list_all (λ (p : UserPage). ltb p.frame.0 w.settings.pool) new.user_pages ≡ true
  pages_fit new (SameMemory is same) = rw is fits.user_frames
  pages_fit new (OnePage user va frame passed free told is less) =
      rw is (all_both (λ (p : UserPage). ltb p.frame.0 w.settings.pool) w.user_pages _ fits.user_frames
      (both_true _ _ (and_true (ltb frame.0 w.settings.pool) _ (free answers)).0 refl))
  pages_fit new (FewerPages stays is same) = rw is (all_filter _ stays w.user_pages fits.user_frames)
  pages_fit new (Written written is) = rw is fits.user_frames

  pins_fit : (new : World) → PinsMove at w e new
      → list_all (λ (p : UserPage). ltb p.frame.0 w.settings.pool) new.user_pages ≡ true
      → list_all (λ (pin : Pin). ltb pin.frame.0 w.settings.pool) new.pins ≡ true
  unfolding settle
  pins_fit new (SamePins is alike) users = rw is fits.pin_frames
  pins_fit new (Settled is present) users =
      rw is (settled_frames (λ n. ltb n w.settings.pool) _ new.user_pages users _ _ w.pins fits.pin_frames)

  objects_known : (new : World) → ObjectsMove w e answer new → FilesMove w new
      → list_all (is_known w.settings new.closed) new.objects ≡ true
  objects_known new move (Closes file closed objects allowed) =
      rw (closed, objects) (known_closed w.settings w.closed file w.objects fits.known)
  objects_known new (Same is) (StayOpen closed) = rw (closed, is) fits.known
  objects_known new (Fewer stays stay bound is) (StayOpen closed) =
      rw (closed, is) (all_filter (is_known w.settings w.closed) stays w.objects fits.known)
  objects_known new (Reattached file id attached is) (StayOpen closed) =
      rw (closed, is) (all_reattached file id attached (is_known w.settings w.closed)
      (λ o before after kind. ap (λ k. is_open w.settings w.closed o.file && is_known_device w.settings k) (sym kind))
      w.objects ∙ fits.known)
  objects_known new (More object fresh admitted makes is) (StayOpen closed) =
      rw (closed, is) (all-inserted comes_before (is_known w.settings w.closed) object w.objects
      ((admitted none).known fits.known) fits.known)

  pub keeps_fit : RowsFit (changed at w e answer)
  keeps_fit =
      let new : World = changed at w e answer in
      let m = changed_moves at w e answer in
      let users = pages_fit new m.memory in
      record {
        pages = all_areas is_of_pages (λ phase a here. here) at w e answer new m.areas
            (λ number file request iova passed lies alike under. one_pages at w e file request iova number
            new.memory none (passed none) fits.pages under) fits.pages;
        starts = all_areas begins_at_page (λ phase a here. here) at w e answer new m.areas
            (λ number file request iova passed lies alike under. (lies none answers).whole) fits.starts;
        rights = all_areas has_rights (λ phase a here. here) at w e answer new m.areas
            (λ number file request iova passed lies alike under. some_rights (is_readable request.flags)
            (is_writeable request.flags) (passed none).right) fits.rights;
        rise = attachments_rise new m.attachments;
        user_frames = rw m.settings users;
        pin_frames = rw m.settings (pins_fit new m.pins users);
        known = rw m.settings (objects_known new m.objects m.files);
        attached = rw m.settings (attachments_known new m.attachments);
      }

-- the frames of tables are no part of it
pub tabled_fit : (w : World) (taken given : List FrameNo) → RowsFit w → RowsFit (with_tables taken given w)
unfolding with_tables
tabled_fit w taken given fits = record {
  pages = fits.pages;
  starts = fits.starts;
  rights = fits.rights;
  rise = fits.rise;
  user_frames = fits.user_frames;
  pin_frames = fits.pin_frames;
  known = fits.known;
  attached = fits.attached;
}
