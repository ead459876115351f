-- Worlds that differ in what was written into frames alone: their records are the same.
use Rattle.std.proofs.Common.{◌≡◌, ℕ, Option, Some, None, List, refl, sym, ap, subst, ◌∙◌}
use Rattle.iofd_steps.specs.After.{attach_changes, attached, changed, copy_changes, detach_changes, detached}
use Rattle.iofd_steps.specs.After.{hwpt_changes, joined, map_changes, settle, target_changes, without_areas}
use Rattle.iofd_steps.specs.Answers.{Answers}
use Rattle.iofd_words.specs.Areas.{areas_of}
use Rattle.iofd_words.specs.Attachments.{attachment_of}
use Rattle.iofd_refusals.specs.Checks.{refusal}
use Rattle.iofd_words.specs.Copies.{source_in}
use Rattle.iofd_words.specs.Files.{user_of, device_of}
use Rattle.iofd_words.specs.Objects.{binding_of, kind_of, settings_under}
use Rattle.iofd_words.specs.Policy.{outcomes}
use Rattle.iofd_steps.specs.Run.{IsAnswer, Lawful, MovesFrames, after, after_answer}
use Rattle.iofd_words.specs.Record.{Record}
use Rattle.iofd_words.specs.Settings.{DeviceSettings}
use Rattle.iofd_words.specs.Tables.{MovesTables, with_tables}
use Rattle.iofd_words.specs.World.{World}
use Rattle.iofd_words.specs.declared.event.Event.{Event}
use Rattle.iofd_words.specs.declared.event.Event.TheVariants as event
use Rattle.iofd_words.specs.declared.numbers.FrameNo.{FrameNo}
use Rattle.iofd_words.specs.declared.numbers.UserNo.{UserNo}
use Rattle.iofd_words.specs.declared.refusal.Cause.{Cause}
use Rattle.iofd_words.specs.declared.reply.Reply.{Reply}
use Rattle.iofd_words.specs.declared.reply.Reply.TheVariants as reply
use Rattle.iofd_words.specs.declared.rows.Area.{Area}
use Rattle.iofd_words.specs.declared.rows.Attachment.{Attachment}
use Rattle.iofd_words.specs.declared.rows.Object.{Object}
use Rattle.iofd_words.specs.declared.rows.ObjectKind.{ObjectKind}
use Rattle.iofd_words.specs.declared.rows.ObjectKind.TheVariants as kind
use Rattle.journal_audit_world.specs.Kept.{IsKept}
use Rattle.journal_audit_world.specs.Unwritten.{unwritten}

-- ---- what is kept

kept_to : (at : ℕ) (w : World) → IsKept at w → IsKept at (unwritten w)
kept_to at w k = record {
  pins = record {
    numbers = k.pins.numbers;
    made = k.pins.made;
    sizes = k.pins.sizes;
    used = k.pins.used;
    pinned = k.pins.pinned;
    only = k.pins.only;
    once = k.pins.once;
    held = k.pins.held;
    spaces = k.pins.spaces;
  };
  numbers = k.numbers;
  own_ids = k.own_ids;
  tabled = record { needed = k.tabled.needed; owned = k.tabled.owned };
  differ = k.differ;
  fit = record {
    pages = k.fit.pages;
    starts = k.fit.starts;
    rights = k.fit.rights;
    rise = k.fit.rise;
    user_frames = k.fit.user_frames;
    pin_frames = k.fit.pin_frames;
    known = k.fit.known;
    attached = k.fit.attached;
  };
  pins_fit = record { spans = k.pins_fit.spans; few = k.pins_fit.few };
  apart = k.apart;
}

kept_from : (at : ℕ) (w : World) → IsKept at (unwritten w) → IsKept at w
kept_from at w k = record {
  pins = record {
    numbers = k.pins.numbers;
    made = k.pins.made;
    sizes = k.pins.sizes;
    used = k.pins.used;
    pinned = k.pins.pinned;
    only = k.pins.only;
    once = k.pins.once;
    held = k.pins.held;
    spaces = k.pins.spaces;
  };
  numbers = k.numbers;
  own_ids = k.own_ids;
  tabled = record { needed = k.tabled.needed; owned = k.tabled.owned };
  differ = k.differ;
  fit = record {
    pages = k.fit.pages;
    starts = k.fit.starts;
    rights = k.fit.rights;
    rise = k.fit.rise;
    user_frames = k.fit.user_frames;
    pin_frames = k.fit.pin_frames;
    known = k.fit.known;
    attached = k.fit.attached;
  };
  pins_fit = record { spans = k.pins_fit.spans; few = k.pins_fit.few };
  apart = k.apart;
}

pub kept_alike : (at : ℕ) (w v : World) → unwritten w ≡ unwritten v → IsKept at w → IsKept at v
kept_alike at w v same k = kept_from at v (subst (λ (x : World). IsKept at x) same (kept_to at w k))

-- ---- what comes of an event

same_changes : {A : Type 0} → (at : ℕ) (w : World) (e : Event A) (answer : Reply)
    → unwritten (changed at (unwritten w) e answer) ≡ unwritten (changed at w e answer)
unfolding changed settle without_areas attached detached joined
same_changes at w (event.IoasAlloc file) (reply.Id id) = refl
same_changes at w (event.Map file request) (reply.Iova iova) = mapped (user_of w.settings file)
  where
    mapped : (user : Option UserNo) → unwritten (map_changes at (unwritten w) file request iova user)
        ≡ unwritten (map_changes at w file request iova user)
    mapped None = refl
    mapped (Some user) = refl
same_changes at w (event.Copy file request) (reply.Iova iova) =
    copied (source_in (areas_of w.areas file request.src_ioas) request)
  where
    copied : (source : Option Area) → unwritten (copy_changes (unwritten w) file request iova source)
        ≡ unwritten (copy_changes w file request iova source)
    copied None = refl
    copied (Some source) = refl
same_changes at w (event.Unmap file request) (reply.Bytes count) = refl
same_changes at w (event.Unmap file request) (reply.Pending errno) = refl
same_changes at w (event.HwptAlloc file request) (reply.Id id) =
    made (settings_under w.settings w.objects file request.device)
  where
    made : (settings : Option DeviceSettings) → unwritten (hwpt_changes (unwritten w) file request.ioas id settings)
        ≡ unwritten (hwpt_changes w file request.ioas id settings)
    made None = refl
    made (Some settings) = refl
same_changes at w (event.Destroy file id) reply.Done = refl
same_changes at w (event.Close file) reply.Done = refl
same_changes at w (event.UserMap user va) (reply.Frame frame) = refl
same_changes at w (event.AllowIovas file ioas ranges) reply.Done = refl
same_changes at w (event.UserUnmap user va) reply.Done = refl
same_changes at w (event.UserWrite user va bytes) reply.Done = refl
same_changes at w (event.Bind file device) (reply.Id id) = refl
same_changes at w (event.Unbind file id) reply.Done = refl
same_changes at w (event.Attach device pt_id) (reply.Id id) =
    bound (binding_of w.objects device) (device_of w.settings device)
  where
    bound : (object : Option Object) (settings : Option DeviceSettings)
        → unwritten (attach_changes (unwritten w) device pt_id id object settings)
        ≡ unwritten (attach_changes w device pt_id id object settings)
    bound None settings = refl
    bound (Some object) None = refl
    bound (Some object) (Some settings) = by_kind (kind_of w.objects object.file pt_id)
      where
        by_kind : (k : Option ObjectKind)
            → unwritten (target_changes (unwritten w) device pt_id id object settings k)
            ≡ unwritten (target_changes w device pt_id id object settings k)
        by_kind (Some kind.Ioas) = refl
        by_kind k = refl
same_changes at w (event.Detach device) reply.Done = attached_or_not (attachment_of w.attachments device)
  where
    attached_or_not : (a : Option Attachment) → unwritten (detach_changes (unwritten w) device a)
        ≡ unwritten (detach_changes w device a)
    attached_or_not None = refl
    attached_or_not (Some a) = refl
same_changes at w (event.Flush device) reply.Done = refl
same_changes at w (event.DeviceWrite device iova bytes) (reply.Passed frame) = refl
same_changes at w (event.AccessCreate file) (reply.Id id) = refl
same_changes at w (event.AccessAttach file id ioas) reply.Done = refl
same_changes at w (event.AccessDetach file id) reply.Done = refl
same_changes at w (event.AccessPin file id request) reply.Done = refl
same_changes at w (event.AccessUnpin file id request) reply.Done = refl
same_changes at w (event.AccessWrite file id iova bytes) reply.Done = refl
same_changes at w (event.DirtyEnable file hwpt on) reply.Done = refl
same_changes at w (event.DirtyClear file request) (reply.Dirty words) = refl
same_changes at w e answer = refl

changes_alike : {A : Type 0} → (at : ℕ) (w v : World) (e : Event A) (answer : Reply) → unwritten w ≡ unwritten v
    → unwritten (changed at w e answer) ≡ unwritten (changed at v e answer)
changes_alike at w v e answer same = sym (same_changes at w e answer)
    ∙ ap (λ (x : World). unwritten (changed at x e answer)) same ∙ same_changes at v e answer

-- ---- which answers are lawful

answers_to : {A : Type 0} → (w : World) (e : Event A) (answer : Reply) → Answers w e answer
    → Answers (unwritten w) e answer
unfolding Answers outcomes
answers_to w (event.IoasAlloc file) answer is = is
answers_to w (event.AllowIovas file ioas ranges) answer is = is
answers_to w (event.Map file request) answer is = is
answers_to w (event.Copy file request) answer is = is
answers_to w (event.Unmap file request) answer is = is
answers_to w (event.HwptAlloc file request) answer is = is
answers_to w (event.Destroy file id) answer is = is
answers_to w (event.Close file) answer is = is
answers_to w (event.UserMap user va) answer is = is
answers_to w (event.UserUnmap user va) answer is = is
answers_to w (event.UserWrite user va bytes) answer is = is
answers_to w (event.Bind file device) answer is = is
answers_to w (event.Unbind file id) answer is = is
answers_to w (event.Attach device pt_id) answer is = is
answers_to w (event.Detach device) answer is = is
answers_to w (event.Flush device) answer is = is
answers_to w (event.DeviceWrite device iova bytes) answer is = is
answers_to w (event.AccessCreate file) answer is = is
answers_to w (event.AccessAttach file id ioas) answer is = is
answers_to w (event.AccessDetach file id) answer is = is
answers_to w (event.AccessPin file id request) answer is = is
answers_to w (event.AccessUnpin file id request) answer is = is
answers_to w (event.AccessWrite file id iova bytes) answer is = is
answers_to w (event.DirtyEnable file hwpt on) answer is = is
answers_to w (event.DirtyClear file request) answer is = is

answers_from : {A : Type 0} → (w : World) (e : Event A) (answer : Reply) → Answers (unwritten w) e answer
    → Answers w e answer
unfolding Answers outcomes
answers_from w (event.IoasAlloc file) answer is = is
answers_from w (event.AllowIovas file ioas ranges) answer is = is
answers_from w (event.Map file request) answer is = is
answers_from w (event.Copy file request) answer is = is
answers_from w (event.Unmap file request) answer is = is
answers_from w (event.HwptAlloc file request) answer is = is
answers_from w (event.Destroy file id) answer is = is
answers_from w (event.Close file) answer is = is
answers_from w (event.UserMap user va) answer is = is
answers_from w (event.UserUnmap user va) answer is = is
answers_from w (event.UserWrite user va bytes) answer is = is
answers_from w (event.Bind file device) answer is = is
answers_from w (event.Unbind file id) answer is = is
answers_from w (event.Attach device pt_id) answer is = is
answers_from w (event.Detach device) answer is = is
answers_from w (event.Flush device) answer is = is
answers_from w (event.DeviceWrite device iova bytes) answer is = is
answers_from w (event.AccessCreate file) answer is = is
answers_from w (event.AccessAttach file id ioas) answer is = is
answers_from w (event.AccessDetach file id) answer is = is
answers_from w (event.AccessPin file id request) answer is = is
answers_from w (event.AccessUnpin file id request) answer is = is
answers_from w (event.AccessWrite file id iova bytes) answer is = is
answers_from w (event.DirtyEnable file hwpt on) answer is = is
answers_from w (event.DirtyClear file request) answer is = is

-- ---- which frames may move

moves_to : {A : Type 0} → (w left : World) (e : Event A) (answer : Reply) (taken given : List FrameNo)
    → MovesTables w left e answer taken given → MovesTables (unwritten w) (unwritten left) e answer taken given
moves_to w left (event.Unmap file request) (reply.Bytes count) taken given m = record {
  enough = m.enough;
  free = m.free;
  different = m.different;
  gone = m.gone;
  may = m.may;
  rising = m.rising;
}
moves_to w left e answer taken given m = record {
  enough = m.enough;
  free = m.free;
  different = m.different;
  gone = m.gone;
  may = m.may;
  rising = m.rising;
}

moves_from : {A : Type 0} → (w left : World) (e : Event A) (answer : Reply) (taken given : List FrameNo)
    → MovesTables (unwritten w) (unwritten left) e answer taken given → MovesTables w left e answer taken given
moves_from w left (event.Unmap file request) (reply.Bytes count) taken given m = record {
  enough = m.enough;
  free = m.free;
  different = m.different;
  gone = m.gone;
  may = m.may;
  rising = m.rising;
}
moves_from w left e answer taken given m = record {
  enough = m.enough;
  free = m.free;
  different = m.different;
  gone = m.gone;
  may = m.may;
  rising = m.rising;
}

pub moves_alike : {A : Type 0} → (w v left new : World) (e : Event A) (answer : Reply) (taken given : List FrameNo)
    → unwritten w ≡ unwritten v → unwritten left ≡ unwritten new → MovesTables w left e answer taken given
    → MovesTables v new e answer taken given
moves_alike w v left new e answer taken given same left_same moves =
    moves_from v new e answer taken given
    (subst (λ (x : World). MovesTables (unwritten v) x e answer taken given) left_same
    (subst (λ (x : World). MovesTables x (unwritten left) e answer taken given) same
    (moves_to w left e answer taken given moves)))

-- ---- records

answer_alike : {A : Type 0} → (w v : World) (r : Record A) (o : Option Cause) → unwritten w ≡ unwritten v
    → IsAnswer w r o → IsAnswer v r o
answer_alike w v r (Some cause) same is = is
answer_alike w v r None same is = answers_from v r.event r.reply
    (subst (λ (x : World). Answers x r.event r.reply) same (answers_to w r.event r.reply is))

frames_alike : {A : Type 0} → (at : ℕ) (w v : World) (r : Record A) (o : Option Cause) → unwritten w ≡ unwritten v
    → MovesFrames at w r o → MovesFrames at v r o
frames_alike at w v r (Some cause) same is = is
frames_alike at w v r None same is = moves_alike w v (changed at w r.event r.reply) (changed at v r.event r.reply)
    r.event r.reply r.taken r.given same (changes_alike at w v r.event r.reply same) is

same_refusal : {A : Type 0} → (w v : World) (e : Event A) → unwritten w ≡ unwritten v → refusal w e ≡ refusal v e
same_refusal w v e same = ap (λ (x : World). refusal x e) same

pub lawful_alike : {A : Type 0} → (at : ℕ) (w v : World) (r : Record A) → unwritten w ≡ unwritten v → Lawful at w r
    → Lawful at v r
unfolding Lawful
lawful_alike at w v r same lawful =
    let is = same_refusal w v r.event same in (
      answer_alike w v r (refusal v r.event) same (subst (λ (o : Option Cause). IsAnswer w r o) is lawful.0),
      frames_alike at w v r (refusal v r.event) same
          (subst (λ (o : Option Cause). MovesFrames at w r o) is lawful.1),
    )

tables_alike : (taken given : List FrameNo) (w : World)
    → unwritten (with_tables taken given (unwritten w)) ≡ unwritten (with_tables taken given w)
unfolding with_tables
tables_alike taken given w = refl

after_same : {A : Type 0} → (at : ℕ) (w v : World) (r : Record A) (o : Option Cause) → unwritten w ≡ unwritten v
    → unwritten (after_answer at w r o) ≡ unwritten (after_answer at v r o)
after_same at w v r (Some cause) same = same
after_same at w v r None same =
    sym (tables_alike r.taken r.given (changed at w r.event r.reply))
    ∙ ap (λ (x : World). unwritten (with_tables r.taken r.given x)) (changes_alike at w v r.event r.reply same)
    ∙ tables_alike r.taken r.given (changed at v r.event r.reply)

pub after_alike : {A : Type 0} → (at : ℕ) (w v : World) (r : Record A) → unwritten w ≡ unwritten v
    → unwritten (after at w r) ≡ unwritten (after at v r)
unfolding after
after_alike at w v r same =
    ap (λ (o : Option Cause). unwritten (after_answer at w r o)) (same_refusal w v r.event same)
    ∙ after_same at w v r (refusal v r.event) same
