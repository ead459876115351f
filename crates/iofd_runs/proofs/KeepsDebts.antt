-- Every event keeps each debtor attached to the address space of its area.
use Rattle.std.proofs.Common.{◌≡◌, ℕ, true, not, None, List, refl, Some}
use Rattle.iofd_steps.specs.After.{attached, changed, copy_changes, detached, hwpt_changes, joined, made_hwpt}
use Rattle.iofd_steps.specs.After.{map_changes, mapped_area, settle, with_hwpt, without_areas}
use Rattle.iofd_steps.specs.Answers.{Answers}
use Rattle.iofd_words.specs.Areas.{is_touched}
use Rattle.iofd_refusals.specs.Checks.{refusal}
use Rattle.iofd_rows.specs.Debts.{DebtsAttached}
use Rattle.iofd_words.specs.Copies.{placed_as}
use Rattle.iofd_words.specs.Files.{user_of}
use Rattle.iofd_rows.specs.Ids.{have_own_ids}
use Rattle.iofd_words.specs.Objects.{automatic_hwpt, settings_under}
use Rattle.iofd_words.specs.Tables.{with_tables}
use Rattle.iofd_words.specs.View.{view}
use Rattle.iofd_words.specs.World.{World}
use Rattle.iofd_words.specs.declared.event.Event.{Event}
use Rattle.iofd_words.specs.declared.event.Event.TheVariants as event
use Rattle.iofd_words.specs.declared.numbers.FrameNo.{FrameNo}
use Rattle.iofd_words.specs.declared.reply.Reply.{Reply}
use Rattle.iofd_words.specs.declared.reply.Reply.TheVariants as reply
use Rattle.iofd_words.specs.declared.rows.ObjectKind.TheVariants as kind
use Rattle.iofd_runs.proofs.AttachMoves.{is_made, is_there, owed_attached, owed_detached}
use Rattle.iofd_rows.proofs.Moves.{owed_area, owed_fewer, owed_flush, owed_leaving, owed_object, owed_reattached}
use Rattle.iofd_runs.proofs.ObjectsGo.{owed_closed, owed_destroyed, owed_unbound}
use Rattle.iofd_rows.proofs.Owed.{EachOwed, debts_attached, each_owed, space_of}
use Rattle.iofd_runs.proofs.OwnIds.{keeps_own_ids, unused}
use Rattle.iofd_runs.proofs.NotRefused.{attach_passed, copy_passed, destroy_passed, hwpt_passed, join_passed}
use Rattle.iofd_runs.proofs.NotRefused.{map_passed}
use Rattle.iofd_runs.proofs.Branches.{by_attachment, by_found, by_target}
use Rattle.iofd_runs.proofs.CopySource.{source_area}

-- what holds of every world of a run
pub record IsSound (w : World) : Type 0 where
  pub own_ids : have_own_ids w.objects ≡ true
  pub debts : DebtsAttached w

abbrev IsOwed : World → Type 0
IsOwed w = EachOwed w.objects w.attachments w.areas

-- ---- each event

keeps_owed : {A : Type 0} → (at : ℕ) (w : World) (e : Event A) (answer : Reply) → refusal w e ≡ None
    → Answers w e answer → have_own_ids w.objects ≡ true → IsOwed w → IsOwed (changed at w e answer)
unfolding changed settle without_areas attached detached joined Answers
keeps_owed at w (event.IoasAlloc file) (reply.Id id) none answers own each =
    owed_object w.objects w.attachments w.areas (record { file = file; id = id; kind = kind.Ioas })
    (unused w.objects file id answers) (λ ioas is. cc) each
keeps_owed at w (event.Map file request) (reply.Iova iova) none answers own each =
    by_found (λ user. IsOwed (map_changes at w file request iova user)) (user_of w.settings file) each (λ user is.
    owed_area w.objects w.attachments w.areas (mapped_area at file request iova) refl
    (space_of w.objects file request.ioas (map_passed (view w) file request none).space) each)
keeps_owed at w (event.Copy file request) (reply.Iova iova) none answers own each =
    by_found (λ source. IsOwed (copy_changes w file request iova source)) (source_area w file request) each
    (λ source is. owed_area w.objects w.attachments w.areas (mapped_area source.memory file (placed_as request) iova)
    refl (space_of w.objects file request.dst_ioas (copy_passed (view w) file request none).space) each)
keeps_owed at w (event.Unmap file request) (reply.Bytes count) none answers own each =
    owed_fewer w.objects w.attachments w.areas (λ area. not (is_touched file request area)) each
keeps_owed at w (event.Unmap file request) (reply.Pending errno) none answers own each =
    owed_leaving w.objects w.attachments w.areas file request each
keeps_owed at w (event.HwptAlloc file request) (reply.Id id) none answers own each =
    by_found (λ settings. IsOwed (hwpt_changes w file request.ioas id settings))
    (settings_under w.settings w.objects file request.device) each (λ settings is.
    let space = space_of w.objects file request.ioas (hwpt_passed (view w) file request none).space in
    owed_object w.objects w.attachments w.areas (made_hwpt file request.ioas id settings)
    (unused w.objects file id answers) (λ over is. let same : request.ioas ≡ over = cc in rw (← same) space) each)
keeps_owed at w (event.Destroy file id) reply.Done none answers own each =
    owed_destroyed w file id (destroy_passed (view w) file id none).unused each
keeps_owed at w (event.Close file) reply.Done none answers own each =
    owed_closed w.objects w.attachments w.areas file each
keeps_owed at w (event.UserMap user va) (reply.Frame frame) none answers own each = each
keeps_owed at w (event.AllowIovas file ioas ranges) reply.Done none answers own each = each
keeps_owed at w (event.UserUnmap user va) reply.Done none answers own each = each
keeps_owed at w (event.UserWrite user va bytes) reply.Done none answers own each = each
keeps_owed at w (event.Bind file device) (reply.Id id) none answers own each =
    owed_object w.objects w.attachments w.areas (record { file = file; id = id; kind = kind.Device device })
    (unused w.objects file id answers) (λ ioas is. cc) each
keeps_owed at w (event.Unbind file id) reply.Done none answers own each =
    owed_unbound w.objects w.attachments w.areas file id each
keeps_owed at w (event.Attach device pt_id) (reply.Id id) none answers own each =
    by_target w device pt_id id IsOwed (λ nowhere. each)
    (λ object d bound known space made.
    let automatic = automatic_hwpt w.objects object.file pt_id d.width in
    let table = is_made w object.file pt_id id d.width automatic own refl (made answers) space each.spaces in
    let free = (attach_passed (view w) device pt_id object bound space none).unattached in
    owed_attached w.objects (with_hwpt object.file pt_id id d.width automatic w.objects) w.attachments w.areas device
    object.file pt_id id free table each)
    (λ object d ioas width automatic bound known named same.
    let table = is_there w.objects object.file ioas id width automatic (rw (same answers) named) each.spaces in
    let free = (join_passed (view w) device pt_id ioas width automatic object bound named none).unattached in
    owed_attached w.objects w.objects w.attachments w.areas device object.file ioas id free table each)
keeps_owed at w (event.Detach device) reply.Done none answers own each =
    by_attachment w device IsOwed each (λ a is. owed_detached w.objects w.attachments w.areas device a each)
keeps_owed at w (event.Flush device) reply.Done none answers own each =
    owed_flush w.objects w.attachments w.areas device each
keeps_owed at w (event.DeviceWrite device iova bytes) (reply.Passed frame) none answers own each = each
keeps_owed at w (event.AccessCreate file) (reply.Id id) none answers own each =
    owed_object w.objects w.attachments w.areas (record { file = file; id = id; kind = kind.Access None })
    (unused w.objects file id answers) (λ ioas is. cc) each
keeps_owed at w (event.AccessAttach file id ioas) reply.Done none answers own each =
    owed_reattached w.objects w.attachments w.areas file id (Some ioas) each
keeps_owed at w (event.AccessDetach file id) reply.Done none answers own each =
    owed_reattached w.objects w.attachments w.areas file id None each
keeps_owed at w (event.AccessPin file id request) reply.Done none answers own each = each
keeps_owed at w (event.AccessUnpin file id request) reply.Done none answers own each = each
keeps_owed at w (event.AccessWrite file id iova bytes) reply.Done none answers own each = each
keeps_owed at w (event.DirtyEnable file hwpt on) reply.Done none answers own each = each
keeps_owed at w (event.DirtyClear file request) (reply.Dirty words) none answers own each = each
keeps_owed at w e answer none answers own each = each

pub keeps_sound : {A : Type 0} → (at : ℕ) (w : World) (e : Event A) (answer : Reply) → refusal w e ≡ None
    → Answers w e answer → IsSound w → IsSound (changed at w e answer)
keeps_sound at w e answer none answers sound = record {
  own_ids = keeps_own_ids at w e answer none answers sound.own_ids;
  debts = debts_attached (changed at w e answer)
      (keeps_owed at w e answer none answers sound.own_ids (each_owed w sound.debts));
}

-- the frames of tables are no part of it
pub tabled_sound : (w : World) (taken given : List FrameNo) → IsSound w → IsSound (with_tables taken given w)
unfolding with_tables
tabled_sound w taken given sound = record {
  own_ids = sound.own_ids;
  debts = record {
    once = sound.debts.once;
    debtors = sound.debts.debtors;
    tables = sound.debts.tables;
    spaces = sound.debts.spaces;
    areas = sound.debts.areas;
  };
}
