-- An area that comes ends by 2^64.
use Rattle.std.proofs.Common.{◌≡◌, ◌≤◌, ◌+◌, ◌^◌, ℕ, Bool, true, false, ◌&&◌, None, Option, Some, List, cond, is_none, ap, ◌∙◌, arith}
use Rattle.std.proofs.lemmas.Bool.Decides.{nat_tests}
use Rattle.iofd_rows.proofs.Bools.{and_true, not_true}
use Rattle.iofd_runs.proofs.NotRefused.{copy_passed, map_passed}
use Rattle.iofd_steps.specs.Answers.{Answers, IsMappedAt}
use Rattle.iofd_refusals.specs.Checks.{refusal}
use Rattle.iofd_words.specs.Copies.{placed_as}
use Rattle.iofd_words.specs.Files.{device_of}
use Rattle.iofd_words.specs.Objects.{automatic_hwpt, binding_of, has_ioas, settings_under}
use Rattle.iofd_words.specs.Pages.{is_above_sum}
use Rattle.iofd_words.specs.Rights.{is_fixed}
use Rattle.iofd_words.specs.Settings.{DeviceSettings}
use Rattle.iofd_words.specs.View.{view}
use Rattle.iofd_words.specs.World.{World}
use Rattle.iofd_words.specs.declared.event.Event.{Event}
use Rattle.iofd_words.specs.declared.event.Event.TheVariants as event
use Rattle.iofd_words.specs.declared.event.HwptRequest.{HwptRequest}
use Rattle.iofd_words.specs.declared.event.MapRequest.{MapRequest}
use Rattle.iofd_words.specs.declared.numbers.DeviceNo.{DeviceNo}
use Rattle.iofd_words.specs.declared.numbers.FileNo.{FileNo}
use Rattle.iofd_words.specs.declared.numbers.Iova.{Iova}
use Rattle.iofd_words.specs.declared.numbers.ObjId.{ObjId}
use Rattle.iofd_words.specs.declared.reply.Reply.{Reply}
use Rattle.iofd_words.specs.declared.reply.Reply.TheVariants as reply
use Rattle.iofd_words.specs.declared.rows.Object.{Object}
use Rattle.iofd_words.specs.declared.width.Width.{Width}
use Rattle.journal_audit_tables.specs.Coming.{ComingFits, allocated, attached, attached_as, coming_with, made_for}
use Rattle.journal_audit_tables.specs.declared.coming.Coming.TheVariants as coming

within : (start length : ℕ) → is_above_sum start length ≡ false → start + length ≤ 2 ^ 64
within start length is = search (is, arith, nat_tests)

mapped_fits : (w : World) (file : FileNo) (request : MapRequest) (fixed : Bool) (iova : Iova)
    → (fixed && is_above_sum request.iova.0 request.length) ≡ false → IsMappedAt w file request fixed iova
    → iova.0 + request.length ≤ 2 ^ 64
mapped_fits w file request true iova sum is =
    within iova.0 request.length (ap (λ (i : Iova). is_above_sum i.0 request.length) is ∙ sum)
mapped_fits w file request false iova sum may =
    within iova.0 request.length (not_true _ (and_true _ _ may).0)

made_fits : (file : FileNo) (id ioas : ObjId) (settings : Option DeviceSettings)
    → ComingFits (made_for file id ioas settings)
made_fits file id ioas None = tt
made_fits file id ioas (Some settings) = tt

allocated_fits : (w : World) (file : FileNo) (request : HwptRequest) (answer : Reply)
    → ComingFits (allocated w file request answer)
allocated_fits w file request (reply.Id id) =
    made_fits file id request.ioas (settings_under w.settings w.objects file request.device)
allocated_fits w file request answer = tt

to_fits : (file : FileNo) (pt_id id : ObjId) (width : Width) (b : Bool)
    → ComingFits (cond b (coming.PageTable file id pt_id width) coming.Nothing)
to_fits file pt_id id width true = tt
to_fits file pt_id id width false = tt

attached_as_fits : (objects : List Object) (pt_id id : ObjId) (bound : Option Object) (settings : Option DeviceSettings)
    → ComingFits (attached_as objects pt_id id bound settings)
attached_as_fits objects pt_id id None settings = tt
attached_as_fits objects pt_id id (Some bound) None = tt
attached_as_fits objects pt_id id (Some bound) (Some settings) =
    to_fits bound.file pt_id id settings.width
    (has_ioas objects bound.file pt_id && is_none (automatic_hwpt objects bound.file pt_id settings.width))

attached_fits : (w : World) (device : DeviceNo) (pt_id : ObjId) (answer : Reply)
    → ComingFits (attached w device pt_id answer)
attached_fits w device pt_id (reply.Id id) =
    attached_as_fits w.objects pt_id id (binding_of w.objects device) (device_of w.settings device)
attached_fits w device pt_id answer = tt

pub coming_fits : {A : Type 0} (w : World) (e : Event A) (answer : Reply) → refusal w e ≡ None → Answers w e answer
    → ComingFits (coming_with w e answer)
unfolding Answers
coming_fits w (event.Map file request) (reply.Iova iova) none is =
    mapped_fits w file request (is_fixed request.flags) iova (map_passed (view w) file request none).sum is
coming_fits w (event.Copy file request) (reply.Iova iova) none is =
    mapped_fits w file (placed_as request) (is_fixed request.flags) iova (copy_passed (view w) file request none).sum is
coming_fits w (event.HwptAlloc file request) answer none is = allocated_fits w file request answer
coming_fits w (event.Attach device pt_id) answer none is = attached_fits w device pt_id answer
coming_fits w e answer none is = tt
