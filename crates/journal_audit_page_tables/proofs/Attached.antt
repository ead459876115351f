-- A device that is attached, by what it is attached to.
use Rattle.std.proofs.Common.{◌≡◌, ℕ, Bool, true, false, Option, Some, None, sym, ap, subst, ◌∙◌}
use Rattle.iofd_runs.proofs.NotRefused.{attach_passed, hwpt_passed}
use Rattle.iofd_steps.specs.After.{attach_changes, attached, changed, joined, settle, target_changes, with_hwpt}
use Rattle.iofd_steps.specs.Answers.{Answers, IsHwptFor, IsHwptOf, IsTarget}
use Rattle.iofd_refusals.specs.Checks.{attach_checks, hwpt_alloc_checks, lacks_attached_page}
use Rattle.iofd_words.specs.Files.{device_of}
use Rattle.iofd_words.specs.FirstTrue.{first_true}
use Rattle.iofd_words.specs.Objects.{automatic_hwpt, binding_of, is_fresh, kind_of}
use Rattle.iofd_words.specs.Settings.{DeviceSettings}
use Rattle.iofd_words.specs.View.{view}
use Rattle.iofd_words.specs.World.{World}
use Rattle.iofd_words.specs.declared.event.Event.TheVariants as event
use Rattle.iofd_words.specs.declared.event.HwptRequest.{HwptRequest}
use Rattle.iofd_words.specs.declared.numbers.DeviceNo.{DeviceNo}
use Rattle.iofd_words.specs.declared.numbers.FileNo.{FileNo}
use Rattle.iofd_words.specs.declared.numbers.ObjId.{ObjId}
use Rattle.iofd_words.specs.declared.reply.Reply.{Reply}
use Rattle.iofd_words.specs.declared.reply.Reply.TheVariants as reply
use Rattle.iofd_words.specs.declared.rows.Object.{Object}
use Rattle.iofd_words.specs.declared.rows.ObjectKind.{ObjectKind}
use Rattle.iofd_words.specs.declared.rows.ObjectKind.TheVariants as kind
use Rattle.iofd_words.specs.declared.width.Width.{Width}
use Rattle.journal_audit_page_tables.specs.Pinning.{with_device}
use Rattle.journal_audit_page_tables.specs.Widths.{width_set}
use Rattle.journal_audit_page_tables.proofs.SetWidths.{set_for}
use Rattle.journal_audit_world.specs.Unwritten.{unwritten}

-- ---- HWPT_ALLOC

pub alloc_fresh : (A : Type 0) (w : World) (file : FileNo) (request : HwptRequest) (answer : Reply) (id : ObjId)
    → Answers {A = A} w (event.HwptAlloc file request) answer → answer ≡ reply.Id id
    → is_fresh w.objects file id ≡ true
unfolding Answers
alloc_fresh A w file request answer id answers is =
    subst (λ (r : Reply). Answers {A = A} w (event.HwptAlloc file request) r) is answers

pub alloc_present : (w : World) (file : FileNo) (request : HwptRequest)
    → first_true (hwpt_alloc_checks (view w) file request) ≡ None
    → lacks_attached_page (view w) file request.ioas ≡ false
alloc_present w file request none = (hwpt_passed (view w) file request none).present

-- ---- Attach

pub space_present : (w : World) (device : DeviceNo) (pt_id : ObjId) (bound : Object)
    → binding_of w.objects device ≡ Some bound → kind_of w.objects bound.file pt_id ≡ Some kind.Ioas
    → first_true (attach_checks (view w) device pt_id) ≡ None → lacks_attached_page (view w) bound.file pt_id ≡ false
space_present w device pt_id bound binding space none =
    (attach_passed (view w) device pt_id bound binding space none).present

module _ (A : Type 0) (w : World) (device : DeviceNo) (pt_id id : ObjId) (answer : Reply) (bound : Object)
    (width : Width) (is : answer ≡ reply.Id id) (binding : binding_of w.objects device ≡ Some bound)
    (wide : width_set (device_of w.settings device) ≡ Some width) where
  pub space_answers : kind_of w.objects bound.file pt_id ≡ Some kind.Ioas
      → Answers {A = A} w (event.Attach device pt_id) answer
      → IsHwptFor w bound.file id (automatic_hwpt w.objects bound.file pt_id width)
  unfolding Answers
  space_answers space answers =
      let (d, found, same) = set_for (device_of w.settings device) width wide in
      let lawful = subst (λ (r : Reply). Answers {A = A} w (event.Attach device pt_id) r) is answers in
      let of_bound = subst (λ (o : Option Object). IsHwptOf w pt_id id o (device_of w.settings device)) binding
      lawful in
      let of_set = subst (λ (o : Option DeviceSettings). IsHwptOf w pt_id id (Some bound) o) found of_bound in
      let of_space = subst (λ (k : Option ObjectKind). IsTarget w bound.file pt_id id d.width k) space of_set in
      subst (λ (x : Width). IsHwptFor w bound.file id (automatic_hwpt w.objects bound.file pt_id x)) same of_space

  changes_are : (at : ℕ) (d : DeviceSettings) (k : Option ObjectKind) → device_of w.settings device ≡ Some d
      → kind_of w.objects bound.file pt_id ≡ k
      → target_changes w device pt_id id bound d k ≡ changed {A = A} at w (event.Attach device pt_id) answer
  unfolding changed
  changes_are at d k found named =
      ap (λ (k : Option ObjectKind). target_changes w device pt_id id bound d k) (sym named)
      ∙ ap (λ (o : Option DeviceSettings). attach_changes w device pt_id id (Some bound) o) (sym found)
      ∙ ap (λ (o : Option Object). attach_changes w device pt_id id o (device_of w.settings device)) (sym binding)
      ∙ ap (λ (r : Reply). changed {A = A} at w (event.Attach device pt_id) r) (sym is)

  pub space_done : (at : ℕ) (new : World) → kind_of w.objects bound.file pt_id ≡ Some kind.Ioas
      → unwritten new ≡ unwritten (settle w (with_device (record w {
        objects = with_hwpt bound.file pt_id id width (automatic_hwpt w.objects bound.file pt_id width) w.objects;
      }) device bound.file id))
      → unwritten new ≡ unwritten (changed {A = A} at w (event.Attach device pt_id) answer)
  unfolding attached
  space_done at new space new_is =
      let (d, found, same) = set_for (device_of w.settings device) width wide in
      new_is
      ∙ ap (λ (x : Width). unwritten (settle w (with_device (record w {
        objects = with_hwpt bound.file pt_id id x (automatic_hwpt w.objects bound.file pt_id x) w.objects;
      }) device bound.file id))) (sym same)
      ∙ ap (λ (x : World). unwritten x) (changes_are at d (Some kind.Ioas) found space)

  pub table_done : (at : ℕ) (new : World) (ioas : ObjId) (of : Width) (automatic : Bool)
      → kind_of w.objects bound.file pt_id ≡ Some (kind.Hwpt ioas of automatic)
      → new ≡ with_device w device bound.file id
      → unwritten new ≡ unwritten (changed {A = A} at w (event.Attach device pt_id) answer)
  unfolding joined
  table_done at new ioas of automatic named new_is =
      let (d, found, same) = set_for (device_of w.settings device) width wide in
      ap (λ (x : World). unwritten x) new_is
      ∙ ap (λ (x : World). unwritten x) (changes_are at d (Some (kind.Hwpt ioas of automatic)) found named)
