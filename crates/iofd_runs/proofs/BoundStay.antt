-- Devices that are attached stay bound to their files where objects go.
use Rattle.std.proofs.Common.{◌≡◌, Bool, true, ◌&&◌, not, eqb, List, refl, false}
use Rattle.std.specs.List.{filter, list_any}
use Rattle.iofd_steps.specs.After.{goes_with}
use Rattle.iofd_words.specs.Attachments.{has_device_on}
use Rattle.iofd_words.specs.Objects.{is_automatic, is_bound_as, is_object, without_object, is_bound_device, kind_of}
use Rattle.iofd_words.specs.Objects.{objects_of}
use Rattle.iofd_words.specs.World.{World}
use Rattle.iofd_words.specs.declared.numbers.FileNo.{FileNo}
use Rattle.iofd_words.specs.declared.numbers.ObjId.{ObjId}
use Rattle.iofd_words.specs.declared.rows.Attachment.{Attachment}
use Rattle.iofd_words.specs.declared.rows.Object.{Object}
use Rattle.iofd_rows.proofs.Bools.{not_true}
use Rattle.iofd_rows.proofs.Found.{none_both}
use Rattle.iofd_rows.proofs.Bound.{attachments_bound, attachments_stay, file_without_devices, id_without_device}
use Rattle.iofd_rows.proofs.Bound.{no_device_either, stays-filter}
use Rattle.iofd_rows.specs.Debts.{attach_once}
use Rattle.iofd_rows.specs.Ids.{have_own_ids}
use Rattle.iofd_refusals.specs.Checks.{is_device_object}

abbrev pub BoundStay : World → List Object → Type 0
BoundStay w left = have_own_ids w.objects ≡ true → attach_once w.attachments ≡ true
    → attachments_bound w.objects w.attachments ≡ true → attachments_bound left w.attachments ≡ true

-- where what goes is no device
pub destroyed_bound : (w : World) (file : FileNo) (id : ObjId) → is_device_object (kind_of w.objects file id) ≡ false
    → BoundStay w (without_object file id w.objects)
destroyed_bound w file id other own once bound =
    attachments_stay w.objects (without_object file id w.objects) w.attachments
    (stays-filter (is_object file id) w.objects (λ device. id_without_device device file id w.objects own other)) bound

pub closed_bound : (w : World) (file : FileNo)
    → list_any (λ (o : Object). is_bound_device o.kind) (objects_of w.objects file) ≡ false
    → BoundStay w (filter (λ (o : Object). not (eqb o.file.0 file.0)) w.objects)
closed_bound w file none own once bound =
    attachments_stay w.objects (filter (λ (o : Object). not (eqb o.file.0 file.0)) w.objects) w.attachments
    (stays-filter (λ o. eqb o.file.0 file.0) w.objects
    (λ device. file_without_devices device file w.objects none)) bound

-- a page table that goes with its last device
pub detached_bound : (w : World) (a : Attachment) (others : List Attachment)
    → BoundStay w (filter (λ (o : Object). not (goes_with others a o)) w.objects)
detached_bound w a others own once bound =
    attachments_stay w.objects (filter (λ (o : Object). not (goes_with others a o)) w.objects) w.attachments
    (stays-filter (goes_with others a) w.objects
    (λ d. none_both (λ o. is_bound_as d o.kind) (λ o. not (goes_with others a o)) w.objects
    (λ o is. and_more (is_object a.file a.hwpt o) (is_automatic o.kind) (not (has_device_on others a.file a.hwpt))
    (no_device_either d o.kind (is_object a.file a.hwpt o) is)))) bound
  where
    and_more : (p q r : Bool) → not (p && q) ≡ true → not ((p && q) && r) ≡ true
    and_more p q r is = rw (not_true (p && q) is) refl
