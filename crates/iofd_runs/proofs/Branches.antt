-- The world after an event that looks a row up: it changes by that row, and stays where there is none.
use Rattle.std.proofs.Common.{Bool, Option, Some, None, refl, ◌≡◌}
use Rattle.iofd_steps.specs.After.{attach_changes, attached, detach_changes, detached, joined, settle, target_changes}
use Rattle.iofd_steps.specs.Answers.{IsHwptFor, IsHwptOf, IsTarget}
use Rattle.iofd_words.specs.Attachments.{attachment_of}
use Rattle.iofd_words.specs.Files.{device_of}
use Rattle.iofd_words.specs.Objects.{automatic_hwpt, binding_of, kind_of}
use Rattle.iofd_words.specs.Settings.{DeviceSettings}
use Rattle.iofd_words.specs.World.{World}
use Rattle.iofd_words.specs.declared.numbers.DeviceNo.{DeviceNo}
use Rattle.iofd_words.specs.declared.numbers.ObjId.{ObjId}
use Rattle.iofd_words.specs.declared.rows.Attachment.{Attachment}
use Rattle.iofd_words.specs.declared.rows.Object.{Object}
use Rattle.iofd_words.specs.declared.rows.ObjectKind.{ObjectKind}
use Rattle.iofd_words.specs.declared.rows.ObjectKind.TheVariants as kind
use Rattle.iofd_words.specs.declared.width.Width.{Width}

-- by whether something was found: the user of a MAP, the source of a COPY, the device of a HWPT_ALLOC
pub by_found : {X : Type 0} (P : Option X → Type 0) (o : Option X) → P None → ((x : X) → o ≡ Some x → P (Some x)) → P o
by_found P None none some = none
by_found P (Some x) none some = some x refl

-- the same, where something is known of the world after it
pub by_found_kept : {X : Type 0} (K P : Option X → Type 0) (o : Option X) → K o → P None
    → ((x : X) → o ≡ Some x → K (Some x) → P (Some x)) → P o
by_found_kept K P None kept none some = none
by_found_kept K P (Some x) kept none some = some x refl kept

-- a device that is attached is detached
pub by_attachment : (w : World) (device : DeviceNo) (P : World → Type 0) → P w
    → ((a : Attachment) → attachment_of w.attachments device ≡ Some a → P (settle w (detached w device a)))
    → P (detach_changes w device (attachment_of w.attachments device))
by_attachment w device P stays detaches =
    by_found (λ a. P (detach_changes w device a)) (attachment_of w.attachments device) stays detaches

pub by_attachment_kept : (w : World) (device : DeviceNo) (K P : World → Type 0)
    → K (detach_changes w device (attachment_of w.attachments device)) → P w
    → ((a : Attachment) → attachment_of w.attachments device ≡ Some a → K (settle w (detached w device a))
    → P (settle w (detached w device a)))
    → P (detach_changes w device (attachment_of w.attachments device))
by_attachment_kept w device K P kept stays detaches =
    by_found_kept (λ a. K (detach_changes w device a)) (λ a. P (detach_changes w device a))
    (attachment_of w.attachments device) kept stays detaches

-- a device that is bound is attached: to an address space, by its automatic page table or a new one, or to the page
-- table that is named. Of a lawful answer more is known, and elsewhere no answer is lawful
module _ (w : World) (device : DeviceNo) (pt_id id : ObjId) (P : World → Type 0) where
  abbrev IsHere : Type 0
  IsHere = IsHwptOf w pt_id id (binding_of w.objects device) (device_of w.settings device)

  pub by_target : ((IsHere → ⊥) → P w)
      → ((bound : Object) (settings : DeviceSettings) → binding_of w.objects device ≡ Some bound
      → device_of w.settings device ≡ Some settings → kind_of w.objects bound.file pt_id ≡ Some kind.Ioas
      → (IsHere → IsHwptFor w bound.file id (automatic_hwpt w.objects bound.file pt_id settings.width))
      → P (settle w (attached w device pt_id id bound settings)))
      → ((bound : Object) (settings : DeviceSettings) (ioas : ObjId) (width : Width) (automatic : Bool)
      → binding_of w.objects device ≡ Some bound → device_of w.settings device ≡ Some settings
      → kind_of w.objects bound.file pt_id ≡ Some (kind.Hwpt ioas width automatic) → (IsHere → id ≡ pt_id)
      → P (joined w device id bound))
      → P (attach_changes w device pt_id id (binding_of w.objects device) (device_of w.settings device))
  by_target stays to_space to_table =
      by_device (binding_of w.objects device) refl (device_of w.settings device) refl (λ here. here)
    where
      by_device : (o : Option Object) → binding_of w.objects device ≡ o → (s : Option DeviceSettings)
          → device_of w.settings device ≡ s → (IsHere → IsHwptOf w pt_id id o s)
          → P (attach_changes w device pt_id id o s)
      by_device None bound s known here = stays here
      by_device (Some object) bound None known here = stays here
      by_device (Some object) bound (Some settings) known here =
          by_kind (kind_of w.objects object.file pt_id) refl here
        where
          by_kind : (k : Option ObjectKind) → kind_of w.objects object.file pt_id ≡ k
              → (IsHere → IsTarget w object.file pt_id id settings.width k)
              → P (target_changes w device pt_id id object settings k)
          by_kind (Some kind.Ioas) named here = to_space object settings bound known named here
          by_kind (Some (kind.Hwpt ioas width automatic)) named here =
              to_table object settings ioas width automatic bound known named here
          by_kind (Some (kind.Device other)) named here = stays here
          by_kind (Some (kind.Access attached)) named here = stays here
          by_kind None named here = stays here

-- the same, where something is known of the world after it
module _ (w : World) (device : DeviceNo) (pt_id id : ObjId) (K P : World → Type 0) where
  pub by_target_kept : K (attach_changes w device pt_id id (binding_of w.objects device) (device_of w.settings device))
      → ((IsHere w device pt_id id P → ⊥) → P w)
      → ((bound : Object) (settings : DeviceSettings) → binding_of w.objects device ≡ Some bound
      → device_of w.settings device ≡ Some settings → kind_of w.objects bound.file pt_id ≡ Some kind.Ioas
      → (IsHere w device pt_id id P
      → IsHwptFor w bound.file id (automatic_hwpt w.objects bound.file pt_id settings.width))
      → K (settle w (attached w device pt_id id bound settings))
      → P (settle w (attached w device pt_id id bound settings)))
      → ((bound : Object) (settings : DeviceSettings) (ioas : ObjId) (width : Width) (automatic : Bool)
      → binding_of w.objects device ≡ Some bound → device_of w.settings device ≡ Some settings
      → kind_of w.objects bound.file pt_id ≡ Some (kind.Hwpt ioas width automatic)
      → (IsHere w device pt_id id P → id ≡ pt_id) → K (joined w device id bound) → P (joined w device id bound))
      → P (attach_changes w device pt_id id (binding_of w.objects device) (device_of w.settings device))
  by_target_kept kept stays to_space to_table =
      by_target w device pt_id id (λ new. K new → P new) (λ nowhere kept. stays nowhere) to_space to_table kept
