-- What is known of an attachment that comes: its device and its page table are there, of one width, and narrow nothing.
use Rattle.std.proofs.Common.{◌≡◌, ◌∷◌, Bool, true, false, ◌&&◌, eqb, Option, Some, None, List, refl, ap, sym, ◌∙◌}
use Rattle.std.proofs.lemmas.Bool.{eqb-true, not-false}
use Rattle.iofd_rows.proofs.Bools.{and_true}
use Rattle.iofd_rows.proofs.Each.{in_found}
use Rattle.iofd_rows.proofs.Named.{file_is, kind_new, kind_only}
use Rattle.iofd_rows.proofs.OwnIds.{unused}
use Rattle.iofd_rows.specs.Ids.{have_own_ids}
use Rattle.iofd_runs.proofs.AttachMoves.{automatic_kind}
use Rattle.iofd_runs.proofs.NotRefused.{JoinPassed}
use Rattle.iofd_steps.specs.After.{with_hwpt}
use Rattle.iofd_steps.specs.Answers.{IsHwptFor}
use Rattle.iofd_refusals.specs.Checks.{has_other_width, narrows, narrows_without}
use Rattle.iofd_words.specs.Files.{device_of}
use Rattle.iofd_words.specs.Objects.{automatic_hwpt, is_automatic_over, kind_of}
use Rattle.iofd_words.specs.Settings.{DeviceSettings}
use Rattle.iofd_words.specs.Usable.{beyond, reserved_by}
use Rattle.iofd_words.specs.View.{view}
use Rattle.iofd_words.specs.Width.{bits_of}
use Rattle.iofd_words.specs.World.{World}
use Rattle.iofd_words.specs.declared.numbers.DeviceNo.{DeviceNo}
use Rattle.iofd_words.specs.declared.numbers.FileNo.{FileNo}
use Rattle.iofd_words.specs.declared.numbers.ObjId.{ObjId}
use Rattle.iofd_words.specs.declared.rows.Attachment.{Attachment}
use Rattle.iofd_words.specs.declared.rows.Object.{Object}
use Rattle.iofd_words.specs.declared.rows.ObjectKind.TheVariants as kind
use Rattle.iofd_words.specs.declared.width.Width.{Width}

pub record IsServed (w : World) (objects : List Object) (a : Attachment) : Type 0 where
  pub device : DeviceSettings
  pub ioas : ObjId
  pub width : Width
  pub automatic : Bool
  pub known : device_of w.settings a.device ≡ Some device
  pub table : kind_of objects a.file a.hwpt ≡ Some (kind.Hwpt ioas width automatic)
  pub same_width : bits_of device.width ≡ bits_of width
  pub wide : narrows_without (view w) a.file ioas (beyond device.width ∷ reserved_by device) ≡ false

-- by the automatic page table, or by one that is made
pub made_served : (w : World) (device : DeviceNo) (file : FileNo) (ioas id : ObjId) (d : DeviceSettings)
    (o : Option Object) → have_own_ids w.objects ≡ true → device_of w.settings device ≡ Some d
    → automatic_hwpt w.objects file ioas d.width ≡ o → IsHwptFor w file id o
    → narrows_without (view w) file ioas (beyond d.width ∷ reserved_by d) ≡ false
    → IsServed w (with_hwpt file ioas id d.width o w.objects) (record { device = device; file = file; hwpt = id })
made_served w device file ioas id d (Some object) own known found answers wide =
    let (within, passes) = in_found (λ (object : Object). eqb object.file.0 file.0
    && is_automatic_over ioas d.width object.kind) w.objects object found in
    let parts = and_true (eqb object.file.0 file.0) (is_automatic_over ioas d.width object.kind) passes in
    let (of, is_kind, bits) = automatic_kind object.kind ioas d.width parts.1 in
    let here : kind_of w.objects file id ≡ Some object.kind =
    rw (← file_is object.file file parts.0, answers) (kind_only w.objects object own within) in
    record {
      device = d;
      ioas = ioas;
      width = of;
      automatic = true;
      known = known;
      table = here ∙ ap Some is_kind;
      same_width = bits;
      wide = wide;
    }
made_served w device file ioas id d None own known found answers wide =
    record {
      device = d;
      ioas = ioas;
      width = d.width;
      automatic = true;
      known = known;
      table = kind_new (record { file = file; id = id; kind = kind.Hwpt ioas d.width true }) w.objects
          (unused w.objects file id answers);
      same_width = refl;
      wide = wide;
    }

-- by the page table that is named
pub joined_served : (w : World) (device : DeviceNo) (bound : Object) (ioas id : ObjId) (d : DeviceSettings)
    (width : Width) (automatic : Bool) → device_of w.settings device ≡ Some d
    → kind_of w.objects bound.file id ≡ Some (kind.Hwpt ioas width automatic)
    → JoinPassed (view w) device ioas width bound
    → IsServed w w.objects (record { device = device; file = bound.file; hwpt = id })
joined_served w device bound ioas id d width automatic known table passed =
    record {
      device = d;
      ioas = ioas;
      width = width;
      automatic = automatic;
      known = known;
      table = table;
      same_width = eqb-true (bits_of d.width) (bits_of width) (not-false _
          (sym (ap (λ (o : Option DeviceSettings). has_other_width o width) known) ∙ passed.same_width));
      wide = sym (ap (narrows (view w) bound.file ioas) known) ∙ passed.wide;
    }
