-- In each world of a run an attached device's page table is of the device's width.
use Rattle.std.proofs.Common.{◌≡◌, ℕ, true, None, List, ◌∙◌, ◌⊎◌, inl, inr, ⊎_elim, subst, Bool, Some, refl}
use Rattle.iofd_steps.specs.After.{changed}
use Rattle.iofd_steps.specs.Answers.{Answers}
use Rattle.iofd_refusals.specs.Checks.{refusal}
use Rattle.iofd_words.specs.Settings.{Settings, DeviceSettings}
use Rattle.iofd_words.specs.Tables.{with_tables}
use Rattle.iofd_words.specs.World.{World}
use Rattle.iofd_words.specs.declared.event.Event.{Event}
use Rattle.iofd_words.specs.declared.numbers.FrameNo.{FrameNo}
use Rattle.iofd_words.specs.declared.reply.Reply.{Reply}
use Rattle.iofd_words.specs.declared.rows.Attachment.{Attachment}
use Rattle.iofd_words.specs.declared.rows.Object.{Object}
use Rattle.iofd_rows.specs.Ids.{have_own_ids}
use Rattle.iofd_rows.proofs.Each.{IsIn, in_filter, in_with_attachment}
use Rattle.iofd_rows.proofs.Owed.{each_owed}
use Rattle.iofd_runs.proofs.KeepsDebts.{IsSound, keeps_sound, tabled_sound}
use Rattle.iofd_runs.proofs.SameSettings.{changed_settings}
use Rattle.iofd_promises.proofs.Comes.{came, same_kind}
use Rattle.iofd_runs.proofs.Moves.{AttachmentsMove, FewerAttachments, OneAttachment, SameAttachments, changed_moves}
use Rattle.iofd_runs.proofs.Served.{IsServed}
use Rattle.iofd_words.specs.Files.{device_of}
use Rattle.iofd_words.specs.Objects.{kind_of}
use Rattle.iofd_words.specs.Width.{bits_of}
use Rattle.iofd_words.specs.declared.rows.ObjectKind.TheVariants as kind
use Rattle.iofd_words.specs.declared.numbers.ObjId.{ObjId}
use Rattle.iofd_words.specs.declared.width.Width.{Width}

-- whatever page table the attachment names has the bits of the device's width
abbrev pub IsOfWidth : Settings → List Object → Attachment → Type 0
IsOfWidth settings objects a =
    (d : DeviceSettings) (ioas : ObjId) (width : Width) (automatic : Bool) → device_of settings a.device ≡ Some d
    → kind_of objects a.file a.hwpt ≡ Some (kind.Hwpt ioas width automatic) → bits_of d.width ≡ bits_of width

served_width : (w : World) (objects : List Object) (a : Attachment) → IsServed w objects a
    → IsOfWidth w.settings objects a
served_width w objects a s = λ d ioas width automatic known table.
    let same : s.device ≡ d = let other = s.known in cc in
    let one : kind.Hwpt s.ioas s.width s.automatic ≡ kind.Hwpt ioas width automatic = let other = s.table in cc in
    let of : s.width ≡ width = cc in
    rw (← same, ← of) s.same_width

-- an attachment is an old one, or it is of its device's width
abbrev AttachCame : World → List Object → Attachment → Type 0
AttachCame w objects a = IsIn w.attachments a ⊎ IsOfWidth w.settings objects a

attach_came : {A : Type 0} (w : World) (e : Event A) (answer : Reply) (new : World) → AttachmentsMove w e answer new
    → refusal w e ≡ None → Answers w e answer → have_own_ids w.objects ≡ true → (a : Attachment)
    → IsIn new.attachments a → AttachCame w new.objects a
attach_came w e answer new (SameAttachments is) none answers own a within = inl (rw is at within)
attach_came w e answer new (FewerAttachments stays is) none answers own a within =
    inl (in_filter stays w.attachments a (rw is at within)).0
attach_came w e answer new (OneAttachment one bound binding still of_file free served is) none answers own a within =
    ⊎_elim
    (λ (same : one ≡ a). inr (subst (IsOfWidth w.settings new.objects) same
    (served_width w new.objects one (served none answers own))))
    (λ (old : IsIn w.attachments a). inl old)
    (in_with_attachment one w.attachments a (rw is at within))

pub record WidthSound (settings : Settings) (w : World) : Type 0 where
  pub opened : w.settings ≡ settings
  pub sound : IsSound w
  pub widths : (a : Attachment) → IsIn w.attachments a → IsOfWidth settings w.objects a

pub keeps_widths : {A : Type 0} → (settings : Settings) (at : ℕ) (w : World) (e : Event A) (answer : Reply)
    → refusal w e ≡ None → Answers w e answer → WidthSound settings w → WidthSound settings (changed at w e answer)
keeps_widths settings at w e answer none answers s = record {
  opened = changed_settings at w e answer ∙ s.opened;
  sound = keeps_sound at w e answer none answers s.sound;
  widths = λ a within. by_row a (attach_came w e answer (changed at w e answer)
      (changed_moves at w e answer).attachments none answers s.sound.own_ids a within);
}
  where
    by_row : (a : Attachment) → AttachCame w (changed at w e answer).objects a
        → IsOfWidth settings (changed at w e answer).objects a
    by_row a (inl old) = λ d ioas width automatic known table.
        let had = (each_owed w s.sound.debts).tables a old in
        s.widths a old d ioas width automatic known
        (same_kind w.objects (changed at w e answer).objects a.file a.hwpt
        (kind.Hwpt had.ioas had.width had.automatic) _ s.sound.own_ids
        (came at w e answer none answers) refl had.table table)
    by_row a (inr new) = λ d ioas width automatic known table. new d ioas width automatic (rw s.opened known) table

pub tabled_widths : (settings : Settings) (w : World) (taken given : List FrameNo) → WidthSound settings w
    → WidthSound settings (with_tables taken given w)
unfolding with_tables
tabled_widths settings w taken given s =
    record { opened = s.opened; sound = tabled_sound w taken given s.sound; widths = s.widths }
