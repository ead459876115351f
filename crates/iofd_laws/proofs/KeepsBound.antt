-- Every event keeps ids unique, and devices bound to the files whose rows name them.
use Rattle.std.proofs.Common.{◌≡◌, ℕ, true, eqb, Some, None, List, refl, ap, ◌∙◌, arith, subst}
use Rattle.std.proofs.lemmas.Bool.Decides.{nat_tests}
use Rattle.iofd_steps.specs.After.{changed}
use Rattle.iofd_steps.specs.Answers.{Answers}
use Rattle.iofd_refusals.specs.Checks.{refusal}
use Rattle.iofd_words.specs.Objects.{binding_of, with_object, with_access, is_bound_as}
use Rattle.iofd_words.specs.Settings.{Settings}
use Rattle.iofd_words.specs.Tables.{with_tables}
use Rattle.iofd_words.specs.World.{World, opening}
use Rattle.iofd_words.specs.declared.event.Event.{Event}
use Rattle.iofd_words.specs.declared.numbers.DeviceNo.{DeviceNo}
use Rattle.iofd_words.specs.declared.numbers.FileNo.{FileNo}
use Rattle.iofd_words.specs.declared.numbers.FrameNo.{FrameNo}
use Rattle.iofd_words.specs.declared.reply.Reply.{Reply}
use Rattle.iofd_words.specs.declared.rows.Object.{Object}
use Rattle.iofd_rows.proofs.Found.{all_filter}
use Rattle.iofd_runs.proofs.KeepsDebts.{IsSound, keeps_sound, tabled_sound}
use Rattle.iofd_laws.proofs.Bound.{AreBound, debts_follow}
use Rattle.iofd_rows.proofs.Bound.{attachments_bound, attachments_stay, attachments-with_attachment, is_bound_to}
use Rattle.iofd_rows.proofs.Bound.{is_of_file, stays_more, find_stays}
use Rattle.iofd_rows.proofs.Accesses.{found_reattached}
use Rattle.iofd_runs.proofs.Moves.{AttachmentsMove, Fewer, FewerAttachments, More, ObjectsMove, OneAttachment, Same}
use Rattle.iofd_runs.proofs.Moves.{SameAttachments, changed_moves, Reattached}

abbrev AttachmentsBound : World → Type 0
AttachmentsBound w = attachments_bound w.objects w.attachments ≡ true

-- what holds of every world of a run
pub record IsTidy (w : World) : Type 0 where
  pub sound : IsSound w
  pub attachments : AttachmentsBound w

pub opening_tidy : (settings : Settings) → IsTidy (opening settings)
opening_tidy settings = record {
  sound = record {
    own_ids = refl;
    debts = record {
      once = refl;
      debtors = refl;
      tables = refl;
      spaces = refl;
      areas = refl;
    };
  };
  attachments = refl;
}

pub are_bound : (w : World) → IsTidy w → AreBound w
are_bound w tidy = record { attachments = tidy.attachments; debts = debts_follow w tidy.sound.debts tidy.attachments }

eqb_same : (n : ℕ) → eqb n n ≡ true
eqb_same n = grind (arith, nat_tests)

-- the device's own binding names its file
bound_here : (objects : List Object) (device : DeviceNo) (object : Object) → binding_of objects device ≡ Some object
    → is_bound_to objects object.file device.0 ≡ true
bound_here objects device object is = ap (is_of_file object.file) is ∙ eqb_same object.file.0

keeps_attachments : {A : Type 0} → (at : ℕ) (w : World) (e : Event A) (answer : Reply) → refusal w e ≡ None → IsTidy w
    → AttachmentsBound (changed at w e answer)
keeps_attachments at w e answer none tidy =
    by_attachments (changed at w e answer) (changed_moves at w e answer).attachments
    (by_objects (changed at w e answer) (changed_moves at w e answer).objects)
  where
    by_objects : (new : World) → ObjectsMove w e answer new → attachments_bound new.objects w.attachments ≡ true
    by_objects new (Same is) = rw is tidy.attachments
    by_objects new (Fewer stays stay bound is) =
        rw is (bound none tidy.sound.own_ids tidy.sound.debts.once tidy.attachments)
    by_objects new (Reattached file id attached is) =
        rw is (attachments_stay w.objects (with_access file id attached w.objects) w.attachments
        (find_stays w.objects (with_access file id attached w.objects) (λ device. found_reattached file id attached
        (λ o. is_bound_as device o.kind) (λ o before is. ap (is_bound_as device) is) w.objects)) tidy.attachments)
    by_objects new (More object fresh admitted makes is) =
        rw is (attachments_stay w.objects (with_object object w.objects) w.attachments
        (stays_more object w.objects (admitted none).unbound) tidy.attachments)

    by_attachments : (new : World) → AttachmentsMove w e answer new
        → attachments_bound new.objects w.attachments ≡ true → AttachmentsBound new
    by_attachments new (SameAttachments is) bound = rw is bound
    by_attachments new (FewerAttachments stays is) bound = rw is (all_filter _ stays w.attachments bound)
    by_attachments new (OneAttachment a object binding still of_file free served is) bound =
        rw is (attachments-with_attachment new.objects a w.attachments
        (subst (λ (f : FileNo). is_bound_to new.objects f a.device.0 ≡ true) of_file
        (bound_here new.objects a.device object still)) bound)

pub keeps_tidy : {A : Type 0} → (at : ℕ) (w : World) (e : Event A) (answer : Reply) → refusal w e ≡ None
    → Answers w e answer → IsTidy w → IsTidy (changed at w e answer)
keeps_tidy at w e answer none answers tidy = record {
  sound = keeps_sound at w e answer none answers tidy.sound;
  attachments = keeps_attachments at w e answer none tidy;
}

-- the frames of tables are no part of it
pub tabled_tidy : (w : World) (taken given : List FrameNo) → IsTidy w → IsTidy (with_tables taken given w)
unfolding with_tables
tabled_tidy w taken given tidy =
    record { sound = tabled_sound w taken given tidy.sound; attachments = tidy.attachments }
