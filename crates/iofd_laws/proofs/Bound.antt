-- Every device that is attached, or owes a flush, is bound to the file whose row names it.
use Rattle.std.proofs.Common.{◌≡◌, ℕ, Bool, true, eqb, List, [], refl, sym, ap, ◌∙◌}
use Rattle.std.specs.List.{list_all}
use Rattle.std.proofs.lemmas.Bool.{eqb-true}
use Rattle.iofd_words.specs.Areas.{owed_by}
use Rattle.iofd_rows.specs.Debts.{DebtsAttached, debtors_of}
use Rattle.iofd_words.specs.World.{World}
use Rattle.iofd_words.specs.declared.rows.Area.{Area}
use Rattle.iofd_words.specs.declared.rows.Attachment.{Attachment}
use Rattle.iofd_words.specs.declared.rows.Object.{Object}
use Rattle.iofd_words.specs.declared.rows.Phase.{Phase}
use Rattle.iofd_words.specs.declared.rows.Phase.TheVariants.{Live, Leaving}
use Rattle.iofd_rows.proofs.Each.{IsIn, of_all}
use Rattle.iofd_rows.proofs.Found.{found_passes}
use Rattle.iofd_rows.proofs.Owed.{IsDebtor, each_owed}
use Rattle.iofd_rows.proofs.Bound.{attachments_bound, is_bound_to}

abbrev pub debts_bound : List Object → List Area → Bool
debts_bound objects areas =
    list_all (λ (area : Area). list_all (is_bound_to objects area.file) (owed_by [] area.phase)) areas

pub record AreBound (w : World) : Type 0 where
  pub attachments : attachments_bound w.objects w.attachments ≡ true
  pub debts : debts_bound w.objects w.areas ≡ true

-- a debtor is attached, and so bound to its area's file
pub debts_follow : (w : World) → DebtsAttached w → attachments_bound w.objects w.attachments ≡ true
    → debts_bound w.objects w.areas ≡ true
debts_follow w debts bound =
    of_all (λ (area : Area). list_all (is_bound_to w.objects area.file) (owed_by [] area.phase)) w.areas
    (λ area within. by_phase area area.phase ((each_owed w debts).debtors area within))
  where
    debtor_bound : (area : Area) (device : ℕ) → IsDebtor w.objects w.attachments area.file area.ioas device
        → is_bound_to w.objects area.file device ≡ true
    debtor_bound area device owes =
        let parts = found_passes (λ (a : Attachment). is_bound_to w.objects a.file a.device.0)
        (λ (a : Attachment). eqb a.device.0 device) w.attachments owes.a bound owes.found in
        let here : is_bound_to w.objects area.file owes.a.device.0 ≡ true = rw owes.of_file at parts.0 in
        ap (is_bound_to w.objects area.file) (sym (eqb-true owes.a.device.0 device parts.1)) ∙ here

    by_phase : (area : Area) (phase : Phase)
        → ((device : ℕ) → IsIn (debtors_of phase) device → IsDebtor w.objects w.attachments area.file area.ioas device)
        → list_all (is_bound_to w.objects area.file) (owed_by [] phase) ≡ true
    by_phase area Live debtors = refl
    by_phase area (Leaving owed tries) debtors =
        of_all (is_bound_to w.objects area.file) owed (λ device owes. debtor_bound area device (debtors device owes))
