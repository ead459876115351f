use Rattle.std.proofs.Common.{ℕ, List, refl, length, eqb, sym, ap, ◌∙◌}
use Rattle.iommufd_script.specs.Fields.{fields_left}
use Rattle.iommufd_script.proofs.Parts.{some_left}
use Rattle.iommufd_script.proofs.fields.Fields.end.Goals as goal

pub returns-in-Some : goal.returns-in-Some
returns-in-Some g c =
    let some = some_left c.in-Some.field-0.now
    ∙ ap (λ (texts : List (List ℕ)). eqb (length texts) 0) (sym (ap fields_left c.in-Some.is) ∙ c.self.view_is) in
    rw (← some) refl
