use Rattle.std.proofs.Common.{sym, ap, ◌∙◌}
use Rattle.iommufd_script.specs.Digits.{hexadecimal}
use Rattle.iommufd_script.specs.Fields.{fields_left, first_value, next}
use Rattle.iommufd_script.proofs.FirstField.{no_value}
use Rattle.iommufd_script.proofs.fields.Fields.hexadecimal_u64.Goals as goal

pub returns-in_err-number : goal.returns-in_err-number
unfolding next
returns-in_err-number c =
    c.from_residual-in_err-number.ensures
    ∙ no_value (hexadecimal 64) c.in_ok-line.line.now (sym c.in_err-number.was ∙ c.hexadecimal_field.ensures)
    ∙ ap (first_value (hexadecimal 64)) (sym (ap fields_left c.in_ok-line.was) ∙ c.self.view_is)
