use Rattle.std.proofs.Common.{Option, Some, sym, ap, ◌∙◌}
use Rattle.iofd_refusals.specs.Checks.{target_checks}
use Rattle.iofd_words.specs.FirstTrue.{first_true}
use Rattle.iofd_words.specs.declared.rows.ObjectKind.{ObjectKind}
use Rattle.server_state.specs.Seen.{seen}
use Rattle.hwpt_device.proofs.attach.refusal_by_target.Goals as goal

pub returns-in-Some-Hwpt : goal.returns-in-Some-Hwpt
returns-in-Some-Hwpt g c =
    c.refusal_by_table.ensures c.args.pt_id c.in-Some-Hwpt.field-0-2
    ∙ ap (λ (k : Option ObjectKind). first_true
    (target_checks (seen c.args.state.now) c.args.device c.args.pt_id c.args.file k)) (sym
    (ap Some c.in-Some-Hwpt.field-0-is) ∙ sym c.in-Some-Hwpt.is ∙ c.kind_of.ensures)
