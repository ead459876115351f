use Rattle.std.proofs.Common.{not, ◌&&◌, eqb, rules}
use Rattle.std.proofs.lemmas.Fn.{filter_same}
use Rattle.iofd_words.specs.Objects.{is_bound_device}
use Rattle.iofd_words.specs.declared.rows.Object.{Object}
use Rattle.journal_audit_world.proofs.objects.remove_device.Goals as goal

pub returns : goal.returns
returns g c = filter_same _ (λ (row : Object). not (eqb row.file.0 c.args.file.0 && eqb row.id.0 c.args.id.0 &&
    is_bound_device row.kind)) _
    (λ x b f k. search rules) _ _ c.retain.ensures.filtered
