use Rattle.std.proofs.Common.{not, ◌&&◌, rules}
use Rattle.std.proofs.lemmas.Fn.{filter_same}
use Rattle.iofd_words.specs.Objects.{is_automatic, is_object}
use Rattle.iofd_words.specs.declared.rows.Object.{Object}
use Rattle.journal_audit_world.proofs.objects.remove_automatic.Goals as goal

pub returns : goal.returns
returns g c = filter_same _ (λ (row : Object). not (is_object c.args.file c.args.id row && is_automatic row.kind
    && not c.args.is_used)) _ (λ x b f k. search rules) _ _ c.retain.ensures.filtered
