use Rattle.std.proofs.Common.{not, rules}
use Rattle.std.proofs.lemmas.Fn.{filter_same}
use Rattle.iofd_words.specs.Areas.{is_touched}
use Rattle.iofd_words.specs.declared.rows.Area.{Area}
use Rattle.journal_audit_maps.proofs.leaving.remove_touched.Goals as goal

pub returns : goal.returns
returns g c = filter_same _ (λ (row : Area). not (is_touched c.args.file c.args.request row)) _
    (λ x b f k. search rules) _ _ c.retain.ensures.filtered
