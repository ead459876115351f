use Rattle.std.proofs.Common.{not, eqb, rules}
use Rattle.std.proofs.lemmas.Fn.{filter_same}
use Rattle.iofd_words.specs.Dirty.{TrackedTable}
use Rattle.journal_audit_world.proofs.tracked.stop_file.Goals as goal

pub returns : goal.returns
returns g c = filter_same _ (λ (table : TrackedTable). not (eqb table.file.0 c.args.file.0)) _
    (λ x b f k. search rules) _ _ c.retain.ensures.filtered
