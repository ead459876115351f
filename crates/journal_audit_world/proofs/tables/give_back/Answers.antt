use Rattle.std.proofs.Common.{not, rules}
use Rattle.std.proofs.lemmas.Fn.{filter_same}
use Rattle.iofd_words.specs.Tables.{is_among}
use Rattle.iofd_words.specs.declared.rows.TableFrame.{TableFrame}
use Rattle.journal_audit_world.proofs.tables.give_back.Goals as goal

pub returns : goal.returns
returns g c = filter_same _ (λ (row : TableFrame). not (is_among c.args.frames.now row.frame)) _
    (λ x b f k. search rules) _ _ c.retain.ensures.filtered
