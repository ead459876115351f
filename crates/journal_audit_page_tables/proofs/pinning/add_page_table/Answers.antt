use Rattle.std.proofs.Common.{◌∙◌}
use Rattle.journal_audit_page_tables.proofs.TableComes.{table_made}
use Rattle.journal_audit_page_tables.proofs.Told.{if_ok}
use Rattle.journal_audit_page_tables.proofs.pinning.add_page_table.Goals as goal

pub returns : goal.returns
returns g c =
    if_ok c.add.result _ _
    (λ done is. table_made c.args.at c.args.world.now c.args.file c.args.ioas c.args.id c.args.width c.args.automatic
    c.requires.kept c.requires.fresh _ _ (c.world.view_is ∙ c.in_ok-pin_first.ensures) is)
    c.add.ensures
