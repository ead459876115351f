use Rattle.std.proofs.Common.{sym, ◌∙◌}
use Rattle.journal_audit_page_tables.proofs.Indexed.{row_kept, row_new}
use Rattle.journal_audit_page_tables.proofs.page_sets.add.Goals as goal

pub returns-then-contains_key : goal.returns-then-contains_key
returns-then-contains_key g c =
    row_kept c.args.index.now c.args.row.now (sym c.contains_key.ensures ∙ c.if-contains_key.true)

pub returns : goal.returns
returns g c =
    row_new c.args.index.now c.insert.new.self c.args.row.now
    (sym c.contains_key.ensures ∙ c.if-contains_key.false)
    c.in_ok-insert.ensures.updates.0
