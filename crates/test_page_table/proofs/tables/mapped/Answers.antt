use Rattle.test_page_table.proofs.tables.mapped.Goals as goal

pub returns-in-Ok : goal.returns-in-Ok
returns-in-Ok c =
    let is = c.requires in
    let becomes = c.in-Ok.ensures.table is.rows is.pages is.stands in
    record { rows = _; pages = _; stands = becomes.stands }
