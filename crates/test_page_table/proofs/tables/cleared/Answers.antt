use Rattle.page_table_words.specs.Rows.{without_page}
use Rattle.test_page_table.proofs.tables.cleared.Goals as goal

pub returns : goal.returns
returns c =
    let is = c.requires in
    rw c.clear.ensures.same (record {
      rows = is.rows;
      pages = without_page is.pages c.args.page;
      stands = rw c.clear.ensures.same at (c.clear.ensures.table is.rows is.pages is.stands).stands;
    })
