use Rattle.std.proofs.Common.{arith}
use Rattle.test_page_table.proofs.tables.pruned.Goals as goal

pub prune-requires : goal.prune-requires
prune-requires c =
    let is = c.requires in
    record {
      rows = is.rows;
      pages = is.pages;
      stands = is.stands;
      enough = omega (
        arith,
        c.prunable-count.ensures is.rows is.pages is.stands,
        c.if-capacity-len.false,
        c.capacity.ensures,
        c.len.ensures,
      );
    }

pub returns : goal.returns
returns c =
    let is = c.requires in
    record { rows = _; pages = is.pages; stands = c.prune.ensures.table is.rows is.pages is.stands }
