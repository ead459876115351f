use Rattle.std.proofs.Common.{arith}
use Rattle.test_page_table.proofs.tables.releases_all.Goals as goal

pub release-requires : goal.release-requires
release-requires c =
    let is = c.requires in
    record {
      rows = is.rows;
      pages = is.pages;
      stands = is.stands;
      enough = omega (
        arith,
        c.frames-frames.ensures is.rows is.pages is.stands,
        c.capacity.ensures,
        c.clear.ensures.len,
        c.if-capacity-frames.false,
      );
    }
