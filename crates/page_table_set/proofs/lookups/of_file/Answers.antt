use Rattle.std.proofs.Common.{arith}
use Rattle.page_table_set.proofs.ByFile.{below-until, between}
use Rattle.page_table_set.proofs.lookups.of_file.Goals as goal

pub slice_bounds-result-count : goal.slice_bounds-result-count
slice_bounds-result-count c =
    let order = below-until c.args.file.0 c.args.tables.now in
    omega (arith, order, c.count_below-from.ensures.value, c.count_until-to.ensures.value)

pub slice_bounds-result-start : goal.slice_bounds-result-start
slice_bounds-result-start c =
    let order = below-until c.args.file.0 c.args.tables.now in
    omega (arith, order, c.count_below-from.ensures.value, c.count_until-to.ensures.value)

pub returns : goal.returns
returns c =
    rw (c.count_below-from.ensures.value, c.count_until-to.ensures.value)
    (between c.args.file.0 c.args.tables.now c.requires)
