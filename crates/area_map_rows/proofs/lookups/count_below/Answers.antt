use Rattle.std.proofs.Common.{ltb, arith}
use Rattle.std.proofs.lemmas.List.{take_rest}
use Rattle.iofd_words.specs.declared.rows.Area.{Area}
use Rattle.area_map_rows.proofs.Parts.{passed_within}
use Rattle.area_map_rows.proofs.Rows.{prefix_len-behind}
use Rattle.area_map_rows.proofs.lookups.count_below.Goals as goal

pub returns-clause-value : goal.returns-clause-value
returns-clause-value c =
    let passed = c.parts_below-passed in
    rw (c.first_below.ensures.value, take_rest c.args.areas.now passed.result)
    (prefix_len-behind (λ (a : Area). ltb a.span.last c.args.address) c.args.areas.now passed.result
    passed.ensures.below)

pub returns-clause-bound : goal.returns-clause-bound
returns-clause-bound c =
    let is = returns-clause-value c in
    omega (arith, is, passed_within c.args.address c.args.areas.now)
