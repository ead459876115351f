use Rattle.std.proofs.Common.{◌≤◌, ltb, length, drop, arith}
use Rattle.std.proofs.lemmas.List.{length-drop, take_rest}
use Rattle.iofd_words.specs.declared.rows.Area.{Area}
use Rattle.area_map_rows.proofs.Parts.{below_before}
use Rattle.area_map_rows.proofs.Rows.{prefix_len-behind}
use Rattle.area_map_rows.proofs.lookups.count_before.Goals as goal

pub returns-clause-value : goal.returns-clause-value
returns-clause-value c =
    let passed = c.parts_below-passed in
    let most = below_before c.args.address 0 c.args.areas.now c.requires in
    rw (c.first_before.ensures.value, take_rest c.args.areas.now passed.result)
    (prefix_len-behind (λ (a : Area). ltb a.span.first c.args.address) c.args.areas.now passed.result
    (omega (arith, most, passed.ensures.below)))

pub returns-clause-bound : goal.returns-clause-bound
returns-clause-bound c =
    let passed = c.parts_below-passed in
    let rest : c.first_before.result ≤ length (drop passed.result c.args.areas.now) =
    rw (← take_rest c.args.areas.now passed.result) c.first_before.ensures.bound in
    omega (arith, rest, length-drop passed.result c.args.areas.now, passed.ensures.bound)
