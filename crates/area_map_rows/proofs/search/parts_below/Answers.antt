use Rattle.std.proofs.Common.{◌+◌, ◌*◌, ltb, List, arith}
use Rattle.std.specs.List.{prefix_len}
use Rattle.iofd_words.specs.declared.rows.Area.{Area}
use Rattle.area_map_rows.specs.Rows.{end_of}
use Rattle.area_map_rows.proofs.Rows.{parts_passed}
use Rattle.area_map_rows.proofs.search.parts_below.Goals as goal

pub returns-clause-most : goal.returns-clause-most
returns-clause-most g c =
    let first = c.ends_below in
    let second = c.ends_below-2 in
    let third = c.ends_below-3 in
    let most = parts_passed c.args.place c.args.part (c.args.place + c.args.part * 3) first.result second.result
    third.result first.ensures.most second.ensures.most third.ensures.most (omega arith) (λ some. omega arith)
    (λ some. omega arith) (λ some. omega arith) in
    omega (arith, most)

pub returns-clause-below : goal.returns-clause-below
returns-clause-below g c =
    let first = c.ends_below in
    let second = c.ends_below-2 in
    let third = c.ends_below-3 in
    let n = prefix_len (λ (row : List Area). ltb (end_of row) c.args.address) c.args.rows.now in
    parts_passed c.args.place c.args.part n first.result second.result third.result first.ensures.most
    second.ensures.most third.ensures.most c.requires.passed
    (λ some. let far = first.ensures.below some in omega (arith, far))
    (λ some. let far = second.ensures.below some in omega (arith, far))
    (λ some. let far = third.ensures.below some in omega (arith, far))
