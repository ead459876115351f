use Rattle.std.proofs.Common.{◌∙◌, rules, arith}
use Rattle.iova_ranges.proofs.Replaced.{replaced}
use Rattle.iova_ranges.proofs.adding.replace.Goals as goal

pub index_mut-requires : goal.index_mut-requires
index_mut-requires g c = omega arith

pub drain-requires-clause-start_le_end : goal.drain-requires-clause-start_le_end
drain-requires-clause-start_le_end g c = c.requires.some

pub drain-requires-clause-in_bounds : goal.drain-requires-clause-in_bounds
drain-requires-clause-in_bounds g c = c.requires.within

pub returns-clause-items : goal.returns-clause-items
returns-clause-items g c =
    let left = c.drop.ensures.items ∙ c.drain.ensures.kept
    ∙ replaced c.args.spans.now.items c.args.from c.args.to c.args.span c.requires.some (omega arith) in
    search (rules, left)

pub returns-clause-capacity : goal.returns-clause-capacity
returns-clause-capacity g c =
    let left = c.drop.ensures.capacity ∙ c.drain.ensures.capacity in
    search (rules, left)
