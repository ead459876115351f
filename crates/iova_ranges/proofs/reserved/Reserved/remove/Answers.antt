use Rattle.std.proofs.Common.{◌==◌, not, rules}
use Rattle.std.proofs.lemmas.Fn.{filter_same}
use Rattle.iova_ranges.specs.declared.reserved.ReservedSpan.{ReservedSpan}
use Rattle.iova_ranges.proofs.reserved.Reserved.remove.Goals as goal

pub returns-clause-rows : goal.returns-clause-rows
returns-clause-rows g c =
    let kept = filter_same _ (λ (row : ReservedSpan). not (row.owner.0 == c.args.owner.0)) _ (λ x b f k. search rules) _
    _ c.retain.ensures.filtered in
    rw (← c.self.view_is) kept
