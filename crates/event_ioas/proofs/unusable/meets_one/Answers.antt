use Rattle.std.proofs.Common.{ltb, leb, ltb-true, rules, arith, ap, sym, ◌∙◌}
use Rattle.std.proofs.lemmas.Bool.Decides.{nat_tests}
use Rattle.std.proofs.lemmas.List.Sorted.{IsPartitionPoint-from_clause}
use Rattle.iofd_words.specs.Bounds.{Bounds}
use Rattle.event_ioas.proofs.UnusableAmong.{ends_parted, met_at_first, met_by_none}
use Rattle.event_ioas.proofs.unusable.meets_one.Goals as goal

pub returns-in-Some : goal.returns-in-Some
returns-in-Some c =
    let point = IsPartitionPoint-from_clause (λ r. ltb r.last c.args.span.first) _ _
    c.partition_point-at.ensures.partitioned (ends_parted c.args.ranges.now c.args.span.first c.requires)
    (λ a r q k. search rules) in
    let there = c.in-Some.ensures.lookup in
    rw c.last.ensures.value (ap (λ (r : Bounds). leb r.first c.args.span.last) (c.range.view_is ∙ there.1))
    ∙ met_at_first c.args.ranges.now c.args.span c.partition_point-at.result c.in-Some.range.now c.requires point
    (ltb-true _ _ (sym there.0))

pub returns-in-None : goal.returns-in-None
returns-in-None c =
    let point = IsPartitionPoint-from_clause (λ r. ltb r.last c.args.span.first) _ _
    c.partition_point-at.ensures.partitioned (ends_parted c.args.ranges.now c.args.span.first c.requires)
    (λ a r q k. search rules) in
    sym (met_by_none c.args.ranges.now c.args.span c.partition_point-at.result point
    (search (arith, nat_tests, c.in-None.ensures.lookup)))
