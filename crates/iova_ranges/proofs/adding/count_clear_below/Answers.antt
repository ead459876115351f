use Rattle.std.proofs.Common.{◌+◌, rules}
use Rattle.std.proofs.lemmas.List.Sorted.{IsPartitionPoint-from_clause, IsPartitionedBy-ltb}
use Rattle.iofd_words.specs.Bounds.{Bounds}
use Rattle.iova_ranges.specs.Adding.{is_clear_below}
use Rattle.iova_ranges.proofs.Merged.{ends_rise_by, prefix_len-from_within}
use Rattle.iova_ranges.proofs.adding.count_clear_below.Goals as goal

pub returns-clause-value : goal.returns-clause-value
returns-clause-value c =
    let xs = c.args.spans.now in
    let below = is_clear_below c.args.number in
    let parts = IsPartitionPoint-from_clause below xs c.partition_point.result c.partition_point.ensures.partitioned
    (IsPartitionedBy-ltb (λ (x : Bounds). x.last + 1) xs c.args.number (ends_rise_by xs c.requires))
    (λ a r f k. search rules) in
    prefix_len-from_within below xs c.partition_point.result c.partition_point.ensures.bound parts.0 parts.1
