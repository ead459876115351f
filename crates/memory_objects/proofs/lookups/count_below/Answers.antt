use Rattle.std.proofs.Common.{ltb, rules}
use Rattle.std.proofs.lemmas.List.Sorted.{IsPartitionPoint-from_clause}
use Rattle.memory_objects.specs.Objects.{MemoryEntry}
use Rattle.memory_objects.proofs.Numbered.{partitioned, prefix_len-from_within}
use Rattle.memory_objects.proofs.lookups.count_below.Goals as goal

pub returns-clause-value : goal.returns-clause-value
returns-clause-value g c =
    let objects = c.args.entries.now in
    let below = λ (o : MemoryEntry). ltb o.number c.args.number in
    let parts = IsPartitionPoint-from_clause below objects c.partition_point.result
    c.partition_point.ensures.partitioned (partitioned c.args.number objects c.requires)
    (λ a r f k. search rules) in
    prefix_len-from_within below objects c.partition_point.result c.partition_point.ensures.bound parts.0 parts.1
