use Rattle.std.proofs.Common.{ltb, rules}
use Rattle.std.proofs.lemmas.List.Sorted.{IsPartitionPoint-from_clause}
use Rattle.iofd_words.specs.Objects.{is_bound_device}
use Rattle.iofd_words.specs.declared.rows.Object.{Object}
use Rattle.server_state.specs.Devices.{bound_number}
use Rattle.server_state.proofs.Bindings.{bindings_rise}
use Rattle.server_state.proofs.Searched.{partitioned, prefix_len-from_within}
use Rattle.server_state.proofs.devices.bindings_below.Goals as goal

pub returns : goal.returns
returns c =
    let rows = c.args.bindings.now in
    let below = λ (o : Object). ltb (bound_number o.kind) c.args.device.0 in
    let parts = IsPartitionPoint-from_clause below rows c.partition_point.result
    c.partition_point.ensures.partitioned
    (partitioned (λ (o : Object). is_bound_device o.kind) (λ (o : Object). bound_number o.kind) c.args.device.0 rows
    (bindings_rise rows c.requires)) (λ a r f k. search rules) in
    prefix_len-from_within below rows c.partition_point.result c.partition_point.ensures.bound parts.0 parts.1
