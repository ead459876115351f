use Rattle.std.proofs.Common.{true, ltb, rules}
use Rattle.std.proofs.lemmas.List.Sorted.{IsPartitionPoint-from_clause}
use Rattle.iofd_words.specs.declared.rows.Attachment.{Attachment}
use Rattle.server_state.proofs.Searched.{attachments_rise, partitioned, prefix_len-from_within}
use Rattle.server_state.proofs.devices.attachments_below.Goals as goal

pub returns : goal.returns
returns c =
    let rows = c.args.attachments.now in
    let below = λ (a : Attachment). ltb a.device.0 c.args.device.0 in
    let parts = IsPartitionPoint-from_clause below rows c.partition_point.result
    c.partition_point.ensures.partitioned
    (partitioned (λ (a : Attachment). true) (λ (a : Attachment). a.device.0) c.args.device.0 rows
    (attachments_rise rows c.requires)) (λ a r f k. search rules) in
    prefix_len-from_within below rows c.partition_point.result c.partition_point.ensures.bound parts.0 parts.1
