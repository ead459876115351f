use Rattle.std.proofs.Common.{leb, rules}
use Rattle.std.proofs.lemmas.List.Sorted.{IsPartitionPoint-from_clause, IsPartitionedBy-leb}
use Rattle.page_table_set.specs.PageTables.{Hwpt}
use Rattle.page_table_set.proofs.ByFile.{file_of, never_fall, prefix_len-from_within}
use Rattle.page_table_set.proofs.lookups.count_until.Goals as goal

pub returns-clause-value : goal.returns-clause-value
returns-clause-value c =
    let tables = c.args.tables.now in
    let test = λ (h : Hwpt). leb (file_of h) c.args.file.0 in
    let parts = IsPartitionPoint-from_clause test tables c.partition_point.result
    c.partition_point.ensures.partitioned
    (IsPartitionedBy-leb file_of tables c.args.file.0 (never_fall tables c.requires)) (λ a r f k. search rules) in
    prefix_len-from_within test tables c.partition_point.result c.partition_point.ensures.bound parts.0 parts.1
