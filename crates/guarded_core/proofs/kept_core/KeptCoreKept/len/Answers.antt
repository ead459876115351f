use Rattle.std.proofs.Common.{refl}
use Rattle.iofd_words.specs.contracts.record.Record.{the_row}
use Rattle.guarded_core.proofs.FewRecords.{room_for_one}
use Rattle.guarded_core.proofs.kept_core.KeptCoreKept.len.Goals as goal
use denote.Param.{copied}

pub overflow_add-result : goal.overflow_add-result
overflow_add-result g c = room_for_one (the_row (copied 0 g.row.A) g.A.Allocator) _ refl c.records.type_inv.1
