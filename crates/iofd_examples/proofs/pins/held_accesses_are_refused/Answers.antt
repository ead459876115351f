use Rattle.std.proofs.Common.{refl}
use Rattle.iofd_refusals.specs.Checks.{access_attach_checks, access_detach_checks, access_unpin_checks}
use Rattle.iofd_refusals.specs.Checks.{access_write_checks, map_checks}
use Rattle.iofd_examples.proofs.pins.held_accesses_are_refused.Goals as goal

pub returns-clause-all_writes : goal.returns-clause-all_writes
unfolding access_write_checks
returns-clause-all_writes c = refl

pub returns-clause-first_writes : goal.returns-clause-first_writes
unfolding access_write_checks
returns-clause-first_writes c = refl

pub returns-clause-all_for_reads : goal.returns-clause-all_for_reads
unfolding access_write_checks
returns-clause-all_for_reads c = refl

pub returns-clause-first_for_reads : goal.returns-clause-first_for_reads
unfolding access_write_checks
returns-clause-first_for_reads c = refl

pub returns-clause-reads : goal.returns-clause-reads
unfolding access_write_checks
returns-clause-reads c = refl

pub returns-clause-reads_left : goal.returns-clause-reads_left
unfolding access_write_checks
returns-clause-reads_left c = refl

pub returns-clause-all_leaving : goal.returns-clause-all_leaving
unfolding access_attach_checks access_detach_checks access_unpin_checks access_write_checks map_checks
returns-clause-all_leaving c = refl

pub returns-clause-all_others_leaving : goal.returns-clause-all_others_leaving
unfolding access_detach_checks
returns-clause-all_others_leaving c = refl

pub returns-clause-reads_leaving : goal.returns-clause-reads_leaving
unfolding access_write_checks
returns-clause-reads_leaving c = refl
