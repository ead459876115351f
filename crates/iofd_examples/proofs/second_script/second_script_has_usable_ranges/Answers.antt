use Rattle.std.proofs.Common.{refl, arith}
use Rattle.iofd_examples.proofs.UsableSpans.{of_all, of_file_1, of_file_2}
use Rattle.iofd_examples.proofs.second_script.second_script_has_usable_ranges.Goals as goal

pub returns-clause-refusals : goal.returns-clause-refusals
returns-clause-refusals c = refl

pub returns-clause-file_1 : goal.returns-clause-file_1
returns-clause-file_1 c =
    record { merged = (omega arith, omega arith, (omega arith, omega arith, tt)); set = of_file_1 }

pub returns-clause-file_2 : goal.returns-clause-file_2
returns-clause-file_2 c =
    record { merged = (omega arith, omega arith, (omega arith, omega arith, tt)); set = of_file_2 }

pub returns-clause-unattached : goal.returns-clause-unattached
returns-clause-unattached c = record { merged = (omega arith, omega arith, tt); set = of_all }
