use Rattle.std.proofs.Common.{◌∙◌, sym, ap}
use Rattle.memory_objects.specs.Objects.{object_at, standing}
use Rattle.memory_objects.specs.Runs.{run_count_in}
use Rattle.memory_objects.proofs.RunOne.{lies_found}
use Rattle.memory_objects.proofs.accesses.new_in_run.Goals as goal

pub object_at-requires : goal.object_at-requires
object_at-requires g c = c.requires.rising

pub new_in_run-requires : goal.new_in_run-requires
new_in_run-requires g c =
    lies_found c.args.run (object_at (standing c.args.entries.now) c.args.run.number) c.in-Some.entry.now
    c.requires.lies (sym c.in-Some.ensures)

pub returns-in-Some : goal.returns-in-Some
returns-in-Some g c = c.new_in_run.ensures.value ∙ ap (run_count_in c.args.run) c.in-Some.ensures

pub returns-in-None : goal.returns-in-None
returns-in-None g c = ap (run_count_in c.args.run) c.in-None.ensures
