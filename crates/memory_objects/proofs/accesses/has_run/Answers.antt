use Rattle.std.proofs.Common.{◌∙◌, sym, ap}
use Rattle.memory_objects.specs.Objects.{object_at, passes, standing}
use Rattle.memory_objects.specs.Runs.{run_is_there}
use Rattle.memory_objects.proofs.RunOne.{lies_found}
use Rattle.memory_objects.proofs.accesses.has_run.Goals as goal

pub object_at-requires : goal.object_at-requires
object_at-requires g c = c.requires.rising

pub has_run-requires : goal.has_run-requires
has_run-requires g c =
    lies_found c.args.run (object_at (standing c.args.entries.now) c.args.run.number) c.in-Some.entry.now
    c.requires.lies (sym c.in-Some.ensures)

pub returns-in-Some : goal.returns-in-Some
returns-in-Some g c = c.has_run.ensures ∙ ap (passes (run_is_there c.args.users.now.pages c.args.run)) c.in-Some.ensures

pub returns-in-None : goal.returns-in-None
returns-in-None g c = ap (passes (run_is_there c.args.users.now.pages c.args.run)) c.in-None.ensures
