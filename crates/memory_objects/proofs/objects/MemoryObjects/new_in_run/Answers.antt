use Rattle.std.proofs.Common.{◌≡◌, ◌∙◌, true, ap, sym, subst}
use Rattle.memory_objects.specs.Objects.{ObjectTable, object_at}
use Rattle.memory_objects.specs.Runs.{lies_within, run_count_in}
use Rattle.memory_objects.proofs.objects.MemoryObjects.new_in_run.Goals as goal

pub new_in_run-requires-clause-rising : goal.new_in_run-requires-clause-rising
new_in_run-requires-clause-rising g c = rw c.deref.ensures.value c.self.invariant.rising

pub new_in_run-requires-clause-lies : goal.new_in_run-requires-clause-lies
new_in_run-requires-clause-lies g c =
    let L : ObjectTable → Type 0 = λ v. lies_within c.args.run (object_at v.objects c.args.run.number) ≡ true in
    rw c.deref.ensures.value (subst L (sym c.self.view_is) c.requires)

pub returns : goal.returns
returns g c =
    (rw c.deref.ensures.value at c.new_in_run.ensures)
    ∙ ap (λ (v : ObjectTable). run_count_in c.args.run (object_at v.objects c.args.run.number)) c.self.view_is
