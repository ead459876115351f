use Rattle.std.proofs.Common.{◌≡◌, ◌∙◌, true, ap, sym, subst}
use Rattle.memory_objects.specs.Objects.{ObjectTable, object_at, passes}
use Rattle.memory_objects.specs.Runs.{lies_within, run_is_there}
use Rattle.memory_objects.proofs.objects.MemoryObjects.has_run.Goals as goal

pub has_run-requires-clause-rising : goal.has_run-requires-clause-rising
has_run-requires-clause-rising g c = rw c.deref.ensures.value c.self.invariant.rising

pub has_run-requires-clause-lies : goal.has_run-requires-clause-lies
has_run-requires-clause-lies g c =
    let L : ObjectTable → Type 0 = λ v. lies_within c.args.run (object_at v.objects c.args.run.number) ≡ true in
    rw c.deref.ensures.value (subst L (sym c.self.view_is) c.requires)

pub returns : goal.returns
returns g c =
    (rw c.deref.ensures.value at c.has_run.ensures)
    ∙ ap (λ (v : ObjectTable). passes (run_is_there c.args.users.now.pages c.args.run)
    (object_at v.objects c.args.run.number)) c.self.view_is
