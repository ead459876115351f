use Rattle.std.proofs.Common.{◌≡◌, ◌≤◌, ◌+◌, ◌==◌, drop}
use Rattle.std.specs.List.{count_by}
use Rattle.journal_audit_world.proofs.objects.count_of.Given as goal

-- those that are counted, and those that are left
abbrev pub invariant-loop-object : goal.invariant-loop-object
invariant-loop-object l = record {
  few : l.count ≤ l.object-index;
  all : l.count + count_by (λ o. o.file.0 == l.file.0) (drop l.object-index l.objects)
      ≡ count_by (λ o. o.file.0 == l.file.0) l.objects;
}
