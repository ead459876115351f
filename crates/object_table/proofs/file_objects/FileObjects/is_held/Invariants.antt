use Rattle.std.proofs.Common.{◌≡◌}
use Rattle.std.specs.List.{list_any}
use Rattle.slab.specs.Slab.{entries}
use Rattle.object_table.specs.Table.{keeps_file_open}
use Rattle.object_table.proofs.file_objects.FileObjects.is_held.Given as goal

-- what is left holds the file open exactly where the whole does
abbrev pub invariant-loop-entry : goal.invariant-loop-entry
invariant-loop-entry g l =
    (goal.iterator-loop-entry g).can_next l.entry-iterator ×
    (goal.iterator-loop-entry g).is_finite l.entry-iterator ×
    (list_any (λ e. keeps_file_open (g.V.Typed.kind e.1.value)) l.entry-iterator
    ≡ list_any (λ e. keeps_file_open (g.V.Typed.kind e.1.value)) (entries l.self.objects))
