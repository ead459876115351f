use Rattle.std.proofs.Common.{ℕ, ◌≤◌, subst}
use Rattle.object_table.specs.Table.{greatest_count}
use Rattle.object_table.proofs.table.ObjectTable.facts.Goals as goal

pub returns : goal.returns
returns g c = subst (λ (n : ℕ). n ≤ greatest_count) c.count.ensures.count c.count.ensures.few
