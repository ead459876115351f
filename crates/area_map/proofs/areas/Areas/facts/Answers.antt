use Rattle.std.proofs.Common.{ℕ, ◌*◌, ◌+◌, ◌<◌, ◌≤◌, ◌^◌, length, subst}
use Rattle.area_map.specs.AreaTable.{AreaTable}
use Rattle.area_map.proofs.Joined.{few_rows}
use Rattle.area_map.proofs.areas.Areas.facts.Goals as goal

pub returns-clause-few : goal.returns-clause-few
returns-clause-few g c = subst (λ (n : ℕ). n < 2 ^ 64) c.len.ensures c.len.type_inv

pub returns-clause-rows : goal.returns-clause-rows
returns-clause-rows g c =
    let Few : AreaTable → Type 0 = λ v. 17 * v.rows ≤ 2 * length v.areas + 17 in
    subst Few c.self.view_is (few_rows c.self.inside.rows.items c.self.invariant.0.joined)
