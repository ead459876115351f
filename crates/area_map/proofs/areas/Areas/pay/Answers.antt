use Rattle.std.proofs.Common.{◌*◌, ◌+◌, ◌≤◌, List, length, subst, sym, refl, ap, arith}
use Rattle.iofd_words.specs.declared.rows.Area.{Area}
use Rattle.area_map_rows.specs.Areas.{without_debt}
use Rattle.area_map_rows.specs.Rows.{in_rows}
use Rattle.area_map.specs.AreaTable.{AreaTable}
use Rattle.area_map.proofs.Hull.{leave_in, span_paid}
use Rattle.area_map_rows.proofs.Rows.{in_rows-map_map}
use Rattle.area_map.proofs.Joined.{few_rows}
use Rattle.area_map.proofs.RowsInBlocks.{blocks_mapped}
use Rattle.area_map.proofs.RowsKept.{rows_mapped, mapped_back, live_all}
use Rattle.area_map.proofs.areas.Areas.pay.Goals as goal

pub invariant_of-self : goal.invariant_of-self
invariant_of-self g c =
    let f = without_debt c.args.device in
    let rows : List (List Area) = c.self.inside.rows.items in
    let written = mapped_back f rows c.change.new.rows c.self.inside.rows.len
    (rw c.deref_mut.ensures.value at c.change.ensures) (omega arith) in (
      rw written (rows_mapped f (λ a. refl) rows c.self.inside.count c.self.inside.leaving c.self.inside.leaving
          c.self.invariant.0 (span_paid c.args.device c.self.inside.leaving (in_rows rows)
          c.self.invariant.0.leave)),
      c.self.invariant.1,
      rw written (blocks_mapped f (λ a. refl) c.self.inside.blocks rows c.self.invariant.2),
      c.self.invariant.3,
    )

pub returns-in-Some-clause-areas : goal.returns-in-Some-clause-areas
returns-in-Some-clause-areas g c =
    let f = without_debt c.args.device in
    let rows : List (List Area) = c.self.inside.rows.items in
    let written = mapped_back f rows c.change.new.rows c.self.inside.rows.len
    (rw c.deref_mut.ensures.value at c.change.ensures) (omega arith) in
    rw (written, ← c.self.view_is) (in_rows-map_map f rows)

pub returns-in_default-clause-areas : goal.returns-in_default-clause-areas
returns-in_default-clause-areas g c =
    rw (← c.self.view_is) (sym (live_all c.args.device (in_rows c.self.inside.rows.items)
    (rw c.in_default.is at (leave_in c.self.inside.leaving (in_rows c.self.inside.rows.items)
    c.self.invariant.0.leave))))

pub change-requires-clause-apart : goal.change-requires-clause-apart
change-requires-clause-apart g c = rw c.deref_mut.ensures.value c.self.invariant.0.kept.apart

pub change-requires-clause-rows : goal.change-requires-clause-rows
change-requires-clause-rows g c = rw c.deref_mut.ensures.value c.self.invariant.0.each

pub returns-in-Some-clause-room : goal.returns-in-Some-clause-room
returns-in-Some-clause-room g c = ap (λ table. table.room) c.self.view_is

pub returns-in_default-clause-room : goal.returns-in_default-clause-room
returns-in_default-clause-room g c = refl

pub change-requires-clause-lie : goal.change-requires-clause-lie
change-requires-clause-lie g c =
    rw (c.deref_mut.ensures.value, ← c.in-Some.is) (leave_in c.self.inside.leaving (in_rows c.self.inside.rows.items)
    c.self.invariant.0.leave)

pub returns-in-Some-clause-leaving : goal.returns-in-Some-clause-leaving
returns-in-Some-clause-leaving g c = (invariant_of-self g c).0.leave

pub returns-in-Some-clause-rows : goal.returns-in-Some-clause-rows
returns-in-Some-clause-rows g c = few_rows _ (invariant_of-self g c).0.joined

pub returns-in_default-clause-rows : goal.returns-in_default-clause-rows
returns-in_default-clause-rows g c =
    let Few : AreaTable → Type 0 = λ v. 17 * v.rows ≤ 2 * length v.areas + 17 in
    subst Few c.self.view_is (few_rows c.self.inside.rows.items c.self.invariant.0.joined)
