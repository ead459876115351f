use Rattle.std.proofs.Common.{List, refl, ap, arith}
use Rattle.iofd_words.specs.declared.rows.Area.{Area}
use Rattle.area_map_rows.specs.Areas.{tried}
use Rattle.area_map_rows.specs.Rows.{in_rows}
use Rattle.area_map.proofs.Hull.{span_tried}
use Rattle.area_map_rows.proofs.Rows.{in_rows-map_map}
use Rattle.area_map.proofs.Joined.{few_rows}
use Rattle.area_map.proofs.RowsInBlocks.{blocks_mapped}
use Rattle.area_map.proofs.RowsKept.{rows_mapped, mapped_back}
use Rattle.area_map.proofs.areas.Areas.set_tries.Goals as goal

pub invariant_of-self : goal.invariant_of-self
invariant_of-self g c =
    let f = tried c.args.span c.args.tries in
    let rows : List (List Area) = c.self.inside.rows.items in
    let written = mapped_back f rows c.change.new.rows c.self.inside.rows.len
    (rw c.deref_mut.ensures.value at c.change.ensures) (omega arith) in (
      rw written (rows_mapped f (λ a. refl) rows c.self.inside.count c.self.inside.leaving c.self.inside.leaving
          c.self.invariant.0 (span_tried c.args.span c.args.tries c.self.inside.leaving (in_rows rows)
          c.self.invariant.0.leave)),
      c.self.invariant.1,
      rw written (blocks_mapped f (λ a. refl) c.self.inside.blocks rows c.self.invariant.2),
      c.self.invariant.3,
    )

pub returns-clause-areas : goal.returns-clause-areas
returns-clause-areas g c =
    let f = tried c.args.span c.args.tries in
    let rows : List (List Area) = c.self.inside.rows.items in
    let written = mapped_back f rows c.change.new.rows c.self.inside.rows.len
    (rw c.deref_mut.ensures.value at c.change.ensures) (omega arith) in
    rw (written, ← c.self.view_is) (in_rows-map_map f rows)

pub change-requires-clause-apart : goal.change-requires-clause-apart
change-requires-clause-apart g c = rw c.deref_mut.ensures.value c.self.invariant.0.kept.apart

pub change-requires-clause-rows : goal.change-requires-clause-rows
change-requires-clause-rows g c = rw c.deref_mut.ensures.value c.self.invariant.0.each

pub returns-clause-room : goal.returns-clause-room
returns-clause-room g c = ap (λ table. table.room) c.self.view_is

pub returns-clause-leaving : goal.returns-clause-leaving
returns-clause-leaving g c = (invariant_of-self g c).0.leave

pub returns-clause-rows : goal.returns-clause-rows
returns-clause-rows g c = few_rows _ (invariant_of-self g c).0.joined
