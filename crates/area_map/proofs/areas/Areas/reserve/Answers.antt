use Rattle.std.proofs.Common.{length, refl, ap}
use Rattle.std.proofs.lemmas.Result.{on_ok_weaker, on_err_weaker}
use Rattle.area_map_rows.specs.Rows.{in_rows}
use Rattle.area_map.specs.Kept.{room_of}
use Rattle.area_map.proofs.Room.{room-some, room-grows, table-same}
use Rattle.area_map.proofs.areas.Areas.reserve.Goals as goal

pub reserve-requires-clause-spare : goal.reserve-requires-clause-spare
reserve-requires-clause-spare g c = c.self.invariant.1

pub reserve-requires-clause-blocks : goal.reserve-requires-clause-blocks
reserve-requires-clause-blocks g c = c.self.invariant.2

pub reserve-requires-clause-places : goal.reserve-requires-clause-places
reserve-requires-clause-places g c = c.self.invariant.3

pub invariant_of-self : goal.invariant_of-self
invariant_of-self g c = (
  rw c.reserve.ensures.rows c.self.invariant.0,
  c.reserve.ensures.spare,
  rw c.reserve.ensures.rows c.reserve.ensures.blocks,
  c.reserve.ensures.places,
)

pub returns-clause-areas : goal.returns-clause-areas
returns-clause-areas g c = rw (c.reserve.ensures.rows, ← c.self.view_is) refl

pub returns-clause-ok : goal.returns-clause-ok
returns-clause-ok g c = on_ok_weaker c.reserve.result (room-some c.reserve.new.spare) c.reserve.ensures.ok

pub returns-clause-full : goal.returns-clause-full
returns-clause-full g c =
    on_err_weaker c.reserve.result (λ none. rw (← c.self.view_is) (ap room_of none)) c.reserve.ensures.err

pub returns-clause-room : goal.returns-clause-room
returns-clause-room g c =
    rw (← c.self.view_is) (room-grows c.reserve.result c.self.inside.spare c.reserve.new.spare c.reserve.ensures.ok
    c.reserve.ensures.err)

pub returns-clause-unchanged : goal.returns-clause-unchanged
returns-clause-unchanged g c =
    rw (← c.self.view_is) (table-same c.reserve.result (in_rows c.self.inside.rows.items)
    (in_rows c.reserve.new.rows.items) c.self.inside.spare c.reserve.new.spare c.self.inside.leaving (length
    c.reserve.new.rows.items)
    (length c.self.inside.rows.items) (ap in_rows c.reserve.ensures.rows) (ap length c.reserve.ensures.rows)
    c.reserve.ensures.err c.reserve.ensures.unchanged)

pub returns-clause-leaving : goal.returns-clause-leaving
returns-clause-leaving g c = rw (← c.self.view_is) refl

pub returns-clause-rows : goal.returns-clause-rows
returns-clause-rows g c = rw (c.reserve.ensures.rows, ← c.self.view_is) refl
