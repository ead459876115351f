use Rattle.std.proofs.Common.{◌≡◌, ◌-◌, List, length, not, arith}
use Rattle.std.proofs.Math.Nat.{le_refl}
use Rattle.iofd_words.specs.Span.{lies_in}
use Rattle.iofd_words.specs.declared.rows.Area.{Area}
use Rattle.area_map_rows.specs.Rows.{in_rows}
use Rattle.area_map_rows.proofs.Kept.{kept-filter}
use Rattle.area_map.specs.Kept.{leaving_span, room_of}
use Rattle.area_map.proofs.Joined.{few_rows}
use Rattle.area_map.proofs.RowsKept.{rows_without, spare_stays}
use Rattle.area_map.proofs.areas.Areas.remove.Goals as goal

pub without-self-inside-requires-clause-apart : goal.without-self-inside-requires-clause-apart
without-self-inside-requires-clause-apart g c =
    rw (c.deref.ensures.value, c.remove.ensures.areas)
    ((kept-filter (λ (a : Area). not (lies_in a.span c.args.span)) (in_rows c.self.inside.rows.items)
    c.self.invariant.0.kept).apart)

pub invariant_of-self : goal.invariant_of-self
invariant_of-self g c =
    let rows : List (List Area) = c.self.inside.rows.items in
    let new : List (List Area) = c.remove.new.rows.items in
    let counted = c.self.invariant.0.counted in
    let count = c.remove.ensures.count in
    let left : c.self.inside.count - c.remove.result ≡ length (in_rows new) = omega (arith, counted, count) in
    let leave : c.without-self-inside.result ≡ leaving_span (in_rows new) =
    rw c.deref.ensures.value at c.without-self-inside.ensures in (
      rows_without c.args.span rows new c.self.inside.count (c.self.inside.count - c.remove.result)
          c.self.inside.leaving c.without-self-inside.result c.self.invariant.0 c.remove.ensures.rows
          c.remove.ensures.joined c.remove.ensures.areas left leave,
      spare_stays c.self.inside.spare c.self.inside.rows.len c.remove.new.rows.len c.self.inside.rows.cap
          c.remove.new.rows.cap c.remove.ensures.len c.remove.ensures.capacity c.self.invariant.1,
      c.remove.ensures.blocks,
      omega (arith, c.remove.ensures.len, c.remove.ensures.blocks_len, c.self.invariant.3),
    )

pub remove-requires-clause-kept : goal.remove-requires-clause-kept
remove-requires-clause-kept g c = c.self.invariant.0.kept

pub remove-requires-clause-rows : goal.remove-requires-clause-rows
remove-requires-clause-rows g c = c.self.invariant.0.each

pub remove-requires-clause-joined : goal.remove-requires-clause-joined
remove-requires-clause-joined g c = c.self.invariant.0.joined

pub remove-requires-clause-blocks : goal.remove-requires-clause-blocks
remove-requires-clause-blocks g c = c.self.invariant.2

pub without-self-inside-requires-clause-rows : goal.without-self-inside-requires-clause-rows
without-self-inside-requires-clause-rows g c = rw c.deref.ensures.value c.remove.ensures.rows

pub returns-clause-areas : goal.returns-clause-areas
returns-clause-areas g c = rw (← c.self.view_is) c.remove.ensures.areas

pub returns-clause-room : goal.returns-clause-room
returns-clause-room g c = rw (← c.self.view_is) (le_refl (room_of c.self.inside.spare))

pub returns-clause-rows : goal.returns-clause-rows
returns-clause-rows g c = few_rows c.remove.new.rows.items c.remove.ensures.joined

pub without-self-inside-requires-clause-left : goal.without-self-inside-requires-clause-left
without-self-inside-requires-clause-left g c =
    record {
      before = in_rows c.self.inside.rows.items;
      apart = c.self.invariant.0.kept.apart;
      hull_is = c.self.invariant.0.leave;
      left_is = rw c.deref.ensures.value c.remove.ensures.areas;
    }
