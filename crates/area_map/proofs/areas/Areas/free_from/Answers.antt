use Rattle.area_map.proofs.areas.Areas.free_from.Goals as goal

pub free_from-requires-clause-some : goal.free_from-requires-clause-some
free_from-requires-clause-some g c = c.requires

pub free_from-requires-clause-apart : goal.free_from-requires-clause-apart
free_from-requires-clause-apart g c = rw c.deref.ensures.value c.self.invariant.0.kept.apart

pub free_from-requires-clause-rows : goal.free_from-requires-clause-rows
free_from-requires-clause-rows g c = rw c.deref.ensures.value c.self.invariant.0.each

pub free_from-requires-clause-blocks : goal.free_from-requires-clause-blocks
free_from-requires-clause-blocks g c = rw (c.all.ensures, c.deref.ensures.value) c.self.invariant.2

pub returns-clause-first : goal.returns-clause-first
returns-clause-first g c = rw (← c.self.view_is) (rw c.deref.ensures.value at c.free_from.ensures)

pub returns-clause-kept : goal.returns-clause-kept
returns-clause-kept g c = rw (← c.self.view_is) c.self.invariant.0.kept
