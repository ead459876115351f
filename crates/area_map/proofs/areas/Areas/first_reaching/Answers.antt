use Rattle.area_map.proofs.areas.Areas.first_reaching.Goals as goal

pub first_reaching-requires-clause-apart : goal.first_reaching-requires-clause-apart
first_reaching-requires-clause-apart g c = rw c.deref.ensures.value c.self.invariant.0.kept.apart

pub first_reaching-requires-clause-rows : goal.first_reaching-requires-clause-rows
first_reaching-requires-clause-rows g c = rw c.deref.ensures.value c.self.invariant.0.each

pub returns-clause-area : goal.returns-clause-area
returns-clause-area g c = rw (← c.self.view_is) (rw c.deref.ensures.value at c.first_reaching.ensures)

pub returns-clause-kept : goal.returns-clause-kept
returns-clause-kept g c = rw (← c.self.view_is) c.self.invariant.0.kept
