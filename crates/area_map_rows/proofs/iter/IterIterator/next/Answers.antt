use Rattle.std.proofs.Common.{◌∙◌, ◌++◌, List, length, sym, ap, arith}
use Rattle.iofd_words.specs.declared.rows.Area.{Area}
use Rattle.area_map_rows.specs.Rows.{in_rows, up_to}
use Rattle.area_map_rows.proofs.RowsWithin.{up_to_none}
use Rattle.area_map_rows.proofs.iter.IterIterator.next.Goals as goal

pub split_first-requires : goal.split_first-requires
split_first-requires g c = c.self.invariant

pub returns-in_err-area-clause-steps : goal.returns-in_err-area-clause-steps
returns-in_err-area-clause-steps g c =
    let last = c.self.inside.last in
    let none = sym c.self.view_is ∙ ap (up_to last) c.in_err-area.ensures.parts ∙ up_to_none last in
    rw c.from_residual.ensures (none, none)

pub returns-in_err-area-clause-goes : goal.returns-in_err-area-clause-goes
returns-in_err-area-clause-goes g c =
    rw c.from_residual.ensures record { on = λ finite. tt; keeps = tt; rests = λ finite. tt }

pub returns-then-is_past-clause-steps : goal.returns-then-is_past-clause-steps
returns-then-is_past-clause-steps g c =
    let rest : List Area = c.in_ok-area.row.now ++ in_rows c.in_ok-area.rows.now in
    let none = sym c.self.view_is ∙ ap (up_to c.self.inside.last) c.in_ok-area.ensures.parts
    ∙ c.if-is_past.ensures rest in
    (none, none)

pub returns-then-is_past-clause-goes : goal.returns-then-is_past-clause-goes
returns-then-is_past-clause-goes g c = record { on = λ finite. tt; keeps = tt; rests = λ finite. tt }

pub invariant_of-self : goal.invariant_of-self
invariant_of-self g c = c.in_ok-area.ensures.rows

pub returns-clause-steps : goal.returns-clause-steps
returns-clause-steps g c =
    let rest : List Area = c.in_ok-area.row.now ++ in_rows c.in_ok-area.rows.now in
    sym c.self.view_is ∙ ap (up_to c.self.inside.last) c.in_ok-area.ensures.parts ∙ c.if-is_past.ensures rest

pub returns-clause-goes : goal.returns-clause-goes
returns-clause-goes g c =
    let rest : List Area = c.in_ok-area.row.now ++ in_rows c.in_ok-area.rows.now in
    let steps = sym c.self.view_is ∙ ap (up_to c.self.inside.last) c.in_ok-area.ensures.parts
    ∙ c.if-is_past.ensures rest in
    record { on = λ finite. (tt, tt, omega (arith, ap length steps)); keeps = tt; rests = λ finite. tt }
