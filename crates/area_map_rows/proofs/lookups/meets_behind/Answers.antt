use Rattle.std.proofs.Common.{sym, ◌∙◌, ltb, List, ap}
use Rattle.area_map_rows.specs.Rows.{in_rows, end_of}
use Rattle.area_map_rows.proofs.Found.{meets_none, meets_some}
use Rattle.std.specs.List.{prefix_len}
use Rattle.iofd_words.specs.declared.rows.Area.{Area}
use Rattle.area_map_rows.proofs.lookups.meets_behind.Goals as goal

pub returns-in-Some : goal.returns-in-Some
returns-in-Some g c =
    let is = meets_some c.args.span (in_rows c.args.rows.now) c.in-Some.area.now c.requires.apart
    (rw c.first.ensures.value at (sym c.in-Some.ensures)) in
    rw (c.first-in-Some.ensures.value, c.last.ensures.value) (sym is)

pub returns-in-None : goal.returns-in-None
returns-in-None g c = sym (meets_none c.args.span (in_rows c.args.rows.now) c.requires.apart
    (rw c.first.ensures.value at (sym c.in-None.ensures)))

pub first_behind-requires-clause-apart : goal.first_behind-requires-clause-apart
first_behind-requires-clause-apart g c = c.requires.apart

pub first_behind-requires-clause-rows : goal.first_behind-requires-clause-rows
first_behind-requires-clause-rows g c = c.requires.rows

pub first_behind-requires-clause-below : goal.first_behind-requires-clause-below
first_behind-requires-clause-below g c =
    c.requires.below ∙ ap (λ address. prefix_len (λ (row : List Area). ltb (end_of row) address) c.args.rows.now)
    (sym c.first.ensures.value)

pub first_behind-requires-clause-bound : goal.first_behind-requires-clause-bound
first_behind-requires-clause-bound g c = c.requires.bound
