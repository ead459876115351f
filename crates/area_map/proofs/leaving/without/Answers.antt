use Rattle.std.proofs.Common.{◌≡◌, ◌∙◌, ◌<◌, arith, not, sym, Bool, Some, None}
use Rattle.iofd_words.specs.Span.{lies_in}
use Rattle.iofd_words.specs.declared.rows.Area.{Area}
use Rattle.area_map_rows.specs.Areas.{areas_outside}
use Rattle.area_map_rows.specs.Rows.{LeaveIn}
use Rattle.area_map.specs.Kept.{leaving_span}
use Rattle.area_map.proofs.Hull.{leave-filter, leave-gone, leave_in, none_leaving}
use Rattle.area_map.proofs.HullEnds.{hull_stays}
use Rattle.area_map.proofs.leaving.without.Goals as goal

pub returns-in_err-hull : goal.returns-in_err-hull
returns-in_err-hull g c =
    let left = c.requires.left in
    let outside : Area → Bool = λ a. not (lies_in a.span c.args.gone) in
    let none = leave-filter outside None left.before
    (rw c.in_err-hull.was at (leave_in c.args.hull left.before left.hull_is)) in
    rw (left.left_is, c.from_residual.ensures) (sym (none_leaving (areas_outside c.args.gone left.before) None none))

pub returns-then-lies_in : goal.returns-then-lies_in
returns-then-lies_in g c =
    let left = c.requires.left in
    let leave = rw c.in_ok-hull.was at (leave_in c.args.hull left.before left.hull_is) in
    rw left.left_is (sym (none_leaving (areas_outside c.args.gone left.before) None
    (leave-gone c.in_ok-hull.hull c.args.gone left.before (sym c.if-lies_in.ensures) leave)))

pub returns-then-last : goal.returns-then-last
returns-then-last g c =
    let left = c.requires.left in
    let h = c.in_ok-hull.hull in
    let is : leaving_span left.before ≡ Some h = sym left.hull_is ∙ c.in_ok-hull.was in
    let front : h.first < c.args.gone.first =
    omega (arith, c.if-first.true, c.first.ensures.value, c.first-2.ensures.value) in
    let back : c.args.gone.last < h.last =
    omega (arith, c.if-last.true, c.last.ensures.value, c.last-then-first.ensures.value) in
    rw left.left_is (sym (hull_stays h c.args.gone left.before left.apart is front back))

pub ends_in-requires-clause-lie : goal.ends_in-requires-clause-lie
ends_in-requires-clause-lie g c =
    let left = c.requires.left in
    let outside : Area → Bool = λ a. not (lies_in a.span c.args.gone) in
    let leave : LeaveIn (Some c.in_ok-hull.hull) left.before =
    rw c.in_ok-hull.was at (leave_in c.args.hull left.before left.hull_is) in
    rw left.left_is (leave-filter outside (Some c.in_ok-hull.hull) left.before leave)
