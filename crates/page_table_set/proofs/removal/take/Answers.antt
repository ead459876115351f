use Rattle.std.proofs.Common.{sym, ◌∙◌}
use Rattle.page_table_set.proofs.OwnIds.{none_found}
use Rattle.page_table_set.proofs.TakenOut.{left_is, none_there, taken_is}
use Rattle.page_table_set.proofs.removal.take.Goals as goal

pub returns-in_err-place-clause-taken : goal.returns-in_err-place-clause-taken
returns-in_err-place-clause-taken g c =
    let none = none_there c.args.file c.args.id c.args.tables.now.items
    (rw (c.deref.ensures.value) at (sym c.in_err-place.ensures.value)) in
    c.from_residual.ensures ∙ sym none

pub returns-in_err-place-clause-left : goal.returns-in_err-place-clause-left
returns-in_err-place-clause-left g c =
    let none = none_there c.args.file c.args.id c.args.tables.now.items
    (rw (c.deref.ensures.value) at (sym c.in_err-place.ensures.value)) in
    sym (none_found c.args.file c.args.id c.args.tables.now.items none)

pub returns-clause-taken : goal.returns-clause-taken
returns-clause-taken g c =
    taken_is c.args.file c.args.id c.args.tables.now.items c.in_ok-place.place c.remove.result
    (rw (c.deref.ensures.value) at (sym c.in_ok-place.ensures.value)) c.remove.ensures.value

pub returns-clause-left : goal.returns-clause-left
returns-clause-left g c =
    c.remove.ensures.items
    ∙ left_is c.args.file c.args.id c.args.tables.now.items c.in_ok-place.place c.remove.result
    (rw (c.deref.ensures.value) at (sym c.in_ok-place.ensures.value))
