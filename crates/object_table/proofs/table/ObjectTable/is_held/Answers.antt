use Rattle.std.proofs.Common.{◌<◌, length, arith, sym, ◌∙◌}
use Rattle.object_table.proofs.Tables.{outside_is_held, is_held-inside, is_held-closed}
use Rattle.object_table.proofs.table.ObjectTable.is_held.Goals as goal

pub returns-then-objects : goal.returns-then-objects
returns-then-objects g c =
    let files = c.self.inside.files in
    let place = c.in-Some.ensures in
    let within : c.in-Some.place < length files.items = omega (arith, files.ok.0, c.len.ensures, place.1) in
    rw (← c.self.view_is) (c.is_held.ensures
    ∙ sym (is_held-inside files.items c.args.file c.in-Some.place c.index-objects.result.now place.0 within
    c.index-objects.ensures g.V.Typed.kind c.if-objects.true))

pub returns-else-objects : goal.returns-else-objects
returns-else-objects g c =
    let files = c.self.inside.files in
    let place = c.in-Some.ensures in
    let within : c.in-Some.place < length files.items = omega (arith, files.ok.0, c.len.ensures, place.1) in
    rw (← c.self.view_is) (c.if-objects.false
    ∙ sym (is_held-closed files.items c.args.file c.in-Some.place c.index-objects.result.now place.0 within
    c.index-objects.ensures g.V.Typed.kind c.if-objects.false))

pub returns-in-None : goal.returns-in-None
returns-in-None g c =
    let files = c.self.inside.files in
    rw (← c.self.view_is) (sym (outside_is_held files.items c.args.file g.V.Typed.kind
    (λ place is. omega (arith, files.ok.0, c.len.ensures, c.in-None.ensures place is))))
