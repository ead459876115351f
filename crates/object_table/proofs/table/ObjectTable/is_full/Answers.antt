use Rattle.std.proofs.Common.{◌<◌, length, arith, sym, ◌∙◌}
use Rattle.object_table.proofs.Tables.{outside_is_full, is_full-inside}
use Rattle.object_table.proofs.table.ObjectTable.is_full.Goals as goal

pub returns-in-Some : goal.returns-in-Some
returns-in-Some g c =
    let files = c.self.inside.files in
    let place = c.in-Some.ensures in
    let within : c.in-Some.place < length files.items = omega (arith, files.ok.0, c.len.ensures, place.1) in
    rw (← c.self.view_is) (c.is_full.ensures
    ∙ sym (is_full-inside files.items c.args.file c.in-Some.place c.index.result.now place.0
    within c.index.ensures))

pub returns-in-None : goal.returns-in-None
returns-in-None g c =
    let files = c.self.inside.files in
    rw (← c.self.view_is) (sym (outside_is_full files.items c.args.file
    (λ place is. omega (arith, files.ok.0, c.len.ensures, c.in-None.ensures place is))))
