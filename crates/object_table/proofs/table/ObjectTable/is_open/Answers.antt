use Rattle.std.proofs.Common.{arith, sym}
use Rattle.std.proofs.lemmas.Grind.{common_steps}
use Rattle.object_table.proofs.Tables.{outside_is_open}
use Rattle.object_table.proofs.table.ObjectTable.is_open.Goals as goal

pub returns-in-None : goal.returns-in-None
returns-in-None g c =
    let files = c.self.inside.files in
    rw (← c.self.view_is) (sym (outside_is_open files.items c.args.file
    (λ place is. omega (arith, files.ok.0, c.len.ensures, c.in-None.ensures place is))))

pub returns-in-Some : goal.returns-in-Some
returns-in-Some g c = grind (arith, common_steps)
