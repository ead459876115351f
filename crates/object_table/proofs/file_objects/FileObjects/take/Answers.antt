use Rattle.std.proofs.Common.{refl}
use Rattle.object_table.proofs.FileRows.{there, file_rows-emptied}
use Rattle.object_table.proofs.file_objects.FileObjects.take.Goals as goal

pub returns-clause-rows : goal.returns-clause-rows
returns-clause-rows g c = λ number.
    file_rows-emptied number c.args.id c.args.self.now (record c.args.self.now { objects = c.remove.new.self }) refl
    (there c.args.self.now c.args.id c.requires).positive c.remove.ensures.slots
