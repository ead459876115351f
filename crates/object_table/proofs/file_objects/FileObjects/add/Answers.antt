use Rattle.std.proofs.Common.{refl}
use Rattle.object_table.proofs.FileRows.{next_is_open, file_rows-filled}
use Rattle.object_table.proofs.file_objects.FileObjects.add.Goals as goal

pub returns-clause-rows : goal.returns-clause-rows
returns-clause-rows g c = λ number.
    file_rows-filled number c.insert_reserved-key.result c.args.self.now
    (record c.args.self.now { objects = c.insert_reserved-key.new.self }) c.args.entry refl
    (next_is_open c.args.self.now c.requires).0 c.insert_reserved-key.ensures.was_vacant
    c.insert_reserved-key.ensures.updates
