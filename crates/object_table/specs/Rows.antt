-- What a reference to an object shows.
use Rattle.object_table.specs.declared.iter.ObjectRef.{ObjectRef}
use Rattle.object_table.specs.Table.{Row}

abbrev pub row_shown : {V : Type 0} → ObjectRef V → Row V
row_shown object = record {
  file = object.file;
  id = object.id;
  users = object.users;
  value = object.value.now;
}
