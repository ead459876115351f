-- What a table ends as, where a `&mut` to a part of one of its objects is returned.
use Rattle.std.specs.Prelude.{ℕ, ◌-◌, Result}
use Rattle.std.specs.Borrow.{Lends, LendsIfOk, Fml, RattleType, MutBor, u32}
use Rattle.std.specs.declared.alloc.Allocator.{Ghosts}
use Rattle.slab.specs.Slab.{with_value as with_slot}
use Rattle.iofd_words.specs.declared.numbers.FileNo.{FileNo}
use Rattle.iofd_words.specs.declared.numbers.ObjId.{ObjId}
use Rattle.object_table.specs.declared.file_objects.Entry.{Entry}
use Rattle.object_table.specs.declared.file_objects.FileObjects.{FileObjects}
use Rattle.object_table.specs.contracts.file_objects.Entry as entry_row
use Rattle.object_table.specs.contracts.file_objects.FileObjects as file_row
use Rattle.object_table.specs.contracts.table.ObjectTable as table_row
use Rattle.object_table.specs.Table.{Table, changed_at, with_users, with_value}

module _ (V A : RattleType) (alloc : Ghosts A.Denot) where
  -- once the borrow r ends, the file has the last entry written through r at that id
  abbrev pub lends_slot : MutBor (FileObjects V.Denot A.Denot) → ObjId → MutBor (Entry V.Denot) → Fml
  lends_slot f id r =
      Lends (file_row.the_row V A alloc) (entry_row.the_row V) f r
      (λ entry. record f.now { objects = with_slot f.now.objects (id.0 - 1) entry })

  -- once the borrow r ends, the object has as many users as were last written through r
  abbrev pub lends_users : MutBor (Table V.Denot) → FileNo → ObjId → MutBor ℕ → Fml
  lends_users t file id r =
      Lends (table_row.the_row V A alloc) u32 t r
      (λ users. record t.now { rows = changed_at file id (with_users users) t.now.rows })

  -- once the borrow r ends, the object holds the last value written through r
  abbrev pub lends_value : MutBor (Table V.Denot) → FileNo → ObjId → MutBor V.Denot → Fml
  lends_value t file id r =
      Lends (table_row.the_row V A alloc) V t r
      (λ value. record t.now { rows = changed_at file id (with_value value) t.now.rows })

  -- the same where r is in an answer, and at an error the table stays as it was
  abbrev pub lends_get : MutBor (Table V.Denot) → FileNo → ObjId → {E : Type 0} →
      Result (MutBor V.Denot) E → Fml
  lends_get t file id r =
      LendsIfOk (table_row.the_row V A alloc) V t r
      (λ value. record t.now { rows = changed_at file id (with_value value) t.now.rows })
      t.now
