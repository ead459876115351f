-- An access object is attached to an address space, or detached from it.
use Rattle.std.specs.Prelude.{◌≡◌, ℕ, Option, if◌then◌else◌}
use Rattle.iofd_words.specs.Objects.{with_access}
use Rattle.iofd_words.specs.declared.numbers.FileNo.{FileNo}
use Rattle.iofd_words.specs.declared.numbers.ObjId.{ObjId}
use Rattle.server_state.specs.Held.{areas_at, objects_in}
use Rattle.server_state.specs.Spaces.{is_space}
use Rattle.server_state.specs.Users.{users_at}
use Rattle.server_state.specs.declared.held.Held.{Held}
use Rattle.object_table.specs.Table.{Table}

-- 1 at this address space, 0 elsewhere
abbrev pub one_at : FileNo → ObjId → FileNo → ObjId → ℕ
one_at file ioas f i = if is_space file ioas f i then 1 else 0

-- the file's access object of this id is attached to this address space now, or to none, and so many users are counted
-- with each object; all areas are as they were, and so are the other objects and the files
pub record HasAccess {A : Type 0} (file : FileNo) (id : ObjId) (attached : Option ObjId) (counts : FileNo → ObjId → ℕ)
    (old new : Table (Held A)) : Type 0 where
  pub objects : objects_in new ≡ with_access file id attached (objects_in old)
  pub areas : (f : FileNo) (i : ObjId) → areas_at new.rows f i ≡ areas_at old.rows f i
  pub files : new.files ≡ old.files
  pub users : (f : FileNo) (i : ObjId) → users_at new.rows f i ≡ counts f i
