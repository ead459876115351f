-- What a change of one address space's areas leaves as it was.
use Rattle.std.specs.Prelude.{◌≡◌, Bool, true, false, ◌==◌, ◌&&◌, List}
use Rattle.iofd_rows.specs.Ids.{have_own_ids}
use Rattle.iofd_words.specs.declared.numbers.FileNo.{FileNo}
use Rattle.iofd_words.specs.declared.numbers.ObjId.{ObjId}
use Rattle.iofd_words.specs.declared.rows.Area.{Area}
use Rattle.server_state.specs.Held.{areas_at, areas_in, kind_in, objects_in}
use Rattle.server_state.specs.Users.{users_at}
use Rattle.server_state.specs.declared.held.Held.{Held}
use Rattle.object_table.specs.Table.{Table}

-- each object stands under an id of its own
pub record IsOrderly {A : Type 0} (table : Table (Held A)) : Type 0 where
  pub ids : have_own_ids (objects_in table) ≡ true

abbrev pub is_space : FileNo → ObjId → FileNo → ObjId → Bool
is_space file ioas f i = f.0 == file.0 && i.0 == ioas.0

-- this address space has these areas now; all other areas are as they were, and so are the objects, their users and the
-- files
pub record HasAreas {A : Type 0} (file : FileNo) (ioas : ObjId) (areas : List Area) (old new : Table (Held A)) : Type 0
  where
    pub objects : objects_in new ≡ objects_in old
    pub here : areas_at new.rows file ioas ≡ areas
    pub others : (f : FileNo) (i : ObjId) → is_space file ioas f i ≡ false
        → areas_at new.rows f i ≡ areas_at old.rows f i
    pub files : new.files ≡ old.files
    pub users : (f : FileNo) (i : ObjId) → users_at new.rows f i ≡ users_at old.rows f i

-- the same object, with these areas
pub record IsWith {A : Type 0} (areas : List Area) (old new : Held A) : Type 0 where
  pub kind : kind_in new ≡ kind_in old
  pub has : areas_in new ≡ areas
