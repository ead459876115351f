-- The areas of an address space, after a page table's object came.
use Rattle.std.proofs.Common.{◌≡◌, ◌<◌, ◌+◌, ◌^◌, ℕ, Bool, true, None, List, map, refl, sym, ◌∙◌, ap}
use Rattle.iofd_rows.specs.Ids.{have_own_ids}
use Rattle.iofd_runs.proofs.OwnIds.{own_ids-with_object, unused}
use Rattle.iofd_words.specs.Areas.{areas_of}
use Rattle.iofd_words.specs.Objects.{is_fresh, with_object}
use Rattle.iofd_words.specs.World.{World}
use Rattle.iofd_words.specs.declared.numbers.FileNo.{FileNo}
use Rattle.iofd_words.specs.declared.numbers.ObjId.{ObjId}
use Rattle.iofd_words.specs.declared.rows.Object.{Object}
use Rattle.iofd_words.specs.declared.width.Width.{Width}
use Rattle.object_table.specs.Table.{Row, Table, inserted, row_at}
use Rattle.server_state.proofs.AccessSpaces.{spaces-with}
use Rattle.server_state.proofs.AreasBecome.{own_at}
use Rattle.server_state.proofs.Counted.{areas-counted, objects-counted, table_comes, users-inserted}
use Rattle.server_state.proofs.ObjectsMoved.{areas-inserted, fresh_id, objects-inserted}
use Rattle.server_state.specs.Held.{areas_at, object_of}
use Rattle.server_state.specs.Mapping.{own_areas}
use Rattle.server_state.specs.Shows.{ObjectsShown, Shows}
use Rattle.server_state.specs.Spaces.{IsOrderly}
use Rattle.server_state.specs.Step.{IsTidy}
use Rattle.server_state.specs.Users.{users_at}
use Rattle.server_state.specs.declared.held.Held.{Held}
use Rattle.server_state.specs.declared.held.Held.TheVariants as held
use Rattle.server_state.specs.declared.state.State.{State}
use Rattle.hwpt_device.proofs.SpaceCounted.{CountsOne}
use Rattle.hwpt_device.specs.Making.{made_object}

-- the row of a page table's object
abbrev pub row_of : {A : Type 0} → FileNo → ObjId → ObjId → Width → Bool → Row (Held A)
row_of file ioas id width automatic =
    record { file = file; id = id; users = 0; value = held.Hwpt ioas width automatic }

module _ {A : Type 0} (at : ℕ) (w : World) (s : State A) (tidy : IsTidy at w) (shows : Shows w s) (file : FileNo)
    (ioas id : ObjId) (width : Width) (automatic : Bool) (new : Table (Held A))
    (base : Table (Held A)) (one : CountsOne s.objects file ioas base)
    (free : row_at base file id ≡ None) (above : 0 < id.0) (below : id.0 < 2 ^ 31) where
  abbrev row : Row (Held A)
  row = row_of file ioas id width automatic

  -- a count changes no object
  objects_base : w.objects ≡ map object_of base.rows
  objects_base = shows.objects.rows ∙ sym (ap (map object_of) one.changed
      ∙ objects-counted s.objects.rows file ioas (one.of.users + 1))

  -- the id is unused
  pub fresh_there : is_fresh w.objects file id ≡ true
  fresh_there = ap (λ (objects : List Object). is_fresh objects file id) objects_base
      ∙ fresh_id base.rows file id above below free

  module _ (rows : new.rows ≡ inserted row base.rows) (files : new.files ≡ s.objects.files) where
    -- the object is there, and no area changes
    pub objects_made : ObjectsShown w.settings w.closed
        (with_object (made_object file ioas id width automatic) w.objects) w.attachments w.areas new
    objects_made = record {
      rows = ap (with_object (made_object file ioas id width automatic)) objects_base
          ∙ sym (objects-inserted row base.rows) ∙ ap (map object_of) (sym rows);
      spaces = λ f i. shows.objects.spaces f i
          ∙ sym (areas-inserted row base.rows f i refl free
          ∙ ap (λ (l : List (Row (Held A))). areas_at l f i) one.changed
          ∙ areas-counted s.objects.rows file ioas (one.of.users + 1) f i)
          ∙ ap (λ (l : List (Row (Held A))). areas_at l f i) (sym rows);
      files = λ number. rw files (shows.objects.files number);
      counted = λ f i. ap (λ (l : List (Row (Held A))). users_at l f i) rows
          ∙ users-inserted row base.rows f i refl free
          ∙ ap (λ (l : List (Row (Held A))). users_at l f i) one.changed
          ∙ table_comes w.objects w.attachments s.objects.rows shows.objects.counted file ioas id width automatic one.of
          one.found f i;
      accesses = spaces-with (made_object file ioas id width automatic) w.objects
          (unused w.objects file id fresh_there) refl shows.objects.accesses;
    }

    orderly_made : IsOrderly new
    orderly_made = record {
      ids = ap have_own_ids (sym objects_made.rows)
          ∙ own_ids-with_object (made_object file ioas id width automatic) w.objects
          (unused w.objects file id fresh_there) tidy.ids;
    }

    pub own_still : own_areas new file ioas ≡ areas_of w.areas file ioas
    own_still = own_at new file ioas orderly_made ∙ sym (objects_made.spaces file ioas)
