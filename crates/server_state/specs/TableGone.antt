-- A page table goes: of the objects, of the page tables and of the pool, where its tables had their frames.
use Rattle.std.specs.Prelude.{◌≡◌, ℕ, Bool, Some, List}
use Rattle.frame_memory.specs.Pool.{FramePool}
use Rattle.page_table_set.specs.PageTables.{AllStand, IfAllStand, PageTables, hwpt_of}
use Rattle.page_table_set.specs.Removed.{rows_found, without_hwpt, without_tables}
use Rattle.iofd_words.specs.Objects.{kind_of, without_object}
use Rattle.iofd_words.specs.World.{World}
use Rattle.iofd_words.specs.declared.numbers.FileNo.{FileNo}
use Rattle.iofd_words.specs.declared.numbers.ObjId.{ObjId}
use Rattle.iofd_words.specs.declared.rows.Area.{Area}
use Rattle.iofd_words.specs.declared.rows.Attachment.{Attachment}
use Rattle.iofd_words.specs.declared.rows.ObjectKind.TheVariants.{Hwpt}
use Rattle.iofd_words.specs.declared.width.Width.{Width}
use Rattle.user_memory_rows.specs.Moves.{IsReleased, MayRelease}
use Rattle.object_table.specs.Table.{Table}
use Rattle.server_state.specs.Mapping.{untranslated_pins}
use Rattle.server_state.specs.Shows.{ObjectsShown}
use Rattle.server_state.specs.Step.{IsTidy}
use Rattle.server_state.specs.Users.{devices_on}
use Rattle.server_state.specs.declared.held.Held.{Held}
use Rattle.server_state.specs.declared.state.State.{State}
use Rattle.page_table_words.specs.Released.{Releases}
use Rattle.user_memory.specs.Changes.{never}

-- the file's page table of this id, over this address space, is gone: so much is left of the objects, the page tables
-- and the pool
pub record IsTableGone {A : Type 0} (file : FileNo) (hwpt ioas : ObjId) (old : State A) (table : Table (Held A))
    (tables : PageTables) (pool : FramePool) : Type 0 where
  -- where no device translates by it, the objects of a world of a run are shown without it
  pub objects : (at : ℕ) (w : World) (attachments : List Attachment) (areas : List Area) (width : Width)
      (automatic : Bool) → IsTidy at w
      → ObjectsShown w.settings w.closed w.objects attachments areas old.objects
      → kind_of w.objects file hwpt ≡ Some (Hwpt ioas width automatic) → devices_on attachments file hwpt ≡ 0
      → ObjectsShown w.settings w.closed (without_object file hwpt w.objects) attachments areas table
  pub kept : tables.tables ≡ without_hwpt file hwpt old.page_tables.tables
  pub stand : IfAllStand old.pool old.page_tables.tables (λ frames leads.
      AllStand pool (without_tables file hwpt frames) leads tables.tables)
  -- the frames of its tables are given back
  pub released : IfAllStand old.pool old.page_tables.tables (λ frames leads.
      Releases (rows_found frames (hwpt_of old.page_tables.tables file hwpt)) old.pool pool)

module _ {A : Type 0} (file : FileNo) (hwpt ioas : ObjId) where
  -- then a pin of each area may go that no page table translates any more
  abbrev pub MayLoseTable : State A → Type 0
  MayLoseTable old = (table : Table (Held A)) (tables : PageTables) (pool : FramePool)
      → IsTableGone file hwpt ioas old table tables pool
      → MayRelease never (untranslated_pins tables table file ioas) old.memory pool.holds

  -- it has gone, and then these pins; nothing else has changed
  pub record HasLostTable (old new : State A) : Type 0 where
    pub between : FramePool
    pub gone : IsTableGone file hwpt ioas old new.objects new.page_tables between
    pub pins : IsReleased never (untranslated_pins new.page_tables new.objects file ioas)
        old.memory new.memory between new.pool
    pub others : new ≡ record old {
      objects = new.objects;
      page_tables = new.page_tables;
      memory = new.memory;
      pool = new.pool;
    }
