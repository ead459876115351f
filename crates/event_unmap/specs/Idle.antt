-- When the tables may be counted, and given back, that no area of an address space needs once some have gone.
use Rattle.std.specs.Prelude.{ℕ, ◌≡◌, ◌≤◌, false, Option, List, length}
use Rattle.std.specs.List.{list_any}
use Rattle.iofd_words.specs.Bounds.{Bounds}
use Rattle.iofd_words.specs.declared.numbers.FileNo.{FileNo}
use Rattle.iofd_words.specs.declared.numbers.ObjId.{ObjId}
use Rattle.iofd_words.specs.declared.rows.Area.{Area}
use Rattle.iofd_words.specs.declared.rows.Object.{Object}
use Rattle.iofd_words.specs.declared.rows.TableFrame.{TableFrame}
use Rattle.frame_memory.specs.Pool.{FramePool}
use Rattle.page_table_set.specs.Idle.{AllCanLeave, CanShed, is_idle_in}
use Rattle.page_table_set.specs.OverSpans.{hwpts_over}
use Rattle.page_table_set.specs.PageTables.{AllStand, Hwpt, Stand}
use Rattle.page_table_words.specs.Rows.{MappedPage}

-- page tables stand, the areas lie below the end of each one over the address space, and the span cuts none
pub record CanCount (pool : FramePool) (tables : List Hwpt) (file : FileNo) (ioas : ObjId) (areas : List Area)
    (span : Bounds) : Type 0 where
  pub stand : Stand pool tables
  pub leave : AllCanLeave file ioas areas span tables
  pub few : length (hwpts_over file ioas tables) ≤ 65535

-- in whatever way they stand in which no table is idle before, this holds
abbrev pub IfNeeded : FramePool → List Hwpt → FileNo → ObjId → List Area → (List TableFrame → Type 0) → Type 0
IfNeeded pool tables file ioas areas P =
    (frames : List TableFrame) (leads : Object → ℕ → Option MappedPage) → AllStand pool frames leads tables
    → list_any (is_idle_in file ioas areas tables) frames ≡ false → P frames

-- they may be given back, and there is room for their frames
pub record CanGive (pool : FramePool) (tables : List Hwpt) (file : FileNo) (ioas : ObjId) (areas : List Area)
    (span : Bounds) (room : ℕ) : Type 0 where
  pub shed : CanShed pool tables file ioas areas span room
  pub leave : AllCanLeave file ioas areas span tables
