-- What another page table over an address space asks of the memory objects under its areas.
use Rattle.std.specs.Prelude.{◌≡◌, List, [], if◌then◌else◌}
use Rattle.frame_memory.specs.Pool.{FramePool}
use Rattle.iofd_words.specs.Objects.{has_hwpt}
use Rattle.iofd_words.specs.declared.numbers.FileNo.{FileNo}
use Rattle.iofd_words.specs.declared.numbers.ObjId.{ObjId}
use Rattle.iofd_words.specs.declared.rows.Area.{Area}
use Rattle.iofd_words.specs.declared.rows.Object.{Object}
use Rattle.user_memory.specs.Changes.{SameObjects}
use Rattle.user_memory.specs.Memory.{Memory}

-- the areas that it would be the first to translate
abbrev pub newly_translated : List Object → FileNo → ObjId → List Area → List Area
newly_translated objects file ioas areas = if has_hwpt objects file ioas then [] else areas

-- nothing is seen to have changed
pub record Stays (old new : Memory) (before after : FramePool) : Type 0 where
  pub pages : new.pages ≡ old.pages
  pub limits : new.limits ≡ old.limits
  pub objects : SameObjects old new
  pub pool : after ≡ before
