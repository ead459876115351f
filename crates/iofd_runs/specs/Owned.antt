-- Whose memory areas are over: that of the user of their file.
use Rattle.std.specs.Prelude.{◌≡◌, Bool, true, false, ◌==◌, ◌||◌, not, Some, None, List}
use Rattle.std.specs.List.{list_all}
use Rattle.iofd_words.specs.Files.{user_of}
use Rattle.iofd_words.specs.Settings.{Settings}
use Rattle.iofd_words.specs.World.{World}
use Rattle.iofd_words.specs.declared.numbers.FileNo.{FileNo}
use Rattle.iofd_words.specs.declared.rows.Area.{Area}
use Rattle.iofd_words.specs.declared.rows.MemoryObject.{MemoryObject}

-- the memory object is of the file's user
abbrev pub is_of_files_user : Settings → FileNo → MemoryObject → Bool
is_of_files_user settings file m = elim (user_of settings file) [ Some user ↦ user.0 == m.user.0 | None ↦ false ]

-- the area's memory object is of the user of the area's file
abbrev pub is_over_own : Settings → List MemoryObject → Area → Bool
is_over_own settings memory area =
    list_all (λ m. not (m.number == area.memory) || is_of_files_user settings area.file m) memory

pub record AreasOwned (w : World) : Type 0 where
  -- each area's memory object is of the user of the area's file
  pub owned : list_all (is_over_own w.settings w.memory) w.areas ≡ true
