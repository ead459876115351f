-- The lock of a shared core, and its passes.
use Rattle.iofd_words.specs.declared.event.Act.{Act}
use Rattle.iommufd_core.specs.declared.apply.Stamp.{Stamp}
use Rattle.lane_lock.specs.declared.kept.Kept as kept
use Rattle.lane_lock.specs.declared.lock.LaneLock.{LaneLock}
use Rattle.lane_lock.specs.declared.pass.Pass.{Pass}
use Rattle.guarded_core.specs.declared.kept_core.Entry.{Entry}
use Rattle.guarded_core.specs.declared.kept_core.KeptCore.{KeptCore}

abbrev pub CoreGhosts : Type 0 → Type 1
CoreGhosts A = kept.Ghosts (KeptCore A) (Act A) Stamp (Entry A)

abbrev pub CoreLock : Type 0 → Type 0
CoreLock A = LaneLock (KeptCore A) (Act A) Stamp (Entry A)

abbrev pub CorePass : (A : Type 0) → CoreGhosts A → Type 0
CorePass A g = Pass (KeptCore A) (Act A) Stamp (Entry A) g
