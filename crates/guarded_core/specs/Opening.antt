-- How a server begins.
use Rattle.iommufd_core.specs.History.{History}
use Rattle.lane_lock.specs.declared.lock.LaneLock.{LaneLock}
use Rattle.guarded_core.specs.declared.kept_core.KeptCore.{KeptCore}

-- the history of the core with which the lock was made
abbrev pub opened_with : {A S T E : Type 0} → LaneLock (KeptCore A) S T E → History A
opened_with lock = lock.table.shared.key.value.value.core.history
