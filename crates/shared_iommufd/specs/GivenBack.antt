-- What comes back where a server gives no core.
use Rattle.std.specs.Prelude.{◌≡◌, List}
use Rattle.std.specs.Arc.{arc_value}
use Rattle.iofd_words.specs.declared.event.Act.{Act}
use Rattle.iommufd_core.specs.declared.apply.Stamp.{Stamp}
use Rattle.lane_lock.specs.Ending.{IsNotAll}
use Rattle.shared_iommufd.specs.Ends.{Ends}
use Rattle.guarded_core.specs.Passes.{CoreGhosts, CorePass}
use Rattle.shared_iommufd.specs.declared.error.CloseError.{CloseError}
use Rattle.shared_iommufd.specs.declared.error.CloseError.TheVariants as refusal
use Rattle.guarded_core.specs.declared.kept_core.Entry.{Entry}
use Rattle.shared_iommufd.specs.declared.server.Server.{Server}

-- server and passes come back, since a pass is missing; or a share of the core, as it is at the end
abbrev pub GivesBack : {A : Type 0} {g : CoreGhosts A} → Server A → List (CorePass A g)
    → CloseError A (Act A) Stamp (Entry A) g → Type 0
GivesBack server passes (refusal.NotAll back all) =
    (back.lock ≡ server.lock) × (all.items ≡ passes) × IsNotAll server.lock passes
GivesBack server passes (refusal.Shared share) = Ends server.lock passes (arc_value share).core.history
