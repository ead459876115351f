use Rattle.std.proofs.Common.{sym, subst}
use Rattle.std.specs.Arc.{arc_value}
use Rattle.iofd_steps.specs.Run.{IsRun}
use Rattle.iommufd_core.specs.Server.{Server as CoreServer}
use Rattle.lane_lock.specs.Ending.{EndsWith, GivesAllBack}
use Rattle.lane_lock.specs.Passes.{OwnsAll}
use Rattle.guarded_core.specs.Entries.{told}
use Rattle.guarded_core.specs.Passes.{CoreLock}
use Rattle.guarded_core.specs.declared.kept_core.KeptCore.{KeptCore}
use Rattle.shared_iommufd.specs.Ends.{Ends}
use Rattle.shared_iommufd.proofs.Ended.{ends}
use Rattle.shared_iommufd.proofs.server.Server.close.Goals as goal

pub close-requires : goal.close-requires
close-requires g c =
    subst (λ (lock : CoreLock _). OwnsAll lock c.args.passes.items) (sym c.into_parts-lock.ensures.lock) c.requires

pub returns-in-Ok-clause-ends : goal.returns-in-Ok-clause-ends
returns-in-Ok-clause-ends g c =
    let server = c.args.self in
    let passes = c.args.passes.items in
    let h = c.in-Ok.kept.core.history in
    let e = subst (λ (lock : CoreLock _). EndsWith lock passes (told h)) c.into_parts-lock.ensures.lock
    c.in-Ok.ensures.ends in
    subst (λ (core : CoreServer _). Ends server.lock passes core.history) (sym c.into_core.ensures)
    (ends server.lock passes h server.fresh server.counted c.core-core.ensures.run e.opened e.all e.each e.foreign)

pub returns-in-Err-Shared-clause-refused : goal.returns-in-Err-Shared-clause-refused
returns-in-Err-Shared-clause-refused g c =
    let server = c.args.self in
    let passes = c.args.passes.items in
    let h = (arc_value c.in-Err-Shared.share).core.history in
    let all = subst (GivesAllBack _ passes) c.in-Err-Shared.field-0-is c.in-Err-Shared.ensures.refused in
    let e = subst (λ (lock : CoreLock _). EndsWith lock passes (told h)) c.into_parts-lock.ensures.lock all in
    ends server.lock passes h server.fresh server.counted
    (subst (λ (k : KeptCore _). IsRun k.core.history.settings k.core.history.records) c.deref.ensures
    c.core-core-in-Err-Shared.ensures.run) e.opened e.all e.each e.foreign
