use Rattle.std.proofs.Common.{refl, rules}
use Rattle.iofd_steps.specs.Run.{IsRun}
use Rattle.guarded_core.specs.Opening.{opened_with}
use Rattle.shared_iommufd.specs.Servers.{settings_of}
use Rattle.guarded_core.specs.Told.{TellsNotices}
use Rattle.shared_iommufd.proofs.Shown.{notified}
use Rattle.shared_iommufd.proofs.server.Server.notices.Goals as goal

pub returns-clause-notices : goal.returns-clause-notices
returns-clause-notices g c =
    let server = c.args.self.now in
    let h = c.show.ensures.shown.0.core.history in
    let k = c.show.ensures.shown.1 in
    let run : IsRun h.settings h.records = search rules in
    let tells : TellsNotices h c.args.file c.args.access c.show.result = search rules in
    notified (settings_of server) (opened_with server.lock) h c.show.new.pass c.args.file c.args.access
    c.show.result refl server.fresh k.opened run k.seen k.legal k.home tells
