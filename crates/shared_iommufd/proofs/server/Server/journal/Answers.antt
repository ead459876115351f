use Rattle.std.proofs.Common.{refl, rules}
use Rattle.iofd_steps.specs.Run.{IsRun}
use Rattle.guarded_core.specs.Opening.{opened_with}
use Rattle.guarded_core.specs.Told.{TellsJournal}
use Rattle.shared_iommufd.specs.Servers.{settings_of}
use Rattle.shared_iommufd.proofs.Shown.{journalled}
use Rattle.shared_iommufd.proofs.server.Server.journal.Goals as goal

pub returns-clause-journal : goal.returns-clause-journal
returns-clause-journal g c =
    let server = c.args.self.now in
    let h = c.show.ensures.shown.0.core.history in
    let k = c.show.ensures.shown.1 in
    let run : IsRun h.settings h.records = search rules in
    let tells : TellsJournal h c.show.result = search rules in
    journalled (settings_of server) (opened_with server.lock) h c.show.new.pass c.show.result refl server.fresh k.opened
    run k.seen k.legal k.home tells
