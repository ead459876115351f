use Rattle.std.proofs.Common.{refl, rules}
use Rattle.iofd_steps.specs.Look.{answers_to}
use Rattle.iofd_steps.specs.Run.{IsRun}
use Rattle.server_state.specs.Choice.{IsLooked}
use Rattle.guarded_core.specs.Opening.{opened_with}
use Rattle.shared_iommufd.specs.Servers.{settings_of}
use Rattle.shared_iommufd.proofs.Shown.{answered}
use Rattle.shared_iommufd.proofs.server.Server.look.Goals as goal

pub returns-clause-answer : goal.returns-clause-answer
returns-clause-answer g c =
    let server = c.args.self.now in
    let h = c.show.ensures.shown.0.core.history in
    let k = c.show.ensures.shown.1 in
    let run : IsRun h.settings h.records = search rules in
    let looked : IsLooked (answers_to h.settings h.records c.args.query.now) c.show.result = search rules in
    answered (settings_of server) (opened_with server.lock) h c.show.new.pass c.args.query.now c.show.result refl
    server.fresh k.opened run k.seen k.legal k.home looked
