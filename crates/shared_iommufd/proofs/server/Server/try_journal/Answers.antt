use Rattle.std.proofs.Common.{refl, rules, Ok, Err, subst}
use Rattle.iofd_steps.specs.Run.{IsRun}
use Rattle.guarded_core.specs.Opening.{opened_with}
use Rattle.guarded_core.specs.Told.{TellsJournal}
use Rattle.shared_iommufd.specs.Servers.{settings_of}
use Rattle.shared_iommufd.proofs.Shown.{journalled}
use Rattle.shared_iommufd.proofs.server.Server.try_journal.Goals as goal

pub returns-in-Ok-Ok-clause-journal : goal.returns-in-Ok-Ok-clause-journal
returns-in-Ok-Ok-clause-journal g c =
    let server = c.args.self.now in
    let shown = c.in-Ok-Ok.ensures.shown in
    let h = shown.0.core.history in
    let k = shown.1 in
    let run : IsRun h.settings h.records = search rules in
    let tells : TellsJournal h c.in-Ok-Ok.field-0 = search rules in
    let told = journalled (settings_of server) (opened_with server.lock) h c.try_show.new.pass (Ok c.in-Ok-Ok.bytes)
    refl server.fresh k.opened run k.seen k.legal k.home (subst (TellsJournal h) c.in-Ok-Ok.field-0-is tells) in
    (told, c.in-Ok-Ok.ensures.met, c.in-Ok-Ok.ensures.had)

pub returns-in-Ok-Err-clause-journal : goal.returns-in-Ok-Err-clause-journal
returns-in-Ok-Err-clause-journal g c =
    let server = c.args.self.now in
    let shown = c.in-Ok-Err.ensures.shown in
    let h = shown.0.core.history in
    let k = shown.1 in
    let run : IsRun h.settings h.records = search rules in
    let tells : TellsJournal h c.in-Ok-Err.field-0 = search rules in
    let told = journalled (settings_of server) (opened_with server.lock) h c.try_show.new.pass (Err c.in-Ok-Err.failed)
    refl server.fresh k.opened run k.seen k.legal k.home (subst (TellsJournal h) c.in-Ok-Err.field-0-is tells) in
    (told, c.in-Ok-Err.ensures.met, c.in-Ok-Err.ensures.had)
