use Rattle.iommufd_cli.proofs.Written.{both_on_err, if_ok_weaker, if_some_at, served_begun, served_text, told_fault}
use Rattle.iommufd_cli.proofs.Written.{told_status, unread_begun}
use Rattle.iommufd_cli.proofs.run.serve.Goals as goal

pub returns-in_default-clause-fault : goal.returns-in_default-clause-fault
returns-in_default-clause-fault g c =
    told_fault c.told.result c.map_err.result _ c.map_err.ensures.cases
    (both_on_err c.told.result (λ error final begun. unread_begun (g.R.Read.remaining c.args.reader.now) c.args.journal
    c.no_memory_line.result _ _ c.args.served.now error final c.no_memory_line.ensures begun)
    c.told.ensures.retried c.told.ensures.begun)

pub returns-clause-text : goal.returns-clause-text
returns-clause-text g c =
    told_status c.run_text.result c.map_err-2.result _ c.map_err-2.ensures.cases
    (if_ok_weaker c.run_text.result _ _ (λ status text. served_text (g.R.Read.remaining c.args.reader.now)
    c.args.journal c.deref.result.now c.in-Some.text.items status _ _ c.args.served.now c.served.inside.server
    c.run_text.new.server c.deref.ensures.value (if_some_at _ c.in-Some.is c.in_ok-text.ensures.bytes)
    (if_some_at _ c.in-Some.is c.in_ok-text.ensures.most) c.served.view_is text)
    c.run_text.ensures.text)

pub returns-clause-fault : goal.returns-clause-fault
returns-clause-fault g c =
    told_fault c.run_text.result c.map_err-2.result _ c.map_err-2.ensures.cases
    (both_on_err c.run_text.result (λ error final begun. served_begun (g.R.Read.remaining c.args.reader.now)
    c.args.journal c.deref.result.now c.in-Some.text.items _ _ c.args.served.now c.served.inside.server
    c.run_text.new.server error final c.deref.ensures.value (if_some_at _ c.in-Some.is c.in_ok-text.ensures.bytes)
    (if_some_at _ c.in-Some.is c.in_ok-text.ensures.most) c.served.view_is begun)
    c.run_text.ensures.retried c.run_text.ensures.begun)
