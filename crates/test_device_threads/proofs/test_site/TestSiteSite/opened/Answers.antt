use Rattle.test_device_threads.proofs.test_site.TestSiteSite.opened.Goals as goal

pub with_ports-requires-clause-passes : goal.with_ports-requires-clause-passes
with_ports-requires-clause-passes c = λ i p at.
    let pass = c.in-Ok.ensures.passes.each i p at in record { owned = pass.owned; home = pass.idle }
