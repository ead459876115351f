use Rattle.test_shared_iommufd.proofs.opened.opened_with.Goals as goal

pub with_port-requires-clause-passes : goal.with_port-requires-clause-passes
with_port-requires-clause-passes g c = λ i p at.
    let pass = c.in-Ok.ensures.passes.each i p at in record { owned = pass.owned; home = pass.idle }
