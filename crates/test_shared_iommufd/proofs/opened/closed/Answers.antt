use Rattle.test_shared_iommufd.proofs.opened.closed.Goals as goal

pub close-requires : goal.close-requires
close-requires c = λ i p at. (c.requires i p at).owned
