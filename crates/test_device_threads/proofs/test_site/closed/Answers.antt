use Rattle.test_device_threads.proofs.test_site.closed.Goals as goal

pub close-requires : goal.close-requires
close-requires c = λ i pass at. (c.requires i pass at).owned
