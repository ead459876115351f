use Rattle.test_device_threads.proofs.test_site.at_once.Goals as goal

pub returns-clause-back : goal.returns-clause-back
returns-clause-back g c = c.join.ensures.first.0

pub returns-clause-kept : goal.returns-clause-kept
returns-clause-kept g c = c.join.ensures.first.1

pub returns-clause-owned : goal.returns-clause-owned
returns-clause-owned g c = c.join.ensures.second
