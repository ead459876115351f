use Rattle.access_pins.proofs.account.passes_limit.Goals as goal

pub all_pages-all-requires-clause-met : goal.all_pages-all-requires-clause-met
all_pages-all-requires-clause-met g c = rw c.again.ensures c.requires.met

pub most_new_pages-most-requires-clause-met : goal.most_new_pages-most-requires-clause-met
most_new_pages-most-requires-clause-met g c = rw c.again-2.ensures c.requires.met

pub all_pages-all-requires-clause-lies : goal.all_pages-all-requires-clause-lies
all_pages-all-requires-clause-lies g c = rw c.again.ensures c.requires.lies

pub all_pages-all-requires-clause-few : goal.all_pages-all-requires-clause-few
all_pages-all-requires-clause-few g c = rw c.again.ensures c.requires.few

pub most_new_pages-most-requires-clause-lies : goal.most_new_pages-most-requires-clause-lies
most_new_pages-most-requires-clause-lies g c = rw c.again-2.ensures c.requires.lies

pub most_new_pages-most-requires-clause-few : goal.most_new_pages-most-requires-clause-few
most_new_pages-most-requires-clause-few g c = rw c.again-2.ensures c.requires.few

pub new_pages-count-requires-clause-met : goal.new_pages-count-requires-clause-met
new_pages-count-requires-clause-met g c = c.requires.met

pub new_pages-count-requires-clause-lies : goal.new_pages-count-requires-clause-lies
new_pages-count-requires-clause-lies g c = c.requires.lies

pub new_pages-count-requires-clause-few : goal.new_pages-count-requires-clause-few
new_pages-count-requires-clause-few g c = c.requires.few
