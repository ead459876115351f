use Rattle.page_table.proofs.entry.Entry.write.Goals as goal

pub returns : goal.returns
returns g c = c.put.ensures c.args.level c.args.page c.index.ensures.value
