use Rattle.area_map.proofs.insertion.add.Goals as goal

pub returns-clause-blocks : goal.returns-clause-blocks
returns-clause-blocks g c =
    (rw c.deref-2.ensures.value at c.renew.ensures.blocks) c.args.rows.now.items c.requires.blocks
    c.add_area-to.ensures.others
