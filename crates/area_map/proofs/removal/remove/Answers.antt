use Rattle.area_map.proofs.removal.remove.Goals as goal

pub returns-clause-blocks : goal.returns-clause-blocks
returns-clause-blocks g c =
    (rw c.deref.ensures.value at c.renew.ensures.blocks) c.args.rows.now.items c.requires.blocks
    c.remove_and_join-from.ensures.others
