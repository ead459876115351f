use borrow.Author.Rules.{scaled_Fits}
use Rattle.std.proofs.Common.{[], length, refl}
use Rattle.std.proofs.lemmas.List.{get_or_default}
use Rattle.area_map.proofs.insertion.cut.Goals as goal

pub split-requires-clause-at : goal.split-requires-clause-at
split-requires-clause-at g c =
    rw (get_or_default c.args.rows.now c.args.index c.index-rows-index.result [] c.requires.bound) c.requires.at

pub split-requires-clause-few : goal.split-requires-clause-few
split-requires-clause-few g c =
    rw (get_or_default c.args.rows.now c.args.index c.index-rows-index.result [] c.requires.bound) c.requires.few

pub returns-clause-rows : goal.returns-clause-rows
returns-clause-rows g c =
    let same = get_or_default c.args.rows.now c.args.index c.index-rows-index.result [] c.requires.bound in
    rw (c.split.ensures.lower, same) refl

pub returns-clause-upper : goal.returns-clause-upper
returns-clause-upper g c =
    let same = get_or_default c.args.rows.now c.args.index c.index-rows-index.result [] c.requires.bound in
    rw (c.split.ensures.upper, same) refl

pub offset_bounds-rows-index : goal.offset_bounds-rows-index
offset_bounds-rows-index g c =
    scaled_Fits c.args.index (length c.args.rows.now) _ c.requires.bound c.well_formed.0.1

pub bounds-rows-index : goal.bounds-rows-index
bounds-rows-index g c = c.requires.bound
