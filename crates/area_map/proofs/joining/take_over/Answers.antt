use borrow.Author.Rules.{scaled_Fits}
use Rattle.std.proofs.Common.{[], length, refl}
use Rattle.std.proofs.lemmas.List.{get_or_default}
use Rattle.area_map.proofs.joining.take_over.Goals as goal

pub join-requires : goal.join-requires
join-requires g c =
    rw (get_or_default c.args.rows.now c.args.index c.index-rows-index.result [] c.requires.bound) c.requires.few

pub returns : goal.returns
returns g c =
    let same = get_or_default c.args.rows.now c.args.index c.index-rows-index.result [] c.requires.bound in
    rw (c.join.ensures, same) refl

pub offset_bounds-rows-index : goal.offset_bounds-rows-index
offset_bounds-rows-index g c =
    scaled_Fits c.args.index (length c.args.rows.now) _ c.requires.bound c.well_formed.0.1

pub bounds-rows-index : goal.bounds-rows-index
bounds-rows-index g c = c.requires.bound
